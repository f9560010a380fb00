-- What bytes decode to, behind all of the decoder's tests: each kind of instruction by its own law (DecodeLaws).
use Rattle.std.specs.Prelude.{Option}
use mathlib.Core.Path.{refl}
use mathlib.Core.List.{List}
use Prim.Native.Nat.{ℕ, ◌^◌, ◌<◌}
use native.Mathlib.Omega.{arith}
use borrow.Author.Tests.{ltb-true, ltb-false, eqb-true}
use lib.Dec.{eqb, ltb}
use lib.ListN.{drop}
use Rattle.arith.proofs.ChoiceLaws.{if_all}
use Rattle.wire.specs.Bytes.{number}
use Rattle.block.specs.Instruction.{decode_fact, decode_parts, decode}
use Rattle.block.specs.InstructionBytes.{cell_constant, SourceKeeps, CellPartsKeep, InstrKeeps}
use Rattle.block.specs.declared.Source.{Source}
use Rattle.block.specs.declared.Source.TheVariants as source
use Rattle.block.specs.declared.Instr.{Instr}
use Rattle.block.specs.declared.Instr.TheVariants.{Stop, Throw, Set, Arg, Sender, Value, Add, Sub, Mul, Div, Get, Put, Bal, Pay, Jeq, Jlt}
use Rattle.block.proofs.DecodeLaws.{SourceFits, CellSourcesFit, InstrFits, JumpsWithin, InstrLawful, Decodes, decodes_map, Own, apart, end_own, set_own, arg_own, fact_own, arith_own, cell_own, pay_own, jump_own}

module _ (size op x y z w : ℕ) where
  abbrev D : Option Instr → Type 0
  D = Decodes (Own size op x y z w)

  pub parts_own : D (decode_parts size op x y z w)
  unfolding decode_parts
  parts_own =
      if_all D (ltb op 2) (λ e. end_own size op x y z w (ltb-true op 2 e)) λ a.
      if_all D (eqb op 2) (λ e. set_own size op x y z w (eqb-true op 2 e)) λ b.
      if_all D (eqb op 3) (λ e. arg_own size op x y z w (eqb-true op 3 e)) λ c.
      if_all D (ltb op 6)
      (λ e. if_all (λ (i : Instr). D (decode_fact x y z w i)) (eqb op 4) (λ f. fact_own size op x y z w (Sender x) 4 (eqb-true op 4 f) tt (λ r. r) refl)
      (λ f. fact_own size op x y z w (Value x) 5 (omega (arith, ltb-true, ltb-false, apart)) tt (λ r. r) refl)) λ d.
      if_all D (ltb op 10) (λ e. arith_own size op x y z w (ltb-false op 6 d) (ltb-true op 10 e)) λ e.
      if_all D (ltb op 12) (λ f. cell_own size op x y z w (ltb-false op 10 e) (ltb-true op 12 f)) λ f.
      if_all D (eqb op 12) (λ g. fact_own size op x y z w (Bal x) 12 (eqb-true op 12 g) tt (λ r. r) refl) λ g.
      if_all D (eqb op 13) (λ h. pay_own size op x y z w (eqb-true op 13 h)) λ h.
      if_all D (ltb op 16) (λ k. jump_own size op x y z w (omega (arith, ltb-false, apart)) (ltb-true op 16 k)) (λ k. tt)

-- ---- what a decoded instruction keeps to

abbrev pub OwnOf : (size : ℕ) → List ℕ → Instr → Type 0
OwnOf size s = Own size (number 1 s) (number 1 (drop 1 s)) (number 1 (drop 2 s)) (number 1 (drop 3 s)) (number 4 (drop 4 s))

pub decode_own : (size : ℕ) (s : List ℕ) → Decodes (OwnOf size s) (decode size s)
decode_own size s = parts_own size (number 1 s) (number 1 (drop 1 s)) (number 1 (drop 2 s)) (number 1 (drop 3 s)) (number 4 (drop 4 s))

source_fits : (c : ℕ) (s : Source) → c < 2 ^ 16 → SourceKeeps c s → SourceFits (2 ^ 16) s
source_fits c source.Zero h k = tt
source_fits c (source.Argument n) h k = tt
source_fits c source.Sender h k = tt
source_fits c (source.Constant n) h k = omega arith

cell_fits : (x field : ℕ) (a b : Source) → CellPartsKeep x field a b → CellSourcesFit (2 ^ 16) field a b
cell_fits x field a b k =
    record {
      above = k.named.0;
      below = k.named.1;
      first = source_fits (cell_constant a b) a k.constant k.first;
      second = source_fits (cell_constant a b) b k.constant k.second;
    }

keeps_fits : (size : ℕ) (i : Instr) → InstrKeeps size i → InstrFits (2 ^ 16) i
keeps_fits size Stop k = tt
keeps_fits size Throw k = tt
keeps_fits size (Set x value) k = k.1
keeps_fits size (Arg x n) k = tt
keeps_fits size (Sender x) k = tt
keeps_fits size (Value x) k = tt
keeps_fits size (Add x y z) k = tt
keeps_fits size (Sub x y z) k = tt
keeps_fits size (Mul x y z) k = tt
keeps_fits size (Div x y z) k = tt
keeps_fits size (Get x field a b) k = cell_fits x field a b k
keeps_fits size (Put x field a b) k = cell_fits x field a b k
keeps_fits size (Bal x) k = tt
keeps_fits size (Pay x target) k = tt
keeps_fits size (Jeq x y to) k = tt
keeps_fits size (Jlt x y to) k = tt

pub decode_lawful : (size : ℕ) (s : List ℕ) → number 4 (drop 4 s) < 2 ^ 32 → Decodes (InstrLawful (2 ^ 16) size) (decode size s)
decode_lawful size s h =
    decodes_map (OwnOf size s) (InstrLawful (2 ^ 16) size) (λ i own. (keeps_fits size i (own.1 h).0, own.0)) (decode size s) (decode_own size s)

-- Jumps need no bound on the bytes.
pub decode_within : (size : ℕ) (s : List ℕ) → Decodes (JumpsWithin size) (decode size s)
decode_within size s = decodes_map (OwnOf size s) (JumpsWithin size) (λ i own. own.0) (decode size s) (decode_own size s)
