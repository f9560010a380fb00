-- What bytes decode to, along the decoder's tests: an instruction whose own bytes they are, with its parts in range. So its jump leads within the
-- code, the field of its cell is no balance's, and the value that it sets and the numbers that a key is made of fit.
use mathlib.Core.Path.{◌≡◌, refl, sym, ap, subst, ◌∙◌}
use mathlib.Core.Bool.{Bool, true, false, ◌&&◌, ◌||◌, not}
use Prim.Native.Nat.{ℕ, ◌/◌, ◌%◌, ◌^◌, ◌≤◌, ◌<◌}
use native.Mathlib.Omega.{arith}
use borrow.Author.Tests.{leb-true, eqb-true, eqb-false, not-true}
use lib.Dec.{eqb, leb, lit<}
use lib.Signed.{mag}
use Rattle.std.specs.Prelude.{if◌then◌else◌, None, Option, Some}
use Rattle.arith.specs.Exact.{signed, unsigned}
use Rattle.arith.proofs.ChoiceLaws.{if_all, both}
use Rattle.arith.proofs.IntegerLaws.{unsigned_signed, signed_range}
use Rattle.block.specs.Instruction.{is_register, is_argument, is_source, source_of, allowed, decode_end, decode_set, decode_arg, decode_fact, decode_arith, decode_cell, decode_pay, decode_jump}
use Rattle.block.specs.InstructionBytes.{instr, source_number, constant_or, cell_constant, pay_constant, cell_bits, instruction_bytes, Register, SourceKeeps, CellPartsKeep, PayPartsKeep, InstrKeeps}
use Rattle.block.specs.declared.Source.{Source}
use Rattle.block.specs.declared.Source.TheVariants as source
use Rattle.block.specs.declared.Instr.{Instr}
use Rattle.block.specs.declared.Instr.TheVariants.{Stop, Throw, Set, Arg, Sender, Value, Add, Sub, Mul, Div, Get, Put, Bal, Pay, Jeq, Jlt}

-- ---- what is kept

-- The constant of a source lies below a bound.
abbrev pub SourceFits : ℕ → Source → Type 0
SourceFits bound source.Zero = Unit {0}
SourceFits bound (source.Argument k) = Unit {0}
SourceFits bound source.Sender = Unit {0}
SourceFits bound (source.Constant n) = n < bound

-- "field w mod 65536 (not 0), a from source y, b from source z"
pub record CellSourcesFit (bound field : ℕ) (a b : Source) : Type 0 where
  pub above : 0 < field
  pub below : field < 2 ^ 16
  pub first : SourceFits bound a
  pub second : SourceFits bound b

-- The value that SET assigns, and the numbers in an instruction of which a cell's key is made.
abbrev pub InstrFits : ℕ → Instr → Type 0
InstrFits bound Stop = Unit {0}
InstrFits bound Throw = Unit {0}
InstrFits bound (Set x value) = mag value < 2 ^ 31
InstrFits bound (Arg x k) = Unit {0}
InstrFits bound (Sender x) = Unit {0}
InstrFits bound (Value x) = Unit {0}
InstrFits bound (Add x y z) = Unit {0}
InstrFits bound (Sub x y z) = Unit {0}
InstrFits bound (Mul x y z) = Unit {0}
InstrFits bound (Div x y z) = Unit {0}
InstrFits bound (Get x field a b) = CellSourcesFit bound field a b
InstrFits bound (Put x field a b) = CellSourcesFit bound field a b
InstrFits bound (Bal x) = Unit {0}
InstrFits bound (Pay x target) = Unit {0}
InstrFits bound (Jeq x y to) = Unit {0}
InstrFits bound (Jlt x y to) = Unit {0}

-- M-104: "Jumps may go to any index from 0 to the code's length."
abbrev pub JumpsWithin : (size : ℕ) → Instr → Type 0
JumpsWithin size Stop = Unit {0}
JumpsWithin size Throw = Unit {0}
JumpsWithin size (Set x value) = Unit {0}
JumpsWithin size (Arg x k) = Unit {0}
JumpsWithin size (Sender x) = Unit {0}
JumpsWithin size (Value x) = Unit {0}
JumpsWithin size (Add x y z) = Unit {0}
JumpsWithin size (Sub x y z) = Unit {0}
JumpsWithin size (Mul x y z) = Unit {0}
JumpsWithin size (Div x y z) = Unit {0}
JumpsWithin size (Get x field a b) = Unit {0}
JumpsWithin size (Put x field a b) = Unit {0}
JumpsWithin size (Bal x) = Unit {0}
JumpsWithin size (Pay x target) = Unit {0}
JumpsWithin size (Jeq x y to) = to ≤ size
JumpsWithin size (Jlt x y to) = to ≤ size

-- Both of them.
abbrev pub InstrLawful : (bound size : ℕ) → Instr → Type 0
InstrLawful bound size i = InstrFits bound i × JumpsWithin size i

-- What holds of the instruction that bytes decode to, if they do.
abbrev pub Decodes : (Instr → Type 0) → Option Instr → Type 0
Decodes P (Some i) = P i
Decodes P None = Unit {0}

pub decodes_map : (P Q : Instr → Type 0) → ((i : Instr) → P i → Q i) → (d : Option Instr) → Decodes P d → Decodes Q d
decodes_map P Q f (Some i) h = f i h
decodes_map P Q f None h = tt

-- ---- along the tests of the decoder

-- What holds of an instruction where its tests pass: three, four or five of them.
when : (P : Instr → Type 0) (t : Bool) {i : Instr} → (t ≡ true → P i) → Decodes P (allowed t i)
when P true h = h refl
when P false h = tt

when3 : (P : Instr → Type 0) (s t u : Bool) {i : Instr} → (s ≡ true → t ≡ true → u ≡ true → P i) → Decodes P (allowed (s && t && u) i)
when3 P s t u h = when P (s && t && u) (λ e. let f = both (s && t) u e in let g = both s t f.0 in h g.0 g.1 f.1)

when4 : (P : Instr → Type 0) (s t u v : Bool) {i : Instr} → (s ≡ true → t ≡ true → u ≡ true → v ≡ true → P i) → Decodes P (allowed (s && t && u && v) i)
when4 P s t u v h = when3 P (s && t) u v (λ e f g. let a = both s t e in h a.0 a.1 f g)

when5 : (P : Instr → Type 0) (s t u v r : Bool) {i : Instr} → (s ≡ true → t ≡ true → u ≡ true → v ≡ true → r ≡ true → P i)
    → Decodes P (allowed (s && t && u && v && r) i)
when5 P s t u v r h = when4 P (s && t) u v r (λ e f g k. let a = both s t e in h a.0 a.1 f g k)

-- A failed test, as a fact that `omega` reads.
pub apart : (a b : ℕ) → eqb a b ≡ false → ¬ (a ≡ b)
apart a b e = eqb-false a b e

-- Equal parts have equal bytes.
parts_same : {op op' x x' y y' z z' w w' : ℕ} → (op ≡ op') × (x ≡ x') × (y ≡ y') × (z ≡ z') × (w ≡ w') → instr op x y z w ≡ instr op' x' y' z' w'
parts_same e = rw (e.0, e.1, e.2, e.3, e.4)

-- The source that a number names, and the constant of an instruction that has it.
record Named (n w : ℕ) (s : Source) : Type 0 where
  number : source_number s ≡ n
  keeps : SourceKeeps (w / 65536) s
  constant : (other : ℕ) → constant_or s other ≡ (if eqb n 6 then w / 65536 else other)

named : (n w : ℕ) → n ≤ 6 → Named n w (source_of n w)
unfolding source_of
named n w h =
    if_all (Named n w) (eqb n 0) (λ e. record { number = omega (arith, eqb-true); keeps = tt; constant = λ other. rw (eqb-true n 0 e) }) λ e.
    if_all (Named n w) (eqb n 5) (λ f. record { number = omega (arith, eqb-true); keeps = tt; constant = λ other. rw (eqb-true n 5 f) }) λ f.
    if_all (Named n w) (eqb n 6) (λ g. record { number = omega (arith, eqb-true); keeps = refl; constant = λ other. rw g }) λ g.
    record { number = refl; keeps = omega (arith, apart); constant = λ other. rw g }

-- "zero if no source is 6"
one_constant : (p q : Bool) (c : ℕ) → (p || q || eqb c 0) ≡ true → (if p then c else if q then c else 0) ≡ c
one_constant true q c e = refl
one_constant false true c e = refl
one_constant false false c e = sym (eqb-true c 0 e)

module _ (size op x y z w : ℕ) where
  -- The parts are the instruction's own and in range; its jump is, whatever w is.
  abbrev pub Own : Instr → Type 0
  Own i = JumpsWithin size i × (w < 2 ^ 32 → InstrKeeps size i × (instr op x y z w ≡ instruction_bytes i))

  abbrev D : Option Instr → Type 0
  D = Decodes Own

  -- An instruction with its parts, of which the tests say what they are.
  leaf : (i : Instr) (op' x' y' z' w' : ℕ) → instr op' x' y' z' w' ≡ instruction_bytes i → JumpsWithin size i
      → (w < 2 ^ 32 → InstrKeeps size i × (op ≡ op') × (x ≡ x') × (y ≡ y') × (z ≡ z') × (w ≡ w')) → Own i
  leaf i op' x' y' z' w' bytes j f = (j, λ l. ((f l).0, parts_same ((f l).1, (f l).2, (f l).3, (f l).4, (f l).5) ∙ bytes))

  pub end_own : op < 2 → D (decode_end op x y z w)
  unfolding decode_end
  end_own h =
      when4 Own (eqb x 0) (eqb y 0) (eqb z 0) (eqb w 0) λ a b c d.
      if_all Own (eqb op 0) (λ e. leaf Stop 0 0 0 0 0 refl tt (λ l. omega (arith, eqb-true, leb-true)))
      (λ e. leaf Throw 1 0 0 0 0 refl tt (λ l. omega (arith, eqb-true, leb-true, apart)))

  pub set_own : op ≡ 2 → D (decode_set x y z w)
  unfolding decode_set
  set_own h =
      when3 Own (is_register x) (eqb y 0) (eqb z 0) λ a b c.
      leaf (Set x (signed 32 w)) 2 x 0 0 (unsigned 32 (signed 32 w)) refl tt λ l.
      let same : unsigned 32 (signed 32 w) ≡ w = unsigned_signed 32 w l in
      let small : mag (signed 32 w) < 2 ^ 31 = signed_range 32 w (lit< tt) l in
      omega (arith, eqb-true, leb-true)

  pub arg_own : op ≡ 3 → D (decode_arg x y z w)
  unfolding decode_arg
  arg_own h =
      when4 Own (is_register x) (is_argument y) (eqb z 0) (eqb w 0) λ a b c d.
      leaf (Arg x y) 3 x y 0 0 refl tt λ l.
      let low : 1 ≤ y = leb-true 1 y (both (leb 1 y) (leb y 4) b).0 in
      let high : y ≤ 4 = leb-true y 4 (both (leb 1 y) (leb y 4) b).1 in
      omega (arith, eqb-true, leb-true)

  -- SENDER, VALUE and BAL.
  pub fact_own : (i : Instr) (n : ℕ) → op ≡ n → JumpsWithin size i → (Register x → InstrKeeps size i) → instr n x 0 0 0 ≡ instruction_bytes i
      → D (decode_fact x y z w i)
  unfolding decode_fact
  fact_own i n h j k own =
      when4 Own (is_register x) (eqb y 0) (eqb z 0) (eqb w 0) λ a b c d.
      leaf i n x 0 0 0 own j λ l. (k (leb-true x 7 a), h, refl, eqb-true y 0 b, eqb-true z 0 c, eqb-true w 0 d)

  pub arith_own : 6 ≤ op → op < 10 → D (decode_arith op x y z w)
  unfolding decode_arith
  arith_own low high =
      when4 Own (is_register x) (is_register y) (is_register z) (eqb w 0) λ a b c d.
      if_all Own (eqb op 6) (λ e. leaf (Add x y z) 6 x y z 0 refl tt (λ l. omega (arith, eqb-true, leb-true))) λ e.
      if_all Own (eqb op 7) (λ f. leaf (Sub x y z) 7 x y z 0 refl tt (λ l. omega (arith, eqb-true, leb-true))) λ f.
      if_all Own (eqb op 8) (λ g. leaf (Mul x y z) 8 x y z 0 refl tt (λ l. omega (arith, eqb-true, leb-true)))
      (λ g. leaf (Div x y z) 9 x y z 0 refl tt (λ l. omega (arith, eqb-true, leb-true, apart)))

  -- GET and PUT, of the sources that y and z name.
  cell_parts : (a b : Source) → Named y w a → Named z w b → Register x → (eqb y 6 || eqb z 6 || eqb (w / 65536) 0) ≡ true → ¬ (w % 65536 ≡ 0) → w < 2 ^ 32
      → CellPartsKeep x (w % 65536) a b × (instr op x y z w ≡ instr op x (source_number a) (source_number b) (cell_bits (w % 65536) a b))
  cell_parts a b na nb r zero some l =
      let one : cell_constant a b ≡ w / 65536 =
      na.constant (constant_or b 0)
      ∙ ap (λ (c : ℕ). if eqb y 6 then w / 65536 else c) (nb.constant 0)
      ∙ one_constant (eqb y 6) (eqb z 6) (w / 65536) zero in (
        record {
          register = r;
          named = omega arith;
          constant = omega arith;
          first = subst (λ (c : ℕ). SourceKeeps c a) (sym one) na.keeps;
          second = subst (λ (c : ℕ). SourceKeeps c b) (sym one) nb.keeps;
        },
        parts_same (refl, refl, sym na.number, sym nb.number, omega arith),
      )

  pub cell_own : 10 ≤ op → op < 12 → D (decode_cell op x y z w)
  unfolding decode_cell
  cell_own low high =
      when5 Own (is_register x) (is_source y) (is_source z) (not (eqb (w % 65536) 0)) (eqb y 6 || eqb z 6 || eqb (w / 65536) 0) λ a b c d e.
      let first = named y w (leb-true y 6 b) in
      let second = named z w (leb-true z 6 c) in
      let some = eqb-false (w % 65536) 0 (not-true (eqb (w % 65536) 0) d) in
      let parts = cell_parts (source_of y w) (source_of z w) first second (leb-true x 7 a) e some in
      if_all Own (eqb op 10)
      (λ f. (tt, λ l. ((parts l).0, (parts l).1 ∙ parts_same (eqb-true op 10 f, refl, refl, refl, refl)))) λ f.
      (tt, λ l. ((parts l).0, (parts l).1 ∙ parts_same (omega (arith, apart), refl, refl, refl, refl)))

  pay_parts : (t : Source) → Named y w t → Register x → (eqb y 6 || eqb (w / 65536) 0) ≡ true → w % 65536 ≡ 0 → z ≡ 0 → op ≡ 13 → w < 2 ^ 32
      → PayPartsKeep x t × (instr op x y z w ≡ instruction_bytes (Pay x t))
  pay_parts t nt r zero none unused h l =
      let one : pay_constant t ≡ w / 65536 = nt.constant 0 ∙ one_constant false (eqb y 6) (w / 65536) zero in (
        record { register = r; constant = omega arith; source = subst (λ (c : ℕ). SourceKeeps c t) (sym one) nt.keeps },
        parts_same (h, refl, sym nt.number, unused, omega arith),
      )

  pub pay_own : op ≡ 13 → D (decode_pay x y z w)
  unfolding decode_pay
  pay_own h =
      when5 Own (is_register x) (is_source y) (eqb z 0) (eqb (w % 65536) 0) (eqb y 6 || eqb (w / 65536) 0) λ a b c d e.
      (tt, pay_parts (source_of y w) (named y w (leb-true y 6 b)) (leb-true x 7 a) e (eqb-true (w % 65536) 0 d) (eqb-true z 0 c) h)

  pub jump_own : 14 ≤ op → op < 16 → D (decode_jump size op x y z w)
  unfolding decode_jump
  jump_own low high =
      when4 Own (is_register x) (is_register y) (eqb z 0) (leb w size) λ a b c d.
      if_all Own (eqb op 14) (λ e. leaf (Jeq x y w) 14 x y 0 w refl (leb-true w size d) (λ l. omega (arith, eqb-true, leb-true)))
      (λ e. leaf (Jlt x y w) 15 x y 0 w refl (leb-true w size d) (λ l. omega (arith, eqb-true, leb-true, apart)))
