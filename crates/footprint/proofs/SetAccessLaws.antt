-- Laws of the accesses of a call: at most two of an instruction, each used, each key below 2^96; and so in the sets.
use Rattle.std.specs.Prelude.{None, Option, Some}
use Rattle.block.specs.declared.address.Account.{Account}
use mathlib.Core.Path.{◌≡◌, refl}
use mathlib.Core.Logic.{◌⊎◌, inl, inr}
use mathlib.Core.Bool.{Bool, true, false, ◌||◌, or-true, false≢true}
use mathlib.Core.List.{List, [], ◌∷◌}
use Prim.Native.Nat.{ℕ, zero, suc, ◌+◌, ◌^◌, ◌≤◌, ◌<◌}
use native.Mathlib.Omega.{arith}
use lib.Dec.{eqb, lit<}
use lib.IntN.{pos}
use lib.Signed.{lt_z}
use lib.ListN.{length, take, drop}
use lib.Seq.{get_or-drop}
use Rattle.block.specs.Encoding.{AreBytes}
use Rattle.footprint.specs.SafeSets.{InRanges}
use Rattle.arith.proofs.ChoiceLaws.{if_all}
use Rattle.wire.proofs.BytesLaws.{number_lt}
use Rattle.block.specs.Key.{first_contract, account_balance, contract_balance, payee_of}
use Rattle.block.proofs.KeyLaws.{payee_all}
use Rattle.block.specs.Instruction.{decode}
use Rattle.block.proofs.DecodeLaws.{SourceFits, InstrFits, InstrLawful, Decodes, decodes_map}
use Rattle.block.proofs.DecodeOwn.{decode_lawful}
use Rattle.block.specs.Record.{Function, argument, code_at}
use Rattle.block.specs.declared.Call.{Call}
use Rattle.block.specs.declared.Source.{Source}
use Rattle.block.specs.declared.Source.TheVariants as source
use Rattle.block.specs.declared.Instr.{Instr}
use Rattle.block.specs.declared.Instr.TheVariants.{Stop, Throw, Set, Arg, Sender, Value, Add, Sub, Mul, Div, Get, Put, Bal, Pay, Jeq, Jlt}
use Rattle.footprint.specs.Access.{Access, entry_accesses, pay_accesses, accesses}
use Rattle.block.specs.Naming.{cell_key, source_value}
use Rattle.footprint.specs.Sets.{merge_all, decoded_accesses, code_accesses, function_sets}
use Rattle.footprint.proofs.SetLaws.{joined_flags, merged_each, code_each}
use Rattle.wire.specs.All.{All}
use Rattle.footprint.specs.Listed.{Keyed, any_key, Used}

-- ---- at most two

pay_few : (c : Call) (p : Option Account) → length (pay_accesses c p) ≤ 2
unfolding pay_accesses
pay_few c (Some account) = omega arith
pay_few c None = omega arith

-- An instruction has at most two accesses, and so has the entry.
pub accesses_few : (c : Call) (i : Instr) → length (accesses c i) ≤ 2
unfolding accesses
accesses_few c Stop = omega arith
accesses_few c Throw = omega arith
accesses_few c (Set x value) = omega arith
accesses_few c (Arg x k) = omega arith
accesses_few c (Sender x) = omega arith
accesses_few c (Value x) = omega arith
accesses_few c (Add x y z) = omega arith
accesses_few c (Sub x y z) = omega arith
accesses_few c (Mul x y z) = omega arith
accesses_few c (Div x y z) = omega arith
accesses_few c (Get x field a b) = omega arith
accesses_few c (Put x field a b) = omega arith
accesses_few c (Bal x) = omega arith
accesses_few c (Pay x target) = pay_few c (payee_of (source_value c target))
accesses_few c (Jeq x y to) = omega arith
accesses_few c (Jlt x y to) = omega arith

pub decoded_few : (c : Call) (d : Option Instr) → length (decoded_accesses c d) ≤ 2
decoded_few c (Some i) = accesses_few c i
decoded_few c None = omega arith

pub entry_few : (c : Call) → length (entry_accesses c) ≤ 2
unfolding entry_accesses
entry_few c = if_all (λ (es : List Access). length es ≤ 2) (lt_z (pos 0) c.value) (λ e. omega arith) (λ e. omega arith)

-- ---- used, and with a key of its kind

still_used : (r w s v : Bool) → (r || w) ≡ true → ((r || s) || (w || v)) ≡ true
still_used true w s v h = refl
still_used false true s v h = or-true s
still_used false false s v h = absurd (false≢true h)

-- Where the balances of sender, contract and accounts pass, and the cells that an instruction names, so do all accesses of a call.
module _ (c : Call) (K : ℕ → Type 0) (own : K (contract_balance c.contract))
    (balance : (n : ℕ) → n < first_contract → K (account_balance (record { 0 = n }))) where
  keyed_joins : (e a : Access) → Keyed K e → Keyed K a → Keyed K (joined_flags e a)
  keyed_joins e a p q = record { used = still_used e.reads e.writes a.reads a.writes p.used; keyed = p.keyed }

  pay_keyed : (n : ℕ) → All (Keyed K) (pay_accesses c (payee_of n))
  unfolding pay_accesses
  pay_keyed n =
      payee_all (λ (p : Option Account). All (Keyed K) (pay_accesses c p)) n
      (λ other low. (record { used = refl; keyed = own }, (record { used = refl; keyed = balance n low }, tt)))
      (record { used = refl; keyed = own }, tt)

  pub accesses_keyed : (i : Instr)
      → ((x field : ℕ) (a b : Source) → (i ≡ Get x field a b) ⊎ (i ≡ Put x field a b) → K (cell_key c field a b))
      → All (Keyed K) (accesses c i)
  unfolding accesses
  accesses_keyed Stop cell = tt
  accesses_keyed Throw cell = tt
  accesses_keyed (Set x value) cell = tt
  accesses_keyed (Arg x k) cell = tt
  accesses_keyed (Sender x) cell = tt
  accesses_keyed (Value x) cell = tt
  accesses_keyed (Add x y z) cell = tt
  accesses_keyed (Sub x y z) cell = tt
  accesses_keyed (Mul x y z) cell = tt
  accesses_keyed (Div x y z) cell = tt
  accesses_keyed (Get x field a b) cell = (record { used = refl; keyed = cell x field a b (inl refl) }, tt)
  accesses_keyed (Put x field a b) cell = (record { used = refl; keyed = cell x field a b (inr refl) }, tt)
  accesses_keyed (Bal x) cell = (record { used = refl; keyed = own }, tt)
  accesses_keyed (Pay x target) cell = pay_keyed (source_value c target)
  accesses_keyed (Jeq x y to) cell = tt
  accesses_keyed (Jlt x y to) cell = tt

  module _ (sender : K (account_balance c.sender)) where
    pub entry_keyed : All (Keyed K) (entry_accesses c)
    unfolding entry_accesses
    entry_keyed =
        if_all (All (Keyed K)) (lt_z (pos 0) c.value)
        (λ e. (record { used = refl; keyed = sender }, (record { used = refl; keyed = own }, tt))) (λ e. tt)

    -- So do the sets of a function whose code passes.
    pub sets_keyed : (block : List ℕ) (f : Option Function)
        → ((g : Function) → All (Keyed K) (code_accesses c g.size g.size (code_at block g.start g.size)))
        → All (Keyed K) (function_sets block c f)
    unfolding function_sets
    sets_keyed block None code = tt
    sets_keyed block (Some g) code =
        merged_each (Keyed K) keyed_joins (merge_all [] (entry_accesses c)) (code_accesses c g.size g.size (code_at block g.start g.size))
        (merged_each (Keyed K) keyed_joins [] (entry_accesses c) tt entry_keyed) (code g)

-- ---- at least one flag

pub accesses_used : (c : Call) (i : Instr) → All Used (accesses c i)
accesses_used c i = accesses_keyed c any_key tt (λ n h. tt) i (λ x field a b e. tt)

decoded_used : (c : Call) (d : Option Instr) → All Used (decoded_accesses c d)
decoded_used c (Some i) = accesses_used c i
decoded_used c None = tt

pub sets_used : (block : List ℕ) (c : Call) (f : Option Function) → All Used (function_sets block c f)
sets_used block c f =
    sets_keyed c any_key tt (λ n h. tt) tt block f
    (λ g. code_each Used (λ s. Unit {0}) (λ s q. tt) c g.size (λ s q. decoded_used c (decode g.size s)) g.size
    (code_at block g.start g.size) tt)

-- ---- what arguments and sources stand for

-- The sources' constants have 16 bits.
abbrev pub InstrSound : Instr → Type 0
InstrSound = InstrFits (2 ^ 16)

pub argument_below : (c : Call) (k : ℕ) → InRanges c → argument c k < 2 ^ 32
unfolding argument
argument_below c k r =
    if_all (λ (m : ℕ). m < 2 ^ 32) (eqb k 1) (λ e. r.arg1) λ e.
    if_all (λ (m : ℕ). m < 2 ^ 32) (eqb k 2) (λ e. r.arg2) λ e.
    if_all (λ (m : ℕ). m < 2 ^ 32) (eqb k 3) (λ e. r.arg3) (λ e. r.arg4)

pub source_below : (c : Call) (s : Source) → InRanges c → SourceFits (2 ^ 16) s → source_value c s < 2 ^ 32
unfolding source_value
source_below c source.Zero r h = omega arith
source_below c (source.Argument k) r h = argument_below c k r
source_below c source.Sender r h = omega arith
source_below c (source.Constant n) r h = omega arith

-- ---- what bytes decode to

pub drop_bytes : (n : ℕ) (s : List ℕ) → AreBytes s → AreBytes (drop n s)
drop_bytes n s h i = rw (get_or-drop n s i 0) (h (n + i))

pub take_bytes : (n : ℕ) (s : List ℕ) → AreBytes s → AreBytes (take n s)
take_bytes zero s h i = lit< tt
take_bytes (suc n) [] h i = lit< tt
take_bytes (suc n) (b ∷ s) h zero = h 0
take_bytes (suc n) (b ∷ s) h (suc i) = take_bytes n s (λ j. h (suc j)) i

-- An instruction that bytes decode to is such.
pub decode_sound : (size : ℕ) (s : List ℕ) → AreBytes s → Decodes (InstrLawful (2 ^ 16) size) (decode size s)
decode_sound size s h = decode_lawful size s (number_lt 4 (drop 4 s) (drop_bytes 4 s h))

pub decode_fits : (size : ℕ) (s : List ℕ) → AreBytes s → Decodes InstrSound (decode size s)
decode_fits size s h =
    decodes_map (InstrLawful (2 ^ 16) size) InstrSound (λ i l. l.0) (decode size s) (decode_sound size s h)
