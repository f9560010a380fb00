-- The decoder is exact: forward by the bytes of each kind, backward along its tests.
use mathlib.Core.Path.{◌≡◌, refl, sym, ap, subst, ◌∙◌}
use mathlib.Core.Bool.{Bool, true, false, ◌||◌, false≢true}
use mathlib.Core.List.{List, [], ◌∷◌, ◌++◌}
use Prim.Native.Nat.{ℕ, suc, ◌*◌, ◌/◌, ◌%◌, ◌^◌, ◌≤◌, ◌<◌}
use native.Mathlib.Nat.{add-zero}
use native.Mathlib.Omega.{arith}
use borrow.Author.Tests.{le-leb, ne_eqb}
use lib.Dec.{eqb, lit<}
use lib.ListN.{length, take, drop, take-append-drop}
use Rattle.arith.specs.Exact.{unsigned}
use Rattle.std.specs.Prelude.{if◌then◌else◌, None, Option, Some}
use Rattle.arith.proofs.ChoiceLaws.{or_right}
use Rattle.arith.proofs.IntegerLaws.{unsigned_range, signed_unsigned}
use Rattle.wire.specs.Bytes.{number}
use Rattle.wire.proofs.BytesLaws.{number_bytes_of, bytes_of_read, read_lt}
use Rattle.block.specs.Limits.{max_code}
use Rattle.block.specs.Instruction.{source_of, decode_end, decode_set, decode_arg, decode_fact, decode_arith, decode_cell, decode_pay, decode_jump, decode_parts, decode, is_valid}
use Rattle.block.specs.InstructionBytes.{instr, source_number, cell_constant, pay_constant, cell_bits, instruction_bytes, Register, SourceKeeps, CellPartsKeep, PayPartsKeep, InstrKeeps, HoldsInstr}
use Rattle.block.specs.Encoding.{AreBytes}
use Rattle.block.specs.DecoderExact.{DecoderExact}
use Rattle.block.specs.declared.Source.{Source}
use Rattle.block.specs.declared.Source.TheVariants as source
use Rattle.block.specs.declared.Instr.{Instr}
use Rattle.block.specs.declared.Instr.TheVariants.{Stop, Throw, Set, Arg, Sender, Value, Add, Sub, Mul, Div, Get, Put, Bal, Pay, Jeq, Jlt}
use Rattle.block.proofs.DecodeLaws.{Decodes}
use Rattle.block.proofs.DecodeOwn.{OwnOf, decode_own}

-- ---- an instruction's own bytes

-- A source by its number.
source_named : (c w : ℕ) (s : Source) → SourceKeeps c s → w / 65536 ≡ c → source_of (source_number s) w ≡ s
unfolding source_of
source_named c w source.Zero k e = refl
source_named c w (source.Argument n) k e =
    rw (ne_eqb n 0 (λ q. omega arith), ne_eqb n 5 (λ q. omega arith), ne_eqb n 6 (λ q. omega arith))
source_named c w source.Sender k e = refl
source_named c w (source.Constant n) k e = ap source.Constant (e ∙ sym k)

source_number_lem : (c : ℕ) (s : Source) → SourceKeeps c s → source_number s ≤ 6
source_number_lem c source.Zero k = omega arith
source_number_lem c (source.Argument n) k = omega arith
source_number_lem c source.Sender k = omega arith
source_number_lem c (source.Constant n) k = omega arith

-- "zero if no source is 6"
pay_zero : (s : Source) → (eqb (source_number s) 6 || eqb (pay_constant s) 0) ≡ true
pay_zero source.Zero = refl
pay_zero (source.Argument n) = or_right (eqb n 6) true refl
pay_zero source.Sender = refl
pay_zero (source.Constant n) = refl

or_last : (p q r : Bool) → (q || r) ≡ true → (p || q || r) ≡ true
or_last true q r e = refl
or_last false q r e = e

cell_zero : (a b : Source) → (eqb (source_number a) 6 || eqb (source_number b) 6 || eqb (cell_constant a b) 0) ≡ true
cell_zero source.Zero b = pay_zero b
cell_zero (source.Argument n) b = or_last (eqb n 6) (eqb (source_number b) 6) (eqb (pay_constant b) 0) (pay_zero b)
cell_zero source.Sender b = pay_zero b
cell_zero (source.Constant n) b = refl

parts_read : (size op x y z w : ℕ) (more : List ℕ) → w < 2 ^ 32 → decode size (instr op x y z w ++ more) ≡ decode_parts size op x y z w
unfolding number
parts_read size op x y z w more h = simp add-zero (ap (decode_parts size op x y z) (number_bytes_of 4 w more h))

-- GET and PUT.
cell_parts : (op x field : ℕ) (a b : Source) → CellPartsKeep x field a b
    → decode_cell op x (source_number a) (source_number b) (cell_bits field a b) ≡ Some (if eqb op 10 then Get x field a b else Put x field a b)
unfolding decode_cell
cell_parts op x field a b k =
    let c : ℕ = cell_constant a b in
    let w : ℕ = cell_bits field a b in
    let low : w % 65536 ≡ field = omega (arith, k.named.1) in
    let high : w / 65536 ≡ c = omega (arith, k.named.1) in
    let first = source_named c w a k.first high in
    let second = source_named c w b k.second high in
    let known = le-leb (source_number a) 6 (source_number_lem c a k.first) in
    let known' = le-leb (source_number b) 6 (source_number_lem c b k.second) in
    let some = ne_eqb field 0 (λ q. omega (arith, k.named.0)) in
    rw (first, second, low, high, le-leb x 7 k.register, known, known', some, cell_zero a b)

pay_parts : (x : ℕ) (target : Source) → PayPartsKeep x target → decode_pay x (source_number target) 0 (65536 * pay_constant target) ≡ Some (Pay x target)
unfolding decode_pay
pay_parts x target k =
    let c : ℕ = pay_constant target in
    let low : 65536 * c % 65536 ≡ 0 = omega arith in
    let high : 65536 * c / 65536 ≡ c = omega arith in
    let named = source_named c (65536 * c) target k.source high in
    let known = le-leb (source_number target) 6 (source_number_lem c target k.source) in
    rw (named, low, high, le-leb x 7 k.register, known, pay_zero target)

module _ (x : ℕ) where
  -- SENDER, VALUE and BAL.
  fact_parts : (i : Instr) → Register x → decode_fact x 0 0 0 i ≡ Some i
  unfolding decode_fact
  fact_parts i k = rw (le-leb x 7 k)

  -- ADD, SUB, MUL and DIV.
  arith_parts : (op y z : ℕ) → Register x × Register y × Register z
      → decode_arith op x y z 0 ≡ Some (if eqb op 6 then Add x y z else if eqb op 7 then Sub x y z else if eqb op 8 then Mul x y z else Div x y z)
  unfolding decode_arith
  arith_parts op y z k = rw (le-leb x 7 k.0, le-leb y 7 k.1, le-leb z 7 k.2)

  -- JEQ and JLT.
  jump_parts : (size op y to : ℕ) → Register x × Register y × (to ≤ size)
      → decode_jump size op x y 0 to ≡ Some (if eqb op 14 then Jeq x y to else Jlt x y to)
  unfolding decode_jump
  jump_parts size op y to k = rw (le-leb x 7 k.0, le-leb y 7 k.1, le-leb to size k.2)

own_decoded : (size : ℕ) → size ≤ max_code → (i : Instr) → InstrKeeps size i → (more : List ℕ) → decode size (instruction_bytes i ++ more) ≡ Some i
unfolding decode_parts decode_end decode_set decode_arg
own_decoded size few Stop k more = parts_read size 0 0 0 0 0 more (lit< tt)
own_decoded size few Throw k more = parts_read size 1 0 0 0 0 more (lit< tt)
own_decoded size few (Set x value) k more =
    parts_read size 2 x 0 0 (unsigned 32 value) more (unsigned_range 32 value (lit< tt) k.1)
    ∙ rw (le-leb x 7 k.0, signed_unsigned 32 value (lit< tt) k.1)
own_decoded size few (Arg x n) k more =
    parts_read size 3 x n 0 0 more (lit< tt) ∙ rw (le-leb x 7 k.0, le-leb 1 n k.1.0, le-leb n 4 k.1.1)
own_decoded size few (Sender x) k more = parts_read size 4 x 0 0 0 more (lit< tt) ∙ fact_parts x (Sender x) k
own_decoded size few (Value x) k more = parts_read size 5 x 0 0 0 more (lit< tt) ∙ fact_parts x (Value x) k
own_decoded size few (Add x y z) k more = parts_read size 6 x y z 0 more (lit< tt) ∙ arith_parts x 6 y z k
own_decoded size few (Sub x y z) k more = parts_read size 7 x y z 0 more (lit< tt) ∙ arith_parts x 7 y z k
own_decoded size few (Mul x y z) k more = parts_read size 8 x y z 0 more (lit< tt) ∙ arith_parts x 8 y z k
own_decoded size few (Div x y z) k more = parts_read size 9 x y z 0 more (lit< tt) ∙ arith_parts x 9 y z k
own_decoded size few (Get x field a b) k more =
    parts_read size 10 x (source_number a) (source_number b) (cell_bits field a b) more (omega (arith, k.named.1, k.constant)) ∙ cell_parts 10 x field a b k
own_decoded size few (Put x field a b) k more =
    parts_read size 11 x (source_number a) (source_number b) (cell_bits field a b) more (omega (arith, k.named.1, k.constant)) ∙ cell_parts 11 x field a b k
own_decoded size few (Bal x) k more = parts_read size 12 x 0 0 0 more (lit< tt) ∙ fact_parts x (Bal x) k
own_decoded size few (Pay x target) k more =
    parts_read size 13 x (source_number target) 0 (65536 * pay_constant target) more (omega (arith, k.constant)) ∙ pay_parts x target k
own_decoded size few (Jeq x y to) k more = parts_read size 14 x y 0 to more (omega (arith, k.2)) ∙ jump_parts x size 14 y to k
own_decoded size few (Jlt x y to) k more = parts_read size 15 x y 0 to more (omega (arith, k.2)) ∙ jump_parts x size 15 y to k

-- ---- the bytes of a decoded instruction

-- The first eight bytes, by their parts.
first_eight : (s : List ℕ) → AreBytes s → 8 ≤ length s
    → take 8 s ≡ instr (number 1 s) (number 1 (drop 1 s)) (number 1 (drop 2 s)) (number 1 (drop 3 s)) (number 4 (drop 4 s))
unfolding number
first_eight [] h l = absurd (omega arith)
first_eight (a ∷ []) h l = absurd (omega arith)
first_eight (a ∷ b ∷ []) h l = absurd (omega arith)
first_eight (a ∷ b ∷ c ∷ []) h l = absurd (omega arith)
first_eight (a ∷ b ∷ c ∷ d ∷ s) h l =
    simp add-zero (ap (λ (t : List ℕ). a ∷ b ∷ c ∷ d ∷ t) (sym (bytes_of_read 4 s 0 (λ i. h (suc (suc (suc (suc i))))) (omega arith))))

decoded_own : (size : ℕ) (s : List ℕ) → AreBytes s → 8 ≤ length s → (i : Instr) → decode size s ≡ Some i
    → InstrKeeps size i × (take 8 s ≡ instruction_bytes i)
decoded_own size s h l i e =
    let own : OwnOf size s i = subst (Decodes (OwnOf size s)) e (decode_own size s) in
    let kept = own.1 (read_lt 4 s h 4) in
    (kept.0, first_eight s h l ∙ kept.1)

abbrev held_by : Instr → Option Instr → Instr
held_by other (Some i) = i
held_by other None = other

pub decoder_exact : DecoderExact
decoder_exact =
    record {
      whole = own_decoded;
      only = decoded_own;
      one = λ size few i i' k k' e.
          ap (held_by i)
          (sym (own_decoded size few i k []) ∙ ap (λ (s : List ℕ). decode size (s ++ [])) e ∙ own_decoded size few i' k' []);
    }

-- ---- the rule of an instruction in a code: valid exactly if the bytes hold an instruction

pub holds_valid : (size : ℕ) (s : List ℕ) → size ≤ max_code → HoldsInstr size s → is_valid (decode size s) ≡ true
holds_valid size s few h =
    ap is_valid
    (ap (decode size) (sym (take-append-drop 8 s) ∙ ap (λ (t : List ℕ). t ++ drop 8 s) h.bytes)
    ∙ decoder_exact.whole size few h.instruction h.keeps (drop 8 s))

pub valid_holds : (size : ℕ) (s : List ℕ) → AreBytes s → 8 ≤ length s → is_valid (decode size s) ≡ true → HoldsInstr size s
valid_holds size s h l e = go (decode size s) refl e
  where
    go : (d : Option Instr) → decode size s ≡ d → is_valid d ≡ true → HoldsInstr size s
    go (Some i) q t = let own = decoder_exact.only size s h l i q in record { instruction = i; keeps = own.0; bytes = own.1 }
    go None q t = absurd (false≢true t)
