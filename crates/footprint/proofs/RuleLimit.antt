-- What lasts where an amount moves between balances and where another cell takes a value is kept by every call, whatever its outcome: so the
-- balance limit.
use mathlib.Core.Path.{◌≡◌, refl, subst}
use mathlib.Core.Bool.{Bool, true, false, ◌&&◌}
use mathlib.Core.List.{List}
use Prim.Native.Nat.{ℕ, zero, suc, ◌*◌, ◌^◌, ◌<◌}
use native.Mathlib.Omega.{arith}
use borrow.Author.Tests.{ltb-true, leb-true}
use lib.Dec.{ltb, leb, lit<}
use lib.ListN.{length, drop}
use lib.IntN.{ℤ, pos}
use lib.Signed.{mag, lt_z, non_neg}
use Rattle.std.specs.Prelude.{if◌then◌else◌, None, Option, Some}
use Rattle.arith.specs.Exact.{signed}
use Rattle.arith.proofs.IntegerLaws.{signed_range}
use Rattle.wire.specs.Bytes.{number, read_le}
use Rattle.wire.proofs.BytesLaws.{number_lt}
use Rattle.wire.specs.All.{All}
use Rattle.wire.proofs.ListLaws.{all_map}
use Rattle.block.specs.Key.{first_contract, payee_of, is_balance}
use Rattle.block.proofs.KeyLaws.{payee_all}
use Rattle.block.specs.Instruction.{instr_bytes, decode}
use Rattle.block.proofs.DecodeLaws.{Decodes}
use Rattle.block.specs.Record.{Function, call_bytes, argument, call_of}
use Rattle.block.specs.declared.Call.{Call}
use Rattle.block.specs.declared.Instr.{Instr}
use Rattle.block.specs.declared.Instr.TheVariants.{Stop, Throw, Set, Arg, Sender, Value, Add, Sub, Mul, Div, Get, Put, Bal, Pay, Jeq, Jlt}
use Rattle.block.specs.Naming.{source_value, function_of}
use Rattle.footprint.proofs.SetAccessLaws.{drop_bytes, take_bytes, argument_below, source_below, InstrSound, decode_fits}
use Rattle.block.specs.Encoding.{AreBytes}
use Rattle.footprint.specs.SafeSets.{InRanges, CallBounded}
use Rattle.rule.proofs.LimitLaws.{balance_key, limit_move, limit_other, cell_is_not}
use Rattle.footprint.specs.SetsInWords.{instructions_of}
use Rattle.footprint.proofs.TransactionLaws.{any_value, InstrKeeps, PayKeeps, transaction_keeps}
use Rattle.rule.specs.Rule.{State, update, credit, debit, with_instr, body_of, state_within_limit, transaction}

-- ---- the ranges of a call

-- A call that the reader lets pass has them.
pub read_call_bounded : (s : List ℕ) → AreBytes s → (c : Call) → call_of s ≡ Some c → CallBounded c
unfolding call_of
read_call_bounded s h c e = go whole account contract value refl refl refl e
  where
    whole : Bool
    whole = leb call_bytes (length s)

    account : Bool
    account = ltb (number 2 s) first_contract

    contract : Bool
    contract = leb first_contract (read_le 2 s 2)

    value : Bool
    value = non_neg (signed 64 (read_le 8 s 6))

    read : Call
    read = record {
      sender = record { 0 = number 2 s };
      contract = record { 0 = read_le 2 s 2 };
      function = read_le 2 s 4;
      value = signed 64 (read_le 8 s 6);
      arg1 = read_le 4 s 14;
      arg2 = read_le 4 s 18;
      arg3 = read_le 4 s 22;
      arg4 = read_le 4 s 26;
      fuel = read_le 2 s 30;
    }

    ranges : InRanges read
    ranges = record {
      sender = number_lt 2 s h;
      contract = number_lt 2 (drop 2 s) (drop_bytes 2 s h);
      arg1 = number_lt 4 (drop 14 s) (drop_bytes 14 s h);
      arg2 = number_lt 4 (drop 18 s) (drop_bytes 18 s h);
      arg3 = number_lt 4 (drop 22 s) (drop_bytes 22 s h);
      arg4 = number_lt 4 (drop 26 s) (drop_bytes 26 s h);
    }

    other : None ≡ Some c → CallBounded c
    other f = let n : ◌≡◌ {A = ℕ} 0 1 = cc in absurd (omega arith)

    go : (w a b v : Bool) → account ≡ a → contract ≡ b → value ≡ v → (if w && a && b && v then Some read else None) ≡ Some c → CallBounded c
    go true true true true ea eb ev f =
        let same : read ≡ c = cc in
        subst CallBounded same
        (record {
          ranges = ranges;
          account = ltb-true (number 2 s) first_contract ea;
          contract = leb-true first_contract (read_le 2 s 2) eb;
          value = ev;
          small = signed_range 64 (read_le 8 s 6) (lit< tt) (number_lt 8 (drop 6 s) (drop_bytes 6 s h));
        })
    go true true true false ea eb ev f = other f
    go true true false v ea eb ev f = other f
    go true false b v ea eb ev f = other f
    go false a b v ea eb ev f = other f

-- ---- the instructions of a code

body_sound : (left size : ℕ) (s : List ℕ) → AreBytes s → All InstrSound (body_of left size s)
unfolding body_of with_instr
body_sound zero size s h = tt
body_sound (suc left) size s h =
    go (decode size s) (decode_fits size s h) (body_sound left size (drop instr_bytes s) (drop_bytes instr_bytes s h))
  where
    go : (d : Option Instr) → Decodes InstrSound d → All InstrSound (body_of left size (drop instr_bytes s))
        → All InstrSound (with_instr d (body_of left size (drop instr_bytes s)))
    go (Some i) f ih = (f, ih)
    go None f ih = ih

-- ---- what a call keeps

-- A property of states that lasts where an amount moves between two balances and where another cell takes a value; and one of values, which
-- every value of 64 bits has, and every value of such a state. A call keeps the first.
module _ (R : ℤ → Type 0) (K : State → Type 0) (fit : (z : ℤ) → mag z < 2 ^ 63 → R z) (read : (σ : State) → K σ → (k : ℕ) → R (σ k))
    (move : (σ : State) → K σ → (a b : ℕ) → a < 65536 → b < 65536 → (m : ℤ) → non_neg m ≡ true → lt_z (σ (balance_key a)) m ≡ false
    → K (credit (debit σ (balance_key a) m) (balance_key b) m))
    (other : (σ : State) → K σ → (k : ℕ) (v : ℤ) → is_balance k ≡ false → R v → K (update σ k v)) (c : Call) (fits : CallBounded c) where
  pay_keeps : (n : ℕ) → PayKeeps c K (payee_of n)
  pay_keeps n =
      payee_all (PayKeeps c K) n
      (λ other low σ m s l holds. move σ holds c.contract.0 n fits.ranges.contract (omega (arith, low)) m s l) tt

  instr_keeps : (i : Instr) → InstrSound i → InstrKeeps c R K i
  instr_keeps Stop f = tt
  instr_keeps Throw f = tt
  instr_keeps (Set x v) f = fit v (omega arith)
  instr_keeps (Arg x k) f = fit (pos (argument c k)) (omega (arith, argument_below c k fits.ranges))
  instr_keeps (Sender x) f = fit (pos c.sender.0) (omega (arith, fits.ranges.sender))
  instr_keeps (Value x) f = fit c.value fits.small
  instr_keeps (Add x y z) f = tt
  instr_keeps (Sub x y z) f = tt
  instr_keeps (Mul x y z) f = tt
  instr_keeps (Div x y z) f = tt
  instr_keeps (Get x field a b) f = λ σ holds. read σ holds _
  instr_keeps (Put x field a b) f =
      λ σ v has holds. other σ holds _ v
      (cell_is_not c.contract.0 field (source_value c a) (source_value c b) f.below (source_below c a fits.ranges f.first)
      (source_below c b fits.ranges f.second) (λ e. omega (arith, f.above))) has
  instr_keeps (Bal x) f = λ σ holds. read σ holds _
  instr_keeps (Pay x target) f = pay_keeps (source_value c target)
  instr_keeps (Jeq x y to) f = tt
  instr_keeps (Jlt x y to) f = tt

  pub call_keeps_state : (block : List ℕ) → AreBytes block → (functions : List Function) (σ : State) → K σ → K (transaction block functions c σ).state
  call_keeps_state block h functions σ holds =
      transaction_keeps c R fit K block σ holds (function_of functions c)
      (λ g e. move σ holds c.sender.0 c.contract.0 fits.ranges.sender fits.ranges.contract c.value fits.value)
      (λ g e. all_map InstrSound (InstrKeeps c R K) instr_keeps (instructions_of block g)
      (body_sound g.size g.size _
      (take_bytes (instr_bytes * g.size) (drop g.start block) (drop_bytes g.start block h))))

-- ---- the limit

abbrev pub StateWithin : State → Type 0
StateWithin σ = state_within_limit σ ≡ true

-- A state within the limit is followed by one within the limit.
pub limit_kept : (c : Call) → CallBounded c → (block : List ℕ) → AreBytes block → (functions : List Function) (σ : State) → state_within_limit σ ≡ true
    → state_within_limit (transaction block functions c σ).state ≡ true
limit_kept = call_keeps_state any_value StateWithin (λ z h. tt) (λ σ within k. tt) limit_move (λ σ within k v e any. limit_other σ within k v e)
