-- Laws over plain variables: a key's two words, and the instructions that use no key.
use mathlib.Core.Path.{◌≡◌, refl}
use mathlib.Core.Bool.{Bool}
use mathlib.Core.List.{[]}
use Prim.Native.Nat.{ℕ, ◌+◌, ◌*◌, ◌/◌, ◌%◌, ◌^◌, ◌<◌}
use native.Mathlib.Omega.{arith}
use Rattle.block.specs.Key.{key_of}
use Rattle.block.specs.declared.Call.{Call}
use Rattle.block.specs.declared.Source.{Source}
use Rattle.block.specs.declared.Instr.{Instr}
use Rattle.block.specs.declared.Instr.TheVariants.{Stop, Throw, Set, Arg, Sender, Value, Add, Sub, Mul, Div, Get, Put, Bal, Pay, Jeq, Jlt}
use Rattle.footprint.specs.Access.{accesses}
use Rattle.key_uses.specs.Uses.{use_of}
use Rattle.key_uses.specs.declared.KeyUse.{KeyUse}

-- The words of a key are its upper parts and its last one.
pub key_words_lem : (address field a b : ℕ) (reads writes : Bool) → b < 2 ^ 32
    → ◌≡◌ {A = KeyUse}
    (record { high = address * 2 ^ 48 + field * 2 ^ 32 + a; low = b; reads = reads; writes = writes })
    (use_of (record { key = key_of address field a b; reads = reads; writes = writes }))
unfolding use_of
key_words_lem address field a b reads writes h =
    let high : address * 2 ^ 48 + field * 2 ^ 32 + a ≡ (address * 2 ^ 80 + field * 2 ^ 64 + a * 2 ^ 32 + b) / 2 ^ 32 = omega arith in
    let low : b ≡ (address * 2 ^ 80 + field * 2 ^ 64 + a * 2 ^ 32 + b) % 2 ^ 32 = omega arith in
    λ i. record { high = high i; low = low i; reads = reads; writes = writes }

-- The instructions other than GET, PUT, BAL and PAY use no key.
pub others_none : (c : Call) (i : Instr) → ((x field : ℕ) (a b : Source) → i ≡ Get x field a b → ⊥) → ((x field : ℕ) (a b : Source) → i ≡ Put x field a b → ⊥)
    → ((x : ℕ) → i ≡ Bal x → ⊥) → ((x : ℕ) (target : Source) → i ≡ Pay x target → ⊥) → accesses c i ≡ []
unfolding accesses
others_none c Stop gets puts bals pays = refl
others_none c Throw gets puts bals pays = refl
others_none c (Set x value) gets puts bals pays = refl
others_none c (Arg x k) gets puts bals pays = refl
others_none c (Sender x) gets puts bals pays = refl
others_none c (Value x) gets puts bals pays = refl
others_none c (Add x y z) gets puts bals pays = refl
others_none c (Sub x y z) gets puts bals pays = refl
others_none c (Mul x y z) gets puts bals pays = refl
others_none c (Div x y z) gets puts bals pays = refl
others_none c (Get x field a b) gets puts bals pays = absurd (gets x field a b refl)
others_none c (Put x field a b) gets puts bals pays = absurd (puts x field a b refl)
others_none c (Bal x) gets puts bals pays = absurd (bals x refl)
others_none c (Pay x target) gets puts bals pays = absurd (pays x target refl)
others_none c (Jeq x y to) gets puts bals pays = refl
others_none c (Jlt x y to) gets puts bals pays = refl
