-- The words of a head: what a worker's word is read as, and what is stored of it behind a move.
use mathlib.Core.Path.{◌≡◌, refl}
use mathlib.Core.Bool.{Bool, true, false}
use mathlib.Core.List.{List}
use Prim.Native.Nat.{ℕ, zero, suc, ◌+◌, ◌<◌}
use native.Mathlib.Omega.{arith}
use lib.Dec.{eqb, leb}
use lib.ListN.{length, get_or, length-set}
use borrow.Author.Tests.{eq-eqb}
use Rattle.std.specs.Prelude.{if◌then◌else◌}
use Rattle.arith.proofs.ChoiceLaws.{if_all}
use Rattle.wire.specs.Bytes.{below}
use Rattle.block.specs.Limits.{max_workers}
use Rattle.machine.specs.Run.{held_at}
use Rattle.machine.specs.declared.Head.{Head}
use Rattle.exports.specs.Words.{first_held, held_number, held_in, head_in, held_stored}

-- Each of the eight workers is read by its own word.
pub held_read : (head : List ℕ) (worker : ℕ) → worker < max_workers → held_at (head_in head) worker ≡ held_number (get_or head (first_held + worker) 0)
unfolding held_in below
held_read head zero l = refl
held_read head (suc zero) l = refl
held_read head (suc (suc zero)) l = refl
held_read head (suc (suc (suc zero))) l = refl
held_read head (suc (suc (suc (suc zero)))) l = refl
held_read head (suc (suc (suc (suc (suc zero))))) l = refl
held_read head (suc (suc (suc (suc (suc (suc zero)))))) l = refl
held_read head (suc (suc (suc (suc (suc (suc (suc zero))))))) l = refl
held_read head (suc (suc (suc (suc (suc (suc (suc (suc n)))))))) l = absurd (omega arith)

alike : {A : Type 0} (t : Bool) {x y : A} → y ≡ x → (if t then x else y) ≡ x
alike true e = refl
alike false e = e

-- A head that stands for the same workers' calls as before is stored as it was.
pub unmoved : (head : List ℕ) (worker : ℕ) → held_stored head (head_in head) worker ≡ head
unfolding held_stored
unmoved head worker = alike (leb max_workers worker) (rw (eq-eqb (held_at (head_in head) worker) (held_at (head_in head) worker) refl))

-- No word is added or lost.
pub stored_length : (head : List ℕ) (after : Head) (worker : ℕ) → length (held_stored head after worker) ≡ length head
unfolding held_stored
stored_length head after worker =
    if_all Kept (leb max_workers worker) (λ _. refl) λ _.
    if_all Kept (eqb (held_at (head_in head) worker) (held_at after worker)) (λ _. refl) λ _.
    length-set head (first_held + worker) (held_at after worker)
  where
    Kept : List ℕ → Type 0
    Kept l = length l ≡ length head
