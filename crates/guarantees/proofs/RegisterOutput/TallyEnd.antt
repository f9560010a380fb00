-- The end of a tally: all calls are finished, or one is not.
use mathlib.Core.Path.{◌≡◌, refl}
use mathlib.Core.Bool.{Bool, true, false, ◌&&◌, true≢false, false≢true}
use Prim.Native.Nat.{ℕ, zero, suc, ◌≤◌, ◌<◌}
use native.Mathlib.Omega.{arith}
use borrow.Author.Tests.{ltb-true, ltb-false}
use lib.Dec.{ltb}
use Rattle.arith.proofs.ChoiceLaws.{both}
use Rattle.schedule.specs.Tally.{Tally, finished, is_finished}
use Rattle.schedule.proofs.Valid.{is_finished_lem}
use Rattle.guarantees.specs.RegisterByTally.{finished_below}

-- All calls are finished, or one is not.
pub all_finished_lem : (t : Tally) (n : ℕ) → finished_below t n ≡ true → (c : ℕ) → c < n → t.phase c ≡ finished
unfolding finished_below
all_finished_lem t zero e c l = absurd (omega arith)
all_finished_lem t (suc n) e c l =
    let each : (is_finished (t.phase n) ≡ true) × (finished_below t n ≡ true) = both (is_finished (t.phase n)) (finished_below t n) e in
    go (ltb c n) refl (all_finished_lem t n each.1 c) (is_finished_lem (t.phase n) each.0)
  where
    go : (b : Bool) → ltb c n ≡ b → (c < n → t.phase c ≡ finished) → t.phase n ≡ finished → t.phase c ≡ finished
    go true h earlier last = earlier (ltb-true c n h)
    go false h earlier last = let below : n ≤ c = ltb-false c n h in let here : c ≡ n = omega arith in rw here last

pub second_fails : (s t : Bool) → (s && t) ≡ false → s ≡ true → t ≡ false
second_fails true t e h = e
second_fails false t e h = absurd (false≢true h)

pub some_unfinished : (t : Tally) (n : ℕ) → finished_below t n ≡ false → (c : ℕ) × (c < n) × (is_finished (t.phase c) ≡ false)
unfolding finished_below
some_unfinished t zero e = absurd (true≢false e)
some_unfinished t (suc n) e = go (is_finished (t.phase n)) refl (some_unfinished t n)
  where
    go : (b : Bool) → is_finished (t.phase n) ≡ b → (finished_below t n ≡ false → (c : ℕ) × (c < n) × (is_finished (t.phase c) ≡ false))
        → (c : ℕ) × (c < suc n) × (is_finished (t.phase c) ≡ false)
    go true h earlier =
        let found = earlier (second_fails (is_finished (t.phase n)) (finished_below t n) e h) in
        (found.0, (let below : found.0 < n = found.1 in omega arith), found.2)
    go false h earlier = (n, omega arith, h)
