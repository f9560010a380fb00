-- The mathematics of a transfer in `perform`, over plain variables: what its tests tell, and both halves behind them.
use mathlib.Core.Path.{◌≡◌, refl, sym, ap, ◌∙◌}
use mathlib.Core.Bool.{Bool, true, false}
use mathlib.Core.List.{List}
use Prim.Native.Nat.{ℕ, ◌+◌}
use native.Mathlib.Omega.{arith}
use lib.IntN.{ℤ, pos, ◌+ℤ◌, ◌-ℤ◌}
use lib.ListN.{set}
use lib.Signed.{lt_z, le_z, non_neg}
use mir.Syntax.{w64}
use mir.Val.{SFits}
use Rattle.arith.specs.Balance.{largest}
use Rattle.arith.proofs.IntegerLaws.{sum, diff, lt_z_false, non_neg_true, le_le_z, sfits_parts, parts_sfits, not_negative}
use Rattle.arith.proofs.Laws.{read, read_back, read_fits, diff_fits}
use Rattle.footprint.specs.Access.{Access}
use Rattle.machine.specs.Step.{cell_at, deposit_cell, transfer_cells, lookup}
use Rattle.moves.specs.Turn.{StandsForPlace, cell_view, lookup_in, turned}
use Rattle.moves.specs.declared.Turn.TheVariants.{Going}
use Rattle.std.specs.Prelude.{Option, Some}
use Rattle.moves.specs.declared.Turn.{Turn}

-- ---- signs of a value that the machine read

module _ {z : ℤ} (f : SFits w64 z) where
  pub read_above : lt_z (read z) (pos 0) ≡ false → non_neg z ≡ true
  read_above e = not_negative z (sym (ap (λ (x : ℤ). lt_z x (pos 0)) (read_back f)) ∙ e)

  pub read_less : {y : ℤ} {b : Bool} → SFits w64 y → lt_z (read z) (read y) ≡ b → lt_z z y ≡ b
  read_less {y} g e = sym (ap (λ (x : ℤ). lt_z x (read y)) (read_back f) ∙ ap (lt_z z) (read_back g)) ∙ e

-- ---- the second half of a transfer

largest_fits : SFits w64 largest
largest_fits = record { sfits = omega arith }

module _ {there : ℤ} (f : SFits w64 there) (above : lt_z (read there) (pos 0) ≡ false) where
  -- The room above a value that is not below zero.
  pub room_fits : SFits w64 (largest -ℤ read there)
  room_fits = diff_fits largest_fits (read_fits f) false refl above

  module _ {amount : ℤ} (g : SFits w64 amount) where
    room_test : {b : Bool} → lt_z (read (largest -ℤ read there)) (read amount) ≡ b → lt_z (largest -ℤ there) amount ≡ b
    room_test e = ap (λ (x : ℤ). lt_z (largest -ℤ x) amount) (sym (read_back f)) ∙ read_less room_fits g e

    has_room : lt_z (read (largest -ℤ read there)) (read amount) ≡ false → le_z (there +ℤ amount) largest ≡ true
    has_room e =
        le_le_z (there +ℤ amount) largest
        (omega (arith, sum there amount, diff largest there, lt_z_false (largest -ℤ there) amount (room_test e)))

    sum_fits : non_neg amount ≡ true → lt_z (read (largest -ℤ read there)) (read amount) ≡ false → SFits w64 (there +ℤ amount)
    sum_fits nonneg e =
        parts_sfits w64 (there +ℤ amount)
        (omega (arith, sum there amount, diff largest there, lt_z_false (largest -ℤ there) amount (room_test e), non_neg_true there (read_above f above), non_neg_true amount nonneg, sfits_parts f, sfits_parts g))

    -- The sum fits where there is room for it.
    pub into_fits : non_neg amount ≡ true → lt_z (read (largest -ℤ read there)) (read amount) ≡ false → SFits w64 (read there +ℤ read amount)
    into_fits nonneg e = rw (read_back f, read_back g) (sum_fits nonneg e)

rest_fits : {held amount : ℤ} → SFits w64 held → SFits w64 amount → non_neg amount ≡ true → lt_z held amount ≡ false → SFits w64 (held -ℤ amount)
rest_fits {held} {amount} f g nonneg e =
    parts_sfits w64 (held -ℤ amount) (omega (arith, diff held amount, lt_z_false held amount e, non_neg_true amount nonneg, sfits_parts f, sfits_parts g))

-- What is left of a value that holds the amount fits.
pub from_fits : {held amount : ℤ} → SFits w64 held → SFits w64 amount → non_neg amount ≡ true → lt_z held amount ≡ false → SFits w64 (read held -ℤ read amount)
from_fits f g nonneg e = rw (read_back f, read_back g) (rest_fits f g nonneg e)

module _ (place count : ℕ) (regs : List ℤ) {amount : ℤ} (g : SFits w64 amount) (n m : ℕ) (cells : List ℤ) {there : ℤ} (f : SFits w64 there) (at : there ≡ cell_at cells m) where
  pub deposit_done : lt_z (read there) (pos 0) ≡ false → lt_z (read (largest -ℤ read there)) (read amount) ≡ false → non_neg amount ≡ true
      → {held : ℤ} → SFits w64 held → held ≡ cell_at cells n → lt_z held amount ≡ false → {mid after : List ℤ}
      → mid ≡ set cells n (read (read held -ℤ read amount)) → after ≡ set mid m (read (read there +ℤ read amount))
      → StandsForPlace (Some (Going (place + 1) count regs)) after cells (deposit_cell place count regs amount n cells (Some m))
  unfolding deposit_cell
  deposit_done e r nonneg {held} h from holds p q =
      let paid : read (read held -ℤ read amount) ≡ held -ℤ amount = read_back (from_fits h g nonneg holds) ∙ rw (read_back h, read_back g) in
      let taken : read (read there +ℤ read amount) ≡ there +ℤ amount = read_back (into_fits f e g nonneg r) ∙ rw (read_back f, read_back g) in
      rw (q, p, paid, taken, ← at, ← from, read_above f e, has_room f e g r)

-- ---- the whole of a transfer

pub transfer_enough : (plan keys : List ℕ) (c place count : ℕ) (regs : List ℤ) {amount : ℤ} → SFits w64 amount → (short : ℕ) (to : Access) (cells : List ℤ)
    → {found : Option ℕ} {n : ℕ} → found ≡ Some n → {held : ℤ} → SFits w64 held → held ≡ cell_at cells n
    → lt_z (read held) (pos 0) ≡ false → lt_z (read held) (read amount) ≡ false → {t : Option Turn} {after : List ℤ}
    → StandsForPlace t after cells (deposit_cell place count regs (read amount) n cells (lookup_in plan keys c to))
    → StandsForPlace t after cells (transfer_cells (cell_view plan keys c) place count regs amount short to cells found)
unfolding transfer_cells lookup
transfer_enough plan keys c place count regs g short to cells {n = n} here f at above e p =
    rw (here, ← at, read_above f above, read_less f g e)
    (p ∙ ap (λ (x : ℤ). turned cells (deposit_cell place count regs x n cells (lookup_in plan keys c to))) (read_back g))
