-- A listing fits its buffer, and stands at its front.
use mathlib.Core.Path.{◌≡◌, ap, ◌∙◌}
use mathlib.Core.List.{List}
use Prim.Native.Nat.{ℕ, ◌≤◌}
use native.Mathlib.Omega.{arith}
use lib.IntN.{ℤ}
use lib.ListN.{length, take}
use Rattle.machine.specs.Run.{Sizes, fixed_sizes}
use Rattle.listing.specs.Listing.{Listed, listing_of, max_listing}
use Rattle.listing.proofs.ListingSizes.{listing_fits}
use Rattle.host.proofs.Laws.{front}

module _ {file : List ℕ} {s : Sizes} {plan keys : List ℕ} {cells : List ℤ} {status seats : List ℕ} {frames : List ℤ} {before after : List ℕ} {n : ℕ}
    (l : Listed file s plan keys cells status seats frames before after n) where
  pub listing_room : n ≤ max_listing
  listing_room = omega (arith, l.text.end, listing_fits s file)

  pub listing_front : s ≡ fixed_sizes → max_listing ≤ length before → take n after ≡ listing_of fixed_sizes file
  listing_front e r = front l.text (omega (arith, listing_room)) ∙ ap (λ (z : Sizes). listing_of z file) e
