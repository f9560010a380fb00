-- The mathematics of the proofs of `lookup`, over plain variables: the search among a call's entries, from each on.
use mathlib.Core.Path.{◌≡◌, ◌∙◌}
use mathlib.Core.Bool.{true, false, ◌&&◌, ◌||◌, not}
use mathlib.Core.List.{List}
use Prim.Native.Nat.{ℕ, ◌+◌, ◌≤◌, ◌<◌}
use borrow.Author.Tests.{le-ltb, lt-ltb}
use lib.ListN.{length, get_or, drop}
use Rattle.std.specs.Prelude.{if◌then◌else◌, None, Option, Some}
use Rattle.std.proofs.lemmas.List.{at_drop_more, at_drop_all}
use Rattle.block.specs.Limits.{max_keys}
use Rattle.footprint.specs.Plan.{entry_cell, entry_reads, entry_writes}
use Rattle.footprint.specs.Access.{Access}
use Rattle.machine.specs.Run.{has_key}
use Rattle.machine.specs.Step.{find_entry}

-- The entry that has the key.
abbrev pub kept_by : ℕ → Access → Option ℕ
kept_by e a = if (not a.reads || entry_reads e) && (not a.writes || entry_writes e) then Some (entry_cell e) else None

-- The search from the k-th entry on.
module _ (keys es : List ℕ) (a : Access) (k : ℕ) where
  module _ (l : k < length es) where
    pub find_past : max_keys ≤ entry_cell (get_or es k 0) → find_entry keys (drop k es) a ≡ None
    unfolding find_entry
    find_past h = at_drop_more (λ rest. find_entry keys rest a) es k 0 l ∙ rw (le-ltb (entry_cell (get_or es k 0)) max_keys h)

    module _ (h : entry_cell (get_or es k 0) < max_keys) where
      pub find_here : has_key keys (entry_cell (get_or es k 0)) a.key ≡ true → find_entry keys (drop k es) a ≡ kept_by (get_or es k 0) a
      unfolding find_entry
      find_here t = at_drop_more (λ rest. find_entry keys rest a) es k 0 l ∙ rw (lt-ltb (entry_cell (get_or es k 0)) max_keys h, t)

      pub find_next : has_key keys (entry_cell (get_or es k 0)) a.key ≡ false → find_entry keys (drop k es) a ≡ find_entry keys (drop (k + 1) es) a
      unfolding find_entry
      find_next t = at_drop_more (λ rest. find_entry keys rest a) es k 0 l ∙ rw (lt-ltb (entry_cell (get_or es k 0)) max_keys h, t)

  pub find_end : length es ≤ k → find_entry keys (drop k es) a ≡ None
  unfolding find_entry
  find_end l = at_drop_all (λ rest. find_entry keys rest a) es k l
