-- Accesses that are uses of keys, and sets whose keys are all in a table.
use Rattle.std.specs.Prelude.{◌≡◌, true, ◌||◌, List, ℕ}
use Rattle.wire.specs.All.{All}
use Rattle.footprint.specs.Access.{Access}
use Rattle.footprint.specs.Conflict.{member}

-- An access that reads or writes, of a key that passes K.
pub record Keyed (K : ℕ → Type 0) (e : Access) : Type 0 where
  pub used : (e.reads || e.writes) ≡ true
  pub keyed : K e.key

abbrev pub any_key : ℕ → Type 0
any_key k = Unit {0}

abbrev pub Used : Access → Type 0
Used e = Keyed any_key e

-- An access that reads or writes, with a key in the table; and sets of such accesses.
pub record AccessListed (keys : List ℕ) (e : Access) : Type 0 where
  pub in_table : member e.key keys ≡ true
  pub has_use : Used e

abbrev pub AllListed : List ℕ → List Access → Type 0
AllListed keys s = All (AccessListed keys) s

abbrev pub EveryListed : List ℕ → List (List Access) → Type 0
EveryListed keys sets = All (AllListed keys) sets
