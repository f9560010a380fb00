-- The uses of keys as the code holds them: a key in two words, and at most two uses of one instruction.
use Rattle.std.specs.Prelude.{false, List, [], ◌∷◌}
use Rattle.footprint.specs.Access.{Access}
use Rattle.footprint.specs.Plan.{high_word, low_word}
use Rattle.key_uses.specs.declared.KeyUse.{KeyUse}
use Rattle.key_uses.specs.declared.Uses.{Uses}

-- An access, with its key in two words.
unfoldable pub use_of : Access → KeyUse
use_of a = record { high = high_word a.key; low = low_word a.key; reads = a.reads; writes = a.writes }

abbrev pub no_use : KeyUse
no_use = record { high = 0; low = 0; reads = false; writes = false }

-- The first two of a list of accesses; an instruction has no more.
unfoldable pub uses_of : List Access → Uses
uses_of [] = record { count = 0; first = no_use; second = no_use }
uses_of (a ∷ []) = record { count = 1; first = use_of a; second = no_use }
uses_of (a ∷ b ∷ more) = record { count = 2; first = use_of a; second = use_of b }
