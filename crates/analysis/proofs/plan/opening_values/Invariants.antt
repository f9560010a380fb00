use mathlib.Core.Path.{◌≡◌}
use lib.ListN.{length}
use Rattle.footprint.specs.KeyWords.{keys_in}
use Rattle.block.specs.BlockOfFile.{block_of}
use Rattle.analysis.proofs.PreparedLaws.{opened_to}
use Rattle.analysis.proofs.plan.opening_values.Given as goal

abbrev pub invariant-loop-i : goal.invariant-loop-i
invariant-loop-i l = l.values ≡ opened_to (block_of l.file).cells (keys_in l.n l.keys) (length l.initial.values) l.i
