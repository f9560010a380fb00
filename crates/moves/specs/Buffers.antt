-- The run that a head and the lent buffers make up, and which buffers these are.
use Rattle.std.specs.Prelude.{◌≡◌}
use Rattle.machine.specs.Run.{Run}
use Rattle.machine.specs.declared.Head.{Head}
use Rattle.moves.specs.Lent.{lent}
use Rattle.moves.specs.declared.Buffers.{Buffers}

abbrev pub run_of : Head → Buffers → Run
run_of head b = lent head b.plan.now b.keys.now b.cells.now b.status.now b.seats.now b.frames.now

-- The same buffers are lent before and after: no word of the plan or of the key table changes, and the others change where they stand.
pub record SameBuffers (old new : Buffers) : Type 0 where
  pub plan : new.plan.now ≡ old.plan.now
  pub keys : new.keys.now ≡ old.keys.now
  pub cells : new.cells.ghost_name ≡ old.cells.ghost_name
  pub status : new.status.ghost_name ≡ old.status.ghost_name
  pub seats : new.seats.ghost_name ≡ old.seats.ghost_name
  pub frames : new.frames.ghost_name ≡ old.frames.ghost_name
