-- `serial::serial_run` meets its contract: the run so far is that of the calls below the next one.
use Rattle.moves.proofs.BufferLaws.{same_here, same_on}
use Rattle.serial.proofs.SerialLaws.{calls_none, calls_next}
use Rattle.serial.proofs.serial_run.Goals as goal

pub loop-call-init : goal.loop-call-init
loop-call-init c = (same_here, calls_none c.args.block.now _)

pub loop-call-preserved : goal.loop-call-preserved
loop-call-preserved c = (same_on c.loop-call.invariant.0 c.run_call-head.ensures.same, calls_next c.args.block.now _ c.loop-call.call c.loop-call.invariant.1 c.run_call-head.ensures.run)
