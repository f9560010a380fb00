-- `register_run::run` meets its contract: the line of a refused block is said, an accepted one is run.
use mathlib.Core.Path.{refl}
use native.Mathlib.Omega.{arith}
use Rattle.register_run.proofs.Laws.{runs_accepted, runs_refused}
use Rattle.register_run.proofs.run.Goals as goal

pub returns-in-Err : goal.returns-in-Err
returns-in-Err g c =
    runs_refused (omega arith) (rw c.in-Err.is at c.«open».ensures.same) c.in-Err.why refl c.refuse_block-exchange.ensures.text c.refuse_block-exchange.ensures.received

pub returns-in-Ok : goal.returns-in-Ok
returns-in-Ok g c =
    runs_accepted (omega (arith, c.ranges.limit.fits)) (rw c.in-Ok.is at c.«open».ensures.same) refl c.run_opened.ensures.runs
