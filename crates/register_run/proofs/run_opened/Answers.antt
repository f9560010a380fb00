-- `register_run::run_opened` meets its contract: the input is played, and behind it come its end and the close.
use Rattle.register_run.proofs.Laws.{runs_on}
use Rattle.register_run.proofs.run_opened.Goals as goal

pub returns-clause-runs : goal.returns-clause-runs
returns-clause-runs g c =
    runs_on c.play_input-i.ensures.played c.finish-exchange.ensures.text c.finish-exchange.ensures.received c.requires
