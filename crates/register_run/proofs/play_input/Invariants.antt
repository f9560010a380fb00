use Rattle.moves.specs.Buffers.{run_of, SameBuffers}
use Rattle.play.specs.Shown.{fresh_session}
use Rattle.register_run.proofs.Laws.{InputPlaying}
use Rattle.register_run.proofs.play_input.Given as goal

abbrev pub invariant-loop-left : goal.invariant-loop-left
invariant-loop-left g l =
    SameBuffers l.initial.run l.run
    × InputPlaying l.output l.block (fresh_session l.initial.s.number l.initial.s.line (run_of l.initial.s.head l.initial.run)) l.initial.exchange l.limit l.initial.transcript l.s (run_of l.s.head l.run) l.exchange l.left l.transcript

abbrev pub decreases-loop-left : goal.decreases-loop-left
decreases-loop-left g l =
    l.left
