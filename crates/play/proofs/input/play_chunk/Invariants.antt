use Rattle.moves.specs.Buffers.{run_of, SameBuffers}
use Rattle.play.specs.Shown.{shown_from}
use Rattle.play.proofs.PlayingLaws.{Playing}
use Rattle.play.proofs.input.play_chunk.Given as goal

abbrev pub invariant-loop-x : goal.invariant-loop-x
invariant-loop-x l =
    SameBuffers l.initial.lent l.lent
    × Playing l.block l.x-items (shown_from l.initial.session.number l.initial.session.line (run_of l.initial.session.head l.initial.lent) l.initial.out l.initial.length) l.x-index (shown_from l.session.number l.session.line (run_of l.session.head l.lent) l.out l.length)
