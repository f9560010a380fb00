-- `play::input::play_chunk` meets its contract: at every byte what is left of the piece gives what the whole would have given.
use mathlib.Core.Path.{◌≡◌, ◌∙◌}
use Prim.Native.Nat.{min}
use lib.ListN.{length}
use Rattle.std.proofs.Common.{rules}
use Rattle.moves.specs.Buffers.{run_of}
use Rattle.moves.proofs.BufferLaws.{same_on}
use Rattle.play.specs.Shown.{shown_from}
use Rattle.play.proofs.PlayingLaws.{byte_feed, byte_read, playing_on, playing_all}
use Rattle.play.proofs.input.play_chunk.Goals as goal
use Rattle.play.proofs.input.play_chunk.Goals.{then-x-eq-LINE_FEED, else-x-eq-LINE_FEED}

pub loop-x-preserved : goal.loop-x-preserved
loop-x-preserved c =
    let a = c.args in
    let l = c.loop-x in
    elim c.if-x-eq-LINE_FEED.branch [
      | then-x-eq-LINE_FEED w ↦ (
        rw w.lent-is (same_on l.invariant.0 w.play_line-length.ensures.same),
        playing_on l.invariant.1 c.loop-x-test.true
            ((λ i. shown_from (w.session-is i).number (w.session-is i).line (run_of (w.session-is i).head (w.lent-is i)) (w.out-is i) (w.length-is i))
            ∙ byte_feed a.block.now l.session.number l.session.line _ _ l.length _ w.if-x-eq-LINE_FEED.true w.play_line-length.ensures.played),
      )
      | else-x-eq-LINE_FEED w ↦ (
        rw w.lent-is l.invariant.0,
        playing_on l.invariant.1 c.loop-x-test.true
            ((λ i. shown_from (w.session-is i).number (w.session-is i).line (run_of (w.session-is i).head (w.lent-is i)) (w.out-is i) (w.length-is i))
            ∙ byte_read a.block.now l.session.number l.session.line _ _ l.length _ w.if-x-eq-LINE_FEED.false w.read_byte-session.ensures),
      )
    ]

pub returns-clause-played : goal.returns-clause-played
returns-clause-played c =
    let a = c.args in
    let e : c.min-end.result ≡ min a.n (length a.chunk.now) = search rules in
    let h = playing_all a.block.now a.chunk.now a.n e c.loop-x-test.false c.loop-x.invariant.1 in
    let s = c.loop-x.invariant.0 in
    search (rules, h, s)
