-- `register_run::play_input` meets its contract: each piece is played behind those before it, and what may still come is less.
use mathlib.Core.Path.{sym, ◌∙◌}
use mathlib.Core.Bool.{true, false, true≢false}
use borrow.Author.Tests.{not-true}
use Prim.Native.Nat.{◌-◌}
use native.Mathlib.Omega.{arith}
use Rattle.moves.proofs.BufferLaws.{same_here, same_on}
use Rattle.register_run.proofs.Laws.{input_start, input_on, input_of}
use Rattle.register_run.proofs.play_input.Goals as goal

pub loop-left-init : goal.loop-left-init
loop-left-init g c = (same_here, input_start _ _ _ _ _ _ _)

pub returns-then-piece-eq0-clause-played : goal.returns-then-piece-eq0-clause-played
returns-then-piece-eq0-clause-played g c =
    input_of (input_on c.loop-left.invariant.1 c.play_some-piece.ensures.played (omega (arith, c.min-most.ensures)) {rest = c.loop-left.left} (omega (arith, c.if-piece-eq0.true))) true (λ ok e. absurd (true≢false e))

pub returns-then-not-exchange-clause-played : goal.returns-then-not-exchange-clause-played
returns-then-not-exchange-clause-played g c =
    input_of (input_on c.loop-left.invariant.1 c.play_some-piece.ensures.played (omega (arith, c.min-most.ensures)) {rest = c.loop-left.left - c.play_some-piece.result.taken} (omega (arith, c.play_some-piece.ensures.played.within, c.min-most.ensures)))
    false (λ ok e. absurd (true≢false (sym ok ∙ not-true _ c.if-not-exchange.true)))

pub loop-left-preserved : goal.loop-left-preserved
loop-left-preserved g c = (
  same_on c.loop-left.invariant.0 c.play_some-piece.ensures.same,
  input_on c.loop-left.invariant.1 c.play_some-piece.ensures.played (omega (arith, c.min-most.ensures)) {rest = c.loop-left.left - c.play_some-piece.result.taken} (omega (arith, c.play_some-piece.ensures.played.within, c.min-most.ensures)),
)
