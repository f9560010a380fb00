-- `wire::write_across` meets its contract: each turn writes one byte more of the number and leaves the rest of it.
use mathlib.Core.Path.{ap, ◌∙◌}
use mathlib.Core.List.{List}
use Prim.Native.Nat.{ℕ, ◌+◌, ◌-◌, ◌/◌}
use Rattle.wire.specs.Bytes.{write_le}
use Rattle.wire.proofs.Laws.{write_more, write_done}
use Rattle.wire.proofs.write_across.Goals as goal

pub loop-i-preserved : goal.loop-i-preserved
loop-i-preserved c = ap (λ (t : List ℕ). write_le (c.args.n - (c.loop-i.i + 1)) t (c.args.at + (c.loop-i.i + 1)) (c.loop-i.rest / 256)) c.put.ensures ∙ write_more c.loop-i.s c.args.at c.args.n c.loop-i.i c.loop-i.rest c.loop-i-test.true ∙ c.loop-i.invariant

pub returns : goal.returns
returns c = write_done c.loop-i.s _ c.args.n c.loop-i.i c.loop-i.rest c.loop-i-test.false c.loop-i.invariant
