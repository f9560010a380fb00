use Rattle.text.proofs.Bits.{WritingBits}
use Rattle.text.proofs.put_bits.Given as goal

abbrev pub invariant-loop-call : goal.invariant-loop-call
invariant-loop-call l = WritingBits l.row l.initial.out l.out l.at l.end l.call
