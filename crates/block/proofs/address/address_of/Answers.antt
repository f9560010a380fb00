-- `block::address::address_of` meets its contract: the test is the definition's.
use borrow.Author.Tests.{le-ltb, lt-ltb}
use Rattle.block.specs.Key.{address_of}
use Rattle.block.proofs.address.address_of.Goals as goal

pub returns-then-n-lt-FIRST_CONTRACT : goal.returns-then-n-lt-FIRST_CONTRACT
unfolding address_of
returns-then-n-lt-FIRST_CONTRACT c = simp (lt-ltb _ _ c.if-n-lt-FIRST_CONTRACT.true)

pub returns-else-n-lt-FIRST_CONTRACT : goal.returns-else-n-lt-FIRST_CONTRACT
unfolding address_of
returns-else-n-lt-FIRST_CONTRACT c = simp (le-ltb _ _ c.if-n-lt-FIRST_CONTRACT.false)
