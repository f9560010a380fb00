-- `host::explains` meets its contract: it compares with the program's own name.
use mathlib.Core.Path.{sym}
use native.Mathlib.Omega.{arith}
use borrow.Author.Tests.{le-ltb, lt-ltb}
use Rattle.host.specs.Exchange.{has_arguments}
use Rattle.host.proofs.explains.Goals as goal

pub returns-then-arguments-le1 : goal.returns-then-arguments-le1
unfolding has_arguments
returns-then-arguments-le1 g c = sym (le-ltb 1 c.args.arguments (omega arith))

pub returns : goal.returns
unfolding has_arguments
returns g c = sym (lt-ltb 1 c.args.arguments (omega arith))
