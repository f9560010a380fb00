-- `host::print` meets its contract: where the text is not written, nothing is kept of it.
use mathlib.Core.Path.{refl, ap}
use borrow.Author.Tests.{not-true}
use Rattle.host.specs.declared.Exchange.{Exchange}
use Rattle.host.proofs.Laws.{handed_none}
use Rattle.host.proofs.print.Goals as goal

pub returns-then-not-x-clause-text : goal.returns-then-not-x-clause-text
returns-then-not-x-clause-text g c = handed_none _ _ _ _ (not-true _ c.if-not-x.true) refl

pub returns-in_default-clause-text : goal.returns-in_default-clause-text
returns-in_default-clause-text g c = handed_none _ _ _ _ refl refl

pub returns-in-Err-clause-text : goal.returns-in-Err-clause-text
returns-in-Err-clause-text g c =
    handed_none _ _ _ _ (ap (λ (y : Exchange). y.ok) c.stop.ensures) (ap (λ (y : Exchange). y.sent) c.stop.ensures)
