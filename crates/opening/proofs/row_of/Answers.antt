-- `opening::row_of` meets its contract: the first words of the rest of the plan are the row.
use mathlib.Core.Path.{ap, sym, ◌∙◌}
use lib.ListN.{drop}
use Prim.Native.Nat.{ℕ, ◌+◌, ◌*◌}
use Rattle.std.proofs.lemmas.List.{drop_min}
use Rattle.wire.specs.RowOps.{row_from}
use Rattle.wire.proofs.ListLaws.{to_the_end}
use Rattle.opening.proofs.WaitsLaws.{row_front}
use Rattle.opening.proofs.row_of.Goals as goal

pub returns : goal.returns
returns c =
    let at = 32 * c.args.call + 27 in
    let plan = c.args.plan.now in
    c.row_from.ensures
    ∙ ap row_from (to_the_end plan c.min.result ∙ ap (λ (n : ℕ). drop n plan) c.min.ensures ∙ drop_min at plan) ∙ sym (row_front (drop at plan))
