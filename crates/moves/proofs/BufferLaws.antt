-- That the same buffers are lent: of a run that nothing was done with, and of one thing behind another.
use mathlib.Core.Path.{refl, ◌∙◌}
use Rattle.moves.specs.declared.Buffers.{Buffers}
use Rattle.moves.specs.Buffers.{SameBuffers}

pub same_here : {b : Buffers} → SameBuffers b b
same_here = record { plan = refl; keys = refl; cells = refl; status = refl; seats = refl; frames = refl }

pub same_on : {b q s : Buffers} → SameBuffers b q → SameBuffers q s → SameBuffers b s
same_on h g =
    record {
      plan = g.plan ∙ h.plan;
      keys = g.keys ∙ h.keys;
      cells = g.cells ∙ h.cells;
      status = g.status ∙ h.status;
      seats = g.seats ∙ h.seats;
      frames = g.frames ∙ h.frames;
    }
