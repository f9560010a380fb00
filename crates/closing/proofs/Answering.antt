-- Equal answers have equal numbers and lengths.
use Rattle.std.specs.Prelude.{Result}
use Rattle.machine.specs.declared.Answer.{Answer}
use mathlib.Core.Path.{◌≡◌, ap}
use mathlib.Core.List.{List}
use Prim.Native.Nat.{ℕ}
use Rattle.sheet.specs.Sheet.{Closed, closing_number, closing_length}
use Rattle.closing.specs.Answered.{ClosedAs}

pub closed_as : {r : Result ℕ Answer} {output : List ℕ} {c : Closed} → record { answer = r; output = output } ≡ c → ClosedAs r output c
closed_as e =
    record {
      same = e;
      number = ap (λ (c : Closed). closing_number c.answer) e;
      length = ap (λ (c : Closed). closing_length c.answer) e;
    }
