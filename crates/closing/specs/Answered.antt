-- What `sheet` answers: its answer and the output are the definition's, and so are the answer's number and length.
use Rattle.machine.specs.declared.Answer.{Answer}
use Rattle.std.specs.Prelude.{◌≡◌, List, ℕ, Result}
use Rattle.sheet.specs.Sheet.{Closed, closing_number, closing_length}

pub record ClosedAs (r : Result ℕ Answer) (output : List ℕ) (c : Closed) : Type 0 where
  pub same : record { answer = r; output = output } ≡ c
  pub number : closing_number r ≡ closing_number c.answer
  pub length : closing_length r ≡ closing_length c.answer
