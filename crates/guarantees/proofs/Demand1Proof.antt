-- Demand 1 holds: the reader is exact, and each number and what it leaves is read off the definition, test by test.
use Rattle.block.proofs.ReaderExact.{reader_exact}
use Rattle.block.proofs.FileFaults.{refusals_exact}
use Rattle.machine.specs.Moves.{step_of}
use Rattle.guarantees.specs.Demand1.{Demand1}
use Rattle.guarantees.proofs.NumbersByCondition.ByNumbers.{accepted_exactly, damaged_exactly}
use Rattle.guarantees.proofs.NumbersByCondition.OpeningNumbers.{opens, opens_not, cleared}
use Rattle.guarantees.proofs.NumbersByCondition.BeginNumbers.{begin_numbers}
use Rattle.guarantees.proofs.NumbersByCondition.HeldNumbers.{steps, cancels, cancel_accepted, unmoved}
use Rattle.guarantees.proofs.NumbersByCondition.FinishNumbers.{finish_accepted, finish_lowers}
use Rattle.guarantees.proofs.NumbersByCondition.StepNumbers.{step_accepted, step_damaged}
use Rattle.guarantees.proofs.NumbersByCondition.SheetNumbers.{closes, sheet_writes, unwritten_left}

pub demand_1 : Demand1
demand_1 =
    record {
      reader = reader_exact;
      faults = refusals_exact;
      opens = opens;
      opens_not = opens_not;
      begins = begin_numbers;
      steps = steps;
      steps_accepted = λ block r worker. accepted_exactly (step_of block r worker).answer (step_accepted block r worker);
      steps_20 = λ block r worker. damaged_exactly (step_of block r worker).answer (step_damaged block r worker);
      cancels = cancels;
      cancelled = cancel_accepted;
      finishes = λ r worker call. finish_accepted r call worker;
      lowers = λ r worker call. finish_lowers r call worker;
      closes = closes;
      writes = sheet_writes;
      cleared = cleared;
      unmoved = unmoved;
      unwritten = unwritten_left;
    }
