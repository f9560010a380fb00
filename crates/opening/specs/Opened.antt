-- What `open` answers, put together with the buffers that it leaves.
use Rattle.std.specs.Prelude.{◌≡◌, Bool, ◌||◌, not, List, ℕ, eqb, ltb, ℤ, Err, Ok, Result}
use Rattle.std.specs.Prelude.{if◌then◌else◌}
use Rattle.block.specs.Limits.{max_workers}
use Rattle.block.specs.Refusal.{verdict_number, verdict_offset}
use Rattle.block.specs.declared.Refusal.{Refusal}
use Rattle.block.specs.declared.Refusal.TheVariants.{Workers, Buffers}
use Rattle.machine.specs.Opening.{Opened, head_of}
use Rattle.machine.specs.declared.Head.{Head}
use Rattle.machine.specs.Run.{Sizes}

abbrev pub sizes_for : (plan keys cells status seats frames : ℕ) → Sizes
sizes_for plan keys cells status seats frames =
    record { plan = plan; keys = keys; cells = cells; status = status; seats = seats; frames = frames }

-- The verdict of an answer, and the head of its run, all zero if it is refused.
abbrev pub verdict_of : Result Head Refusal → Result (Unit {0}) Refusal
verdict_of (Ok head) = Ok tt
verdict_of (Err why) = Err why

abbrev pub head_with : Result Head Refusal → Head
head_with (Ok head) = head
head_with (Err why) = head_of 0 0 0 0

-- An answer with the buffers.
abbrev pub opening_with : Result Head Refusal → List ℕ → List ℕ → List ℤ → List ℕ → List ℕ → List ℤ → Opened
opening_with r plan keys cells status seats frames =
    record {
      answer = verdict_of r;
      run = record { head = head_with r; plan = plan; keys = keys; cells = cells; status = status; seats = seats; frames = frames };
    }

-- "20 (below; here with offset 0 and buffers zero), 13": what is tested before the block is read.
unfoldable pub tested_for : (large : Bool) → (workers : ℕ) → Result (Unit {0}) Refusal
tested_for large workers =
    if not large
    then Err Buffers
    else if eqb workers 0 || ltb max_workers workers
    then Err Workers
    else (Ok tt)

-- The answer and the buffers are the definition's, and so are the verdict's number and offset.
pub record OpenedAs (r : Result Head Refusal) (plan keys : List ℕ) (cells : List ℤ) (status seats : List ℕ) (frames : List ℤ) (o : Opened) : Type 0 where
  pub same : opening_with r plan keys cells status seats frames ≡ o
  pub number : verdict_number (verdict_of r) ≡ verdict_number o.answer
  pub offset : verdict_offset (verdict_of r) ≡ verdict_offset o.answer
