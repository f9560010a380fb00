-- A lent run whose head is a list of words too, as programs in other languages lend it.
use Rattle.std.specs.Prelude.{List, map, ℕ, ◌+◌, min, ℤ, eqb, leb, get_or, set}
use Rattle.std.specs.Prelude.{if◌then◌else◌}
use Rattle.wire.specs.Bytes.{below}
use Rattle.block.specs.Limits.{max_workers}
use Rattle.machine.specs.Run.{Run, held_at}
use Rattle.machine.specs.declared.Head.{Head}

-- The words of a head: the numbers of workers, calls and cells, the offset of the first call record, and for each worker the call that it
-- holds, as its number plus 1, or 0 for none. A longer list is a head too; what stands behind these words is not looked at.
abbrev pub workers_word : ℕ
workers_word = 0

abbrev pub calls_word : ℕ
calls_word = 1

abbrev pub cells_word : ℕ
cells_word = 2

abbrev pub first_call_word : ℕ
first_call_word = 3

abbrev pub first_held : ℕ
first_held = 4

abbrev pub head_words : ℕ
head_words = first_held + max_workers

pub record Words : Type 0 where
  pub head : List ℕ
  pub plan : List ℕ
  pub keys : List ℕ
  pub cells : List ℤ
  pub status : List ℕ
  pub seats : List ℕ
  pub frames : List ℤ

abbrev pub words : List ℕ → List ℕ → List ℕ → List ℤ → List ℕ → List ℕ → List ℤ → Words
words head plan keys cells status seats frames =
    record { head = head; plan = plan; keys = keys; cells = cells; status = status; seats = seats; frames = frames }

-- What a worker's word says that it holds. A run keeps it in 16 bits. A word beyond them is the number of no call, and is read as the largest
-- number of 16 bits, which is the number of none either: it is refused by 20 where a move first uses it.
abbrev pub largest_held : ℕ
largest_held = 65535

abbrev pub held_number : ℕ → ℕ
held_number word = min word largest_held

unfoldable pub held_in : List ℕ → List ℕ
held_in head = map (λ worker. held_number (get_or head (first_held + worker) 0)) (below max_workers)

abbrev pub head_in : List ℕ → Head
head_in head =
    record {
      workers = get_or head workers_word 0;
      calls = get_or head calls_word 0;
      cells = get_or head cells_word 0;
      first_call = get_or head first_call_word 0;
      held = held_in head;
    }

-- The run that the words stand for.
abbrev pub run_in : Words → Run
run_in l =
    record {
      head = head_in l.head;
      plan = l.plan;
      keys = l.keys;
      cells = l.cells;
      status = l.status;
      seats = l.seats;
      frames = l.frames;
    }

-- A worker's word is stored exactly where what the worker holds has changed. No other word of the head is, and a worker beyond the eight has none.
unfoldable pub held_stored : List ℕ → Head → ℕ → List ℕ
held_stored head after worker =
    if leb max_workers worker
    then head
    else if eqb (held_at (head_in head) worker) (held_at after worker)
    then head
    else set head (first_held + worker) (held_at after worker)

-- The words behind a move of a worker that leaves this run.
abbrev pub words_after : Words → ℕ → Run → Words
words_after l worker r = words (held_stored l.head r.head worker) r.plan r.keys r.cells r.status r.seats r.frames
