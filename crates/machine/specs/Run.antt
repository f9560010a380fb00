-- The run that a caller lends: a head and six buffers, and where each thing stands in them.
use Rattle.std.specs.Prelude.{Bool, ◌&&◌, List, [], ◌∷◌, ℕ, ◌+◌, ◌*◌, ℤ, pos, eqb, leb, length, get_or, take, drop, set}
use Rattle.block.specs.Limits.{max_calls, max_call_keys, max_workers}
use Rattle.wire.specs.Bytes.{stored}
use Rattle.wire.specs.Rows.{row_words}
use Rattle.footprint.specs.Plan.{plan_words, high_word, low_word, Room, fixed_room, room_enough, first_entry, first_row_word, key_words}
use Rattle.machine.specs.declared.Head.{Head}

pub record Run : Type 0 where
  pub head : Head
  pub plan : List ℕ
  pub keys : List ℕ
  pub cells : List ℤ
  pub status : List ℕ
  pub seats : List ℕ
  pub frames : List ℤ

-- A call has 32 words of the plan and 4 of the status. A worker has 16 words of the seats: its call's place and count, and room for return
-- points; and 32 values of the frames: its call's eight registers, and behind them 24 old values.
abbrev pub status_words : ℕ
status_words = 4

abbrev pub seat_words : ℕ
seat_words = 16

abbrev pub registers : ℕ
registers = 8

abbrev pub frame_values : ℕ
frame_values = registers + max_call_keys

-- The lengths of the six buffers.
pub record Sizes : Type 0 where
  pub plan : ℕ
  pub keys : ℕ
  pub cells : ℕ
  pub status : ℕ
  pub seats : ℕ
  pub frames : ℕ

abbrev pub sizes_of : Run → Sizes
sizes_of r =
    record {
      plan = length r.plan;
      keys = length r.keys;
      cells = length r.cells;
      status = length r.status;
      seats = length r.seats;
      frames = length r.frames;
    }

-- "the fixed size for the limits above"
abbrev pub fixed_sizes : Sizes
fixed_sizes =
    record {
      plan = fixed_room.plan;
      keys = fixed_room.keys;
      cells = fixed_room.cells;
      status = max_calls * status_words;
      seats = max_workers * seat_words;
      frames = max_workers * frame_values;
    }

-- The three buffers that an opening prepares.
abbrev pub room_in : Sizes → Room
room_in s = record { plan = s.plan; keys = s.keys; cells = s.cells }

-- 20: "a lent buffer .. shorter than the fixed size"
unfoldable pub large_enough : Sizes → Bool
large_enough s =
    room_enough (room_in s)
    && leb fixed_sizes.status s.status && leb fixed_sizes.seats s.seats && leb fixed_sizes.frames s.frames

-- "A worker's eight registers start at zero at each BEGIN."
abbrev pub zero_registers : List ℤ
zero_registers = pos 0 ∷ pos 0 ∷ pos 0 ∷ pos 0 ∷ pos 0 ∷ pos 0 ∷ pos 0 ∷ pos 0 ∷ []

-- The call that a worker holds, as its number plus 1; 0 for none.
abbrev pub held_at : Head → ℕ → ℕ
held_at h worker = get_or h.held worker 0

abbrev pub with_held : Head → ℕ → ℕ → Head
with_held h worker n = record { workers = h.workers; calls = h.calls; cells = h.cells; first_call = h.first_call; held = set h.held worker n }

-- The place and the count of a worker's call: 0 at its entry, p + 1 at instruction p.
abbrev pub place_in : List ℕ → ℕ → ℕ
place_in seats worker = get_or seats (seat_words * worker) 0

abbrev pub count_in : List ℕ → ℕ → ℕ
count_in seats worker = get_or seats (seat_words * worker + 1) 0

abbrev pub with_seat : List ℕ → ℕ → (place count : ℕ) → List ℕ
with_seat seats worker place count = set (set seats (seat_words * worker) place) (seat_words * worker + 1) count

-- Its registers, and the old values that the worker keeps for the n entries of its call.
abbrev pub regs_in : List ℤ → ℕ → List ℤ
regs_in frames worker = take registers (drop (frame_values * worker) frames)

abbrev pub with_regs : List ℤ → ℕ → List ℤ → List ℤ
with_regs frames worker regs = stored frames (frame_values * worker) regs

abbrev pub saved_in : List ℤ → ℕ → ℕ → List ℤ
saved_in frames worker n = take n (drop (frame_values * worker + registers) frames)

abbrev pub with_saved : List ℤ → ℕ → List ℤ → List ℤ
with_saved frames worker saved = stored frames (frame_values * worker + registers) saved

-- The words of a call in the plan.
abbrev pub plan_word : List ℕ → ℕ → ℕ → ℕ
plan_word plan call k = get_or plan (plan_words * call + k) 0

abbrev pub entries_of : List ℕ → ℕ → ℕ → List ℕ
entries_of plan call n = take n (drop (plan_words * call + first_entry) plan)

abbrev pub row_in : List ℕ → ℕ → List ℕ
row_in plan call = take row_words (drop (plan_words * call + first_row_word) plan)

-- Whether cell n has this key.
abbrev pub has_key : List ℕ → ℕ → ℕ → Bool
has_key keys n k = eqb (get_or keys (key_words * n) 0) (high_word k) && eqb (get_or keys (key_words * n + 1) 0) (low_word k)

-- "A call is waiting, running .. or finished": the first word of its status; the next are its outcome and its count, and the last is "the number of
-- its earlier conflicting calls still unfinished".
abbrev pub waiting : ℕ
waiting = 0

abbrev pub running : ℕ
running = 1

abbrev pub finished : ℕ
finished = 2

abbrev pub state_word : ℕ
state_word = 0

abbrev pub outcome_word : ℕ
outcome_word = 1

abbrev pub count_word : ℕ
count_word = 2

abbrev pub wait_word : ℕ
wait_word = 3

abbrev pub status_word : List ℕ → ℕ → ℕ → ℕ
status_word status call k = get_or status (status_words * call + k) 0

abbrev pub state_of : List ℕ → ℕ → ℕ
state_of status call = status_word status call state_word

abbrev pub is_state : ℕ → Bool
is_state s = leb s finished

abbrev pub with_state : List ℕ → ℕ → ℕ → List ℕ
with_state status call s = set status (status_words * call) s

-- The receipt of a finished call: its outcome and its count.
abbrev pub with_receipt : List ℕ → ℕ → ℕ → ℕ → List ℕ
with_receipt status call outcome count =
    set (set (with_state status call finished) (status_words * call + outcome_word) outcome) (status_words * call + count_word) count

-- The number of earlier conflicting calls that a call waits for, as it carries it.
abbrev pub wait_count : List ℕ → ℕ → ℕ
wait_count status call = status_word status call wait_word

abbrev pub with_wait : List ℕ → ℕ → ℕ → List ℕ
with_wait status call n = set status (status_words * call + wait_word) n
