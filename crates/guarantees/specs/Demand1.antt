-- Demand 1, sentence by sentence: which openings are accepted, which number an opening, a move or a sheet is refused by, and what a refusal
-- leaves. The conditions are document 01's, said of the file and of the lent run; "takes every block, list of worker moves and buffer" and "always
-- ends" are the contracts, which have no `requires`.
use Rattle.std.specs.Prelude.{◌≡◌, true, List, [], ◌∷◌, ◌⊎◌, ℕ, suc, ◌+◌, ◌-◌, ◌*◌, ◌%◌, ◌<◌, ◌≤◌, eqb, ℤ, pos, length, get_or, take}
use Rattle.std.specs.Int.Signed.{non_neg}
use Rattle.arith.specs.Choice.{when◌then◌else◌}
use Rattle.wire.specs.Bytes.{repeated}
use Rattle.wire.specs.Rows.{in_row}
use Rattle.schedule.specs.declared.Move.{Move}
use Rattle.block.specs.Limits.{max_bytes, max_calls, max_call_keys, max_keys, max_workers}
use Rattle.block.specs.Record.{call_record_bytes}
use Rattle.block.specs.Refusal.{verdict_number, verdict_offset}
use Rattle.wire.specs.All.{All}
use Rattle.block.specs.Encoding.{AreBytes, Contents, HoldsContents, block_for, ReaderExact}
use Rattle.block.specs.Faults.{Faulty, RefusalsExact}
use Rattle.footprint.specs.Access.{Access}
use Rattle.footprint.specs.Table.{insert_keys}
use Rattle.footprint.specs.BlockSets.{all_sets}
use Rattle.block.specs.BlockOfFile.{opening_keys}
use Rattle.block.specs.Outcomes.{last_outcome, max_count}
use Rattle.machine.specs.Run.{Run, Sizes, sizes_of, fixed_sizes, held_at, row_in, state_of, status_word, wait_count, waiting, finished, outcome_word, count_word}
use Rattle.footprint.specs.Plan.{entry_cell, entry_writes, entry_flags}
use Rattle.machine.specs.Opening.{head_of, opening_of}
use Rattle.machine.specs.Step.{done, cell_at}
use Rattle.machine.specs.Moves.{call_key_count, own_entries, begin_of, stepped, step_of, cancel_of, move_of}
use Rattle.machine.specs.Answer.{answer_number}
use Rattle.sheet.specs.Sheet.{closing_number, sheet_records, sheet_bytes, field_of, filled, sheet_of}
use Rattle.guarantees.specs.StepNeeds.{StepNeeds}

-- Both ways.
abbrev pub Exactly : Type 0 → Type 0 → Type 0
Exactly A B = (A → B) × (B → A)

-- 20: "a lent buffer .. shorter than the fixed size for the limits above" is none of these.
pub record Large (s : Sizes) : Type 0 where
  pub plan : fixed_sizes.plan ≤ s.plan
  pub keys : fixed_sizes.keys ≤ s.keys
  pub cells : fixed_sizes.cells ≤ s.cells
  pub status : fixed_sizes.status ≤ s.status
  pub seats : fixed_sizes.seats ≤ s.seats
  pub frames : fixed_sizes.frames ≤ s.frames

-- ---- the opening

-- The keys of opening and sets together, each once.
unfoldable pub keys_together : List ℕ → List (List Access) → List ℕ
keys_together keys [] = keys
keys_together keys (es ∷ sets) = keys_together (insert_keys keys es) sets

-- What is accepted: buffers large enough, "1 to 8" workers, the bytes of contents that keep the rules of a block file, and sets of "at most 24
-- distinct keys a call; at most 1,024 in opening and sets together".
pub record Openable (s : Sizes) (file : List ℕ) (workers : ℕ) : Type 0 where
  pub large : Large s
  pub some : (1 ≤ workers) × (workers ≤ max_workers)
  pub contents : Contents
  pub holds : HoldsContents file contents
  pub each : All (λ es. length es ≤ max_call_keys) (all_sets file (block_for contents))
  pub together : length (keys_together (opening_keys (block_for contents)) (all_sets file (block_for contents))) ≤ max_keys

-- The calls before number `call` keep their limits, with these opening keys.
pub record KeysBefore (sets : List (List Access)) (keys : List ℕ) (call : ℕ) : Type 0 where
  pub each : (i : ℕ) → i < call → length (get_or sets i []) ≤ max_call_keys
  pub together : length (keys_together keys (take call sets)) ≤ max_keys

-- "11 over 24 keys, at the call; 12 over 1,024, at the call that passes it": the first call that does, and the offset of its record.
pub record Over24 (sets : List (List Access)) (keys : List ℕ) (first at : ℕ) : Type 0 where
  pub call : ℕ
  pub there : call < length sets
  pub offset : at ≡ first + call_record_bytes * call
  pub before : KeysBefore sets keys call
  pub over : max_call_keys < length (get_or sets call [])

pub record Over1024 (sets : List (List Access)) (keys : List ℕ) (first at : ℕ) : Type 0 where
  pub call : ℕ
  pub there : call < length sets
  pub offset : at ≡ first + call_record_bytes * call
  pub before : KeysBefore sets keys call
  pub own : length (get_or sets call []) ≤ max_call_keys
  pub over : max_keys < length (keys_together keys (take (suc call) sets))

-- What is found right before the file is read.
abbrev pub Before1 : Sizes → (workers : ℕ) → Type 0
Before1 s workers = Large s × ((1 ≤ workers) × (workers ≤ max_workers))

-- "Order: 20 .., 13, 1; by record ..; then by call 11, 12": when an opening is refused by each number with each offset. 2 to 10 are the faults of the file.
abbrev pub OpeningRefuses : Sizes → (file : List ℕ) (workers n offset : ℕ) → Type 0
OpeningRefuses s file workers n offset =
    when eqb n 20
    then (Large s → ⊥) × (offset ≡ 0)
    else when eqb n 13
    then Large s × ((1 ≤ workers) × (workers ≤ max_workers) → ⊥) × (offset ≡ 0)
    else when eqb n 1
    then Before1 s workers × (max_bytes < length file) × (offset ≡ 0)
    else when eqb n 11
    then
    Before1 s workers
    × ((t : Contents) × HoldsContents file t × Over24 (all_sets file (block_for t)) (opening_keys (block_for t)) (block_for t).first_call offset)
    else when eqb n 12
    then
    Before1 s workers
    × ((t : Contents) × HoldsContents file t × Over1024 (all_sets file (block_for t)) (opening_keys (block_for t)) (block_for t).first_call offset)
    else (Before1 s workers × Faulty file n offset)

-- "a refused opening leaves the lent buffers zero": each list is zero and as long as it was, and the head is zero.
pub record Cleared (s : Sizes) (r : Run) : Type 0 where
  pub head : r.head ≡ head_of 0 0 0 0
  pub plan : r.plan ≡ repeated s.plan 0
  pub keys : r.keys ≡ repeated s.keys 0
  pub cells : r.cells ≡ repeated s.cells (pos 0)
  pub status : r.status ≡ repeated s.status 0
  pub seats : r.seats ≡ repeated s.seats 0
  pub frames : r.frames ≡ repeated s.frames (pos 0)

-- ---- a lent run

-- The values of a lent run in "its range above", as far as a move needs them.
abbrev pub WorkersIn : Run → Type 0
WorkersIn r = (1 ≤ r.head.workers) × (r.head.workers ≤ max_workers)

abbrev pub CallsIn : Run → Type 0
CallsIn r = r.head.calls ≤ max_calls

-- What a worker holds: 0 for none, or a call's number plus 1.
abbrev pub held_in : Run → ℕ → ℕ
held_in r worker = held_at r.head worker

abbrev pub StateIn : Run → ℕ → Type 0
StateIn r call = state_of r.status call ≤ finished

abbrev pub CallFinished : Run → ℕ → Type 0
CallFinished r call = state_of r.status call ≡ finished

-- An entry has a flag, and where it is written a cell number of the table.
abbrev pub EntryIn : ℕ → Type 0
EntryIn e = (e % entry_flags ≡ 0 → ⊥) × (entry_writes e ≡ true → entry_cell e < max_keys)

abbrev pub EntriesIn : Run → ℕ → Type 0
EntriesIn r call = (call_key_count r.plan call ≤ max_call_keys) × All EntryIn (own_entries r.plan call)

-- ---- BEGIN

-- What BEGIN has found right before each number: the values that it used so far are in their ranges, and no number before applies.
pub record Before21 (r : Run) : Type 0 where
  pub large : Large (sizes_of r)
  pub workers : WorkersIn r

pub record Before22 (r : Run) (worker : ℕ) : Type 0 where
  pub so_far : Before21 r
  pub known_worker : worker < r.head.workers
  pub calls : CallsIn r

pub record Before23 (r : Run) (worker call : ℕ) : Type 0 where
  pub so_far : Before22 r worker
  pub known_call : call < r.head.calls
  pub held : held_in r worker ≤ r.head.calls

pub record Before24 (r : Run) (worker call : ℕ) : Type 0 where
  pub so_far : Before23 r worker call
  pub idle : held_in r worker ≡ 0
  pub state : StateIn r call

pub record Before25 (r : Run) (worker call : ℕ) : Type 0 where
  pub so_far : Before24 r worker call
  pub waits : state_of r.status call ≡ waiting
  pub number : wait_count r.status call ≤ call

-- "21 no such worker; 22 no such call; 23 worker holds a call; 24 call not waiting; 25 an earlier conflicting call unfinished", and M-100: "For 25
-- BEGIN looks at this number alone": when BEGIN gives each number, 0 for accepted, 20 apart.
abbrev pub BeginGives : Run → (worker call n : ℕ) → Type 0
BeginGives r worker call n =
    when eqb n 0
    then Before25 r worker call × (wait_count r.status call ≡ 0) × EntriesIn r call
    else when eqb n 21
    then Before21 r × (r.head.workers ≤ worker)
    else when eqb n 22
    then Before22 r worker × (r.head.calls ≤ call)
    else when eqb n 23
    then Before23 r worker call × (held_in r worker ≡ 0 → ⊥)
    else when eqb n 24
    then Before24 r worker call × (state_of r.status call ≡ waiting → ⊥)
    else when eqb n 25
    then Before25 r worker call × (wait_count r.status call ≡ 0 → ⊥)
    else ⊥

-- ---- STEP and CANCEL

-- "21 no such worker", "26 worker holds none": when STEP and CANCEL are refused by each number, 20 apart.
abbrev pub HeldRefuses : Run → (worker n : ℕ) → Type 0
HeldRefuses r worker n =
    when eqb n 21
    then Before21 r × (r.head.workers ≤ worker)
    else when eqb n 26
    then Before21 r × (worker < r.head.workers) × (held_in r worker ≡ 0)
    else ⊥

-- A worker holds a call of the run.
pub record HoldsCall (r : Run) (worker call : ℕ) : Type 0 where
  pub so_far : Before22 r worker
  pub held : held_in r worker ≡ call + 1
  pub known_call : call < r.head.calls

-- A later call waits for another: its row names it.
abbrev pub WaitsFor : Run → (call later : ℕ) → Type 0
WaitsFor r call later = (call < later) × (in_row (row_in r.plan later) call ≡ true)

-- M-100: "one above its call's number, or 0 where it is to be lowered, is 20": the numbers that a finish lowers are none of these.
abbrev pub Lowerable : Run → (call : ℕ) → Type 0
Lowerable r call =
    (later : ℕ) → later < r.head.calls → WaitsFor r call later → (1 ≤ wait_count r.status later) × (wait_count r.status later ≤ later)

-- "a finish lowers it in each later call whose row names the finished one", and in no other.
pub record Lowers (r : Run) (call later : ℕ) (after : Run) : Type 0 where
  pub lowered : WaitsFor r call later → wait_count after.status later ≡ wait_count r.status later - 1
  pub kept : (WaitsFor r call later → ⊥) → wait_count after.status later ≡ wait_count r.status later

-- STEP, of the call that its worker holds: every value that it uses is in its range. Where it ends the call it uses the numbers that the finish
-- lowers, and where it restores the call's cells its entries, too.
abbrev pub StepIn : (block : List ℕ) → Run → (worker call : ℕ) → Type 0
StepIn block r worker call = StepNeeds block r worker call (Lowerable r call) (EntriesIn r call × Lowerable r call)

-- When STEP is 20: the run's buffers or its number of workers; or its worker holds something, and that is no call of the run or a call of which the
-- step uses a value outside its range.
abbrev pub StepDamaged : (block : List ℕ) → Run → (worker : ℕ) → Type 0
StepDamaged block r worker =
    (Before21 r → ⊥)
    ⊎ (Before21 r × (worker < r.head.workers) × (held_in r worker ≡ 0 → ⊥) × ((call : ℕ) → HoldsCall r worker call → StepIn block r worker call → ⊥))

-- ---- the sheet

-- What the sheet has found right before 27, before 28 and before it is written.
pub record Before27 (r : Run) : Type 0 where
  pub large : Large (sizes_of r)
  pub calls : CallsIn r
  pub states : (call : ℕ) → call < r.head.calls → StateIn r call

pub record Before28 (r : Run) : Type 0 where
  pub so_far : Before27 r
  pub finished : (call : ℕ) → call < r.head.calls → CallFinished r call
  pub cells : r.head.cells ≤ max_keys
  pub balances : (n : ℕ) → n < r.head.cells → field_of r.keys n ≡ 0 → non_neg (cell_at r.cells n) ≡ true

-- It is written where it fits and each outcome and count is in its range.
pub record Writable (r : Run) (output : List ℕ) : Type 0 where
  pub so_far : Before28 r
  pub fits : length (sheet_bytes r) ≤ length output
  pub outcomes : (call : ℕ) → call < r.head.calls → status_word r.status call outcome_word ≤ last_outcome
  pub counts : (call : ℕ) → call < r.head.calls → status_word r.status call count_word ≤ max_count

-- "27 sheet wanted with a call unfinished; 28 sheet longer than the output buffer": when the sheet gives each number, 0 for written, 20 apart.
abbrev pub SheetGives : Run → (output : List ℕ) (n : ℕ) → Type 0
SheetGives r output n =
    when eqb n 0
    then Writable r output
    else when eqb n 27
    then Before27 r × ((call : ℕ) × (call < r.head.calls) × (CallFinished r call → ⊥))
    else when eqb n 28
    then Before28 r × (length output < length (sheet_bytes r))
    else ⊥

-- ---- the demand

pub record Demand1 : Type 0 where
  -- "takes every block .. refuses a faulty one": a file is a block exactly if it is the bytes of one that keeps the rules, and an opening is
  -- accepted exactly if besides the sets, the workers and the buffers keep theirs. So "refuses every block" is shut out. ".. by the numbers
  -- of document 01": of a file of bytes each exactly under its condition, so none has two, and of an opening likewise.
  pub reader : ReaderExact
  pub faults : RefusalsExact
  pub opens : (s : Sizes) (file : List ℕ) (workers : ℕ) → AreBytes file
      → Exactly (verdict_number (opening_of s file workers).answer ≡ 0) (Openable s file workers)
  pub opens_not : (s : Sizes) (file : List ℕ) (workers : ℕ) → AreBytes file → (n offset : ℕ) → (n ≡ 0 → ⊥)
      → Exactly ((verdict_number (opening_of s file workers).answer ≡ n) × (verdict_offset (opening_of s file workers).answer ≡ offset))
      (OpeningRefuses s file workers n offset)
  -- Each number of a move, lowest first, exactly under its condition.
  pub begins : (r : Run) (worker call n : ℕ) → (n ≡ 20 → ⊥)
      → Exactly (answer_number (begin_of r worker call).answer ≡ n) (BeginGives r worker call n)
  pub steps : (block : List ℕ) (r : Run) (worker n : ℕ) → (n ≡ 0 → ⊥) → (n ≡ 20 → ⊥)
      → Exactly (answer_number (step_of block r worker).answer ≡ n) (HeldRefuses r worker n)
  -- "20 for a value is tested where the test or the change first uses that value": STEP is accepted exactly if each value that it uses is in its
  -- range, and 20 exactly if one is not.
  pub steps_accepted : (block : List ℕ) (r : Run) (worker : ℕ)
      → Exactly (answer_number (step_of block r worker).answer ≡ 0) ((call : ℕ) × HoldsCall r worker call × StepIn block r worker call)
  pub steps_20 : (block : List ℕ) (r : Run) (worker : ℕ) → Exactly (answer_number (step_of block r worker).answer ≡ 20) (StepDamaged block r worker)
  pub cancels : (r : Run) (worker n : ℕ) → (n ≡ 0 → ⊥) → (n ≡ 20 → ⊥)
      → Exactly (answer_number (cancel_of r worker).answer ≡ n) (HeldRefuses r worker n)
  pub cancelled : (r : Run) (worker : ℕ)
      → Exactly (answer_number (cancel_of r worker).answer ≡ 0) ((call : ℕ) × HoldsCall r worker call × EntriesIn r call)
  -- M-100, of a step that ends a call, with whatever outcome: when it is 20 by the numbers of the calls that wait for it, and what it leaves of them.
  pub finishes : (r : Run) (worker call outcome count : ℕ) (cells : List ℤ)
      → Exactly (answer_number (stepped r worker call (done outcome count cells)).answer ≡ 0) (Lowerable r call)
  pub lowers : (r : Run) (worker call outcome count : ℕ) (cells : List ℤ) → Large (sizes_of r) → CallsIn r → Lowerable r call
      → (later : ℕ) → later < r.head.calls → Lowers r call later (stepped r worker call (done outcome count cells)).run
  -- The same of the sheet.
  pub closes : (r : Run) (output : List ℕ) (n : ℕ) → (n ≡ 20 → ⊥)
      → Exactly (closing_number (sheet_of r output).answer ≡ n) (SheetGives r output n)
  pub writes : (r : Run) (output : List ℕ) → Exactly (sheet_of r output ≡ filled output (sheet_records r)) (Writable r output)
  -- "a refused opening leaves the lent buffers zero, a refused move or sheet leaves them unchanged."
  pub cleared : (s : Sizes) (file : List ℕ) (workers : ℕ) → (verdict_number (opening_of s file workers).answer ≡ 0 → ⊥)
      → Cleared s (opening_of s file workers).run
  pub unmoved : (block : List ℕ) (r : Run) (m : Move) → (answer_number (move_of block r m).answer ≡ 0 → ⊥) → (move_of block r m).run ≡ r
  pub unwritten : (r : Run) (output : List ℕ) → (closing_number (sheet_of r output).answer ≡ 0 → ⊥) → (sheet_of r output).output ≡ output
