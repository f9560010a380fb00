-- Runs with one thing changed, for the examples of refusal 20.
use Rattle.std.specs.Prelude.{List, [], ◌∷◌, ℕ, ◌-◌, ℤ, length, set, take}
use Rattle.machine.specs.Run.{Run, with_held, with_seat}
use Rattle.machine.specs.declared.Head.{Head}

abbrev pub with_head : Run → Head → Run
with_head r h = record { head = h; plan = r.plan; keys = r.keys; cells = r.cells; status = r.status; seats = r.seats; frames = r.frames }

abbrev pub with_plan : Run → List ℕ → Run
with_plan r plan = record { head = r.head; plan = plan; keys = r.keys; cells = r.cells; status = r.status; seats = r.seats; frames = r.frames }

abbrev pub with_keys : Run → List ℕ → Run
with_keys r keys = record { head = r.head; plan = r.plan; keys = keys; cells = r.cells; status = r.status; seats = r.seats; frames = r.frames }

abbrev pub with_cells : Run → List ℤ → Run
with_cells r cells = record { head = r.head; plan = r.plan; keys = r.keys; cells = cells; status = r.status; seats = r.seats; frames = r.frames }

abbrev pub with_status : Run → List ℕ → Run
with_status r status = record { head = r.head; plan = r.plan; keys = r.keys; cells = r.cells; status = status; seats = r.seats; frames = r.frames }

abbrev pub with_seats : Run → List ℕ → Run
with_seats r seats = record { head = r.head; plan = r.plan; keys = r.keys; cells = r.cells; status = r.status; seats = seats; frames = r.frames }

abbrev pub with_frames : Run → List ℤ → Run
with_frames r frames = record { head = r.head; plan = r.plan; keys = r.keys; cells = r.cells; status = r.status; seats = r.seats; frames = frames }

-- A list without its last element.
abbrev pub shorter {ℓ} : {A : Type ℓ} → List A → List A
shorter l = take (length l - 1) l

-- The run with each buffer in turn too short by one.
unfoldable pub too_short : Run → List Run
too_short r =
    with_plan r (shorter r.plan)
    ∷ with_keys r (shorter r.keys)
    ∷ with_cells r (shorter r.cells) ∷ with_status r (shorter r.status)
    ∷ with_seats r (shorter r.seats) ∷ with_frames r (shorter r.frames) ∷ []

-- One word of a buffer changed.
abbrev pub plan_at : ℕ → ℕ → Run → Run
plan_at i v r = with_plan r (set r.plan i v)

abbrev pub with_key_at : ℕ → ℕ → Run → Run
with_key_at i v r = with_keys r (set r.keys i v)

abbrev pub value_at : ℕ → ℤ → Run → Run
value_at i v r = with_cells r (set r.cells i v)

abbrev pub status_at : ℕ → ℕ → Run → Run
status_at i v r = with_status r (set r.status i v)

abbrev pub frame_at : ℕ → ℤ → Run → Run
frame_at i v r = with_frames r (set r.frames i v)

-- The numbers of the head, the call that a worker holds, and a seat's place and count.
abbrev pub workers_as : ℕ → Run → Run
workers_as n r = with_head r (record { workers = n; calls = r.head.calls; cells = r.head.cells; first_call = r.head.first_call; held = r.head.held })

abbrev pub calls_as : ℕ → Run → Run
calls_as n r = with_head r (record { workers = r.head.workers; calls = n; cells = r.head.cells; first_call = r.head.first_call; held = r.head.held })

abbrev pub cells_as : ℕ → Run → Run
cells_as n r = with_head r (record { workers = r.head.workers; calls = r.head.calls; cells = n; first_call = r.head.first_call; held = r.head.held })

abbrev pub first_as : ℕ → Run → Run
first_as n r = with_head r (record { workers = r.head.workers; calls = r.head.calls; cells = r.head.cells; first_call = n; held = r.head.held })

abbrev pub held_as : (worker call : ℕ) → Run → Run
held_as worker call r = with_head r (with_held r.head worker call)

abbrev pub seat_as : (worker place count : ℕ) → Run → Run
seat_as worker place count r = with_seats r (with_seat r.seats worker place count)
