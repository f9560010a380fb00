-- Laws of a run's buffers: the status words of one call, and the seat and the frame of one worker, each apart from the others'.
use mathlib.Core.Path.{◌≡◌, refl, sym, ap, ◌∙◌}
use mathlib.Core.List.{List, [], ◌∷◌, ◌++◌}
use mathlib.Core.Logic.{◌⊎◌, inl, inr, ⊎_elim}
use Prim.Native.Nat.{ℕ, ◌+◌, ◌-◌, ◌*◌, ◌≤◌, ◌<◌, min}
use native.Mathlib.Nat.{add-zero}
use native.Mathlib.Decide.{dec_lt}
use native.Mathlib.Omega.{arith}
use lib.IntN.{ℤ, pos}
use lib.ListN.{length, get_or, take, drop, set, length-set, length-append, length-take, length-drop}
use lib.Seq.{get_or-set_same, get_or-set_other, get_or-take, get_or-drop, ext_get_or, take_at, drop_at, drop-append-le, length-take-le}
use Rattle.wire.specs.Bytes.{stored}
use Rattle.wire.proofs.BytesLaws.{stored_length, stored_inside, stored_before, stored_behind}
use Rattle.block.specs.Limits.{max_call_keys}
use Rattle.machine.specs.Run.{seat_words, registers, frame_values, place_in, count_in, with_seat, regs_in, with_regs, saved_in, with_saved, status_words, status_word, state_of, with_state, with_receipt, wait_count, finished}
use Rattle.machine.specs.Step.{saved_of}

-- ---- status words

module _ (status : List ℕ) (c : ℕ) where
  pub state_here : (s : ℕ) → status_words * c < length status → state_of (with_state status c s) c ≡ s
  state_here s l = ap (λ (i : ℕ). get_or (with_state status c s) i 0) (add-zero (4 * c)) ∙ get_or-set_same status (4 * c) s 0 l

  pub state_there : (s d k : ℕ) → ¬ (d ≡ c) → k < status_words → status_word (with_state status c s) d k ≡ status_word status d k
  state_there s d k x l = get_or-set_other status (4 * c) (4 * d + k) s 0 (omega arith)

  -- Beside its state a call's own words stay.
  pub state_beside : (s k : ℕ) → 0 < k → status_word (with_state status c s) c k ≡ status_word status c k
  state_beside s k l = get_or-set_other status (4 * c) (4 * c + k) s 0 (omega arith)

  -- The number of calls that a call waits for stays, its own too.
  pub state_wait : (s d : ℕ) → wait_count (with_state status c s) d ≡ wait_count status d
  state_wait s d = get_or-set_other status (4 * c) (4 * d + 3) s 0 (omega arith)

  pub state_length : (s : ℕ) → length (with_state status c s) ≡ length status
  state_length s = length-set status (4 * c) s

  module _ (outcome count : ℕ) where
    abbrev one : List ℕ
    one = with_state status c finished

    abbrev two : List ℕ
    two = set one (4 * c + 1) outcome

    pub status_length_lem : length (with_receipt status c outcome count) ≡ length status
    status_length_lem = length-set two (4 * c + 2) count ∙ length-set one (4 * c + 1) outcome ∙ state_length finished

    pub receipt_there : (d k : ℕ) → ¬ (d ≡ c) → k < status_words → status_word (with_receipt status c outcome count) d k ≡ status_word status d k
    receipt_there d k x l =
        get_or-set_other two (4 * c + 2) (4 * d + k) count 0 (omega arith)
        ∙ get_or-set_other one (4 * c + 1) (4 * d + k) outcome 0 (omega arith) ∙ state_there finished d k x l

    pub receipt_wait : (d : ℕ) → wait_count (with_receipt status c outcome count) d ≡ wait_count status d
    receipt_wait d =
        get_or-set_other two (4 * c + 2) (4 * d + 3) count 0 (omega arith)
        ∙ get_or-set_other one (4 * c + 1) (4 * d + 3) outcome 0 (omega arith) ∙ state_wait finished d

    -- The receipt itself.
    pub receipt_here : status_words * c + 3 < length status
        → (state_of (with_receipt status c outcome count) c ≡ finished) × (status_word (with_receipt status c outcome count) c 1 ≡ outcome)
        × (status_word (with_receipt status c outcome count) c 2 ≡ count)
    receipt_here l =
        let first : 4 * c < length status = omega arith in
        let second : 4 * c + 1 < length one = rw (state_length finished) (omega arith) in
        let third : 4 * c + 2 < length two = rw (length-set one (4 * c + 1) outcome, state_length finished) (omega arith) in (
          get_or-set_other two (4 * c + 2) (4 * c + 0) count 0 (omega arith)
              ∙ get_or-set_other one (4 * c + 1) (4 * c + 0) outcome 0 (omega arith) ∙ state_here finished first,
          get_or-set_other two (4 * c + 2) (4 * c + 1) count 0 (omega arith) ∙ get_or-set_same one (4 * c + 1) outcome 0 second,
          get_or-set_same two (4 * c + 2) count 0 third,
        )

-- ---- stretches of a buffer

module _ {A : Type 0} (d : A) where
  stretch_at : (s : List A) (a n i : ℕ) → i < n → get_or (take n (drop a s)) i d ≡ get_or s (a + i) d
  stretch_at s a n i l = get_or-take n (drop a s) i d l ∙ get_or-drop a s i d

  stretch_length : (s : List A) (a n : ℕ) → length (take n (drop a s)) ≡ min n (length s - a)
  stretch_length s a n = length-take n (drop a s) ∙ ap (min n) (length-drop a s)

  -- What is stored at one place is there.
  stretch_own : (s : List A) (at : ℕ) (bs : List A) → at + length bs ≤ length s → take (length bs) (drop at (stored s at bs)) ≡ bs
  stretch_own s at bs l =
      let front : length (take at s) ≡ at = length-take-le at s (omega arith) in
      ap (λ (t : List A). take (length bs) (drop at t)) (stored_inside bs s at l)
      ∙ ap (take (length bs))
      (drop-append-le at (take at s ++ bs) (drop (at + length bs) s) (omega (arith, length-append (take at s) bs))
      ∙ ap (λ (t : List A). t ++ drop (at + length bs) s) (drop_at (take at s) bs at front))
      ∙ take_at bs (drop (at + length bs) s) (length bs) refl

  -- What is stored elsewhere leaves it.
  stretch_apart : (s : List A) (at : ℕ) (bs : List A) (a n : ℕ) → (a + n ≤ at) ⊎ (at + length bs ≤ a)
      → take n (drop a (stored s at bs)) ≡ take n (drop a s)
  stretch_apart s at bs a n apart =
      ext_get_or d (take n (drop a after)) (take n (drop a s))
      (stretch_length after a n ∙ ap (λ (k : ℕ). min n (k - a)) (stored_length bs s at) ∙ sym (stretch_length s a n))
      (λ i h. same i (omega (arith, stretch_length after a n)))
    where
      after : List A
      after = stored s at bs

      same : (i : ℕ) → i < n → get_or (take n (drop a after)) i d ≡ get_or (take n (drop a s)) i d
      same i h =
          stretch_at after a n i h
          ∙ ⊎_elim (λ before. stored_before bs s at (a + i) d (omega arith)) (λ behind. stored_behind bs s at (a + i) d (omega arith)) apart
          ∙ sym (stretch_at s a n i h)

-- ---- a worker's seat and frame

pub saved_length : (es : List ℕ) (cells : List ℤ) → length (saved_of es cells) ≡ length es
unfolding saved_of
saved_length [] cells = refl
saved_length (e ∷ es) cells = let ih : length (saved_of es cells) ≡ length es = saved_length es cells in omega arith

-- Another worker's place, count, registers and old values stay.
pub record SeatKept (seats seats' : List ℕ) (frames frames' : List ℤ) (u : ℕ) : Type 0 where
  pub place : place_in seats' u ≡ place_in seats u
  pub count : count_in seats' u ≡ count_in seats u
  pub regs : regs_in frames' u ≡ regs_in frames u
  pub old : (k : ℕ) → k ≤ max_call_keys → saved_in frames' u k ≡ saved_in frames u k

pub seat_stays : (seats : List ℕ) (frames : List ℤ) (u : ℕ) → SeatKept seats seats frames frames u
seat_stays seats frames u = record { place = refl; count = refl; regs = refl; old = λ k l. refl }

module _ (seats : List ℕ) (w place count : ℕ) where
  abbrev placed : List ℕ
  placed = set seats (seat_words * w) place

  pub seat_length_lem : length (with_seat seats w place count) ≡ length seats
  seat_length_lem = length-set placed (seat_words * w + 1) count ∙ length-set seats (seat_words * w) place

  pub seat_own : seat_words * w + 1 < length seats
      → (place_in (with_seat seats w place count) w ≡ place) × (count_in (with_seat seats w place count) w ≡ count)
  seat_own l = (
    get_or-set_other placed (seat_words * w + 1) (seat_words * w) count 0 (omega arith) ∙ get_or-set_same seats (seat_words * w) place 0 (omega arith),
    get_or-set_same placed (seat_words * w + 1) count 0 (rw (length-set seats (seat_words * w) place) l),
  )

  seat_other : (u k : ℕ) → ¬ (u ≡ w) → k < seat_words → get_or (with_seat seats w place count) (seat_words * u + k) 0 ≡ get_or seats (seat_words * u + k) 0
  seat_other u k x l =
      get_or-set_other placed (seat_words * w + 1) (seat_words * u + k) count 0 (omega arith)
      ∙ get_or-set_other seats (seat_words * w) (seat_words * u + k) place 0 (omega arith)

  place_other : (u : ℕ) → ¬ (u ≡ w) → place_in (with_seat seats w place count) u ≡ place_in seats u
  place_other u x =
      let same : seat_words * u ≡ seat_words * u + 0 = omega arith in
      ap (λ (i : ℕ). get_or (with_seat seats w place count) i 0) same ∙ seat_other u 0 x (omega arith) ∙ ap (λ (i : ℕ). get_or seats i 0) (sym same)

-- What a worker stores in its own frame leaves the registers and the old values of another.
module _ (frames : List ℤ) (w at : ℕ) (bs : List ℤ) (low : frame_values * w ≤ at) (high : at + length bs ≤ frame_values * w + frame_values) (u : ℕ) (x : ¬ (u ≡ w)) where
  frames_apart : (a n : ℕ) → frame_values * u ≤ a → a + n ≤ frame_values * u + frame_values → take n (drop a (stored frames at bs)) ≡ take n (drop a frames)
  frames_apart a n below above = stretch_apart (pos 0) frames at bs a n (go (dec_lt u w))
    where
      go : Dec (u < w) → (a + n ≤ at) ⊎ (at + length bs ≤ a)
      go (yes y) = inl (omega arith)
      go (no y) = inr (omega arith)

  regs_there : regs_in (stored frames at bs) u ≡ regs_in frames u
  regs_there = frames_apart (frame_values * u) registers (omega arith) (omega arith)

  old_there : (k : ℕ) → k ≤ max_call_keys → saved_in (stored frames at bs) u k ≡ saved_in frames u k
  old_there k l = frames_apart (frame_values * u + registers) k (omega arith) (omega arith)

module _ (frames : List ℤ) (w : ℕ) where
  pub regs_length : frame_values * w + registers ≤ length frames → length (regs_in frames w) ≡ registers
  regs_length l = omega (arith, stretch_length (pos 0) frames (frame_values * w) registers)

  -- Registers that it stores: they are its own, and its old values stay.
  module _ (regs : List ℤ) (eight : length regs ≡ registers) where
    pub regs_own : frame_values * w + registers ≤ length frames → regs_in (with_regs frames w regs) w ≡ regs
    regs_own l =
        ap (λ (n : ℕ). take n (drop (frame_values * w) (with_regs frames w regs))) (sym eight) ∙ stretch_own (pos 0) frames (frame_values * w) regs (omega arith)

    pub regs_leave_old : (k : ℕ) → saved_in (with_regs frames w regs) w k ≡ saved_in frames w k
    regs_leave_old k = stretch_apart (pos 0) frames (frame_values * w) regs (frame_values * w + registers) k (inr (omega arith))

    -- A step that goes on.
    pub step_elsewhere : (seats : List ℕ) (place count u : ℕ) → ¬ (u ≡ w) → SeatKept seats (with_seat seats w place count) frames (with_regs frames w regs) u
    step_elsewhere seats place count u x =
        record {
          place = place_other seats w place count u x;
          count = seat_other seats w place count u 1 x (omega arith);
          regs = regs_there frames w (frame_values * w) regs (omega arith) (omega arith) u x;
          old = old_there frames w (frame_values * w) regs (omega arith) (omega arith) u x;
        }

  -- Old values that it stores: they are its own, and its registers stay.
  pub old_own : (old : List ℤ) → frame_values * w + registers + length old ≤ length frames → saved_in (with_saved frames w old) w (length old) ≡ old
  old_own old l = stretch_own (pos 0) frames (frame_values * w + registers) old l

  pub old_leaves_regs : (old : List ℤ) → regs_in (with_saved frames w old) w ≡ regs_in frames w
  old_leaves_regs old = stretch_apart (pos 0) frames (frame_values * w + registers) old (frame_values * w) registers (inl (omega arith))

  -- A begun call: its registers and its old values.
  pub begin_elsewhere : (seats : List ℕ) (place count : ℕ) (regs old : List ℤ) → length regs ≡ registers → length old ≤ max_call_keys → (u : ℕ) → ¬ (u ≡ w)
      → SeatKept seats (with_seat seats w place count) frames (with_saved (with_regs frames w regs) w old) u
  begin_elsewhere seats place count regs old eight few u x =
      let first = step_elsewhere regs eight seats place count u x in
      record {
        place = first.place;
        count = first.count;
        regs = regs_there (with_regs frames w regs) w (frame_values * w + registers) old (omega arith) (omega arith) u x ∙ first.regs;
        old = λ k l. old_there (with_regs frames w regs) w (frame_values * w + registers) old (omega arith) (omega arith) u x k l ∙ first.old k l;
      }
