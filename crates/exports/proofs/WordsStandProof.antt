-- The words behind an exported function stand for the run that the definitions leave: a change of what one worker holds is a change of its word.
use Rattle.std.specs.Prelude.{Err, Ok, Result}
use Rattle.block.specs.declared.Refusal.{Refusal}
use mathlib.Core.Path.{◌≡◌, refl, sym, ap, ◌∙◌}
use mathlib.Core.Bool.{◌||◌, not}
use mathlib.Core.List.{List, [], ◌∷◌, ◌++◌}
use Prim.Native.Nat.{ℕ, ◌+◌, ◌-◌, ◌≤◌, ◌<◌}
use native.Mathlib.Nat.{min-eq_left}
use native.Mathlib.Omega.{arith}
use borrow.Author.Tests.{lt-leb, eqb-true, eqb-false}
use lib.Dec.{eqb, ltb}
use lib.ListN.{length, get_or, set, length-set, replicate, length-replicate, replicate-append-replicate}
use lib.Seq.{get_or-set_same, get_or-set_other, set-get_or, ext_get_or}
use Rattle.arith.proofs.ChoiceLaws.{by_test, if_all}
use Rattle.wire.specs.Bytes.{below, stored, repeated}
use Rattle.block.specs.Limits.{max_workers}
use Rattle.block.specs.Reader.{read_block}
use Rattle.footprint.specs.Plan.{Prepared, prepare_read}
use Rattle.machine.specs.Run.{Run, Sizes, sizes_of, room_in, large_enough, held_at, with_held}
use Rattle.machine.specs.Opening.{Opened, refused_run, open_prepared, opening_of}
use Rattle.machine.specs.Moves.{Moved, begin_of, step_of, cancel_of}
use Rattle.machine.specs.Serial.{all_calls}
use Rattle.machine.specs.Answer.{answer_number}
use Rattle.machine.specs.declared.Head.{Head}
use Rattle.exports.specs.Words.{Words, first_held, head_words, largest_held, held_number, held_in, head_in, run_in, held_stored, words_after}
use Rattle.exports.specs.Exports.{opening_for, opened_head, move_for, move_words, serial_move}
use Rattle.exports.specs.WordsStand.{IsMove, WordsStand}
use Rattle.exports.proofs.HeadLaws.{held_read, unmoved, stored_length}
use Rattle.exports.proofs.LengthLaws.{open_long, move_long}
use Rattle.exports.proofs.HeadChange.{HeadChange, kept, held, begin_change, step_change, cancel_change, runs_change}

-- ---- a worker's word

held_length_lem : (head : List ℕ) → length (held_in head) ≡ max_workers
unfolding held_in below
held_length_lem head = refl

module _ (head : List ℕ) (w n : ℕ) (long : head_words ≤ length head) (here : w < max_workers) (small : n ≤ largest_held) where
  -- The word of one worker changes what that worker holds alone.
  held_set : held_in (set head (first_held + w) n) ≡ set (held_in head) w n
  held_set =
      ext_get_or 0 (held_in (set head (first_held + w) n)) (set (held_in head) w n)
      (held_length_lem (set head (first_held + w) n) ∙ sym (length-set (held_in head) w n ∙ held_length_lem head))
      (λ i l. by_test (λ t. eqb i w ≡ t → Same i) (eqb i w) (λ e f. own i (eqb-true i w f)) (λ e f. other i (rw (← held_length_lem (set head (first_held + w) n)) l) (eqb-false i w f)) refl)
    where
      Same : ℕ → Type 0
      Same i = get_or (held_in (set head (first_held + w) n)) i 0 ≡ get_or (set (held_in head) w n) i 0

      own : (i : ℕ) → i ≡ w → Same i
      own i e =
          rw e
          (held_read (set head (first_held + w) n) w here
          ∙ ap held_number (get_or-set_same head (first_held + w) n 0 (omega arith))
          ∙ min-eq_left small ∙ sym (get_or-set_same (held_in head) w n 0 (rw (held_length_lem head) here)))

      other : (i : ℕ) → i < max_workers → (i ≡ w → ⊥) → Same i
      other i l ne =
          held_read (set head (first_held + w) n) i l
          ∙ ap held_number (get_or-set_other head (first_held + w) (first_held + i) n 0 (λ e. ne (omega arith)))
          ∙ sym (held_read head i l) ∙ sym (get_or-set_other (held_in head) w i n 0 ne)

  head_set : head_in (set head (first_held + w) n) ≡ with_held (head_in head) w n
  head_set =
      rw (
        get_or-set_other head (first_held + w) 0 n 0 (λ e. omega arith),
        get_or-set_other head (first_held + w) 1 n 0 (λ e. omega arith),
        get_or-set_other head (first_held + w) 2 n 0 (λ e. omega arith),
        get_or-set_other head (first_held + w) 3 n 0 (λ e. omega arith),
        held_set,
      )

  now_held : held_at (with_held (head_in head) w n) w ≡ n
  now_held = get_or-set_same (held_in head) w n 0 (rw (held_length_lem head) here)

  head_stored : head_in (held_stored head (with_held (head_in head) w n) w) ≡ with_held (head_in head) w n
  unfolding held_stored
  head_stored =
      rw (lt-leb max_workers w here, now_held)
      (if_all (λ (x : List ℕ). head_in x ≡ with_held (head_in head) w n) (eqb (held_at (head_in head) w) n)
      (λ e. rw (← eqb-true (held_at (head_in head) w) n e, set-get_or (held_in head) w 0)) (λ _. head_set))

-- ---- moves

change_stands : (l : Words) (w : ℕ) (r : Run) → head_words ≤ length l.head → HeadChange w (head_in l.head) r.head → run_in (words_after l w r) ≡ r
change_stands l w r long c = ap (λ (h : Head). record { head = h; plan = r.plan; keys = r.keys; cells = r.cells; status = r.status; seats = r.seats; frames = r.frames }) (heads c)
  where
    heads : HeadChange w (head_in l.head) r.head → head_in (held_stored l.head r.head w) ≡ r.head
    heads (kept e) = rw (e, unmoved l.head w)
    heads (held n here small e) = rw e (head_stored l.head w n long here small)

module _ (move : Run → Moved) (l : Words) (w : ℕ) (long : head_words ≤ length l.head) where
  is_move : HeadChange w (head_in l.head) (move (run_in l)).run.head → IsMove l (move_words move l w) (move (run_in l))
  is_move c =
      record {
        number = ap (λ (m : Moved). answer_number m.answer) (sym (move_long move l long));
        run = ap (λ (m : Moved). run_in (words_after l w m.run)) (sym (move_long move l long)) ∙ change_stands l w (move (run_in l)).run long c;
        kept = stored_length l.head (move_for move l).run.head w;
      }

serial_change : (block : List ℕ) (r : Run) → HeadChange 0 r.head (serial_move block r).run.head
unfolding serial_move
serial_change block r =
    if_all (λ (m : Moved). HeadChange 0 r.head m.run.head) (large_enough (sizes_of r)) (λ _. runs_change block (all_calls r) r) (λ _. kept refl)

-- ---- openings

-- No worker holds a call in an opened run.
abbrev Idle : Opened → Type 0
Idle o = o.run.head.held ≡ repeated max_workers 0

prepared_idle : (s : Sizes) (workers : ℕ) (p : Prepared) (v : Result (Unit {0}) Refusal) → Idle (open_prepared s workers p v)
unfolding open_prepared refused_run
prepared_idle s workers p (Err why) = refl
prepared_idle s workers p (Ok tt) = refl

opening_idle : (s : Sizes) (file : List ℕ) (workers : ℕ) → Idle (opening_of s file workers)
unfolding opening_of refused_run
opening_idle s file workers =
    let p : Prepared = prepare_read (room_in s) file (read_block file) in
    if_all Idle (not (large_enough s)) (λ _. refl) λ _.
    if_all Idle (eqb workers 0 || ltb max_workers workers) (λ _. refl) λ _.
    prepared_idle s workers p p.verdict

-- Four numbers, and zero behind them, are the head of such a run.
idle_words : (rest : List ℕ) (a b c d : ℕ)
    → head_in (stored (repeated head_words 0 ++ rest) 0 (a ∷ b ∷ c ∷ d ∷ []))
    ≡ record { workers = a; calls = b; cells = c; first_call = d; held = repeated max_workers 0 }
unfolding stored repeated held_in below
idle_words rest a b c d = refl

zeros : (n : ℕ) → head_words ≤ n → repeated {A = ℕ} n 0 ≡ repeated head_words 0 ++ repeated (n - head_words) 0
unfolding repeated
zeros n long =
    let more : head_words + (n - head_words) ≡ n = omega arith in
    sym (replicate-append-replicate {A = ℕ} head_words (n - head_words) 0 ∙ ap (λ (k : ℕ). replicate {A = ℕ} k 0) more)

opened_stands : (n : ℕ) (o : Opened) → head_words ≤ n → Idle o → head_in (opened_head n o.run) ≡ o.run.head
opened_stands n o long idle =
    rw (zeros n long) (idle_words (repeated (n - head_words) 0) o.run.head.workers o.run.head.calls o.run.head.cells o.run.head.first_call)
    ∙ with_held_lem
  where
    with_held_lem :
        ◌≡◌ {A = Head}
        (record { workers = o.run.head.workers; calls = o.run.head.calls; cells = o.run.head.cells; first_call = o.run.head.first_call; held = repeated max_workers 0 })
        o.run.head
    with_held_lem = rw (← idle)

opened_length : (n : ℕ) (r : Run) → length (opened_head n r) ≡ n
unfolding stored repeated
opened_length n r = simp (length-set, length-replicate)

pub words_stand : WordsStand
words_stand =
    record {
      opens = λ n s file workers long.
          let o = opening_of s file workers in
          rw (← open_long n s file workers long)
          (ap (λ (h : Head). record {
            head = h;
            plan = o.run.plan;
            keys = o.run.keys;
            cells = o.run.cells;
            status = o.run.status;
            seats = o.run.seats;
            frames = o.run.frames;
          }) (opened_stands n o long (opening_idle s file workers)));
      long = λ n s file workers. opened_length n (opening_for n s file workers).run;
      begins = λ l worker call long. is_move (λ r. begin_of r worker call) l worker long (begin_change (run_in l) worker call);
      steps = λ block l worker long. is_move (λ r. step_of block r worker) l worker long (step_change (run_in l) worker block);
      cancels = λ l worker long. is_move (λ r. cancel_of r worker) l worker long (cancel_change (run_in l) worker);
      runs = λ block l long. is_move (serial_move block) l 0 long (serial_change block (run_in l));
    }
