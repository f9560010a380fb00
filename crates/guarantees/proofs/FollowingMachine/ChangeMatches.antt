-- One call and its worker change: the run that is changed likewise stands for the changed machine.
use mathlib.Core.Path.{◌≡◌, refl, sym, ap, subst, subst⁻¹, ◌∙◌}
use mathlib.Core.Bool.{Bool}
use mathlib.Core.List.{List}
use Prim.Native.Nat.{ℕ, ◌≤◌, ◌<◌}
use native.Mathlib.Omega.{arith}
use lib.IntN.{ℤ}
use lib.ListN.{length, length-set}
use lib.Seq.{get_or-set_same, get_or-set_other}
use Rattle.block.specs.Limits.{max_call_keys}
use Rattle.schedule.specs.Tally as tally
use Rattle.schedule.specs.Tally.{put, unfinished_earlier}
use Rattle.schedule.specs.Machine.{ready, active, ended, is_ended, kept, Machine, settle_call}
use Rattle.schedule.proofs.Valid.{put_here, put_there, put_all}
use Rattle.machine.specs.Run.{Run, sizes_of, held_at, with_held, status_word, wait_word, wait_count}
use Rattle.machine.specs.Moves.{call_key_count}
use Rattle.machine.specs.Step.{View}
use Rattle.guarantees.proofs.CallsOfRun.ViewCalls.{Place, broken, receipt, run_view}
use Rattle.guarantees.proofs.FollowingMachine.RunMatches.{CallState, StatusHas, StatusSays, RunningSeat, Seated, Base, calls_in, HoldsRunning, Matches}
use Rattle.guarantees.proofs.FollowingMachine.BufferLaws.{SeatKept}

-- The run with what worker w holds and four buffers changed.
abbrev pub changed : Run → (w held : ℕ) → (cells : List ℤ) → (status seats : List ℕ) → (frames : List ℤ) → Run
changed r w held cells status seats frames =
    record { head = with_held r.head w held; plan = r.plan; keys = r.keys; cells = cells; status = status; seats = seats; frames = frames }

-- ---- what a state says of a call stays said by equal words

has_same : (status old : List ℕ) (c : ℕ) → ((k : ℕ) → k < wait_word → status_word status c k ≡ status_word old c k)
    → {state outcome count : ℕ} → StatusHas old c state outcome count → StatusHas status c state outcome count
has_same status old c same h = (same 0 (omega arith) ∙ h.0, same 1 (omega arith) ∙ h.1, same 2 (omega arith) ∙ h.2)

pub stands_same : (status old : List ℕ) (c : ℕ) (a : CallState) → ((k : ℕ) → k < wait_word → status_word status c k ≡ status_word old c k)
    → StatusSays old c a → StatusSays status c a
stands_same status old c ready same h = has_same status old c same h
stands_same status old c (active l o) same h = has_same status old c same h
stands_same status old c (ended broken) same h = h
stands_same status old c (ended (receipt outcome count)) same h = has_same status old c same h

-- A worker that still holds a call holds the one that runs.
pub kept_holds : (c d : ℕ) (a : CallState) → kept c a ≡ tally.holds d → c ≡ d
kept_holds c d ready e = let z : ◌≡◌ {A = ℕ} 0 1 = cc in absurd (omega arith)
kept_holds c d (active l o) e = cc
kept_holds c d (ended r) e = let z : ◌≡◌ {A = ℕ} 0 1 = cc in absurd (omega arith)

-- A worker whose seat is that of a call in a state: it is free, or the call runs.
freed : (v : View) (held : ℕ) (seats : List ℕ) (frames : List ℤ) (w c : ℕ) (a : CallState) → Seated v held seats frames w c a
    → kept c a ≡ tally.idle → held ≡ 0
freed v held seats frames w c ready h e = h
freed v held seats frames w c (active l o) h e = let z : ◌≡◌ {A = ℕ} 0 1 = cc in absurd (omega arith)
freed v held seats frames w c (ended r) h e = h

record Runs (v : View) (held : ℕ) (seats : List ℕ) (frames : List ℤ) (w c : ℕ) (a : CallState) : Type 0 where
  local : Place
  own_saved : List ℤ
  is : a ≡ active local own_saved
  own : RunningSeat v held seats frames w c local own_saved

runs : (v : View) (held : ℕ) (seats : List ℕ) (frames : List ℤ) (w c : ℕ) (a : CallState) → Seated v held seats frames w c a
    → (d : ℕ) → kept c a ≡ tally.holds d → Runs v held seats frames w c a
runs v held seats frames w c ready h d e = let z : ◌≡◌ {A = ℕ} 0 1 = cc in absurd (omega arith)
runs v held seats frames w c (active l o) h d e = record { local = l; own_saved = o; is = refl; own = h }
runs v held seats frames w c (ended r) h d e = let z : ◌≡◌ {A = ℕ} 0 1 = cc in absurd (omega arith)

module _ (file : List ℕ) (workers n : ℕ) (before : ℕ → ℕ → Bool) (r₀ : Run) (base : Base file workers n before r₀) where
  -- A call has at most 24 keys.
  pub call_few_keys : (c : ℕ) → c < n → call_key_count r₀.plan c ≤ max_call_keys
  call_few_keys c l =
      let few : length (run_view file r₀ c).entries ≤ 24 = (base.tidy c l).few in
      let count : call_key_count r₀.plan c ≡ length (run_view file r₀ c).entries = (base.tidy c l).count in
      omega arith

  -- Call c of worker w comes to the state a: what the worker holds and the changed buffers have to say, and that no other worker holds c nor w another call.
  pub record CallChange (M : Machine (calls_in file n before r₀)) (r : Run) (w c : ℕ) (a : CallState)
      (held : ℕ) (cells : List ℤ) (status seats : List ℕ) (frames : List ℤ) : Type 0 where
    pub worker : w < workers
    pub call : c < n
    pub mine : (d : ℕ) → M.seat w ≡ tally.holds d → d ≡ c
    pub sole : (u : ℕ) → M.seat u ≡ tally.holds c → u ≡ w
    pub cell_length : length cells ≡ length r.cells
    pub status_length : length status ≡ length r.status
    pub seat_length : length seats ≡ length r.seats
    pub frame_length : length frames ≡ length r.frames
    pub stands : StatusSays status c a
    pub others : (d k : ℕ) → ¬ (d ≡ c) → k < wait_word → status_word status d k ≡ status_word r.status d k
    pub waits : (d : ℕ) → d < n → wait_count status d ≡ unfinished_earlier before (λ i. is_ended (put M.call c a i)) d d
    pub seated : Seated (run_view file r₀ c) held seats frames w c a
    pub elsewhere : (u : ℕ) → ¬ (u ≡ w) → SeatKept r.seats seats r.frames frames u

  module _ (M : Machine (calls_in file n before r₀)) (r : Run) (m : Matches file workers n before r₀ M r)
      (w c : ℕ) (a : CallState) (held : ℕ) (cells : List ℤ) (status seats : List ℕ) (frames : List ℤ)
      (h : CallChange M r w c a held cells status seats frames) where
    abbrev M' : Machine (calls_in file n before r₀)
    M' = record { cells = cells; call = put M.call c a; seat = put M.seat w (kept c a) }

    abbrev r' : Run
    r' = changed r w held cells status seats frames

    new_held : held_at r'.head w ≡ held
    new_held =
        let few : w < 8 = let l : w < workers = h.worker in let f : workers ≤ 8 = base.few_workers in omega arith in
        get_or-set_same r.head.held w held 0 (rw m.held_length few)

    old_held : (u : ℕ) → ¬ (u ≡ w) → held_at r'.head u ≡ held_at r.head u
    old_held u x = get_or-set_other r.head.held w u held 0 x

    sizes : sizes_of r' ≡ sizes_of r
    sizes =
        λ i. record {
          plan = length r.plan;
          keys = length r.keys;
          cells = h.cell_length i;
          status = h.status_length i;
          seats = h.seat_length i;
          frames = h.frame_length i;
        }

    held_new : (d : ℕ) → kept c a ≡ tally.holds d → HoldsRunning file workers n before r₀ M' r' w d
    held_new d e =
        let v : View = run_view file r₀ c in
        let x : Runs v held seats frames w c a = runs v held seats frames w c a h.seated d e in
        let own : HoldsRunning file workers n before r₀ M' r' w c =
        record {
          worker = h.worker;
          call = h.call;
          local = x.local;
          kept = x.own_saved;
          runs = put_here M.call c a ∙ x.is;
          own = subst⁻¹ (λ (now : ℕ). RunningSeat v now seats frames w c x.local x.own_saved) new_held x.own;
        } in
        subst (HoldsRunning file workers n before r₀ M' r' w) (kept_holds c d a e) own

    held_old : (u : ℕ) → ¬ (u ≡ w) → (d : ℕ) → M.seat u ≡ tally.holds d → HoldsRunning file workers n before r₀ M' r' u d
    held_old u x d e =
        let k : HoldsRunning file workers n before r₀ M r u d = m.holds u d e in
        let same : SeatKept r.seats seats r.frames frames u = h.elsewhere u x in
        record {
          worker = k.worker;
          call = k.call;
          local = k.local;
          kept = k.kept;
          runs = put_there M.call c a d (λ q. x (h.sole u (e ∙ ap tally.holds q))) ∙ k.runs;
          own =
              record {
                holds = old_held u x ∙ k.own.holds;
                place = same.place ∙ k.own.place;
                count = same.count ∙ k.own.count;
                regs = same.regs ∙ k.own.regs;
                old = same.old (call_key_count r₀.plan d) (call_few_keys d k.call) ∙ k.own.old;
                range = k.own.range;
              };
        }

    sole_new : (u d : ℕ) → kept c a ≡ tally.holds d → put M.seat w (kept c a) u ≡ tally.holds d → w ≡ u
    sole_new u d e =
        put_all M.seat w (kept c a) (λ u q. q ≡ tally.holds d → w ≡ u) (λ f. refl)
        (λ u x f. sym (h.sole u (f ∙ ap tally.holds (sym (kept_holds c d a e))))) u

    sole_old : (v d u : ℕ) → ¬ (u ≡ w) → M.seat u ≡ tally.holds d → put M.seat w (kept c a) v ≡ tally.holds d → u ≡ v
    sole_old v d u x e =
        put_all M.seat w (kept c a) (λ v q. q ≡ tally.holds d → u ≡ v)
        (λ f. h.sole u (e ∙ ap tally.holds (sym (kept_holds c d a f))))
        (λ v y f. m.sole u v d e f) v

    worker_old : (d : ℕ) → ¬ (d ≡ c) → (l : Place) (o : List ℤ) → M.call d ≡ active l o → (u : ℕ) × (put M.seat w (kept c a) u ≡ tally.holds d)
    worker_old d x l o e =
        let k = m.worker d l o e in
        (k.0, put_there M.seat w (kept c a) k.0 (λ q. x (h.mine d (ap M.seat (sym q) ∙ k.1))) ∙ k.1)

    pub change_matches : Matches file workers n before r₀ (settle_call (calls_in file n before r₀) M w c cells a) r'
    unfolding settle_call
    change_matches =
        record {
          plan = m.plan;
          keys = m.keys;
          worker_count = m.worker_count;
          call_count = m.call_count;
          cell_count = m.cell_count;
          first = m.first;
          sizes = sizes ∙ m.sizes;
          held_length = length-set r.head.held w held ∙ m.held_length;
          cells = refl;
          calls = put_all M.call c a (λ d q. d < n → StatusSays status d q) (λ l. h.stands)
              (λ d x l. stands_same status r.status d (M.call d) (λ k. h.others d k x) (m.calls d l));
          waits = h.waits;
          idle = put_all M.seat w (kept c a) (λ u q. u < workers → q ≡ tally.idle → held_at r'.head u ≡ 0)
              (λ l e. new_held ∙ freed (run_view file r₀ c) held seats frames w c a h.seated e) (λ u x l e. old_held u x ∙ m.idle u l e);
          holds = put_all M.seat w (kept c a) (λ u q. (d : ℕ) → q ≡ tally.holds d → HoldsRunning file workers n before r₀ M' r' u d) held_new held_old;
          sole =
              λ u v d. put_all M.seat w (kept c a) (λ u q. q ≡ tally.holds d → M'.seat v ≡ tally.holds d → u ≡ v)
              (sole_new v d) (sole_old v d) u;
          worker = put_all M.call c a (λ d q. (l : Place) (o : List ℤ) → q ≡ active l o → (u : ℕ) × (M'.seat u ≡ tally.holds d))
              (λ l o e. (w, put_here M.seat w (kept c a) ∙ ap (kept c) e)) worker_old;
        }
