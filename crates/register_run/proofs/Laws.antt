-- The input in pieces, with what is handed over of it, and the whole of a run, over plain variables and for both outputs.
use mathlib.Core.Path.{◌≡◌, refl, sym, ap, subst, ◌∙◌}
use mathlib.Core.Bool.{Bool, true, false, true≢false, false≢true}
use mathlib.Core.List.{List, [], ◌∷◌, ◌++◌, append-nil, flatten}
use Prim.Native.Nat.{ℕ, ◌+◌, ◌*◌, ◌≤◌, ◌<◌}
use native.Mathlib.Nat.{add-zero, zero-add}
use native.Mathlib.Omega.{arith}
use lib.ListN.{length, take, length-append}
use lib.Seq.{length-take-le, take_all}
use Rattle.std.specs.Prelude.{Option, Some, None, is_some, unwrap_or, Err, Ok, Result}
use Rattle.wire.specs.Bytes.{stored}
use Rattle.block.specs.Limits.{max_workers}
use Rattle.block.specs.Refusal.{number_of, offset_of, is_accepted}
use Rattle.block.specs.declared.Refusal.{Refusal}
use Rattle.text.specs.Lines.{block_refused_text}
use Rattle.machine.specs.Run.{Run, fixed_sizes}
use Rattle.machine.specs.Opening.{Opened, opening_of}
use Rattle.console.specs.Register.{Session, play_bytes, play_end, max_input, play_input, register_opened, register_of}
use Rattle.console.specs.SheetBytes.{close_bytes, sheet_opened, written_sheet}
use Rattle.console.specs.declared.Line.{Line}
use Rattle.console.specs.declared.Line.TheVariants.{Empty}
use Rattle.play.specs.Shown.{Shown, fresh_session, shown, shown_from}
use Rattle.play.specs.AnswerLength.{max_answer}
use Rattle.play.proofs.PlayLaws.{with_text_before, bytes_behind_lem, chunks}
use Rattle.play.proofs.PiecesLaws.{end_said, register_in_pieces}
use Rattle.play.proofs.TextLaws.{bytes_grow, end_grows}
use Rattle.play.specs.declared.Session as play
use Rattle.play.specs.Pieces.{pieces_text}
use Rattle.host.specs.Exchange.{Handed}
use Rattle.host.proofs.Laws.{front, handed_as, handed_empty, handed_more}
use Rattle.host.specs.declared.Exchange.{Exchange}
use Rattle.printing.specs.Printing.{printed_lines, printed_close}
use Rattle.register_run.specs.Runs.{chunk_size, printed_of, InputRead, PlaysBytes, PiecePlayed, InputPlayed, exchange_start, printed_end, printed_opened, RunsOn, Runs}
use Rattle.printing.specs.declared.Output.{Output}
use Rattle.printing.specs.declared.Output.TheVariants.{Text, Sheet}
use Rattle.register_run.specs.declared.Piece.{Piece}
use Rattle.register_run.specs.declared.Input.{Input}
use Rattle.register_run.specs.declared.Ran.{Ran}

-- ---- what is printed of lines, one behind another

lines_none : (output : Output) → printed_lines output [] ≡ []
unfolding printed_lines
lines_none Text = refl
lines_none Sheet = refl

lines_more : (output : Output) (text more : List ℕ) → printed_lines output (text ++ more) ≡ printed_lines output text ++ printed_lines output more
unfolding printed_lines
lines_more Text text more = refl
lines_more Sheet text more = refl

-- ---- a read hands nothing over, and what is handed over behind it

module _ {x y : Exchange} {n : ℕ} (r : InputRead x n y) where
  gone : (t : Bool) → y.ok ≡ t → x.ok ≡ false → y.ok ≡ false
  gone true e f = absurd (true≢false (sym (r.still e) ∙ f))
  gone false e f = e

  read_then : {before text after : List ℕ} {z : Exchange} → Handed before y text after z → Handed before x text after z
  read_then {before} h =
      record {
        handed = h.handed;
        rest = h.rest;
        parts = h.parts;
        kept =
            record {
              same = h.kept.same ∙ ap (λ (s : ℕ). stored before s h.handed) r.sent;
              end = h.kept.end ∙ ap (λ (s : ℕ). s + length h.handed) r.sent;
            };
        whole = h.whole;
        still = λ e. r.still (h.still e);
        nothing = λ e. h.nothing (gone y.ok refl e);
      }

-- ---- pieces, one after another

module _ (output : Output) (block : List ℕ) where
  -- A session that has written a text goes on as one that has written none.
  afresh : (s : Session) → s ≡ with_text_before s.output (fresh_session s.number s.line s.run)
  afresh s = λ i. record { number = s.number; line = s.line; run = s.run; output = sym (append-nil s.output) i }

  plays_none : (s : play.Session) (run : Run) (x : Exchange) (before : List ℕ)
      → PlaysBytes output block (fresh_session s.number s.line run) x before [] s run x before
  unfolding play_bytes
  plays_none s run x before =
      record {
        number = refl;
        line = refl;
        left = refl;
        text = handed_as (sym (lines_none output)) (handed_empty before x);
        received = sym (add-zero x.received);
      }

  module _ {start : Session} {x y z : Exchange} {before mid after xs ys : List ℕ} {s t : play.Session} {run left : Run}
      (p : PlaysBytes output block start x before xs s run y mid) (q : PlaysBytes output block (fresh_session s.number s.line run) y mid ys t left z after) where
    first : Session
    first = play_bytes block start xs

    second : Session
    second = play_bytes block (fresh_session s.number s.line run) ys

    both : play_bytes block start (xs ++ ys) ≡ with_text_before first.output second
    unfolding first second
    both =
        chunks block start xs ys
        ∙ ap (λ (u : Session). play_bytes block u ys)
        (afresh (play_bytes block start xs)
        ∙ (λ i. with_text_before (play_bytes block start xs).output (fresh_session (sym p.number i) (sym p.line i) (sym p.left i))))
        ∙ bytes_behind_lem block (play_bytes block start xs).output (fresh_session s.number s.line run) ys

    pub plays_more : PlaysBytes output block start x before (xs ++ ys) t left z after
    unfolding first second
    plays_more =
        record {
          number = q.number ∙ sym (ap (λ (u : Session). u.number) both);
          line = q.line ∙ sym (ap (λ (u : Session). u.line) both);
          left = q.left ∙ sym (ap (λ (u : Session). u.run) both);
          text =
              handed_as
              (sym (lines_more output first.output second.output) ∙ sym (ap (λ (u : Session). printed_lines output u.output) both))
              (handed_more p.text q.text);
          received = q.received ∙ ap (λ (n : ℕ). n + length ys) p.received ∙ omega (arith, length-append xs ys);
        }

-- ---- one piece

-- What `play_chunk` shows of the piece that was read, handed over.
module _ (block chunk : List ℕ) (number : ℕ) (line : Line) (run : Run) (n : ℕ) (out : List ℕ) where
  abbrev bytes : List ℕ
  bytes = take n chunk

  abbrev played : Session
  played = play_bytes block (fresh_session number line run) bytes

  -- The answers fit their buffer.
  pub answers_fit : {next : ℕ} {on : Line} {left : Run} {answers : List ℕ} {end : ℕ} → shown_from next on left answers end ≡ shown out 0 played
      → n ≤ chunk_size → n ≤ length chunk → end ≤ max_answer * chunk_size
  answers_fit {end = end} e l m =
      let grown : end ≡ 0 + length played.output = ap (λ (w : Shown). w.end) e in
      let bound : length played.output ≤ length (fresh_session number line run).output + max_answer * length bytes = bytes_grow block (fresh_session number line run) bytes in
      let size : length bytes ≡ n = length-take-le n chunk m in
      omega (arith, grown, bound, size)

  module _ {next : ℕ} {on : Line} {left : Run} {answers : List ℕ} {end : ℕ} (e : shown_from next on left answers end ≡ shown out 0 played) where
    answers_are : end ≤ length out → take end answers ≡ played.output
    answers_are h =
        front (record { same = ap (λ (w : Shown). w.buffer) e; end = ap (λ (w : Shown). w.end) e }) h

    pub piece_played : (output : Output) (x : Exchange) (limit : ℕ) (before : List ℕ) {y z : Exchange} {after : List ℕ} {t : play.Session} → t.number ≡ next → t.line ≡ on
        → InputRead x n y → n ≤ limit → n ≤ length chunk → end ≤ length out → Handed before y (printed_lines output (take end answers)) after z → z.received ≡ y.received
        → PiecePlayed output block (fresh_session number line run) x limit before (record { session = t; exchange = z; taken = n }) left after
    piece_played output x limit before a b r l m h text same =
        record {
          bytes = bytes;
          size = length-take-le n chunk m;
          within = l;
          plays =
              record {
                number = a ∙ ap (λ (w : Shown). w.number) e;
                line = b ∙ ap (λ (w : Shown). w.line) e;
                left = ap (λ (w : Shown). w.run) e;
                text = read_then r (handed_as (ap (printed_lines output) (answers_are h)) text);
                received = same ∙ r.received ∙ ap (λ (k : ℕ). x.received + k) (sym (length-take-le n chunk m));
              };
        }

-- ---- the input

-- What is played of the input so far, and how much of it may still come.
pub record InputPlaying (output : Output) (block : List ℕ) (start : Session) (x : Exchange) (limit : ℕ) (before : List ℕ) (s : play.Session) (run : Run) (y : Exchange) (left : ℕ)
    (after : List ℕ) : Type 0 where
  pub bytes : List ℕ
  pub all : length bytes + left ≡ limit
  pub plays : PlaysBytes output block start x before bytes s run y after

pub input_start : (output : Output) (block : List ℕ) (s : play.Session) (run : Run) (x : Exchange) (limit : ℕ) (before : List ℕ)
    → InputPlaying output block (fresh_session s.number s.line run) x limit before s run x limit before
input_start output block s run x limit before = record { bytes = []; all = zero-add limit; plays = plays_none output block s run x before }

module _ {output : Output} {block : List ℕ} {start : Session} {x : Exchange} {limit : ℕ} {before : List ℕ} {s : play.Session} {run : Run} {y : Exchange} {left : ℕ} {mid : List ℕ}
    (g : InputPlaying output block start x limit before s run y left mid) where
  -- As many bytes came as are played.
  pub going_received : x.received ≡ 0 → limit < 4294967296 → y.received < 4294967296
  going_received e l =
      let received : y.received ≡ x.received + length g.bytes = g.plays.received in
      let all : length g.bytes + left ≡ limit = g.all in
      omega arith

  pub input_on : {most : ℕ} {p : Piece} {next : Run} {after : List ℕ} → PiecePlayed output block (fresh_session s.number s.line run) y most mid p next after
      → most ≤ left → {rest : ℕ} → rest + p.taken ≡ left → InputPlaying output block start x limit before p.session next p.exchange rest after
  input_on {p = p} q l {rest} r =
      record {
        bytes = g.bytes ++ q.bytes;
        all =
            let all : length g.bytes + left ≡ limit = g.all in
            let size : length q.bytes ≡ p.taken = q.size in
            omega (arith, length-append g.bytes q.bytes);
        plays = plays_more output block g.plays q.plays;
      }

  pub input_of : (ended : Bool) → (y.ok ≡ true → ended ≡ false → left ≡ 0)
      → InputPlayed output block start x limit before (record { session = s; exchange = y; ended = ended }) run mid
  input_of ended f =
      let all : length g.bytes + left ≡ limit = g.all in
      record {
        bytes = g.bytes;
        within = omega arith;
        whole = λ ok more. let none : left ≡ 0 = f ok more in omega arith;
        plays = g.plays;
      }

-- ---- the input's end

-- The last line and the close, one behind the other.
module _ (block : List ℕ) (number : ℕ) (line : Line) (run : Run) (out : List ℕ) {next : ℕ} {on : Line} {left : Run} {answers : List ℕ} {end : ℕ}
    (e : shown_from next on left answers end ≡ shown out 0 (play_end block (fresh_session number line run))) where
  pub end_fits : end ≤ max_answer
  end_fits =
      let grown : end ≡ 0 + length (play_end block (fresh_session number line run)).output = ap (λ (w : Shown). w.end) e in
      omega (arith, grown, end_grows block (fresh_session number line run))

  pub finish_handed : (output : Output) {before mid after : List ℕ} {x y z : Exchange} → end ≤ length out
      → Handed before x (printed_lines output (take end answers)) mid y → Handed mid y (printed_close output left) after z
      → Handed before x (printed_end output block number line run) after z
  finish_handed output h a b =
      let text : take end answers ≡ (play_end block (fresh_session number line run)).output =
      front (record { same = ap (λ (w : Shown). w.buffer) e; end = ap (λ (w : Shown). w.end) e }) h in
      handed_more (handed_as (ap (printed_lines output) text) a) (handed_as (ap (λ (w : Shown). printed_close output w.run) e) b)

-- ---- the whole

module _ {output : Output} {block : List ℕ} {run left : Run} {x y : Exchange} {limit : ℕ} {before mid after : List ℕ} {i : Input} where
  pub runs_on : InputPlayed output block (fresh_session 1 Empty run) x limit before i left mid
      → Handed mid i.exchange (printed_end output block i.session.number i.session.line left) after y → y.received ≡ i.exchange.received → x.received ≡ 0
      → RunsOn output block run x limit before (record { input_ended = Some i.ended; exchange = y }) after
  runs_on p h same none =
      let s : Session = play_bytes block (fresh_session 1 Empty run) p.bytes in
      record {
        opened = refl;
        input = p.bytes;
        within = p.within;
        whole = λ ok more. p.whole (h.still ok) (ap (λ (e : Option Bool). unwrap_or e true) more);
        received = same ∙ p.plays.received ∙ ap (λ (n : ℕ). n + length p.bytes) none ∙ zero-add (length p.bytes);
        text =
            handed_as
            (λ j. printed_lines output s.output ++ printed_end output block (p.plays.number j) (p.plays.line j) (p.plays.left j))
            (handed_more p.plays.text h);
      }

-- What is printed of an accepted block, and of a refused one.
opened_is : (output : Output) (block input : List ℕ) → length input ≤ max_input → (opening_of fixed_sizes block max_workers).answer ≡ (Ok tt)
    → printed_of output block input ≡ printed_opened output block (opening_of fixed_sizes block max_workers).run input
unfolding printed_of printed_lines printed_close flatten pieces_text written_sheet sheet_opened play_input
opened_is Text block input short accepted =
    ap (register_of block) (sym (append-nil input))
    ∙ register_in_pieces block (input ∷ []) (subst (λ (l : List ℕ). length l ≤ max_input) (sym (append-nil input)) short) accepted
opened_is Sheet block input short accepted =
    let run : Run = (opening_of fixed_sizes block max_workers).run in
    let s : Session = play_bytes block (fresh_session 1 Empty run) input in
    ap (sheet_opened block input run) accepted
    ∙ ap (λ (xs : List ℕ). close_bytes (play_end block (play_bytes block (fresh_session 1 Empty run) xs)).run) (take_all max_input input short)
    ∙ ap (λ (e : Session). close_bytes e.run) (end_said block s.output s.number s.line s.run)

refused_of : (output : Output) (block input : List ℕ) (why : Refusal) → (opening_of fixed_sizes block max_workers).answer ≡ Err why
    → printed_of output block input ≡ printed_lines output (block_refused_text (number_of why) (offset_of why))
unfolding printed_of printed_lines register_of register_opened written_sheet sheet_opened
refused_of Text block input why e = ap (register_opened block input (opening_of fixed_sizes block max_workers).run) e
refused_of Sheet block input why e = ap (sheet_opened block input (opening_of fixed_sizes block max_workers).run) e

module _ {output : Output} {block : List ℕ} {x : Exchange} {limit : ℕ} {before after : List ℕ} {v : Result (Unit {0}) Refusal} {opened : Run} (small : limit < 4294967296)
    (is : ◌≡◌ {A = Opened} (record { answer = v; run = opened }) (opening_of fixed_sizes block max_workers)) where
  pub runs_accepted : {r : Ran} → v ≡ (Ok tt) → RunsOn output block opened (exchange_start x) limit before r after → Runs output block x limit before r after
  unfolding is_accepted
  runs_accepted {r} e p =
      let accepted : (opening_of fixed_sizes block max_workers).answer ≡ (Ok tt) = sym (ap (λ (o : Opened). o.answer) is) ∙ e in
      let run_is : opened ≡ (opening_of fixed_sizes block max_workers).run = ap (λ (o : Opened). o.run) is in
      record {
        opened = p.opened ∙ sym (ap is_accepted accepted);
        input = p.input;
        within = p.within;
        whole = p.whole;
        received = p.received;
        text =
            handed_as
            (ap (λ (u : Run). printed_opened output block u p.input) run_is
            ∙ sym (opened_is output block p.input (let w : length p.input ≤ limit = p.within in omega arith) accepted))
            p.text;
      }

  pub runs_refused : (why : Refusal) → v ≡ Err why → {y : Exchange}
      → Handed before (exchange_start x) (printed_lines output (block_refused_text (number_of why) (offset_of why))) after y
      → y.received ≡ 0 → Runs output block x limit before (record { input_ended = None; exchange = y }) after
  unfolding is_accepted
  runs_refused why e {y} h none =
      let refused : (opening_of fixed_sizes block max_workers).answer ≡ Err why = sym (ap (λ (o : Opened). o.answer) is) ∙ e in
      record {
        opened = sym (ap is_accepted refused);
        input = [];
        within = omega arith;
        whole = λ ok more. absurd (false≢true (ap is_some more));
        received = none;
        text = handed_as (sym (refused_of output block [] why refused)) h;
      }
