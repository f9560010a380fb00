-- A piece of the input byte by byte, over plain variables: what is left gives what the whole would have given.
use mathlib.Core.Path.{◌≡◌, refl, sym, ap, ◌∙◌}
use mathlib.Core.Bool.{Bool, true, false}
use mathlib.Core.List.{List, [], ◌∷◌, append-nil}
use Prim.Native.Nat.{ℕ, ◌+◌, ◌*◌, ◌≤◌, ◌<◌, min}
use native.Mathlib.Nat.{add-zero, add_assoc}
use native.Mathlib.Numerals.{add-one}
use native.Mathlib.Omega.{arith}
use borrow.Author.Tests.{leb-true, leb-false, eq-eqb, ne_eqb}
use lib.Dec.{eqb, leb}
use lib.ListN.{length, get_or, take, drop, length-append, drop_of_length-le}
use lib.Seq.{drop-cons, take_all, take-length}
use Rattle.wire.specs.Bytes.{stored}
use Rattle.wire.proofs.BytesLaws.{stored_append}
use Rattle.wire.specs.Decimal.{line_feed}
use Rattle.machine.specs.Run.{Run}
use Rattle.console.specs.Line.{read_byte}
use Rattle.console.specs.Register.{Session, play_line, play_byte, play_bytes}
use Rattle.console.specs.declared.Line.{Line}
use Rattle.play.proofs.PlayLaws.{with_text_before, bytes_behind_lem}
use Rattle.play.specs.Shown.{Shown, fresh_session, shown, shown_from}
use Rattle.play.specs.AnswerLength.{max_answer}
use Rattle.play.proofs.TextLaws.{byte_grows}

-- A text that is shown already, and what is played behind it.
abbrev resumed : List ℕ → List ℕ → Shown → Shown
resumed block ys w = shown w.buffer w.end (play_bytes block (fresh_session w.number w.line w.run) ys)

shown_behind : (out : List ℕ) (from : ℕ) (text : List ℕ) (s : Session) → shown out from (with_text_before text s) ≡ shown (stored out from text) (from + length text) s
shown_behind out from text s =
    λ i. shown_from s.number s.line s.run (stored_append text s.output out from i)
    ((ap (λ (n : ℕ). from + n) (length-append text s.output) ∙ sym (add_assoc from (length text) (length s.output))) i)

afresh : (s : Session) → s ≡ with_text_before s.output (fresh_session s.number s.line s.run)
afresh s = λ i. record { number = s.number; line = s.line; run = s.run; output = sym (append-nil s.output) i }

shown_on : (block : List ℕ) (out : List ℕ) (from : ℕ) (s : Session) (ys : List ℕ)
    → shown out from (play_bytes block s ys) ≡ resumed block ys (shown out from s)
shown_on block out from s ys =
    ap (λ (t : Session). shown out from (play_bytes block t ys)) (afresh s)
    ∙ ap (shown out from) (bytes_behind_lem block s.output (fresh_session s.number s.line s.run) ys)
    ∙ shown_behind out from s.output (play_bytes block (fresh_session s.number s.line s.run) ys)

-- One byte, behind a text that is shown already.
abbrev byte_on : List ℕ → ℕ → Shown → Shown
byte_on block x w = shown w.buffer w.end (play_byte block (fresh_session w.number w.line w.run) x)

module _ (block : List ℕ) (number : ℕ) (line : Line) (run : Run) (out : List ℕ) (end x : ℕ) where
  -- A line feed: the line is played.
  pub byte_feed : x ≡ line_feed → {u : Shown} → u ≡ shown out end (play_line block (fresh_session number line run)) → u ≡ byte_on block x (shown_from number line run out end)
  unfolding play_byte
  byte_feed e f = let t : eqb x line_feed ≡ true = eq-eqb x line_feed e in rw (t, play_byte) f

  -- Every other byte is read.
  pub byte_read : (x ≡ line_feed → ⊥) → {more : Line} → more ≡ read_byte line x → shown_from number more run out end ≡ byte_on block x (shown_from number line run out end)
  unfolding play_byte stored
  byte_read e is = let t : eqb x line_feed ≡ false = ne_eqb x line_feed e in rw (t, play_byte, is, add-zero) refl

pub take_most : (chunk : List ℕ) (n : ℕ) {end : ℕ} → end ≡ min n (length chunk) → take end chunk ≡ take n chunk
take_most chunk n {end} e = go (leb n (length chunk)) refl
  where
    go : (b : Bool) → leb n (length chunk) ≡ b → take end chunk ≡ take n chunk
    go true t = let l : n ≤ length chunk = leb-true n (length chunk) t in let f : end ≡ n = omega arith in rw f
    go false t =
        let l : length chunk < n = leb-false n (length chunk) t in
        let f : end ≡ length chunk = omega arith in
        rw (f, take_all n chunk (omega arith)) (take-length chunk)

-- A piece played up to a position: what is shown so far, and what is left.
pub record Playing (block piece : List ℕ) (w : Shown) (at : ℕ) (v : Shown) : Type 0 where
  pub same : resumed block piece w ≡ resumed block (drop at piece) v
  pub short : v.end ≤ max_answer * at

module _ {block piece : List ℕ} {w : Shown} {at : ℕ} {v : Shown} (g : Playing block piece w at v) where
  pub playing_on : at < length piece → {u : Shown} → u ≡ byte_on block (get_or piece at 0) v → Playing block piece w (at + 1) u
  unfolding play_bytes
  playing_on l {u} e =
      let x : ℕ = get_or piece at 0 in
      let next : drop at piece ≡ x ∷ drop (at + 1) piece = drop-cons piece at 0 l ∙ rw (add-one at) refl in
      let s : Session = fresh_session v.number v.line v.run in
      let grown : u.end ≡ v.end + length (play_byte block s x).output = ap (λ (t : Shown). t.end) e in
      record {
        same =
            g.same
            ∙ ap (λ (ys : List ℕ). resumed block ys v) next
            ∙ shown_on block v.buffer v.end (play_byte block s x) (drop (at + 1) piece)
            ∙ ap (resumed block (drop (at + 1) piece)) (sym e);
        short = omega (arith, g.short, grown, byte_grows block s x);
      }

  pub playing_end : length piece ≤ at → v ≡ resumed block piece w
  unfolding play_bytes stored
  playing_end l =
      let none : drop at piece ≡ [] = drop_of_length-le piece {i = at} l in
      let here : resumed block (drop at piece) v ≡ v = rw (none, add-zero) in
      sym (g.same ∙ here)

-- The first bytes of a piece, played from the start to the end.
pub playing_all : (block chunk : List ℕ) (n : ℕ) {end at : ℕ} → end ≡ min n (length chunk) → length (take end chunk) ≤ at → {w v : Shown} → Playing block (take end chunk) w at v
    → v ≡ resumed block (take n chunk) w
playing_all block chunk n e l {w} g = playing_end g l ∙ ap (λ (ys : List ℕ). resumed block ys w) (take_most chunk n e)
