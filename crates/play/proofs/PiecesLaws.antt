-- The texts of an input's pieces are what REGISTER prints of the whole, however the input is cut.
use mathlib.Core.Path.{◌≡◌, refl, sym, ap, ◌∙◌}
use mathlib.Core.Bool.{Bool}
use mathlib.Core.List.{List, [], ◌∷◌, ◌++◌, append_assoc, append-nil, flatten}
use Prim.Native.Nat.{ℕ}
use lib.Seq.{take_all}
use Rattle.std.specs.Prelude.{if◌then◌else◌}
use Rattle.arith.proofs.ChoiceLaws.{by_test}
use Rattle.block.specs.Limits.{max_workers}
use Rattle.machine.specs.Run.{Run, fixed_sizes}
use Rattle.machine.specs.Opening.{opening_of}
use Rattle.console.specs.Line.{is_empty, line_move}
use Rattle.console.specs.Register.{Session, play_line, play_bytes, play_end, close_run, max_input, play_input, register_opened, register_of}
use Rattle.console.specs.declared.Line.{Line}
use Rattle.console.specs.declared.Line.TheVariants.{Empty}
use Rattle.play.proofs.PlayLaws.{with_text_before, move_behind, bytes_behind_lem, chunks}
use Rattle.play.specs.Shown.{fresh_session}
use Rattle.play.specs.Pieces.{pieces_text, RegisterInPieces}

-- ---- a session that has written a text goes on as one that has written none

abbrev said : List ℕ → ℕ → Line → Run → Session
said text number line run = record { number = number; line = line; run = run; output = text }

-- It stands behind the text.
module _ (block text : List ℕ) (number : ℕ) (line : Line) (run : Run) where
  abbrev s₀ : Session
  s₀ = fresh_session number line run

  is_behind : said text number line run ≡ with_text_before text s₀
  is_behind = ap (λ (t : List ℕ). said t number line run) (sym (append-nil text))

  bytes_said : (xs : List ℕ) → play_bytes block (said text number line run) xs ≡ with_text_before text (play_bytes block s₀ xs)
  bytes_said xs = ap (λ (s : Session). play_bytes block s xs) is_behind ∙ bytes_behind_lem block text s₀ xs

  end_behind : play_end block (with_text_before text s₀) ≡ with_text_before text (play_end block s₀)
  unfolding play_end
  end_behind =
      by_test (λ (t : Bool). (if t then with_text_before text s₀ else play_line block (with_text_before text s₀)) ≡ with_text_before text (if t then s₀ else play_line block s₀))
      (is_empty line) (λ e. refl) (λ e. move_behind block text s₀ (line_move line))

  pub end_said : play_end block (said text number line run) ≡ with_text_before text (play_end block s₀)
  end_said = ap (play_end block) is_behind ∙ end_behind

-- ---- the whole

-- What is printed of a session with the rest of its input.
abbrev printed : Session → List ℕ
printed e = e.output ++ close_run e.run

abbrev whole : List ℕ → Session → List ℕ → List ℕ
whole block s xs = printed (play_end block (play_bytes block s xs))

pieces_whole : (block text : List ℕ) (number : ℕ) (line : Line) (run : Run) (ps : List (List ℕ))
    → whole block (said text number line run) (flatten ps) ≡ text ++ pieces_text block number line run ps
unfolding flatten play_bytes pieces_text
pieces_whole block text number line run [] =
    let e : Session = play_end block (fresh_session number line run) in
    ap printed (end_said block text number line run) ∙ append_assoc text e.output (close_run e.run)
pieces_whole block text number line run (p ∷ ps) =
    let t : Session = play_bytes block (fresh_session number line run) p in
    ap (λ (s : Session). printed (play_end block s)) (chunks block (said text number line run) p (flatten ps))
    ∙ ap (λ (s : Session). whole block s (flatten ps)) (bytes_said block text number line run p)
    ∙ pieces_whole block (text ++ t.output) t.number t.line t.run ps
    ∙ append_assoc text t.output (pieces_text block t.number t.line t.run ps)

pub register_in_pieces : RegisterInPieces
unfolding register_of register_opened play_input
register_in_pieces file ps short accepted =
    let run : Run = (opening_of fixed_sizes file max_workers).run in
    ap (register_opened file (flatten ps) run) accepted
    ∙ ap (whole file (fresh_session 1 Empty run)) (take_all max_input (flatten ps) short)
    ∙ pieces_whole file [] 1 Empty run ps
