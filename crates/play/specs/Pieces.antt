-- REGISTER on an input that comes in pieces: the texts that the pieces make, one after another, then those of the input's end and of the
-- sheet. Each is what `play_chunk`, `play_end`, `sheet` and `sheet_text` store.
use Rattle.std.specs.Prelude.{◌≡◌, ℕ, ◌≤◌, length, Ok}
use mathlib.Core.List.{List, [], ◌∷◌, ◌++◌, flatten}
use Rattle.block.specs.Limits.{max_workers}
use Rattle.machine.specs.Run.{Run, fixed_sizes}
use Rattle.machine.specs.Opening.{opening_of}
use Rattle.console.specs.Register.{Session, play_bytes, play_end, close_run, max_input, register_of}
use Rattle.console.specs.declared.Line.{Line}
use Rattle.console.specs.declared.Line.TheVariants.{Empty}
use Rattle.play.specs.Shown.{fresh_session}

-- The text of the input's end and of the sheet.
abbrev pub end_text : List ℕ → ℕ → Line → Run → List ℕ
end_text block number line run = let e : Session = play_end block (fresh_session number line run) in e.output ++ close_run e.run

-- The text of each piece, played from where the one before left the session, and of the end.
unfoldable pub pieces_text : List ℕ → ℕ → Line → Run → List (List ℕ) → List ℕ
pieces_text block number line run [] = end_text block number line run
pieces_text block number line run (p ∷ ps) =
    let s : Session = play_bytes block (fresh_session number line run) p in s.output ++ pieces_text block s.number s.line s.run ps

-- However the input is cut, the texts of its pieces are what REGISTER prints of the whole.
abbrev pub RegisterInPieces : Type 0
RegisterInPieces =
    (file : List ℕ) (ps : List (List ℕ)) → length (flatten ps) ≤ max_input → (opening_of fixed_sizes file max_workers).answer ≡ (Ok tt)
    → register_of file (flatten ps) ≡ pieces_text file 1 Empty (opening_of fixed_sizes file max_workers).run ps
