-- REGISTER on block P, the forms of a move line, and the bytes of P's sheet, computed.
use Rattle.std.specs.Prelude.{◌≡◌, refl, List, [], ◌++◌, ℕ, take}
use Rattle.block.specs.Assemble.{text}
use Rattle.block.specs.Worked.{P}
use Rattle.sheet.specs.Examples.{records_p, sheet_p}
use Rattle.console.specs.Register.{register_of}
use Rattle.console.specs.SheetBytes.{written_sheet}
use Rattle.console.specs.Computing.{computing}

-- "`b 0 0`, four `s 0`, `b 1 1`, four `s 1`, `b 0 2`, four `s 0`", and what REGISTER prints for P with them.
unfoldable pub moves_p : List ℕ
moves_p = text "b 0 0\ns 0\ns 0\ns 0\ns 0\nb 1 1\ns 1\ns 1\ns 1\ns 1\nb 0 2\ns 0\ns 0\ns 0\ns 0\n"

unfoldable pub printed_p : List ℕ
printed_p = text "k 7 0 0 0 1\nk 32768 0 0 0 1\nk 32768 1 0 0 1\nt 0 0 2\nt 1 0 3\nt 2 0 2\n"

pub record Lines : Type 0 where
  pub printed : register_of P moves_p ≡ printed_p
  -- An empty line, two spaces, a space at an end, no number, a number too many or of six digits, other letters, signs and ends of line
  -- are in no such form; leading zeros are taken, and 99999 is a number.
  pub malformed : register_of P (text "\nb  0 0\nb 0 0 \n b 0 0\nb\nb 0\nb 0 0 0\nb 000000 0\nB 0 0\ns -1\ns 0\r\nc\t0\nbegin\n") ≡ text "r 1 0\nr 2 0\nr 3 0\nr 4 0\nr 5 0\nr 6 0\nr 7 0\nr 8 0\nr 9 0\nr 10 0\nr 11 0\nr 12 0\nr 13 0\nr 0 27\n"
  pub numbers : register_of P (text "b 00007 99999\nb 99999 0\nb 00000 00000\ns 00000\nc 0\n") ≡ text "r 1 22\nr 2 21\nr 0 27\n"
  -- The last line needs no line feed, of whatever form it is; an empty rest is no line.
  pub last_line : register_of P (text "c 0\nc 1") ≡ text "r 1 26\nr 2 26\nr 0 27\n"
  pub last_malformed : register_of P (text "c 0\nx") ≡ text "r 1 26\nr 2 0\nr 0 27\n"
  pub empty_input : register_of P [] ≡ text "r 0 27\n"
  -- A refused block answers no move.
  pub refused_block : register_of [] moves_p ≡ text "e 2 0\n"

pub lines : Lines
unfolding computing text P moves_p printed_p
lines =
    record {
      printed = refl;
      malformed = refl;
      numbers = refl;
      last_line = refl;
      last_malformed = refl;
      empty_input = refl;
      refused_block = refl;
    }

-- The bytes of P's sheet: three cells, three receipts and the end. An unfinished run, one that is finished but for a last step, and a refused block
-- have none.
pub record Sheets : Type 0 where
  pub whole : written_sheet P moves_p ≡ sheet_p
  pub refused_lines : written_sheet P (text "x\nc 0\n" ++ moves_p) ≡ sheet_p
  pub none_begun : written_sheet P [] ≡ []
  pub one_step_short : written_sheet P (take 62 moves_p) ≡ []
  pub refused_block : written_sheet [] moves_p ≡ []

pub sheets : Sheets
unfolding computing text P moves_p records_p sheet_p
sheets =
    record {
      whole = refl;
      refused_lines = refl;
      none_begun = refl;
      one_step_short = refl;
      refused_block = refl;
    }
