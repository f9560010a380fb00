-- The sheet's answers 20, 27 and 28, and its bytes, computed on block P's run; and the sheets of the block of divisions, whose receipts have a 6, and of the block
-- of loops, whose receipts have a 7.
use Rattle.std.specs.Prelude.{◌≡◌, refl, ℕ, ◌+◌, ◌-◌, ◌^◌, pos, negsuc, get_or}
use mathlib.Core.List.{List, [], ◌∷◌, ◌++◌, map, flatten}
use Rattle.wire.specs.Bytes.{repeated, below}
use Rattle.block.specs.Record.{recordOf}
use Rattle.block.specs.Assemble.{cell, end}
use Rattle.block.specs.Worked.{P, zero_divisors, fuelled}
use Rattle.machine.specs.Run.{Run}
use Rattle.machine.specs.Opening.{opened_for_eight}
use Rattle.machine.specs.Serial.{serial_run}
use Rattle.machine.specs.WorkedRuns.{start_d, closed_d, start_f, closed_f}
use Rattle.machine.specs.Damage.{too_short, value_at, status_at, calls_as, cells_as, workers_as}
use Rattle.sheet.specs.Sheet.{closing_number, closing_length, sheet_of, sheet_records, sheet_bytes, record_offset, next_file}
use Rattle.sheet.specs.Computing.{computing}

-- Block P with all its calls finished, and its sheet: three cells, three receipts and the end, of 100 bytes.
unfoldable pub closed : Run
closed = serial_run P (opened_for_eight P)

unfoldable pub records_p : List (List ℕ)
records_p =
    cell 7 0 0 0 (pos 1)
    ∷ cell 32768 0 0 0 (pos 1)
    ∷ cell 32768 1 0 0 (pos 1)
    ∷ recordOf 5 (0 ∷ 0 ∷ 2 ∷ 0 ∷ [])
    ∷ recordOf 5 (0 ∷ 0 ∷ 3 ∷ 0 ∷ []) ∷ recordOf 5 (0 ∷ 0 ∷ 2 ∷ 0 ∷ []) ∷ end ∷ []

unfoldable pub sheet_p : List ℕ
sheet_p = flatten records_p

-- The answers to several runs, with room for the sheet, and with one byte too few.
abbrev closings : List Run → List ℕ
closings rs = map (λ r. closing_number (sheet_of r (repeated 100 0)).answer) rs

abbrev short_closings : List Run → List ℕ
short_closings rs = map (λ r. closing_number (sheet_of r (repeated 99 0)).answer) rs

-- The offsets of the first n records of a run's sheet, and behind them.
abbrev offsets : Run → (n : ℕ) → List ℕ
offsets r n = map (record_offset (sheet_records r)) (below (n + 1))

-- What a sheet with room for it answers.
abbrev answered : Run → ℕ
answered r = closing_length (sheet_of r (repeated 102 7)).answer

pub record Sheet-P : Type 0 where
  pub records : sheet_records closed ≡ records_p
  pub bytes : sheet_bytes closed ≡ sheet_p
  -- Each record's offset, and the answer, which is the one behind the last. Account 5's cell, the first of the table, is zero: it has neither a
  -- record nor a place. With a cell of the middle zero the records behind it stand 24 bytes earlier; with none left the receipts are in front.
  pub offsets_of : offsets closed 7 ≡ 0 ∷ 24 ∷ 48 ∷ 72 ∷ 80 ∷ 88 ∷ 96 ∷ 100 ∷ []
  pub answer_of : answered closed ≡ 100
  pub zero_between : offsets (value_at 2 (pos 0) closed) 6 ≡ 0 ∷ 24 ∷ 48 ∷ 56 ∷ 64 ∷ 72 ∷ 76 ∷ []
  pub receipts_first : offsets (cells_as 0 closed) 4 ≡ 0 ∷ 8 ∷ 16 ∷ 24 ∷ 28 ∷ []
  pub end_alone : offsets (calls_as 0 (cells_as 0 closed)) 1 ≡ 0 ∷ 4 ∷ []
  pub other_answers : map answered (value_at 2 (pos 0) closed ∷ cells_as 0 closed ∷ calls_as 0 (cells_as 0 closed) ∷ []) ≡ 76 ∷ 28 ∷ 4 ∷ []
  -- The next day opens from its cells, in which account 5 has none left.
  pub next_day : sheet_bytes (opened_for_eight (next_file closed [] [])) ≡ next_file closed [] []
  -- 28 with one byte too few, where the output is unchanged; a sheet of exactly the output's length fits; bytes behind it are unchanged.
  pub too_long : closing_number (sheet_of closed (repeated 99 7)).answer ≡ 28
  pub unchanged : (sheet_of closed (repeated 99 7)).output ≡ repeated 99 7
  pub exact : (sheet_of closed (repeated 100 7)).output ≡ sheet_p
  pub behind : (sheet_of closed (repeated 102 7)).output ≡ sheet_p ++ (7 ∷ 7 ∷ [])
  -- 27 with a call unfinished; 27 comes before 28.
  pub unfinished : closings (opened_for_eight P ∷ status_at 8 1 closed ∷ closed ∷ []) ≡ 27 ∷ 27 ∷ 0 ∷ []
  pub order : closing_number (sheet_of (opened_for_eight P) []).answer ≡ 27
  -- 20: the sizes, the number of calls, the states (before 27), the number of cells, a balance below zero, the receipts; the number of
  -- workers is not looked at.
  pub sizes : closings (too_short closed) ≡ 20 ∷ 20 ∷ 20 ∷ 20 ∷ 20 ∷ 20 ∷ []
  pub numbers : closings (calls_as 257 closed ∷ cells_as 1025 closed ∷ workers_as 0 closed ∷ []) ≡ 20 ∷ 20 ∷ 0 ∷ []
  pub states : closings (status_at 0 3 closed ∷ status_at 0 3 (opened_for_eight P) ∷ []) ≡ 20 ∷ 20 ∷ []
  pub balances : closings (value_at 1 (negsuc 0) closed ∷ value_at 3 (negsuc 0) closed ∷ []) ≡ 20 ∷ 0 ∷ []
  pub receipts : closings (status_at 1 7 closed ∷ status_at 1 8 closed ∷ status_at 2 65536 closed ∷ status_at 2 65535 closed ∷ []) ≡ 0 ∷ 20 ∷ 20 ∷ 0 ∷ []
  -- With an output too short, what 28 uses is still 20, and what only the writing uses is not looked at: the number of cells and a balance
  -- come before 28, an outcome and a count behind it.
  pub before_28 : short_closings (cells_as 1025 closed ∷ value_at 1 (negsuc 0) closed ∷ closed ∷ []) ≡ 20 ∷ 20 ∷ 28 ∷ []
  pub behind_28 : short_closings (status_at 1 8 closed ∷ status_at 2 65536 closed ∷ []) ≡ 28 ∷ 28 ∷ []
  pub both : short_closings (value_at 1 (negsuc 0) (status_at 1 8 closed) ∷ []) ≡ 20 ∷ []

pub sheet_of_p : Sheet-P
unfolding computing P closed records_p sheet_p too_short
sheet_of_p =
    record {
      records = refl;
      bytes = refl;
      offsets_of = refl;
      answer_of = refl;
      zero_between = refl;
      receipts_first = refl;
      end_alone = refl;
      other_answers = refl;
      next_day = refl;
      too_long = refl;
      unchanged = refl;
      exact = refl;
      behind = refl;
      unfinished = refl;
      order = refl;
      sizes = refl;
      numbers = refl;
      states = refl;
      balances = refl;
      receipts = refl;
      before_28 = refl;
      behind_28 = refl;
      both = refl;
    }

-- M-103, "The receipts carry the new code": four cells and six receipts, of 148 bytes.
unfoldable pub sheet_d : List ℕ
sheet_d =
    flatten
    (cell 32768 0 0 0 (pos 7)
    ∷ cell 32768 1 0 0 (pos 3)
    ∷ cell 32768 2 0 0 (negsuc (2 ^ 63 - 1))
    ∷ cell 32768 3 0 0 (pos (2 ^ 62))
    ∷ recordOf 5 (6 ∷ 0 ∷ 1 ∷ 0 ∷ [])
    ∷ recordOf 5 (6 ∷ 0 ∷ 4 ∷ 0 ∷ [])
    ∷ recordOf 5 (4 ∷ 0 ∷ 4 ∷ 0 ∷ [])
    ∷ recordOf 5 (0 ∷ 0 ∷ 5 ∷ 0 ∷ []) ∷ recordOf 5 (6 ∷ 0 ∷ 4 ∷ 0 ∷ []) ∷ recordOf 5 (0 ∷ 0 ∷ 5 ∷ 0 ∷ []) ∷ end ∷ [])

pub record Sheet-D : Type 0 where
  pub written : (sheet_of closed_d (repeated 148 9)).output ≡ sheet_d
  -- 20 for 8 in place of the first 6, where the output is unchanged.
  pub eight : closing_number (sheet_of (status_at 1 8 closed_d) (repeated 148 9)).answer ≡ 20
  pub unchanged : (sheet_of (status_at 1 8 closed_d) (repeated 148 9)).output ≡ repeated 148 9

pub sheet_of_d : Sheet-D
unfolding computing zero_divisors start_d closed_d sheet_d
sheet_of_d = record { written = refl; eight = refl; unchanged = refl }

-- M-104, "the outcome is 7": three cells and eleven receipts, of 164 bytes.
unfoldable pub sheet_f : List ℕ
sheet_f =
    flatten
    (cell 32768 0 0 0 (pos 7)
    ∷ cell 32768 1 0 0 (pos 9)
    ∷ cell 32768 2 0 0 (pos 1331)
    ∷ recordOf 5 (0 ∷ 0 ∷ 2 ∷ 0 ∷ [])
    ∷ recordOf 5 (7 ∷ 0 ∷ 1 ∷ 0 ∷ [])
    ∷ recordOf 5 (0 ∷ 0 ∷ 2 ∷ 0 ∷ [])
    ∷ recordOf 5 (7 ∷ 0 ∷ 1 ∷ 0 ∷ [])
    ∷ recordOf 5 (0 ∷ 0 ∷ 2 ∷ 0 ∷ [])
    ∷ recordOf 5 (7 ∷ 0 ∷ 5 ∷ 0 ∷ [])
    ∷ recordOf 5 (7 ∷ 0 ∷ 9 ∷ 0 ∷ [])
    ∷ recordOf 5 (0 ∷ 0 ∷ 1 ∷ 0 ∷ [])
    ∷ recordOf 5 (0 ∷ 0 ∷ 25 ∷ 0 ∷ [])
    ∷ recordOf 5 (7 ∷ 0 ∷ 24 ∷ 0 ∷ []) ∷ recordOf 5 (0 ∷ 0 ∷ 2 ∷ 0 ∷ []) ∷ end ∷ [])

pub record Sheet-F : Type 0 where
  pub written : (sheet_of closed_f (repeated 164 9)).output ≡ sheet_f
  -- The highest count, in place of the first, has two bytes; 20 for one above it, where the output is unchanged.
  pub highest : get_or (sheet_records (status_at 2 65535 closed_f)) 3 [] ≡ recordOf 5 (0 ∷ 0 ∷ 255 ∷ 255 ∷ [])
  pub above : closing_number (sheet_of (status_at 2 65536 closed_f) (repeated 164 9)).answer ≡ 20
  pub unchanged : (sheet_of (status_at 2 65536 closed_f) (repeated 164 9)).output ≡ repeated 164 9

pub sheet_of_f : Sheet-F
unfolding computing fuelled start_f closed_f sheet_f
sheet_of_f = record { written = refl; highest = refl; above = refl; unchanged = refl }
