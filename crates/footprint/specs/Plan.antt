-- What an opening prepares of a block: the plan of each call, the words of the key table and the opening values; or its refusal, with all
-- of them zero.
use Rattle.std.specs.Prelude.{Bool, ◌&&◌, List, [], ◌∷◌, ◌++◌, map, ℕ, ◌+◌, ◌*◌, ◌/◌, ◌%◌, ◌^◌, ℤ, pos, eqb, leb, length, Err, None, Ok, Option, Result, Some}
use Rattle.std.specs.Prelude.{if◌then◌else◌}
use Rattle.wire.specs.Bytes.{repeated, padded}
use Rattle.wire.specs.Rows.{bit}
use Rattle.block.specs.Limits.{max_calls, max_call_keys, max_keys}
use Rattle.block.specs.Record.{Function, Cell, Block}
use Rattle.block.specs.Reader.{Read, accepted, refused, read_block}
use Rattle.block.specs.declared.Call.{Call}
use Rattle.block.specs.declared.Refusal.{Refusal}
use Rattle.block.specs.declared.Refusal.TheVariants.{Buffers}
use Rattle.footprint.specs.Access.{Access}
use Rattle.block.specs.Naming.{function_of}
use Rattle.footprint.specs.Conflict.{row_for}
use Rattle.footprint.specs.Table as table
use Rattle.footprint.specs.Table.{Analysis, analyse, cell_number}

-- A call has 32 words of the plan: word 0 is the start of its code in the block, word 1 the length of its code plus 1, or 0 for an
-- unknown function, word 2 the number of its keys, words 3 to 26 its entries, words 27 to 30 its row; word 31 is 0.
abbrev pub plan_words : ℕ
plan_words = 32

abbrev pub code_start : ℕ
code_start = 0

abbrev pub code_length : ℕ
code_length = 1

abbrev pub key_count : ℕ
key_count = 2

abbrev pub first_entry : ℕ
first_entry = 3

abbrev pub first_row_word : ℕ
first_row_word = 27

-- A cell has two words of the keys.
abbrev pub key_words : ℕ
key_words = 2

-- An entry: a cell number times 4, plus 1 if the call reads the cell, plus 2 if it writes it.
abbrev pub entry_flags : ℕ
entry_flags = 4

abbrev pub writes_flag : ℕ
writes_flag = 2

unfoldable pub entry_word : List ℕ → Access → ℕ
entry_word keys e = cell_number keys e.key * entry_flags + bit e.reads + writes_flag * bit e.writes

-- An entry's cell number and flags.
abbrev pub entry_cell : ℕ → ℕ
entry_cell e = e / entry_flags

abbrev pub entry_reads : ℕ → Bool
entry_reads e = eqb (e % 2) 1

abbrev pub entry_writes : ℕ → Bool
entry_writes e = leb writes_flag (e % entry_flags)

unfoldable pub code_words : Option Function → List ℕ
code_words None = 0 ∷ 0 ∷ []
code_words (Some f) = f.start ∷ (f.size + 1) ∷ []

-- The words of a call, behind the sets of the calls before it.
unfoldable pub call_plan : List Function → List ℕ → List (List Access) → Call → List Access → List ℕ
call_plan functions keys earlier c es =
    code_words (function_of functions c)
    ++ (length es ∷ []) ++ padded max_call_keys 0 (map (entry_word keys) es) ++ row_for earlier es ++ (0 ∷ [])

unfoldable pub plans : List Function → List ℕ → List (List Access) → List Call → List (List Access) → List ℕ
plans functions keys earlier [] sets = []
plans functions keys earlier (c ∷ cs) [] = []
plans functions keys earlier (c ∷ cs) (es ∷ sets) =
    call_plan functions keys earlier c es ++ plans functions keys (earlier ++ (es ∷ [])) cs sets

-- A key takes two words: address, field and a; then b.
abbrev pub high_word : ℕ → ℕ
high_word k = k / 2 ^ 32

abbrev pub low_word : ℕ → ℕ
low_word k = k % 2 ^ 32

unfoldable pub table_words : List ℕ → List ℕ
table_words [] = []
table_words (k ∷ ks) = high_word k ∷ low_word k ∷ table_words ks

-- "an absent cell reads 0": a key's value in the opening.
unfoldable pub opening_value : List Cell → ℕ → ℤ
opening_value [] k = pos 0
opening_value (c ∷ cs) k = if eqb k c.key then c.value else opening_value cs k

-- The lengths of the three buffers that are prepared.
pub record Room : Type 0 where
  pub plan : ℕ
  pub keys : ℕ
  pub cells : ℕ

-- "the fixed size for the limits above", and whether none is shorter.
abbrev pub fixed_room : Room
fixed_room = record { plan = max_calls * plan_words; keys = max_keys * key_words; cells = max_keys }

unfoldable pub room_enough : Room → Bool
room_enough r = leb fixed_room.plan r.plan && leb fixed_room.keys r.keys && leb fixed_room.cells r.cells

-- The verdict, the numbers of calls and of cells, the offset of the first call record, and the buffers.
pub record Prepared : Type 0 where
  pub verdict : Result (Unit {0}) Refusal
  pub calls : ℕ
  pub cells : ℕ
  pub first_call : ℕ
  pub plan : List ℕ
  pub keys : List ℕ
  pub values : List ℤ

-- "every buffer lent to be written is zero"
unfoldable pub unprepared : Room → Refusal → Prepared
unprepared r why =
    record {
      verdict = Err why;
      calls = 0;
      cells = 0;
      first_call = 0;
      plan = repeated r.plan 0;
      keys = repeated r.keys 0;
      values = repeated r.cells (pos 0);
    }

-- 11 and 12, and the accepted block.
unfoldable pub prepare_analysed : Room → Block → Analysis → Prepared
prepare_analysed r b (table.refused why) = unprepared r why
prepare_analysed r b (table.analysed sets keys) =
    record {
      verdict = Ok tt;
      calls = length b.calls;
      cells = length keys;
      first_call = b.first_call;
      plan = padded r.plan 0 (plans b.functions keys [] b.calls sets);
      keys = padded r.keys 0 (table_words keys);
      values = padded r.cells (pos 0) (map (opening_value b.cells) keys);
    }

unfoldable pub prepare_read : Room → List ℕ → Read → Prepared
prepare_read r file (refused why) = unprepared r why
prepare_read r file (accepted b) =
    prepare_analysed r b (analyse file b.functions b.calls b.first_call [] (map (λ c. c.key) b.cells))

-- 20, then the block as it is read.
unfoldable pub prepared_of : Room → List ℕ → Prepared
prepared_of r file = if room_enough r then prepare_read r file (read_block file) else unprepared r Buffers
