-- The sheet as lines of standard output.
use Rattle.std.specs.Prelude.{true, false, List, [], ◌++◌, ℕ, zero, suc, ◌+◌, eqb, length, drop}
use Rattle.arith.specs.Exact.{signed}
use Rattle.wire.specs.Bytes.{number, read_le}
use Rattle.text.specs.Lines.{cell_text, receipt_text}
use Rattle.block.specs.Record.{head_bytes, cell_kind, receipt_kind}

-- The line of a cell, from the body of its record.
abbrev pub cell_line : List ℕ → List ℕ
cell_line body = cell_text (number 2 body) (read_le 2 body 2) (read_le 4 body 4) (read_le 4 body 8) (signed 64 (read_le 8 body 12))

-- The line of a receipt, from the body of its record.
abbrev pub receipt_line : ℕ → List ℕ → List ℕ
receipt_line call body = receipt_text call (number 2 body) (read_le 2 body 2)

-- The records of a sheet as lines, the receipts numbered from `call` on; its end is no line. Each record takes four bytes at
-- least, so there are fewer turns than bytes.
unfoldable pub records_text : ℕ → ℕ → List ℕ → List ℕ
records_text zero call s = []
records_text (suc turns) call s =
    let kind : ℕ = read_le 2 s 2 in
    let body : List ℕ = drop head_bytes s in
    let rest : List ℕ = drop (number 2 s) body in
    elim (eqb kind cell_kind) [
      | true ↦ cell_line body ++ records_text turns call rest
      | false ↦ elim (eqb kind receipt_kind) [
        | true ↦ receipt_line call body ++ records_text turns (call + 1) rest
        | false ↦ []
      ]
    ]

abbrev pub sheet_text : List ℕ → List ℕ
sheet_text sheet = records_text (length sheet) 0 sheet
