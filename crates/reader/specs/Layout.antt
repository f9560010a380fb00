-- What the reader leaves of a file, in numbers.
use Rattle.std.specs.Prelude.{List, map, length, Err, Ok, Result}
use Rattle.wire.specs.Bytes.{padded}
use Rattle.block.specs.Limits.{max_functions}
use Rattle.block.specs.Record.{Function, function_id, Block}
use Rattle.block.specs.Reader.{Read, accepted, refused}
use Rattle.block.specs.declared.Refusal.{Refusal}
use Rattle.reader.specs.declared.FunctionAt.{FunctionAt}
use Rattle.reader.specs.declared.Layout.{Layout}

-- The numbers of a function.
abbrev pub numbers_of : Function → FunctionAt
numbers_of f = record { id = function_id f; start = f.start; size = f.size }

abbrev pub no_numbers : FunctionAt
no_numbers = record { id = 0; start = 0; size = 0 }

-- The numbers of each function, in a table that has room for all and is zero behind them.
abbrev pub table : List Function → List FunctionAt
table functions = padded max_functions no_numbers (map numbers_of functions)

-- The numbers of a block.
abbrev pub layout_for : Block → Layout
layout_for b =
    record {
      functions = length b.functions;
      cells = length b.cells;
      calls = length b.calls;
      opening = b.opening;
      first_call = b.first_call;
      table = table b.functions;
    }

-- Of a refused file only the refusal.
unfoldable pub layout_of : Read → Result Layout Refusal
layout_of (refused why) = Err why
layout_of (accepted b) = Ok (layout_for b)
