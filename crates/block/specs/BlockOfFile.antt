-- The block that a file holds.
use Rattle.std.specs.Prelude.{List, map, ℕ, length, get_or, None, Option}
use Rattle.block.specs.Record.{Function, Block}
use Rattle.block.specs.Reader.{Read, accepted, refused, read_block, empty_block}
use Rattle.block.specs.Naming.{function_of}

-- The block of a file that is read; empty where it is refused.
unfoldable pub block_in : Read → Block
block_in (accepted b) = b
block_in (refused why) = empty_block

abbrev pub block_of : List ℕ → Block
block_of file = block_in (read_block file)

-- The number of its calls.
abbrev pub call_count : List ℕ → ℕ
call_count file = length (block_of file).calls

-- The function that call j names, if the block has it.
abbrev pub function_at : List ℕ → ℕ → Option Function
function_at file j = get_or (map (function_of (block_of file).functions) (block_of file).calls) j None

-- The keys of the opening cells.
abbrev pub opening_keys : Block → List ℕ
opening_keys b = map (λ c. c.key) b.cells
