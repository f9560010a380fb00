-- The sets of a block's calls, and the analysis of a file's block.
use Rattle.std.specs.Prelude.{◌≡◌, List, [], map, ℕ, get_or}
use Rattle.block.specs.Record.{Block}
use Rattle.block.specs.Reader.{accepted, read_block}
use Rattle.block.specs.BlockOfFile.{block_of, opening_keys}
use Rattle.footprint.specs.Access.{Access}
use Rattle.footprint.specs.Sets.{sets_of}
use Rattle.footprint.specs.Table.{Analysis, analysed, analyse}

-- The sets of all calls, in block order; and those of call j.
abbrev pub all_sets : List ℕ → Block → List (List Access)
all_sets file b = map (sets_of file b.functions) b.calls

abbrev pub sets_at : List ℕ → ℕ → List Access
sets_at file j = get_or (all_sets file (block_of file)) j []

-- The analysis of a file's block.
abbrev pub analysis_of : List ℕ → Block → Analysis
analysis_of file b = analyse file b.functions b.calls b.first_call [] (opening_keys b)

-- The table is that of a file whose analysis refuses nothing.
pub record TableOf (file : List ℕ) (table : List ℕ) : Type 0 where
  pub read : read_block file ≡ accepted (block_of file)
  pub analysis : analysis_of file (block_of file) ≡ analysed (all_sets file (block_of file)) table
