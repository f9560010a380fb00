-- The layout that stands for the block of an accepted file.
use Rattle.std.specs.Prelude.{◌≡◌, List, ℕ}
use Rattle.block.specs.Reader.{accepted, read_block}
use Rattle.block.specs.BlockOfFile.{block_of}
use Rattle.reader.specs.Layout.{layout_for}
use Rattle.reader.specs.declared.Layout.{Layout}

-- The layout is that of a file that is accepted as a block.
pub record LayoutOfBlock (file : List ℕ) (l : Layout) : Type 0 where
  pub read : read_block file ≡ accepted (block_of file)
  pub layout : l ≡ layout_for (block_of file)
