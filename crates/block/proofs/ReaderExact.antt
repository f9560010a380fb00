-- The reader is exact: it accepts the files of the contents that keep document 01's rules, and no others, each as what it holds.
use Rattle.block.specs.Encoding.{ReaderExact}
use Rattle.block.proofs.ReadsWhole.{reads_whole}
use Rattle.block.proofs.ReadsRight.{reads_only}
use Rattle.block.proofs.OneFile.{file_one}

pub reader_exact : ReaderExact
reader_exact = record { whole = reads_whole; only = reads_only; one = file_one }
