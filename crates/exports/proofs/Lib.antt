-- HeadLaws and LengthLaws are of the head as words, for the code too; HeadChange leads to WordsStandProof.
pub mod HeadLaws
pub mod LengthLaws
mod HeadChange
pub mod WordsStandProof
