-- To read: PiecesLaws is the theorem of Pieces, on PlayLaws; TextLaws and CloseLaws say that texts fit their buffers. The others are the mathematics of
-- the code: AnswerLaws, PlayingLaws and RecordLaws.
pub mod PlayLaws
pub mod PiecesLaws
pub mod TextLaws
pub mod CloseLaws
pub mod AnswerLaws
mod PlayingLaws
mod RecordLaws
