-- To read: Pieces is the statement that an input in pieces gives REGISTER's output. The others say what the functions of this crate hold and answer:
-- Shown a session, AnswerLength how long an answer is, Printed a sheet's lines.
pub mod Pieces
pub mod Shown
pub mod AnswerLength
pub mod Printed
