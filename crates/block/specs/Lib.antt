-- To read, as document 01 goes: Limits, Key and Record are cells, addresses and records, Instruction the eight bytes with refusal 10, Naming what a
-- call and its instructions name, Outcomes and Refusal the numbers. Reader is the reader with 1 to 10, and BlockOfFile the block that a file holds;
-- InstructionBytes is an instruction by itself and its bytes, Encoding a block by itself and its bytes. `DecoderExact` and `ReaderExact` state that
-- each agrees with what reads it; Faults are 1 to 10 by condition over the bytes, and `RefusalsExact` states that the reader refuses by them. Worked are
-- block P, one of payments to account 0, one of divisions and one of loops; Examples and InstructionExamples are computed; Assemble and Computing serve
-- them.
pub mod Limits
pub mod Key
pub mod Instruction
pub mod InstructionBytes
pub mod Record
pub mod Naming
pub mod Outcomes
pub mod Refusal
pub mod Reader
pub mod BlockOfFile
pub mod Encoding
pub mod Faults
pub mod Assemble
pub mod Worked
pub mod Examples
pub mod Computing
pub mod DecoderExact
pub mod InstructionExamples
