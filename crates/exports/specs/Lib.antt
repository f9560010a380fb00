-- To read: Words is a lent run whose head is words too; Exports is what each exported function answers and leaves. WordsStand says
-- that words stand for runs all along. Examples are computed, in short; `examples` has the others.
pub mod Words
pub mod Exports
pub mod WordsStand
pub mod Computing
pub mod Examples
