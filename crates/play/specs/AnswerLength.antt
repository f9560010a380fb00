-- How long the text of an answer is; the input has at most one for each of its bytes.
use Rattle.std.specs.Prelude.{ℕ}

-- An answer is a letter, two numbers of at most 20 digits behind a space each, and a line feed.
abbrev pub max_answer : ℕ
max_answer = 44
