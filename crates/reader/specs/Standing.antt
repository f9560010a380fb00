-- How the reader's numbers stand for the block read so far, and its turns for those of the definition.
use Rattle.std.specs.Prelude.{◌≡◌, Result, Ok, Err, Bool, not, List, [], ◌∷◌, ◌++◌, map, ℕ, ◌+◌, ◌*◌, ◌^◌, ◌<◌, ◌≤◌, eqb, pos, length}
use Rattle.std.specs.Int.Signed.{lt_z}
use Rattle.std.specs.Prelude.{if◌then◌else◌}
use Rattle.arith.specs.Balance.{total}
use Rattle.arith.specs.Exact.{signed}
use Rattle.block.specs.Record.{Block, function_id}
use Rattle.block.specs.Reader.{Reading, accepted, refused, due, ended, balances}
use Rattle.block.specs.declared.Refusal.{Refusal}
use Rattle.reader.specs.Layout.{numbers_of}
use Rattle.reader.specs.declared.FunctionAt.{FunctionAt}
use Rattle.reader.specs.declared.Progress.{Progress}
use Rattle.reader.specs.declared.Turn.{Turn}
use Rattle.reader.specs.declared.Turn.TheVariants.{More, Function as AddFunction, End}

-- The least number that may follow strictly rising ones.
unfoldable pub floor_of : List ℕ → ℕ
floor_of [] = 0
floor_of (m ∷ []) = m + 1
floor_of (m ∷ l ∷ ms) = floor_of (l ∷ ms)

-- 5 for the value of an opening cell, from its bits.
abbrev pub value_allowed : ℕ → ℕ → Bool
value_allowed field bits = if eqb field 0 then lt_z (pos 0) (signed 64 bits) else not (eqb bits 0)

-- The ranges of the reader's numbers.
pub record Steady (p : Progress) : Type 0 where
  pub low : p.low ≤ 2 ^ 32
  pub sum : p.sum < 2 ^ 63

-- The reader's numbers are those of a block.
pub record NumbersOfBlock (p : Progress) (b : Block) : Type 0 where
  pub functions : p.functions ≡ length b.functions
  pub cells : p.cells ≡ length b.cells
  pub calls : p.calls ≡ length b.calls
  pub opening : p.opening ≡ b.opening
  pub first_call : p.first_call ≡ b.first_call
  pub ids : p.least ≡ floor_of (map function_id b.functions)
  pub keys : p.high * 2 ^ 32 + p.low ≡ floor_of (map (λ c. c.key) b.cells)
  pub sum : pos p.sum ≡ total (balances b.cells)
  pub steady : Steady p

-- Behind one more record.
pub record MovedOn (p q : Progress) (k n : ℕ) (b : Block) : Type 0 where
  pub kind : q.kind ≡ k
  pub at : q.at ≡ n
  pub later : p.at < q.at
  pub holds : NumbersOfBlock q b

-- One more function, by the numbers that the table keeps of it.
abbrev pub Added : (b b' : Block) → FunctionAt → Type 0
Added b b' function = map numbers_of b'.functions ≡ map numbers_of b.functions ++ (function ∷ [])

-- A turn of the reader that stood for b, or its refusal, against the definition's; a file is accepted with the block read so far.
abbrev pub TurnFollows : Progress → Block → Result Turn Refusal → Reading → Type 0
TurnFollows p b (Ok (More q)) (due kind at rest b') = MovedOn p q kind at b' × (b'.functions ≡ b.functions)
TurnFollows p b (Ok (More q)) (ended r) = ⊥
TurnFollows p b (Ok (AddFunction q function)) (due kind at rest b') = MovedOn p q kind at b' × Added b b' function
TurnFollows p b (Ok (AddFunction q function)) (ended r) = ⊥
TurnFollows p b (Ok End) (due kind at rest b') = ⊥
TurnFollows p b (Ok End) (ended (accepted b')) = b' ≡ b
TurnFollows p b (Ok End) (ended (refused why)) = ⊥
TurnFollows p b (Err told) (due kind at rest b') = ⊥
TurnFollows p b (Err told) (ended (accepted b')) = ⊥
TurnFollows p b (Err told) (ended (refused why)) = told ≡ why
