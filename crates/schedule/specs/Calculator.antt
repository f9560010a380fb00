-- A small calculator that meets the laws: a block of codes over a list of numbers, with an accumulator for each call.
use Rattle.std.specs.Prelude.{ℕ, suc, ◌+◌, ◌≡◌, Bool, false, ◌||◌, List, [], ◌∷◌, ◌++◌, eqb, length, get_or, set}
use Rattle.schedule.specs.Calls.{Calls, more, done, Point}

-- A call's code: set the accumulator, load a cell into it, add a cell to it, store it in a cell, fail, or stop.
pub data Instr : Type 0 where
  const : ℕ → Instr
  load : ℕ → Instr
  add : ℕ → Instr
  store : ℕ → Instr
  fail : Instr
  stop : Instr

-- The receipt: the accumulator at the end, or that the call failed.
pub data CalculatorResult : Type 0 where
  returned : ℕ → CalculatorResult
  failed : CalculatorResult

-- The local state of a call: the place in its code, and the accumulator.
pub record CalculatorLocal : Type 0 where
  pub place : ℕ
  pub acc : ℕ

-- The cells that an instruction reads and those that it writes.
abbrev pub loads : Instr → List ℕ
loads (const k) = []
loads (load y) = y ∷ []
loads (add y) = y ∷ []
loads (store y) = []
loads fail = []
loads stop = []

abbrev pub stores : Instr → List ℕ
stores (const k) = []
stores (load y) = []
stores (add y) = []
stores (store y) = y ∷ []
stores fail = []
stores stop = []

-- The read and the write set of a code: "Every instruction counts, reached or not."
unfoldable pub code_cells : (Instr → List ℕ) → List Instr → List ℕ
code_cells of [] = []
code_cells of (i ∷ is) = of i ++ code_cells of is

unfoldable pub is_member : List ℕ → ℕ → Bool
is_member [] x = false
is_member (y ∷ ys) x = eqb y x || is_member ys x

-- The code reads or writes the cell.
abbrev pub code_uses : List Instr → ℕ → Bool
code_uses a x = is_member (code_cells loads a) x || is_member (code_cells stores a) x

-- Some cell of the list passes the test.
unfoldable pub some : List ℕ → (ℕ → Bool) → Bool
some [] test = false
some (y ∷ ys) test = test y || some ys test

-- "either one's write set meets the other's reads or writes"
unfoldable pub conflicts : List Instr → List Instr → Bool
conflicts a b = some (code_cells stores a) (code_uses b) || some (code_cells stores b) (code_uses a)

-- The cell of that number, 0 past the end.
abbrev pub look : List ℕ → ℕ → ℕ
look s x = get_or s x 0

-- The old values of a list of cells, and how they are put back.
unfoldable pub keep : List ℕ → List ℕ → List ℕ
keep [] s = []
keep (y ∷ ys) s = look s y ∷ keep ys s

unfoldable pub put_back : List ℕ → List ℕ → List ℕ → List ℕ
put_back [] os s = s
put_back (y ∷ ys) [] s = s
put_back (y ∷ ys) (o ∷ os) s = set (put_back ys os s) y o

abbrev pub CalculatorPoint : Type 0
CalculatorPoint = Point (List ℕ) CalculatorLocal CalculatorResult

-- One instruction of a call with the write set `ys` and the old values `os`; a call that fails is undone by that step.
abbrev pub act : (ys os : List ℕ) → Instr → CalculatorLocal → List ℕ → CalculatorPoint
act ys os (const k) l s = record { state = s; course = more (record { place = suc l.place; acc = k }) }
act ys os (load y) l s = record { state = s; course = more (record { place = suc l.place; acc = look s y }) }
act ys os (add y) l s = record { state = s; course = more (record { place = suc l.place; acc = l.acc + look s y }) }
act ys os (store y) l s = record { state = set s y l.acc; course = more (record { place = suc l.place; acc = l.acc }) }
act ys os fail l s = record { state = put_back ys os s; course = done failed }
act ys os stop l s = record { state = s; course = done (returned l.acc) }

-- The code of a call of the block.
abbrev pub code : List (List Instr) → ℕ → List Instr
code block c = get_or block c []

module _ (block : List (List Instr)) (size : ℕ) where
  abbrev pub calculator : Calls
  calculator =
      record {
        State = List ℕ;
        Value = ℕ;
        Local = CalculatorLocal;
        Saved = List ℕ;
        Receipt = CalculatorResult;
        Good = λ s. length s ≡ size;
        get = look;
        calls = length block;
        rd = λ c x. is_member (code_cells loads (code block c)) x;
        wr = λ c x. is_member (code_cells stores (code block c)) x;
        before = λ i j. conflicts (code block i) (code block j);
        start = λ c. record { place = 0; acc = 0 };
        save = λ c s. keep (code_cells stores (code block c)) s;
        step = λ c os l s. act (code_cells stores (code block c)) os (get_or (code block c) l.place stop) l s;
        restore = λ c os s. put_back (code_cells stores (code block c)) os s;
        bound = λ c. suc (length (code block c));
      }
