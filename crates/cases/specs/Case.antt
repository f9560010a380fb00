-- A case: the bytes of block.bin, the text of standard input, and the text that REGISTER must print.
use Rattle.std.specs.Prelude.{Bool, true, false, ◌&&◌, List, [], ◌∷◌, ℕ, zero, suc, ◌+◌, ◌/◌, ◌%◌, eqb}
use Prim.Native.String.{String}
use Rattle.block.specs.Assemble.{text}
use Rattle.console.specs.Register.{register_of}

pub record Case : Type 0 where
  pub block : List ℕ
  pub input : List ℕ
  pub output : List ℕ

-- The bytes of a numeral of n bytes, in reading order, before the given ones.
unfoldable pub unpack : ℕ → ℕ → List ℕ → List ℕ
unpack zero numeral bytes = bytes
unpack (suc n) numeral bytes = unpack n (numeral / 256) (numeral % 256 ∷ bytes)

-- A block as its length and its bytes in hexadecimal, first byte first.
abbrev pub case : (size numeral : ℕ) → (input output : String) → Case
case size numeral input output = record { block = unpack size numeral []; input = text input; output = text output }

unfoldable pub same : List ℕ → List ℕ → Bool
same [] [] = true
same [] (y ∷ ys) = false
same (x ∷ xs) [] = false
same (x ∷ xs) (y ∷ ys) = eqb x y && same xs ys

-- The numbers, from n on, of the cases whose output is not what the definition of REGISTER gives.
unfoldable pub failures : ℕ → List Case → List ℕ
failures n [] = []
failures n (c ∷ cs) =
    elim (same (register_of c.block c.input) c.output) [ true ↦ failures (n + 1) cs | false ↦ n ∷ failures (n + 1) cs ]
