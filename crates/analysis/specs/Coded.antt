-- The code of the function that a call names, as the table of a layout tells it, and the set of a call of a code.
use Rattle.std.specs.Prelude.{List, [], ◌∷◌, ℕ, ◌+◌, ◌-◌, ◌≤◌, eqb, get_or, take, position, Option}
use Rattle.std.specs.declared.option.Option.TheVariants.{None, Some}
use Rattle.std.specs.Prelude.{if◌then◌else◌}
use Rattle.block.specs.Limits.{max_code, max_functions}
use Rattle.block.specs.Record.{code_at}
use Rattle.block.specs.declared.Call.{Call}
use Rattle.footprint.specs.Access.{Access, entry_accesses}
use Rattle.footprint.specs.Sets.{merge_all, code_accesses}
use Rattle.reader.specs.Layout.{no_numbers}
use Rattle.reader.specs.declared.FunctionAt.{FunctionAt}
use Rattle.reader.specs.declared.Layout.{Layout}
use Rattle.analysis.specs.declared.Code.{Code}

-- The two words of a code.
abbrev pub words_of : Code → List ℕ
words_of code = code.start ∷ code.length ∷ []

abbrev pub noCode : Code
noCode = record { start = 0; length = 0 }

-- The place of the function with an id.
abbrev pub id_place : List FunctionAt → ℕ → Option ℕ
id_place table id = position (λ f. eqb f.id id) table

-- The code at a place of the table.
abbrev pub code_from : Layout → ℕ → Code
code_from l at = record { start = (get_or l.table at no_numbers).start; length = (get_or l.table at no_numbers).size + 1 }

abbrev pub code_at_place : Layout → Option ℕ → Code
code_at_place l None = noCode
code_at_place l (Some at) = code_from l at

-- The code of the function with an id.
unfoldable pub code_in : Layout → ℕ → Code
code_in l id = code_at_place l (id_place (take l.functions l.table) id)

-- The set of a call of a code.
unfoldable pub code_sets : List ℕ → Code → Call → List Access
code_sets file code c =
    if eqb code.length 0
    then []
    else
    merge_all (merge_all [] (entry_accesses c))
    (code_accesses c (code.length - 1) (code.length - 1) (code_at file code.start (code.length - 1)))

-- The numbers of a layout's functions are those that the limits allow.
pub record Narrow (l : Layout) : Type 0 where
  pub functions : l.functions ≤ max_functions
  pub sizes : (i : ℕ) → (get_or l.table i no_numbers).size ≤ max_code
