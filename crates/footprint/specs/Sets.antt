-- "Read and write sets" of a call: its distinct keys, each with its two flags, in the order of their first use.
use Rattle.block.specs.declared.Instr.{Instr}
use Rattle.std.specs.Prelude.{◌||◌, List, [], ◌∷◌, ◌++◌, map, ℕ, zero, suc, eqb, drop, None, Option, Some}
use Rattle.block.specs.Naming.{function_of}
use Rattle.std.specs.Prelude.{if◌then◌else◌}
use Rattle.block.specs.Instruction.{instr_bytes, decode}
use Rattle.block.specs.Record.{Function, code_at}
use Rattle.block.specs.declared.Call.{Call}
use Rattle.footprint.specs.Access.{Access, accesses, entry_accesses}

-- One more access: its flags join those of its key, or it is a new entry at the end.
unfoldable pub merge : List Access → Access → List Access
merge [] a = a ∷ []
merge (e ∷ es) a =
    if eqb e.key a.key
    then record { key = e.key; reads = e.reads || a.reads; writes = e.writes || a.writes } ∷ es
    else e ∷ merge es a

unfoldable pub merge_all : List Access → List Access → List Access
merge_all es [] = es
merge_all es (a ∷ as') = merge_all (merge es a) as'

abbrev pub decoded_accesses : Call → Option Instr → List Access
decoded_accesses c (Some i) = accesses c i
decoded_accesses c None = []

-- The accesses of the first `left` instructions of the bytes. "Every instruction counts, reached or not."
unfoldable pub code_accesses : Call → ℕ → ℕ → List ℕ → List Access
code_accesses c zero size s = []
code_accesses c (suc left) size s =
    decoded_accesses c (decode size s) ++ code_accesses c left size (drop instr_bytes s)

-- "An unknown function has empty sets."
unfoldable pub function_sets : List ℕ → Call → Option Function → List Access
function_sets block c None = []
function_sets block c (Some f) =
    merge_all (merge_all [] (entry_accesses c)) (code_accesses c f.size f.size (code_at block f.start f.size))

abbrev pub sets_of : List ℕ → List Function → Call → List Access
sets_of block functions c = function_sets block c (function_of functions c)

-- The two sets, as lists of keys.
unfoldable pub read_set : List Access → List ℕ
read_set [] = []
read_set (e ∷ es) = if e.reads then e.key ∷ read_set es else read_set es

unfoldable pub write_set : List Access → List ℕ
write_set [] = []
write_set (e ∷ es) = if e.writes then e.key ∷ write_set es else write_set es

-- The keys of accesses.
abbrev pub access_keys : List Access → List ℕ
access_keys es = map (λ e. e.key) es
