-- The mathematics of the proofs of `collect`, over plain variables: the search for an id, the code and the set of a call.
use mathlib.Core.Path.{◌≡◌, sym, ap, ◌∙◌}
use mathlib.Core.List.{List, []}
use Prim.Native.Nat.{ℕ, ◌+◌, ◌-◌, ◌≤◌}
use native.Mathlib.Omega.{arith}
use borrow.Author.Tests.{eq-eqb, ne_eqb}
use lib.ListN.{take, drop, get_or}
use Rattle.std.specs.Prelude.{Option}
use Rattle.std.specs.declared.option.Option.TheVariants.{None, Some}
use Rattle.block.specs.Limits.{max_code}
use Rattle.block.specs.Record.{call_of, code_at}
use Rattle.block.specs.declared.Call.{Call}
use Rattle.footprint.specs.Access.{Access, entry_accesses}
use Rattle.footprint.specs.Sets.{merge_all, code_accesses}
use Rattle.reader.specs.Layout.{no_numbers}
use Rattle.reader.specs.declared.Layout.{Layout}
use Rattle.analysis.specs.declared.Code.{Code}
use Rattle.analysis.specs.Coded.{Narrow, noCode, id_place, code_from, code_at_place, code_in, code_sets}
use Rattle.arith.proofs.ChoiceLaws.{if_true, if_false}

-- ---- the code of a call

module _ (l : Layout) (id : ℕ) where
  pub code_there : {at : ℕ} → Some at ≡ id_place (take l.functions l.table) id → code_from l at ≡ code_in l id
  unfolding code_in
  code_there place = ap (code_at_place l) place

  pub code_none : None ≡ id_place (take l.functions l.table) id → noCode ≡ code_in l id
  unfolding code_in
  code_none place = ap (code_at_place l) place

pub code_short : (l : Layout) (id : ℕ) {code : Code} → Narrow l → code ≡ code_in l id → code.length ≤ max_code + 1
unfolding code_in
code_short l id {code} narrow e = rw e (go (id_place (take l.functions l.table) id))
  where
    go : (at : Option ℕ) → (code_at_place l at).length ≤ max_code + 1
    go (Some at) = let few : (get_or l.table at no_numbers).size ≤ max_code = narrow.sizes at in omega arith
    go None = omega arith

-- What stands at a call's place.
pub read_at : (file : List ℕ) {r : Option Call} {at place : ℕ} → at ≡ place → r ≡ call_of (drop at file) → r ≡ call_of (drop place file)
read_at file e f = f ∙ ap (λ (n : ℕ). call_of (drop n file)) e

-- ---- the set of a code

module _ (file : List ℕ) (code : Code) (c : Call) where
  abbrev coded : ℕ → List ℕ → List Access
  coded size bytes = merge_all (merge_all [] (entry_accesses c)) (code_accesses c size size bytes)

  pub set_none : code.length ≡ 0 → [] ≡ code_sets file code c
  unfolding code_sets
  set_none z = sym (if_true [] (coded (code.length - 1) (code_at file code.start (code.length - 1))) (eq-eqb code.length 0 z))

  pub set_some : {part : List ℕ} → (code.length ≡ 0 → ⊥) → part ≡ code_at file code.start (code.length - 1)
      → coded (code.length - 1) part ≡ code_sets file code c
  unfolding code_sets
  set_some n p =
      ap (coded (code.length - 1)) p
      ∙ sym (if_false [] (coded (code.length - 1) (code_at file code.start (code.length - 1))) (ne_eqb code.length 0 n))
