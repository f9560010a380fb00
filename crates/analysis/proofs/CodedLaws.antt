-- Laws of the codes that a layout's table tells: they are those of the block's functions, and so are the sets of their calls.
use mathlib.Core.Path.{◌≡◌, refl, sym, ap, ap₂, ◌∙◌}
use mathlib.Core.Bool.{Bool, true, false, not, cond}
use mathlib.Core.List.{List, [], ◌∷◌, map}
use Prim.Native.Nat.{ℕ, suc, ◌+◌, ◌-◌}
use native.Mathlib.Omega.{arith}
use borrow.Author.Tests.{lt-ltb, eq-eqb, ne_eqb}
use lib.Dec.{eqb, ltb, leb-suc-suc}
use lib.ListN.{length, get_or, take, length-map}
use lib.Seq.{take-append_seam}
use Rattle.std.specs.Prelude.{if◌then◌else◌, Option}
use Rattle.wire.proofs.BytesLaws.{padded_at}
use Rattle.std.specs.List.{position_or_len}
use Rattle.std.specs.declared.option.Option.TheVariants.{None, Some}
use Rattle.block.specs.Record.{Function, Block, function_id, call_id, code_at}
use Rattle.block.specs.declared.Call.{Call}
use Rattle.footprint.specs.Access.{entry_accesses}
use Rattle.footprint.specs.Plan.{code_words}
use Rattle.footprint.specs.Sets.{merge_all, code_accesses, function_sets}
use Rattle.block.specs.Naming.{function_of}
use Rattle.reader.specs.Layout.{numbers_of, no_numbers, table, layout_for}
use Rattle.reader.specs.declared.FunctionAt.{FunctionAt}
use Rattle.analysis.specs.declared.Code.{Code}
use Rattle.analysis.specs.Coded.{words_of, noCode, id_place, code_at_place, code_in, code_sets}
use Rattle.arith.proofs.ChoiceLaws.{if_true, if_false}

-- ---- the code of a function

-- A code by the place of its function.
code_of : List Function → ℕ → Code
code_of fs at =
    if ltb at (length fs) then record { start = (get_or (map numbers_of fs) at no_numbers).start; length = (get_or (map numbers_of fs) at no_numbers).size + 1 } else noCode

-- The place of the function that a call names.
abbrev place : List Function → Call → ℕ
place fs c = position_or_len (λ n. eqb n.id (call_id c)) (map numbers_of fs)

code_by_place : (fs : List Function) (c : Call) → words_of (code_of fs (place fs c)) ≡ code_words (function_of fs c)
unfolding code_of function_of code_words
code_by_place [] c = refl
code_by_place (f ∷ fs) c = go (eqb (function_id f) (call_id c)) (code_by_place fs c)
  where
    go : (b : Bool) → words_of (code_of fs (place fs c)) ≡ code_words (function_of fs c)
        → words_of (code_of (f ∷ fs) (cond (not b) (1 + place fs c) 0)) ≡ code_words (if b then Some f else function_of fs c)
    go true ih = rw (lt-ltb 0 (suc (length fs)) (omega arith))
    go false ih = let one : 1 + place fs c ≡ suc (place fs c) = omega arith in rw (one, leb-suc-suc (suc (place fs c)) (length fs)) ih

module _ (b : Block) (c : Call) where
  place_found : id_place (take (length b.functions) (table b.functions)) (call_id c) ≡ id_place (map numbers_of b.functions) (call_id c)
  place_found =
      ap (λ (fs : List FunctionAt). id_place fs (call_id c))
      (ap (λ (n : ℕ). take n (table b.functions)) (sym (length-map b.functions numbers_of))
      ∙ take-append_seam (map numbers_of b.functions) _)

  -- The code that the table tells is that of the function that the call names.
  pub code_found : words_of (code_in (layout_for b) (call_id c)) ≡ code_words (function_of b.functions c)
  unfolding code_in code_of
  code_found =
      ap (λ at. words_of (code_at_place (layout_for b) at)) place_found
      ∙ chosen
      ∙ code_by_place b.functions c
    where
      at : ℕ
      at = place b.functions c

      chosen : words_of (code_at_place (layout_for b) (cond (ltb at (length (map numbers_of b.functions))) (Some at) None)) ≡ words_of (code_of b.functions at)
      chosen =
          ap (λ (n : ℕ). words_of (code_at_place (layout_for b) (cond (ltb at n) (Some at) None))) (length-map b.functions numbers_of)
          ∙ go (ltb at (length b.functions))
        where
          go : (b' : Bool) → words_of (code_at_place (layout_for b) (cond b' (Some at) None))
              ≡ words_of (if b' then record { start = (get_or (map numbers_of b.functions) at no_numbers).start; length = (get_or (map numbers_of b.functions) at no_numbers).size + 1 } else noCode)
          go true =
              ap (λ (f : FunctionAt). words_of (record { start = f.start; length = f.size + 1 }))
              (padded_at 64 no_numbers (map numbers_of b.functions) at)
          go false = refl

-- ---- the set of a call

-- A code with the words of a function has that function's set.
pub code_sets_lem : (file : List ℕ) (code : Code) (c : Call) (f : Option Function) → words_of code ≡ code_words f
    → code_sets file code c ≡ function_sets file c f
unfolding code_sets function_sets code_words
code_sets_lem file code c None e =
    if_true [] (merge_all (merge_all [] (entry_accesses c)) (code_accesses c (code.length - 1) (code.length - 1) (code_at file code.start (code.length - 1))))
    (eq-eqb code.length 0 (ap (λ (l : List ℕ). get_or l 1 0) e))
code_sets_lem file code c (Some f) e =
    let start : code.start ≡ f.start = ap (λ (l : List ℕ). get_or l 0 0) e in
    let long : code.length ≡ f.size + 1 = ap (λ (l : List ℕ). get_or l 1 0) e in
    let size : code.length - 1 ≡ f.size = omega arith in
    let some-code : code.length ≡ 0 → ⊥ = omega arith in
    if_false [] (merge_all (merge_all [] (entry_accesses c)) (code_accesses c (code.length - 1) (code.length - 1) (code_at file code.start (code.length - 1))))
    (ne_eqb code.length 0 some-code)
    ∙ ap₂ (λ (s n : ℕ). merge_all (merge_all [] (entry_accesses c)) (code_accesses c n n (code_at file s n))) start size
