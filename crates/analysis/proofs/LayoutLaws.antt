-- What a layout tells of the block that it stands for: the places of its calls, the codes of their functions, and their sets.
use mathlib.Core.Path.{◌≡◌, refl, sym, ap, ◌∙◌, subst⁻¹}
use mathlib.Core.Bool.{Bool, true, false}
use mathlib.Core.List.{List, [], map}
use Prim.Native.Nat.{ℕ, ◌+◌, ◌*◌, ◌≤◌, ◌<◌}
use native.Mathlib.Decide.{dec_lt}
use native.Mathlib.Omega.{arith}
use borrow.Author.Tests.{ltb-false}
use lib.Dec.{ltb}
use lib.IntN.{pos}
use lib.ListN.{length, get_or, drop, length-map, get_or-eq_default}
use Rattle.std.specs.Prelude.{if◌then◌else◌, None, Option, Some}
use Rattle.wire.proofs.BytesLaws.{padded_at}
use Rattle.block.specs.Limits.{max_bytes, max_code}
use Rattle.block.specs.Record.{Function, Cell, Block, call_record_bytes, call_id, call_of, cell_of}
use Rattle.block.specs.Reader.{accepted, refused, due, empty_block, read_from, read_block}
use Rattle.block.proofs.ReaderLaws.{BlockLaws, EndsFile}
use Rattle.block.proofs.ReaderRight.{accepted_laws}
use Rattle.block.specs.declared.Call.{Call}
use Rattle.block.specs.declared.Refusal.TheVariants.{InputTooLong}
use Rattle.footprint.specs.Plan.{code_words}
use Rattle.footprint.specs.Sets.{sets_of}
use Rattle.block.specs.Naming.{function_of}
use Rattle.reader.specs.Layout.{numbers_of, no_numbers}
use Rattle.reader.specs.declared.Layout.{Layout}
use Rattle.analysis.specs.Coded.{Narrow, words_of, code_in, code_sets}
use Rattle.analysis.proofs.CodedLaws.{code_found, code_sets_lem}
use Rattle.reader.specs.LayoutOfBlock.{LayoutOfBlock}
use Rattle.block.specs.BlockOfFile.{block_of, function_at, opening_keys}
use Rattle.footprint.specs.BlockSets.{sets_at}
use Rattle.wire.proofs.ListLaws.{map_at}

-- An accepted file has at most 65,536 bytes.
pub accepted_short : (file : List ℕ) (b : Block) → read_block file ≡ accepted b → length file ≤ max_bytes
unfolding read_block
accepted_short file b e = go (ltb max_bytes (length file)) refl e
  where
    go : (t : Bool) → ltb max_bytes (length file) ≡ t
        → (if t then refused InputTooLong else read_from (length file + 1) (length file) (due 0 0 file empty_block)) ≡ accepted b → length file ≤ max_bytes
    go true long f = let z : ◌≡◌ {A = ℕ} 0 1 = cc in absurd (omega arith)
    go false short f = ltb-false max_bytes (length file) short

-- The sizes of a block's functions keep the limit, also past the last of them.
sizes_few : (file : List ℕ) (b : Block) → BlockLaws file b → (i : ℕ) → (get_or (map numbers_of b.functions) i no_numbers).size ≤ max_code
sizes_few file b laws i = go (dec_lt i (length b.functions))
  where
    no_function : Function
    no_function = record { contract = record { 0 = 0 }; number = 0; start = 0; size = 0 }

    go : Dec (i < length b.functions) → (get_or (map numbers_of b.functions) i no_numbers).size ≤ max_code
    go (yes h) = rw (map_at numbers_of b.functions i no_function no_numbers h) (laws.codes i no_function h).few
    go (no h) =
        let past : length (map numbers_of b.functions) ≤ i = simp length-map (omega arith) in
        rw (get_or-eq_default (map numbers_of b.functions) no_numbers {n = i} past) (omega arith)

-- A cell and a call that stand for those past the end.
pub no_cell : Cell
no_cell = record { key = 0; value = pos 0 }

pub default_call : Call
default_call = record { sender = record { 0 = 0 }; contract = record { 0 = 0 }; function = 0; value = pos 0; arg1 = 0; arg2 = 0; arg3 = 0; arg4 = 0; fuel = 0 }

module _ (file : List ℕ) (l : Layout) (laid : LayoutOfBlock file l) where
  abbrev block : Block
  block = block_of file

  pub laid_whole : EndsFile file (block_of file)
  laid_whole = accepted_laws file (block_of file) laid.read

  pub laid_narrow : Narrow l
  laid_narrow =
      subst⁻¹ Narrow laid.layout
      (record {
        functions = laid_whole.laws.function_limit;
        sizes = λ i. rw (padded_at 64 no_numbers (map numbers_of block.functions) i) (sizes_few file block laid_whole.laws i);
      })

  pub laid_first : l.first_call ≡ (block_of file).first_call
  laid_first = ap (λ (m : Layout). m.first_call) laid.layout

  pub laid_opening : l.opening ≡ (block_of file).opening
  laid_opening = ap (λ (m : Layout). m.opening) laid.layout

  pub laid_cells : l.cells ≡ length (block_of file).cells
  laid_cells = ap (λ (m : Layout). m.cells) laid.layout

  pub laid_calls : l.calls ≡ length (block_of file).calls
  laid_calls = ap (λ (m : Layout). m.calls) laid.layout

  module _ (i : ℕ) (h : i < length (block_of file).cells) where
    -- An opening cell's record lies within the file.
    pub laid_cell_within : l.opening + 24 * i + 4 ≤ max_bytes
    laid_cell_within =
        let short : length file ≤ max_bytes = accepted_short file block laid.read in
        let end : block.first_call + call_record_bytes * length block.calls + 4 ≡ length file = laid_whole.end in
        let first : block.opening + 24 * length block.cells ≡ block.first_call = laid_whole.laws.first_call in
        let opening : l.opening ≡ block.opening = laid_opening in
        omega arith

    -- It holds key i of the opening.
    pub laid_cell_key : (cell_of (drop (l.opening + 24 * i + 4) file)).key ≡ get_or (opening_keys (block_of file)) i 0
    laid_cell_key =
        ap (λ (n : ℕ). (cell_of (drop (n + 24 * i + 4) file)).key) laid_opening
        ∙ sym (map_at (λ c. c.key) block.cells i no_cell 0 h ∙ ap (λ (c : Cell). c.key) (laid_whole.laws.cells i no_cell h))

  module _ (j : ℕ) (h : j < length (block_of file).calls) where
    -- A call's record lies within the file.
    pub call_within : l.first_call + call_record_bytes * j + 4 ≤ max_bytes
    call_within =
        let short : length file ≤ max_bytes = accepted_short file block laid.read in
        let end : block.first_call + call_record_bytes * length block.calls + 4 ≡ length file = laid_whole.end in
        let first : l.first_call ≡ block.first_call = laid_first in
        omega arith

    body_at : (d : Call) → call_of (drop (l.first_call + call_record_bytes * j + 4) file) ≡ Some (get_or block.calls j d)
    body_at d = ap (λ (n : ℕ). call_of (drop (n + call_record_bytes * j + 4) file)) laid_first ∙ laid_whole.laws.calls j d h

    -- What the record of call j holds is a call.
    pub call_there : {r : Option Call} → r ≡ call_of (drop (l.first_call + call_record_bytes * j + 4) file) → r ≡ None → ⊥
    call_there {r} e f =
        let same : r ≡ Some (get_or block.calls j default_call) = e ∙ body_at default_call in
        let z : ◌≡◌ {A = ℕ} 0 1 = cc in omega arith

    module _ (c : Call) {r : Option Call} (e : r ≡ call_of (drop (l.first_call + call_record_bytes * j + 4) file)) (f : r ≡ Some c) where
      call_is : get_or block.calls j c ≡ c
      call_is =
          let same : Some c ≡ Some (get_or block.calls j c) = sym f ∙ e ∙ body_at c in
          cc

      -- The code that the table tells of it is that of the function that call j names.
      pub call_coded : words_of (code_in l (call_id c)) ≡ code_words (function_at file j)
      call_coded =
          ap (λ (m : Layout). words_of (code_in m (call_id c))) laid.layout
          ∙ code_found block c
          ∙ ap code_words
          (sym (map_at (function_of block.functions) block.calls j c None h ∙ ap (function_of block.functions) call_is))

      -- So is the set of that code.
      pub call_set : code_sets file (code_in l (call_id c)) c ≡ sets_at file j
      call_set =
          code_sets_lem file (code_in l (call_id c)) c (function_of block.functions c)
          (ap (λ (m : Layout). words_of (code_in m (call_id c))) laid.layout ∙ code_found block c)
          ∙ sym (map_at (sets_of file block.functions) block.calls j c [] h ∙ ap (sets_of file block.functions) call_is)
