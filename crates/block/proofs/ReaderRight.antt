-- Every record that the reader takes keeps what holds of the block (ReaderLaws), so it holds of the block in an accepted file.
use mathlib.Core.Path.{◌≡◌, subst}
use mathlib.Core.Bool.{true, not, ◌||◌}
use mathlib.Core.List.{List}
use Prim.Native.Nat.{ℕ, zero, suc, ◌+◌, ◌-◌, ◌≤◌}
use native.Mathlib.Omega.{arith}
use lib.Dec.{eqb, ltb}
use lib.ListN.{length, drop}
use borrow.Author.Tests.{ltb-false, eqb-true, not-false}
use Rattle.arith.proofs.ChoiceLaws.{if_all, neither}
use Rattle.wire.specs.Bytes.{number, read_le}
use Rattle.block.specs.Record.{Block, length_allowed}
use Rattle.block.specs.Reader.{Read, Reading, accepted, due, ended, empty_block, read_body, read_record, read_from, read_block}
use Rattle.block.proofs.ReaderLaws.{Reached, EndsFile, Right, function_length_range, cell_length_lem, call_length, right_function, right_cell, right_call, right_end, reached_start}

-- ---- one record

module _ (file : List ℕ) (kind at : ℕ) (rest : List ℕ) (b : Block) (r : Reached file kind at rest b) (len : ℕ) (whole : at + 4 + len ≤ length file) where
  right_body : (k : ℕ) → kind ≤ k → length_allowed k len ≡ true → Right file (read_body (length file) k at len (drop 4 rest) b)
  unfolding read_body
  right_body k up size =
      if_all (Right file) (eqb k 1)
      (λ e. let one : k ≡ 1 = eqb-true k 1 e in right_function file kind at rest b r len whole (omega arith) (function_length_range k len size one).0 (function_length_range k len size one).1)
      λ e₁.
      if_all (Right file) (eqb k 2) (λ e. let two : k ≡ 2 = eqb-true k 2 e in right_cell file kind at rest b r len whole (omega arith) (cell_length_lem k len size two)) λ e₂.
      if_all (Right file) (eqb k 3) (λ e. right_call file kind at rest b r len whole (call_length k len size (eqb-true k 3 e))) λ e₃. right_end file kind at rest b r len whole

-- A record that the reader takes keeps what holds.
pub right_record : (file : List ℕ) (kind at : ℕ) (rest : List ℕ) (b : Block) → Reached file kind at rest b → Right file (read_record (length file) kind at rest b)
unfolding read_record
right_record file kind at rest b r =
    if_all (Right file) (ltb (length file - at) 4) (λ e. tt) λ head.
    if_all (Right file) (ltb (read_le 2 rest 2) 1 || ltb 4 (read_le 2 rest 2) || ltb (read_le 2 rest 2) kind) (λ e. tt) λ known.
    if_all (Right file) (not (length_allowed (read_le 2 rest 2) (number 2 rest))) (λ e. tt) λ size.
    if_all (Right file) (ltb (length file - (at + 4)) (number 2 rest)) (λ e. tt) λ whole.
    let there : 4 ≤ length file - at = ltb-false (length file - at) 4 head in
    let fits : number 2 rest ≤ length file - (at + 4) = ltb-false (length file - (at + 4)) (number 2 rest) whole in
    right_body file kind at rest b r (number 2 rest) (omega arith) (read_le 2 rest 2)
    (ltb-false (read_le 2 rest 2) kind (neither (ltb (read_le 2 rest 2) 1 || ltb 4 (read_le 2 rest 2)) (ltb (read_le 2 rest 2) kind) known).1)
    (not-false (length_allowed (read_le 2 rest 2) (number 2 rest)) size)

-- ---- the whole file

right_from : (file : List ℕ) (turns : ℕ) (g : Reading) → Right file g → Right file (ended (read_from turns (length file) g))
unfolding read_from
right_from file zero (due kind at rest b) r = tt
right_from file zero (ended g) r = r
right_from file (suc turns) (due kind at rest b) r =
    right_from file turns (read_record (length file) kind at rest b) (right_record file kind at rest b r)
right_from file (suc turns) (ended g) r = r

right_block : (file : List ℕ) → Right file (ended (read_block file))
unfolding read_block
right_block file =
    if_all (λ (g : Read). Right file (ended g)) (ltb 65536 (length file)) (λ e. tt) λ e.
    right_from file (length file + 1) (due 0 0 file empty_block) (reached_start file)

-- What holds of an accepted file.
pub accepted_laws : (file : List ℕ) (b : Block) → read_block file ≡ accepted b → EndsFile file b
accepted_laws file b e = subst (λ (g : Read). Right file (ended g)) e (right_block file)
