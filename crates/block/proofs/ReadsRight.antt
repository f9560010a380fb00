-- The whole file: every record that the reader takes adds one to the contents (ReadsOnly), so an accepted file is the file of contents, and no other is.
use mathlib.Core.Path.{◌≡◌, refl, ap, subst, subst⁻¹, ◌∙◌}
use mathlib.Core.Bool.{true, not, ◌||◌}
use mathlib.Core.List.{List, []}
use Prim.Native.Nat.{ℕ, zero, suc, ◌+◌, ◌-◌, ◌≤◌}
use native.Mathlib.Omega.{arith}
use borrow.Author.Tests.{ltb-false, eqb-true, eqb-false, not-false}
use lib.Dec.{eqb, ltb}
use lib.ListN.{length, drop, length-append}
use Rattle.arith.proofs.ChoiceLaws.{if_all, neither}
use Rattle.arith.specs.Balance.{total}
use Rattle.wire.specs.Bytes.{number, read_le}
use Rattle.block.specs.Record.{Cell, Block, length_allowed}
use Rattle.block.specs.Reader.{Read, Reading, accepted, due, ended, empty_block, balances, read_body, read_record, read_from, read_block}
use Rattle.block.specs.Encoding.{Routine, Contents, records, AreBytes, Ascending, HoldsContents, placed, block_for}
use Rattle.block.proofs.ContentsLaws.{holding, sent}
use Rattle.block.specs.declared.Call.{Call}
use Rattle.block.proofs.ReadsOnly.{Standing, Held, Right, right_function, right_cell, right_call, right_end, function_lengths, other_lengths}

module _ (file : List ℕ) (short : length file ≤ 65536) where
  right_body : (kind at : ℕ) (rest : List ℕ) (fs : List Routine) (cs : List Cell) (ks : List Call) → Standing file kind at rest fs cs ks
      → 4 + number 2 rest ≤ length rest → (k : ℕ) → read_le 2 rest 2 ≡ k → 1 ≤ k → k ≤ 4 → kind ≤ k → length_allowed k (number 2 rest) ≡ true
      → Right file (read_body (length file) k at (number 2 rest) (drop 4 rest) (block_for (holding fs cs ks)))
  unfolding read_body
  right_body kind at rest fs cs ks r fit k is low high up size =
      if_all (Right file) (eqb k 1)
      (λ e. let one : k ≡ 1 = eqb-true k 1 e in
      let o = function_lengths len (subst (λ (j : ℕ). length_allowed j len ≡ true) one size) in
      right_function file kind at rest len refl (omega arith) fit fs cs ks r (is ∙ one) (omega arith) o.0 o.1 o.2) λ e₁.
      if_all (Right file) (eqb k 2)
      (λ e. let two : k ≡ 2 = eqb-true k 2 e in
      right_cell file kind at rest len refl (omega arith) fit fs cs ks r (is ∙ two) (omega arith) ((other_lengths len).0 (subst (λ (j : ℕ). length_allowed j len ≡ true) two size))) λ e₂.
      if_all (Right file) (eqb k 3)
      (λ e. let three : k ≡ 3 = eqb-true k 3 e in
      right_call file kind at rest len refl (omega arith) fit fs cs ks r (is ∙ three) ((other_lengths len).1 (subst (λ (j : ℕ). length_allowed j len ≡ true) three size))) λ e₃.
      let n₁ : k ≡ 1 → ⊥ = eqb-false k 1 e₁ in
      let n₂ : k ≡ 2 → ⊥ = eqb-false k 2 e₂ in
      let n₃ : k ≡ 3 → ⊥ = eqb-false k 3 e₃ in
      let four : k ≡ 4 = omega arith in
      right_end file kind at rest len refl (omega arith) fit short fs cs ks r (is ∙ four) ((other_lengths len).2 (subst (λ (j : ℕ). length_allowed j len ≡ true) four size))
    where
      len : ℕ
      len = number 2 rest

  pub right_record : (kind at : ℕ) (rest : List ℕ) (b : Block) → Held file kind at rest b → Right file (read_record (length file) kind at rest b)
  unfolding read_record
  right_record kind at rest b h =
      let r : Standing file kind at rest h.fs h.cs h.ks = h.stands in
      let all : length file ≡ length (sent h.fs h.cs h.ks) + length rest = ap length r.parts ∙ length-append (sent h.fs h.cs h.ks) rest in
      let here : at ≡ length (sent h.fs h.cs h.ks) = r.place in
      if_all (Right file) (ltb (length file - at) 4) (λ e. tt) λ head.
      if_all (Right file) (ltb (read_le 2 rest 2) 1 || ltb 4 (read_le 2 rest 2) || ltb (read_le 2 rest 2) kind) (λ e. tt) λ known.
      if_all (Right file) (not (length_allowed (read_le 2 rest 2) (number 2 rest))) (λ e. tt) λ size.
      if_all (Right file) (ltb (length file - (at + 4)) (number 2 rest)) (λ e. tt) λ whole.
      let there : 4 ≤ length file - at = ltb-false (length file - at) 4 head in
      let fits : number 2 rest ≤ length file - (at + 4) = ltb-false (length file - (at + 4)) (number 2 rest) whole in
      let o = neither (ltb (read_le 2 rest 2) 1 || ltb 4 (read_le 2 rest 2)) (ltb (read_le 2 rest 2) kind) known in
      let p = neither (ltb (read_le 2 rest 2) 1) (ltb 4 (read_le 2 rest 2)) o.0 in
      subst⁻¹ (λ (c : Block). Right file (read_body (length file) (read_le 2 rest 2) at (number 2 rest) (drop 4 rest) c)) h.block
      (right_body kind at rest h.fs h.cs h.ks r (omega arith) (read_le 2 rest 2) refl (ltb-false (read_le 2 rest 2) 1 p.0) (ltb-false 4 (read_le 2 rest 2) p.1)
      (ltb-false (read_le 2 rest 2) kind o.1) (not-false (length_allowed (read_le 2 rest 2) (number 2 rest)) size))

  right_from : (turns : ℕ) (g : Reading) → Right file g → Right file (ended (read_from turns (length file) g))
  unfolding read_from
  right_from zero (due kind at rest b) r = tt
  right_from zero (ended g) r = r
  right_from (suc turns) (due kind at rest b) r = right_from turns (read_record (length file) kind at rest b) (right_record kind at rest b r)
  right_from (suc turns) (ended g) r = r

pub nothing_stands : (file : List ℕ) → AreBytes file → Held file 0 0 file empty_block
unfolding total balances Ascending block_for placed records sent
nothing_stands file bytes =
    record {
      fs = [];
      cs = [];
      ks = [];
      stands =
          record {
            functions = record { each = tt; rising = tt; few = omega arith };
            cells = record { each = tt; rising = tt; few = omega arith; sum = refl };
            calls = record { each = tt; few = omega arith };
            parts = refl;
            place = refl;
            bytes = bytes;
            last = refl;
          };
      block = refl;
    }

right_block : (file : List ℕ) → AreBytes file → Right file (ended (read_block file))
unfolding read_block
right_block file bytes =
    if_all (λ (g : Read). Right file (ended g)) (ltb 65536 (length file)) (λ e. tt) λ e.
    right_from file (ltb-false 65536 (length file) e) (length file + 1) (due 0 0 file empty_block) (nothing_stands file bytes)

-- Nothing else is accepted.
pub reads_only : (file : List ℕ) → AreBytes file → (b : Block) → read_block file ≡ accepted b → (t : Contents) × HoldsContents file t × (b ≡ block_for t)
reads_only file bytes b e = subst (λ (g : Read). Right file (ended g)) e (right_block file bytes)
