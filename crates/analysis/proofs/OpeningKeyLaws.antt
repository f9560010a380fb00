-- The mathematics of the proofs on the opening's keys, over plain variables: the words of a cell's key, and the buffer cell by cell.
use mathlib.Core.Path.{◌≡◌, refl, sym, ap, ap₂, ◌∙◌}
use mathlib.Core.List.{List, [], ◌∷◌, ◌++◌, append_assoc}
use Prim.Native.Nat.{ℕ, ◌+◌, ◌*◌, ◌^◌, ◌≤◌, ◌<◌}
use native.Mathlib.Nat.{sub-zero}
use native.Mathlib.Numerals.{add-one}
use native.Mathlib.Omega.{arith}
use lib.ListN.{length, get_or, set, take, drop, length-append, length-map, length-set}
use lib.Seq.{take-suc, take_all, length-take-le, get_or-drop, drop-drop}
use Rattle.wire.specs.Bytes.{number, read_le, repeated, padded}
use Rattle.wire.proofs.BytesLaws.{number_lt}
use Rattle.block.specs.Key.{key_of}
use Rattle.block.specs.Limits.{max_bytes, max_keys}
use Rattle.block.specs.Record.{cell_of}
use Rattle.footprint.specs.Plan.{high_word, low_word, table_words}
use Rattle.reader.specs.declared.Layout.{Layout}
use Rattle.analysis.proofs.GatheredLaws.{padded_last}
use Rattle.reader.specs.LayoutOfBlock.{LayoutOfBlock}
use Rattle.block.specs.BlockOfFile.{block_of, opening_keys}
use Rattle.analysis.proofs.LayoutLaws.{laid_whole, laid_cells, laid_cell_within, laid_cell_key}
use Rattle.footprint.proofs.TableWordLaws.{words_append, words_length}

-- ---- the words of a key

high_word_lem : (address field a b : ℕ) → b < 2 ^ 32 → high_word (key_of address field a b) ≡ address * 2 ^ 48 + field * 2 ^ 32 + a
high_word_lem address field a b h = omega arith

low_word_lem : (address field a b : ℕ) → b < 2 ^ 32 → low_word (key_of address field a b) ≡ b
low_word_lem address field a b h = omega arith

module _ (file : List ℕ) (at : ℕ) {s : List ℕ} (there : s ≡ drop at file) where
  pub cell_high : ((i : ℕ) → get_or file i 0 < 256) → {x y a r : ℕ} → x ≡ read_le 2 s 0 → y ≡ read_le 2 s 2 → a ≡ read_le 4 s 4
      → r ≡ x * 2 ^ 48 + y * 2 ^ 32 + a → r ≡ high_word (cell_of (drop at file)).key
  cell_high bytes {x} {y} {a} {r} ex ey ea er =
      let low : read_le 4 s 8 < 2 ^ 32 =
      rw (there, drop-drop 8 at file) (number_lt 4 (drop (at + 8) file) (λ i. rw (get_or-drop (at + 8) file i 0) (bytes (at + 8 + i)))) in
      er ∙ sym (high_word_lem x y a (read_le 4 s 8) low)
      ∙ ap (λ (k : ℕ). high_word k)
      (ap₂ (λ (p q : ℕ). key_of p q a (read_le 4 s 8)) ex ey ∙ ap (λ (q : ℕ). key_of (number 2 s) (read_le 2 s 2) q (read_le 4 s 8)) ea)
      ∙ ap (λ (t : List ℕ). high_word (cell_of t).key) there

-- ---- one more key behind the others

-- The two words of the next key stored behind those of the keys before it.
stored_key : (n : ℕ) (ks : List ℕ) (i : ℕ) → i < length ks → 2 * length ks ≤ n
    → set (set (padded n 0 (table_words (take i ks))) (2 * i) (high_word (get_or ks i 0))) (2 * i + 1) (low_word (get_or ks i 0))
    ≡ padded n 0 (table_words (take (i + 1) ks))
unfolding table_words
stored_key n ks i h room =
    let front : List ℕ = take i ks in
    let k : ℕ = get_or ks i 0 in
    let ws : List ℕ = table_words front in
    let long : length ws ≡ 2 * i = words_length front ∙ ap (λ (m : ℕ). 2 * m) (length-take-le i ks (omega arith)) in
    let more : length (ws ++ (high_word k ∷ [])) ≡ 2 * i + 1 = length-append ws (high_word k ∷ []) ∙ ap (λ (m : ℕ). m + 1) long in
    let first : padded n 0 (ws ++ (high_word k ∷ [])) ≡ set (padded n 0 ws) (2 * i) (high_word k) =
    padded_last n ws (high_word k) (omega arith) ∙ ap (λ (m : ℕ). set (padded n 0 ws) m (high_word k)) long in
    let second : padded n 0 ((ws ++ (high_word k ∷ [])) ++ (low_word k ∷ [])) ≡ set (padded n 0 (ws ++ (high_word k ∷ []))) (2 * i + 1) (low_word k) =
    padded_last n (ws ++ (high_word k ∷ [])) (low_word k) (omega arith)
    ∙ ap (λ (m : ℕ). set (padded n 0 (ws ++ (high_word k ∷ []))) m (low_word k)) more in
    let words : table_words (take (i + 1) ks) ≡ (ws ++ (high_word k ∷ [])) ++ (low_word k ∷ []) =
    ap (λ (m : ℕ). table_words (take m ks)) (add-one i) ∙ ap table_words (take-suc ks i 0 h) ∙ words_append front (k ∷ [])
    ∙ sym (append_assoc ws (high_word k ∷ []) (low_word k ∷ [])) in
    ap (λ (t : List ℕ). set t (2 * i + 1) (low_word k)) (sym first) ∙ sym second ∙ ap (padded n 0) (sym words)

-- The buffer holds the first i keys of the opening.
pub record OpeningKeysIn (file old keys : List ℕ) (i : ℕ) : Type 0 where
  pub kept : length keys ≡ length old
  pub held : keys ≡ padded (length old) 0 (table_words (take i (opening_keys (block_of file))))

pub keys_opened_none : (file keys : List ℕ) → keys ≡ repeated (length keys) 0 → OpeningKeysIn file keys keys 0
unfolding table_words
keys_opened_none file keys e =
    record { kept = refl; held = e ∙ ap (λ (n : ℕ). repeated n 0) (sym (sub-zero (length keys))) }

module _ (file : List ℕ) (l : Layout) (laid : LayoutOfBlock file l) (old : List ℕ) (room : 2 * max_keys ≤ length old) where
  -- The places of a cell and of its key's words.
  pub opened_inside : (keys : List ℕ) (i : ℕ) → OpeningKeysIn file old keys i → i < l.cells
      → (l.opening + 24 * i + 4 ≤ max_bytes) × (i < max_keys) × (2 * i + 2 ≤ length keys)
  opened_inside keys i o h =
      let cells : l.cells ≡ length (block_of file).cells = laid_cells file l laid in
      let limit : length (block_of file).cells ≤ 1024 = (laid_whole file l laid).laws.cell_limit in
      let same : length keys ≡ length old = o.kept in
      let inside : i < length (block_of file).cells = omega arith in
      (laid_cell_within file l laid i inside, omega arith, omega arith)

  pub keys_opened_more : (keys : List ℕ) (i : ℕ) {high low at : ℕ} → OpeningKeysIn file old keys i → i < l.cells → at ≡ l.opening + 24 * i + 4
      → high ≡ high_word (cell_of (drop at file)).key → low ≡ low_word (cell_of (drop at file)).key
      → OpeningKeysIn file old (set (set keys (2 * i) high) (2 * i + 1) low) (i + 1)
  keys_opened_more keys i {high} {low} {at} o h place eh el =
      let ks : List ℕ = opening_keys (block_of file) in
      let cells : l.cells ≡ length (block_of file).cells = laid_cells file l laid in
      let limit : length (block_of file).cells ≤ 1024 = (laid_whole file l laid).laws.cell_limit in
      let count : length ks ≡ length (block_of file).cells = length-map (block_of file).cells (λ c. c.key) in
      let inside : i < length (block_of file).cells = omega arith in
      let key : (cell_of (drop at file)).key ≡ get_or ks i 0 = ap (λ (n : ℕ). (cell_of (drop n file)).key) place ∙ laid_cell_key file l laid i inside in
      let high_is : high ≡ high_word (get_or ks i 0) = eh ∙ ap (λ (k : ℕ). high_word k) key in
      let low-is : low ≡ low_word (get_or ks i 0) = el ∙ ap (λ (k : ℕ). low_word k) key in
      record {
        kept = length-set (set keys (2 * i) high) (2 * i + 1) low ∙ length-set keys (2 * i) high ∙ o.kept;
        held =
            ap₂ (λ (x y : ℕ). set (set keys (2 * i) x) (2 * i + 1) y) high_is low-is
            ∙ ap (λ (t : List ℕ). set (set t (2 * i) (high_word (get_or ks i 0))) (2 * i + 1) (low_word (get_or ks i 0))) o.held
            ∙ stored_key (length old) ks i (omega arith) (omega arith);
      }

  pub keys_opened_all : (keys : List ℕ) (i : ℕ) → OpeningKeysIn file old keys i → l.cells ≤ i
      → keys ≡ padded (length old) 0 (table_words (opening_keys (block_of file)))
  keys_opened_all keys i o h =
      let cells : l.cells ≡ length (block_of file).cells = laid_cells file l laid in
      let count : length (opening_keys (block_of file)) ≡ length (block_of file).cells = length-map (block_of file).cells (λ c. c.key) in
      let all : length (opening_keys (block_of file)) ≤ i = omega arith in
      o.held ∙ ap (λ (t : List ℕ). padded (length old) 0 (table_words t)) (take_all i (opening_keys (block_of file)) all)
