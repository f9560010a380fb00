-- What `prepare` and its parts answer, over plain values: the buffers that stay zero, the layout of a file that is read, and the block behind
-- its analysis.
use Rattle.std.specs.Prelude.{Err, Ok, Result, IsErrAnd}
use mathlib.Core.Path.{◌≡◌, refl, sym, ap, ◌∙◌}
use mathlib.Core.Bool.{Bool, true, false, ◌&&◌}
use mathlib.Core.List.{List, [], map}
use Prim.Native.Nat.{ℕ, ◌*◌, ◌≤◌}
use native.Mathlib.Omega.{arith}
use borrow.Author.Tests.{leb-true}
use lib.Dec.{leb}
use lib.IntN.{ℤ, pos}
use lib.ListN.{length}
use Rattle.wire.specs.Bytes.{repeated, padded}
use Rattle.block.specs.Limits.{max_calls, max_keys}
use Rattle.block.specs.Reader as reading
use Rattle.block.specs.Reader.{Read, read_block}
use Rattle.block.specs.declared.Refusal.{Refusal}
use Rattle.block.specs.declared.Refusal.TheVariants.{Buffers}
use Rattle.footprint.specs.Plan as footprint
use Rattle.footprint.specs.Plan.{Room, plan_words, table_words, plans, opening_value, room_enough, unprepared, prepare_analysed, prepare_read, prepared_of}
use Rattle.footprint.specs.Table.{Analysis, analysed, refused}
use Rattle.reader.specs.Layout.{layout_of, layout_for}
use Rattle.reader.specs.declared.Layout.{Layout}
use Rattle.analysis.specs.declared.Prepared.{Prepared}
use Rattle.analysis.specs.Collected.{CollectedAs}
use Rattle.analysis.proofs.CollectedLaws.{Holding, collected_table, collected_words, collected_refused}
use Rattle.footprint.specs.KeyWords.{keys_in}
use Rattle.reader.specs.LayoutOfBlock.{LayoutOfBlock}
use Rattle.block.specs.BlockOfFile.{block_in, block_of, opening_keys}
use Rattle.footprint.specs.BlockSets.{all_sets, analysis_of}
use Rattle.analysis.proofs.LayoutLaws.{laid_calls, laid_first}
use Rattle.analysis.specs.Preparing.{room_of, preparing, Blank}

-- ---- a refusal in buffers that are zero

pub refused_left : (why : Refusal) (n m k : ℕ) (plan keys : List ℕ) (values : List ℤ)
    → plan ≡ repeated n 0 → keys ≡ repeated m 0 → values ≡ repeated k (pos 0)
    → preparing (Err why) plan keys values ≡ unprepared (room_of n m k) why
unfolding unprepared preparing
refused_left why n m k plan keys values f g h = rw (f, g, h)

-- ---- room

both : (a b : Bool) → (a && b) ≡ true → (a ≡ true) × (b ≡ true)
both true b e = (refl, e)
both false b e = let z : ◌≡◌ {A = ℕ} 0 1 = cc in absurd (omega arith)

-- Buffers that have room and were cleared.
pub room_blank : (n m k : ℕ) (plan keys : List ℕ) (values : List ℤ) (enough : Bool)
    → length plan ≡ n → length keys ≡ m → length values ≡ k
    → plan ≡ repeated n 0 → keys ≡ repeated m 0 → values ≡ repeated k (pos 0)
    → enough ≡ room_enough (room_of (length plan) (length keys) (length values)) → enough ≡ true → Blank plan keys values
unfolding room_enough
room_blank n m k plan keys values enough p q r e f g w t =
    let all = both (leb (max_calls * plan_words) (length plan) && leb (max_keys * 2) (length keys)) (leb max_keys (length values)) (sym w ∙ t) in
    let front = both (leb (max_calls * plan_words) (length plan)) (leb (max_keys * 2) (length keys)) all.0 in
    let keys_room : max_keys * 2 ≤ length keys = leb-true (max_keys * 2) (length keys) front.1 in
    record {
      plan_room = leb-true (max_calls * plan_words) (length plan) front.0;
      keys_room = omega arith;
      cells_room = leb-true max_keys (length values) all.1;
      plan_zero = e ∙ ap (λ (i : ℕ). repeated i 0) (sym p);
      keys_zero = f ∙ ap (λ (i : ℕ). repeated i 0) (sym q);
      values_zero = g ∙ ap (λ (i : ℕ). repeated i (pos 0)) (sym r);
    }

room_same : (n m k : ℕ) (plan keys : List ℕ) (values : List ℤ) → length plan ≡ n → length keys ≡ m → length values ≡ k
    → room_of (length plan) (length keys) (length values) ≡ room_of n m k
room_same n m k plan keys values p q r = rw (p, q, r)

-- 20, and what is read where there is room.
pub prepared_short : (file : List ℕ) (n m k : ℕ) (plan keys : List ℕ) (values : List ℤ) (enough : Bool)
    → length plan ≡ n → length keys ≡ m → length values ≡ k
    → plan ≡ repeated n 0 → keys ≡ repeated m 0 → values ≡ repeated k (pos 0)
    → enough ≡ room_enough (room_of (length plan) (length keys) (length values)) → enough ≡ false
    → preparing (Err Buffers) plan keys values ≡ prepared_of (room_of n m k) file
unfolding prepared_of
prepared_short file n m k plan keys values enough a b c e f g w t =
    let tested : room_enough (room_of n m k) ≡ false = ap room_enough (sym (room_same n m k plan keys values a b c)) ∙ sym w ∙ t in
    rw tested (refused_left Buffers n m k plan keys values e f g)

pub prepared_read : (file : List ℕ) (n m k : ℕ) (plan keys : List ℕ) (values : List ℤ) (enough : Bool) (x : footprint.Prepared)
    → length plan ≡ n → length keys ≡ m → length values ≡ k
    → enough ≡ room_enough (room_of (length plan) (length keys) (length values)) → enough ≡ true
    → x ≡ prepare_read (room_of (length plan) (length keys) (length values)) file (read_block file)
    → x ≡ prepared_of (room_of n m k) file
unfolding prepared_of
prepared_read file n m k plan keys values enough x a b c w t made =
    let same : room_of (length plan) (length keys) (length values) ≡ room_of n m k = room_same n m k plan keys values a b c in
    let tested : room_enough (room_of n m k) ≡ true = ap room_enough (sym same) ∙ sym w ∙ t in
    rw tested (made ∙ ap (λ (r : Room). prepare_read r file (read_block file)) same)

-- ---- the reader's answer

-- The layout of an accepted file.
pub read_laid : (file : List ℕ) (l : Layout) → Ok l ≡ layout_of (read_block file) → LayoutOfBlock file l
unfolding layout_of block_in
read_laid file l e = go (read_block file) refl e
  where
    go : (r : Read) → read_block file ≡ r → Ok l ≡ layout_of r → LayoutOfBlock file l
    go (reading.refused why) f e = let z : ◌≡◌ {A = ℕ} 0 1 = cc in absurd (omega arith)
    go (reading.accepted b) f e =
        let same : block_of file ≡ b = ap block_in f in
        let told : l ≡ layout_for b = cc in
        record { read = f ∙ ap reading.accepted (sym same); layout = told ∙ ap layout_for (sym same) }

-- 1 to 10, handed on.
pub read_left : (file : List ℕ) (p : Result Prepared Refusal) {why : Refusal} (plan keys : List ℕ) (values : List ℤ)
    → Blank plan keys values → IsErrAnd p (λ e. e ≡ why) → Err why ≡ layout_of (read_block file)
    → preparing p plan keys values ≡ prepare_read (room_of (length plan) (length keys) (length values)) file (read_block file)
unfolding prepare_read layout_of
read_left file (Ok p) plan keys values b h e = absurd h
read_left file (Err handed) {why} plan keys values b h e = go (read_block file) e
  where
    go : (r : Read) → Err why ≡ layout_of r
        → preparing (Err handed) plan keys values ≡ prepare_read (room_of (length plan) (length keys) (length values)) file r
    go (reading.refused told) e =
        let same : why ≡ told = cc in
        refused_left handed (length plan) (length keys) (length values) plan keys values b.plan_zero b.keys_zero b.values_zero
        ∙ ap (unprepared (room_of (length plan) (length keys) (length values))) (h ∙ same)
    go (reading.accepted block) e = let z : ◌≡◌ {A = ℕ} 0 1 = cc in absurd (omega arith)

-- ---- behind the analysis

-- The keys of the opening, in a buffer of the length that was lent.
pub opened_keys : (file keys after : List ℕ) (l : Layout) {plan : List ℕ} {values : List ℤ} → LayoutOfBlock file l → Blank plan keys values
    → length after ≡ length keys → after ≡ padded (length keys) 0 (table_words (opening_keys (block_of file)))
    → LayoutOfBlock file l × ((2 * max_keys ≤ length after) × (after ≡ padded (length after) 0 (table_words (opening_keys (block_of file)))))
opened_keys file keys after l laid b kept e =
    (laid, (omega (arith, b.keys_room), e ∙ ap (λ (n : ℕ). padded n 0 (table_words (opening_keys (block_of file)))) (sym kept)))

module _ (file : List ℕ) (l : Layout) (laid : LayoutOfBlock file l) (plan keys : List ℕ) (values : List ℤ) (b : Blank plan keys values)
    (mid : List ℕ) (kept : length mid ≡ length keys) (after : List ℕ) where
  abbrev room : Room
  room = room_of (length plan) (length keys) (length values)

  analysed_to : (a : Analysis) → analysis_of file (block_of file) ≡ a
      → prepare_read room file (read_block file) ≡ prepare_analysed room (block_of file) a
  unfolding prepare_read
  analysed_to a f = ap (prepare_read room file) laid.read ∙ ap (prepare_analysed room (block_of file)) f

  -- 11 and 12, with the keys cleared.
  pub laid_refused : (why : Refusal) (zero : List ℕ) → CollectedAs (length mid) (Err why) after (analysis_of file (block_of file))
      → zero ≡ repeated (length keys) 0 → preparing (Err why) plan zero values ≡ prepare_read room file (read_block file)
  unfolding prepare_analysed
  laid_refused why zero e cleared =
      refused_left why (length plan) (length keys) (length values) plan zero values b.plan_zero cleared b.values_zero
      ∙ sym (analysed_to (refused why) (collected_refused file (length mid) after why e))

  module _ (n : ℕ) (e : CollectedAs (length mid) (Ok n) after (analysis_of file (block_of file))) where
    -- The table that the plan and the values are made by.
    pub laid_holding : Holding file n after
    laid_holding =
        let space : 2 * max_keys ≤ length mid = omega (arith, b.keys_room) in
        collected_table file (length mid) after n e laid.read space

    pub laid_accepted : (plan' : List ℕ) (values' : List ℤ)
        → plan' ≡ padded (length plan) 0 (plans (block_of file).functions (keys_in n after) [] (block_of file).calls (all_sets file (block_of file)))
        → values' ≡ padded (length values) (pos 0) (map (opening_value (block_of file).cells) (keys_in n after))
        → preparing (Ok (record { calls = l.calls; cells = n; first_call = l.first_call })) plan' after values'
        ≡ prepare_read room file (read_block file)
    unfolding prepare_analysed preparing
    laid_accepted plan' values' g h =
        let table : List ℕ = keys_in n after in
        let held : Holding file n after = laid_holding in
        let words = collected_words file (length mid) after n e held.table in
        whole l.calls (length (block_of file).calls) n (length table) l.first_call (block_of file).first_call plan' _ after _ values' _
        (laid_calls file l laid) words.0 (laid_first file l laid) g
        (words.1 ∙ ap (λ (m : ℕ). padded m 0 (table_words table)) kept) h
        ∙ sym (analysed_to (analysed (all_sets file (block_of file)) table) held.table.analysis)
      where
        whole : (c c' m m' f f' : ℕ) (x x' y y' : List ℕ) (z z' : List ℤ) → c ≡ c' → m ≡ m' → f ≡ f' → x ≡ x' → y ≡ y' → z ≡ z'
            → preparing (Ok (record { calls = c; cells = m; first_call = f })) x y z
            ≡ preparing (Ok (record { calls = c'; cells = m'; first_call = f' })) x' y' z'
        whole c c' m m' f f' x x' y y' z z' p q s t u w = rw (p, q, s, t, u, w)
