-- Laws of the table in its buffer, and of the buffer after an insertion.
use mathlib.Core.Path.{◌≡◌, refl, sym, ap₂}
use mathlib.Core.Bool.{Bool, true, false}
use mathlib.Core.List.{List}
use Prim.Native.Nat.{ℕ, ◌-◌, ◌*◌, ◌≤◌, ◌<◌}
use native.Mathlib.Omega.{arith}
use borrow.Author.Tests.{leb-true, le-leb, lt-leb}
use lib.Dec.{leb}
use lib.ListN.{length}
use Rattle.std.specs.Prelude.{if◌then◌else◌}
use Rattle.wire.specs.Bytes.{repeated, padded}
use Rattle.wire.proofs.BytesLaws.{padded_length}
use Rattle.block.specs.Limits.{max_keys}
use Rattle.footprint.specs.Table.{insert_key}
use Rattle.footprint.specs.Plan.{table_words}
use Rattle.footprint.specs.KeyWords.{keys_in, RisingKeys}
use Rattle.analysis.specs.KeyTable.{inserted_in, Sorted, Tabled}
use Rattle.footprint.proofs.TableLaws.{rising_insert}
use Rattle.footprint.proofs.TableWordLaws.{words_length, words_low, keys_length, keys_padded}

-- ---- tables in buffers

-- A rising table of at most 1,024 keys in a buffer with room for as many.
pub tabled : (t : List ℕ) (m : ℕ) → RisingKeys t → length t ≤ max_keys → 2 * max_keys ≤ m → Tabled (length t) (padded m 0 (table_words t))
tabled t m r few room =
    let fits : length (table_words t) ≤ m = rw (words_length t) (omega arith) in
    record {
      few = few;
      room = rw (padded_length m 0 (table_words t) fits) room;
      rising = rw (keys_padded m t) r;
      same = sym (ap₂ (λ (a : ℕ) (s : List ℕ). padded a 0 (table_words s)) (padded_length m 0 (table_words t) fits) (keys_padded m t));
    }

-- A table can be searched.
pub tabled_sorted : (n : ℕ) (ws : List ℕ) → Tabled n ws → Sorted n ws
tabled_sorted n ws h =
    record {
      few = h.few;
      room = let few : n ≤ max_keys = h.few in let room : 2 * max_keys ≤ length ws = h.room in omega arith;
      lows = λ i w. rw h.same (words_low (keys_in n ws) (repeated (length ws - length (table_words (keys_in n ws))) 0) i (rw (keys_length n ws) w));
      rising = h.rising;
    }

-- ---- the buffer after an insertion

module _ (n : ℕ) (ws : List ℕ) (k : ℕ) where
  abbrev next : List ℕ
  next = insert_key (keys_in n ws) k

  -- Where the new table has at most 1,024 keys the buffer holds it, and else the buffer is as it was.
  pub inserted_fits : length next ≤ max_keys → inserted_in n ws k ≡ padded (length ws) 0 (table_words next)
  unfolding inserted_in
  inserted_fits few = rw (le-leb (length next) max_keys few)

  pub inserted_full : max_keys < length next → inserted_in n ws k ≡ ws
  unfolding inserted_in
  inserted_full many = rw (lt-leb (length next) max_keys many)

  pub inserted_tabled : Tabled n ws → length next ≤ max_keys → Tabled (length next) (inserted_in n ws k)
  inserted_tabled h few =
      rw (inserted_fits few) (tabled next (length ws) (rising_insert (keys_in n ws) k h.rising) few h.room)

  pub inserted_keys : length next ≤ max_keys → keys_in (length next) (inserted_in n ws k) ≡ next
  inserted_keys few = rw (inserted_fits few) (keys_padded (length ws) next)

  pub inserted_length : Tabled n ws → length (inserted_in n ws k) ≡ length ws
  unfolding inserted_in
  inserted_length h = go (leb (length next) max_keys) refl
    where
      go : (b : Bool) → leb (length next) max_keys ≡ b → length (if b then padded (length ws) 0 (table_words next) else ws) ≡ length ws
      go true e =
          let few : length next ≤ max_keys = leb-true (length next) max_keys e in
          let room : 2 * max_keys ≤ length ws = h.room in
          padded_length (length ws) 0 (table_words next) (rw (words_length next) (omega arith))
      go false e = refl
