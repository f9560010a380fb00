-- What the analysis answered tells of the table in the buffer.
use Rattle.std.specs.Prelude.{Err, Ok}
use mathlib.Core.Path.{◌≡◌, refl, sym, ap, ap₂, ◌∙◌, subst}
use mathlib.Core.List.{List}
use Prim.Native.Nat.{ℕ, ◌*◌, ◌≤◌}
use lib.ListN.{length}
use Rattle.wire.specs.Bytes.{padded}
use Rattle.block.specs.Limits.{max_keys}
use Rattle.block.specs.Reader.{accepted, read_block}
use Rattle.block.specs.declared.Refusal.{Refusal}
use Rattle.footprint.specs.Plan.{table_words}
use Rattle.footprint.specs.Table.{Analysis, analysed, refused}
use Rattle.analysis.specs.Collected.{CollectedAs}
use Rattle.footprint.specs.KeyWords.{keys_in}
use Rattle.analysis.specs.KeyTable.{Tabled}
use Rattle.footprint.specs.BlockSets.{TableOf, analysis_of}
use Rattle.block.specs.BlockOfFile.{block_of}
use Rattle.footprint.proofs.TableWordLaws.{keys_padded}
use Rattle.analysis.proofs.TableWords.{tabled}
use Rattle.footprint.proofs.AnalysedLaws.{Complete, analysed_complete}

-- ---- the analysis as it was answered

-- The table in the buffer of an accepted block.
pub record Holding (file : List ℕ) (n : ℕ) (keys : List ℕ) : Type 0 where
  pub table : TableOf file (keys_in n keys)
  pub tabled : Tabled n keys

module _ (file : List ℕ) (room : ℕ) (keys : List ℕ) where
  pub collected_table : (n : ℕ) → CollectedAs room (Ok n) keys (analysis_of file (block_of file)) → read_block file ≡ accepted (block_of file)
      → 2 * max_keys ≤ room → Holding file n keys
  unfolding CollectedAs
  collected_table n e read space = go (analysis_of file (block_of file)) refl e
    where
      go : (a : Analysis) → analysis_of file (block_of file) ≡ a → CollectedAs room (Ok n) keys a → Holding file n keys
      go (refused why) f g = absurd g
      go (analysed sets table) f g =
          let whole : Complete file (block_of file) sets table = analysed_complete file (block_of file) sets table read f in
          let same : table ≡ keys_in n keys = sym (ap₂ keys_in g.0 g.1 ∙ keys_padded room table) in
          record {
            table =
                record {
                  read = read;
                  analysis = f ∙ ap₂ analysed whole.all same;
                };
            tabled = rw (g.0, g.1) (tabled table room whole.rising whole.few space);
          }

  -- Its words are those of the table that the analysis tells.
  pub collected_words : (n : ℕ) → CollectedAs room (Ok n) keys (analysis_of file (block_of file)) → TableOf file (keys_in n keys)
      → (n ≡ length (keys_in n keys)) × (keys ≡ padded room 0 (table_words (keys_in n keys)))
  unfolding CollectedAs
  collected_words n e t = subst (CollectedAs room (Ok n) keys) t.analysis e

  pub collected_refused : (why : Refusal) → CollectedAs room (Err why) keys (analysis_of file (block_of file)) → analysis_of file (block_of file) ≡ refused why
  unfolding CollectedAs
  collected_refused why e = go (analysis_of file (block_of file)) refl e
    where
      go : (a : Analysis) → analysis_of file (block_of file) ≡ a → CollectedAs room (Err why) keys a → analysis_of file (block_of file) ≡ refused why
      go (refused told) f g = f ∙ ap refused (sym g)
      go (analysed sets table) f g = absurd g
