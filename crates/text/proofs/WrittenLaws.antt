-- Laws of a text that grows from a position of a buffer: a part more, a letter, a line's end.
use mathlib.Core.Path.{◌≡◌, refl, sym, ap, ◌∙◌}
use mathlib.Core.List.{List, [], ◌∷◌, ◌++◌, append_assoc, append-nil}
use Prim.Native.Nat.{ℕ, ◌+◌}
use native.Mathlib.Omega.{arith}
use lib.ListN.{length, set, length-append}
use Rattle.wire.specs.Bytes.{stored}
use Rattle.wire.specs.Decimal.{line_feed, space, parts, text_line}
use Rattle.wire.proofs.BytesLaws.{stored_append}
use Rattle.text.specs.Written.{Written, spaced}

-- A further part.
pub written_more : (before after next : List ℕ) (from at end : ℕ) (text part : List ℕ) → Written before after from at text
    → (next ≡ stored after at part) × (end ≡ at + length part) → Written before next from end (text ++ part)
written_more before after next from at end text part w e =
    record {
      same =
          e.0 ∙ ap (λ (s : List ℕ). stored s at part) w.same
          ∙ ap (λ (n : ℕ). stored (stored before from text) n part) w.end
          ∙ sym (stored_append text part before from);
      end = omega (arith, e.1, w.end, length-append text part);
    }

pub spaced_line : (ps : List (List ℕ)) → parts ps ≡ spaced ps ++ (line_feed ∷ [])
unfolding parts spaced
spaced_line [] = refl
spaced_line (p ∷ ps) =
    ap (λ (t : List ℕ). space ∷ p ++ t) (spaced_line ps) ∙ ap (λ (t : List ℕ). space ∷ t) (sym (append_assoc p (spaced ps) (line_feed ∷ [])))

pub spaced_more : (ps qs : List (List ℕ)) → spaced (ps ++ qs) ≡ spaced ps ++ spaced qs
unfolding spaced
spaced_more [] qs = refl
spaced_more (p ∷ ps) qs =
    ap (λ (t : List ℕ). space ∷ p ++ t) (spaced_more ps qs) ∙ ap (λ (t : List ℕ). space ∷ t) (sym (append_assoc p (spaced ps) (spaced qs)))

-- A line's letter, each of its parts, and its end.
module _ (before : List ℕ) (letter from : ℕ) where
  pub written_letter : (after : List ℕ) → after ≡ set before from letter → Written before after from (from + 1) (letter ∷ spaced [])
  unfolding spaced stored
  written_letter after e = record { same = e; end = refl }

  module _ (after next : List ℕ) (at end : ℕ) (ps : List (List ℕ)) (w : Written before after from at (letter ∷ spaced ps)) where
    pub written_parts : (qs : List (List ℕ)) → (next ≡ stored after at (spaced qs)) × (end ≡ at + length (spaced qs))
        → Written before next from end (letter ∷ spaced (ps ++ qs))
    written_parts qs e =
        rw (spaced_more ps qs) (written_more before after next from at end (letter ∷ spaced ps) (spaced qs) w e)

    pub written_part : (p : List ℕ) → (next ≡ stored after at (space ∷ p)) × (end ≡ at + length (space ∷ p))
        → Written before next from end (letter ∷ spaced (ps ++ (p ∷ [])))
    unfolding spaced
    written_part p e = written_parts (p ∷ []) (rw (append-nil p) e)

    pub written_end : (next ≡ stored after at (line_feed ∷ [])) × (end ≡ at + length (line_feed ∷ []))
        → Written before next from end (text_line letter ps)
    written_end e = rw (spaced_line ps) (written_more before after next from at end (letter ∷ spaced ps) (line_feed ∷ []) w e)
