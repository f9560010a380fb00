-- What is handed over, text behind text, and kept in the transcript.
use mathlib.Core.Path.{◌≡◌, refl, sym, ap, subst, ◌∙◌}
use mathlib.Core.Bool.{Bool, true, false, true≢false}
use mathlib.Core.List.{List, [], ◌∷◌, ◌++◌, append_assoc, append-nil}
use Prim.Native.Nat.{ℕ, ◌+◌, ◌-◌, ◌≤◌, ◌<◌}
use native.Mathlib.Nat.{add-zero, zero-add}
use native.Mathlib.Omega.{arith}
use lib.ListN.{length, take, drop, take-append-drop, length-append, length-drop}
use lib.Seq.{take-append_seam, length-take-le}
use borrow.Rule.Slice.PartMut.{post_of, put_mid, Post-is}
use Rattle.wire.specs.Bytes.{stored}
use Rattle.wire.proofs.BytesLaws.{stored_append, stored_length, stored_past, stored_inside}
use Rattle.host.specs.Exchange.{Handed}
use Rattle.host.specs.declared.Exchange.{Exchange}
use Rattle.text.specs.Written.{Written}

-- ---- a text stored as far as it fits

rest_past : (rest s : List ℕ) (at : ℕ) → (0 < length rest → length s ≤ at) → stored s at rest ≡ s
unfolding stored
rest_past [] s at h = refl
rest_past (b ∷ bs) s at h = stored_past (b ∷ bs) s at (h (omega arith))

-- The first n bytes of a text take the place of as many; the others, if there are any, lie past the transcript's end.
pub stored_part : (before text : List ℕ) (from n : ℕ) → n ≤ length text → from + n ≤ length before → (n < length text → length before ≤ from + n)
    → put_mid from ((from + n) - from) before (take n text) ≡ stored before from text
stored_part before text from n short room past =
    let size : length (take n text) ≡ n = length-take-le n text short in
    let left : length (drop n text) ≡ length text - n = length-drop n text in
    let same : length (stored before from (take n text)) ≡ length before = stored_length (take n text) before from in
    let behind : post_of from ((from + n) - from) before ≡ drop (from + length (take n text)) before =
    Post-is from (from + n) before (omega arith) ∙ ap (λ (k : ℕ). drop (from + k) before) (sym size) in
    ap (λ (l : List ℕ). take from before ++ (take n text ++ l)) behind
    ∙ sym (append_assoc (take from before) (take n text) (drop (from + length (take n text)) before))
    ∙ sym (stored_inside (take n text) before from (omega arith))
    ∙ sym (rest_past (drop n text) (stored before from (take n text)) (from + length (take n text)) (λ h. omega (arith, past (omega arith))))
    ∙ sym (stored_append (take n text) (drop n text) before from)
    ∙ ap (stored before from) (take-append-drop n text)

-- ---- a text at the front of a buffer

pub front : {before after : List ℕ} {n : ℕ} {text : List ℕ} → Written before after 0 n text → n ≤ length before → take n after ≡ text
front {before} {after} {n} {text} w l =
    let e : n ≡ length text = w.end ∙ zero-add (length text) in
    let f : 0 + length text ≤ length before = omega (arith, e) in
    ap (λ (m : ℕ). take m after) e ∙ ap (take (length text)) (w.same ∙ stored_inside text before 0 f)
    ∙ take-append_seam text (drop (0 + length text) before)

-- ---- a text handed over

module _ (before text : List ℕ) (x y : Exchange) where
  -- Nothing of it: a failure, now or before.
  pub handed_none : y.ok ≡ false → y.sent ≡ x.sent → Handed before x text before y
  unfolding stored
  handed_none e s =
      record {
        handed = [];
        rest = text;
        parts = refl;
        kept = record { same = refl; end = s ∙ sym (add-zero x.sent) };
        whole = λ h. absurd (true≢false (sym h ∙ e));
        still = λ h. absurd (true≢false (sym h ∙ e));
        nothing = λ h. refl;
      }

-- The same text, said otherwise.
pub handed_as : {before text same after : List ℕ} {x y : Exchange} → text ≡ same → Handed before x text after y → Handed before x same after y
handed_as {before} {after = after} {x} {y} e h = subst (λ (t : List ℕ). Handed before x t after y) e h

-- No text at all.
pub handed_empty : (before : List ℕ) (x : Exchange) → Handed before x [] before x
unfolding stored
handed_empty before x =
    record {
      handed = [];
      rest = [];
      parts = refl;
      kept = record { same = refl; end = sym (add-zero x.sent) };
      whole = λ h. refl;
      still = λ h. h;
      nothing = λ h. refl;
    }

-- One text behind another.
module _ {before after last text more : List ℕ} {x y z : Exchange} (a : Handed before x text after y) (b : Handed after y more last z) where
  both : Written before last x.sent z.sent (a.handed ++ b.handed)
  both =
      record {
        same =
            b.kept.same
            ∙ ap (λ (n : ℕ). stored after n b.handed) a.kept.end
            ∙ ap (λ (s : List ℕ). stored s (x.sent + length a.handed) b.handed) a.kept.same
            ∙ sym (stored_append a.handed b.handed before x.sent);
        end = omega (arith, a.kept.end, b.kept.end, length-append a.handed b.handed);
      }

  later : (t : Bool) → y.ok ≡ t → text ++ more ≡ (a.handed ++ b.handed) ++ (a.rest ++ b.rest)
  later true e =
      let r : a.rest ≡ [] = a.whole e in
      ap (λ (s : List ℕ). s ++ more) a.parts ∙ rw (r, append-nil) (ap (λ (s : List ℕ). a.handed ++ s) b.parts ∙ sym (append_assoc a.handed b.handed b.rest))
  later false e =
      let n : b.handed ≡ [] = b.nothing e in
      let m : more ≡ b.rest = b.parts ∙ ap (λ (s : List ℕ). s ++ b.rest) n in
      ap (λ (s : List ℕ). s ++ more) a.parts ∙ append_assoc a.handed a.rest more ∙ rw (n, append-nil) (ap (λ (s : List ℕ). a.handed ++ (a.rest ++ s)) m)

  pub handed_more : Handed before x (text ++ more) last z
  handed_more =
      record {
        handed = a.handed ++ b.handed;
        rest = a.rest ++ b.rest;
        parts = later y.ok refl;
        kept = both;
        whole = λ h. let r : a.rest ≡ [] = a.whole (b.still h) in rw r (b.whole h);
        still = λ h. a.still (b.still h);
        nothing = λ h. let n : a.handed ≡ [] = a.nothing h in rw n (b.nothing (gone y.ok refl h));
      }
    where
      gone : (t : Bool) → y.ok ≡ t → x.ok ≡ false → y.ok ≡ false
      gone true e h = absurd (true≢false (sym (a.still e) ∙ h))
      gone false e h = e
