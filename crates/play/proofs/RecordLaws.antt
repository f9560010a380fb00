-- The records of a sheet as lines, one after another, over plain variables.
use mathlib.Core.Path.{◌≡◌, refl, sym, ap, ◌∙◌}
use mathlib.Core.List.{List, [], ◌++◌}
use Prim.Native.Nat.{ℕ, suc, ◌+◌, ◌-◌, ◌≤◌, ◌<◌}
use native.Mathlib.Nat.{add-zero}
use native.Mathlib.Omega.{arith}
use borrow.Author.Tests.{eq-eqb, ne_eqb}
use lib.IntN.{ℤ}
use lib.ListN.{length, get_or, drop, length-append}
use lib.Seq.{drop-drop, get_or-drop}
use Rattle.arith.specs.Exact.{signed}
use Rattle.wire.specs.Bytes.{number, read_le, stored}
use Rattle.wire.proofs.BytesLaws.{read_lt, stored_append}
use Rattle.block.specs.Record.{head_bytes, cell_kind, receipt_kind}
use Rattle.text.specs.Lines.{cell_text, receipt_text}
use Rattle.text.specs.Written.{Written}
use Rattle.console.specs.Text.{cell_line, receipt_line, records_text, sheet_text}
use Rattle.play.specs.Printed.{lines_left, max_record_text, Turned, PrintedOne, PrintedNone}
use Rattle.play.specs.declared.Reading.{Reading}
use Rattle.play.proofs.TextLaws.{cell_short, receipt_short}

-- A record's line from its body's place in the sheet.
module _ (sheet : List ℕ) (body : ℕ) {out after : List ℕ} {from end : ℕ} where
  pub cell_put : {address field a b : ℕ} {value : ℤ} → address ≡ read_le 2 sheet body → field ≡ read_le 2 sheet (body + 2) → a ≡ read_le 4 sheet (body + 4)
      → b ≡ read_le 4 sheet (body + 8) → value ≡ signed 64 (read_le 8 sheet (body + 12)) → Written out after from end (cell_text address field a b value)
      → Written out after from end (cell_line (drop body sheet))
  cell_put e f g h i w = simp (drop-drop, ← e, ← f, ← g, ← h, ← i) w

  pub receipt_put : (call : ℕ) {outcome count : ℕ} → outcome ≡ read_le 2 sheet body → count ≡ read_le 2 sheet (body + 2)
      → Written out after from end (receipt_text call outcome count) → Written out after from end (receipt_line call (drop body sheet))
  receipt_put call e f w = simp (drop-drop, ← e, ← f) w

-- A record's length is of two bytes.
pub size_small : (sheet : List ℕ) (at : ℕ) {size : ℕ} → size ≡ read_le 2 sheet at → ((i : ℕ) → get_or sheet i 0 < 256) → size < 65536
size_small sheet at e bytes = rw e (read_lt 2 sheet bytes at)

-- One turn of the definition, by the record's kind.
module _ (turns call : ℕ) (s : List ℕ) (some : 0 < turns) where
  turn : turns ≡ suc (turns - 1)
  turn = omega arith

  records_cell : read_le 2 s 2 ≡ cell_kind → records_text turns call s ≡ cell_line (drop head_bytes s) ++ records_text (turns - 1) call (drop (number 2 s) (drop head_bytes s))
  unfolding records_text
  records_cell e = ap (λ (t : ℕ). records_text t call s) turn ∙ rw (eq-eqb (read_le 2 s 2) cell_kind e, records_text) refl

  records_receipt : read_le 2 s 2 ≡ receipt_kind
      → records_text turns call s ≡ receipt_line call (drop head_bytes s) ++ records_text (turns - 1) (call + 1) (drop (number 2 s) (drop head_bytes s))
  unfolding records_text
  records_receipt e =
      ap (λ (t : ℕ). records_text t call s) turn
      ∙ rw (ne_eqb (read_le 2 s 2) cell_kind (λ f. absurd (omega (arith, e, f))), eq-eqb (read_le 2 s 2) receipt_kind e, records_text) refl

  records_other : (read_le 2 s 2 ≡ cell_kind → ⊥) → (read_le 2 s 2 ≡ receipt_kind → ⊥) → records_text turns call s ≡ []
  unfolding records_text
  records_other e f =
      ap (λ (t : ℕ). records_text t call s) turn
      ∙ rw (ne_eqb (read_le 2 s 2) cell_kind e, ne_eqb (read_le 2 s 2) receipt_kind f, records_text) refl

-- A line more: the text that is left is that line and the rest.
more_same : {out after : List ℕ} {from end : ℕ} {text : List ℕ} (all rest : List ℕ) → all ≡ text ++ rest → Written out after from end text → stored out from all ≡ stored after end rest
more_same {out} {after} {from} {end} {text} all rest e w =
    ap (stored out from) e ∙ stored_append text rest out from
    ∙ ap (λ (s : List ℕ). stored s (from + length text) rest) (sym w.same) ∙ ap (λ (n : ℕ). stored after n rest) (sym w.end)

more_end : {out after : List ℕ} {from end : ℕ} {text : List ℕ} (all rest : List ℕ) → all ≡ text ++ rest → Written out after from end text → from + length all ≡ end + length rest
more_end {text = text} all rest e w = omega (arith, ap length e, length-append text rest, w.end)

module _ (sheet : List ℕ) (p : Reading) (out : List ℕ) {size kind : ℕ}
    (is-size : size ≡ read_le 2 sheet p.at) (is-kind : kind ≡ read_le 2 sheet (p.at + 2)) (bytes : (i : ℕ) → get_or sheet i 0 < 256) where
  here : List ℕ
  here = drop p.at sheet

  kind_here : read_le 2 here 2 ≡ kind
  unfolding here
  kind_here = ap (number 2) (drop-drop 2 p.at sheet) ∙ sym is-kind

  body_here : drop head_bytes here ≡ drop (p.at + head_bytes) sheet
  unfolding here
  body_here = drop-drop head_bytes p.at sheet

  rest_here : drop (number 2 here) (drop head_bytes here) ≡ drop (p.at + head_bytes + size) sheet
  unfolding here
  rest_here =
      ap (λ (n : ℕ). drop n (drop head_bytes here)) (sym is-size) ∙ ap (drop size) body_here ∙ drop-drop size (p.at + head_bytes) sheet

  body_bytes : (i : ℕ) → get_or (drop (p.at + head_bytes) sheet) i 0 < 256
  body_bytes i = rw (get_or-drop (p.at + head_bytes) sheet i 0) (bytes (p.at + head_bytes + i))

  turned_next : (call end : ℕ) → call ≤ p.call + 1 → end ≤ p.end + max_record_text → (gone : ℕ) → Turned gone p
      → Turned (gone + 1) (record { at = p.at + head_bytes + size; call = call; end = end })
  turned_next call end c e gone t =
      let small : size < 65536 = size_small sheet p.at is-size bytes in
      record { place = omega (arith, t.place); calls = omega (arith, t.calls); text = omega (arith, t.text) }

  pub next_cell : kind ≡ cell_kind → {end : ℕ} {after : List ℕ} → Written out after p.end end (cell_line (drop (p.at + head_bytes) sheet))
      → PrintedOne sheet p out (record { at = p.at + head_bytes + size; call = p.call; end = end }) after
  unfolding here
  next_cell k {end} {after} w =
      let body : List ℕ = drop (p.at + head_bytes) sheet in
      let e : (turns : ℕ) → 0 < turns → lines_left sheet turns p ≡ cell_line body ++ records_text (turns - 1) p.call (drop (p.at + head_bytes + size) sheet) =
      (λ turns some. records_cell turns p.call here some (kind_here ∙ k) ∙ rw (rest_here, body_here) refl) in
      let s : length (cell_line body) ≤ max_record_text = cell_short body body_bytes in
      record {
        same = λ turns some. more_same _ _ (e turns some) w;
        end = λ turns some. more_end _ _ (e turns some) w;
        turned = turned_next p.call end (omega arith) (omega (arith, w.end));
      }

  pub next_receipt : kind ≡ receipt_kind → {end : ℕ} {after : List ℕ} → Written out after p.end end (receipt_line p.call (drop (p.at + head_bytes) sheet))
      → PrintedOne sheet p out (record { at = p.at + head_bytes + size; call = p.call + 1; end = end }) after
  unfolding here
  next_receipt k {end} {after} w =
      let body : List ℕ = drop (p.at + head_bytes) sheet in
      let e : (turns : ℕ) → 0 < turns → lines_left sheet turns p ≡ receipt_line p.call body ++ records_text (turns - 1) (p.call + 1) (drop (p.at + head_bytes + size) sheet) =
      (λ turns some. records_receipt turns p.call here some (kind_here ∙ k) ∙ rw (rest_here, body_here) refl) in
      let s : length (receipt_line p.call body) ≤ max_record_text = receipt_short body body_bytes p.call in
      record {
        same = λ turns some. more_same _ _ (e turns some) w;
        end = λ turns some. more_end _ _ (e turns some) w;
        turned = turned_next (p.call + 1) end (omega arith) (omega (arith, w.end));
      }

  pub next_other : (kind ≡ cell_kind → ⊥) → (kind ≡ receipt_kind → ⊥) → PrintedNone sheet p out out
  unfolding here
  next_other k l =
      record { same = refl; none = λ turns some. records_other turns p.call here some (λ f. k (sym kind_here ∙ f)) (λ f. l (sym kind_here ∙ f)) }

-- The lines that are written after so many turns, and those that are left.
pub record Printing (sheet start : List ℕ) (gone : ℕ) (p : Reading) (out : List ℕ) : Type 0 where
  pub same : stored start 0 (sheet_text sheet) ≡ stored out p.end (lines_left sheet (length sheet - gone) p)
  pub end : 0 + length (sheet_text sheet) ≡ p.end + length (lines_left sheet (length sheet - gone) p)
  pub turned : Turned gone p

module _ {sheet start : List ℕ} {gone : ℕ} {p : Reading} {out : List ℕ} (g : Printing sheet start gone p out) where
  pub printing_on : gone < length sheet → {q : Reading} {after : List ℕ} → PrintedOne sheet p out q after → Printing sheet start (gone + 1) q after
  printing_on l {q} {after} h =
      let some : 0 < length sheet - gone = omega arith in
      let e : length sheet - gone - 1 ≡ length sheet - (gone + 1) = omega arith in
      record {
        same = g.same ∙ h.same (length sheet - gone) some ∙ ap (λ (n : ℕ). stored after q.end (lines_left sheet n q)) e;
        end = g.end ∙ h.end (length sheet - gone) some ∙ ap (λ (n : ℕ). q.end + length (lines_left sheet n q)) e;
        turned = h.turned gone g.turned;
      }

  -- Where no line is left, all are written.
  written_all : lines_left sheet (length sheet - gone) p ≡ [] → Written start out 0 p.end (sheet_text sheet)
  unfolding stored
  written_all none =
      record {
        same = sym (g.same ∙ ap (stored out p.end) none);
        end = sym (g.end ∙ ap (λ (t : List ℕ). p.end + length t) none ∙ add-zero p.end);
      }

  pub printing_stop : gone < length sheet → {after : List ℕ} → PrintedNone sheet p out after → Written start after 0 p.end (sheet_text sheet)
  printing_stop l h =
      let some : 0 < length sheet - gone = omega arith in
      rw h.same (written_all (h.none (length sheet - gone) some))

  pub printing_end : length sheet ≤ gone → Written start out 0 p.end (sheet_text sheet)
  unfolding records_text
  printing_end l = let z : length sheet - gone ≡ 0 = omega arith in written_all (ap (λ (n : ℕ). lines_left sheet n p) z)
