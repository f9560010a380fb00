-- What is said and what a run's close prints, for both outputs: each text fits its buffer, and what is handed over is the definition's.
use Rattle.std.specs.Prelude.{Err, Ok, Result}
use mathlib.Core.Path.{◌≡◌, sym, ap, subst, subst⁻¹, ◌∙◌}
use mathlib.Core.List.{List, [], ◌∷◌}
use Prim.Native.Nat.{ℕ, ◌≤◌}
use native.Mathlib.Omega.{arith}
use lib.ListN.{length, take}
use lib.Seq.{take_all}
use Rattle.text.proofs.TextSizes.{line_fits}
use Rattle.wire.specs.Bytes.{repeated}
use Rattle.text.specs.Lines.{refused_text}
use Rattle.text.specs.Written.{Written}
use Rattle.wire.specs.Decimal.{decimal, text_line}
use Rattle.machine.specs.Run.{Run}
use Rattle.machine.specs.Answer.{refused_number}
use Rattle.machine.specs.declared.Answer.{Answer}
use Rattle.sheet.specs.Sheet.{Closed, sheet_records, sheet_of, max_sheet}
use Rattle.sheet.proofs.RecordLists.{behind_whole}
use Rattle.sheet.proofs.SheetTests.{sheet_all}
use Rattle.console.specs.Register.{closing_text}
use Rattle.console.specs.SheetBytes.{closing_bytes}
use Rattle.console.specs.Text.{sheet_text}
use Rattle.play.specs.AnswerLength.{max_answer}
use Rattle.play.specs.Printed.{max_close_text}
use Rattle.play.proofs.CloseLaws.{close_short}
use Rattle.host.specs.Exchange.{Handed}
use Rattle.host.proofs.Laws.{front, handed_as, handed_empty}
use Rattle.host.specs.declared.Exchange.{Exchange}
use Rattle.printing.specs.Printing.{printed_lines, printed_sheet, printed_close}
use Rattle.printing.specs.declared.Output.{Output}
use Rattle.printing.specs.declared.Output.TheVariants.{Text, Sheet}

-- ---- lines that are printed, or told

pub lines_told : {output : Output} {x y : Exchange} (before text : List ℕ) → output ≡ Sheet → y ≡ x → Handed before x (printed_lines output text) before y
unfolding printed_lines
lines_told {output} {x} before text e same =
    subst⁻¹ (λ (z : Exchange). Handed before x (printed_lines output text) before z) same
    (handed_as (ap (λ (o : Output). printed_lines o text) (sym e)) (handed_empty before x))

module _ {output : Output} {before after : List ℕ} {x y : Exchange} (text : List ℕ) where
  pub lines_printed : output ≡ Text → Handed before x text after y → Handed before x (printed_lines output text) after y
  unfolding printed_lines
  lines_printed e h = handed_as (ap (λ (o : Output). printed_lines o text) (sym e)) h

  pub sheet_lines_lem : output ≡ Text → Handed before x (sheet_text text) after y → Handed before x (printed_sheet output text) after y
  unfolding printed_sheet
  sheet_lines_lem e h = handed_as (ap (λ (o : Output). printed_sheet o text) (sym e)) h

  pub sheet_bytes_lem : output ≡ Sheet → Handed before x text after y → Handed before x (printed_sheet output text) after y
  unfolding printed_sheet
  sheet_bytes_lem e h = handed_as (ap (λ (o : Output). printed_sheet o text) (sym e)) h

-- ---- the close

abbrev Fits : ℕ → Result ℕ Answer → Type 0
Fits n (Ok k) = k ≤ n
Fits n (Err a) = Unit {0}

-- A written sheet is no longer than the output.
abbrev Fitting : List ℕ → Closed → Type 0
Fitting out c = Fits (length out) c.answer

sheet_fits : (r : Run) (out : List ℕ) → Fitting out (sheet_of r out)
sheet_fits r out = sheet_all (Fitting out) r out (λ a. tt) (λ b fits. omega (arith, behind_whole (sheet_records r)))

module _ (r : Run) (bytes out : List ℕ) where
  abbrev Made : Result ℕ Answer → Type 0
  Made answer = ◌≡◌ {A = Closed} (record { answer = answer; output = bytes }) (sheet_of r out)

  pub written_fits : {answer : Result ℕ Answer} → Made answer → (n : ℕ) → answer ≡ Ok n → n ≤ length out
  written_fits is n e = subst (Fits (length out)) (sym (ap (λ (c : Closed). c.answer) is) ∙ e) (sheet_fits r out)

  module _ {answer : Result ℕ Answer} (is : Made answer) (room : out ≡ repeated max_sheet 0) where
    abbrev made : Closed
    made = record { answer = answer; output = bytes }

    close_is : (f : Closed → Result ℕ Answer → List ℕ) → f made answer ≡ f (sheet_of r (repeated max_sheet 0)) (sheet_of r (repeated max_sheet 0)).answer
    close_is f = ap (λ (c : Closed). f c c.answer) is ∙ ap (λ (o : List ℕ). f (sheet_of r o) (sheet_of r o).answer) room

    written_is : (output : Output) (n : ℕ) → answer ≡ Ok n → printed_sheet output (take n bytes) ≡ printed_close output r
    unfolding printed_sheet printed_close closing_text closing_bytes
    written_is Text n e = ap (closing_text made) (sym e) ∙ close_is closing_text
    written_is Sheet n e = ap (closing_bytes made) (sym e) ∙ close_is closing_bytes

    refused_is : (output : Output) (a : Answer) → answer ≡ Err a → printed_lines output (refused_text 0 (refused_number a)) ≡ printed_close output r
    unfolding printed_lines printed_close closing_text closing_bytes
    refused_is Text a e = ap (closing_text made) (sym e) ∙ close_is closing_text
    refused_is Sheet a e = ap (closing_bytes made) (sym e) ∙ close_is closing_bytes

    -- The sheet's lines fit their buffer.
    pub lines_short : (n : ℕ) → answer ≡ Ok n → length (sheet_text (take n bytes)) ≤ max_close_text
    unfolding printed_sheet printed_close
    lines_short n e = subst⁻¹ (λ (t : List ℕ). length t ≤ max_close_text) (written_is Text n e) (close_short r)

    module _ (output : Output) {before after : List ℕ} {x y : Exchange} where
      pub closed_written : (n : ℕ) → answer ≡ Ok n → Handed before x (printed_sheet output (take n bytes)) after y
          → Handed before x (printed_close output r) after y
      closed_written n e h = handed_as (written_is output n e) h

      pub closed_refused : (a : Answer) → answer ≡ Err a → Handed before x (printed_lines output (refused_text 0 (refused_number a))) after y
          → Handed before x (printed_close output r) after y
      closed_refused a e h = handed_as (refused_is output a e) h

-- The lines of a whole sheet fit their buffer, and stand at its front.
module _ (bytes : List ℕ) {before after : List ℕ} {n : ℕ} (w : Written before after 0 n (sheet_text (take (length bytes) bytes))) where
  whole_lines : sheet_text (take (length bytes) bytes) ≡ sheet_text bytes
  whole_lines = ap sheet_text (take_all (length bytes) bytes (omega arith))

  pub lines_fit : length (sheet_text bytes) ≤ max_close_text → n ≤ max_close_text
  lines_fit short = omega (arith, w.end, ap length whole_lines)

  pub lines_front : n ≤ length before → take n after ≡ sheet_text bytes
  lines_front l = front w l ∙ whole_lines

-- A line of a letter and two numbers fits its buffer, and stands at its front.
module _ (letter a b : ℕ) {before after : List ℕ} {n : ℕ} (w : Written before after 0 n (text_line letter (decimal a ∷ decimal b ∷ []))) where
  pub line_short : n ≤ max_answer
  line_short =
      let e : length (text_line letter (decimal a ∷ decimal b ∷ [])) ≤ max_answer = line_fits letter (a ∷ b ∷ []) in omega (arith, w.end)

  pub line_front : n ≤ length before → {c d : ℕ} → a ≡ c → b ≡ d → take n after ≡ text_line letter (decimal c ∷ decimal d ∷ [])
  line_front l e f = front w l ∙ (λ i. text_line letter (decimal (e i) ∷ decimal (f i) ∷ []))
