-- The code of a function as its file has it: the rule's body and the sets take their instructions from the stretch, a step takes
-- them from the file, and these are the same valid instructions, each covered by the sets.
use Rattle.std.specs.Prelude.{None, Option, Some, slice_get}
use mathlib.Core.Path.{◌≡◌, refl, sym, ap, ◌∙◌}
use mathlib.Core.Bool.{Bool, true, false, false≢true}
use mathlib.Core.List.{List, [], ◌∷◌}
use Prim.Native.Nat.{ℕ, zero, suc, ◌+◌, ◌*◌, ◌<◌}
use native.Mathlib.Nat.{not-suc-le-zero, le_of_suc-le-suc, zero-add}
use native.Mathlib.Omega.{arith}
use lib.ListN.{length, get_or, drop}
use lib.Seq.{get_or-drop, get_or-take, drop-drop}
use Rattle.wire.specs.Bytes.{number}
use Rattle.wire.proofs.BytesLaws.{read_same}
use Rattle.block.specs.Instruction.{instr_bytes, decode, is_valid, first_invalid}
use Rattle.block.specs.Record.{Function, code_at}
use Rattle.block.proofs.ReaderLaws.{FunctionSound}
use Rattle.block.specs.declared.Instr.{Instr}
use Rattle.rule.specs.Rule.{with_instr, body_of}
use Rattle.machine.specs.CallInRun.{InstrOf}

-- ---- the same bytes are the same instruction

-- Two lists agree in their first n bytes.
abbrev Agree : ℕ → List ℕ → List ℕ → Type 0
Agree n s t = (i : ℕ) → i < n → get_or s i 0 ≡ get_or t i 0

agree_drop : (n m : ℕ) (s t : List ℕ) → Agree (n + m) s t → Agree m (drop n s) (drop n t)
agree_drop n m s t h i l = get_or-drop n s i 0 ∙ h (n + i) (omega arith) ∙ sym (get_or-drop n t i 0)

decode_same : (size : ℕ) (s t : List ℕ) → Agree 8 s t → decode size s ≡ decode size t
decode_same size s t h =
    let op : number 1 s ≡ number 1 t = read_same 1 s t 0 (λ i l r. h i (omega arith)) in
    let x : number 1 (drop 1 s) ≡ number 1 (drop 1 t) = read_same 1 s t 1 (λ i l r. h i (omega arith)) in
    let y : number 1 (drop 2 s) ≡ number 1 (drop 2 t) = read_same 1 s t 2 (λ i l r. h i (omega arith)) in
    let z : number 1 (drop 3 s) ≡ number 1 (drop 3 t) = read_same 1 s t 3 (λ i l r. h i (omega arith)) in
    let w : number 4 (drop 4 s) ≡ number 4 (drop 4 t) = read_same 4 s t 4 (λ i l r. h i (omega arith)) in
    rw (op, x, y, z, w)

-- ---- the instruction at an index

-- The instruction at index p of a valid code, as its bytes s and the rule's body have it.
record InstrAt (size : ℕ) (s : List ℕ) (p : ℕ) (body : List Instr) : Type 0 where
  instr : Instr
  decoded : decode size (drop (instr_bytes * p) s) ≡ Some instr
  listed : slice_get body p ≡ Some instr

valid_instr : (d : Option Instr) → is_valid d ≡ true → (i : Instr) × (d ≡ Some i)
valid_instr (Some i) e = (i, refl)
valid_instr None e = absurd (false≢true e)

-- A code with no invalid instruction has a valid one, and then such a code again.
valid_first : (left index size : ℕ) (s : List ℕ) → first_invalid (suc left) index size s ≡ index + suc left
    → (is_valid (decode size s) ≡ true) × (first_invalid left (index + 1) size (drop instr_bytes s) ≡ index + 1 + left)
unfolding first_invalid
valid_first left index size s h = go (is_valid (decode size s)) refl
  where
    go : (t : Bool) → is_valid (decode size s) ≡ t
        → (is_valid (decode size s) ≡ true) × (first_invalid left (index + 1) size (drop instr_bytes s) ≡ index + 1 + left)
    go true e = let f : first_invalid left (index + 1) size (drop instr_bytes s) ≡ index + suc left = rw (e, first_invalid) at h in (e, omega arith)
    go false e = let f : index ≡ index + suc left = rw (e, first_invalid) at h in absurd (omega arith)

body_first : (d : Option Instr) (i : Instr) (rest : List Instr) → d ≡ Some i → with_instr d rest ≡ i ∷ rest
unfolding with_instr
body_first d i rest e = rw e

-- The rule's body from bytes t that are those of s as far as the code goes.
instr_at : (left index size : ℕ) (s t : List ℕ) → first_invalid left index size s ≡ index + left → Agree (instr_bytes * left) t s
    → (p : ℕ) → p < left → InstrAt size s p (body_of left size t)
unfolding body_of
instr_at zero index size s t ok same p l = absurd (not-suc-le-zero l)
instr_at (suc left) index size s t ok same zero l =
    let first = valid_instr (decode size s) (valid_first left index size s ok).0 in
    let again : decode size t ≡ Some first.0 = decode_same size t s (λ i h. same i (omega arith)) ∙ first.1 in
    record {
      instr = first.0;
      decoded = first.1;
      listed = ap (λ (b : List Instr). slice_get b 0) (body_first (decode size t) first.0 (body_of left size (drop instr_bytes t)) again);
    }
instr_at (suc left) index size s t ok same (suc p) l =
    let all = valid_first left index size s ok in
    let first = valid_instr (decode size s) all.0 in
    let again : decode size t ≡ Some first.0 = decode_same size t s (λ i h. same i (omega arith)) ∙ first.1 in
    let rest : InstrAt size (drop instr_bytes s) p (body_of left size (drop instr_bytes t)) =
    instr_at left (index + 1) size (drop instr_bytes s) (drop instr_bytes t) all.1
    (agree_drop instr_bytes (instr_bytes * left) t s (λ i h. same i (omega arith))) p (le_of_suc-le-suc l) in
    let far : 8 * suc p ≡ 8 + 8 * p = omega arith in
    record {
      instr = rest.instr;
      decoded =
          ap (λ (r : List ℕ). decode size r) (ap (λ (n : ℕ). drop n s) far ∙ sym (drop-drop (8 * p) 8 s))
          ∙ rest.decoded;
      listed =
          ap (λ (b : List Instr). slice_get b (suc p)) (body_first (decode size t) first.0 (body_of left size (drop instr_bytes t)) again)
          ∙ rest.listed;
    }

-- The body has all of them.
body_length : (left index size : ℕ) (s t : List ℕ) → first_invalid left index size s ≡ index + left → Agree (instr_bytes * left) t s
    → length (body_of left size t) ≡ left
unfolding body_of
body_length zero index size s t ok same = refl
body_length (suc left) index size s t ok same =
    let all = valid_first left index size s ok in
    let first = valid_instr (decode size s) all.0 in
    let again : decode size t ≡ Some first.0 = decode_same size t s (λ i h. same i (omega arith)) ∙ first.1 in
    ap length (body_first (decode size t) first.0 (body_of left size (drop instr_bytes t)) again)
    ∙ ap suc (body_length left (index + 1) size (drop instr_bytes s) (drop instr_bytes t) all.1
    (agree_drop instr_bytes (instr_bytes * left) t s (λ i h. same i (omega arith))))

past_end : {A : Type 0} (l : List A) (n : ℕ) → length l ≡ n → slice_get l n ≡ None
past_end [] n e = refl
past_end (a ∷ l) zero e = absurd (omega arith)
past_end (a ∷ l) (suc n) e = past_end l n (omega arith)

module _ (file : List ℕ) (f : Function) where
  stretch_agrees : Agree (instr_bytes * f.size) (code_at file f.start f.size) (drop f.start file)
  stretch_agrees i l = get_or-take (instr_bytes * f.size) (drop f.start file) i 0 l

  pub stretch_decode : (p : ℕ) → p < f.size
      → decode f.size (drop (instr_bytes * p) (code_at file f.start f.size)) ≡ decode f.size (drop (f.start + instr_bytes * p) file)
  stretch_decode p l =
      decode_same f.size (drop (instr_bytes * p) (code_at file f.start f.size)) (drop (instr_bytes * p) (drop f.start file))
      (agree_drop (instr_bytes * p) 8 (code_at file f.start f.size) (drop f.start file) (λ i h. stretch_agrees i (omega arith)))
      ∙ ap (λ (r : List ℕ). decode f.size r) (drop-drop (instr_bytes * p) f.start file)

  module _ (sound : FunctionSound file f) where
    pub instr_of : (p : ℕ) → p < f.size → InstrOf file f p
    instr_of p l =
        let here : InstrAt f.size (drop f.start file) p (body_of f.size f.size (code_at file f.start f.size)) =
        instr_at f.size 0 f.size (drop f.start file) (code_at file f.start f.size) (sound.valid ∙ sym (zero-add f.size)) stretch_agrees p l in
        record {
          instr = here.instr;
          decoded =
              ap (λ (r : List ℕ). decode f.size r) (sym (drop-drop (instr_bytes * p) f.start file))
              ∙ here.decoded;
          listed = here.listed;
        }

    pub function_body_length : length (body_of f.size f.size (code_at file f.start f.size)) ≡ f.size
    function_body_length =
        body_length f.size 0 f.size (drop f.start file) (code_at file f.start f.size) (sound.valid ∙ sym (zero-add f.size)) stretch_agrees

    -- Behind the last there is none.
    pub function_end : slice_get (body_of f.size f.size (code_at file f.start f.size)) f.size ≡ None
    function_end = past_end (body_of f.size f.size (code_at file f.start f.size)) f.size function_body_length
