-- The mathematics of the proofs of `step` up to what a place comes to, over plain variables: the entry, the instruction in the block, the
-- fuel and the place that decide, and what is due there.
use mathlib.Core.Path.{◌≡◌, sym, ap, ◌∙◌}
use mathlib.Core.List.{List, []}
use Prim.Native.Nat.{ℕ, ◌+◌, ◌-◌, ◌*◌, ◌≤◌, ◌<◌}
use native.Mathlib.Omega.{arith}
use borrow.Author.Tests.{eq-eqb, ne_eqb, le-leb, le-ltb}
use lib.IntN.{ℤ}
use lib.ListN.{length, get_or, drop}
use lib.Seq.{get_or-take, get_or-drop}
use Rattle.wire.specs.Bytes.{read_le}
use Rattle.wire.proofs.BytesLaws.{read_same}
use Rattle.block.specs.Instruction.{decode, instr_bytes}
use Rattle.block.specs.Limits.{max_code}
use Rattle.block.specs.Record.{code_at}
use Rattle.block.specs.declared.Call.{Call}
use Rattle.block.specs.declared.Instr.{Instr}
use Rattle.footprint.specs.Access.{Access, accesses, entry_accesses}
use Rattle.key_uses.specs.Uses.{uses_of}
use Rattle.key_uses.specs.declared.Uses.{Uses}
use Rattle.machine.specs.Action.{entry_action, instr_action}
use Rattle.block.specs.Outcomes.{ended}
use Rattle.machine.specs.Run.{plan_word}
use Rattle.machine.specs.Step.{Performed, perform, step_body, step_decoded, step_entry, step_instr, step_place}
use Rattle.machine.specs.declared.Action.{Action}
use Rattle.action.specs.Acted.{acted_of, action_of}
use Rattle.moves.specs.Turn.{cell_view, due_done, end_due, view_in, DueDoable, Payable, KeyWorded}
use Rattle.action.specs.declared.Acted.{Acted}
use Rattle.moves.specs.declared.Due.{Due}
use Rattle.std.specs.Prelude.{Option, Some}
use Rattle.moves.proofs.ViewCodeLaws.{NextHasAccesses, entry_fits, first_worded, fitting_payable, instr_fits, perform_held, second_worded}

-- ---- what an action asks for

module _ (as' : List Access) {us : Uses} (uses : us ≡ uses_of as') where
  pub worded_first : KeyWorded us.first
  worded_first = rw uses (first_worded as')

  pub worded_second : KeyWorded us.second
  worded_second = rw uses (second_worded as')

pub entry_payable : (call : Call) (regs : List ℤ) {a : Action} → a ≡ entry_action call regs → Payable a.next
entry_payable call regs e = rw e (fitting_payable (entry_action call regs).next (entry_accesses call) (entry_fits call regs))

-- What was decoded decides the action.
module _ (call : Call) (place : ℕ) (regs : List ℤ) (d : Option Instr) {acted : Acted} (known : acted ≡ acted_of call (place - 1 + 1) regs d) (i : Instr) (valid : acted.decoded ≡ Some i) where
  pub acted_decoded : d ≡ Some i
  acted_decoded = sym (ap (λ (x : Acted). x.decoded) known) ∙ valid

  pub acted_action : 0 < place → acted.action ≡ instr_action call place regs i
  unfolding action_of
  acted_action some =
      let here : place - 1 + 1 ≡ place = omega arith in
      ap (λ (x : Acted). x.action) known ∙ ap (action_of call (place - 1 + 1) regs) acted_decoded ∙ ap (λ (p : ℕ). instr_action call p regs i) here

  pub acted_payable : 0 < place → Payable acted.action.next
  acted_payable some = rw (acted_action some) (fitting_payable (instr_action call place regs i).next (accesses call i) (instr_fits call place regs i))

-- ---- an instruction in its code

-- The eight bytes of an instruction are the same in the code and in the block.
module _ (block : List ℕ) (start size index : ℕ) (inside : index < size) where
  abbrev in_code : List ℕ
  in_code = drop (instr_bytes * index) (code_at block start size)

  abbrev in_block : List ℕ
  in_block = drop (start + instr_bytes * index) block

  same_byte : (k : ℕ) → k < 8 → get_or in_code k 0 ≡ get_or in_block k 0
  same_byte k h =
      let place : start + (instr_bytes * index + k) ≡ start + instr_bytes * index + k = omega arith in
      get_or-drop (instr_bytes * index) (code_at block start size) k 0
      ∙ get_or-take (instr_bytes * size) (drop start block) (instr_bytes * index + k) 0 (omega arith)
      ∙ get_or-drop start block (instr_bytes * index + k) 0
      ∙ ap (λ (n : ℕ). get_or block n 0) place
      ∙ sym (get_or-drop (start + instr_bytes * index) block k 0)

  same_read : (k at : ℕ) → at + k ≤ 8 → read_le k in_code at ≡ read_le k in_block at
  same_read k at h = read_same k in_code in_block at (λ i low high. same_byte i (omega arith))

  pub decode_in_code : decode size in_code ≡ decode size in_block
  decode_in_code =
      rw (same_read 1 0 (omega arith), same_read 1 1 (omega arith), same_read 1 2 (omega arith), same_read 1 3 (omega arith), same_read 4 4 (omega arith))

-- ---- what is due at a place

-- An end can be done.
pub end_doable : {place outcome count : ℕ} {d : Due} → d ≡ end_due outcome count → place ≤ max_code + 1 → DueDoable place (Some d)
end_doable e early = rw e (record { early = early; first = first_worded []; second = second_worded []; payable = tt })

module _ (block plan keys : List ℕ) (c : ℕ) (call : Call) (place : ℕ) (regs cells : List ℤ) where
  abbrev done_at : Option Due → Performed
  done_at d = due_done (cell_view plan keys c) place d cells

  -- An action that the code has stands for the definition's.
  acted_stands : (count' : ℕ) (as' : List Access) (wanted : Action) → NextHasAccesses wanted.next as' → {us : Uses} {a : Action} → us ≡ uses_of as' → a ≡ wanted
      → done_at (Some (record { count = count'; uses = us; action = a })) ≡ perform (view_in block plan keys c call) place count' as' wanted.regs wanted.next cells
  acted_stands count' as' wanted fits u e =
      rw (u, e, perform_held place count' wanted.regs cells block plan keys c call as' wanted.next fits)

  pub entry_known : {code : ℕ} → code ≡ plan_word plan c 1 → (code ≡ 0 → ⊥) → {us : Uses} {a : Action} → us ≡ uses_of (entry_accesses call) → a ≡ entry_action call regs
      → done_at (Some (record { count = 0; uses = us; action = a })) ≡ step_entry (view_in block plan keys c call) place regs cells
  unfolding step_entry
  entry_known w n u e =
      rw (ne_eqb (plan_word plan c 1) 0 (λ z. n (w ∙ z)))
      (acted_stands 0 (entry_accesses call) (entry_action call regs) (entry_fits call regs) u e)

  module _ (count : ℕ) where
    pub decoded_valid : 0 < place → (x : Option Instr) {acted : Acted} → acted ≡ acted_of call (place - 1 + 1) regs x → (i : Instr) → acted.decoded ≡ Some i
        → {us : Uses} → us ≡ uses_of (accesses call i)
        → done_at (Some (record { count = count + 1; uses = us; action = acted.action })) ≡ step_decoded (view_in block plan keys c call) place count regs cells x
    unfolding step_decoded
    decoded_valid some x known i valid u =
        rw (acted_decoded call place regs x known i valid)
        (acted_stands (count + 1) (accesses call i) (instr_action call place regs i) (instr_fits call place regs i) u (acted_action call place regs x known i valid some))

    pub instr_inside : (d : Option Due) {start code : ℕ} → start ≡ plan_word plan c 0 → code ≡ plan_word plan c 1 → start + 8 * (code - 1) ≤ length block → place - 1 < code - 1
        → {found : List ℕ} → found ≡ code_at block start (code - 1)
        → done_at d ≡ step_decoded (view_in block plan keys c call) place count regs cells (decode (code - 1) (drop (instr_bytes * (place - 1)) found))
        → done_at d ≡ step_instr (view_in block plan keys c call) place count regs cells
    unfolding step_instr
    instr_inside d {start} {code} e f h early {found} g p =
        let from : ℕ = plan_word plan c 0 in
        let size : ℕ = plan_word plan c 1 - 1 in
        let fits : from + 8 * size ≤ length block = rw (e, f) at h in
        let before : place - 1 < size = rw f at early in
        let same : code - 1 ≡ size = ap (λ (n : ℕ). n - 1) f in
        let stretch : drop (instr_bytes * (place - 1)) found ≡ drop (instr_bytes * (place - 1)) (code_at block from size) =
        ap (drop (instr_bytes * (place - 1))) (g ∙ ap (λ (n : ℕ). code_at block n (code - 1)) e ∙ ap (code_at block from) same) in
        let here : decode (code - 1) (drop (instr_bytes * (place - 1)) found) ≡ decode size (drop (from + instr_bytes * (place - 1)) block) =
        ap (λ (n : ℕ). decode n (drop (instr_bytes * (place - 1)) found)) same
        ∙ ap (decode size) stretch
        ∙ decode_in_code block from size (place - 1) before in
        rw (le-leb (from + 8 * size) (length block) fits)
        (p ∙ ap (step_decoded (view_in block plan keys c call) place count regs cells) here)

    -- At the end of the code.
    pub body_ended : {d : Due} → count < call.fuel → {code : ℕ} → code ≡ plan_word plan c 1 → place ≡ code → d ≡ end_due ended count
        → done_at (Some d) ≡ step_body (view_in block plan keys c call) place count regs cells
    unfolding step_body perform
    body_ended h w e o =
        let some : call.fuel ≡ 0 → ⊥ = λ z. absurd (omega (arith, h, z)) in
        let within : count ≤ call.fuel = omega (arith, h) in
        rw (o, ne_eqb call.fuel 0 some, le-ltb call.fuel count within, eq-eqb place (plan_word plan c 1) (e ∙ w))

    pub place_body : (d : Option Due) → (place ≡ 0 → ⊥) → done_at d ≡ step_body (view_in block plan keys c call) place count regs cells
        → done_at d ≡ step_place (view_in block plan keys c call) place count regs cells
    unfolding step_place
    place_body d some p = rw (ne_eqb place 0 some) p
