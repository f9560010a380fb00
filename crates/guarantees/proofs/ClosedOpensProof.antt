-- The next day opens: the run behind the moves holds the state that the published rule leaves, which is within the limit, of 64 bits and 0 off the
-- table.
use mathlib.Core.Path.{◌≡◌, ap, subst, subst⁻¹, ◌∙◌}
use mathlib.Core.List.{List, [], ◌∷◌}
use Prim.Native.Nat.{ℕ, suc, ◌+◌, ◌*◌}
use native.Mathlib.Omega.{arith}
use lib.Dec.{eqb, lit<}
use lib.ListN.{get_or, drop}
use Rattle.arith.proofs.ChoiceLaws.{if_all}
use Rattle.arith.proofs.IntegerLaws.{signed_range}
use Rattle.wire.specs.Bytes.{read_le}
use Rattle.wire.proofs.BytesLaws.{number_lt}
use Rattle.block.specs.Record.{Function, Cell, Block, call_record_bytes, head_bytes}
use Rattle.block.proofs.ReaderLaws.{EachAt, BlockLaws}
use Rattle.block.specs.declared.Call.{Call}
use Rattle.footprint.proofs.SetAccessLaws.{drop_bytes}
use Rattle.block.specs.Encoding.{AreBytes}
use Rattle.footprint.specs.Conflict.{member}
use Rattle.footprint.proofs.FitLaws.{Small, Fit, fit_kept}
use Rattle.footprint.specs.Plan.{opening_value}
use Rattle.rule.specs.Rule.{State, transaction, transactions, state_left}
use Rattle.footprint.proofs.RuleLimit.{read_call_bounded}
use Rattle.footprint.specs.SafeSets.{CallBounded}
use Rattle.block.specs.BlockOfFile.{block_of}
use Rattle.machine.specs.CallInRun.{Hold}
use Rattle.machine.specs.Run.{Run, Sizes}
use Rattle.guarantees.specs.Agreement.{opened_in, run_after_moves}
use Rattle.guarantees.proofs.AcceptedOpening.AfterOpening.{AfterOpening, after_opening}
use Rattle.guarantees.proofs.TheNextDay.NextCells.{cells_of_state}
use Rattle.guarantees.proofs.TheNextDay.NextDay.{opened_next_day}
use Rattle.guarantees.proofs.TheNextDay.NextFile.{carries_open}
use Rattle.guarantees.proofs.FollowingMachine.OpenedRuns.{OpenedMatches}
use Rattle.guarantees.proofs.SerialAndRule.BySizes.{steps_by_sizes}
use Rattle.guarantees.proofs.RunAndTally.MovesAndTally.{the_machine, behind_matches}
use Rattle.guarantees.specs.ClosedOpens.{ClosedOpens}
use Rattle.guarantees.specs.Demand2.{Demand2, table_in, closing_state}
use Rattle.guarantees.proofs.Demand2Proof.{table_is, demand_2}
use Rattle.guarantees.proofs.Demand3Proof.{demand_3}

-- ---- the opening's values

-- "an absent cell reads 0"
opening_small : (cs : List Cell) → EachAt (λ i c. Small c.value) cs → (k : ℕ) → Small (opening_value cs k)
unfolding opening_value
opening_small [] all k = lit< tt
opening_small (c ∷ cs) all k =
    if_all Small (eqb k c.key) (λ e. all 0 c (omega arith)) (λ e. opening_small cs (λ i d h. all (suc i) d (omega arith)) k)

-- "value 8 (two's complement)"
cells_small : (file : List ℕ) → AreBytes file → (b : Block) → BlockLaws file b → EachAt (λ i c. Small c.value) b.cells
cells_small file bytes b laws i d h =
    let body : List ℕ = drop (b.opening + 24 * i + 4) file in
    subst⁻¹ (λ (c : Cell). Small c.value) (laws.cells i d h)
    (signed_range 64 (read_le 8 body 12) (lit< tt) (number_lt 8 (drop 12 body) (drop_bytes 12 body (drop_bytes (b.opening + 24 * i + 4) file bytes))))

-- ---- the rule's states

calls_fit : (file : List ℕ) → AreBytes file → (b : Block) → BlockLaws file b → EachAt (λ i c. CallBounded c) b.calls
calls_fit file bytes b laws i d h =
    let at : ℕ = b.first_call + call_record_bytes * i + head_bytes in
    read_call_bounded (drop at file) (drop_bytes at file bytes) (get_or b.calls i d) (laws.calls i d h)

-- Every call keeps the limit and the range of values, so all of them do.
calls_keep : (file : List ℕ) → AreBytes file → (functions : List Function) (calls : List Call) → EachAt (λ i c. CallBounded c) calls → (σ : State) → Fit σ
    → Fit (state_left σ (transactions file functions calls σ))
unfolding state_left transactions
calls_keep file bytes functions [] all σ fit = fit
calls_keep file bytes functions (x ∷ xs) all σ fit =
    calls_keep file bytes functions xs (λ i d h. all (suc i) d (omega arith)) (transaction file functions x σ).state
    (fit_kept x (all 0 x (omega arith)) file bytes functions σ fit)

-- ---- of a run

closing_fits : (s : Sizes) (file : List ℕ) (workers : ℕ) → AfterOpening s file workers → AreBytes file → Fit (closing_state file)
closing_fits s file workers after bytes =
    let b : Block = block_of file in
    let laws : BlockLaws file b = after.whole.laws in
    calls_keep file bytes b.functions b.calls (calls_fit file bytes b laws) (opening_value b.cells)
    (record { limit = after.opened.limit; small = opening_small b.cells (cells_small file bytes b laws) })

pub closed_opens : ClosedOpens
closed_opens s file workers bytes accepted ms all =
    let after : AfterOpening s file workers = after_opening s file workers bytes accepted in
    let rule : Demand2 s file workers = demand_2 s file workers bytes accepted in
    let σ : State = closing_state file in
    let r : Run = run_after_moves s file workers ms in
    let sized = steps_by_sizes s file workers bytes accepted in
    let stands : OpenedMatches s file workers (the_machine s file workers bytes after sized ms) r = behind_matches s file workers bytes after sized ms in
    let fit : Fit σ = closing_fits s file workers after bytes in
    let same : table_in (opened_in s file workers) ≡ after.table = table_is s file workers bytes after in
    let hold : Hold (table_in (opened_in s file workers)) σ r.cells =
    subst⁻¹ (Hold (table_in (opened_in s file workers)) σ) ((demand_3 s file workers bytes accepted ms).close all).cells rule.cells in
    carries_open r σ (cells_of_state σ after.table)
    (opened_next_day s file workers bytes after r σ stands.keys stands.cell_count (subst (λ (t : List ℕ). Hold t σ r.cells) same hold)
    (λ k m. fit.small k) fit.limit
    (λ k out. (rule.elsewhere k (ap (member k) same ∙ out)).1))
