-- "A call, step by step": one step of one call. It depends on the view of the call, its local state and the cells, and on nothing
-- else.
use Rattle.block.specs.declared.Instr.{Instr}
use Rattle.std.specs.Prelude.{Bool, true, ◌&&◌, ◌||◌, not, List, [], ◌∷◌, ℕ, ◌+◌, ◌-◌, ◌*◌, ◌%◌, ℤ, pos, ◌+ℤ◌, ◌-ℤ◌, eqb, leb, ltb, length, get_or, drop, set, None, Option, Some}
use Rattle.std.specs.Int.Signed.{lt_z, le_z, non_neg}
use Rattle.std.specs.Prelude.{if◌then◌else◌}
use Rattle.arith.specs.Balance.{largest}
use Rattle.block.specs.Limits.{max_call_keys, max_keys}
use Rattle.block.specs.Key.{is_balance}
use Rattle.block.specs.Instruction.{instr_bytes, decode}
use Rattle.block.specs.declared.Call.{Call}
use Rattle.footprint.specs.Access.{Access, reading, accesses, entry_accesses}
use Rattle.machine.specs.Run.{has_key}
use Rattle.footprint.specs.Plan.{entry_cell, entry_reads, entry_writes, entry_flags}
use Rattle.machine.specs.Action.{instr_action, entry_action}
use Rattle.block.specs.Outcomes.{ended, unknown_function, thrown, out_of_fuel}
use Rattle.machine.specs.declared.Action.{Action}
use Rattle.machine.specs.declared.Next.{Next}
use Rattle.machine.specs.declared.Next.TheVariants.{Go, End, Load, Store, Transfer}

-- What no move changes of a call: its record, its code in the block (start, and length plus 1, or 0 if unknown), the number of
-- its keys and its entries, and the table of keys.
pub record View : Type 0 where
  pub block : List ℕ
  pub call : Call
  pub start : ℕ
  pub code : ℕ
  pub count : ℕ
  pub entries : List ℕ
  pub keys : List ℕ

-- "running (place, registers, count of executed instructions, old values)"
pub record Local : Type 0 where
  pub place : ℕ
  pub count : ℕ
  pub regs : List ℤ
  pub saved : List ℤ

-- What a place of a call comes to: it finds the lent run damaged (20); or the call goes on, with a place, a count, registers and cells; or
-- it ends with an outcome and a count, and no cell is changed.
pub data Performed : Type 0 where
  broken : Performed
  onward : (place count : ℕ) (regs cells : List ℤ) → Performed
  ending : (outcome count : ℕ) → Performed

-- A step finds the lent run damaged (20); or the call goes on; or it is finished with an outcome and a count.
pub data Stepped : Type 0 where
  damaged : Stepped
  more : Local → (cells : List ℤ) → Stepped
  done : (outcome count : ℕ) (cells : List ℤ) → Stepped

-- The cell that a call's entries keep for a key, with the flags that the access wants; an entry that is looked at has a cell
-- number of the table.
unfoldable pub find_entry : List ℕ → List ℕ → Access → Option ℕ
find_entry keys [] a = None
find_entry keys (e ∷ es) a =
    if not (ltb (entry_cell e) max_keys)
    then None
    else if has_key keys (entry_cell e) a.key
    then (if (not a.reads || entry_reads e) && (not a.writes || entry_writes e) then Some (entry_cell e) else None)
    else find_entry keys es a

unfoldable pub lookup : View → Access → Option ℕ
lookup v a = if leb v.count max_call_keys then find_entry v.keys v.entries a else None

abbrev pub cell_at : List ℤ → ℕ → ℤ
cell_at cells n = get_or cells n (pos 0)

-- An entry can be used to keep and to restore: it has a flag, and where it is written, a cell number of the table.
unfoldable pub entries_allowed : List ℕ → Bool
entries_allowed [] = true
entries_allowed (e ∷ es) =
    not (eqb (e % entry_flags) 0) && (not (entry_writes e) || ltb (entry_cell e) max_keys) && entries_allowed es

abbrev pub restorable : ℕ → List ℕ → Bool
restorable count es = leb count max_call_keys && entries_allowed es

-- "the write set's old values kept": a value for each entry, 0 where the entry is only read.
unfoldable pub saved_of : List ℕ → List ℤ → List ℤ
saved_of [] cells = []
saved_of (e ∷ es) cells = (if entry_writes e then cell_at cells (entry_cell e) else pos 0) ∷ saved_of es cells

-- "restores every cell of the write set"
unfoldable pub restored : List ℕ → List ℤ → List ℤ → List ℤ
restored [] saved cells = cells
restored (e ∷ es) [] cells = cells
restored (e ∷ es) (old ∷ saved) cells =
    restored es saved (if entry_writes e then set cells (entry_cell e) old else cells)

-- A loaded value; of a balance, "below zero" is 20. `count` is the count with this place's own instruction.
unfoldable pub load_cell : (place count : ℕ) → List ℤ → ℕ → Access → List ℤ → Option ℕ → Performed
load_cell place count regs x a cells None = broken
load_cell place count regs x a cells (Some n) =
    if is_balance a.key && not (non_neg (cell_at cells n))
    then broken
    else onward (place + 1) count (set regs x (cell_at cells n)) cells

unfoldable pub store_cell : (place count : ℕ) → List ℤ → ℤ → List ℤ → Option ℕ → Performed
store_cell place count regs value cells None = broken
store_cell place count regs value cells (Some n) = onward (place + 1) count regs (set cells n value)

-- The amount leaves cell n and reaches another; there "a balance .. below zero or passing 2^63 - 1" is 20.
unfoldable pub deposit_cell : (place count : ℕ) → List ℤ → ℤ → ℕ → List ℤ → Option ℕ → Performed
deposit_cell place count regs amount n cells None = broken
deposit_cell place count regs amount n cells (Some m) =
    if non_neg (cell_at cells m) && le_z (cell_at cells m +ℤ amount) largest
    then
    onward (place + 1) count regs
    (set (set cells n (cell_at cells n -ℤ amount)) m (cell_at cells m +ℤ amount))
    else broken

-- The second cell is looked at only where the first holds enough.
unfoldable pub transfer_cells : View → (place count : ℕ) → List ℤ → ℤ → ℕ → Access → List ℤ → Option ℕ → Performed
transfer_cells v place count regs amount short to cells None = broken
transfer_cells v place count regs amount short to cells (Some n) =
    if not (non_neg (cell_at cells n))
    then broken
    else if lt_z (cell_at cells n) amount
    then ending short count
    else deposit_cell place count regs amount n cells (lookup v to)

-- The first and second access of a place; a place that uses one has it.
abbrev pub access_at : List Access → ℕ → Access
access_at as' k = get_or as' k (reading 0)

-- An action is done on the cells that the place accesses.
unfoldable pub perform : View → (place count : ℕ) → List Access → List ℤ → Next → List ℤ → Performed
perform v place count as' regs (Go to) cells = onward to count regs cells
perform v place count as' regs (End outcome) cells = ending outcome count
perform v place count as' regs (Load x) cells =
    load_cell place count regs x (access_at as' 0) cells (lookup v (access_at as' 0))
perform v place count as' regs (Store value) cells = store_cell place count regs value cells (lookup v (access_at as' 0))
perform v place count as' regs (Transfer amount short) cells =
    transfer_cells v place count regs amount short (access_at as' 1) cells (lookup v (access_at as' 0))

abbrev pub perform_action : View → (place count : ℕ) → List Access → Action → List ℤ → Performed
perform_action v place count as' a cells = perform v place count as' a.regs a.next cells

-- "STEP(worker), at entry: unknown function, outcome 1". M-104: neither fuel nor count is looked at; behind the entry the count is 0.
unfoldable pub step_entry : View → (place : ℕ) → (regs cells : List ℤ) → Performed
step_entry v place regs cells =
    if eqb v.code 0
    then ending unknown_function 0
    else perform_action v place 0 (entry_accesses v.call) (entry_action v.call regs) cells

-- "Else one instruction runs and counts 1, also the one that fails."
unfoldable pub step_decoded : View → (place count : ℕ) → (regs cells : List ℤ) → Option Instr → Performed
step_decoded v place count regs cells None = broken
step_decoded v place count regs cells (Some i) =
    perform_action v place (count + 1) (accesses v.call i) (instr_action v.call place regs i) cells

-- The code stretch lies in the lent block, and its instruction at this place is valid; 20 otherwise.
unfoldable pub step_instr : View → (place count : ℕ) → (regs cells : List ℤ) → Performed
step_instr v place count regs cells =
    let size : ℕ = v.code - 1 in
    if leb (v.start + instr_bytes * size) (length v.block)
    then step_decoded v place count regs cells (decode size (drop (v.start + instr_bytes * (place - 1)) v.block))
    else broken

-- M-104: "In a step behind the entry, a lent fuel of zero or a count above the fuel is 20."
abbrev pub fuel_broken : (fuel count : ℕ) → Bool
fuel_broken fuel count = eqb fuel 0 || ltb fuel count

-- A place behind the entry. "At place = length: outcome 0." M-104: "Reaching the end needs no fuel."; "If the count already equals the fuel when an instruction is
-- due, that instruction doesn't run, all is restored and the outcome is 7, in a step of its own that counts nothing."
unfoldable pub step_body : View → (place count : ℕ) → (regs cells : List ℤ) → Performed
step_body v place count regs cells =
    if fuel_broken v.call.fuel count
    then broken
    else if eqb place v.code
    then ending ended count
    else if eqb count v.call.fuel
    then ending out_of_fuel count
    else step_instr v place count regs cells

-- The place of a call.
unfoldable pub step_place : View → (place count : ℕ) → (regs cells : List ℤ) → Performed
step_place v place count regs cells =
    if eqb place 0 then step_entry v place regs cells else step_body v place count regs cells

-- The end of a call. "On 3, 4, 5 the same step restores every cell of the write set"; M-103: on 6 "as 4 does"; M-104: on 7 "all is restored".
unfoldable pub finish : View → (saved : List ℤ) → (outcome count : ℕ) → (cells : List ℤ) → Stepped
finish v saved outcome count cells =
    if ltb outcome thrown
    then done outcome count cells
    else if restorable v.count v.entries
    then done outcome count (restored v.entries saved cells)
    else damaged

-- What a step of a call makes of what its place comes to, from its old values and its cells.
unfoldable pub concluded : View → (saved cells : List ℤ) → Performed → Stepped
concluded v saved cells broken = damaged
concluded v saved cells (onward place count regs after) = more (record { place = place; count = count; regs = regs; saved = saved }) after
concluded v saved cells (ending outcome count) = finish v saved outcome count cells

-- One step of a call.
unfoldable pub step_call : View → Local → List ℤ → Stepped
step_call v l cells = concluded v l.saved cells (step_place v l.place l.count l.regs cells)
