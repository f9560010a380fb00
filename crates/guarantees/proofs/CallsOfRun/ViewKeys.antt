-- Views that differ in their buffers of keys alone, where the buffers have the same word at every place: a step of a call is the same by
-- both.
use Rattle.block.specs.declared.Instr.{Instr}
use mathlib.Core.Path.{◌≡◌, refl, ap, ap₂, ◌∙◌}
use mathlib.Core.Bool.{Bool, ◌&&◌, ◌||◌, not}
use mathlib.Core.List.{List, [], ◌∷◌}
use Prim.Native.Nat.{ℕ, ◌+◌, ◌-◌, ◌*◌}
use lib.IntN.{ℤ}
use lib.Signed.{lt_z, non_neg}
use lib.Dec.{eqb, leb, ltb}
use lib.ListN.{length, get_or, drop}
use Rattle.std.specs.Prelude.{if◌then◌else◌, None, Option, Some}
use Rattle.block.specs.Limits.{max_call_keys, max_keys}
use Rattle.block.specs.Instruction.{instr_bytes, decode}
use Rattle.footprint.specs.Access.{Access, accesses, entry_accesses}
use Rattle.footprint.specs.Plan.{high_word, low_word, entry_cell, entry_reads, entry_writes}
use Rattle.machine.specs.Run.{has_key}
use Rattle.machine.specs.Action.{instr_action, entry_action}
use Rattle.block.specs.Outcomes.{ended, unknown_function, out_of_fuel}
use Rattle.machine.specs.Step.{View, Local, Performed, broken, onward, ending, cell_at, find_entry, lookup, finish, concluded, load_cell, store_cell, deposit_cell, transfer_cells, access_at, perform, step_entry, step_decoded, fuel_broken, step_instr, step_body, step_place, step_call}
use Rattle.machine.specs.declared.Next.{Next}
use Rattle.machine.specs.declared.Next.TheVariants.{Go, End, Load, Store, Transfer}

-- ---- one step

-- The view with other words for its table of keys.
abbrev pub view_with_keys : View → List ℕ → View
view_with_keys v keys =
    record {
      block = v.block;
      call = v.call;
      start = v.start;
      code = v.code;
      count = v.count;
      entries = v.entries;
      keys = keys;
    }

abbrev pub SameWords : List ℕ → List ℕ → Type 0
SameWords keys keys' = (i : ℕ) → get_or keys i 0 ≡ get_or keys' i 0

has_same : (keys keys' : List ℕ) → SameWords keys keys' → (n k : ℕ) → has_key keys n k ≡ has_key keys' n k
has_same keys keys' same n k =
    ap₂ (λ (high low : ℕ). eqb high (high_word k) && eqb low (low_word k)) (same (2 * n)) (same (2 * n + 1))

find_same : (keys keys' : List ℕ) → SameWords keys keys' → (es : List ℕ) (a : Access) → find_entry keys es a ≡ find_entry keys' es a
unfolding find_entry
find_same keys keys' same [] a = refl
find_same keys keys' same (e ∷ es) a =
    ap₂
    (λ (t : Bool) (rest : Option ℕ).
    if not (ltb (entry_cell e) max_keys)
    then None
    else if t
    then (if (not a.reads || entry_reads e) && (not a.writes || entry_writes e) then Some (entry_cell e) else None)
    else rest)
    (has_same keys keys' same (entry_cell e) a.key) (find_same keys keys' same es a)

module _ (v : View) (keys : List ℕ) (same : SameWords v.keys keys) (cells : List ℤ) where
  abbrev w : View
  w = view_with_keys v keys

  lookup_same : (a : Access) → lookup v a ≡ lookup w a
  unfolding lookup
  lookup_same a =
      ap (λ (k : Option ℕ). if leb v.count max_call_keys then k else None) (find_same v.keys keys same v.entries a)

  transfer_same : (place count : ℕ) (regs : List ℤ) (amount : ℤ) (short : ℕ) (to : Access) (k : Option ℕ)
      → transfer_cells v place count regs amount short to cells k ≡ transfer_cells w place count regs amount short to cells k
  unfolding transfer_cells
  transfer_same place count regs amount short to None = refl
  transfer_same place count regs amount short to (Some n) =
      ap
      (λ (k : Option ℕ).
      if not (non_neg (cell_at cells n))
      then broken
      else if lt_z (cell_at cells n) amount
      then ending short count
      else deposit_cell place count regs amount n cells k)
      (lookup_same to)

  perform_same : (place count : ℕ) (as' : List Access) (regs : List ℤ) (next : Next)
      → perform v place count as' regs next cells ≡ perform w place count as' regs next cells
  unfolding perform
  perform_same place count as' regs (Go to) = refl
  perform_same place count as' regs (End outcome) = refl
  perform_same place count as' regs (Load x) =
      ap (load_cell place count regs x (access_at as' 0) cells) (lookup_same (access_at as' 0))
  perform_same place count as' regs (Store value) = ap (store_cell place count regs value cells) (lookup_same (access_at as' 0))
  perform_same place count as' regs (Transfer amount short) =
      ap (transfer_cells v place count regs amount short (access_at as' 1) cells) (lookup_same (access_at as' 0))
      ∙ transfer_same place count regs amount short (access_at as' 1) (lookup w (access_at as' 0))

  module _ (place count : ℕ) (regs : List ℤ) where
    entry_same : step_entry v place regs cells ≡ step_entry w place regs cells
    unfolding step_entry
    entry_same =
        ap (λ (t : Performed). if eqb v.code 0 then ending unknown_function 0 else t)
        (perform_same place 0 (entry_accesses v.call) (entry_action v.call regs).regs (entry_action v.call regs).next)

    decoded_same : (d : Option Instr) → step_decoded v place count regs cells d ≡ step_decoded w place count regs cells d
    unfolding step_decoded
    decoded_same None = refl
    decoded_same (Some i) =
        perform_same place (count + 1) (accesses v.call i) (instr_action v.call place regs i).regs (instr_action v.call place regs i).next

    instr_same : step_instr v place count regs cells ≡ step_instr w place count regs cells
    unfolding step_instr
    instr_same =
        ap (λ (t : Performed). if leb (v.start + instr_bytes * (v.code - 1)) (length v.block) then t else broken)
        (decoded_same (decode (v.code - 1) (drop (v.start + instr_bytes * (place - 1)) v.block)))

    body_same : step_body v place count regs cells ≡ step_body w place count regs cells
    unfolding step_body
    body_same =
        ap
        (λ (t : Performed).
        if fuel_broken v.call.fuel count
        then broken
        else if eqb place v.code then ending ended count else if eqb count v.call.fuel then ending out_of_fuel count else t)
        instr_same

    place_same : step_place v place count regs cells ≡ step_place w place count regs cells
    unfolding step_place
    place_same = ap₂ (λ (first other : Performed). if eqb place 0 then first else other) entry_same body_same

  concluded_same : (saved : List ℤ) (x : Performed) → concluded v saved cells x ≡ concluded w saved cells x
  unfolding concluded finish
  concluded_same saved broken = refl
  concluded_same saved (onward to n regs after) = refl
  concluded_same saved (ending outcome n) = refl

  pub step_same : (l : Local) → step_call v l cells ≡ step_call (view_with_keys v keys) l cells
  unfolding step_call
  step_same l =
      ap (concluded v l.saved cells) (place_same l.place l.count l.regs)
      ∙ concluded_same l.saved (step_place w l.place l.count l.regs cells)
