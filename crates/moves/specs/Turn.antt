-- What the functions of a step hold and answer, beside the definitions of a step: the view from the lent buffers, an access from its two
-- words, what is due at a place, and the turn that stands for what the place comes to.
use Rattle.std.specs.Prelude.{true, Option, Some, None, IfSome, ◌≡◌, List, [], ◌∷◌, ℕ, ◌+◌, ◌*◌, ◌^◌, ◌≤◌, ◌<◌, ℤ, pos, leb, length}
use Rattle.std.specs.Int.Signed.{non_neg}
use Rattle.std.specs.Prelude.{if◌then◌else◌}
use Rattle.block.specs.Limits.{max_calls, max_call_keys, max_code, max_keys}
use Rattle.block.specs.declared.Call.{Call}
use Rattle.footprint.specs.Access.{Access}
use Rattle.footprint.specs.Plan.{plan_words, key_words, code_start, code_length}
use Rattle.key_uses.specs.Uses.{uses_of}
use Rattle.key_uses.specs.declared.KeyUse.{KeyUse}
use Rattle.key_uses.specs.declared.Uses.{Uses}
use Rattle.machine.specs.Run.{plan_word, saved_in, zero_registers}
use Rattle.machine.specs.Step.{View, Performed, broken, onward, ending, concluded, find_entry, perform}
use Rattle.machine.specs.Moves.{Moved, call_key_count, own_entries, stepped}
use Rattle.machine.specs.declared.Head.{Head}
use Rattle.machine.specs.declared.Next.{Next}
use Rattle.machine.specs.declared.Next.TheVariants.{Go, End, Load, Store, Transfer}
use Rattle.moves.specs.Lent.{lent}
use Rattle.moves.specs.declared.Due.{Due}
use Rattle.moves.specs.declared.Site.{Site}
use Rattle.moves.specs.declared.Turn.{Turn}
use Rattle.moves.specs.declared.Turn.TheVariants.{Going, Over}

-- The view of a call by its number; `body` is its record.
abbrev pub view_in : List ℕ → List ℕ → List ℕ → ℕ → Call → View
view_in block plan keys call body =
    record {
      block = block;
      call = body;
      start = plan_word plan call code_start;
      code = plan_word plan call code_length;
      count = call_key_count plan call;
      entries = own_entries plan call;
      keys = keys;
    }

-- Cells are found and restored by the plan and the keys alone; what else a view has is left open there.
abbrev pub noCall : Call
noCall =
    record {
      sender = record { 0 = 0 };
      contract = record { 0 = 0 };
      function = 0;
      value = pos 0;
      arg1 = 0;
      arg2 = 0;
      arg3 = 0;
      arg4 = 0;
      fuel = 0;
    }

abbrev pub cell_view : List ℕ → List ℕ → ℕ → View
cell_view plan keys call = view_in [] plan keys call noCall

-- The old values that a worker keeps for its call.
abbrev pub worker_saved : List ℕ → List ℤ → ℕ → ℕ → List ℤ
worker_saved plan frames worker call = saved_in frames worker (call_key_count plan call)

-- An access from the words of its key.
abbrev pub access_of : KeyUse → Access
access_of u = record { key = u.high * 2 ^ 32 + u.low; reads = u.reads; writes = u.writes }

abbrev pub accesses_of : Uses → List Access
accesses_of us = access_of us.first ∷ access_of us.second ∷ []

-- The lookup of a view, from its parts.
abbrev pub lookup_in : List ℕ → List ℕ → ℕ → Access → Option ℕ
lookup_in plan keys call a = if leb (call_key_count plan call) max_call_keys then find_entry keys (own_entries plan call) a else None

-- Plan and keys have their fixed sizes, and the call is in its range: what a move has tested before it uses an entry.
pub record EntriesReady (plan keys : List ℕ) (call : ℕ) : Type 0 where
  pub plans : max_calls * plan_words ≤ length plan
  pub keyed : max_keys * key_words ≤ length keys
  pub below : call < max_calls

-- The place of a call is in its range: entry, or 0 to the code's length.
pub record SiteInRange (plan : List ℕ) (site : Site) : Type 0 where
  pub code : plan_word plan site.call code_length ≤ max_code + 1
  pub place : site.place ≤ plan_word plan site.call code_length

-- The words of a key stand for it.
abbrev pub KeyWorded : KeyUse → Type 0
KeyWorded u = u.low < 2 ^ 32

-- An amount that is moved is not below zero.
abbrev pub Payable : Next → Type 0
Payable (Go place) = Unit {0}
Payable (End outcome) = Unit {0}
Payable (Load x) = Unit {0}
Payable (Store value) = Unit {0}
Payable (Transfer amount short) = non_neg amount ≡ true

-- What an action asks of its place, its uses and itself.
pub record Doable (place : ℕ) (us : Uses) (next : Next) : Type 0 where
  pub early : place ≤ max_code + 1
  pub first : KeyWorded us.first
  pub second : KeyWorded us.second
  pub payable : Payable next

-- What is due at a place, done on the cells; where nothing is, the lent run is damaged.
abbrev pub due_done : View → (place : ℕ) → Option Due → List ℤ → Performed
due_done v place None cells = broken
due_done v place (Some d) cells = perform v place d.count (accesses_of d.uses) d.action.regs d.action.next cells

-- The call ends with an outcome.
abbrev pub end_due : (outcome count : ℕ) → Due
end_due outcome count = record { count = count; uses = uses_of []; action = record { next = End outcome; regs = zero_registers } }

-- What is due can be done.
abbrev pub DueDoable : (place : ℕ) → Option Due → Type 0
DueDoable place d = IfSome d (λ d. Doable place d.uses d.action.next)

-- A turn, if the lent run is not damaged, with the cells that it leaves.
pub record TurnWithCells : Type 0 where
  pub turn : Option Turn
  pub cells : List ℤ

-- What a place comes to on these cells: "Number only; nothing changes" where it finds damage.
abbrev pub turned : List ℤ → Performed → TurnWithCells
turned cells broken = record { turn = None; cells = cells }
turned cells (onward place count regs after) = record { turn = Some (Going place count regs); cells = after }
turned cells (ending outcome count) = record { turn = Some (Over outcome count); cells = cells }

-- A turn that leaves these cells stands for what a place comes to.
abbrev pub StandsForPlace : Option Turn → List ℤ → List ℤ → Performed → Type 0
StandsForPlace t after cells p = ◌≡◌ {A = TurnWithCells} (record { turn = t; cells = after }) (turned cells p)

-- What a turn that leaves these cells stands for.
abbrev pub performed_of : Option Turn → List ℤ → Performed
performed_of None cells = broken
performed_of (Some (Going place count regs)) cells = onward place count regs cells
performed_of (Some (Over outcome count)) cells = ending outcome count

-- The run behind a turn of a call that leaves these cells: the step that it stands for, concluded.
abbrev pub turn_settled : Head → List ℕ → List ℕ → List ℤ → List ℕ → List ℕ → List ℤ → ℕ → ℕ → Option Turn → Moved
turn_settled head plan keys cells status seats frames worker call t =
    stepped (lent head plan keys cells status seats frames) worker call
    (concluded (cell_view plan keys call) (worker_saved plan frames worker call) cells (performed_of t cells))
