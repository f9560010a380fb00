-- What an opened run has of each call of its block: its record, its words in the plan, its view, and its function.
use Rattle.std.proofs.lemmas.Option.{none-some}
use Rattle.std.proofs.lemmas.Option.{same_Some}
use mathlib.Core.Path.{◌≡◌, refl, sym, ap, subst, ◌∙◌}
use mathlib.Core.Bool.{Bool, true, false}
use mathlib.Core.List.{List, [], ◌∷◌, map}
use Prim.Native.Nat.{ℕ, zero, suc, ◌+◌, ◌*◌, ◌≤◌, ◌<◌}
use native.Mathlib.Omega.{arith}
use lib.Dec.{eqb}
use lib.ListN.{length, get_or, take, drop, length-map}
use Rattle.std.specs.Prelude.{if◌then◌else◌, None, Option, Some, slice_get}
use Rattle.wire.specs.Bytes.{padded}
use Rattle.wire.specs.All.{All}
use Rattle.block.specs.Limits.{max_call_keys}
use Rattle.block.specs.Record.{Function, Block, function_id, call_id, call_of, call_record_bytes, head_bytes}
use Rattle.block.proofs.ReaderLaws as reading
use Rattle.block.proofs.ReaderLaws.{EndsFile}
use Rattle.block.proofs.BodyLaws.{call_fuel_most}
use Rattle.block.specs.Encoding.{AreBytes}
use Rattle.block.specs.declared.Call.{Call}
use Rattle.footprint.specs.Access.{Access}
use Rattle.footprint.specs.Sets.{function_sets, sets_of, access_keys}
use Rattle.block.specs.Naming.{function_of}
use Rattle.footprint.proofs.SetLaws.{Distinct, merged_distinct}
use Rattle.footprint.specs.Conflict.{row_for}
use Rattle.footprint.specs.Table.{cell_number}
use Rattle.footprint.specs.Plan.{entry_word, code_words, plans, table_words, entry_cell}
use Rattle.footprint.specs.BlockSets.{all_sets}
use Rattle.wire.proofs.ListLaws.{map_at}
use Rattle.footprint.specs.Listed.{AllListed, EveryListed}
use Rattle.footprint.proofs.EntryLaws.{entry_cell_lem}
use Rattle.footprint.proofs.TableLaws.{cell_lt, number_key}
use Rattle.machine.specs.Run.{Run, plan_word, row_in}
use Rattle.machine.specs.Moves.{call_key_count, own_entries, view_of}
use Rattle.machine.specs.CallInRun.{made_view}
use Rattle.machine.proofs.StepLaws.{FuelInRange}
use Rattle.footprint.proofs.SetAccessLaws.{drop_bytes}
use Rattle.guarantees.proofs.AcceptedOpening.PlanWords.{Planned, call_planned}

-- ---- what holds

-- An entry's cell number is a place of the table, and the entry's key stands there.
pub record EntryPlaced (table : List ℕ) (e : Access) : Type 0 where
  pub number : entry_cell (entry_word table e) ≡ cell_number table e.key
  pub inside : cell_number table e.key < length table
  pub key : get_or table (cell_number table e.key) 0 ≡ e.key

-- Call c of the block is call j of the run, whose buffer of keys has `room` words.
pub record CallOpened (file : List ℕ) (b : Block) (table : List ℕ) (room : ℕ) (r : Run) (j : ℕ) (c : Call) : Type 0 where
  pub at : slice_get b.calls j ≡ Some c
  -- Its record, within the file.
  pub body : call_of (drop (b.first_call + call_record_bytes * j + head_bytes) file) ≡ Some c
  pub within : b.first_call + call_record_bytes * j + call_record_bytes ≤ length file
  -- "fuel .. 1 to 65,535"
  pub fuel : FuelInRange c.fuel
  -- Its sets: at most 24 keys, none twice, each used and in the table.
  pub own : get_or (all_sets file b) j [] ≡ sets_of file b.functions c
  pub few : length (sets_of file b.functions c) ≤ max_call_keys
  pub distinct : Distinct (access_keys (sets_of file b.functions c))
  pub listed : AllListed table (sets_of file b.functions c)
  pub placed : All (EntryPlaced table) (sets_of file b.functions c)
  -- Its words in the plan, and the view that they make.
  pub start : plan_word r.plan j 0 ≡ get_or (code_words (function_of b.functions c)) 0 0
  pub code : plan_word r.plan j 1 ≡ get_or (code_words (function_of b.functions c)) 1 0
  pub count : call_key_count r.plan j ≡ length (sets_of file b.functions c)
  pub entries : own_entries r.plan j ≡ map (entry_word table) (sets_of file b.functions c)
  pub row : row_in r.plan j ≡ row_for (take j (all_sets file b)) (sets_of file b.functions c)
  pub view : view_of file r j c ≡ made_view file room b.functions table c
  -- The function that it names.
  pub sound : (f : Function) → function_of b.functions c ≡ Some f → reading.FunctionSound file f

-- ---- places of lists

-- The element at a place.
record At {A : Type 0} (l : List A) (j : ℕ) : Type 0 where
  element : A
  found : slice_get l j ≡ Some element
  same : get_or l j element ≡ element

element_at : {A : Type 0} (l : List A) (j : ℕ) → j < length l → At l j
element_at [] j h = absurd (omega arith)
element_at (x ∷ l) zero h = record { element = x; found = refl; same = refl }
element_at (x ∷ l) (suc j) h =
    let a : At l j = element_at l j (omega arith) in
    record { element = a.element; found = a.found; same = a.same }

-- ---- sets and functions

every_at : (table : List ℕ) (ls : List (List Access)) (j : ℕ) → EveryListed table ls → AllListed table (get_or ls j [])
every_at table [] j all = tt
every_at table (es ∷ ls) zero all = all.0
every_at table (es ∷ ls) (suc j) all = every_at table ls j all.1

all_placed : (table : List ℕ) (es : List Access) → AllListed table es → All (EntryPlaced table) es
all_placed table [] all = tt
all_placed table (e ∷ es) all =
    (record { number = entry_cell_lem table e; inside = cell_lt table e.key all.0.in_table; key = number_key table e.key all.0.in_table }, all_placed table es all.1)

function_distinct : (file : List ℕ) (c : Call) (f : Option Function) → Distinct (access_keys (function_sets file c f))
unfolding function_sets
function_distinct file c None = tt
function_distinct file c (Some f) = merged_distinct _ _ (merged_distinct [] _ tt)

-- The function that a call names is one of the block's.
function_of_lem : (P : Function → Type 0) (fs : List Function) (c : Call) (f : Function) → reading.EachAt (λ i g. P g) fs → function_of fs c ≡ Some f → P f
unfolding function_of
function_of_lem P [] c f all e = absurd (none-some f e)
function_of_lem P (g ∷ fs) c f all e = go (eqb (function_id g) (call_id c)) e (function_of_lem P fs c f (λ i d h. all (suc i) d (omega arith)))
  where
    go : (t : Bool) → (if t then Some g else function_of fs c) ≡ Some f → (function_of fs c ≡ Some f → P f) → P f
    go true h ih = subst P (same_Some g f h) (all 0 g (omega arith))
    go false h ih = ih h

-- ---- a call of the run

module _ (file : List ℕ) (bytes : AreBytes file) (b : Block) (whole : EndsFile file b) (table : List ℕ)
    (listed : EveryListed table (all_sets file b)) (short : (i : ℕ) → length (get_or (all_sets file b) i []) ≤ max_call_keys)
    (r : Run) (size room : ℕ)
    (plan : r.plan ≡ padded size 0 (plans b.functions table [] b.calls (all_sets file b)))
    (keys : r.keys ≡ padded room 0 (table_words table)) where
  module _ (j : ℕ) (less : j < length b.calls) (c : Call) (found : slice_get b.calls j ≡ Some c) (same : get_or b.calls j c ≡ c) where
    abbrev es : List Access
    es = sets_of file b.functions c

    own_sets : get_or (all_sets file b) j [] ≡ es
    own_sets = map_at (sets_of file b.functions) b.calls j c [] less ∙ ap (sets_of file b.functions) same

    own_plan : Planned b.functions table (take j (all_sets file b)) c es r.plan (32 * j)
    own_plan =
        rw (plan)
        (rw (same, own_sets) at
        (call_planned b.functions table b.calls (all_sets file b) size j c (sym (length-map b.calls (sets_of file b.functions))) short less))

    own_entries_lem : own_entries r.plan j ≡ map (entry_word table) es
    own_entries_lem = ap (λ (n : ℕ). take n (drop (32 * j + 3) r.plan)) own_plan.count ∙ own_plan.entries

    inside : b.first_call + call_record_bytes * j + call_record_bytes ≤ length file
    inside = let end : b.first_call + call_record_bytes * length b.calls + 4 ≡ length file = whole.end in omega arith

    record_of : call_of (drop (b.first_call + call_record_bytes * j + head_bytes) file) ≡ Some c
    record_of = whole.laws.calls j c less ∙ ap Some same

    opened : CallOpened file b table room r j c
    opened =
        record {
          at = found;
          body = record_of;
          within = inside;
          fuel = (
            subst (λ (d : Call). 0 < d.fuel) same (whole.laws.fuelled j c less),
            call_fuel_most (drop (b.first_call + call_record_bytes * j + head_bytes) file)
                (drop_bytes (b.first_call + call_record_bytes * j + head_bytes) file bytes) c record_of,
          );
          own = own_sets;
          few = rw own_sets at (short j);
          distinct = function_distinct file c (function_of b.functions c);
          listed = rw own_sets at (every_at table (all_sets file b) j listed);
          placed = all_placed table es (rw own_sets at (every_at table (all_sets file b) j listed));
          start = own_plan.start;
          code = own_plan.code;
          count = own_plan.count;
          entries = own_entries_lem;
          row = own_plan.row;
          view =
              λ i. record {
                block = file;
                call = c;
                start = own_plan.start i;
                code = own_plan.code i;
                count = own_plan.count i;
                entries = own_entries_lem i;
                keys = keys i;
              };
          sound = λ f e. function_of_lem (reading.FunctionSound file) b.functions c f whole.laws.codes e;
        }

  -- Every call of the block.
  pub call_opened : (j : ℕ) → j < length b.calls → (c : Call) × CallOpened file b table room r j c
  call_opened j less =
      let a : At b.calls j = element_at b.calls j less in
      (a.element, opened j less a.element a.found a.same)
