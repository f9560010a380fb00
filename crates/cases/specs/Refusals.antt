-- One block and more for each refusal of an input, with its offset, and two faults at once for their order.
use Rattle.std.specs.Prelude.{◌≡◌, refl, ℕ, zero, suc, ◌-◌, ◌^◌, pos, negsuc}
use mathlib.Core.List.{List, [], ◌∷◌, ◌++◌, flatten}
use Rattle.wire.specs.Bytes.{repeated}
use Rattle.block.specs.Limits.{max_workers}
use Rattle.block.specs.Refusal.{verdict_number, verdict_offset}
use Rattle.machine.specs.Run.{Sizes, fixed_sizes}
use Rattle.machine.specs.Opening.{Opened, opening_of}
use Rattle.console.specs.Computing as console
use Rattle.block.specs.Record.{recordOf}
use Rattle.block.specs.InstructionBytes.{instr}
use Rattle.block.specs.Assemble.{times, SET, THROW, JEQ, function, cell, call, call_fuelled, call_with, end}
use Rattle.footprint.specs.Examples.{gets, keys_block}

-- The number and offset that answer an opening.
abbrev told : Opened → List ℕ
told o = verdict_number o.answer ∷ verdict_offset o.answer ∷ []

abbrev refusal : List (List ℕ) → List ℕ
refusal parts = told (opening_of fixed_sizes (flatten parts) max_workers)

-- n functions without code, and n calls whose first arguments differ.
unfoldable pub functions : ℕ → List ℕ
functions zero = []
functions (suc n) = functions n ++ function 32768 n []

unfoldable pub calls : ℕ → List ℕ
calls zero = []
calls (suc n) = calls n ++ call_with 5 32768 0 (pos 0) n

-- Buffers of which one is too short by one.
abbrev sizes : (plan keys cells status seats frames : ℕ) → Sizes
sizes p k c s w f = record { plan = p; keys = k; cells = c; status = s; seats = w; frames = f }

abbrev opened_in : Sizes → List ℕ
opened_in s = told (opening_of s end max_workers)

pub record Refusals : Type 0 where
  pub accepted : refusal (end ∷ []) ≡ 0 ∷ 0 ∷ []
  -- 1 "input above 65,536 bytes"
  pub too_long : refusal (repeated 65537 0 ∷ []) ≡ 1 ∷ 0 ∷ []
  -- 2 "record or end missing or cut, where it begins or was due"
  pub empty : refusal [] ≡ 2 ∷ 0 ∷ []
  pub head_cut_lem : refusal ((0 ∷ 0 ∷ 4 ∷ []) ∷ []) ≡ 2 ∷ 0 ∷ []
  pub body_cut_lem : refusal ((20 ∷ 0 ∷ 2 ∷ 0 ∷ 5 ∷ 0 ∷ []) ∷ []) ≡ 2 ∷ 0 ∷ []
  pub end_missing : refusal (cell 5 0 0 0 (pos 2) ∷ []) ≡ 2 ∷ 24 ∷ []
  -- 3 "kind not 1 to 4, or falling"
  pub kind_0 : refusal (recordOf 0 [] ∷ []) ≡ 3 ∷ 0 ∷ []
  pub kind_5 : refusal (recordOf 5 [] ∷ []) ≡ 3 ∷ 0 ∷ []
  pub kind_falling : refusal (call 5 32768 0 (pos 0) ∷ cell 5 0 0 0 (pos 2) ∷ end ∷ []) ≡ 3 ∷ 36 ∷ []
  -- 4 "length not the kind's"
  pub length_end : refusal (recordOf 4 (0 ∷ []) ∷ []) ≡ 4 ∷ 0 ∷ []
  pub length_code : refusal (recordOf 1 (0 ∷ 128 ∷ 0 ∷ 0 ∷ 0 ∷ []) ∷ end ∷ []) ≡ 4 ∷ 0 ∷ []
  pub length_65 : refusal (recordOf 1 (repeated 524 0) ∷ end ∷ []) ≡ 4 ∷ 0 ∷ []
  pub length_call : refusal (recordOf 3 (repeated 30 0) ∷ end ∷ []) ≡ 4 ∷ 0 ∷ []
  -- 5 "a field outside its range"
  pub field_function : refusal (function 32767 0 [] ∷ end ∷ []) ≡ 5 ∷ 0 ∷ []
  pub field_account : refusal (cell 5 1 0 0 (pos 2) ∷ end ∷ []) ≡ 5 ∷ 0 ∷ []
  pub field_balance : refusal (cell 32768 0 1 0 (pos 2) ∷ end ∷ []) ≡ 5 ∷ 0 ∷ []
  pub field_zero : refusal (cell 32768 1 0 0 (pos 0) ∷ end ∷ []) ≡ 5 ∷ 0 ∷ []
  pub field_negative : refusal (cell 32768 0 0 0 (negsuc 0) ∷ end ∷ []) ≡ 5 ∷ 0 ∷ []
  pub field_sender : refusal (call 32768 32768 0 (pos 0) ∷ end ∷ []) ≡ 5 ∷ 0 ∷ []
  pub field_contract : refusal (call 5 5 0 (pos 0) ∷ end ∷ []) ≡ 5 ∷ 0 ∷ []
  pub field_value : refusal (call 5 32768 0 (negsuc 0) ∷ end ∷ []) ≡ 5 ∷ 0 ∷ []
  pub field_fuel : refusal (function 32768 0 [] ∷ call_fuelled 5 32768 0 (pos 0) 0 0 ∷ end ∷ []) ≡ 5 ∷ 8 ∷ []
  pub field_fuel_unknown : refusal (call_fuelled 5 32768 0 (pos 0) 0 0 ∷ end ∷ []) ≡ 5 ∷ 0 ∷ []
  pub fuel_1 : refusal (call_fuelled 5 32768 0 (pos 0) 0 1 ∷ call_fuelled 5 32768 0 (pos 0) 0 65535 ∷ end ∷ []) ≡ 0 ∷ 0 ∷ []
  -- 6 "not rising"
  pub rising_functions : refusal (function 32768 1 [] ∷ function 32768 1 [] ∷ end ∷ []) ≡ 6 ∷ 8 ∷ []
  pub rising_cells : refusal (cell 32768 1 0 0 (pos 1) ∷ cell 32768 0 0 0 (pos 1) ∷ end ∷ []) ≡ 6 ∷ 24 ∷ []
  -- 7 "a record beyond its kind's limit"
  pub functions_64 : refusal (functions 64 ∷ end ∷ []) ≡ 0 ∷ 0 ∷ []
  pub functions_65 : refusal (functions 65 ∷ end ∷ []) ≡ 7 ∷ 512 ∷ []
  pub calls_257 : refusal (times 257 (call 5 32768 0 (pos 0)) ∷ end ∷ []) ≡ 7 ∷ 9216 ∷ []
  -- 8 "bytes after the end"
  pub behind : refusal (end ∷ (0 ∷ []) ∷ []) ≡ 8 ∷ 4 ∷ []
  -- 9 "opening balances sum above 2^63 - 1, at the record that passes it"
  pub balances_at : refusal (cell 5 0 0 0 (pos (2 ^ 63 - 2)) ∷ cell 6 0 0 0 (pos 1) ∷ end ∷ []) ≡ 0 ∷ 0 ∷ []
  pub balances_above : refusal (cell 5 0 0 0 (pos (2 ^ 63 - 1)) ∷ cell 32768 0 0 0 (pos 1) ∷ end ∷ []) ≡ 9 ∷ 24 ∷ []
  -- 10 "code breaks a rule, at the instruction's offset"
  pub code_op : refusal (function 32768 0 (THROW ∷ instr 16 0 0 0 0 ∷ []) ∷ end ∷ []) ≡ 10 ∷ 16 ∷ []
  pub code_register : refusal (function 32768 0 (SET 8 (pos 0) ∷ []) ∷ end ∷ []) ≡ 10 ∷ 8 ∷ []
  pub code_argument : refusal (function 32768 0 (instr 3 0 5 0 0 ∷ []) ∷ end ∷ []) ≡ 10 ∷ 8 ∷ []
  pub code_source : refusal (function 32768 0 (instr 10 0 7 0 1 ∷ []) ∷ end ∷ []) ≡ 10 ∷ 8 ∷ []
  pub code_field : refusal (function 32768 0 (instr 10 0 6 0 65536 ∷ []) ∷ end ∷ []) ≡ 10 ∷ 8 ∷ []
  pub code_constant : refusal (function 32768 0 (instr 11 0 0 0 65537 ∷ []) ∷ end ∷ []) ≡ 10 ∷ 8 ∷ []
  pub code_pay : refusal (function 32768 0 (instr 13 0 6 0 1 ∷ []) ∷ end ∷ []) ≡ 10 ∷ 8 ∷ []
  pub code_unused : refusal (function 32768 0 (instr 0 0 0 0 1 ∷ []) ∷ end ∷ []) ≡ 10 ∷ 8 ∷ []
  pub jump_back : refusal (function 32768 0 (JEQ 0 0 0 ∷ []) ∷ end ∷ []) ≡ 0 ∷ 0 ∷ []
  pub jump_end : refusal (function 32768 0 (JEQ 0 0 1 ∷ []) ∷ end ∷ []) ≡ 0 ∷ 0 ∷ []
  pub jump_past : refusal (function 32768 0 (JEQ 0 0 2 ∷ []) ∷ end ∷ []) ≡ 10 ∷ 8 ∷ []
  -- 11 "over 24 keys, at the call"
  pub keys_25 : told (opening_of fixed_sizes (keys_block 25) max_workers) ≡ 11 ∷ 208 ∷ []
  -- 12 "over 1,024, at the call that passes it": 42 calls of 24 keys, and one more
  pub keys_1032 : refusal (function 32768 0 (gets 24) ∷ calls 43 ∷ end ∷ []) ≡ 12 ∷ 1712 ∷ []
  -- 13 "workers not 1 to 8 (offset 0)"
  pub workers_0 : told (opening_of fixed_sizes end 0) ≡ 13 ∷ 0 ∷ []
  pub workers_9 : told (opening_of fixed_sizes end 9) ≡ 13 ∷ 0 ∷ []
  -- 20 "a lent buffer .. shorter than the fixed size"
  pub sizes_right : opened_in (sizes 8192 2048 1024 1024 128 256) ≡ 0 ∷ 0 ∷ []
  pub plan_short : opened_in (sizes 8191 2048 1024 1024 128 256) ≡ 20 ∷ 0 ∷ []
  pub keys_short : opened_in (sizes 8192 2047 1024 1024 128 256) ≡ 20 ∷ 0 ∷ []
  pub cells_short : opened_in (sizes 8192 2048 1023 1024 128 256) ≡ 20 ∷ 0 ∷ []
  pub status_short : opened_in (sizes 8192 2048 1024 1023 128 256) ≡ 20 ∷ 0 ∷ []
  pub seats_short : opened_in (sizes 8192 2048 1024 1024 127 256) ≡ 20 ∷ 0 ∷ []
  pub frames_short : opened_in (sizes 8192 2048 1024 1024 128 255) ≡ 20 ∷ 0 ∷ []
  -- "Order: 20 .., 13, 1; by record 2 (head), 3, 4, 2 (body), 7, 5, 10, 6, 9; after the end 8; then by call 11, 12."
  pub order_20_13 : told (opening_of (sizes 0 0 0 0 0 0) end 9) ≡ 20 ∷ 0 ∷ []
  pub order_13_2 : told (opening_of fixed_sizes [] 9) ≡ 13 ∷ 0 ∷ []
  pub order_3_4 : refusal (recordOf 5 (0 ∷ []) ∷ []) ≡ 3 ∷ 0 ∷ []
  pub order_4_2 : refusal ((21 ∷ 0 ∷ 2 ∷ 0 ∷ []) ∷ []) ≡ 4 ∷ 0 ∷ []
  pub order_7_5 : refusal (functions 64 ∷ function 5 0 [] ∷ end ∷ []) ≡ 7 ∷ 512 ∷ []
  pub order_5_10 : refusal (function 5 0 (instr 16 0 0 0 0 ∷ []) ∷ end ∷ []) ≡ 5 ∷ 0 ∷ []
  pub order_10_6 : refusal (function 32768 1 [] ∷ function 32768 1 (instr 16 0 0 0 0 ∷ []) ∷ end ∷ []) ≡ 10 ∷ 16 ∷ []
  pub order_6_9 : refusal (cell 5 0 0 0 (pos (2 ^ 63 - 1)) ∷ cell 5 0 0 0 (pos 1) ∷ end ∷ []) ≡ 6 ∷ 24 ∷ []
  pub order_8_11 : refusal (function 32768 0 (gets 25) ∷ call 5 32768 0 (pos 0) ∷ end ∷ (0 ∷ []) ∷ []) ≡ 8 ∷ 248 ∷ []

pub refusals : Refusals
unfolding console.computing times functions calls gets keys_block
refusals =
    record {
      accepted = refl;
      too_long = refl;
      empty = refl;
      head_cut_lem = refl;
      body_cut_lem = refl;
      end_missing = refl;
      kind_0 = refl;
      kind_5 = refl;
      kind_falling = refl;
      length_end = refl;
      length_code = refl;
      length_65 = refl;
      length_call = refl;
      field_function = refl;
      field_account = refl;
      field_balance = refl;
      field_zero = refl;
      field_negative = refl;
      field_sender = refl;
      field_contract = refl;
      field_value = refl;
      field_fuel = refl;
      field_fuel_unknown = refl;
      fuel_1 = refl;
      rising_functions = refl;
      rising_cells = refl;
      functions_64 = refl;
      functions_65 = refl;
      calls_257 = refl;
      behind = refl;
      balances_at = refl;
      balances_above = refl;
      code_op = refl;
      code_register = refl;
      code_argument = refl;
      code_source = refl;
      code_field = refl;
      code_constant = refl;
      code_pay = refl;
      code_unused = refl;
      jump_back = refl;
      jump_end = refl;
      jump_past = refl;
      keys_25 = refl;
      keys_1032 = refl;
      workers_0 = refl;
      workers_9 = refl;
      sizes_right = refl;
      plan_short = refl;
      keys_short = refl;
      cells_short = refl;
      status_short = refl;
      seats_short = refl;
      frames_short = refl;
      order_20_13 = refl;
      order_13_2 = refl;
      order_3_4 = refl;
      order_4_2 = refl;
      order_7_5 = refl;
      order_5_10 = refl;
      order_10_6 = refl;
      order_6_9 = refl;
      order_8_11 = refl;
    }
