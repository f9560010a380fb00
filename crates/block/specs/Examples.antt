-- What the reader makes of block P, and some refusals, computed.
use Rattle.std.specs.Prelude.{◌≡◌, refl, ℕ, ◌*◌, ◌^◌, pos, length, None, Some}
use mathlib.Core.List.{List, [], ◌∷◌, ◌++◌, map, flatten}
use Rattle.block.specs.Key.{payee_of}
use Rattle.wire.specs.Bytes.{bytes_of}
use Rattle.block.specs.InstructionBytes.{instr}
use Rattle.block.specs.Record.{function_id, recordOf}
use Rattle.block.specs.Reader.{Read, accepted, refused, read_block}
use Rattle.block.specs.Encoding.{file_of, block_for}
use Rattle.block.specs.Refusal.{number_of, offset_of}
use Rattle.block.specs.Assemble.{text, STOP, SET, JEQ, JLT, function, call_fuelled, call, end}
use Rattle.block.specs.Worked.{P, contents_p, account0}
use Rattle.block.specs.Computing.{computing}

-- A block's functions (contract and number), their codes' starts and lengths, its keys, the number of its calls and the first one's
-- offset; of a refused file, the number and the offset.
unfoldable pub outline : Read → List (List ℕ)
outline (refused why) = (number_of why ∷ offset_of why ∷ []) ∷ []
outline (accepted b) =
    map function_id b.functions
    ∷ map (λ f. f.start) b.functions
    ∷ map (λ f. f.size) b.functions
    ∷ map (λ c. c.key) b.cells ∷ (length b.calls ∷ b.first_call ∷ []) ∷ []

abbrev reads : List (List ℕ) → List (List ℕ)
reads parts = outline (read_block (flatten parts))

pub record Read-P : Type 0 where
  pub block_p : outline (read_block P) ≡ (2147483648 ∷ 2147483649 ∷ 2147483650 ∷ []) ∷ (8 ∷ 32 ∷ 80 ∷ []) ∷ (2 ∷ 5 ∷ 2 ∷ []) ∷ ((5 * 2 ^ 80) ∷ []) ∷ (3 ∷ 120 ∷ []) ∷ []
  -- It is the file of its contents, and read as they are.
  pub file_p : file_of contents_p ≡ P
  pub contents_p_lem : read_block P ≡ accepted (block_for contents_p)
  -- 10 comes before 6: the second function is not rising and has a wrong instruction.
  pub code_first : reads (function 32768 1 [] ∷ function 32768 1 (instr 16 0 0 0 0 ∷ []) ∷ end ∷ []) ≡ (10 ∷ 16 ∷ []) ∷ []
  -- M-104: a jump may go to any index, its own and the code's length among them, and past the length to none.
  pub jump_back : reads (function 32768 0 (STOP ∷ JEQ 0 0 0 ∷ []) ∷ end ∷ []) ≡ (2147483648 ∷ []) ∷ (8 ∷ []) ∷ (2 ∷ []) ∷ [] ∷ (0 ∷ 24 ∷ []) ∷ []
  pub jump_here : reads (function 32768 0 (JLT 0 0 0 ∷ []) ∷ end ∷ []) ≡ (2147483648 ∷ []) ∷ (8 ∷ []) ∷ (1 ∷ []) ∷ [] ∷ (0 ∷ 16 ∷ []) ∷ []
  pub jump_end : reads (function 32768 0 (JEQ 0 0 1 ∷ []) ∷ end ∷ []) ≡ (2147483648 ∷ []) ∷ (8 ∷ []) ∷ (1 ∷ []) ∷ [] ∷ (0 ∷ 16 ∷ []) ∷ []
  pub jump_past : reads (function 32768 0 (JEQ 0 0 2 ∷ []) ∷ end ∷ []) ≡ (10 ∷ 8 ∷ []) ∷ []
  pub register_8 : reads (function 32768 0 (SET 8 (pos 0) ∷ []) ∷ end ∷ []) ≡ (10 ∷ 8 ∷ []) ∷ []
  -- A contract is no sender, and an account no contract.
  pub sender : reads (call 32768 32768 0 (pos 0) ∷ end ∷ []) ≡ (5 ∷ 0 ∷ []) ∷ []
  pub contract : reads (call 32767 32767 0 (pos 0) ∷ end ∷ []) ≡ (5 ∷ 0 ∷ []) ∷ []
  -- M-104: fuel "zero is refusal 5", at the call's record, whether or not its function is known; 1 and 65,535 are good; a body without fuel has another length.
  pub fuel_0 : reads (function 32768 0 [] ∷ call_fuelled 5 32768 0 (pos 0) 0 0 ∷ end ∷ []) ≡ (5 ∷ 8 ∷ []) ∷ []
  pub fuel_0_unknown : reads (call 5 32768 0 (pos 0) ∷ call_fuelled 5 32768 0 (pos 0) 0 0 ∷ end ∷ []) ≡ (5 ∷ 36 ∷ []) ∷ []
  pub fuel_ends : reads (call_fuelled 5 32768 0 (pos 0) 0 1 ∷ call_fuelled 5 32768 0 (pos 0) 0 65535 ∷ end ∷ []) ≡ [] ∷ [] ∷ [] ∷ [] ∷ (2 ∷ 0 ∷ []) ∷ []
  pub no_fuel : reads (recordOf 3 (bytes_of 2 5 ++ bytes_of 2 32768 ++ bytes_of 26 0) ∷ end ∷ []) ≡ (4 ∷ 0 ∷ []) ∷ []
  pub behind : reads (end ∷ (0 ∷ []) ∷ []) ≡ (8 ∷ 4 ∷ []) ∷ []
  -- M-101: whom PAY pays by a number; and that neither a PAY to account 0, nor its opening cell, nor a call that it sends is refused.
  pub payees : map payee_of (0 ∷ 1 ∷ 32767 ∷ 32768 ∷ 65536 ∷ 65537 ∷ []) ≡ None ∷ Some (record { 0 = 1 }) ∷ Some (record { 0 = 32767 }) ∷ None ∷ None ∷ None ∷ []
  pub account_0 : outline (read_block account0) ≡ (2147483648 ∷ 2147483649 ∷ 2147483650 ∷ 2147483651 ∷ 2621440000 ∷ []) ∷ (8 ∷ 32 ∷ 48 ∷ 72 ∷ 96 ∷ []) ∷ (2 ∷ 1 ∷ 2 ∷ 2 ∷ 3 ∷ []) ∷ (0 ∷ (32768 * 2 ^ 80) ∷ (40000 * 2 ^ 80) ∷ []) ∷ (9 ∷ 192 ∷ []) ∷ []

pub read_p : Read-P
unfolding computing text P contents_p account0 outline
read_p =
    record {
      block_p = refl;
      file_p = refl;
      contents_p_lem = refl;
      code_first = refl;
      jump_back = refl;
      jump_here = refl;
      jump_end = refl;
      jump_past = refl;
      register_8 = refl;
      sender = refl;
      contract = refl;
      fuel_0 = refl;
      fuel_0_unknown = refl;
      fuel_ends = refl;
      no_fuel = refl;
      behind = refl;
      payees = refl;
      account_0 = refl;
    }
