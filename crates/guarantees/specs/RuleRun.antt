-- The calls of a block by their numbers, as demand 2 names them.
use Rattle.std.specs.Prelude.{List, ℕ, get_or, None, Option, Some}
use Rattle.block.specs.declared.Call.{Call}
use Rattle.block.specs.BlockOfFile.{block_of}

-- A call as its record in the block has it; for a record out of range, which no opened block has, some call.
unfoldable pub body_call : Option Call → Call
body_call (Some c) = c
body_call None =
    record {
      sender = record { 0 = 0 };
      contract = record { 0 = 32768 };
      function = 0;
      value = lib.IntN.pos 0;
      arg1 = 0;
      arg2 = 0;
      arg3 = 0;
      arg4 = 0;
      fuel = 0;
    }

-- The call at a place of a block's calls; behind the last, some call, which nothing is asked of.
abbrev pub call_in : List Call → ℕ → Call
call_in calls c = get_or calls c (body_call None)

abbrev pub call_of_block : List ℕ → ℕ → Call
call_of_block file call = call_in (block_of file).calls call
