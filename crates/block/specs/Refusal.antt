-- "Stopped by the input. Number and record offset": what each refusal says.
use Rattle.std.specs.Prelude.{Bool, true, false, ℕ, Err, Ok, Result}
use Rattle.block.specs.declared.Refusal.{Refusal}
use Rattle.block.specs.declared.Refusal.TheVariants.{InputTooLong, Missing, Kind, Length, Field, NotRising, BeyondLimit, Behind, Balances, Code, CallKeys, AllKeys, Workers, Buffers}

-- "1 input above 65,536 bytes; 2 record or end missing or cut, where it begins or was due; 3 kind not 1 to 4, or falling;
-- 4 length not the kind's; 5 a field outside its range; 6 not rising; 7 a record beyond its kind's limit; 8 bytes after the
-- end; 9 opening balances sum above 2^63 - 1, at the record that passes it; 10 code breaks a rule, at the instruction's
-- offset; 11 over 24 keys, at the call; 12 over 1,024, at the call that passes it; 13 workers not 1 to 8 (offset 0)."
-- 20 stands here for a lent buffer that is too short.
unfoldable pub number_of : Refusal → ℕ
number_of InputTooLong = 1
number_of (Missing at) = 2
number_of (Kind at) = 3
number_of (Length at) = 4
number_of (Field at) = 5
number_of (NotRising at) = 6
number_of (BeyondLimit at) = 7
number_of (Behind at) = 8
number_of (Balances at) = 9
number_of (Code at) = 10
number_of (CallKeys at) = 11
number_of (AllKeys at) = 12
number_of Workers = 13
number_of Buffers = 20

-- "Offset is 0 for 1 and the first extra byte for 8"; 0 for 13 and 20 too.
unfoldable pub offset_of : Refusal → ℕ
offset_of InputTooLong = 0
offset_of (Missing at) = at
offset_of (Kind at) = at
offset_of (Length at) = at
offset_of (Field at) = at
offset_of (NotRising at) = at
offset_of (BeyondLimit at) = at
offset_of (Behind at) = at
offset_of (Balances at) = at
offset_of (Code at) = at
offset_of (CallKeys at) = at
offset_of (AllKeys at) = at
offset_of Workers = 0
offset_of Buffers = 0

-- The number and offset of a verdict; 0 stands for accepted.
unfoldable pub verdict_number : Result (Unit {0}) Refusal → ℕ
verdict_number (Ok tt) = 0
verdict_number (Err why) = number_of why

unfoldable pub verdict_offset : Result (Unit {0}) Refusal → ℕ
verdict_offset (Ok tt) = 0
verdict_offset (Err why) = offset_of why

-- Whether a file is accepted.
unfoldable pub is_accepted : Result (Unit {0}) Refusal → Bool
is_accepted (Ok tt) = true
is_accepted (Err why) = false
