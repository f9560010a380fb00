-- Document 01's block P, as bytes and as contents; and for document 02 a block of payments to account 0, M-101, one of divisions, M-103, and one of loops, M-104.
use mathlib.Core.List.{List, [], ◌∷◌, flatten}
use Rattle.std.specs.Prelude.{ℕ, ◌^◌, ℤ, pos, neg_ℤ}
use Rattle.block.specs.Key.{key_of}
use Rattle.block.specs.Encoding.{Routine, Contents}
use Rattle.block.specs.Assemble.{STOP, THROW, SET, ARG, VALUE, ADD, SUB, MUL, DIV, GET, PUT, PAY, PAYTO, JEQ, function, cell, call_fuelled, call_with, call, end}
use Rattle.block.specs.declared.Call.{Call}

-- "Block P (document 003, example 1): contract 32768; f0: SET 0 1, PUT 0 field 1; f1: GET 0 field 1, JEQ 0 1 to 3, STOP, SET 2 1,
-- PAY 2 to constant 7; f2: SET 0 1, PAY 0 to constant 7. Account 5 opens with 2 and calls f0 value 0, f1 value 1, f2 value 1."
unfoldable pub P : List ℕ
P =
    flatten
    (function 32768 0 (SET 0 (pos 1) ∷ PUT 0 1 0 ∷ [])
    ∷ function 32768 1 (GET 0 1 0 ∷ JEQ 0 1 3 ∷ STOP ∷ SET 2 (pos 1) ∷ PAY 2 7 ∷ [])
    ∷ function 32768 2 (SET 0 (pos 1) ∷ PAY 0 7 ∷ [])
    ∷ cell 5 0 0 0 (pos 2)
    ∷ call 5 32768 0 (pos 0) ∷ call 5 32768 1 (pos 1) ∷ call 5 32768 2 (pos 1) ∷ end ∷ [])

-- The same in parts: a function of the contract, and a call from account 5.
abbrev routine : ℕ → List (List ℕ) → Routine
routine number instrs = record { contract = record { 0 = 32768 }; number = number; code = flatten instrs }

abbrev calls : ℕ → ℤ → Call
calls number value =
    record {
      sender = record { 0 = 5 };
      contract = record { 0 = 32768 };
      function = number;
      value = value;
      arg1 = 0;
      arg2 = 0;
      arg3 = 0;
      arg4 = 0;
      fuel = 64;
    }

unfoldable pub contents_p : Contents
contents_p =
    record {
      functions =
          routine 0 (SET 0 (pos 1) ∷ PUT 0 1 0 ∷ [])
          ∷ routine 1 (GET 0 1 0 ∷ JEQ 0 1 3 ∷ STOP ∷ SET 2 (pos 1) ∷ PAY 2 7 ∷ []) ∷ routine 2 (SET 0 (pos 1) ∷ PAY 0 7 ∷ []) ∷ [];
      cells = record { key = key_of 5 0 0 0; value = pos 2 } ∷ [];
      calls = calls 0 (pos 0) ∷ calls 1 (pos 1) ∷ calls 2 (pos 1) ∷ [];
    }

-- Account 0 is named by source 0, by the constant 0 with amount 0, by argument 1 and as the sender, and once more by source 0 in another contract, behind a
-- PUT. Calls 0 to 4 pay it; call 5 is that of 4 sent by account 7. Then account 0, which opens with 5, sends: 3 with a payment to account 8; 2 to a function
-- that pays account 0; and 3, of 2 that it has left.
unfoldable pub account0 : List ℕ
account0 =
    flatten
    (function 32768 0 (SET 0 (pos 1) ∷ PAYTO 0 0 ∷ [])
    ∷ function 32768 1 (PAY 0 0 ∷ [])
    ∷ function 32768 2 (SET 0 (pos 1) ∷ PAYTO 0 1 ∷ [])
    ∷ function 32768 3 (SET 0 (pos 1) ∷ PAYTO 0 5 ∷ [])
    ∷ function 40000 0 (SET 0 (pos 1) ∷ PUT 0 1 0 ∷ PAYTO 0 0 ∷ [])
    ∷ cell 0 0 0 0 (pos 5)
    ∷ cell 32768 0 0 0 (pos 9)
    ∷ cell 40000 0 0 0 (pos 9)
    ∷ call 7 32768 0 (pos 0)
    ∷ call 7 40000 0 (pos 0)
    ∷ call 7 32768 1 (pos 0)
    ∷ call_with 7 32768 2 (pos 0) 0
    ∷ call 0 32768 3 (pos 0)
    ∷ call 7 32768 3 (pos 0)
    ∷ call_with 0 32768 2 (pos 3) 8 ∷ call 0 40000 0 (pos 2) ∷ call 0 32768 1 (pos 3) ∷ end ∷ [])

-- 0 by 0; -2^63 by minus the argument, which is 0, 1 and 2; and, behind a PUT, the value of 7 by the argument, which is 0 and 2. Account 5 opens with 7 and sends it
-- twice, as it comes back with the first; field 1 opens with 9.
unfoldable pub zero_divisors : List ℕ
zero_divisors =
    flatten
    (function 32768 0 (DIV 0 1 2 ∷ [])
    ∷ function 32768 1 (GET 0 2 0 ∷ ARG 1 1 ∷ SUB 1 2 1 ∷ DIV 0 0 1 ∷ PUT 0 3 0 ∷ [])
    ∷ function 32768 2 (VALUE 0 ∷ PUT 0 1 0 ∷ ARG 1 1 ∷ DIV 0 0 1 ∷ PUT 0 1 0 ∷ [])
    ∷ cell 5 0 0 0 (pos 7)
    ∷ cell 32768 1 0 0 (pos 9)
    ∷ cell 32768 2 0 0 (neg_ℤ (pos (2 ^ 63)))
    ∷ call 5 32768 0 (pos 0)
    ∷ call_with 5 32768 1 (pos 0) 0
    ∷ call_with 5 32768 1 (pos 0) 1
    ∷ call_with 5 32768 1 (pos 0) 2 ∷ call_with 5 32768 2 (pos 7) 0 ∷ call_with 5 32768 2 (pos 7) 2 ∷ end ∷ [])

-- Two assignments with fuel for both, for one, and for one more; STOP behind an assignment, without and with fuel for it; a jump to its own index; an endless loop
-- over a PUT, with the value 7; a jump from the first instruction to the code's length; interest of 10 in 100 over as many periods as the argument says, on what field 2
-- holds, with just enough fuel and with one too little; and the first again, with the value. Account 5 opens with 7 and sends it twice, as it comes back with the loop.
unfoldable pub fuelled : List ℕ
fuelled =
    flatten
    (function 32768 0 (SET 0 (pos 1) ∷ SET 1 (pos 2) ∷ [])
    ∷ function 32768 1 (SET 0 (pos 1) ∷ STOP ∷ [])
    ∷ function 32768 2 (JEQ 0 0 0 ∷ [])
    ∷ function 32768 3 (VALUE 0 ∷ PUT 0 1 0 ∷ JEQ 0 0 1 ∷ [])
    ∷ function 32768 4 (JEQ 0 0 3 ∷ THROW ∷ THROW ∷ [])
    ∷ function 32768 5
    (GET 0 2 0
    ∷ ARG 1 1
    ∷ SET 2 (pos 10)
    ∷ SET 3 (pos 100)
    ∷ SET 4 (pos 1)
    ∷ JEQ 1 7 11 ∷ MUL 5 0 2 ∷ DIV 5 5 3 ∷ ADD 0 0 5 ∷ SUB 1 1 4 ∷ JEQ 7 7 5 ∷ PUT 0 2 0 ∷ [])
    ∷ cell 5 0 0 0 (pos 7)
    ∷ cell 32768 1 0 0 (pos 9)
    ∷ cell 32768 2 0 0 (pos 1000)
    ∷ call_fuelled 5 32768 0 (pos 0) 0 2
    ∷ call_fuelled 5 32768 0 (pos 0) 0 1
    ∷ call_fuelled 5 32768 0 (pos 0) 0 3
    ∷ call_fuelled 5 32768 1 (pos 0) 0 1
    ∷ call_fuelled 5 32768 1 (pos 0) 0 2
    ∷ call_fuelled 5 32768 2 (pos 0) 0 5
    ∷ call_fuelled 5 32768 3 (pos 7) 0 9
    ∷ call_fuelled 5 32768 4 (pos 0) 0 1
    ∷ call_fuelled 5 32768 5 (pos 0) 3 25
    ∷ call_fuelled 5 32768 5 (pos 0) 3 24 ∷ call_fuelled 5 32768 0 (pos 7) 0 2 ∷ end ∷ [])
