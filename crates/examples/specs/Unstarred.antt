-- Document 01's unstarred examples and the rows of its 'Plausible errors', computed from the definitions.
use Rattle.arith.specs.declared.NoResult.TheVariants.{Overflow, ZeroDivisor}
use Rattle.std.specs.Prelude.{◌≡◌, refl, true, false, ℕ, pos, negsuc, Err, Ok}
use mathlib.Core.List.{List, [], ◌∷◌, flatten}
use Rattle.arith.specs.Exact.{div_of}
use Rattle.block.specs.Limits.{max_workers}
use Rattle.block.specs.Refusal.{verdict_number}
use Rattle.machine.specs.Opening.{opening_of, opened_for_eight}
use Rattle.footprint.specs.Examples.{gets, keys_block}
use Rattle.sheet.specs.Sheet.{sheet_bytes}
use Rattle.machine.specs.Run.{fixed_sizes}
use Rattle.console.specs.Register.{register_of}
use Rattle.console.specs.Computing as console
use Rattle.block.specs.Assemble.{text, SET, PUT, THROW, function, cell, call, end}
use Rattle.block.specs.Worked.{P}
use Rattle.examples.specs.Joint.{waits}

unfoldable pub no_calls : List ℕ
no_calls = flatten (cell 5 0 0 0 (pos 2) ∷ cell 32768 0 0 0 (pos 1) ∷ cell 32768 1 0 7 (negsuc 4) ∷ end ∷ [])

pub record Unstarred : Type 0 where
  -- "24 keys accepted, 25 refused 11"
  pub keys_24 : verdict_number (opening_of fixed_sizes (keys_block 24) max_workers).answer ≡ 0
  pub keys_25 : verdict_number (opening_of fixed_sizes (keys_block 25) max_workers).answer ≡ 11
  -- "code of 0 instructions ends 0, count 0"
  pub no_code : register_of (keys_block 0) (text "b 0 0\ns 0\ns 0\n") ≡ text "t 0 0 0\n"
  -- "Block of no calls: sheet is opening plus end."
  pub no_calls_lem : sheet_bytes (opened_for_eight no_calls) ≡ no_calls

pub unstarred : Unstarred
unfolding console.computing text gets keys_block no_calls
unstarred = record { keys_24 = refl; keys_25 = refl; no_code = refl; no_calls_lem = refl }

-- Two calls that store 3 and 4 in cells of their own and then throw.
unfoldable pub two_aborts : List ℕ
two_aborts =
    flatten
    (function 32768 0 (SET 0 (pos 3) ∷ PUT 0 1 0 ∷ THROW ∷ [])
    ∷ function 32768 1 (SET 0 (pos 4) ∷ PUT 0 2 0 ∷ THROW ∷ [])
    ∷ cell 32768 1 0 0 (pos 8)
    ∷ cell 32768 2 0 0 (pos 9) ∷ call 5 32768 0 (pos 0) ∷ call 5 32768 1 (pos 0) ∷ end ∷ [])

pub record PlausibleErrors : Type 0 where
  -- "Testing write sets against write sets only": f1 of P reads what f0 writes.
  pub write_sets_only : waits P 1 0 ≡ true
  -- "Restoring values taken at BEGIN of another call": two calls run together, and each restores its own.
  pub another_begin : register_of two_aborts (text "b 0 0\nb 1 1\ns 0\ns 1\ns 0\ns 1\ns 0\ns 1\ns 1\ns 0\n") ≡ text "k 32768 1 0 0 8\nk 32768 2 0 0 9\nt 0 3 3\nt 1 3 3\n"
  -- "Taking sender's balance into the sets at value 0": calls 0 and 2 of P have one sender.
  pub sender_at_zero : waits P 2 0 ≡ false
  -- "Freeing waiters when a call is cancelled."
  pub freed_waiters : register_of P (text "b 0 0\nc 0\nb 1 1\n") ≡ text "r 3 25\nr 0 27\n"
  -- "Truncating division", in all four sign cases; the zero divisor and the overflow are told apart.
  pub division_1 : div_of (negsuc 6) (pos 2) ≡ Ok (negsuc 3)
  pub division_2 : div_of (pos 7) (negsuc 1) ≡ Ok (negsuc 3)
  pub division_3 : div_of (pos 7) (pos 2) ≡ Ok (pos 3)
  pub division_4 : div_of (negsuc 6) (negsuc 1) ≡ Ok (pos 3)
  pub division_5 : div_of (negsuc 9223372036854775807) (negsuc 0) ≡ Err Overflow
  pub division_6 : div_of (negsuc 6) (pos 0) ≡ Err ZeroDivisor

pub plausible_errors : PlausibleErrors
unfolding console.computing text P two_aborts
plausible_errors =
    record {
      write_sets_only = refl;
      another_begin = refl;
      sender_at_zero = refl;
      freed_waiters = refl;
      division_1 = refl;
      division_2 = refl;
      division_3 = refl;
      division_4 = refl;
      division_5 = refl;
      division_6 = refl;
    }
