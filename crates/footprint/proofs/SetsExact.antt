-- The two sets of a call are those of document 01's words.
use Rattle.block.specs.declared.address.Account.{Account}
use mathlib.Core.Path.{◌≡◌, refl, sym, ap, ap₂, ◌∙◌}
use mathlib.Core.Bool.{Bool, true, false, ◌&&◌, ◌||◌, or-false}
use mathlib.Core.List.{List, [], ◌∷◌, ◌++◌}
use Prim.Native.Nat.{ℕ, zero, suc}
use lib.Dec.{eqb}
use lib.IntN.{pos}
use lib.ListN.{drop}
use lib.Signed.{lt_z}
use Rattle.footprint.specs.SetsInWords.{read_by, paid_to, written_by, some_of, is_read, is_written, ReadsExact, WritesExact}
use Rattle.std.specs.Prelude.{if◌then◌else◌, None, Option, Some}
use Rattle.block.specs.Key.{account_balance, contract_balance}
use Rattle.block.specs.Instruction.{instr_bytes, decode}
use Rattle.block.specs.Record.{Function, code_at}
use Rattle.block.specs.declared.Call.{Call}
use Rattle.block.specs.declared.Instr.{Instr}
use Rattle.block.specs.declared.Instr.TheVariants.{Stop, Throw, Set, Arg, Sender, Value, Add, Sub, Mul, Div, Get, Put, Bal, Pay, Jeq, Jlt}
use Rattle.footprint.specs.Access.{Access, changing, writing, entry_accesses, pay_accesses, accesses}
use Rattle.block.specs.Naming.{cell_key, target_of, function_of}
use Rattle.footprint.specs.Sets.{merge_all, code_accesses, decoded_accesses, function_sets, read_set, write_set}
use Rattle.footprint.specs.Conflict.{member}
use Rattle.footprint.proofs.ConflictLaws.{member_append}
use Rattle.footprint.proofs.SetLaws.{reads_union, writes_union}
use Rattle.rule.specs.Rule.{with_instr, body_of}

-- The keys of the accesses with a flag: those of a code are those of its instructions.
module _ (flag : Access → Bool) (chosen : List Access → List ℕ) (nothing : chosen [] ≡ [])
    (one : (e : Access) (es : List Access) → chosen (e ∷ es) ≡ (if flag e then e.key ∷ chosen es else chosen es)) where
  chosen_append : (es fs : List Access) → chosen (es ++ fs) ≡ chosen es ++ chosen fs
  chosen_append [] fs = ap (λ (ks : List ℕ). ks ++ chosen fs) (sym nothing)
  chosen_append (e ∷ es) fs =
      one e (es ++ fs) ∙ go (flag e) (chosen_append es fs) ∙ ap (λ (ks : List ℕ). ks ++ chosen fs) (sym (one e es))
    where
      go : (b : Bool) → chosen (es ++ fs) ≡ chosen es ++ chosen fs
          → (if b then e.key ∷ chosen (es ++ fs) else chosen (es ++ fs)) ≡ (if b then e.key ∷ chosen es else chosen es) ++ chosen fs
      go true ih = ap (λ (ks : List ℕ). e.key ∷ ks) ih
      go false ih = ih

  module _ (c : Call) (k : ℕ) (test : Instr → Bool) (each : (i : Instr) → member k (chosen (accesses c i)) ≡ test i) where
    code_chosen : (left size : ℕ) (s : List ℕ)
        → member k (chosen (code_accesses c left size s)) ≡ some_of test (body_of left size s)
    unfolding code_accesses body_of with_instr some_of member
    code_chosen zero size s = ap (member k) nothing
    code_chosen (suc left) size s =
        ap (member k) (chosen_append (decoded_accesses c (decode size s)) rest)
        ∙ member_append k (chosen (decoded_accesses c (decode size s))) (chosen rest)
        ∙ go (decode size s) (code_chosen left size (drop instr_bytes s))
      where
        rest : List Access
        rest = code_accesses c left size (drop instr_bytes s)

        body : List Instr
        body = body_of left size (drop instr_bytes s)

        go : (d : Option Instr) → member k (chosen rest) ≡ some_of test body
            → (member k (chosen (decoded_accesses c d)) || member k (chosen rest)) ≡ some_of test (with_instr d body)
        go (Some i) ih = ap₂ (λ (a b : Bool). a || b) (each i) ih
        go None ih = ap₂ (λ (a b : Bool). a || b) (ap (member k) nothing) ih

-- ---- the read set

module _ (c : Call) (k : ℕ) where
  pay_read : (p : Option Account) → member k (read_set (pay_accesses c p)) ≡ eqb k (contract_balance c.contract)
  unfolding pay_accesses read_set member
  pay_read (Some account) = or-false (eqb k (contract_balance c.contract))
  pay_read None = or-false (eqb k (contract_balance c.contract))

  instr_read : (i : Instr) → member k (read_set (accesses c i)) ≡ read_by c k i
  unfolding accesses read_by read_set member
  instr_read Stop = refl
  instr_read Throw = refl
  instr_read (Set x value) = refl
  instr_read (Arg x n) = refl
  instr_read (Sender x) = refl
  instr_read (Value x) = refl
  instr_read (Add x y z) = refl
  instr_read (Sub x y z) = refl
  instr_read (Mul x y z) = refl
  instr_read (Div x y z) = refl
  instr_read (Get x field a b) = or-false (eqb k (cell_key c field a b))
  instr_read (Put x field a b) = refl
  instr_read (Bal x) = or-false (eqb k (contract_balance c.contract))
  instr_read (Pay x target) = pay_read (target_of c target)
  instr_read (Jeq x y to) = refl
  instr_read (Jlt x y to) = refl

  entry_read : member k (read_set (entry_accesses c)) ≡ (lt_z (pos 0) c.value && eqb k (account_balance c.sender))
  unfolding entry_accesses read_set member
  entry_read = go (lt_z (pos 0) c.value)
    where
      go : (b : Bool)
          → member k (read_set (if b then changing (account_balance c.sender) ∷ writing (contract_balance c.contract) ∷ [] else []))
          ≡ (b && eqb k (account_balance c.sender))
      go true = or-false (eqb k (account_balance c.sender))
      go false = refl

  function_read : (block : List ℕ) (f : Option Function) → member k (read_set (function_sets block c f)) ≡ is_read block c k f
  unfolding function_sets is_read read_set member merge_all
  function_read block None = refl
  function_read block (Some f) =
      reads_union k (merge_all [] (entry_accesses c)) (code_accesses c f.size f.size (code_at block f.start f.size))
      ∙ ap₂ (λ (a b : Bool). a || b) (reads_union k [] (entry_accesses c) ∙ entry_read)
      (code_chosen (λ e. e.reads) read_set refl (λ e es. refl) c k (read_by c k) instr_read f.size f.size
      (code_at block f.start f.size))

pub reads_exact : ReadsExact
reads_exact block functions c k = function_read c k block (function_of functions c)

-- ---- the write set

module _ (c : Call) (k : ℕ) where
  pay_written : (p : Option Account) → member k (write_set (pay_accesses c p)) ≡ (eqb k (contract_balance c.contract) || paid_to k p)
  unfolding pay_accesses paid_to write_set member
  pay_written (Some account) =
      ap (λ (b : Bool). eqb k (contract_balance c.contract) || b) (or-false (eqb k (account_balance account)))
  pay_written None = refl

  instr_written : (i : Instr) → member k (write_set (accesses c i)) ≡ written_by c k i
  unfolding accesses written_by write_set member
  instr_written Stop = refl
  instr_written Throw = refl
  instr_written (Set x value) = refl
  instr_written (Arg x n) = refl
  instr_written (Sender x) = refl
  instr_written (Value x) = refl
  instr_written (Add x y z) = refl
  instr_written (Sub x y z) = refl
  instr_written (Mul x y z) = refl
  instr_written (Div x y z) = refl
  instr_written (Get x field a b) = refl
  instr_written (Put x field a b) = or-false (eqb k (cell_key c field a b))
  instr_written (Bal x) = refl
  instr_written (Pay x target) = pay_written (target_of c target)
  instr_written (Jeq x y to) = refl
  instr_written (Jlt x y to) = refl

  entry_written : member k (write_set (entry_accesses c))
      ≡ (lt_z (pos 0) c.value && (eqb k (account_balance c.sender) || eqb k (contract_balance c.contract)))
  unfolding entry_accesses write_set member
  entry_written = go (lt_z (pos 0) c.value)
    where
      go : (b : Bool)
          → member k (write_set (if b then changing (account_balance c.sender) ∷ writing (contract_balance c.contract) ∷ [] else []))
          ≡ (b && (eqb k (account_balance c.sender) || eqb k (contract_balance c.contract)))
      go true = ap (λ (t : Bool). eqb k (account_balance c.sender) || t) (or-false (eqb k (contract_balance c.contract)))
      go false = refl

  function_written : (block : List ℕ) (f : Option Function) → member k (write_set (function_sets block c f)) ≡ is_written block c k f
  unfolding function_sets is_written write_set member merge_all
  function_written block None = refl
  function_written block (Some f) =
      writes_union k (merge_all [] (entry_accesses c)) (code_accesses c f.size f.size (code_at block f.start f.size))
      ∙ ap₂ (λ (a b : Bool). a || b) (writes_union k [] (entry_accesses c) ∙ entry_written)
      (code_chosen (λ e. e.writes) write_set refl (λ e es. refl) c k (written_by c k) instr_written f.size f.size
      (code_at block f.start f.size))

pub writes_exact : WritesExact
writes_exact block functions c k = function_written c k block (function_of functions c)
