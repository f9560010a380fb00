-- The reader's loop: its numbers and its table stand for a block from which the definition reads on to what it makes of the whole file.
use mathlib.Core.Path.{◌≡◌, refl, sym, ◌∙◌, ap, subst}
use mathlib.Core.List.{List, [], ◌∷◌, ◌++◌, map, append_assoc}
use Prim.Native.Nat.{ℕ, zero, suc, ◌+◌, ◌-◌, ◌<◌, ◌≤◌}
use native.Mathlib.Omega.{arith}
use lib.ListN.{length, drop, set, replicate, length-append, length-drop, length-map}
use lib.Seq.{set-append_seam}
use borrow.Author.Tests.{lt-ltb, le-ltb}
use Rattle.std.specs.Prelude.{Result, Ok, Err, IsErrAnd}
use Rattle.arith.specs.Balance.{total}
use Rattle.wire.specs.Bytes.{repeated, padded}
use Rattle.block.specs.Record.{Block}
use Rattle.block.specs.Reader.{Read, Reading, accepted, refused, due, ended, empty_block, balances, read_record, read_from, read_block}
use Rattle.block.proofs.ReaderLaws.{Reached, Right, reached_start}
use Rattle.block.proofs.ReaderRight.{right_record}
use Rattle.reader.specs.Layout.{numbers_of, no_numbers, table, layout_of}
use Rattle.reader.specs.Standing.{floor_of, NumbersOfBlock, MovedOn, Added, TurnFollows}
use Rattle.reader.specs.declared.FunctionAt.{FunctionAt}
use Rattle.reader.specs.declared.Layout.{Layout}
use Rattle.block.specs.declared.Refusal.{Refusal}
use Rattle.block.specs.declared.Refusal.TheVariants.{InputTooLong}
use Rattle.reader.specs.declared.Progress.{Progress}
use Rattle.reader.specs.declared.Turn.TheVariants.{More, Function as AddFunction, End}

-- ---- the table

-- One more entry is stored behind the others.
table_more : {A : Type 0} (n : ℕ) (z : A) (l : List A) (x : A) → length l < n → set (padded n z l) (length l) x ≡ padded n z (l ++ (x ∷ []))
unfolding repeated
table_more n z l x h =
    let e : n - length l ≡ suc (n - (length l + 1)) = omega arith in
    let f : n - length (l ++ (x ∷ [])) ≡ n - (length l + 1) = omega (arith, length-append l (x ∷ [])) in
    ap (λ (m : ℕ). set (l ++ replicate m z) (length l) x) e
    ∙ set-append_seam l z (replicate (n - (length l + 1)) z) x
    ∙ sym (append_assoc l (x ∷ []) (replicate (n - (length l + 1)) z))
    ∙ ap (λ (m : ℕ). (l ++ (x ∷ [])) ++ replicate m z) (sym f)

stored_entry : (b b' : Block) (t : List FunctionAt) (n : ℕ) (x : FunctionAt) → t ≡ table b.functions → n ≡ length b.functions → n < 64
    → Added b b' x → set t n x ≡ table b'.functions
stored_entry b b' t n x e k h g =
    let m : length (map numbers_of b.functions) ≡ n = length-map b.functions numbers_of ∙ sym k in
    rw (e, g) (ap (λ (i : ℕ). set (padded 64 no_numbers (map numbers_of b.functions)) i x) (sym m) ∙ table_more 64 no_numbers (map numbers_of b.functions) x (omega arith))

-- ---- a file that is not too long, and one that is

short_file : (file : List ℕ) → length file ≤ 65536 → read_block file ≡ read_from (length file + 1) (length file) (due 0 0 file empty_block)
unfolding read_block
short_file file h = simp (le-ltb 65536 (length file) h)

pub long_file : (file : List ℕ) → 65536 < length file → refused InputTooLong ≡ read_block file
unfolding read_block
long_file file h = simp (lt-ltb 65536 (length file) h)

-- ---- a turn

pub record ReaderStands (file : List ℕ) (p : Progress) (b : Block) : Type 0 where
  pub turns : ℕ
  pub same : read_from turns (length file) (due p.kind p.at (drop p.at file) b) ≡ read_block file
  pub enough : length file < turns + p.at
  pub small : length file ≤ 65536
  pub reached : Reached file p.kind p.at (drop p.at file) b
  pub holds : NumbersOfBlock p b

pub record ReadingOn (file : List ℕ) (t : List FunctionAt) (p : Progress) : Type 0 where
  pub b : Block
  pub stands : ReaderStands file p b
  pub kept : t ≡ table b.functions

-- The same place by other names.
place : (file : List ℕ) (b : Block) (k n k' n' : ℕ) (rest : List ℕ) → k' ≡ k → n' ≡ n → rest ≡ drop n file
    → due k' n' (drop n' file) b ≡ due k n rest b
place file b k n k' n' rest e f g = rw (e, f, g) refl

reached_place : (file : List ℕ) (b : Block) (k n k' n' : ℕ) (rest : List ℕ) → k' ≡ k → n' ≡ n → rest ≡ drop n file → Reached file k n rest b
    → Reached file k' n' (drop n' file) b
reached_place file b k n k' n' rest e f g r = rw (e, f, ← g) r

read_ended : (turns size : ℕ) (r : Read) → read_from turns size (ended r) ≡ r
unfolding read_from
read_ended zero size r = refl
read_ended (suc turns) size r = refl

read_due : (turns size kind at : ℕ) (rest : List ℕ) (b : Block) → read_from (suc turns) size (due kind at rest b) ≡ read_from turns size (read_record size kind at rest b)
unfolding read_from
read_due turns size kind at rest b = refl

module _ (file : List ℕ) (p : Progress) (b : Block) (s : ReaderStands file p b) where
  one_turn : s.turns ≡ suc (s.turns - 1)
  one_turn = let w : p.at ≤ length file = s.reached.within in omega arith

  -- The definition's turn.
  turned : read_from (s.turns - 1) (length file) (read_record (length file) p.kind p.at (drop p.at file) b) ≡ read_block file
  turned =
      sym (read_due (s.turns - 1) (length file) p.kind p.at (drop p.at file) b)
      ∙ ap (λ (n : ℕ). read_from n (length file) (due p.kind p.at (drop p.at file) b)) (sym one_turn)
      ∙ s.same

  advance : (q : Progress) (k n : ℕ) (rest : List ℕ) (b' : Block) → read_record (length file) p.kind p.at (drop p.at file) b ≡ due k n rest b'
      → MovedOn p q k n b' → ReaderStands file q b'
  advance q k n rest b' e m =
      let r : Reached file k n rest b' = subst (Right file) e (right_record file p.kind p.at (drop p.at file) b s.reached) in
      let l : p.at < q.at = m.later in
      record {
        turns = s.turns - 1;
        same =
            ap (read_from (s.turns - 1) (length file)) (place file b' k n q.kind q.at rest m.kind m.at r.here)
            ∙ ap (read_from (s.turns - 1) (length file)) (sym e)
            ∙ turned;
        enough = let t : s.turns ≡ suc (s.turns - 1) = one_turn in let u : length file < s.turns + p.at = s.enough in omega arith;
        small = s.small;
        reached = reached_place file b' k n q.kind q.at rest m.kind m.at r.here r;
        holds = m.holds;
      }

  onward : (q : Progress) (k n : ℕ) (rest : List ℕ) (b' : Block) → read_record (length file) p.kind p.at (drop p.at file) b ≡ due k n rest b'
      → MovedOn p q k n b' → length file - q.at < length file - p.at
  onward q k n rest b' e m =
      let w : q.at ≤ length file = (advance q k n rest b' e m).reached.within in
      let l : p.at < q.at = m.later in
      omega arith

-- The loop after one more record: fewer bytes are left.
pub record Advanced (file : List ℕ) (t : List FunctionAt) (p q : Progress) : Type 0 where
  pub going : ReadingOn file t q
  pub less : length file - q.at < length file - p.at

module _ (file : List ℕ) (kept : List FunctionAt) (p : Progress) (g : ReadingOn file kept p) where
  abbrev turn : Reading
  turn = read_record (length file) p.kind p.at (drop p.at file) g.b

  pub reading_more : (q : Progress) → TurnFollows p g.b (Ok (More q)) turn → Advanced file kept p q
  reading_more q t = go turn refl t
    where
      go : (r : Reading) → turn ≡ r → TurnFollows p g.b (Ok (More q)) r → Advanced file kept p q
      go (due k n rest b') e t =
          record {
            going =
                record {
                  b = b';
                  stands = advance file p g.b g.stands q k n rest b' e t.0;
                  kept = g.kept ∙ ap table (sym t.1);
                };
            less = onward file p g.b g.stands q k n rest b' e t.0;
          }
      go (ended r) e t = absurd t

  module _ (q : Progress) (f : FunctionAt) (t : TurnFollows p g.b (Ok (AddFunction q f)) turn) where
    -- There is room in the table.
    pub going_room : p.functions < 64
    going_room = go turn refl t
      where
        go : (r : Reading) → turn ≡ r → TurnFollows p g.b (Ok (AddFunction q f)) r → p.functions < 64
        go (due k n rest b') e t =
            let limit : length b'.functions ≤ 64 = (advance file p g.b g.stands q k n rest b' e t.0).reached.laws.function_limit in
            let count : p.functions ≡ length g.b.functions = g.stands.holds.functions in
            let more : length (map numbers_of b'.functions) ≡ length (map numbers_of g.b.functions) + 1 =
            ap length t.1 ∙ length-append (map numbers_of g.b.functions) (f ∷ []) in
            omega (arith, length-map b'.functions numbers_of, length-map g.b.functions numbers_of)
        go (ended r) e t = absurd t

    pub going_function : Advanced file (set kept p.functions f) p q
    going_function = go turn refl t
      where
        go : (r : Reading) → turn ≡ r → TurnFollows p g.b (Ok (AddFunction q f)) r
            → Advanced file (set kept p.functions f) p q
        go (due k n rest b') e t =
            let count : p.functions ≡ length g.b.functions = g.stands.holds.functions in
            record {
              going =
                  record {
                    b = b';
                    stands = advance file p g.b g.stands q k n rest b' e t.0;
                    kept = stored_entry g.b b' kept p.functions f g.kept count going_room t.1;
                  };
              less = onward file p g.b g.stands q k n rest b' e t.0;
            }
        go (ended r) e t = absurd t

  -- The answer.
  answer : (r : Read) → turn ≡ ended r → r ≡ read_block file
  answer r e =
      sym (read_ended (g.stands.turns - 1) (length file) r)
      ∙ ap (read_from (g.stands.turns - 1) (length file)) (sym e)
      ∙ turned file p g.b g.stands

  pub reading_refused : (why : Refusal) → TurnFollows p g.b (Err why) turn → layout_of (refused why) ≡ layout_of (read_block file)
  reading_refused why t = go turn refl t
    where
      go : (r : Reading) → turn ≡ r → TurnFollows p g.b (Err why) r → layout_of (refused why) ≡ layout_of (read_block file)
      go (due k n rest b') e t = absurd t
      go (ended (refused told)) e t = ap (λ (w : Refusal). layout_of (refused w)) t ∙ ap layout_of (answer (refused told) e)
      go (ended (accepted b')) e t = absurd t

  pub reading_end : TurnFollows p g.b (Ok End) turn
      → ◌≡◌ {A = Result Layout Refusal}
      (Ok record { functions = p.functions; cells = p.cells; calls = p.calls; opening = p.opening; first_call = p.first_call; table = kept })
      (layout_of (read_block file))
  unfolding layout_of
  reading_end t = all ∙ go turn refl t
    where
      all : ◌≡◌ {A = Result Layout Refusal}
          (Ok record { functions = p.functions; cells = p.cells; calls = p.calls; opening = p.opening; first_call = p.first_call; table = kept })
          (layout_of (accepted g.b))
      all =
          let h : NumbersOfBlock p g.b = g.stands.holds in
          λ i.
          Ok record {
            functions = h.functions i;
            cells = h.cells i;
            calls = h.calls i;
            opening = h.opening i;
            first_call = h.first_call i;
            table = g.kept i;
          }

      go : (r : Reading) → turn ≡ r → TurnFollows p g.b (Ok End) r → layout_of (accepted g.b) ≡ layout_of (read_block file)
      go (due k n rest b') e t = absurd t
      go (ended (refused why)) e t = absurd t
      go (ended (accepted b')) e t = ap (λ (x : Block). layout_of (accepted x)) (sym t) ∙ ap layout_of (answer (accepted b') e)

-- A refusal that is handed on.
pub handed_on : (r : Result Layout Refusal) (why : Refusal) → IsErrAnd r (λ e. e ≡ why) → r ≡ layout_of (refused why)
unfolding layout_of
handed_on (Ok l) why h = absurd h
handed_on (Err e) why h = ap (λ (w : Refusal). layout_of (refused w)) h

-- The rest of the file is what is left behind the reader.
pub rest_size : (file : List ℕ) (at : ℕ) → at ≤ length file → at + length (drop at file) ≡ length file
rest_size file at h = omega (arith, length-drop at file)

-- The start: nothing is read, and the table is zero.
abbrev progress_start : Progress
progress_start = record { kind = 0; at = 0; functions = 0; cells = 0; calls = 0; opening = 0; first_call = 0; least = 0; high = 0; low = 0; sum = 0 }

start_holds : NumbersOfBlock progress_start empty_block
unfolding floor_of total balances
start_holds =
    record {
      functions = refl;
      cells = refl;
      calls = refl;
      opening = refl;
      first_call = refl;
      ids = refl;
      keys = refl;
      sum = refl;
      steady = record { low = omega arith; sum = omega arith };
    }

pub reading_start : (file : List ℕ) (p : Progress) (z : FunctionAt) → length file ≤ 65536
    → (p.kind ≡ 0) × ((p.at ≡ 0) × ((p.functions ≡ 0) × ((p.cells ≡ 0) × ((p.calls ≡ 0) × ((p.opening ≡ 0) × ((p.first_call ≡ 0) × ((p.least ≡ 0) × ((p.high ≡ 0) × ((p.low ≡ 0) × ((p.sum ≡ 0)))))))))))
    → (z.id ≡ 0) × ((z.start ≡ 0) × (z.size ≡ 0)) → ReadingOn file (repeated 64 z) p
reading_start file p z small h n =
    let e : p ≡ progress_start =
    λ i. record { kind = h.0 i; at = h.1.0 i; functions = h.1.1.0 i; cells = h.1.1.1.0 i; calls = h.1.1.1.1.0 i; opening = h.1.1.1.1.1.0 i; first_call = h.1.1.1.1.1.1.0 i; least = h.1.1.1.1.1.1.1.0 i; high = h.1.1.1.1.1.1.1.1.0 i; low = h.1.1.1.1.1.1.1.1.1.0 i; sum = h.1.1.1.1.1.1.1.1.1.1 i } in
    let none : z ≡ no_numbers = λ i. record { id = n.0 i; start = n.1.0 i; size = n.1.1 i } in
    rw (e, none) (
    record {
      b = empty_block;
      stands =
          record {
            turns = length file + 1;
            same = sym (short_file file small);
            enough = omega arith;
            small = small;
            reached = reached_start file;
            holds = start_holds;
          };
      kept = refl;
    }
    )
