-- Laws of reading and writing: a byte more, two widths joined, ranges, what a write leaves where, what a buffer holds. Each is said once, for every width.
use mathlib.Core.Path.{◌≡◌, refl, sym, ap, ap₂, ◌∙◌}
use mathlib.Core.List.{List, [], ◌∷◌, ◌++◌}
use Prim.Native.Nat.{ℕ, zero, suc, ◌+◌, ◌-◌, ◌*◌, ◌/◌, ◌%◌, ◌^◌, ◌≤◌, ◌<◌}
use native.Mathlib.Nat.{zero-add, add-zero, suc-add, add-suc, add_assoc, one-mul, mul_assoc, mul_comm, mul-add, pow-suc, div-one, div-div-eq-div-mul, mod-lt}
use native.Mathlib.Numerals.{add-one}
use native.Mathlib.Omega.{arith}
use lib.Dec.{lit<}
use lib.ListN.{length, get_or, take, drop, set, length-set, length-append, length-replicate, drop_of_length-le, take-append-drop, get_or-append}
use lib.Seq.{drop-nil, drop-cons, length-take-le, set_out, get_or-set_same, get_or-set_other, sets, sets-eq}
use Rattle.wire.specs.Bytes.{number, read_le, bytes_of, stored, write_le, repeated, padded}

-- ---- reading

number_nil : (k : ℕ) → number k [] ≡ 0
unfolding number
number_nil zero = refl
number_nil (suc k) = refl

-- The first byte, and the number in those behind it.
pub read_suc : (k : ℕ) (s : List ℕ) (at : ℕ) → read_le (suc k) s at ≡ get_or s at 0 + 256 * read_le k s (at + 1)
unfolding number
read_suc k [] at = simp (drop-nil, number_nil)
read_suc k (b ∷ s) zero = refl
read_suc k (b ∷ s) (suc at) = simp suc-add (read_suc k s at)

-- Past the end every number is 0.
pub read_past : (k : ℕ) (s : List ℕ) (at : ℕ) → length s ≤ at → read_le k s at ≡ 0
read_past k s at h = ap (number k) (drop_of_length-le s h) ∙ number_nil k

pub read_one : (s : List ℕ) (at : ℕ) → read_le 1 s at ≡ get_or s at 0
unfolding number
read_one s at = read_suc 0 s at ∙ add-zero (get_or s at 0)

regroup : (b p x y : ℕ) → b + 256 * (x + p * y) ≡ b + 256 * x + p * 256 * y
regroup b p x y =
    ap (λ (t : ℕ). b + t) (mul-add 256 x (p * y)) ∙ sym (add_assoc b (256 * x) (256 * (p * y)))
    ∙ ap (λ (t : ℕ). b + 256 * x + t) (sym (mul_assoc 256 p y) ∙ ap (λ (t : ℕ). t * y) (mul_comm 256 p))

-- A wide number is a narrower one and the number in the bytes behind it, at its place value.
pub read_join : (j k : ℕ) (s : List ℕ) (at : ℕ) → read_le (j + k) s at ≡ read_le j s at + 256 ^ j * read_le k s (at + j)
unfolding number
read_join zero k s at = simp (zero-add, add-zero, one-mul)
read_join (suc j) k s at =
    simp (suc-add, add-suc, pow-suc)
    (read_suc (j + k) s at
    ∙ ap (λ (t : ℕ). get_or s at 0 + 256 * t) (read_join j k s (at + 1) ∙ simp (add-one, suc-add))
    ∙ regroup (get_or s at 0) (256 ^ j) (read_le j s (at + 1)) (read_le k s (suc (at + j)))
    ∙ ap (λ (t : ℕ). t + 256 ^ j * 256 * read_le k s (suc (at + j))) (sym (read_suc j s at)))

-- k bytes make a number below 256 ^ k.
pub read_lt : (k : ℕ) (s : List ℕ) → ((i : ℕ) → get_or s i 0 < 256) → (at : ℕ) → read_le k s at < 256 ^ k
unfolding number
read_lt zero s h at = lit< tt
read_lt (suc k) s h at =
    let low : get_or s at 0 < 256 = h at in
    let rest : read_le k s (at + 1) < 256 ^ k = read_lt k s h (at + 1) in
    rw (read_suc k s at, pow-suc 256 k) (omega arith)

pub number_lt : (k : ℕ) (s : List ℕ) → ((i : ℕ) → get_or s i 0 < 256) → number k s < 256 ^ k
number_lt k s h = read_lt k s h 0

-- A number depends on its own bytes only.
pub read_same : (k : ℕ) (s t : List ℕ) (at : ℕ) → ((i : ℕ) → at ≤ i → i < at + k → get_or s i 0 ≡ get_or t i 0) → read_le k s at ≡ read_le k t at
unfolding number
read_same zero s t at h = refl
read_same (suc k) s t at h =
    read_suc k s at
    ∙ ap₂ (λ (b n : ℕ). b + 256 * n) (h at (omega arith) (omega arith))
    (read_same k s t (at + 1) (λ i lo hi. h i (omega arith) (omega arith)))
    ∙ sym (read_suc k t at)

-- A number in two lists behind each other is in the first where it lies there whole.
pub read_first : (k : ℕ) (s t : List ℕ) (at : ℕ) → at + k ≤ length s → read_le k (s ++ t) at ≡ read_le k s at
read_first k s t at h = read_same k (s ++ t) s at (λ i lo hi. get_or-append s t 0 i (omega arith))

-- In a first part that holds it, a number is the same.
pub read_taken : (k n : ℕ) (s : List ℕ) (at : ℕ) → at + k ≤ n → n ≤ length s → read_le k (take n s) at ≡ read_le k s at
read_taken k n s at h fit =
    let long : length (take n s) ≡ n = length-take-le n s fit in
    sym (read_first k (take n s) (drop n s) at (omega arith)) ∙ ap (λ (t : List ℕ). read_le k t at) (take-append-drop n s)

-- ---- writing

-- The bytes of a wide number are those of its low part and then those of the rest.
pub bytes_of_join : (j k n : ℕ) → bytes_of (j + k) n ≡ bytes_of j n ++ bytes_of k (n / 256 ^ j)
unfolding bytes_of
bytes_of_join zero k n = simp (zero-add, div-one)
bytes_of_join (suc j) k n =
    simp (suc-add, pow-suc, mul_comm (256 ^ j) 256, ← div-div-eq-div-mul n 256)
    (ap (λ (t : List ℕ). n % 256 ∷ t) (bytes_of_join j k (n / 256)))

pub bytes_of_length : (k n : ℕ) → length (bytes_of k n) ≡ k
unfolding bytes_of
bytes_of_length zero n = refl
bytes_of_length (suc k) n = ap suc (bytes_of_length k (n / 256))

pub bytes_of_lt : (k n i : ℕ) → get_or (bytes_of k n) i 0 < 256
unfolding bytes_of
bytes_of_lt zero n i = lit< tt
bytes_of_lt (suc k) n zero = mod-lt n (lit< tt)
bytes_of_lt (suc k) n (suc i) = bytes_of_lt k (n / 256) i

-- The number in its own bytes, whatever follows them.
pub number_bytes_of : (k n : ℕ) (t : List ℕ) → n < 256 ^ k → number k (bytes_of k n ++ t) ≡ n
unfolding number bytes_of
number_bytes_of zero n t h = omega arith
number_bytes_of (suc k) n t h =
    let g : n < 256 ^ k * 256 = rw (pow-suc 256 k) at h in
    ap (λ (m : ℕ). n % 256 + 256 * m) (number_bytes_of k (n / 256) t (omega arith)) ∙ omega arith

-- The bytes of the number that bytes make are those bytes.
pub bytes_of_read : (k : ℕ) (s : List ℕ) (at : ℕ) → ((i : ℕ) → get_or s i 0 < 256) → at + k ≤ length s → bytes_of k (read_le k s at) ≡ take k (drop at s)
unfolding bytes_of
bytes_of_read zero s at h fit = refl
bytes_of_read (suc k) s at h fit =
    let low : get_or s at 0 < 256 = h at in
    let first : (get_or s at 0 + 256 * read_le k s (at + 1)) % 256 ≡ get_or s at 0 = omega arith in
    let rest : (get_or s at 0 + 256 * read_le k s (at + 1)) / 256 ≡ read_le k s (at + 1) = omega arith in
    ap (bytes_of (suc k)) (read_suc k s at)
    ∙ ap₂ (λ (b n : ℕ). b ∷ bytes_of k n) first rest
    ∙ ap (λ (t : List ℕ). get_or s at 0 ∷ t) (bytes_of_read k s (at + 1) h (omega arith))
    ∙ sym (ap (take (suc k)) (drop-cons s at 0 (omega arith) ∙ ap (λ (i : ℕ). get_or s at 0 ∷ drop i s) (sym (add-one at))))

module _ {ℓ} {A : Type ℓ} where
  -- A list is stored element by element from its place on.
  pub stored_is_sets : (bs s : List A) (at : ℕ) → stored s at bs ≡ sets s at bs
  unfolding stored
  stored_is_sets [] s at = refl
  stored_is_sets (b ∷ bs) s at = simp add-one (stored_is_sets bs (set s at b) (suc at))

  pub stored_append : (bs cs s : List A) (at : ℕ) → stored s at (bs ++ cs) ≡ stored (stored s at bs) (at + length bs) cs
  unfolding stored
  stored_append [] cs s at = simp add-zero
  stored_append (b ∷ bs) cs s at = stored_append bs cs (set s at b) (at + 1) ∙ simp (add-one, add-suc, suc-add)

  pub stored_length : (bs s : List A) (at : ℕ) → length (stored s at bs) ≡ length s
  unfolding stored
  stored_length [] s at = refl
  stored_length (b ∷ bs) s at = stored_length bs (set s at b) (at + 1) ∙ length-set s at b

  -- Past the end nothing is stored.
  pub stored_past : (bs s : List A) (at : ℕ) → length s ≤ at → stored s at bs ≡ s
  unfolding stored
  stored_past [] s at h = refl
  stored_past (b ∷ bs) s at h = simp (set_out s at b h) (stored_past bs s (at + 1) (omega arith))

  -- Inside, the list stands there in place of what was.
  pub stored_inside : (bs s : List A) (at : ℕ) → at + length bs ≤ length s → stored s at bs ≡ take at s ++ bs ++ drop (at + length bs) s
  stored_inside bs s at h = stored_is_sets bs s at ∙ sets-eq bs s at h

  -- Every other place is as it was.
  pub stored_before : (bs s : List A) (at i : ℕ) (d : A) → i < at → get_or (stored s at bs) i d ≡ get_or s i d
  unfolding stored
  stored_before [] s at i d h = refl
  stored_before (b ∷ bs) s at i d h =
      stored_before bs (set s at b) (at + 1) i d (omega arith) ∙ get_or-set_other s at i b d (omega arith)

  pub stored_behind : (bs s : List A) (at i : ℕ) (d : A) → at + length bs ≤ i → get_or (stored s at bs) i d ≡ get_or s i d
  unfolding stored
  stored_behind [] s at i d h = refl
  stored_behind (b ∷ bs) s at i d h =
      stored_behind bs (set s at b) (at + 1) i d (omega arith) ∙ get_or-set_other s at i b d (omega arith)

-- A wide number is written as a narrower one and the rest of it behind that.
pub write_join : (j k : ℕ) (s : List ℕ) (at n : ℕ) → write_le (j + k) s at n ≡ write_le k (write_le j s at n) (at + j) (n / 256 ^ j)
write_join j k s at n =
    ap (stored s at) (bytes_of_join j k n) ∙ stored_append (bytes_of j n) (bytes_of k (n / 256 ^ j)) s at
    ∙ ap (λ (m : ℕ). stored (write_le j s at n) (at + m) (bytes_of k (n / 256 ^ j))) (bytes_of_length j n)

pub write_past : (k : ℕ) (s : List ℕ) (at n : ℕ) → length s ≤ at → write_le k s at n ≡ s
write_past k s at n h = stored_past (bytes_of k n) s at h

-- Reading back what was written.
pub read_written : (k : ℕ) (s : List ℕ) (at n : ℕ) → n < 256 ^ k → at + k ≤ length s → read_le k (write_le k s at n) at ≡ n
unfolding number bytes_of stored
read_written zero s at n h fit = omega arith
read_written (suc k) s at n h fit =
    let g : n < 256 ^ k * 256 = rw (pow-suc 256 k) at h in
    let room : at + 1 + k ≤ length (set s at (n % 256)) = simp length-set (omega arith) in
    read_suc k (write_le (suc k) s at n) at
    ∙ ap₂ (λ (b m : ℕ). b + 256 * m)
    (stored_before (bytes_of k (n / 256)) (set s at (n % 256)) (at + 1) at 0 (omega arith) ∙ get_or-set_same s at (n % 256) 0 (omega arith))
    (read_written k (set s at (n % 256)) (at + 1) (n / 256) (omega arith) room)
    ∙ omega arith

-- ---- buffers

module _ {A : Type 0} where
  pub repeated_at : (n i : ℕ) (a : A) → get_or (repeated n a) i a ≡ a
  unfolding repeated
  repeated_at zero i a = refl
  repeated_at (suc n) zero a = refl
  repeated_at (suc n) (suc i) a = repeated_at n i a

  behind_at : (l : List A) (k i : ℕ) (a : A) → get_or (l ++ repeated k a) i a ≡ get_or l i a
  behind_at [] k i a = repeated_at k i a
  behind_at (x ∷ l) k zero a = refl
  behind_at (x ∷ l) k (suc i) a = behind_at l k i a

  -- What stands behind a list in its buffer is read as what is read past its end.
  pub padded_at : (n : ℕ) (a : A) (l : List A) (i : ℕ) → get_or (padded n a l) i a ≡ get_or l i a
  padded_at n a l i = behind_at l (n - length l) i a

  -- A buffer with room for a list is as long with it.
  pub padded_length : (n : ℕ) (a : A) (l : List A) → length l ≤ n → length (padded n a l) ≡ n
  unfolding repeated
  padded_length n a l h = simp (length-append, length-replicate) (omega arith)
