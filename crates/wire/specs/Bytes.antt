-- Little-endian numbers in lists of bytes: one definition of reading and one of writing, for every width.
use Rattle.std.specs.Prelude.{List, [], ◌∷◌, ◌++◌, ℕ, zero, suc, ◌+◌, ◌-◌, ◌*◌, ◌/◌, ◌%◌, length, drop, set, replicate}

-- The number in the first k bytes, lowest byte first; a byte past the end counts as 0.
unfoldable pub number : ℕ → List ℕ → ℕ
number zero s = 0
number (suc k) [] = 0
number (suc k) (b ∷ s) = b + 256 * number k s

-- The number in the k bytes at a position.
abbrev pub read_le : ℕ → List ℕ → ℕ → ℕ
read_le k s at = number k (drop at s)

-- The k bytes of a number, lowest first.
unfoldable pub bytes_of : ℕ → ℕ → List ℕ
bytes_of zero n = []
bytes_of (suc k) n = n % 256 ∷ bytes_of k (n / 256)

-- A list with others stored into it from a position on; what lies past its end is dropped.
unfoldable pub stored {ℓ} : {A : Type ℓ} → List A → ℕ → List A → List A
stored s at [] = s
stored s at (b ∷ bs) = stored (set s at b) (at + 1) bs

-- The k bytes of a number stored at a position.
abbrev pub write_le : ℕ → List ℕ → ℕ → ℕ → List ℕ
write_le k s at n = stored s at (bytes_of k n)

-- n times the same element: cleared buffers.
unfoldable pub repeated {ℓ} : {A : Type ℓ} → ℕ → A → List A
repeated n a = replicate n a

-- A buffer of n elements that holds the list and then only the given element.
abbrev pub padded {ℓ} : {A : Type ℓ} → ℕ → A → List A → List A
padded n a l = l ++ repeated (n - length l) a

-- The numbers below n, rising.
unfoldable pub below : ℕ → List ℕ
below zero = []
below (suc n) = below n ++ (n ∷ [])
