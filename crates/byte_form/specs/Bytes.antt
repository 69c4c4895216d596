-- Document 01, Byte form: numbers and one range as bytes, all little-endian, and back.
use Rattle.std.specs.Prelude.{ℕ, zero, suc, ◌+◌, ◌*◌, ◌/◌, ◌%◌, ◌<◌, List, [], ◌∷◌, ◌++◌, get_or, take, drop, ℤ}
use Rattle.std.specs.Int.{w64}
use Rattle.std.proofs.Common.{to_z, of_z}
use Rattle.key.specs.declared.Entry.{Entry}

-- how many bytes a u32 is
abbrev pub u32_size : ℕ
u32_size = 4

-- how many bytes an i64 is
abbrev pub i64_size : ℕ
i64_size = 8

-- a number as k bytes, the lowest first
unfoldable pub bytes_of : ℕ → ℕ → List ℕ
bytes_of zero n = []
bytes_of (suc k) n = n % 256 ∷ bytes_of k (n / 256)

-- the number of some bytes
unfoldable pub number_in : List ℕ → ℕ
number_in [] = 0
number_in (b ∷ bs) = b + 256 * number_in bs

-- an i64 as bytes: those of the 64 bits that hold it
abbrev pub key_bytes : ℤ → List ℕ
key_bytes z = bytes_of i64_size (of_z w64 z)

-- the i64 of its bytes
abbrev pub key_of : List ℕ → ℤ
key_of bs = to_z w64 (number_in bs)

-- ONE RANGE: start i64, end i64, value u8
unfoldable pub range_bytes : Entry → List ℕ
range_bytes x = key_bytes x.start ++ (key_bytes x.end ++ (x.value ∷ []))

-- the range that stands first in some bytes
unfoldable pub range_in : List ℕ → Entry
range_in bs = record { start = key_of (take i64_size bs); end = key_of (take i64_size (drop i64_size bs)); value = get_or bs (2 * i64_size) 0 }

-- each is a byte, as all that a slice of u8 holds
abbrev pub Bytes : List ℕ → Type 0
Bytes bs = (k : ℕ) → get_or bs k 0 < 256
