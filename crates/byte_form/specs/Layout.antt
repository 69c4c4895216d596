-- What one byte form differs in from another: a record. The form of a map, the writer, the reader and both round trips are over any such record (`Form`).
use Rattle.std.specs.Prelude.{ℕ, ◌+◌, ◌*◌, List, [], ◌∷◌, ◌++◌, length}
use Rattle.key.specs.Range.{Kind, half_open}
use Rattle.key.specs.declared.Entry.{Entry}
use Rattle.byte_form.specs.Bytes.{u32_size, bytes_of, range_bytes, range_in}

-- a layout: the kind of the map's ranges, the bytes that stand first, how many bytes one range is, a range as bytes, and the range that is first in bytes
pub record Layout : Type 0 where
  pub kind : Kind
  pub mark : List ℕ
  pub size : ℕ
  pub written : Entry → List ℕ
  pub read : List ℕ → Entry

-- DOCUMENT 01'S: half-open maps; 52 4D 30 31, which is RM01 in ASCII; 17 bytes a range: start i64, end i64, value u8
abbrev pub rm01 : Layout
rm01 = record { kind = half_open; mark = 0x52 ∷ 0x4D ∷ 0x30 ∷ 0x31 ∷ []; size = 17; written = range_bytes; read = range_in }

module _ (layout : Layout) where
  -- what stands before the ranges: the mark, and the count as u32
  abbrev pub head_of : ℕ → List ℕ
  head_of n = layout.mark ++ bytes_of u32_size n

  -- how many bytes that is
  abbrev pub head_size : ℕ
  head_size = length layout.mark + u32_size

  -- how many bytes the form of n ranges is: of document 01's layout 8 + 17 n. The next range would begin there
  abbrev pub form_size : ℕ → ℕ
  form_size n = head_size + layout.size * n
