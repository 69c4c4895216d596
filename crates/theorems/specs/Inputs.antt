-- INPUTS that a caller can give: maps as memory holds them, keys that are i64, values and bytes that are u8, a date's numbers as their types hold them.
use Rattle.std.specs.Prelude.{ℕ, ◌<◌, List, ℤ}
use Rattle.std.specs.Int.{w64}
use Rattle.std.proofs.Common.{SFits}
use Rattle.outcomes.specs.Stored.{AllFit}
use Rattle.outcomes.specs.declared.Stored.{Stored}
use Rattle.byte_form.specs.Bytes.{Bytes}
use Rattle.one_map.specs.Events.{InMemory}

-- a map, a start and an end
abbrev pub RangeInput : Stored → ℤ → ℤ → Type 0
RangeInput m start end = InMemory m × SFits w64 start × SFits w64 end

-- a map, and a date in a zone
abbrev pub DateInput : Stored → ℕ → ℕ → ℕ → ℕ → Type 0
DateInput m zone year month day = InMemory m × (zone < 256) × (year < 65536) × (month < 256) × (day < 256)

-- a map, and bytes to read
abbrev pub BytesInput : Stored → List ℕ → Type 0
BytesInput m bytes = InMemory m × Bytes bytes

-- two maps, a window, and the bytes of a query
abbrev pub QueryInput : Stored → Stored → ℤ → ℤ → List ℕ → Type 0
QueryInput a b start end bytes = InMemory a × InMemory b × SFits w64 start × SFits w64 end × Bytes bytes

-- two lists to write into
abbrev pub ListsInput : List ℤ → List ℤ → Type 0
ListsInput outStarts outEnds = AllFit outStarts × AllFit outEnds
