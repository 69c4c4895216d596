-- WHAT THE EXPORTED WRITER AND READER PROMISE.
-- Each is over what a caller sees: what is lent, at entry and (with a prime) at exit; the other arguments; and last the answer as C and Rust have it.
use Rattle.std.specs.Prelude.{ℕ, ◌≡◌, List}
use Rattle.map.specs.Map.{held}
use Rattle.byte_form.specs.Layout.{rm01}
use Rattle.byte_form.specs.Form.{Wrote, write, read}
use Rattle.outcomes.specs.Outcomes.{leaving}
use Rattle.map.specs.declared.RangeMap.{RangeMap}
use Rattle.outcomes.specs.declared.Count.{Count}

-- `range_map_write`: writes the form of the map into the first places of a lent output, and tells its length.
abbrev pub RangeMapWrite : RangeMap → List ℕ → List ℕ → Count → Type 0
RangeMapWrite m out out' r = Wrote r out' (write rm01 (held m) out)

-- `range_map_read`: reads the map whose form the bytes are. It overwrites the map, so it does not check it.
abbrev pub RangeMapRead : RangeMap → RangeMap → List ℕ → ℕ → Type 0
RangeMapRead m m' bytes r = leaving r (held m') ≡ read rm01 (held m) bytes
