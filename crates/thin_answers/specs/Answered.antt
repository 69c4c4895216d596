-- What the functions of this crate answer, each in one of the structs that C sees, or first as a `Result`. Nothing in the ledger rests on these.
use Rattle.std.specs.Prelude.{ℕ, nat_lt, ℤ, ⊤, cond, Result, Ok, Err}
use Rattle.outcomes.specs.declared.Told.{Told}
use Rattle.outcomes.specs.declared.Count.{Count}
use Rattle.outcomes.specs.declared.Range.{Range}
use Rattle.outcomes.specs.declared.Stretch.{Stretch}
use Rattle.outcomes.specs.declared.Order.{Order}
use Rattle.outcomes.specs.declared.Total.{Total}
use Rattle.outcomes.specs.declared.Applied.{Applied}
use Rattle.thin_answers.specs.declared.Amiss.{Amiss}
use Rattle.thin_answers.specs.declared.Amiss.TheVariants.{NotRising}
use Rattle.thin_answers.specs.declared.Byte.{Byte}
use Rattle.thin_answers.specs.declared.Pair.{Pair}

-- is a number less than another
unfoldable pub told_less : ℕ → ℕ → Told
told_less a b = record { answer = 0; yes = nat_lt a b }

-- a number as a count
unfoldable pub counted_as : ℕ → Count
counted_as n = record { answer = 0; count = n }

-- a range as it is
unfoldable pub found_as : ℤ → ℤ → ℕ → Range
found_as s e v = record { answer = 0; start = s; end = e; value = v }

-- a place and a count as a part
unfoldable pub part_as : ℕ → ℕ → Stretch
part_as i n = record { answer = 0; place = i; count = n }

-- an order as it is
unfoldable pub ordered_as : ℤ → Order
ordered_as z = record { answer = 0; order = z }

-- a number as a total
unfoldable pub totalled_as : ℕ → Total
totalled_as n = record { answer = 0; total = n }

-- a number as how many were applied
unfoldable pub applied_as : ℕ → Applied
applied_as n = record { answer = 0; applied = n }

-- what a check of a pair answers: does it rise
abbrev pub rising : Pair → Result ⊤ Amiss
rising p = cond (nat_lt p.first p.second) (Ok tt) (Err NotRising)

-- the first number of a pair that rises
unfoldable pub low_of : Pair → Result ℕ Amiss
low_of p = cond (nat_lt p.first p.second) (Ok p.first) (Err NotRising)

-- a byte, or why there is none, as C sees it
abbrev pub byte_in_c : Result ℕ Amiss → Byte
byte_in_c (Ok n) = record { answer = 0; byte = n }
byte_in_c (Err NotRising) = record { answer = 4; byte = 0 }
