-- What a function of a map answers inside: what document 01 says, or why it refuses.
use Rattle.std.specs.Prelude.{ℕ, Bool, List, Result, Option, ℤ, ⊤}
use Rattle.answers.specs.declared.Refusal.{Refusal}
use Rattle.std.specs.declared.cmp.Ordering.{Ordering}
use Rattle.key.specs.declared.Entry.{Entry}
use Rattle.outcomes.specs.declared.Part.{Part}

-- a range and its value
abbrev pub entry : ℤ → ℤ → ℕ → Entry
entry s e v = record { start = s; end = e; value = v }

-- a part of the places: the first, and how many
abbrev pub places_from : ℕ → ℕ → Part
places_from i n = record { place = i; count = n }

-- yes or no
abbrev pub Asked : Type 0
Asked = Result Bool Refusal

-- how many
abbrev pub Counted : Type 0
Counted = Result ℕ Refusal

-- a stored range and its value, or that there is none
abbrev pub Found : Type 0
Found = Result (Option Entry) Refusal

-- a part of the places
abbrev pub Located : Type 0
Located = Result Part Refusal

-- how two maps compare
abbrev pub Compared : Type 0
Compared = Result Ordering Refusal

-- how many keys a set covers
abbrev pub Totalled : Type 0
Totalled = Result ℕ Refusal

-- how an edit went
abbrev pub Outcome : Type 0
Outcome = Result ⊤ Refusal
