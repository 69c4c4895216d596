-- A replacement of places in the three columns of a map.
use Rattle.std.specs.Prelude.{ℕ, ◌+◌, ◌-◌, ◌≤◌, ◌≡◌, List, [], ◌∷◌, length, take, ℤ, pos}
use Rattle.splice.specs.InnerSplice.{Filler}
use Rattle.splice.specs.declared.Replacement.{Replacement}

-- the starts that come
abbrev pub new_starts : Replacement → List ℤ
new_starts p = take p.n (p.x.start ∷ p.y.start ∷ p.z.start ∷ [])

-- the ends that come
abbrev pub new_ends : Replacement → List ℤ
new_ends p = take p.n (p.x.end ∷ p.y.end ∷ p.z.end ∷ [])

-- the values that come
abbrev pub new_values : Replacement → List ℕ
new_values p = take p.n (p.x.value ∷ p.y.value ∷ p.z.value ∷ [])

-- how many ranges there are then
abbrev pub new_count : ℕ → Replacement → ℕ
new_count count p = p.from + p.n + (count - p.to)

-- the replacement is of some of the first count places, and brings three ranges at most
pub record Apt (count : ℕ) (p : Replacement) : Type 0 where
  pub ascending : p.from ≤ p.to
  pub within : p.to ≤ count
  pub few : p.n ≤ 3

-- so many places hold the ranges that there are, and those that there are then
pub record Room (count : ℕ) (p : Replacement) (places : ℕ) : Type 0 where
  pub held : count ≤ places
  pub room : new_count count p ≤ places

-- the columns are of one length, hold the count, and are 0 from there on
pub record Columns (count : ℕ) (starts ends : List ℤ) (values : List ℕ) : Type 0 where
  pub ends_as : length ends ≡ length starts
  pub values_as : length values ≡ length starts
  pub held : count ≤ length starts
  pub spare_starts : Filler starts count (pos 0)
  pub spare_ends : Filler ends count (pos 0)
  pub spare_values : Filler values count 0
