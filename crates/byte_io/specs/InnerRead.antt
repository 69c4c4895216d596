-- What the parts of the reader are given, and what they leave.
use Rattle.std.specs.Prelude.{ℕ, ◌-◌, ◌≤◌, ◌≡◌, true, List, map, length, drop, replicate, pos}
use Rattle.std.proofs.lemmas.List.Edits.{sets}
use Rattle.key.specs.Rank.{rank}
use Rattle.outcomes.specs.Stored.{places}
use Rattle.outcomes.specs.declared.Stored.{Stored}
use Rattle.key.specs.declared.Entry.{Entry}
use Rattle.byte_form.specs.Layout.{Layout, head_size, form_size}
use Rattle.byte_form.specs.Form.{ranges_in, map_of, count_in, is_form}

-- a range begins past another, or where that one ends with another value
pub record MayFollow (x next : Entry) : Type 0 where
  pub past : rank x.end ≤ rank next.start
  pub unlike : rank x.end ≡ rank next.start → x.value ≡ next.value → ⊥

-- a map with 0 in the places from n on, and as many places as before
pub record Cleared (n : ℕ) (old new : Stored) : Type 0 where
  pub starts : new.starts ≡ sets old.starts n (replicate (places - n) (pos 0))
  pub ends : new.ends ≡ sets old.ends n (replicate (places - n) (pos 0))
  pub values : new.values ≡ sets old.values n (replicate (places - n) 0)

module _ (layout : Layout) where
  -- bytes are as many as a count of n ranges asks, and these are not too many
  pub record Sized (n : ℕ) (bs : List ℕ) : Type 0 where
    pub few : n ≤ places
    pub long : length bs ≡ form_size layout n

  -- bytes are the form of a map of n ranges
  pub record ReadsForm (n : ℕ) (bs : List ℕ) : Type 0 where
    pub is : is_form layout bs ≡ true
    pub count : n ≡ count_in layout bs
    pub sized : Sized n bs

  -- the n ranges that stand in some bytes
  abbrev pub ranges_of : ℕ → List ℕ → List Entry
  ranges_of n bs = ranges_in layout n (drop (head_size layout) bs)

  -- and their map
  abbrev pub told : ℕ → List ℕ → Stored
  told n bs = map_of (ranges_of n bs)

  -- a map with those ranges in its first places
  pub record Filled (n : ℕ) (bs : List ℕ) (old new : Stored) : Type 0 where
    pub starts : new.starts ≡ sets old.starts 0 (map (λ (x : Entry). x.start) (ranges_of n bs))
    pub ends : new.ends ≡ sets old.ends 0 (map (λ (x : Entry). x.end) (ranges_of n bs))
    pub values : new.values ≡ sets old.values 0 (map (λ (x : Entry). x.value) (ranges_of n bs))
