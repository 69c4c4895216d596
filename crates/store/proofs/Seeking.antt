-- A turn of the search halves what is left; what it finds holds of the later places too; the starts and the ends of a well-formed map ascend, as the
-- search requires; and it finds one place.
use Prim.Native.Nat.{ℕ, zero, suc, ◌+◌, ◌-◌, ◌/◌, ◌≤◌, ◌<◌}
use native.Mathlib.Omega.{arith}
use native.Mathlib.Decide.{dec_lt}
use native.Mathlib.Numerals.{add-one}
use mathlib.Core.Path.{◌≡◌, refl, sym, subst, ◌∙◌}
use mathlib.Core.Bool.{Bool, true, false, cond, not}
use mathlib.Core.List.{List}
use borrow.Author.Tests.{le-ltb}
use lib.ListN.{length, get_or, take, drop, length-drop}
use lib.Seq.{get_or-take, get_or-drop, length-take-le}
use lib.IntN.{ℤ, pos}
use Rattle.key.specs.Rank.{rank, lesser}
use Rattle.key.specs.Range.{Kind}
use Rattle.key.specs.InnerDecides.{Decides}
use Rattle.key.proofs.Answers.{neither_less, not_full, never}
use Rattle.std.specs.List.{AllWithin, HoldsAt}
use Rattle.key.proofs.Lawful.{Lawful}
use Rattle.outcomes.specs.Stored.{Sound}
use Rattle.outcomes.specs.declared.Stored.{Stored}
use Rattle.outcomes.proofs.Formed.{Formed, Shaped, shape, good}
use Rattle.store.specs.InnerSearch.{Ascends, Reached, FirstPast}
use Rattle.store.proofs.Checked.{formed_steps}

-- of keys that ascend, one before another is no greater
pub no_greater : (l : List ℤ) (n : ℕ) → Ascends n l → (p q : ℕ) → p ≤ q → q < n → rank (get_or l p (pos 0)) ≤ rank (get_or l q (pos 0))
no_greater l n a p q h b = elim (dec_lt p q) [ yes i ↦ omega (arith, a p q i b) | no i ↦ let e : p ≡ q = omega arith in rw e (omega arith) ]

-- what a search among n keys that halves knows: the keys before `low`, from p on, lie before the end of a range up to e, and the key `left` places on does not
pub record Left (kind : Kind) (n : ℕ) (keys : List ℤ) (p : ℕ) (e : ℤ) (low left : ℕ) : Type 0 where
  pub from : p ≤ low
  pub within : low + left ≤ n
  pub before : (j : ℕ) → j < low → p ≤ j → rank (get_or keys j (pos 0)) < kind.past e
  pub at : low + left < n → kind.past e ≤ rank (get_or keys (low + left) (pos 0))

-- A TURN of the search: one key is asked, and half of the places are left, those behind it or those before it
pub halved : {kind : Kind} {n p low left : ℕ} {keys : List ℤ} {e : ℤ} → Ascends n keys → Left kind n keys p e low left → 0 < left
    → (b : Bool) → Decides b (rank (get_or keys (low + left / 2) (pos 0)) < kind.past e) → Left kind n keys p e (low + cond b (left - left / 2) 0) (left / 2)
halved {kind} {n} {p} {low} {left} {keys} {e} a k some true d =
    let same : low + (left - left / 2) + left / 2 ≡ low + left = omega arith in
    record {
      from = omega (arith, k.from);
      within = omega (arith, k.within);
      before = λ j h b. omega (arith, d.right refl, no_greater keys n a j (low + left / 2) (omega arith) (omega (arith, k.within)));
      at = λ h. rw same (k.at (omega arith));
    }
halved {kind} {n} {p} {low} {left} {keys} {e} a k some false d =
    let same : low + 0 + left / 2 ≡ low + left / 2 = omega arith in
    record {
      from = omega (arith, k.from);
      within = omega (arith, k.within);
      before = λ j h b. k.before j (omega arith) b;
      at = λ h. rw same (not_full d refl);
    }

-- where the ends ascend, the ranges from there on reach the key too
pub reached_after : {kind : Kind} {n p : ℕ} {l : List ℤ} {k : ℤ} → Lawful kind → Ascends n l → Reached kind n l k p → (j : ℕ) → p ≤ j → j < n → rank k < kind.past (get_or l j (pos 0))
reached_after {kind} {n} {p} {l} {k} law a h j b i =
    let at = h.at (omega arith) in
    elim (dec_lt p j) [ yes q ↦ omega (arith, law.later (get_or l p (pos 0)) (get_or l j (pos 0)) (a p j q i)) | no q ↦ let e : p ≡ j = omega arith in subst (λ (x : ℕ). rank k < kind.past (get_or l x (pos 0))) e at ]

-- a range that ends first has the lesser end
past_order : {kind : Kind} → Lawful kind → (e e' : ℤ) → kind.past e < kind.past e' → rank e < rank e'
unfolding lesser
past_order {kind} law e e' h =
    elim (dec_lt (rank e) (rank e')) [
      | yes p ↦ p
      | no p ↦ let m = rw (le-ltb (rank e) (rank e') (omega arith)) at (law.least e e') in absurd (omega arith)
    ]

-- numbers each less than the next ascend
rising : (f : ℕ → ℕ) (n : ℕ) → ((k : ℕ) → suc k < n → f k < f (suc k)) → (p q : ℕ) → p < q → q < n → f p < f q
rising f n next p zero h b = absurd (omega arith)
rising f n next p (suc q) h b =
    let one = next q b in
    elim (dec_lt p q) [ yes i ↦ omega (arith, rising f n next p q i (omega arith)) | no i ↦ let e : p ≡ q = omega arith in rw e one ]

-- THE STARTS of a well-formed map ascend, and so do its ends
module _ (kind : Kind) {n : ℕ} {m : Stored} (law : Lawful kind) (shape : Shaped n m) (f : Formed kind n m) where
  next_past : (k : ℕ) → suc k < m.count → kind.past (get_or m.ends k (pos 0)) ≤ rank (get_or m.starts (suc k) (pos 0))
  next_past k b = (rw (add-one k) at (formed_steps kind shape f k (omega arith)).past) (omega arith)

  pub starts_ascend : Ascends m.count m.starts
  starts_ascend =
      rising (λ k. rank (get_or m.starts k (pos 0))) m.count (λ k b. omega (arith, next_past k b, (formed_steps kind shape f k (omega arith)).full))

  later_end : (p q : ℕ) → p < q → q < m.count → kind.past (get_or m.ends p (pos 0)) < kind.past (get_or m.ends q (pos 0))
  later_end =
      rising (λ k. kind.past (get_or m.ends k (pos 0))) m.count (λ k b. omega (arith, next_past k b, (formed_steps kind shape f (suc k) b).full))

  pub ends_ascend : Ascends m.count m.ends
  ends_ascend p q h b = past_order law _ _ (later_end p q h b)

-- what the search among the ends asks of a map, and what the one among the starts asks
pub searched : {kind : Kind} {m : Stored} → Sound kind m → Lawful kind → (m.count ≤ length m.ends) × Ascends m.count m.ends
searched {kind} sound law = (omega (arith, (good sound).held, sound.ends_as), ends_ascend kind law (shape sound) (good sound))

pub starts_searched : {kind : Kind} {m : Stored} → Sound kind m → Lawful kind → (m.count ≤ length m.starts) × Ascends m.count m.starts
starts_searched {kind} sound law = (omega (arith, (good sound).held), starts_ascend kind law (shape sound) (good sound))

-- THE ONE PLACE that each search finds
module _ {kind : Kind} {n : ℕ} {l : List ℤ} {k : ℤ} where
  reached_first : {p q : ℕ} → Reached kind n l k p → Reached kind n l k q → p < q → ⊥
  reached_first {p} a b h = omega (arith, a.at (omega (arith, b.within)), b.below p h)

  pub reached_one : {p q : ℕ} → Reached kind n l k p → Reached kind n l k q → p ≡ q
  reached_one a b = neither_less _ _ (reached_first a b) (reached_first b a)

  past_first : {from p q : ℕ} → FirstPast kind n l from k p → FirstPast kind n l from k q → p < q → ⊥
  past_first {p = p} a b h = omega (arith, a.at (omega (arith, b.within)), b.before p h a.from)

  pub first_past_one : {from p q : ℕ} → FirstPast kind n l from k p → FirstPast kind n l from k q → p ≡ q
  first_past_one a b = neither_less _ _ (past_first a b) (past_first b a)

-- THE WALK: what a test of a place says, and where the first place is that it finds
pub passed : {a b : ℕ} → (r : Bool) × Decides r (a < b) × (true ≡ not r) → b ≤ a
passed (false, d, e) = not_full d refl
passed (true, d, e) = never (sym e)

pub not_passed : {a b : ℕ} → (r : Bool) × Decides r (a < b) × (false ≡ not r) → a < b
not_passed (true, d, e) = d.right refl
not_passed (false, d, e) = never e

-- the keys from `from` up to n, and what the first of them that lies past a range up to `end` says of all
module _ (kind : Kind) (keys : List ℤ) (end : ℤ) (from n : ℕ) (start : from ≤ n) (held : n ≤ length keys) where
  abbrev part : List ℤ
  part = take (n - from) (drop from keys)

  abbrev pub Before : ℤ → Type 0
  Before z = rank z < kind.past end

  abbrev pub Past : ℤ → Type 0
  Past z = kind.past end ≤ rank z

  many : length part ≡ n - from
  many = length-take-le (n - from) (drop from keys) (omega (arith, length-drop from keys))

  at_part : (j : ℕ) → j < n - from → get_or part j (pos 0) ≡ get_or keys (from + j) (pos 0)
  at_part j h = get_or-take (n - from) (drop from keys) j (pos 0) h ∙ get_or-drop from keys j (pos 0)

  before_part : (m : ℕ) → m ≤ n - from → AllWithin Before part 0 m → (j : ℕ) → j < from + m → from ≤ j → Before (get_or keys j (pos 0))
  before_part m b f j h i =
      let e : from + (j - from) ≡ j = omega arith in
      rw e at (rw (at_part (j - from) (omega arith)) at (f (j - from) (pos 0) (omega arith) (omega arith)))

  pub found_none : AllWithin Before part 0 (length part) → FirstPast kind n keys from end n
  found_none f = record { from = start; within = omega arith; before = λ j h i. before_part (n - from) (omega arith) (rw many at f) j (omega arith) i; at = λ h. absurd (omega arith) }

  pub found_some : (i : ℕ) → (i < length part) × HoldsAt Past part i × AllWithin Before part 0 i → FirstPast kind n keys from end (from + i)
  found_some i f =
      let h : i < n - from = omega (arith, f.0, many) in
      record { from = omega arith; within = omega arith; before = λ j l b. before_part i (omega arith) f.2 j l b; at = λ _. rw (at_part i h) at (f.1 (pos 0)) }
