-- Which spans of a rising list meet a query, by their places: those from one place up to another. And what the definitions of answers say then.
use Prim.Native.Nat.compare
use Prim.Native.Nat.{ℕ, zero, suc, ◌-◌, ◌≤◌, ◌<◌}
use native.Mathlib.Omega.{arith}
use native.Mathlib.Decide.{dec_lt}
use mathlib.Core.Path.{◌≡◌, refl, sym, ap, ◌∙◌}
use mathlib.Core.Bool.{Bool, true, false, ◌&&◌, ◌||◌, cond}
use mathlib.Core.List.{List, [], ◌∷◌}
use borrow.Author.Tests.{lt-ltb, le-ltb}
use lib.Dec.{ltb}
use lib.ListN.{length, get_or}
use Rattle.span.specs.Span.{Span, span, inside}
use Rattle.span.specs.Operations.{spans_overlap, any, holds}
use Rattle.span.proofs.Tests.{Within, Place, below, among, beyond, place, in_yes, in_no, cases}
use Rattle.outcomes.specs.Outcomes.{first_place, how_many}

-- the span at a place of a list
abbrev pub nth : List Span → ℕ → Span
nth xs j = get_or xs j (span 0 0 0)

-- of n spans, p is the place of the first that passes a test: n, if none does
pub record First (t : Span → Bool) (f : ℕ → Span) (n p : ℕ) : Type 0 where
  pub within : p ≤ n
  pub before : (j : ℕ) → j < p → t (f j) ≡ false
  pub at : p < n → t (f p) ≡ true

-- of n spans, those from place p up to place q pass a test, and no other
pub record Exactly (t : Span → Bool) (f : ℕ → Span) (n p q : ℕ) : Type 0 where
  pub from : p ≤ q
  pub within : q ≤ n
  pub before : (j : ℕ) → j < p → t (f j) ≡ false
  pub among : (j : ℕ) → p ≤ j → j < q → t (f j) ≡ true
  pub after : (j : ℕ) → q ≤ j → j < n → t (f j) ≡ false

pub exactly_first : {t : Span → Bool} {f : ℕ → Span} {n p q : ℕ} → p < q → Exactly t f n p q → First t f n p
exactly_first {p = p} h e = record { within = omega arith; before = e.before; at = λ _. e.among p (omega arith) h }

-- so a place passes exactly where it is one of those from p up to q
pub exactly_inside : {t : Span → Bool} {f : ℕ → Span} {n p q : ℕ} → Exactly t f n p q → (j : ℕ) → j < n → t (f j) ≡ inside p q j
exactly_inside {t} {f} {p = p} {q} h j i = go (place p q j)
  where
    go : Place p q j → t (f j) ≡ inside p q j
    go (below b) = h.before j b ∙ sym (in_no p q j (omega arith))
    go (among b c) = h.among j b c ∙ sym (in_yes p q j (omega arith))
    go (beyond b c) = h.after j c i ∙ sym (in_no p q j (omega arith))

-- the same of another test of other spans, where the answers are the same
pub first_as : {t u : Span → Bool} {f g : ℕ → Span} {n p : ℕ} → ((j : ℕ) → j < n → u (g j) ≡ t (f j)) → First t f n p → First u g n p
first_as {p = p} s h = record { within = omega arith; before = λ j i. s j (omega arith) ∙ h.before j i; at = λ i. s p i ∙ h.at i }

pub exactly_as : {t u : Span → Bool} {f g : ℕ → Span} {n p q : ℕ} → ((j : ℕ) → j < n → u (g j) ≡ t (f j)) → Exactly t f n p q → Exactly u g n p q
exactly_as s h = record {
  from = omega arith;
  within = omega arith;
  before = λ j i. s j (omega arith) ∙ h.before j i;
  among = λ j b i. s j (omega arith) ∙ h.among j b i;
  after = λ j b i. s j i ∙ h.after j b i;
}

-- WHAT THE DEFINITIONS SAY
module _ (t : Span → Bool) where
  pub is_first : (xs : List Span) (p : ℕ) → First t (nth xs) (length xs) p → p ≡ first_place t xs
  unfolding first_place
  is_first [] p h = omega arith
  is_first (x ∷ xs) zero h = rw (h.at (omega arith))
  is_first (x ∷ xs) (suc p) h =
      rw (h.before 0 (omega arith)) (ap suc (is_first xs p (record { within = omega arith; before = λ j i. h.before (suc j) (omega arith); at = λ i. h.at (omega arith) })))

  before_later : (x : Span) (xs : List Span) (p : ℕ) → t x ≡ false → ((j : ℕ) → j < p → t (nth xs j) ≡ false) → (j : ℕ) → j < suc p → t (nth (x ∷ xs) j) ≡ false
  before_later x xs p e h zero i = e
  before_later x xs p e h (suc j) i = h j (omega arith)

  later : (x : Span) (xs : List Span) {n p : ℕ} → t x ≡ false → First t (nth xs) n p → First t (nth (x ∷ xs)) (suc n) (suc p)
  later x xs {p = p} e h = record { within = omega arith; before = before_later x xs p e h.before; at = λ i. h.at (omega arith) }

  pub the_first : (xs : List Span) → First t (nth xs) (length xs) (first_place t xs)
  unfolding first_place
  the_first [] = record { within = omega arith; before = λ j i. absurd (omega arith); at = λ i. absurd (omega arith) }
  the_first (x ∷ xs) = cases (t x) (First t (nth (x ∷ xs)) (suc (length xs)))
      (λ e. record { within = omega arith; before = λ j i. absurd (omega arith); at = λ i. e })
      (λ e. later x xs e (the_first xs))

  pub any_first : (xs : List Span) → any t xs ≡ ltb (first_place t xs) (length xs)
  unfolding any first_place
  any_first [] = refl
  any_first (x ∷ xs) = go (t x) (any_first xs)
    where
      go : (b : Bool) → any t xs ≡ ltb (first_place t xs) (length xs) → (b || any t xs) ≡ ltb (cond b 0 (suc (first_place t xs))) (suc (length xs))
      go true e = sym (lt-ltb 0 (suc (length xs)) (omega arith))
      go false e = rw compare.suc-suc e

  rest : (x : Span) (xs : List Span) {n p q a b : ℕ} → a ≡ p - 1 → b ≡ q - 1 → Exactly t (nth (x ∷ xs)) (suc n) p q → Exactly t (nth xs) n a b
  rest x xs d e h = record {
    from = omega arith;
    within = omega arith;
    before = λ j i. h.before (suc j) (omega arith);
    among = λ j b i. h.among (suc j) (omega arith) (omega arith);
    after = λ j b i. h.after (suc j) (omega arith) (omega arith);
  }

  pub how_many_lem : (xs : List Span) (p q : ℕ) → Exactly t (nth xs) (length xs) p q → q - p ≡ how_many t xs
  unfolding how_many
  how_many_lem [] p q h = omega arith
  how_many_lem (x ∷ xs) p zero h = rw (h.after 0 (omega arith) (omega arith)) (let e = how_many_lem xs 0 0 (rest x xs (omega arith) (omega arith) h) in omega arith)
  how_many_lem (x ∷ xs) zero (suc q) h = rw (h.among 0 (omega arith) (omega arith)) (let e = how_many_lem xs 0 q (rest x xs (omega arith) (omega arith) h) in omega arith)
  how_many_lem (x ∷ xs) (suc p) (suc q) h = rw (h.before 0 (omega arith)) (let e = how_many_lem xs p q (rest x xs (omega arith) (omega arith) h) in omega arith)

-- THE SPANS THAT MEET A QUERY

-- n spans, none empty, each past the ones before it
pub record Rising (f : ℕ → Span) (n : ℕ) : Type 0 where
  pub full : (j : ℕ) → j < n → (f j).lo < (f j).hi
  pub past : (i j : ℕ) → i < j → j < n → (f i).hi ≤ (f j).lo

and_no : (t : Bool) → (t && false) ≡ false
and_no true = refl
and_no false = refl

-- a span that holds k meets the query of k alone
pub holds_meets : (k : ℕ) (x : Span) → holds k x ≡ spans_overlap (span k (suc k) 0) x
unfolding holds spans_overlap
holds_meets k x = go (place x.lo x.hi k)
  where
    go : Place x.lo x.hi k → inside x.lo x.hi k ≡ (ltb k x.hi && ltb x.lo (suc k))
    go (below p) = rw (in_no x.lo x.hi k (omega arith), le-ltb x.lo (suc k) (omega arith), and_no)
    go (among p q) = rw (in_yes x.lo x.hi k (omega arith), lt-ltb k x.hi q, lt-ltb x.lo (suc k) (omega arith))
    go (beyond p q) = rw (in_no x.lo x.hi k (omega arith), le-ltb k x.hi q)

-- a span that misses a query holds no instant of it
pub missed_free : (x y : Span) (k : ℕ) → Within x.lo x.hi k → spans_overlap x y ≡ false → holds k y ≡ false
unfolding spans_overlap holds
missed_free x y k w e =
    in_no y.lo y.hi k (λ v.
    let t : (ltb x.lo y.hi && ltb y.lo x.hi) ≡ true = rw (lt-ltb x.lo y.hi (omega arith), lt-ltb y.lo x.hi (omega arith)) in
    let z : ◌≡◌ {A = ℕ} 0 1 = cc in
    omega arith)

-- the query goes from lo up to hi; p is the first place that ends after lo
module _ {f : ℕ → Span} {n : ℕ} (r : Rising f n) (x : Span) {p : ℕ} (below : (j : ℕ) → j < p → (f j).hi ≤ x.lo) (at : p < n → x.lo < (f p).hi) where
  missed_before : (j : ℕ) → j < p → spans_overlap x (f j) ≡ false
  unfolding spans_overlap
  missed_before j i = rw (le-ltb x.lo (f j).hi (below j i))

  met_from : (j : ℕ) → p ≤ j → j < n → (f j).lo < x.hi → spans_overlap x (f j) ≡ true
  unfolding spans_overlap
  met_from j b i h =
      let reach : x.lo < (f j).hi = elim (dec_lt p j) [
        | yes q ↦ omega (arith, at (omega arith), r.past p j q i, r.full j i)
        | no q ↦ let e : p ≡ j = omega arith in rw (← e) (at (omega arith))
      ] in
      rw (lt-ltb x.lo (f j).hi reach, lt-ltb (f j).lo x.hi h)

  missed_from : (q j : ℕ) → q ≤ j → j < n → x.hi ≤ (f q).lo → spans_overlap x (f j) ≡ false
  unfolding spans_overlap
  missed_from q j b i h =
      let late : x.hi ≤ (f j).lo = elim (dec_lt q j) [
        | yes c ↦ omega (arith, r.past q j c i, r.full q (omega arith))
        | no c ↦ let e : q ≡ j = omega arith in rw (← e) h
      ] in
      rw (le-ltb (f j).lo x.hi late, and_no)

  -- the first span that meets the query is at p, or there is none
  pub meets_at : p < n → (f p).lo < x.hi → First (spans_overlap x) f n p
  meets_at i h = record { within = omega arith; before = missed_before; at = λ i. met_from p (omega arith) i h }

  pub meets_none : (p < n → x.hi ≤ (f p).lo) → First (spans_overlap x) f n n
  meets_none h = record {
    within = omega arith;
    before = λ j i. elim (dec_lt j p) [ yes c ↦ missed_before j c | no c ↦ missed_from p j (omega arith) i (h (omega arith)) ];
    at = λ i. absurd (omega arith);
  }

  -- those that meet it stand from p up to the first place from there on that does not begin before its end
  pub meets_part : {q : ℕ} → p ≤ q → q ≤ n → ((j : ℕ) → j < q → p ≤ j → (f j).lo < x.hi) → (q < n → x.hi ≤ (f q).lo) → Exactly (spans_overlap x) f n p q
  meets_part {q} b w begun late = record {
    from = b;
    within = w;
    before = missed_before;
    among = λ j c i. met_from j c (omega arith) (begun j i c);
    after = λ j c i. missed_from q j c i (late (omega arith));
  }
