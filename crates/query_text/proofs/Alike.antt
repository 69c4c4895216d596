-- Queries that are true of the same held values: the laws of not, and, or. By `same_truth` each is a law of results, and by `same_written` of what is written.
use Prim.Native.Nat.{ℕ}
use mathlib.Core.Path.{◌≡◌, refl, sym, ◌∙◌}
use mathlib.Core.Bool.{Bool, true, false, ◌&&◌, ◌||◌, not}
use mathlib.Core.Option.{Option}
use Rattle.query_text.specs.Grammar.{Query, no, both, either}
use Rattle.query_text.specs.Meaning.{truth}

-- both are true, or both are false, whatever the two maps hold
pub record Alike (p q : Query) : Type 0 where
  pub same : (x y : Option ℕ) → truth p x y ≡ truth q x y

-- it is an equivalence, and a part of a query may be exchanged for one that is alike
pub alike_itself : (q : Query) → Alike q q
alike_itself q = record { same = λ x y. refl }

pub alike_back : {p q : Query} → Alike p q → Alike q p
alike_back a = record { same = λ x y. sym (a.same x y) }

pub alike_on : {p q r : Query} → Alike p q → Alike q r → Alike p r
alike_on a b = record { same = λ x y. a.same x y ∙ b.same x y }

pub alike_no : {p q : Query} → Alike p q → Alike (no p) (no q)
unfolding truth
alike_no a = record { same = λ x y. rw (a.same x y) }

pub alike_both : {p q r s : Query} → Alike p q → Alike r s → Alike (both p r) (both q s)
unfolding truth
alike_both a b = record { same = λ x y. rw (a.same x y, b.same x y) }

pub alike_either : {p q r s : Query} → Alike p q → Alike r s → Alike (either p r) (either q s)
unfolding truth
alike_either a b = record { same = λ x y. rw (a.same x y, b.same x y) }

-- the laws of tests
not_twice : (s : Bool) → not (not s) ≡ s
not_twice true = refl
not_twice false = refl

not_and : (s t : Bool) → not (s && t) ≡ (not s || not t)
not_and true t = refl
not_and false t = refl

not_or : (s t : Bool) → not (s || t) ≡ (not s && not t)
not_or true t = refl
not_or false t = refl

and_twice : (s : Bool) → (s && s) ≡ s
and_twice true = refl
and_twice false = refl

or_twice : (s : Bool) → (s || s) ≡ s
or_twice true = refl
or_twice false = refl

and_swap : (s t : Bool) → (s && t) ≡ (t && s)
and_swap true true = refl
and_swap true false = refl
and_swap false true = refl
and_swap false false = refl

or_swap : (s t : Bool) → (s || t) ≡ (t || s)
or_swap true true = refl
or_swap true false = refl
or_swap false true = refl
or_swap false false = refl

and_group : (s t u : Bool) → ((s && t) && u) ≡ (s && (t && u))
and_group true t u = refl
and_group false t u = refl

or_group : (s t u : Bool) → ((s || t) || u) ≡ (s || (t || u))
or_group true t u = refl
or_group false t u = refl

and_spread : (s t u : Bool) → (s && (t || u)) ≡ ((s && t) || (s && u))
and_spread true t u = refl
and_spread false t u = refl

or_spread : (s t u : Bool) → (s || (t && u)) ≡ ((s || t) && (s || u))
or_spread true t u = refl
or_spread false t u = refl

and_absorb : (s t : Bool) → (s && (s || t)) ≡ s
and_absorb true t = refl
and_absorb false t = refl

or_absorb : (s t : Bool) → (s || (s && t)) ≡ s
or_absorb true t = refl
or_absorb false t = refl

-- `!!q` is q
pub no_no : (q : Query) → Alike (no (no q)) q
unfolding truth
no_no q = record { same = λ x y. not_twice (truth q x y) }

-- DE MORGAN: `!(p&q)` is `!p|!q`, and `!(p|q)` is `!p&!q`
pub no_both : (p q : Query) → Alike (no (both p q)) (either (no p) (no q))
unfolding truth
no_both p q = record { same = λ x y. not_and (truth p x y) (truth q x y) }

pub no_either : (p q : Query) → Alike (no (either p q)) (both (no p) (no q))
unfolding truth
no_either p q = record { same = λ x y. not_or (truth p x y) (truth q x y) }

-- `q&q` is q, and `q|q` is q
pub both_itself : (q : Query) → Alike (both q q) q
unfolding truth
both_itself q = record { same = λ x y. and_twice (truth q x y) }

pub either_itself : (q : Query) → Alike (either q q) q
unfolding truth
either_itself q = record { same = λ x y. or_twice (truth q x y) }

-- `&` and `|` take their operands in any order, and in any groups
pub both_swaps : (p q : Query) → Alike (both p q) (both q p)
unfolding truth
both_swaps p q = record { same = λ x y. and_swap (truth p x y) (truth q x y) }

pub either_swaps : (p q : Query) → Alike (either p q) (either q p)
unfolding truth
either_swaps p q = record { same = λ x y. or_swap (truth p x y) (truth q x y) }

pub both_groups : (p q r : Query) → Alike (both (both p q) r) (both p (both q r))
unfolding truth
both_groups p q r = record { same = λ x y. and_group (truth p x y) (truth q x y) (truth r x y) }

pub either_groups : (p q r : Query) → Alike (either (either p q) r) (either p (either q r))
unfolding truth
either_groups p q r = record { same = λ x y. or_group (truth p x y) (truth q x y) (truth r x y) }

-- each spreads over the other, and absorbs it
pub both_spreads : (p q r : Query) → Alike (both p (either q r)) (either (both p q) (both p r))
unfolding truth
both_spreads p q r = record { same = λ x y. and_spread (truth p x y) (truth q x y) (truth r x y) }

pub either_spreads : (p q r : Query) → Alike (either p (both q r)) (both (either p q) (either p r))
unfolding truth
either_spreads p q r = record { same = λ x y. or_spread (truth p x y) (truth q x y) (truth r x y) }

pub both_absorbs : (p q : Query) → Alike (both p (either p q)) p
unfolding truth
both_absorbs p q = record { same = λ x y. and_absorb (truth p x y) (truth q x y) }

pub either_absorbs : (p q : Query) → Alike (either p (both p q)) p
unfolding truth
either_absorbs p q = record { same = λ x y. or_absorb (truth p x y) (truth q x y) }
