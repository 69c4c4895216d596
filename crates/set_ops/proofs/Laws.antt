-- A set stays a set: an edit of value 0, or a removal, leaves all values 0. So a map that the functions of a set made is never refused by them.
use Rattle.answers.specs.Refusals.{number}
use Prim.Native.Nat.{ℕ, ◌<◌}
use native.Mathlib.Omega.{arith}
use mathlib.Core.Path.{◌≡◌, refl, sym, ap, ◌∙◌}
use mathlib.Core.Bool.{Bool, true, false, cond}
use mathlib.Core.List.{List}
use mathlib.Core.Option.{Option, some, none}
use lib.IntN.{ℤ}
use Rattle.answers.specs.Answers.{not_formed}
use Rattle.span.specs.Span.{Span, Ordered, at, inside, given}
use Rattle.span.specs.Operations.{Plain}
use Rattle.span.proofs.Laws.{at_given, tidy_given, never}
use Rattle.span.proofs.Sets.{plain_at, at_zero}
use Rattle.key.specs.Rank.{rank}
use Rattle.key.specs.Range.{Kind}
use Rattle.outcomes.specs.Stored.{places, ranges, well_formed}
use Rattle.outcomes.specs.declared.Stored.{Stored}
use Rattle.outcomes.specs.Sets.{plain, if_set}
use Rattle.outcomes.specs.Outcomes.{leaving, edit_sound, edit, insert, remove}
use Rattle.outcomes.proofs.Formed.{formed}
use Rattle.outcomes.proofs.Edits.{edit_accepted}
use Rattle.outcomes.proofs.Sets.{if_set_lem, plain_ranges, plain_storing}

-- a label that a set may be given: 0, or none
abbrev pub Nought : Option ℕ → Type 0
Nought none = Unit {0}
Nought (some v) = v ≡ 0

given_nought : (new old : Option ℕ) (t : Bool) (v : ℕ) → Nought new → (old ≡ some v → v ≡ 0) → cond t new old ≡ some v → v ≡ 0
given_nought none old true v z f e = absurd (never e)
given_nought (some u) old true v z f e = let same : u ≡ v = cc in sym same ∙ z
given_nought new old false v z f e = f e

plain_given : (lo hi : ℕ) (new : Option ℕ) (m : List Span) → Nought new → lo < hi → Ordered 0 m → Plain m → Plain (given lo hi new m)
plain_given lo hi new m z h o l =
    plain_at 0 (given lo hi new m) (tidy_given lo hi new m h o).ordered
    (λ k v e. given_nought new (at m k) (inside lo hi k) v z (at_zero m k v l) (sym (at_given lo hi new m h o k) ∙ e))

-- AN EDIT of a set that is accepted, of no value or of 0, leaves a set
module _ (kind : Kind) (m : Stored) (s e : ℤ) where
  pub stays : (new : Option ℕ) → Nought new → plain m ≡ true → (edit kind m s e new).answer ≡ 0 → plain (edit kind m s e new).left ≡ true
  unfolding edit
  stays new z p h = go (well_formed kind places m) refl h
    where
      go : (t : Bool) → well_formed kind places m ≡ t
          → let o = cond t (edit_sound kind places m s e new) (leaving not_formed m) in o.answer ≡ 0 → plain o.left ≡ true
      go true w h =
          let d = edit_accepted kind places m s e new h in
          let f = formed kind places m w in
          let all-zero = plain_given (rank s) (kind.past e) new (ranges kind m) z d.real f.tidy.ordered (plain_ranges kind m p) in
          ap plain d.left_is ∙ plain_storing kind places _ all-zero
      go false w h = absurd (omega arith)

  -- of a set, insert and remove are those of the map
  pub set_insert_is : plain m ≡ true → if_set m (insert kind m s e 0) (λ why. leaving (number why) m) ≡ insert kind m s e 0
  set_insert_is p = if_set_lem m (λ why. leaving (number why) m) p

  pub set_remove_is : plain m ≡ true → if_set m (remove kind m s e) (λ why. leaving (number why) m) ≡ remove kind m s e
  set_remove_is p = if_set_lem m (λ why. leaving (number why) m) p

  -- so what is accepted leaves a set
  accepted_stays : (new : Option ℕ) → Nought new → let o = if_set m (edit kind m s e new) (λ why. leaving (number why) m) in o.answer ≡ 0 → plain o.left ≡ true
  accepted_stays new z h = go (plain m) refl h
    where
      go : (t : Bool) → plain m ≡ t → let o = cond t (edit kind m s e new) (leaving not_formed m) in o.answer ≡ 0 → plain o.left ≡ true
      go true p h = stays new z p h
      go false p h = absurd (omega arith)

  pub insert_stays : let o = if_set m (insert kind m s e 0) (λ why. leaving (number why) m) in o.answer ≡ 0 → plain o.left ≡ true
  insert_stays h = accepted_stays (some 0) refl h

  pub remove_stays : let o = if_set m (remove kind m s e) (λ why. leaving (number why) m) in o.answer ≡ 0 → plain o.left ≡ true
  remove_stays h = accepted_stays none tt h
