-- What is seen from a place on, and which places trail a key. Laws of lists of spans.
use Prim.Native.Nat.{ℕ, zero, suc, ◌+◌, ◌≤◌, ◌<◌, min}
use native.Mathlib.Numerals.{add-one}
use native.Mathlib.Omega.{arith}
use mathlib.Core.Path.{◌≡◌, refl, sym, ap, ◌∙◌}
use mathlib.Core.List.{List, [], ◌∷◌}
use mathlib.Core.Option.{Option, some, none}
use lib.ListN.{length, get_or, drop, drop_of_length-le}
use lib.Seq.{drop-cons}
use Rattle.span.specs.Span.{Span, at, Ordered}
use Rattle.span.proofs.Holding.{at_in, at_out, at_below, ordered_from}
use Rattle.query_text.specs.InnerClasses.{class_of}
use Rattle.query.specs.InnerSeen.{none_there_span, Trails, Standing, Sees}

-- a class is at most 10
pub class_least : (x : Option ℕ) → class_of x ≤ 10
class_least none = omega arith
class_least (some v) = omega arith

-- what of an ordered list is from place i on is ordered
ordered_drop : (b : ℕ) (xs : List Span) (i : ℕ) → Ordered b xs → Ordered b (drop i xs)
ordered_drop b xs zero o = o
ordered_drop b [] (suc i) o = tt
ordered_drop b (x ∷ xs) (suc i) o = ordered_from (drop i xs) (omega (arith, o.0, o.1)) (ordered_drop x.hi xs i o.2)

module _ (xs : List Span) (i p : ℕ) (o : Ordered 0 xs) (s : Standing xs i p) where
  abbrev here : Span
  here = get_or xs i none_there_span

  split : i < length xs → drop i xs ≡ here ∷ drop (suc i) xs
  split h = drop-cons xs i none_there_span h

  ordered_here : i < length xs → Ordered 0 (here ∷ drop (suc i) xs)
  ordered_here h = rw (split h) at (ordered_drop 0 xs i o)

  -- no range is left
  pub sees_none : (e u : ℕ) → length xs ≤ i → p < u → u ≤ e → Sees xs p e u 10 i
  unfolding at
  sees_none e u h on le = record {
    on = on;
    within = le;
    class = omega arith;
    holds = λ k lo hi. rw (s.trails.gone k lo, drop_of_length-le xs {i = i} h) refl;
    trails = s.trails;
  }

  -- before the range at hand
  pub sees_before : (e u : ℕ) → i < length xs → p < u → u ≤ e → u ≤ here.lo → Sees xs p e u 10 i
  sees_before e u h on le lo-le =
      let g = ordered_here h in
      record {
        on = on;
        within = le;
        class = omega arith;
        holds = λ k lo hi. ap class_of (s.trails.gone k lo ∙ ap (λ (l : List Span). at l k) (split h)
            ∙ at_below {b = here.lo} (here ∷ drop (suc i) xs) k (omega arith, g.1, g.2) (omega arith));
        trails = s.trails;
      }

  -- in the range at hand
  pub sees_in : (e u : ℕ) → i < length xs → p < u → u ≤ e → here.lo ≤ p → u ≤ here.hi → Sees xs p e u (min here.label 10) i
  sees_in e u h on le lo-le hi-le = record {
    on = on;
    within = le;
    class = omega arith;
    holds = λ k lo hi. ap class_of (s.trails.gone k lo ∙ ap (λ (l : List Span). at l k) (split h)
        ∙ at_in here (drop (suc i) xs) k (record { from = omega arith; to = omega arith }));
    trails = s.trails;
  }

module _ (xs : List Span) (i p : ℕ) (s : Trails xs i p) where
  -- what trails p trails what is later
  pub trails_later : (e : ℕ) → p ≤ e → Trails xs i e
  trails_later e le = record { placed = s.placed; gone = λ k lo. s.gone k (omega arith) }

  -- the next place trails p too, if the range at hand ends by then
  pub trails_next : i < length xs → (get_or xs i none_there_span).hi ≤ p → Trails xs (i + 1) p
  trails_next h end = record {
    placed = omega arith;
    gone = λ k lo.
        let out = at_out (get_or xs i none_there_span) (drop (suc i) xs) k (λ w. omega (arith, w.to)) in
        s.gone k lo ∙ ap (λ (l : List Span). at l k) (drop-cons xs i none_there_span h) ∙ out ∙ ap (λ (n : ℕ). at (drop n xs) k) (sym (add-one i));
  }
