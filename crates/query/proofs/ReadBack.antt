-- A LIST THAT WAS WRITTEN, read back: the first places of the two lent lists, as many as the count says, are the ranges. Of either kind, of any list of ranges.
use Prim.Native.Nat.{ℕ, min}
use native.Mathlib.Omega.{arith}
use mathlib.Core.Path.{◌≡◌, refl, sym, ap}
use mathlib.Core.List.{List, [], ◌∷◌, ◌++◌}
use lib.ListN.{length, take, replicate}
use lib.IntN.{ℤ}
use Rattle.span.specs.Span.{Span, span, Ordered, Upto}
use Rattle.span.specs.Operations.{Plain}
use Rattle.span.proofs.Tests.{lt_cases}
use Rattle.key.specs.Range.{Kind}
use Rattle.key.proofs.Laws.{rank_key}
use Rattle.key.proofs.Lawful.{Lawful}
use Rattle.outcomes.specs.Stored.{spans}
use Rattle.outcomes.specs.Outcomes.{Written, into_lists}
use Rattle.range_list.specs.InnerLists.{starts_of, ends_of}
use Rattle.range_list.specs.InnerColumns.{column_rows}
use Rattle.std.specs.Prelude.{Ok}

module _ (kind : Kind) (law : Lawful kind) where
  rows_back : (b : ℕ) (xs : List Span) (rs re : List ℤ) → Ordered b xs → Plain xs → Upto law.limit xs
      → take (length xs) (spans kind (starts_of xs ++ rs) (ends_of kind xs ++ re) (replicate (length (starts_of xs ++ rs)) 0)) ≡ xs
  unfolding spans
  rows_back b [] rs re o p u = refl
  rows_back b (x ∷ xs) rs re o p u =
      let k = law.limit_keys in
      rw (rank_key x.lo (omega arith), law.written x.hi (omega arith) u.0, rows_back x.hi xs rs re o.2 p.1 u.1)
      (ap (λ (l : ℕ). span x.lo x.hi l ∷ xs) (sym p.0))

  pub read_back : (xs : List Span) (os oe : List ℤ) → Ordered 0 xs → Plain xs → Upto law.limit xs
      → (n : ℕ) → (into_lists kind xs os oe).answer ≡ Ok n → column_rows kind (into_lists kind xs os oe).starts (into_lists kind xs os oe).ends n ≡ xs
  unfolding into_lists column_rows
  read_back xs os oe o p u n = lt_cases (min (length os) (length oe)) (length xs)
      (λ (w : Written). w.answer ≡ Ok n → take n (spans kind w.starts w.ends (replicate (length w.starts) 0)) ≡ xs)
      (λ h e. absurd (let z : ◌≡◌ {A = ℕ} 0 1 = cc in omega arith))
      (λ h e. let c : length xs ≡ n = cc in rw (← c) (rows_back 0 xs _ _ o p u))
