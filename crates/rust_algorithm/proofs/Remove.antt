-- rangemap's remove is `removed`.
use Prim.Native.Nat.{ℕ, zero, suc, ◌≤◌, ◌<◌}
use native.Mathlib.Omega.{arith}
use mathlib.Core.Path.{◌≡◌, subst}
use mathlib.Core.List.{List, ◌∷◌, ◌++◌}
use mathlib.Core.Option.{Option, some, none}
use borrow.Author.Tests.{lt-ltb, le-ltb}
use Rattle.span.specs.Span.{Span, span, Ordered, Tidy, keep, removed}
use Rattle.rust_algorithm.specs.Btree.{if_let}
use Rattle.rust_algorithm.specs.Map.{cut_out, remove_candidate, remove_loop, remove_body, map_remove}
use Rattle.rust_algorithm.proofs.Entries.{Below, below_more, between_skip, between_none, between_here, cut_clear}
use Rattle.rust_algorithm.proofs.Candidate.{part}
use Rattle.rust_algorithm.proofs.Held.{limit}
use Rattle.rust_algorithm.proofs.RemoveLoop.{Clearing, Prepared, below_ends, body, prepare}

module _ (lo hi : ℕ) (real : lo < hi) where
  go : ℕ → List Span → Option (List Span)
  go n m = remove_loop n lo hi m

  module _ (ls : List Span) (below : Below (suc lo) ls) where
    out : (n : ℕ) (rest : List Span) → 0 < n → Ordered hi rest → go n (ls ++ rest) ≡ some (ls ++ rest)
    unfolding go remove_loop
    out zero rest f o = absurd (omega arith)
    out (suc n) rest f o = rw (between_skip lo hi ls rest below, between_none lo hi hi rest real (omega arith) o)

    trim : (n : ℕ) (x : Span) (xs : List Span) → lo < x.lo → x.lo < hi → x.lo < x.hi → Ordered x.hi xs
        → go (suc n) (ls ++ x ∷ xs) ≡ go n (ls ++ keep (span hi x.hi x.label) xs)
    unfolding go remove_loop
    trim n x xs h i f o = rw (
      between_skip lo hi ls (x ∷ xs) below,
      between_here lo hi x xs h i,
      cut_clear x lo hi xs f real (omega arith) o ls (below_more ls h below) (omega arith),
    )

    the_loop : (top : ℕ) → Clearing top go ls lo hi
    the_loop top = record { out = out; trim = λ n x xs h i f u o. trim n x xs h i f o }

  removes : (m t : List Span) → Tidy 0 m → Prepared lo hi real m t → remove_body lo hi t ≡ some (removed lo hi m)
  unfolding go
  removes m t tidy p =
      let u = limit m in
      rw p.is (body lo hi real u.0 go m t tidy u.1 p (the_loop p.ls (below_ends lo hi real p.ls p.tidy p.ends) u.0))

-- REMOVE: rangemap's algorithm does not panic, its loop ends, and the map is then what `removed` says
pub remove_is : (lo hi : ℕ) (m : List Span) → lo < hi → Tidy 0 m → map_remove lo hi m ≡ some (removed lo hi m)
unfolding map_remove
remove_is lo hi m h t =
    let p = part (suc lo) m in
    let go : (n : List Span) → n ≡ p.left ++ p.right → Tidy 0 n
    → remove_body lo hi (if_let (remove_candidate lo hi n) (λ x. cut_out x lo hi n) n) ≡ some (removed lo hi n)
    = λ n e u. rw e (removes lo hi h _ _ (subst (Tidy 0) e u) (prepare lo hi h p.left p.ends p.right p.reaches (subst (Tidy 0) e u))) in
    rw (lt-ltb lo hi h) (go m p.whole t)

-- and it panics where the range is empty
pub remove_panics : (lo hi : ℕ) (m : List Span) → hi ≤ lo → map_remove lo hi m ≡ none
unfolding map_remove
remove_panics lo hi m h = rw (le-ltb lo hi h)
