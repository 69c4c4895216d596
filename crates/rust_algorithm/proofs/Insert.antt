-- rangemap's insert is `inserted`.
use Prim.Native.Nat.{ℕ, zero, suc, ◌≤◌, ◌<◌, min, max}
use native.Mathlib.Omega.{arith}
use mathlib.Core.Path.{◌≡◌, refl, subst}
use mathlib.Core.List.{List, ◌∷◌, ◌++◌}
use mathlib.Core.Bool.{Bool, true, false, ◌&&◌}
use mathlib.Core.Option.{Option, some, none}
use lib.Dec.{eqb}
use borrow.Author.Tests.{lt-ltb, le-ltb, eq-eqb, ne_eqb}
use Rattle.span.specs.Span.{Span, span, Ordered, Tidy, keep, inserted}
use Rattle.rust_algorithm.specs.Btree.{rust_then, if_let, entered}
use Rattle.rust_algorithm.specs.Map.{State, state, adjust, candidate, insert_loop, finish, insert_body, map_insert}
use Rattle.rust_algorithm.proofs.Entries.{Below, below_more, query_skip, query_none, query_here, cut_clear}
use Rattle.rust_algorithm.proofs.Candidate.{part}
use Rattle.rust_algorithm.proofs.Held.{limit}
use Rattle.rust_algorithm.proofs.InsertLoop.{Loop, Prepared, below_ahead, adjust_same, adjust_over, body, prepare}

pub and_no : (t : Bool) → (t && false) ≡ false
and_no true = refl
and_no false = refl

module _ (ls : List Span) (s v e top : ℕ) (real : s < e) (below : Below s ls) where
  go : ℕ → List Span → ℕ → Option (List Span)
  go n m f = rust_then (insert_loop n e v (state m s f)) (finish v)

  out : (n f c : ℕ) (rest : List Span) → 0 < n → e < c → Ordered c rest → go n (ls ++ rest) f ≡ some (entered (span s f v) (ls ++ rest))
  unfolding go insert_loop
  out zero f c rest p i o = absurd (omega arith)
  out (suc n) f c rest p i o = rw (le-ltb e s (omega arith), query_skip s e ls rest below, query_none s e c rest (omega arith) i o)

  into : (n : ℕ) (x : Span) (xs : List Span) → 0 < n → x.lo ≡ e → (x.label ≡ v → ⊥) → go n (ls ++ x ∷ xs) e ≡ some (entered (span s e v) (ls ++ x ∷ xs))
  unfolding go insert_loop
  into zero x xs f i j = absurd (omega arith)
  into (suc n) x xs f i j = rw (
    le-ltb e s (omega arith),
    query_skip s e ls (x ∷ xs) below,
    query_here s e x xs (omega arith) (omega arith),
    eq-eqb x.lo e i,
    ne_eqb x.label v j,
  )

  same : (n far : ℕ) (x : Span) (xs : List Span) → s ≤ x.lo → x.lo ≤ e → x.label ≡ v → max e x.hi ≡ far
      → go (suc n) (ls ++ x ∷ xs) e ≡ go n (ls ++ xs) far
  unfolding go insert_loop
  same n far x xs i j l m =
      let b : Below x.lo ls = below_more ls i below in
      let start : min s x.lo ≡ s = omega arith in
      rw (
        le-ltb e s (omega arith),
        query_skip s e ls (x ∷ xs) below,
        query_here s e x xs i j,
        eq-eqb x.label v l,
        and_no (eqb x.lo e),
        adjust_same ls x xs s e v b l,
        start,
        m,
      )

  other : (n : ℕ) (x : Span) (xs : List Span) → s ≤ x.lo → x.lo < e → x.lo < x.hi → Ordered x.hi xs → (x.label ≡ v → ⊥)
      → go (suc n) (ls ++ x ∷ xs) e ≡ go n (ls ++ keep (span e x.hi x.label) xs) e
  unfolding go insert_loop
  other n x xs i k f o l =
      let b : Below x.lo ls = below_more ls i below in
      rw (
        le-ltb e s (omega arith),
        query_skip s e ls (x ∷ xs) below,
        query_here s e x xs i (omega arith),
        ne_eqb x.lo e (omega arith),
        adjust_over ls x xs s e v b l (omega arith),
        cut_clear x s e xs f real (omega arith) o ls b i,
      )

  the_loop : Loop top go ls s v e
  the_loop = record {
    out = λ n f c rest p r i o u. out n f c rest p i o;
    into = λ n x xs f i j full u. into n x xs f i j;
    same = λ n far x xs i j f u l m. same n far x xs i j l m;
    other = λ n x xs i k f u o l. other n x xs i k f o l;
  }

inserts : (lo hi v : ℕ) (m : List Span) (t : State) → lo < hi → Tidy 0 m → Prepared lo hi v m t → insert_body v t ≡ some (inserted lo hi v m)
unfolding go
inserts lo hi v m t h tidy p =
    let u = limit m in
    let below = below_ahead 0 p.ls (span p.s p.e v) p.tidy.ordered p.ahead in
    rw p.is (body u.0 (go p.ls p.s v p.e u.0 p.real below) lo hi v m t h tidy u.1 p
    (the_loop p.ls p.s v p.e u.0 p.real below))

-- INSERT: rangemap's algorithm does not panic, its loop ends, and the map is then what `inserted` says
pub insert_is : (lo hi v : ℕ) (m : List Span) → lo < hi → Tidy 0 m → map_insert lo hi v m ≡ some (inserted lo hi v m)
unfolding map_insert
insert_is lo hi v m h t =
    let p = part lo m in
    let go : (n : List Span) → n ≡ p.left ++ p.right → Tidy 0 n
    → insert_body v (if_let (candidate lo hi n) (λ x. adjust x v (state n lo hi)) (state n lo hi)) ≡ some (inserted lo hi v n)
    = λ n e u. rw e (inserts lo hi v _ _ h (subst (Tidy 0) e u) (prepare lo hi v h p.left p.ends p.right p.reaches (subst (Tidy 0) e u))) in
    rw (lt-ltb lo hi h) (go m p.whole t)

-- and it panics where the range is empty
pub insert_panics : (lo hi v : ℕ) (m : List Span) → hi ≤ lo → map_insert lo hi v m ≡ none
unfolding map_insert
insert_panics lo hi v m h = rw (le-ltb lo hi h)
