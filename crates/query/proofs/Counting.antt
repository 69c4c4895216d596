-- The spans that are to come, from edge to edge.
use Prim.Native.Nat.{ℕ, suc, ◌+◌, ◌≤◌, ◌<◌}
use native.Mathlib.Omega.{arith}
use native.Mathlib.Decide.{dec_lt}
use mathlib.Core.Path.{◌≡◌, refl, sym, ap, subst, ◌∙◌}
use mathlib.Core.Bool.{true, false}
use mathlib.Core.List.{List, []}
use mathlib.Core.Option.{some, none}
use borrow.Author.Tests.{lt-ltb, le-ltb}
use lib.ListN.{length}
use Rattle.span.specs.Span.{Span}
use Rattle.key.specs.Rank.{rank}
use Rattle.query_text.specs.declared.truth.Truth.{Truth}
use Rattle.query.proofs.Left.{skip, done, take_first, Taken}
use Rattle.query.specs.declared.walk.Walk.{Walk}
use Rattle.query.specs.InnerWalk.{says_at, Edges}
use Rattle.query.specs.InnerWritten.{true_before, ToCome, Counts}

module _ (t : Truth) (xs ys : List Span) (e : ℕ) where
  yes_there : (k : ℕ) → k < e → says_at t xs ys k ≡ true → true_before t xs ys e k ≡ some 0
  yes_there k h s = rw (lt-ltb k e h, s) refl

  no_there : (k : ℕ) → k < e → says_at t xs ys k ≡ false → true_before t xs ys e k ≡ none
  no_there k h s = rw (lt-ltb k e h, s) refl

  no_more : (k : ℕ) → e ≤ k → true_before t xs ys e k ≡ none
  no_more k h = rw (le-ltb k e h) refl

  -- where the table says no from p up to q, nothing is to come there
  pub come_past : (p q : ℕ) (zs : List Span) → p ≤ q → q ≤ e → ((k : ℕ) → p ≤ k → k < q → says_at t xs ys k ≡ false) → ToCome t xs ys p e zs
      → ToCome t xs ys q e zs
  come_past p q zs le within off c = skip p q (true_before t xs ys e) zs le (λ k lo hi. no_there k (omega arith) (off k lo hi)) c

  nothing_at_lem : (q : ℕ) → q ≤ e → (q < e → says_at t xs ys q ≡ false) → true_before t xs ys e q ≡ none
  nothing_at_lem q le h = elim (dec_lt q e) [ yes l ↦ no_there q l (h l) | no l ↦ no_more q (omega arith) ]

  -- where it says yes from p up to q, and not at q, that is the first span
  pub first_is : (p q : ℕ) (zs : List Span) → p < q → q ≤ e → ((k : ℕ) → p ≤ k → k < q → says_at t xs ys k ≡ true)
      → (q < e → says_at t xs ys q ≡ false) → ToCome t xs ys p e zs → Taken p q (true_before t xs ys e) zs
  first_is p q zs lt within on off c =
      take_first p q (true_before t xs ys e) zs lt (λ k lo hi. yes_there k (omega arith) (on k lo hi)) (nothing_at_lem q within off) c

  -- nothing is to come from the end on
  pub none_come : (p : ℕ) (zs : List Span) → e ≤ p → ToCome t xs ys p e zs → zs ≡ []
  none_come p zs h c = done p (true_before t xs ys e) zs (λ k le. no_more k (omega arith)) c

  -- up to an edge nothing is to come
  pub come_to : (p : ℕ) (s : Walk) (zs : List Span) → Edges t xs ys p e true s → ToCome t xs ys p e zs → ToCome t xs ys (rank s.key) e zs
  come_to p s zs d c = come_past p (rank s.key) zs d.on d.within d.before_it c

  -- an edge from where it is
  pub at_edge : (p : ℕ) (s : Walk) → Edges t xs ys p e true s → Edges t xs ys (rank s.key) e true s
  at_edge p s d = record {
    on = omega arith;
    within = d.within;
    before_it = λ k lo hi. absurd (omega arith);
    there = d.there;
    stands = d.stands;
  }

  -- nothing is to come where the edge is the end
  pub none_left : (p : ℕ) (s : Walk) (zs : List Span) → Edges t xs ys p e true s → e ≤ rank s.key → ToCome t xs ys p e zs → zs ≡ []
  none_left p s zs d h c = none_come (rank s.key) zs h (come_to p s zs d c)

  -- the next edge is later
  pub grows : (s r : Walk) → says_at t xs ys (rank s.key) ≡ true → rank s.key < e → Edges t xs ys (rank s.key) e false r → rank s.key < rank r.key
  grows s r so h g = elim (dec_lt (rank s.key) (rank r.key)) [
    | yes q ↦ q
    | no q ↦
        let i : rank r.key ≡ rank s.key = omega (arith, g.on) in
        let n : says_at t xs ys (rank s.key) ≡ false = ap (says_at t xs ys) (sym i) ∙ g.there (omega arith) in
        let z : ◌≡◌ {A = ℕ} 0 1 = cc in absurd (omega arith)
  ]

  -- from an edge to the next is the first span
  pub one_more : (p : ℕ) (s r : Walk) (zs : List Span) → Edges t xs ys p e true s → rank s.key < e → Edges t xs ys (rank s.key) e false r
      → ToCome t xs ys p e zs
      → Taken (rank s.key) (rank r.key) (true_before t xs ys e) zs
  one_more p s r zs d h g c =
      first_is (rank s.key) (rank r.key) zs (grows s r (d.there h) h g) g.within g.before_it g.there (come_to p s zs d c)

  pub counts_none : (p : ℕ) (s : Walk) → Edges t xs ys p e true s → e ≤ rank s.key → Counts t xs ys p e 0
  counts_none p s d h = record { room = omega (arith, d.on, d.within); many = λ zs c. sym (ap length (none_left p s zs d h c)) }

  pub counts_more : (p n : ℕ) (s r : Walk) → Edges t xs ys p e true s → rank s.key < e → Edges t xs ys (rank s.key) e false r
      → Counts t xs ys (rank r.key) e n → Counts t xs ys p e (1 + n)
  counts_more p n s r d h g k = record {
    room = omega (arith, d.on, k.room, grows s r (d.there h) h g);
    many = λ zs c.
        let w = one_more p s r zs d h g c in
        let l : length zs ≡ suc (length w.rest) = ap length w.is in
        let m : n ≡ length w.rest = k.many w.rest w.left in
        omega arith;
  }

-- n spans are counted from p on, up to the edge s: with m more there are n + m
pub record CountedSoFar (t : Truth) (xs ys : List Span) (p e n : ℕ) (s : Walk) : Type 0 where
  pub edge : Edges t xs ys (rank s.key) e true s
  pub room : n + p ≤ rank s.key
  pub rest : (m : ℕ) → Counts t xs ys (rank s.key) e m → Counts t xs ys p e (n + m)

module _ (t : Truth) (xs ys : List Span) (e : ℕ) where
  pub counts_to : (p n : ℕ) (s : Walk) → Edges t xs ys p e true s → Counts t xs ys (rank s.key) e n → Counts t xs ys p e n
  counts_to p n s d k = record { room = omega (arith, d.on, k.room); many = λ zs c. k.many zs (come_to t xs ys e p s zs d c) }

  pub counted_first : (p : ℕ) (s : Walk) → Edges t xs ys p e true s → CountedSoFar t xs ys (rank s.key) e 0 s
  counted_first p s d = record {
    edge = at_edge t xs ys e p s d;
    room = omega arith;
    rest = λ m k. let a : m ≡ 0 + m = omega arith in subst (Counts t xs ys (rank s.key) e) a k;
  }

  pub counted_on : (p n : ℕ) (s r z : Walk) → CountedSoFar t xs ys p e n s → rank s.key < e → Edges t xs ys (rank s.key) e false r
      → Edges t xs ys (rank r.key) e true z → CountedSoFar t xs ys p e (n + 1) z
  counted_on p n s r z c h g d = record {
    edge = at_edge t xs ys e (rank r.key) z d;
    room = omega (arith, c.room, grows t xs ys e s r (c.edge.there h) h g, d.on);
    rest = λ m k.
        let a : n + (1 + m) ≡ n + 1 + m = omega arith in
        subst (Counts t xs ys p e) a (c.rest (1 + m) (counts_more t xs ys e (rank s.key) m s r c.edge h g (counts_to (rank r.key) m z d k)));
  }

  pub counted_all : (p n : ℕ) (s : Walk) → CountedSoFar t xs ys p e n s → e ≤ rank s.key → Counts t xs ys p e n
  counted_all p n s c h = let a : n + 0 ≡ n = omega arith in subst (Counts t xs ys p e) a (c.rest 0 (counts_none t xs ys e (rank s.key) s c.edge h))
