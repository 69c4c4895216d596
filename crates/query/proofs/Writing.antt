-- The spans that are to come, written one by one.
use Prim.Native.Nat.{ℕ, suc, ◌+◌, ◌≤◌, ◌<◌}
use native.Mathlib.Omega.{arith}
use native.Mathlib.Numerals.{add-one}
use native.Mathlib.Decide.{dec_lt}
use mathlib.Core.Path.{◌≡◌, refl, ap, ◌∙◌}
use mathlib.Core.Bool.{Bool, true, false, cond}
use mathlib.Core.List.{List}
use lib.ListN.{length, set, length-set}
use lib.IntN.{ℤ}
use Rattle.span.specs.Span.{Span}
use Rattle.key.specs.Rank.{rank, key_at}
use Rattle.query_text.specs.declared.truth.Truth.{Truth}
use Rattle.query.proofs.Left.{Taken}
use Rattle.query.specs.declared.walk.Walk.{Walk}
use Rattle.query.specs.declared.walk.Cell.{Cell}
use Rattle.query.specs.InnerWalk.{says_at, Stands, Cells}
use Rattle.query.specs.InnerWritten.{true_before, ToCome, HasRoom, Shuts, Writes}
use Rattle.query.proofs.Counting.{come_past, first_is, none_come}

module _ (t : Truth) (xs ys : List Span) (e : ℕ) (n : ℕ) (os oe : List ℤ) where
  -- nothing is left to write
  writes_none : (f : ℕ) → e ≤ f → Writes t xs ys f e n os oe n os oe
  writes_none f h = record {
    upto = λ zs c. let l = ap length (none_come t xs ys e f zs h c) in omega arith;
    puts = λ zs c. rw (none_come t xs ys e f zs h c) (record { starts = refl; ends = refl });
  }

  -- where the table says no, nothing changes
  module _ (f g : ℕ) (le : f ≤ g) (within : g ≤ e) (off : (k : ℕ) → f ≤ k → k < g → says_at t xs ys k ≡ false) where
    fits_past : HasRoom t xs ys f e n os oe → HasRoom t xs ys g e n os oe
    fits_past r = record { list = r.list; to_come = come_past t xs ys e f g r.list le within off r.to_come; room = r.room }

    writes_past : (k : ℕ) (os₁ oe₁ : List ℤ) → Writes t xs ys g e n os oe k os₁ oe₁ → Writes t xs ys f e n os oe k os₁ oe₁
    writes_past k os₁ oe₁ w = record {
      upto = λ zs c. w.upto zs (come_past t xs ys e f g zs le within off c);
      puts = λ zs c. w.puts zs (come_past t xs ys e f g zs le within off c);
    }

  -- where it says yes up to g, that is a span to write
  module _ (f g : ℕ) (lt : f < g) (within : g ≤ e) (on : (k : ℕ) → f ≤ k → k < g → says_at t xs ys k ≡ true) (off : g < e → says_at t xs ys g ≡ false) where
    first_one : (zs : List Span) → ToCome t xs ys f e zs → Taken f g (true_before t xs ys e) zs
    first_one zs c = first_is t xs ys e f g zs lt within on off c

    -- there is a place for it
    pub place_there : HasRoom t xs ys f e n os oe → (n < length os) × (n < length oe)
    place_there r =
        let o = first_one r.list r.to_come in
        let l : length r.list ≡ suc (length o.rest) = ap length o.is in
        (omega (arith, r.room.starts), omega (arith, r.room.ends))

    module _ (os₁ oe₁ : List ℤ) (a : os₁ ≡ set os n (key_at f)) (b : oe₁ ≡ set oe n (key_at g)) where
      -- and for the others behind it
      fits_more : HasRoom t xs ys f e n os oe → HasRoom t xs ys g e (n + 1) os₁ oe₁
      fits_more r =
          let o = first_one r.list r.to_come in
          let l : length r.list ≡ suc (length o.rest) = ap length o.is in
          let u : length os₁ ≡ length os = ap length a ∙ simp length-set in
          let v : length oe₁ ≡ length oe = ap length b ∙ simp length-set in
          record { list = o.rest; to_come = o.left; room = record { starts = omega (arith, r.room.starts); ends = omega (arith, r.room.ends) } }

      writes_more : (k : ℕ) (os₂ oe₂ : List ℤ) → Writes t xs ys g e (n + 1) os₁ oe₁ k os₂ oe₂ → Writes t xs ys f e n os oe k os₂ oe₂
      writes_more k os₂ oe₂ w = record {
        upto = λ zs c.
            let o = first_one zs c in
            let l : length zs ≡ suc (length o.rest) = ap length o.is in
            omega (arith, w.upto o.rest o.left);
        puts = λ zs c.
            let o = first_one zs c in
            let q = w.puts o.rest o.left in
            rw o.is (record { starts = q.starts ∙ rw (a, add-one n) refl; ends = q.ends ∙ rw (b, add-one n) refl });
      }

-- under way: n spans are written into os₀ and oe₀, up to f, and there is room for the rest; with the rest written, all from p on is
pub record Underway (t : Truth) (xs ys : List Span) (p e : ℕ) (os₀ oe₀ os oe : List ℤ) (n f : ℕ) : Type 0 where
  pub fits : HasRoom t xs ys f e n os oe
  pub same_starts : length os ≡ length os₀
  pub same_ends : length oe ≡ length oe₀
  pub rest : (k : ℕ) (os₁ oe₁ : List ℤ) → Writes t xs ys f e n os oe k os₁ oe₁ → Writes t xs ys p e 0 os₀ oe₀ k os₁ oe₁

-- from f up to the walk w the table says yes
pub record Opened (t : Truth) (xs ys : List Span) (e f : ℕ) (w : Walk) : Type 0 where
  pub behind : f ≤ rank w.key
  pub within : rank w.key ≤ e
  pub on : (k : ℕ) → f ≤ k → k < rank w.key → says_at t xs ys k ≡ true
  pub stands : Stands xs ys w

module _ (t : Truth) (xs ys : List Span) (e : ℕ) where
  pub opened_first : (w : Walk) → Stands xs ys w → rank w.key ≤ e → Opened t xs ys e (rank w.key) w
  opened_first w z le = record { behind = omega arith; within = le; on = λ k lo hi. absurd (omega arith); stands = z }

  opened_by : (f : ℕ) (w : Walk) (c : Cell) (so : Bool) → Opened t xs ys e f w → Cells t xs ys (rank w.key) e c → c.yes ≡ so
      → Opened t xs ys e (cond so f (rank c.next.key)) c.next
  opened_by f w c true o g y = record {
    behind = omega (arith, o.behind, g.on);
    within = g.within;
    on = λ k lo hi. elim (dec_lt k (rank w.key)) [
      | yes q ↦ o.on k lo q
      | no q ↦ g.same k (omega arith) hi ∙ y
    ];
    stands = g.stands;
  }
  opened_by f w c false o g y = opened_first c.next g.stands g.within

  pub opened_on : (f : ℕ) (w : Walk) (c : Cell) → Opened t xs ys e f w → Cells t xs ys (rank w.key) e c
      → Opened t xs ys e (cond c.yes f (rank c.next.key)) c.next
  opened_on f w c o g = opened_by f w c c.yes o g refl

  module _ (p : ℕ) (os₀ oe₀ : List ℤ) where
    pub underway_first : HasRoom t xs ys p e 0 os₀ oe₀ → Underway t xs ys p e os₀ oe₀ os₀ oe₀ 0 p
    underway_first r = record { fits = r; same_starts = refl; same_ends = refl; rest = λ k os₁ oe₁ w. w }

    module _ (os oe : List ℤ) (n f : ℕ) (u : Underway t xs ys p e os₀ oe₀ os oe n f) where
      kept : (r : ℕ) (os₁ oe₁ : List ℤ) → r ≡ n → os₁ ≡ os → oe₁ ≡ oe → Underway t xs ys p e os₀ oe₀ os₁ oe₁ r f
      kept r os₁ oe₁ a b c = rw (a, b, c) u

      -- a range that ends at g is written, if there is one
      shut_at : (g r : ℕ) (os₁ oe₁ : List ℤ) → f ≤ g → g ≤ e → ((k : ℕ) → f ≤ k → k < g → says_at t xs ys k ≡ true) → (g < e → says_at t xs ys g ≡ false)
          → Shuts false n f g os oe r os₁ oe₁ → Underway t xs ys p e os₀ oe₀ os₁ oe₁ r g
      shut_at g r os₁ oe₁ le within on off s = elim (dec_lt f g) [
        | yes q ↦
            let d = s.ends refl q in
            let i : r ≡ n + 1 = d.0 in
            rw i
            (record {
              fits = fits_more t xs ys e n os oe f g q within on off os₁ oe₁ d.1 d.2 u.fits;
              same_starts = ap length d.1 ∙ simp length-set u.same_starts;
              same_ends = ap length d.2 ∙ simp length-set u.same_ends;
              rest = λ k os₂ oe₂ w. u.rest k os₂ oe₂ (writes_more t xs ys e n os oe f g q within on off os₁ oe₁ d.1 d.2 k os₂ oe₂ w);
            })
        | no q ↦
            let d = s.none_is (omega arith) in
            let i : g ≡ f = omega arith in
            rw i (kept r os₁ oe₁ d.0 d.1 d.2)
      ]

      -- and what the table says no of is passed
      past : (g : ℕ) → f ≤ g → g ≤ e → ((k : ℕ) → f ≤ k → k < g → says_at t xs ys k ≡ false) → Underway t xs ys p e os₀ oe₀ os oe n g
      past g le within off = record {
        fits = fits_past t xs ys e n os oe f g le within off u.fits;
        same_starts = u.same_starts;
        same_ends = u.same_ends;
        rest = λ k os₁ oe₁ w. u.rest k os₁ oe₁ (writes_past t xs ys e n os oe f g le within off k os₁ oe₁ w);
      }

    step_by : (os oe : List ℤ) (n f : ℕ) (w : Walk) (c : Cell) (r : ℕ) (os₁ oe₁ : List ℤ) (so : Bool) → Underway t xs ys p e os₀ oe₀ os oe n f
        → Opened t xs ys e f w → Cells t xs ys (rank w.key) e c → c.yes ≡ so → Shuts so n f (rank w.key) os oe r os₁ oe₁
        → Underway t xs ys p e os₀ oe₀ os₁ oe₁ r (cond so f (rank c.next.key))
    step_by os oe n f w c r os₁ oe₁ true u o g y s = let d = s.goes_on refl in kept os oe n f u r os₁ oe₁ d.0 d.1 d.2
    step_by os oe n f w c r os₁ oe₁ false u o g y s =
        let h : rank w.key ≤ rank c.next.key = omega (arith, g.on) in
        past os₁ oe₁ r (rank w.key)
        (shut_at os oe n f u (rank w.key) r os₁ oe₁ o.behind o.within o.on (λ l. g.same (rank w.key) (omega arith) g.on ∙ y) s)
        (rank c.next.key) h g.within (λ k lo hi. g.same k lo hi ∙ y)

    -- a step of the walk
    pub underway_on : (os oe : List ℤ) (n f : ℕ) (w : Walk) (c : Cell) (r : ℕ) (os₁ oe₁ : List ℤ) → Underway t xs ys p e os₀ oe₀ os oe n f
        → Opened t xs ys e f w → Cells t xs ys (rank w.key) e c → Shuts c.yes n f (rank w.key) os oe r os₁ oe₁
        → Underway t xs ys p e os₀ oe₀ os₁ oe₁ r (cond c.yes f (rank c.next.key))
    underway_on os oe n f w c r os₁ oe₁ u o g s = step_by os oe n f w c r os₁ oe₁ c.yes u o g refl s

    -- at the end
    pub underway_all : (os oe : List ℤ) (n f : ℕ) (w : Walk) (r : ℕ) (os₁ oe₁ : List ℤ) → Underway t xs ys p e os₀ oe₀ os oe n f
        → Opened t xs ys e f w → e ≤ rank w.key → Shuts false n f e os oe r os₁ oe₁ → Writes t xs ys p e 0 os₀ oe₀ r os₁ oe₁
    underway_all os oe n f w r os₁ oe₁ u o h s =
        let v = shut_at os oe n f u e r os₁ oe₁ (omega (arith, o.behind, o.within)) (omega arith) (λ k lo hi. o.on k lo (omega arith))
        (λ l. absurd (omega arith)) s in
        v.rest r os₁ oe₁ (writes_none t xs ys e r os₁ oe₁ e (omega arith))

    -- there is a place for a range that ends at the walk
    pub place_for : (os oe : List ℤ) (n f : ℕ) (w : Walk) → Underway t xs ys p e os₀ oe₀ os oe n f → Opened t xs ys e f w
        → (rank w.key < e → says_at t xs ys (rank w.key) ≡ false) → f < rank w.key → (n < length os) × (n < length oe)
    place_for os oe n f w u o off lt = place_there t xs ys e n os oe f (rank w.key) lt o.within o.on off u.fits
