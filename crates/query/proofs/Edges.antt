-- A cell from what is seen in both maps, and an edge from cells.
use Prim.Native.Nat.{ℕ, ◌≤◌, ◌<◌, min}
use native.Mathlib.Omega.{arith}
use native.Mathlib.Decide.{dec_lt}
use mathlib.Core.Path.{◌≡◌, refl, sym, ◌∙◌}
use mathlib.Core.Bool.{Bool, true, false, not, beq}
use mathlib.Core.List.{List}
use lib.IntN.{ℤ}
use Rattle.span.specs.Span.{Span, at}
use Rattle.key.specs.Rank.{rank}
use Rattle.query_text.specs.declared.truth.Truth.{Truth}
use Rattle.query_text.specs.InnerClasses.{class_of}
use Rattle.query_text.specs.InnerTable.{says}
use Rattle.query.specs.declared.walk.Walk.{Walk}
use Rattle.query.specs.declared.walk.Cell.{Cell}
use Rattle.query.specs.InnerSeen.{Sees}
use Rattle.query.specs.InnerWalk.{Silent, says_at, Stands, Cells, Edges}
use Rattle.query.proofs.Walking.{class_least, trails_later}

module _ (t : Truth) (xs ys : List Span) (w : Walk) (e : ℕ) where
  -- where the table is silent, the cell goes on as long as the first map holds the same
  pub cell_silent : Stands xs ys w → (u : ℤ) (n a : ℕ) → Sees xs (rank w.key) e (rank u) n a → Silent t n
      → Cells t xs ys (rank w.key) e (record { yes = false; next = record { key = u; a = a; b = w.b } })
  cell_silent z u n a s q = record {
    on = s.on;
    within = s.within;
    same = λ k lo hi. rw (s.holds k lo hi) (q (class_of (at ys k)) (class_least (at ys k)));
    stands = record {
      a = trails_later xs a (rank w.key) s.trails (rank u) (omega (arith, s.on));
      b = trails_later ys w.b (rank w.key) z.b (rank u) (omega (arith, s.on));
    };
  }

  -- else it goes on as long as both do
  pub cell_made : (ux uy key : ℤ) (cx cy a b : ℕ) (so : Bool)
      → Sees xs (rank w.key) e (rank ux) cx a → Sees ys (rank w.key) e (rank uy) cy b
      → rank key ≡ min (rank ux) (rank uy) → so ≡ says t cx cy
      → Cells t xs ys (rank w.key) e (record { yes = so; next = record { key = key; a = a; b = b } })
  cell_made ux uy key cx cy a b so sx sy k s =
      let on : rank w.key < rank key = omega (arith, sx.on, sy.on) in
      record {
        on = on;
        within = omega (arith, sx.within);
        same = λ i lo hi. rw (sx.holds i lo (omega arith), sy.holds i lo (omega arith)) (sym s);
        stands = record {
          a = trails_later xs a (rank w.key) sx.trails (rank key) (omega arith);
          b = trails_later ys b (rank w.key) sy.trails (rank key) (omega arith);
        };
      }

-- a test of two Bools
pub same_yes : (a b : Bool) → beq a b ≡ true → a ≡ b
same_yes true true e = refl
same_yes true false e = sym e
same_yes false true e = e
same_yes false false e = refl

pub same_no : (a b : Bool) → beq a b ≡ false → a ≡ not b
same_no true true e = e
same_no true false e = refl
same_no false true e = refl
same_no false false e = sym e

-- on the way to an edge: from p up to the walk w the table says the other thing
pub record Sought (t : Truth) (xs ys : List Span) (p e : ℕ) (so : Bool) (w : Walk) : Type 0 where
  pub on : p ≤ rank w.key
  pub within : rank w.key ≤ e
  pub before_it : (k : ℕ) → p ≤ k → k < rank w.key → says_at t xs ys k ≡ not so
  pub stands : Stands xs ys w

module _ (t : Truth) (xs ys : List Span) (e : ℕ) (so : Bool) where
  pub sought_first : (w : Walk) → Stands xs ys w → rank w.key ≤ e → Sought t xs ys (rank w.key) e so w
  sought_first w z le = record {
    on = omega arith;
    within = le;
    before_it = λ k lo hi. absurd (omega arith);
    stands = z;
  }

  pub sought_on : (p : ℕ) (w : Walk) (c : Cell) → Sought t xs ys p e so w → Cells t xs ys (rank w.key) e c → c.yes ≡ not so
      → Sought t xs ys p e so c.next
  sought_on p w c s g h = record {
    on = omega (arith, s.on, g.on);
    within = g.within;
    before_it = λ i lo hi. elim (dec_lt i (rank w.key)) [
      | yes q ↦ s.before_it i lo q
      | no q ↦ g.same i (omega arith) hi ∙ h
    ];
    stands = g.stands;
  }

  -- the edge is here, or the end is
  pub edge_here : (p : ℕ) (w : Walk) (c : Cell) → Sought t xs ys p e so w → Cells t xs ys (rank w.key) e c → c.yes ≡ so → Edges t xs ys p e so w
  edge_here p w c s g h = record {
    on = s.on;
    within = s.within;
    before_it = s.before_it;
    there = λ l. g.same (rank w.key) (omega arith) g.on ∙ h;
    stands = s.stands;
  }

  pub edge_end : (p : ℕ) (w : Walk) → Sought t xs ys p e so w → e ≤ rank w.key → Edges t xs ys p e so w
  edge_end p w s ge = record {
    on = s.on;
    within = s.within;
    before_it = s.before_it;
    there = λ l. absurd (omega arith);
    stands = s.stands;
  }
