-- The reader takes exactly the bytes that the grammar spells, and for any bytes there is one query at most.
use Prim.Native.Nat.{ℕ}
use native.Mathlib.Omega.{arith}
use mathlib.Core.Path.{◌≡◌, refl}
use mathlib.Core.List.{List, []}
use Rattle.query_text.specs.Grammar.{Query, Is}
use Rattle.query_text.specs.Reader.{Read, got, bad, query_of}
use Rattle.query_text.proofs.Grammar.{is_read, read_is, one_query}

-- UNAMBIGUOUS: bytes that are two queries are one
pub unambiguous : {w : List ℕ} {p q : Query} → Is w p → Is w q → p ≡ q
unambiguous {w} {p} {q} i j = one_query w p q i j

-- TAKEN: the reader takes the bytes for q exactly where the grammar says that they are q
pub record TakenAs (w : List ℕ) (q : Query) : Type 0 where
  pub taken_is : query_of w ≡ got q [] → Is w q
  pub is_taken : Is w q → query_of w ≡ got q []

pub taken : (w : List ℕ) (q : Query) → TakenAs w q
taken w q = record { taken_is = read_is w q []; is_taken = is_read w q }

-- REFUSED: the reader refuses the bytes exactly where they are no query
pub record RefusedAs (w : List ℕ) : Type 0 where
  pub refused_none : query_of w ≡ bad → (q : Query) → Is w q → ⊥
  pub none_refused : ((q : Query) → Is w q → ⊥) → query_of w ≡ bad

-- what was read, or nothing
none_read : (w : List ℕ) (x : Read) → query_of w ≡ x → ((q : Query) → Is w q → ⊥) → query_of w ≡ bad
none_read w bad e h = e
none_read w (got q r) e h = absurd (h q (read_is w q r e))

pub refused : (w : List ℕ) → RefusedAs w
refused w = record {
  refused_none = λ e q i. let g = is_read w q i in let z : ◌≡◌ {A = ℕ} 0 1 = cc in omega arith;
  none_refused = none_read w (query_of w) refl;
}
