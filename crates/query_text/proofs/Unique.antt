-- ONE ANSWER of the functions that read a query: which variant, the cursor, and what the table says of each two classes. The 7 bits of a table that
-- stand for no pair of classes are free.
use Prim.Native.Nat.{ℕ}
use native.Mathlib.Omega.{arith}
use mathlib.Core.Path.{◌≡◌, sym, ap, subst, ◌∙◌}
use mathlib.Core.Bool.{Bool}
use mathlib.Core.List.{List, []}
use lib.ListN.{length, length-drop}
use Rattle.query_text.specs.Grammar.{Query, first}
use Rattle.query_text.specs.Reader.{Read, got, bad}
use Rattle.query_text.specs.InnerClasses.{class_truth}
use Rattle.query_text.specs.InnerCursor.{cursor}
use Rattle.query_text.specs.InnerReading.{Finds, ReadAs}
use Rattle.query_text.specs.InnerTable.{says, Shows}
use Rattle.query_text.specs.declared.cursor.Cursor.{Cursor}
use Rattle.query_text.specs.declared.truth.Truth.{Truth}
use Rattle.query_text.specs.declared.reader.Reading.{Reading}

-- a table, at each two classes
pub shows_one : (t u : Truth) (f : ℕ → ℕ → Bool) → Shows t f → Shows u f → Shows t (says u)
shows_one t u f x y a b p q = x a b p q ∙ sym (y a b p q)

-- two answers of the reader that are one: both refuse, or the cursors are equal and the tables say the same
abbrev pub SameReading : Reading → Reading → Type 0
SameReading (Reading.Got d t) (Reading.Got e u) = (d ≡ e) × Shows t (says u)
SameReading (Reading.Got d t) Reading.Bad = ⊥
SameReading Reading.Bad (Reading.Got e u) = ⊥
SameReading Reading.Bad Reading.Bad = Unit {0}

-- what was read, and what is left of the bytes
abbrev query_in : Read → Query
query_in (got q rest) = q
query_in bad = first 0

abbrev rest_in : Read → List ℕ
rest_in (got q rest) = rest
rest_in bad = []

abbrev Taken : Read → Type 0
Taken (got q rest) = Unit {0}
Taken bad = ⊥

module _ (bytes : List ℕ) (n : ℕ) (x : Read) where
  -- the place is how many bytes are no longer left
  same_place : {c d : Cursor} {t u : Truth} → Finds bytes n x c t → Finds bytes n x d u → c.at ≡ d.at
  same_place {c} {d} a b =
      let left = ap (λ (r : Read). length (rest_in r)) (sym a.is ∙ b.is) in
      omega (arith, left, length-drop c.at bytes, length-drop d.at bytes, a.inside, b.inside)

  finds_one : {c d : Cursor} {t u : Truth} → Finds bytes n x c t → Finds bytes n x d u → (c ≡ d) × Shows t (says u)
  finds_one {c} {d} {t} {u} a b =
      let marks : c.marks ≡ d.marks = a.back ∙ sym b.back in
      let query = ap query_in (sym a.is ∙ b.is) in (
        ap (λ (i : ℕ). cursor i c.marks) (same_place a b) ∙ ap (cursor d.at) marks,
        shows_one t u (class_truth b.query) (subst (λ (q : Query). Shows t (class_truth q)) query a.table) b.table,
      )

  not_both : {c : Cursor} {t : Truth} → Finds bytes n x c t → x ≡ bad → ⊥
  not_both a e = subst Taken (sym a.is ∙ e) tt

  pub read_as_one : (r s : Reading) → ReadAs bytes n x r → ReadAs bytes n x s → SameReading r s
  read_as_one (Reading.Got c t) (Reading.Got d u) a b = finds_one a b
  read_as_one (Reading.Got c t) Reading.Bad a b = not_both a b
  read_as_one Reading.Bad (Reading.Got d u) a b = not_both b a
  read_as_one Reading.Bad Reading.Bad a b = tt
