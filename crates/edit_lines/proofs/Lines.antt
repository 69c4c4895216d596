-- One line done on a map, and the lines behind it, as a loop does them.
use Prim.Native.Nat.{ℕ, ◌+◌}
use native.Mathlib.Omega.{arith}
use native.Mathlib.Numerals.{add-one}
use mathlib.Core.Path.{◌≡◌, refl, sym, ap, ◌∙◌}
use mathlib.Core.Bool.{Bool, true, false, cond}
use mathlib.Core.List.{List, [], ◌∷◌}
use mathlib.Core.Option.{Option, some, none}
use lib.Dec.{eqb}
use Rattle.key.specs.Range.{half_open}
use Rattle.outcomes.specs.declared.Stored.{Stored}
use Rattle.outcomes.specs.Outcomes.{Change, edit}
use Rattle.std.specs.Prelude.{Err}
use Rattle.edit_lines.specs.Parts.{lines_of}
use Rattle.edit_lines.specs.Making.{line_of, change_of, Made, Done, Refused, NotAnEdit, made, Making, making, line_done, makes}
use Rattle.edit_lines.specs.declared.NotMade.{NotMade}

-- has it stopped
abbrev stopped : Made → Bool
stopped Done = false
stopped (Refused n a) = true
stopped (NotAnEdit n) = true

module _ (n : ℕ) (m : Stored) (behind : Stored → Making) where
  goes : (t : Bool) (a : ℕ) (left m₁ : Stored) → making Done m₁ ≡ cond t (making Done left) (making (Refused n a) left)
      → cond t (behind left) (making (Refused n a) left) ≡ behind m₁
  goes true a left m₁ e = let z : left ≡ m₁ = ap (λ (r : Making). r.left) (sym e) in ap behind z
  goes false a left m₁ e = absurd (let z : ◌≡◌ {A = Bool} false true = ap (λ (r : Making). stopped r.told) e in let y : ◌≡◌ {A = ℕ} 0 1 = cc in omega arith)

  -- a line that is done: what is behind it goes on
  pub line_goes : (c : Option Change) {m₁ : Stored} → making Done m₁ ≡ line_done n m c (making Done) → line_done n m c behind ≡ behind m₁
  line_goes none e = absurd (let z : ◌≡◌ {A = Bool} false true = ap (λ (r : Making). stopped r.told) e in let y : ◌≡◌ {A = ℕ} 0 1 = cc in omega arith)
  line_goes (some c) {m₁} e = let one = edit half_open m c.start c.end c.new in goes (eqb one.answer 0) one.answer one.left m₁ e

  stops : (t : Bool) (a : ℕ) (r : Made) (left m₁ : Stored) → stopped r ≡ true → making r m₁ ≡ cond t (making Done left) (making (Refused n a) left)
      → cond t (behind left) (making (Refused n a) left) ≡ making r m₁
  stops true a r left m₁ s e = absurd (let z : stopped r ≡ false = ap (λ (x : Making). stopped x.told) e in let y : ◌≡◌ {A = ℕ} 0 1 = cc in omega arith)
  stops false a r left m₁ s e = sym e

  -- a line that is not: nothing behind it is done
  pub line_stops : (c : Option Change) {r : Made} {m₁ : Stored} → stopped r ≡ true → making r m₁ ≡ line_done n m c (making Done)
      → line_done n m c behind ≡ making r m₁
  line_stops none s e = sym e
  line_stops (some c) {r} {m₁} s e = let one = edit half_open m c.start c.end c.new in stops (eqb one.answer 0) one.answer r one.left m₁ s e

has_stopped : (why : NotMade) → stopped (made (Err why)) ≡ true
has_stopped (NotMade.Refused n a) = refl
has_stopped (NotMade.NotAnEdit n) = refl

-- a text of which the first line is known, and what is behind it
module _ (text line rest : List ℕ) (n : ℕ) (m : Stored) (is : lines_of text ≡ line ∷ lines_of rest) where
  abbrev this : Option Change
  this = change_of (line_of line)

  abbrev behind : Stored → Making
  behind left = makes (n + 1) left (lines_of rest)

  one_line : makes n m (lines_of text) ≡ line_done (n + 1) m this behind
  unfolding makes
  one_line =
      ap (makes n m) is
      ∙ ap (λ (k : ℕ). line_done k m this (λ (left : Stored). makes k left (lines_of rest))) (sym (add-one n))

  pub line_ends : (why : NotMade) {m₁ : Stored} → making (made (Err why)) m₁ ≡ line_done (n + 1) m this (making Done)
      → making (made (Err why)) m₁ ≡ makes n m (lines_of text)
  line_ends why e = sym (one_line ∙ line_stops (n + 1) m behind this (has_stopped why) e)

  pub line_again : {m₁ : Stored} → making Done m₁ ≡ line_done (n + 1) m this (making Done)
      → makes n m (lines_of text) ≡ makes (n + 1) m₁ (lines_of rest)
  line_again e = one_line ∙ line_goes (n + 1) m behind this e

-- at the end of a text no line is left
pub no_line : (text : List ℕ) (n : ℕ) (m : Stored) → lines_of text ≡ [] → makes n m (lines_of text) ≡ making Done m
unfolding makes
no_line text n m e = rw e
