-- A text of edits makes what these edits make: `edits` of document 01's maps, up to the first refusal. And lines as document 01 and docs/PROGRAM.md have them.
use Prim.Native.Nat.{ℕ, suc}
use mathlib.Core.Path.{◌≡◌, refl, ap}
use mathlib.Core.Bool.{Bool, true, false, cond}
use mathlib.Core.List.{List, [], ◌∷◌}
use mathlib.Core.Option.{Option, some, none as nothing}
use borrow.Author.Tests.{eqb-false}
use native.Mathlib.Omega.{arith}
use Rattle.std.specs.Prelude.{Some, None, Result, Ok, Err, ⊤}
use lib.Dec.{eqb, ltb}
use lib.ListN.{length}
use lib.IntN.{ℤ, pos, negsuc}
use Rattle.answers.specs.Answers.{done, empty_range, too_many, not_formed}
use Rattle.answers.specs.Refusals.{number}
use Rattle.answers.specs.declared.Refusal.{Refusal}
use Rattle.answers.specs.declared.Refusal.TheVariants.{EmptyRange, TooMany, NotFormed}
use Rattle.span.specs.Span.{given}
use Rattle.key.specs.Range.{half_open, span_of, empty}
use Rattle.key.proofs.Answers.{one_answer}
use Rattle.outcomes.specs.declared.Stored.{Stored}
use Rattle.outcomes.specs.Stored.{places, ranges, storing, well_formed}
use Rattle.outcomes.specs.Outcomes.{Edited, leaving, Change, edit_sound, edit, clear, edits}
use Rattle.byte_form.specs.Form.{same_bytes}
use Rattle.decimal.specs.Reading.{no_leading_zero, next_of, read_on, read_number, as_natural, as_negative, read_signed}
use Rattle.filling.specs.Filling.{ascii}
use Rattle.edit_lines.specs.Parts.{ahead, parts_at, lines_of}
use Rattle.edit_lines.specs.Making.{line_of, change_of, Made, Done, Refused, NotAnEdit, made, TellsFault, Making, making, line_done, makes, made_of}
use Rattle.edit_lines.specs.declared.Line.TheVariants as Line
use Rattle.edit_lines.specs.declared.NotMade.{NotMade}

-- lines that are these edits
pub data Edits : List (List ℕ) → List Change → Type 0 where
  none : Edits [] []
  more : {l : List ℕ} {ls : List (List ℕ)} {c : Change} {cs : List Change} → change_of (line_of l) ≡ some c → Edits ls cs → Edits (l ∷ ls) (c ∷ cs)

-- the number of what `make` answers
abbrev pub answer_of : Made → ℕ
answer_of Done = 0
answer_of (Refused n a) = a
answer_of (NotAnEdit n) = 0

pub record Same (r : Making) (o : Edited) : Type 0 where
  pub answer : answer_of r.told ≡ o.answer
  pub left : r.left ≡ o.left

same_lines : (n : ℕ) (m : Stored) {ls : List (List ℕ)} {cs : List Change} → Edits ls cs → Same (makes n m ls) (edits half_open m cs)
unfolding makes edits
same_lines n m none = record { answer = refl; left = refl }
same_lines n m (more {ls = ls} {c = c} {cs = cs} is rest) =
    let one = edit half_open m c.start c.end c.new in
    let ih = same_lines (suc n) one.left rest in
    rw is (go one ih (eqb one.answer 0))
  where
    go : (one : Edited) → Same (makes (suc n) one.left ls) (edits half_open one.left cs) → (t : Bool)
        → Same (cond t (makes (suc n) one.left ls) (making (Refused (suc n) one.answer) one.left)) (cond t (edits half_open one.left cs) one)
    go one ih true = ih
    go one ih false = record { answer = refl; left = refl }

-- MAKE IS RUN
pub make_run : (text : List ℕ) {cs : List Change} → Edits (lines_of text) cs → Same (made_of text) (edits half_open (clear half_open) cs)
unfolding made_of
make_run text is = same_lines 0 (clear half_open) is

-- an edit that is not done is refused with the number of a fault
abbrev Faulty : Edited → Type 0
Faulty o = (o.answer ≡ 0 → ⊥) → (why : Refusal) × (o.answer ≡ number why)

edit_fault : (m : Stored) (s e : ℤ) (new : Option ℕ) → Faulty (edit half_open m s e new)
unfolding edit edit_sound
edit_fault m s e new =
    let q = span_of half_open s e 0 in
    let xs = given q.lo q.hi new (ranges half_open m) in
    go (storing half_open places xs) (well_formed half_open places m) (empty q) (ltb places (length xs))
  where
    go : (left : Stored) (t u v : Bool) → Faulty (cond t (cond u (leaving empty_range m) (cond v (leaving too_many m) (leaving done left))) (leaving not_formed m))
    go left false u v undone = (NotFormed, refl)
    go left true true v undone = (EmptyRange, refl)
    go left true false true undone = (TooMany, refl)
    go left true false false undone = absurd (undone refl)

-- a line tells the number of a fault, if what is behind it does
line_fault : (n : ℕ) (m : Stored) (c : Option Change) (behind : Stored → Making) → ((left : Stored) → TellsFault (behind left).told)
    → TellsFault (line_done n m c behind).told
line_fault n m nothing behind h = tt
line_fault n m (some c) behind h =
    let one = edit half_open m c.start c.end c.new in
    go one (edit_fault m c.start c.end c.new) (eqb one.answer 0) refl
  where
    go : (one : Edited) → Faulty one → (t : Bool) → eqb one.answer 0 ≡ t
        → TellsFault (cond t (behind one.left) (making (Refused n one.answer) one.left)).told
    go one fault true e = h one.left
    go one fault false e = fault (eqb-false one.answer 0 e)

lines_fault : (n : ℕ) (m : Stored) (ls : List (List ℕ)) → TellsFault (makes n m ls).told
unfolding makes
lines_fault n m [] = tt
lines_fault n m (l ∷ ls) =
    line_fault (suc n) m (change_of (line_of l)) (λ (left : Stored). makes (suc n) left ls) (λ (left : Stored). lines_fault (suc n) left ls)

-- A REFUSAL of `make` tells the number of a fault
pub make_fault : (text : List ℕ) → TellsFault (made_of text).told
unfolding made_of
make_fault text = lines_fault 0 (clear half_open) (lines_of text)

-- `unfolding all` opens every definition that a case computes with
unfoldable all : Unit {0}
unfolding ahead parts_at same_bytes no_leading_zero next_of read_on read_number as_natural as_negative read_signed line_of
all = tt

pub an_insert : line_of (ascii "insert -5 5 255") ≡ Some (Line.Insert (negsuc 4) (pos 5) 255)
unfolding all
an_insert = refl

pub a_remove : line_of (ascii "remove 3 6") ≡ Some (Line.Remove (pos 3) (pos 6))
unfolding all
a_remove = refl

pub value_256 : line_of (ascii "insert 0 5 256") ≡ None
unfolding all
value_256 = refl

pub two_spaces : line_of (ascii "remove  3 6") ≡ None
unfolding all
two_spaces = refl

pub leading_zero : line_of (ascii "remove 03 6") ≡ None
unfolding all
leading_zero = refl

pub last_line : lines_of (ascii "a\nb") ≡ ascii "a" ∷ ascii "b" ∷ []
unfolding all
last_line = refl

pub ended_line : lines_of (ascii "a\n\n") ≡ ascii "a" ∷ [] ∷ []
unfolding all
ended_line = refl

-- what `make` answers, by how it is told
abbrev kind_of_made : Made → ℕ
kind_of_made Done = 0
kind_of_made (Refused n a) = 1
kind_of_made (NotAnEdit n) = 2

abbrev line_of_made : Made → ℕ
line_of_made Done = 0
line_of_made (Refused n a) = n
line_of_made (NotAnEdit n) = n

made_one : (r t : Result ⊤ NotMade) → made r ≡ made t → r ≡ t
made_one (Ok u) (Ok v) e = refl
made_one (Ok u) (Err (NotMade.Refused n a)) e = absurd (omega (arith, ap kind_of_made e))
made_one (Ok u) (Err (NotMade.NotAnEdit n)) e = absurd (omega (arith, ap kind_of_made e))
made_one (Err (NotMade.Refused n a)) (Ok u) e = absurd (omega (arith, ap kind_of_made e))
made_one (Err (NotMade.Refused n a)) (Err (NotMade.Refused m b)) e = rw (ap line_of_made e, ap answer_of e)
made_one (Err (NotMade.Refused n a)) (Err (NotMade.NotAnEdit m)) e = absurd (omega (arith, ap kind_of_made e))
made_one (Err (NotMade.NotAnEdit n)) (Ok u) e = absurd (omega (arith, ap kind_of_made e))
made_one (Err (NotMade.NotAnEdit n)) (Err (NotMade.Refused m b)) e = absurd (omega (arith, ap kind_of_made e))
made_one (Err (NotMade.NotAnEdit n)) (Err (NotMade.NotAnEdit m)) e = rw (ap line_of_made e)

-- ONE OUTCOME of `make`: what it answers, and the map that it leaves
pub making_one : {r t : Result ⊤ NotMade} {m n : Stored} {o : Making} → making (made r) m ≡ o → making (made t) n ≡ o → (r ≡ t) × (m ≡ n)
making_one {r} {t} a b = (made_one r t (ap (λ (o : Making). o.told) (one_answer a b)), ap (λ (o : Making). o.left) (one_answer a b))
