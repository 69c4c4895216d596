-- A plan that is right, carried out, leaves what the edit promises: the stored map with its unused places, for both kinds.
use Prim.Native.Nat.{ℕ, ◌+◌, ◌-◌, ◌≤◌, ◌<◌}
use native.Mathlib.Omega.{arith}
use mathlib.Core.Path.{◌≡◌, sym, ap, ◌∙◌}
use mathlib.Core.Bool.{cond}
use mathlib.Core.List.{List, ◌++◌, map, append_assoc, map-append}
use mathlib.Core.Option.{Option}
use borrow.Author.Tests.{le-leb, lt-leb, lt-ltb, le-ltb}
use lib.Dec.{ltb}
use lib.ListN.{length, take, drop, length-append, length-drop}
use lib.Seq.{take-take, length-take-le}
use lib.IntN.{ℤ, pos}
use Rattle.answers.specs.Answers.{done, empty_range, too_many}
use Rattle.span.specs.Span.{Span, given}
use Rattle.key.specs.Rank.{rank, key_at}
use Rattle.key.specs.Range.{Kind}
use Rattle.key.proofs.Lawful.{Lawful}
use Rattle.splice.specs.InnerSplice.{spliced}
use Rattle.outcomes.specs.Stored.{stored, spans, ranges, filled, storing, AllFit, Sound}
use Rattle.outcomes.specs.declared.Stored.{Stored}
use Rattle.outcomes.specs.Outcomes.{leaving, edit_sound}
use Rattle.outcomes.proofs.Formed.{length_spans}
use Rattle.outcomes.proofs.Storing.{map_take, map_drop, drop_take, starts_back, ends_back, values_back}
use Rattle.splice.specs.InnerReplace.{new_starts, new_ends, new_values, new_count}
use Rattle.splice.specs.declared.Replacement.{Replacement}
use Rattle.edit.specs.InnerPlan.{carried, ColumnsOf, HasKey, Planned, asked}
use Rattle.edit.specs.declared.Change.{Change}
use Rattle.edit.proofs.Places.{columns}

-- the two ends of a plan: there is no room, or each column is spliced
pub no_room : (m : Stored) (p : Replacement) → length m.starts < new_count m.count p → leaving too_many m ≡ carried m p
unfolding carried
no_room m p h = rw (lt-ltb (length m.starts) (new_count m.count p) h)

pub carried_out : (m : Stored) (p : Replacement) {ss es : List ℤ} {vs : List ℕ} → new_count m.count p ≤ length m.starts
    → ss ≡ spliced m.starts p.from p.to m.count (new_starts p) (pos 0)
    → es ≡ spliced m.ends p.from p.to m.count (new_ends p) (pos 0)
    → vs ≡ spliced m.values p.from p.to m.count (new_values p) 0
    → leaving done (stored (new_count m.count p) ss es vs) ≡ carried m p
unfolding carried
carried_out m p h starts ends values = rw (le-ltb (length m.starts) (new_count m.count p) h, starts, ends, values)

-- one column, whatever it holds: l is that of the places and vs that of the ranges that come
module _ {A : Type 0} (f : Span → A) (z : A) (l vs : List A) (ys news : List Span) (i j count : ℕ) (old : map f ys ≡ l) (new : map f news ≡ vs)
    (ij : i ≤ j) (jc : j ≤ count) (held : count ≤ length l) where
  abbrev parts : List Span
  parts = take i (take count ys) ++ (news ++ drop j (take count ys))

  first_part : map f (take i (take count ys)) ≡ take i l
  first_part = map_take f i (take count ys) ∙ ap (take i) (map_take f count ys ∙ ap (take count) old) ∙ take-take i count l (omega arith)

  last_part : map f (drop j (take count ys)) ≡ take (count - j) (drop j l)
  last_part = map_drop f j (take count ys) ∙ ap (drop j) (map_take f count ys ∙ ap (take count) old) ∙ drop_take j count l

  column : map f parts ≡ take i l ++ vs ++ take (count - j) (drop j l)
  column = map-append f (take i (take count ys)) (news ++ drop j (take count ys))
      ∙ rw (map-append f news (drop j (take count ys)), first_part, last_part, new) (sym (append_assoc (take i l) vs (take (count - j) (drop j l))))

  pub column_spliced : filled (length l) z (map f parts) ≡ spliced l i j count vs z
  unfolding filled spliced
  column_spliced =
      let a = length-take-le i l (omega arith) in
      let b = length-take-le (count - j) (drop j l) (omega (arith, length-drop j l)) in
      let n : length (take i l ++ vs ++ take (count - j) (drop j l)) ≡ i + length vs + (count - j) = rw (length-append, length-append, a, b) in
      rw (column, n)

-- of one plan
module _ (kind : Kind) (law : Lawful kind) (m : Stored) (cols : ColumnsOf m) (p : Replacement) (fs : AllFit m.starts) (fe : AllFit m.ends)
    {change : Change} (plan : Planned kind m change p) where
  abbrev n : ℕ
  n = length m.starts

  abbrev ys : List Span
  ys = spans kind m.starts m.ends m.values

  abbrev news : List Span
  news = spans kind (new_starts p) (new_ends p) (new_values p)

  abbrev left : List Span
  left = given (rank change.start) (kind.past change.end) (asked change) (ranges kind m)

  whole : take p.from (take m.count ys) ++ (news ++ drop p.to (take m.count ys)) ≡ left
  unfolding ranges
  whole = plan.right

  len_starts : length (new_starts p) ≡ p.n
  len_starts = length-take-le p.n _ plan.apt.few

  as_ends : length (new_ends p) ≡ length (new_starts p)
  as_ends = length-take-le p.n _ plan.apt.few ∙ sym len_starts

  as_values : length (new_values p) ≡ length (new_starts p)
  as_values = length-take-le p.n _ plan.apt.few ∙ sym len_starts

  starts_col : filled n (pos 0) (map (λ (x : Span). key_at x.lo) left) ≡ spliced m.starts p.from p.to m.count (new_starts p) (pos 0)
  starts_col = rw (← whole)
      (column_spliced (λ (x : Span). key_at x.lo) (pos 0) m.starts (new_starts p) ys news p.from p.to m.count
      (starts_back kind m.starts m.ends m.values cols.ends_as cols.values_as fs)
      (starts_back kind (new_starts p) (new_ends p) (new_values p) as_ends as_values plan.starts_fit)
      plan.apt.ascending plan.apt.within cols.held)

  ends_col : filled n (pos 0) (map (λ (x : Span). kind.ending x.hi) left) ≡ spliced m.ends p.from p.to m.count (new_ends p) (pos 0)
  ends_col = rw (← whole, ← cols.ends_as)
      (column_spliced (λ (x : Span). kind.ending x.hi) (pos 0) m.ends (new_ends p) ys news p.from p.to m.count
      (ends_back kind law m.starts m.ends m.values cols.ends_as cols.values_as fe)
      (ends_back kind law (new_starts p) (new_ends p) (new_values p) as_ends as_values plan.ends_fit)
      plan.apt.ascending plan.apt.within (omega arith))

  values_col : filled n 0 (map (λ (x : Span). x.label) left) ≡ spliced m.values p.from p.to m.count (new_values p) 0
  values_col = rw (← whole, ← cols.values_as)
      (column_spliced (λ (x : Span). x.label) 0 m.values (new_values p) ys news p.from p.to m.count
      (values_back kind m.starts m.ends m.values cols.ends_as cols.values_as)
      (values_back kind (new_starts p) (new_ends p) (new_values p) as_ends as_values)
      plan.apt.ascending plan.apt.within (omega arith))

  -- how many ranges are left
  pub length_left : length left ≡ new_count m.count p
  length_left =
      let a = length_spans kind m.starts m.ends m.values cols.ends_as cols.values_as in
      let b = length_spans kind (new_starts p) (new_ends p) (new_values p) as_ends as_values in
      let h : length (take m.count ys) ≡ m.count = length-take-le m.count ys (omega (arith, cols.held)) in
      let t : length (take p.from (take m.count ys)) ≡ p.from = length-take-le p.from (take m.count ys) (omega (arith, plan.apt)) in
      rw (← whole, length-append, length-append, t, b, len_starts) (omega (arith, length-drop p.to (take m.count ys)))

  pub carried_given : carried m p ≡ cond (ltb n (length left)) (leaving too_many m) (leaving done (storing kind n left))
  unfolding carried storing
  carried_given = rw (starts_col, ends_col, values_col, length_left)

-- the edits of a sound map
pub edit_refused : (kind : Kind) (n : ℕ) (m : Stored) (s e : ℤ) (new : Option ℕ) → kind.past e ≤ rank s → leaving empty_range m ≡ edit_sound kind n m s e new
unfolding edit_sound
edit_refused kind n m s e new h = rw (le-leb (kind.past e) (rank s) h)

pub edit_carried : (kind : Kind) (law : Lawful kind) (m : Stored) → Sound kind m → {change : Change} (p : Replacement) → HasKey kind change
    → Planned kind m change p → carried m p ≡ edit_sound kind (length m.starts) m change.start change.end (asked change)
unfolding edit_sound
edit_carried kind law m sound {change} p h plan =
    carried_given kind law m (columns kind law m sound) p sound.starts_fit sound.ends_fit plan
    ∙ rw (lt-leb (kind.past change.end) (rank change.start) h)
