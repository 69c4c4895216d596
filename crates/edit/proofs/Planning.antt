-- Which plans are right: of lists of spans, and so of both kinds of map, and of insert and remove alike.
use Prim.Native.Nat.{ℕ, zero, suc, ◌+◌, ◌-◌, ◌≤◌, ◌<◌}
use native.Mathlib.Omega.{arith}
use mathlib.Core.Path.{◌≡◌, refl, sym, ap, subst, ◌∙◌}
use mathlib.Core.Bool.{Bool, true, false}
use mathlib.Core.List.{List, [], ◌∷◌, ◌++◌, map}
use mathlib.Core.Option.{Option, some, none}
use lib.ListN.{length, get_or, take, drop, length-drop}
use lib.IntN.{ℤ, pos}
use mir.Syntax.{w64}
use mir.Val.{SFits}
use mir.Facts.{sfits_lit}
use lib.Seq.{take-suc, drop-cons, drop-drop, get_or-take, get_or-drop, length-take-le}
use borrow.Author.Tests.{lt-ltb, le-ltb}
use Rattle.span.specs.Span.{Span, span, Ordered, Tidy, keep, joined, piece, given}
use Rattle.span.proofs.Holding.{ordered_left, ordered_right}
use Rattle.span.proofs.Pieces.{middle, middle_none, middle_cut, left_clear, left_kept, left_joined, right_clear, right_kept, right_joined}
use Rattle.span.proofs.Local.{EndsBefore, left_edge, right_edge, given_local}
use Rattle.key.specs.Rank.{rank}
use Rattle.key.specs.Range.{Kind, span_of}
use Rattle.key.specs.InnerDecides.{Decides}
use Rattle.key.proofs.Answers.{never, holds, fails, not_full}
use Rattle.key.proofs.Lawful.{Lawful}
use Rattle.splice.specs.InnerReplace.{new_starts, new_ends, new_values}
use Rattle.key.specs.declared.Entry.{Entry}
use Rattle.splice.specs.declared.Replacement.{Replacement}
use Rattle.outcomes.specs.Stored.{spans, ranges, AllFit, Sound}
use Rattle.outcomes.specs.declared.Stored.{Stored}
use Rattle.outcomes.proofs.Formed.{good}
use Rattle.edit.specs.declared.Change.{Change}
use Rattle.edit.specs.declared.Met.{Met}
use Rattle.edit.specs.InnerPlan.{HasKey, New, value_if, asked, placed, in_front, nowhere, Touching, Meets, Beside, b_clear, b_joined, b_kept}
use Rattle.edit.specs.InnerPlan.{kept, Brings, Overlaid, Planned}
use Rattle.edit.proofs.Cuts.{cut_right}
use Rattle.edit.proofs.Places.{len, at_place}
use Rattle.outcomes.specs.Answered.{entry}
use Rattle.std.specs.Prelude.{Some, None}

-- a list, cut at two places
halves : {A : Type 0} (n : ℕ) (l : List A) → l ≡ take n l ++ drop n l
halves zero l = refl
halves (suc n) [] = refl
halves (suc n) (x ∷ xs) = rw (← halves n xs)

thirds : {A : Type 0} (i j : ℕ) (l : List A) → i ≤ j → l ≡ take i l ++ (take (j - i) (drop i l) ++ drop j l)
thirds i j l h =
    let e : i + (j - i) ≡ j = omega arith in
    let last = drop-drop (j - i) i l ∙ ap (λ (k : ℕ). drop k l) e in
    halves i l ∙ ap (λ (r : List _). take i l ++ r) (halves (j - i) (drop i l) ∙ ap (λ (r : List _). take (j - i) (drop i l) ++ r) last)

ends_before : (c : ℕ) (l : List Span) → ((k : ℕ) → k < length l → (get_or l k nowhere).hi < c) → EndsBefore c l
ends_before c [] h = tt
ends_before c (x ∷ xs) h = (h 0 (omega arith), ends_before c xs (λ k b. h (suc k) (omega arith)))

ordered_at_first : (b c : ℕ) (l : List Span) → Ordered b l → (0 < length l → c ≤ (get_or l 0 nowhere).lo) → Ordered c l
ordered_at_first b c [] o h = tt
ordered_at_first b c (x ∷ xs) o h = (h (omega arith), o.1, o.2)

-- an edge lies off the range
left_edge_lem : (new : Option ℕ) (lo : ℕ) → lo ≤ left_edge new lo
left_edge_lem none lo = omega arith
left_edge_lem (some v) lo = omega arith

right_edge_lem : (new : Option ℕ) (hi : ℕ) → right_edge new hi ≤ suc hi
right_edge_lem none hi = omega arith
right_edge_lem (some v) hi = omega arith

module _ (xs : List Span) (lo hi : ℕ) (new : Option ℕ) (from to : ℕ) (ns : List Span) (real : lo < hi) (tidy : Tidy 0 xs) (t : Touching xs lo hi from to) where
  abbrev ls : List Span
  ls = take from xs

  abbrev ms : List Span
  ms = take (to - from) (drop from xs)

  abbrev rs : List Span
  rs = drop to xs

  cut : xs ≡ ls ++ (ms ++ rs)
  cut = thirds from to xs t.ascending

  cut_tidy : Tidy 0 (ls ++ (ms ++ rs))
  cut_tidy = subst (Tidy 0) cut tidy

  off_left : EndsBefore (left_edge new lo) ls
  off_left = ends_before (left_edge new lo) ls (λ k b.
      let h = length-take-le from xs (omega (arith, t.ascending, t.within)) in
      rw (get_or-take from xs k nowhere (omega arith)) (omega (arith, t.before k (omega arith), left_edge_lem new lo)))

  off_right : Ordered (right_edge new hi) rs
  off_right = ordered_at_first 0 (right_edge new hi) rs (ordered_right 0 ms rs (ordered_right 0 ls (ms ++ rs) cut_tidy.ordered))
      (λ b. rw (get_or-drop to xs 0 nowhere) (omega (arith, right_edge_lem new hi, t.after (to + 0) (omega arith) (omega (arith, length-drop to xs)))))

  -- to replace the places by what the edit makes of them is the edit
  pub replaced : given lo hi new ms ≡ ns → ls ++ (ns ++ rs) ≡ given lo hi new xs
  replaced e = given_local lo hi new ls ms ns rs real off_left off_right cut_tidy e ∙ ap (given lo hi new) (sym cut)

  -- no place is met
  pub replaced_none : from ≡ to → piece lo hi new [] ≡ ns → ls ++ (ns ++ rs) ≡ given lo hi new xs
  replaced_none e p =
      let z : to - from ≡ 0 = omega arith in
      let m : ms ≡ [] = ap (λ (k : ℕ). take k (drop from xs)) z in
      replaced (ap (given lo hi new) m ∙ middle_none lo hi new ∙ p)

  -- some are: the first and the last of them are cut
  module _ (some-met : from < to) where
    abbrev x : Span
    x = get_or xs from nowhere

    abbrev y : Span
    y = get_or xs (to - 1) nowhere

    first_met : ms ≡ x ∷ take (to - from - 1) (drop (suc from) xs)
    first_met =
        let e : to - from ≡ suc (to - from - 1) = omega arith in
        ap (λ (k : ℕ). take k (drop from xs)) e ∙ ap (take (suc (to - from - 1))) (drop-cons xs from nowhere (omega (arith, t.within)))

    last_met : ms ≡ take (to - from - 1) (drop from xs) ++ y ∷ []
    last_met =
        let e : to - from ≡ suc (to - from - 1) = omega arith in
        let f : from + (to - from - 1) ≡ to - 1 = omega arith in
        ap (λ (k : ℕ). take k (drop from xs)) e ∙ take-suc (drop from xs) (to - from - 1) nowhere (omega (arith, length-drop from xs, t.within))
        ∙ ap (λ (w : Span). take (to - from - 1) (drop from xs) ++ w ∷ []) (get_or-drop from xs (to - from - 1) nowhere ∙ ap (λ (k : ℕ). get_or xs k nowhere) f)

    ordered_met : Ordered 0 (x ∷ take (to - from - 1) (drop (suc from) xs))
    ordered_met = subst (Ordered 0) first_met (ordered_left 0 ms rs (ordered_right 0 ls (ms ++ rs) cut_tidy.ordered))

    pub replaced_some : joined (keep (span x.lo lo x.label) [] ++ piece lo hi new (keep (span hi y.hi y.label) [])) ≡ ns
        → ls ++ (ns ++ rs) ≡ given lo hi new xs
    replaced_some p = replaced (ap (given lo hi new) first_met
        ∙ middle lo hi 0 new x _ (take (to - from - 1) (drop from xs)) y (sym first_met ∙ last_met) ordered_met
        (t.reach from (omega arith) (omega (arith, t.within))) (t.begun (to - 1) (omega arith)) ∙ p)

-- the span of an entry
abbrev entry_span : Kind → Entry → Span
entry_span kind x = span_of kind x.start x.end x.value

-- a span put in front, if it is kept
abbrev with : Bool → Span → List Span → List Span
with true x xs = x ∷ xs
with false x xs = xs

with_app : (k : Bool) (x : Span) (xs : List Span) → with k x [] ++ xs ≡ with k x xs
with_app true x xs = refl
with_app false x xs = refl

-- a part that is cut off is kept, unless it is empty
keep_with : (a b p : ℕ) (k : Bool) → Decides k (a < b) → keep (span a b p) [] ≡ with k (span a b p) []
unfolding keep
keep_with a b p true d = rw (lt-ltb a b (d.right refl))
keep_with a b p false d = rw (le-ltb a b (not_full d refl))

-- THE SIDES: what becomes of an old range on a side of the new one

-- a test in the code decides whether the old range goes beyond
pub beside_by : {b : Bool} {Beyond : Type 0} {p : ℕ} {new : Option ℕ} {own far key : ℤ} {k : Bool}
    → Decides b Beyond → Beside (b ≡ true) p new own far k key → Beside Beyond p new own far k key
beside_by {b} d (b_clear h) = b_clear (d.wrong (not_so b h))
  where
    not_so : (b : Bool) → (b ≡ true → ⊥) → b ≡ false
    not_so true h = absurd (h refl)
    not_so false h = refl
beside_by d (b_joined h e) = b_joined (d.right h) e
beside_by d (b_kept h n) = b_kept (d.right h) n

-- where no value comes, what goes beyond is kept
beside_none : {Beyond : Type 0} {p : ℕ} {own far key : ℤ} {k : Bool} → Beside Beyond p none own far k key → Decides k Beyond
beside_none (b_clear h) = fails h
beside_none (b_joined h e) = absurd e
beside_none (b_kept h n) = holds h

-- the new range's key is an i64
pub beside_fits : {Beyond : Type 0} {p : ℕ} {new : Option ℕ} {own far key : ℤ} {k : Bool}
    → Beside Beyond p new own far k key → SFits w64 own → SFits w64 far → SFits w64 key
beside_fits (b_clear h) f g = f
beside_fits (b_joined h e) f g = g
beside_fits (b_kept h n) f g = f

-- only what goes beyond is kept
beside_beyond : {Beyond : Type 0} {p : ℕ} {new : Option ℕ} {own far key : ℤ} {k : Bool} → Beside Beyond p new own far k key → k ≡ true → Beyond
beside_beyond (b_clear h) t = never t
beside_beyond (b_joined h e) t = never t
beside_beyond (b_kept h n) t = h

-- on the left of the new range the first span that is met begins at `first` with the label p, on its right the last ends with `last` and the label q
module _ {kind : Kind} (law : Lawful kind) where
  later_too : {end last : ℤ} {k : Bool} → Decides k (rank end < rank last) → Decides k (kind.past end < kind.past last)
  later_too {end} {last} {k = true} d = holds (law.later end last (d.right refl))
  later_too {end} {last} {k = false} d = fails (λ w. omega (arith, law.no_later last end (not_full d refl)))

  right_side : {lo v q : ℕ} {end last key : ℤ} {k : Bool} → Beside (rank end < rank last) q (some v) end last k key
      → joined (span lo (kind.past end) v ∷ keep (span (kind.past end) (kind.past last) q) [])
      ≡ span lo (kind.past key) v ∷ with k (span (kind.past end) (kind.past last) q) []
  right_side {lo} {v} {q} {end} {last} (b_clear h) = right_clear lo (kind.past end) (kind.past last) v q (law.no_later last end (omega arith))
  right_side {lo} {v} {q} {end} {last} (b_joined h e) = right_joined lo (kind.past end) (kind.past last) v q (law.later end last h) (sym e)
  right_side {lo} {v} {q} {end} {last} (b_kept h n) = right_kept lo (kind.past end) (kind.past last) v q (law.later end last h) (λ e. n (sym e))

  pieces : (new : Option ℕ) {p q : ℕ} {first start end last s e : ℤ} {j k : Bool} → rank start < kind.past end
      → Beside (rank first < rank start) p new start first j s → Beside (rank end < rank last) q new end last k e
      → joined (keep (span (rank first) (rank start) p) [] ++ piece (rank start) (kind.past end) new (keep (span (kind.past end) (kind.past last) q) []))
      ≡ with j (span (rank first) (rank start) p) (piece (rank s) (kind.past e) new (with k (span (kind.past end) (kind.past last) q) []))
  pieces none {p} {q} {first} {start} {end} {last} {j = j} {k = k} real left right =
      middle_cut (rank first) (rank start) (kind.past end) (kind.past last) p q real
      ∙ rw (keep_with _ _ _ j (beside_none left), keep_with _ _ _ k (later_too (beside_none right))) (with_app j _ _)
  pieces (some v) {p} {q} {first} {start} {end} {last} real (b_clear h) right =
      left_clear (rank first) (rank start) p (span (rank start) (kind.past end) v ∷ keep (span (kind.past end) (kind.past last) q) []) (omega arith)
      ∙ right_side right
  pieces (some v) {p} {q} {first} {start} {end} {last} real (b_joined h e) right =
      left_joined (span (rank start) (kind.past end) v ∷ keep (span (kind.past end) (kind.past last) q) []) h e (right_side right)
  pieces (some v) {p} {q} {first} {start} {end} {last} real (b_kept h n) right =
      left_kept (span (rank start) (kind.past end) v ∷ keep (span (kind.past end) (kind.past last) q) []) h n (right_side right)

-- the spans of the entries that come
columns_spans : (kind : Kind) (n : ℕ) (x y z : Entry)
    → spans kind (take n (x.start ∷ y.start ∷ z.start ∷ [])) (take n (x.end ∷ y.end ∷ z.end ∷ [])) (take n (x.value ∷ y.value ∷ z.value ∷ []))
    ≡ map (entry_span kind) (take n (x ∷ y ∷ z ∷ []))
unfolding spans
columns_spans kind zero x y z = refl
columns_spans kind (suc zero) x y z = refl
columns_spans kind (suc (suc zero)) x y z = refl
columns_spans kind (suc (suc (suc zero))) x y z = refl
columns_spans kind (suc (suc (suc (suc n)))) x y z = refl

brings_spans : (kind : Kind) (p : Replacement) {i j n : ℕ} {es : List Entry} → Brings p i j n es
    → spans kind (new_starts p) (new_ends p) (new_values p) ≡ map (entry_span kind) es
brings_spans kind p b = columns_spans kind p.n p.x p.y p.z ∙ ap (map (entry_span kind)) b.are

-- the keys of an entry are i64, and those of a list of entries
record KeysFit (x : Entry) : Type 0 where
  start_fits : SFits w64 x.start
  end_fits : SFits w64 x.end

abbrev EntriesFit : List Entry → Type 0
EntriesFit [] = Unit {0}
EntriesFit (x ∷ xs) = KeysFit x × EntriesFit xs

kept_fit : (k : Bool) (x : Entry) (xs : List Entry) → KeysFit x → EntriesFit xs → EntriesFit (kept k x xs)
kept_fit true x xs f g = (f, g)
kept_fit false x xs f g = g

module _ (f : Entry → ℤ) where
  column_of : (n : ℕ) (x y z : Entry) → map f (take n (x ∷ y ∷ z ∷ [])) ≡ take n (f x ∷ f y ∷ f z ∷ [])
  column_of zero x y z = refl
  column_of (suc zero) x y z = refl
  column_of (suc (suc zero)) x y z = refl
  column_of (suc (suc (suc zero))) x y z = refl
  column_of (suc (suc (suc (suc n)))) x y z = refl

starts_fit_of : (xs : List Entry) → EntriesFit xs → AllFit (map (λ (x : Entry). x.start) xs)
starts_fit_of [] g k = sfits_lit tt
starts_fit_of (x ∷ xs) g zero = g.0.start_fits
starts_fit_of (x ∷ xs) g (suc k) = starts_fit_of xs g.1 k

ends_fit_of : (xs : List Entry) → EntriesFit xs → AllFit (map (λ (x : Entry). x.end) xs)
ends_fit_of [] g k = sfits_lit tt
ends_fit_of (x ∷ xs) g zero = g.0.end_fits
ends_fit_of (x ∷ xs) g (suc k) = ends_fit_of xs g.1 k

brings_starts : (p : Replacement) {i j n : ℕ} {es : List Entry} → Brings p i j n es → EntriesFit es → AllFit (new_starts p)
brings_starts p {es = es} b g =
    subst AllFit (ap (map (λ (x : Entry). x.start)) (sym b.are) ∙ column_of (λ (x : Entry). x.start) p.n p.x p.y p.z) (starts_fit_of es g)

brings_ends : (p : Replacement) {i j n : ℕ} {es : List Entry} → Brings p i j n es → EntriesFit es → AllFit (new_ends p)
brings_ends p {es = es} b g =
    subst AllFit (ap (map (λ (x : Entry). x.end)) (sym b.are) ∙ column_of (λ (x : Entry). x.end) p.n p.x p.y p.z) (ends_fit_of es g)

map_kept : (kind : Kind) (k : Bool) (x : Entry) (xs : List Entry) (y : Span) (ys : List Span) → (k ≡ true → entry_span kind x ≡ y)
    → map (entry_span kind) xs ≡ ys → map (entry_span kind) (kept k x xs) ≡ with k y ys
map_kept kind true x xs y ys e f = rw (e refl, f)
map_kept kind false x xs y ys e f = f

map_comes : (kind : Kind) (new : New) (s e : ℤ) (xs : List Entry)
    → map (entry_span kind) (in_front (placed s e new) xs) ≡ piece (rank s) (kind.past e) (value_if new) (map (entry_span kind) xs)
map_comes kind (Some v) s e xs = refl
map_comes kind None s e xs = refl

placed_fit : (new : New) (s e : ℤ) (xs : List Entry) → SFits w64 s → SFits w64 e → EntriesFit xs → EntriesFit (in_front (placed s e new) xs)
placed_fit (Some v) s e xs fs fe g = (record { start_fits = fs; end_fits = fe }, g)
placed_fit None s e xs fs fe g = g

-- RIGHT PLANS of a sound map, of either kind
module _ (kind : Kind) (law : Lawful kind) (m : Stored) (sound : Sound kind m) (change : Change) (real : HasKey kind change)
    (fs : SFits w64 change.start) (fe : SFits w64 change.end) {met : Met} (t : Meets kind m change met) (p : Replacement) where
  abbrev lo : ℕ
  lo = rank change.start

  abbrev hi : ℕ
  hi = kind.past change.end

  abbrev from : ℕ
  from = met.from

  abbrev to : ℕ
  to = met.to

  planned : {es : List Entry} {ns : List Span} → Brings p from to 3 es → EntriesFit es → map (entry_span kind) es ≡ ns
      → take from (ranges kind m) ++ (ns ++ drop to (ranges kind m)) ≡ given lo hi (asked change) (ranges kind m) → Planned kind m change p
  planned b g e r = record {
    apt = record {
      ascending = omega (arith, b.from_is, b.to_is, t.touching.ascending);
      within = omega (arith, b.to_is, t.touching.within, len kind law m sound);
      few = b.few;
    };
    starts_fit = brings_starts p b g;
    ends_fit = brings_ends p b g;
    right = rw (b.from_is, b.to_is, brings_spans kind p b, e) r;
  }

  -- nothing is met: the new range comes, or nothing
  pub planned_alone : from ≡ to → Brings p from to 3 (in_front (placed change.start change.end change.new) []) → Planned kind m change p
  planned_alone e b = planned b (placed_fit change.new _ _ [] fs fe tt)
      (map_comes kind change.new change.start change.end [])
      (replaced_none (ranges kind m) lo hi (asked change) from to _ real (good sound).tidy t.touching e refl)

  -- something is: the new range comes, or nothing, between what is kept
  pub planned_over : from < to → Overlaid m.starts m.ends m.values met change p → Planned kind m change p
  planned_over some-met o =
      let first : ℤ = get_or m.starts from (pos 0) in
      let last : ℤ = get_or m.ends (to - 1) (pos 0) in
      let below : ℕ = get_or m.values from 0 in
      let above : ℕ = get_or m.values (to - 1) 0 in
      let first_fits = sound.starts_fit from in
      let last_Fits = sound.ends_fit (to - 1) in
      let x = at_place kind law m sound from (omega (arith, t.touching.within, len kind law m sound)) in
      let y = at_place kind law m sound (to - 1) (omega (arith, t.touching.within, len kind law m sound)) in
      let left-part : Span = span (rank first) lo below in
      let right-part : Span = span hi (kind.past last) above in
      let new : List Span → List Span = piece (rank o.start) (kind.past o.end) (asked change) in
      let ns : List Span = with o.left_kept left-part (new (with o.right_kept right-part [])) in
      let cut_left : o.left_kept ≡ true → entry_span kind (entry first met.below below) ≡ left-part =
      λ i. let h = beside_beyond o.left i in ap (λ (k : ℕ). span (rank first) k below) (t.cuts_below (omega arith)) in
      let cut_right : o.right_kept ≡ true → entry_span kind (entry met.above last above) ≡ right-part =
      λ i. ap (λ (k : ℕ). span k (kind.past last) above) (t.cuts_above (cut_right law change.end last (beside_beyond o.right i))) in
      planned {ns = ns} o.brings
      (kept_fit o.left_kept _ _ (record { start_fits = first_fits; end_fits = t.below_fits })
      (placed_fit change.new _ _ _ (beside_fits o.left fs first_fits) (beside_fits o.right fe last_Fits)
      (kept_fit o.right_kept _ [] (record { start_fits = t.above_fits; end_fits = last_Fits }) tt)))
      (map_kept kind o.left_kept _ _ left-part _ cut_left
      (map_comes kind change.new o.start o.end _ ∙ ap new (map_kept kind o.right_kept _ [] right-part [] cut_right refl)))
      (replaced_some (ranges kind m) lo hi (asked change) from to ns real (good sound).tidy t.touching some-met
      (rw (x, y) (pieces law (asked change) real o.left o.right)))
