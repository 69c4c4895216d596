-- What an edit leaves is sound, and what edits leave: HISTORIES of stored maps, with their unused places, for both kinds.
use Prim.Native.Nat.{ℕ, ◌≤◌, ◌<◌}
use native.Mathlib.Omega.{arith}
use native.Mathlib.Decide.{dec_lt}
use mathlib.Core.Path.{◌≡◌, refl, sym, ap, ◌∙◌}
use mathlib.Core.Bool.{Bool, true, false, cond}
use mathlib.Core.List.{List, [], ◌∷◌}
use mathlib.Core.Option.{Option, none}
use borrow.Author.Tests.{leb-false, ltb-false, eqb-true, eqb-false, eq-eqb}
use lib.Dec.{leb, ltb, eqb}
use lib.ListN.{length}
use lib.IntN.{ℤ}
use Rattle.answers.specs.Answers.{done, empty_range, too_many, not_formed}
use Rattle.span.specs.Span.{Span, at, Ordered, Upto, Tidy, given, Real, history, last}
use Rattle.span.proofs.Tests.{in_no}
use Rattle.span.proofs.Holding.{at_upto}
use Rattle.span.proofs.Laws.{never, tidy_given, at_given, nothing, history_means, same_history}
use Rattle.span.proofs.Local.{upto_at}
use Rattle.key.specs.Rank.{rank}
use Rattle.key.specs.Range.{Kind}
use Rattle.key.proofs.Lawful.{Lawful}
use Rattle.outcomes.specs.Stored.{places, ranges, storing, well_formed, Sound}
use Rattle.outcomes.specs.declared.Stored.{Stored}
use Rattle.outcomes.specs.Outcomes.{Edited, leaving, edit_sound, edit, clear, Change, edits, span_edits}
use Rattle.outcomes.proofs.Formed.{formed}
use Rattle.outcomes.proofs.Storing.{ranges_storing, sound_storing, length_storing, upto_ranges}

-- an edit within c of a list that ends by c ends by c
pub upto_given : (c lo hi : ℕ) (new : Option ℕ) (m : List Span) → lo < hi → hi ≤ c → Ordered 0 m → Upto c m → Upto c (given lo hi new m)
upto_given c lo hi new m h i o u = upto_at 0 c (given lo hi new m) (tidy_given lo hi new m h o).ordered (λ k v e. elim (dec_lt k c) [
  | yes p ↦ p
  | no p ↦ absurd (never (sym (at_given lo hi new m h o k ∙ rw (in_no lo hi k (omega arith)) (at_upto c m k u (omega arith))) ∙ e))
])

-- an answer of 0 says which of the three it was
module _ (kind : Kind) (n : ℕ) (m : Stored) (s e : ℤ) (new : Option ℕ) where
  abbrev next : List Span
  next = given (rank s) (kind.past e) new (ranges kind m)

  pub record Done : Type 0 where
    pub real : rank s < kind.past e
    pub room : length next ≤ n
    pub left_is : (edit_sound kind n m s e new).left ≡ storing kind n next

  pub edit_accepted : (edit_sound kind n m s e new).answer ≡ 0 → Done
  unfolding edit_sound
  edit_accepted h = go (leb (kind.past e) (rank s)) (ltb n (length next)) refl refl h
    where
      go : (t u : Bool) → leb (kind.past e) (rank s) ≡ t → ltb n (length next) ≡ u → (cond t (leaving empty_range m) (cond u (leaving too_many m) (leaving done (storing kind n next)))).answer ≡ 0 → Done
      go true u a b h = absurd (omega arith)
      go false true a b h = absurd (omega arith)
      go false false a b h = record { real = leb-false _ _ a; room = ltb-false _ _ b; left_is = rw (a, b) }

-- WHAT AN EDIT LEAVES is sound, and holds the edited ranges
module _ (kind : Kind) (law : Lawful kind) (n : ℕ) (m : Stored) (tidy : Tidy 0 (ranges kind m)) (s e : ℤ) (new : Option ℕ) (d : Done kind n m s e new) where
  abbrev xs : List Span
  xs = given (rank s) (kind.past e) new (ranges kind m)

  tidy_next : Tidy 0 xs
  tidy_next = tidy_given (rank s) (kind.past e) new (ranges kind m) d.real tidy.ordered

  upto_next : Upto law.limit xs
  upto_next = upto_given law.limit (rank s) (kind.past e) new (ranges kind m) d.real (law.ends_within e) tidy.ordered (upto_ranges kind law m)

  pub edit_ranges : ranges kind (edit_sound kind n m s e new).left ≡ xs
  edit_ranges = ap (ranges kind) d.left_is ∙ ranges_storing kind law n xs tidy_next upto_next d.room

  pub edit_sound_lem : Sound kind (edit_sound kind n m s e new).left
  edit_sound_lem = rw d.left_is (sound_storing kind law n xs tidy_next upto_next d.room)

  pub edit_length : length (edit_sound kind n m s e new).left.starts ≡ n
  edit_length = ap (λ (t : Stored). length t.starts) d.left_is ∙ length_storing kind law n xs tidy_next upto_next d.room

-- an edit of any map that answers 0 found it well formed
pub accepted : (kind : Kind) (m : Stored) (s e : ℤ) (new : Option ℕ) → (edit kind m s e new).answer ≡ 0
    → (well_formed kind places m ≡ true) × (edit kind m s e new ≡ edit_sound kind places m s e new) × ((edit_sound kind places m s e new).answer ≡ 0)
unfolding edit
accepted kind m s e new h = go (well_formed kind places m) refl h
  where
    go : (t : Bool) → well_formed kind places m ≡ t → (cond t (edit_sound kind places m s e new) (leaving not_formed m)).answer ≡ 0
        → (well_formed kind places m ≡ true) × (cond (well_formed kind places m) (edit_sound kind places m s e new) (leaving not_formed m) ≡ edit_sound kind places m s e new) × ((edit_sound kind places m s e new).answer ≡ 0)
    go true a h = (a, rw a, h)
    go false a h = absurd (omega arith)

-- edits of which none was refused: neither the first, nor the others
pub none_refused : (one rest : Edited) → (cond (eqb one.answer 0) rest one).answer ≡ 0 → (one.answer ≡ 0) × (rest.answer ≡ 0)
none_refused one rest h = go (eqb one.answer 0) refl h
  where
    go : (t : Bool) → eqb one.answer 0 ≡ t → (cond t rest one).answer ≡ 0 → (one.answer ≡ 0) × (rest.answer ≡ 0)
    go true e h = (eqb-true one.answer 0 e, h)
    go false e h = absurd (eqb-false one.answer 0 e h)

-- they are edits of the list of ranges, none of their ranges is empty, and the map is the one that stores what is left
module _ (kind : Kind) (law : Lawful kind) where
  record Ran (m : Stored) (cs : List Change) : Type 0 where
    real : Real (span_edits kind cs)
    ranges_are : ranges kind (edits kind m cs).left ≡ history (span_edits kind cs) (ranges kind m)
    left_is : (edits kind m cs).left ≡ storing kind places (ranges kind (edits kind m cs).left)

  ran : (m : Stored) (cs : List Change) → m ≡ storing kind places (ranges kind m) → (edits kind m cs).answer ≡ 0 → Ran m cs
  unfolding edits span_edits history
  ran m [] e h = record { real = tt; ranges_are = refl; left_is = e }
  ran m (c ∷ cs) e h =
      let one = edit kind m c.start c.end c.new in
      let (zero_is, rest) = none_refused one (edits kind one.left cs) h in
      let (well, is, ok) = accepted kind m c.start c.end c.new zero_is in
      let d = edit_accepted kind places m c.start c.end c.new ok in
      let next = ap (λ (o : Edited). ranges kind o.left) is ∙ edit_ranges kind law places m (formed kind places m well).tidy c.start c.end c.new d in
      let r = ran one.left cs (ap (λ (o : Edited). o.left) is ∙ d.left_is ∙ ap (storing kind places) (sym next)) rest in
      record {
        real = (d.real, r.real);
        ranges_are = rw (eq-eqb one.answer 0 zero_is) (r.ranges_are ∙ ap (history (span_edits kind cs)) next);
        left_is = rw (eq-eqb one.answer 0 zero_is) r.left_is;
      }

  -- a new map holds nothing
  pub ranges_cleared : ranges kind (clear kind) ≡ []
  unfolding clear at
  ranges_cleared = ranges_storing kind law places [] nothing.tidy tt (omega arith)

  cleared_is : clear kind ≡ storing kind places (ranges kind (clear kind))
  unfolding clear
  cleared_is = ap (storing kind places) (sym ranges_cleared)

  -- HISTORIES: after any accepted edits from an empty map each instant holds the last value given it, or none if removed since
  pub history_holds : (cs : List Change) → (edits kind (clear kind) cs).answer ≡ 0 → (k : ℕ) → at (ranges kind (edits kind (clear kind) cs).left) k ≡ last (span_edits kind cs) k none
  history_holds cs h k =
      let r = ran (clear kind) cs cleared_is h in
      ap (λ (m : List Span). at m k) (r.ranges_are ∙ ap (history (span_edits kind cs)) ranges_cleared) ∙ (history_means (span_edits kind cs) r.real nothing).holds k

  -- and two histories that agree on this leave the same stored map, unused places included
  pub same_maps : (cs ds : List Change) → (edits kind (clear kind) cs).answer ≡ 0 → (edits kind (clear kind) ds).answer ≡ 0
      → ((k : ℕ) → last (span_edits kind cs) k none ≡ last (span_edits kind ds) k none) → (edits kind (clear kind) cs).left ≡ (edits kind (clear kind) ds).left
  same_maps cs ds h i e =
      let r = ran (clear kind) cs cleared_is h in
      let t = ran (clear kind) ds cleared_is i in
      let same : ranges kind (edits kind (clear kind) cs).left ≡ ranges kind (edits kind (clear kind) ds).left =
      r.ranges_are ∙ ap (history (span_edits kind cs)) ranges_cleared ∙ same_history (span_edits kind cs) (span_edits kind ds) r.real t.real e ∙ sym (t.ranges_are ∙ ap (history (span_edits kind ds)) ranges_cleared) in
      r.left_is ∙ ap (storing kind places) same ∙ sym t.left_is
