-- Bulk insert: one entry, as a loop takes it.
use Prim.Native.Nat.{ℕ, zero, suc, ◌-◌, ◌≤◌, ◌<◌, min}
use native.Mathlib.Omega.{arith}
use native.Mathlib.Decide.{dec_lt}
use mathlib.Core.Path.{◌≡◌, refl, sym, ap, subst, ◌∙◌}
use mathlib.Core.Bool.{Bool, true, false, cond}
use mathlib.Core.List.{List, [], ◌∷◌, map}
use mathlib.Core.Option.{Option, some}
use borrow.Author.Tests.{eq-eqb, ne_eqb}
use lib.Dec.{leb, ltb}
use lib.ListN.{length, get_or, take}
use lib.IntN.{ℤ, pos}
use Rattle.answers.specs.Answers.{done, empty_range, too_many}
use Rattle.key.specs.Rank.{rank}
use Rattle.key.specs.Range.{Kind, span_of}
use Rattle.key.proofs.Lawful.{Lawful}
use Rattle.span.specs.Span.{Span, given}
use Rattle.span.specs.Operations.{puts}
use Rattle.outcomes.specs.Stored.{places, spans, ranges, storing, well_formed, Sound}
use Rattle.outcomes.specs.declared.Stored.{Stored}
use Rattle.outcomes.specs.Outcomes.{entry_change, entries, Edited, leaving, edit_sound, edit, extended, bulk_insert_sound, edits, span_edits}
use Rattle.outcomes.specs.Answered.{entry}
use Rattle.key.specs.declared.Entry.{Entry}
use Rattle.outcomes.proofs.Formed.{formed}
use Rattle.outcomes.proofs.Edits.{edit_accepted, edit_sound_lem, edit_length}

-- the entries of three lists: as many as the shortest has, place by place
pub length_entries : (ss es : List ℤ) (vs : List ℕ) → length (entries ss es vs) ≡ min (min (length ss) (length es)) (length vs)
unfolding entries
length_entries [] es vs = omega arith
length_entries (s ∷ ss) [] vs = omega arith
length_entries (s ∷ ss) (e ∷ es) [] = omega arith
length_entries (s ∷ ss) (e ∷ es) (v ∷ vs) = omega (arith, length_entries ss es vs)

-- the entry at a place of three lists
abbrev pub entry_at : List ℤ → List ℤ → List ℕ → ℕ → Entry
entry_at ss es vs k = entry (get_or ss k (pos 0)) (get_or es k (pos 0)) (get_or vs k 0)

pub get_or_entries : (ss es : List ℤ) (vs : List ℕ) (k : ℕ) → k < length (entries ss es vs)
    → get_or (entries ss es vs) k (entry (pos 0) (pos 0) 0) ≡ entry_at ss es vs k
unfolding entries
get_or_entries [] es vs k h = absurd (omega arith)
get_or_entries (s ∷ ss) [] vs k h = absurd (omega arith)
get_or_entries (s ∷ ss) (e ∷ es) [] k h = absurd (omega arith)
get_or_entries (s ∷ ss) (e ∷ es) (v ∷ vs) zero h = refl
get_or_entries (s ∷ ss) (e ∷ es) (v ∷ vs) (suc k) h = get_or_entries ss es vs k (omega arith)

-- the range of an entry
abbrev pub range : Kind → Entry → Span
range kind x = span_of kind x.start x.end x.value

-- the first ranges of three lists are those of their first entries
pub entries_ranges : (kind : Kind) (n : ℕ) (ss es : List ℤ) (vs : List ℕ) → take n (spans kind ss es vs) ≡ map (range kind) (take n (entries ss es vs))
unfolding spans entries
entries_ranges kind zero ss es vs = refl
entries_ranges kind (suc n) [] es vs = refl
entries_ranges kind (suc n) (s ∷ ss) [] vs = refl
entries_ranges kind (suc n) (s ∷ ss) (e ∷ es) [] = refl
entries_ranges kind (suc n) (s ∷ ss) (e ∷ es) (v ∷ vs) = rw (entries_ranges kind n ss es vs)

module _ (kind : Kind) (m : Stored) (i : ℕ) (x : Entry) (xs : List Entry) {a : ℕ} {left : Stored}
    (is : leaving a left ≡ edit_sound kind places m x.start x.end (some x.value)) where
  answer_is : (edit_sound kind places m x.start x.end (some x.value)).answer ≡ a
  answer_is = ap (λ (o : Edited). o.answer) (sym is)

  left_is : (edit_sound kind places m x.start x.end (some x.value)).left ≡ left
  left_is = ap (λ (o : Edited). o.left) (sym is)

  -- a refused entry leaves the map as it was
  unchanged : (a ≡ 0 → ⊥) → left ≡ m
  unfolding edit_sound
  unchanged n = sym left_is ∙ go (leb (kind.past x.end) (rank x.start)) (ltb places (length (given (rank x.start) (kind.past x.end) (some x.value) (ranges kind m)))) answer_is
    where
      go : (t u : Bool)
          → (cond t (leaving empty_range m) (cond u (leaving too_many m) (leaving done (storing kind places (given (rank x.start) (kind.past x.end) (some x.value) (ranges kind m)))))).answer ≡ a
          → (cond t (leaving empty_range m) (cond u (leaving too_many m) (leaving done (storing kind places (given (rank x.start) (kind.past x.end) (some x.value) (ranges kind m)))))).left ≡ m
      go true u e = refl
      go false true e = refl
      go false false e = absurd (n (sym e))

  pub entry_refused : (a ≡ 0 → ⊥) → extended (record { answer = a; applied = i }) left ≡ bulk_insert_sound kind m i (x ∷ xs)
  unfolding bulk_insert_sound
  entry_refused n = rw (answer_is, ne_eqb a 0 n, unchanged n)

  pub entry_done : a ≡ 0 → bulk_insert_sound kind left (suc i) xs ≡ bulk_insert_sound kind m i (x ∷ xs)
  unfolding bulk_insert_sound
  entry_done e = rw (answer_is, eq-eqb a 0 e, left_is)

  pub entry_sound : Lawful kind → Sound kind m → a ≡ 0 → Sound kind left × (length left.starts ≡ places)
  entry_sound law sound e =
      let d = edit_accepted kind places m x.start x.end (some x.value) (answer_is ∙ e) in
      let t = (formed kind (length m.starts) m sound.well).tidy in (
        subst (Sound kind) left_is (edit_sound_lem kind law places m t x.start x.end (some x.value) d),
        ap (λ (r : Stored). length r.starts) (sym left_is) ∙ edit_length kind law places m t x.start x.end (some x.value) d,
      )

-- an edit of a well-formed map
edited_well : (kind : Kind) (m : Stored) (s e : ℤ) (new : Option ℕ) → well_formed kind places m ≡ true → edit kind m s e new ≡ edit_sound kind places m s e new
unfolding edit
edited_well kind m s e new w = rw w

-- entries as changes are their ranges, put one after the other
pub changes_puts : (kind : Kind) (xs : List Entry) → span_edits kind (map entry_change xs) ≡ puts (map (range kind) xs)
unfolding span_edits puts
changes_puts kind [] = refl
changes_puts kind (x ∷ xs) = rw (changes_puts kind xs)

-- BULK INSERT is that many single inserts, none refused
module _ (kind : Kind) (law : Lawful kind) where
  pub record Singles (m : Stored) (n : ℕ) (es : List Entry) : Type 0 where
    pub from : n ≤ (bulk_insert_sound kind m n es).told.applied
    pub same : edits kind m (map entry_change (take ((bulk_insert_sound kind m n es).told.applied - n) es)) ≡ leaving done (bulk_insert_sound kind m n es).left

  none_taken : (n : ℕ) (es : List Entry) → take (n - n) es ≡ []
  none_taken n es = let z : n - n ≡ 0 = omega arith in rw z

  singles : (m : Stored) (n : ℕ) (es : List Entry) → Sound kind m → length m.starts ≡ places → Singles m n es
  unfolding bulk_insert_sound edits
  singles m n [] s p = record { from = omega arith; same = rw (none_taken n []) }
  singles m n (x ∷ xs) s p =
      let one = edit_sound kind places m x.start x.end (some x.value) in
      elim (dec_lt 0 one.answer) [
        | no p0 ↦
            let e : one.answer ≡ 0 = omega arith in
            let (sound, len) = entry_sound kind m n x xs {a = one.answer} {left = one.left} refl law s e in
            let r = singles one.left (suc n) xs sound len in
            let is : bulk_insert_sound kind m n (x ∷ xs) ≡ bulk_insert_sound kind one.left (suc n) xs = sym (entry_done kind m n x xs {a = one.answer} {left = one.left} refl e) in
            let k = (bulk_insert_sound kind one.left (suc n) xs).told.applied in
            let f = r.from in
            let t : k - n ≡ suc (k - suc n) = omega arith in
            let w : well_formed kind places m ≡ true = subst (λ (j : ℕ). well_formed kind j m ≡ true) p s.well in
            record {
              from = rw is (omega arith);
              same = rw (is, t, edited_well kind m x.start x.end (some x.value) w, eq-eqb one.answer 0 e) r.same;
            }
        | yes p0 ↦
            let e : one.answer ≡ 0 → ⊥ = omega arith in
            let is : bulk_insert_sound kind m n (x ∷ xs) ≡ extended (record { answer = one.answer; applied = n }) one.left = sym (entry_refused kind m n x xs {a = one.answer} {left = one.left} refl e) in
            record { from = rw is (omega arith); same = rw (is, none_taken n (x ∷ xs), unchanged kind m n x xs {a = one.answer} {left = one.left} refl e) }
      ]

  pub bulk_singles : (m : Stored) (es : List Entry) → Sound kind m → length m.starts ≡ places
      → edits kind m (map entry_change (take (bulk_insert_sound kind m 0 es).told.applied es)) ≡ leaving done (bulk_insert_sound kind m 0 es).left
  bulk_singles m es s p =
      let k = (bulk_insert_sound kind m 0 es).told.applied in
      let z : k - 0 ≡ k = omega arith in
      rw z at (singles m 0 es s p).same
