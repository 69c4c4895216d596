-- The steps of the writer, for any lawful layout.
use Prim.Native.Nat.{ℕ, ◌+◌, ◌-◌, ◌*◌, ◌≤◌, ◌<◌}
use native.Mathlib.Omega.{arith}
use native.Mathlib.Numerals.{add-one}
use mathlib.Core.Path.{◌≡◌, refl, sym, ap, ◌∙◌}
use mathlib.Core.List.{List, [], ◌∷◌, ◌++◌, append_assoc, append-nil}
use borrow.Author.Tests.{lt-ltb, le-ltb}
use borrow.Rule.Slice.PartMut.{mid_of, put_mid as put_back}
use lib.ListN.{length, get_or, take, drop}
use lib.Seq.{sets, sets-eq, length-sets, take-suc, length-take-le}
use lib.IntN.{ℤ, pos}
use Rattle.outcomes.specs.Stored.{Sound}
use Rattle.outcomes.specs.declared.Stored.{Stored}
use Rattle.outcomes.specs.Outcomes.{entries}
use Rattle.key.specs.declared.Entry.{Entry}
use Rattle.outcomes.proofs.Formed.{sound_held}
use Rattle.outcomes.proofs.Bulk.{length_entries, entry_at, get_or_entries}
use Rattle.byte_form.specs.Layout.{Layout, head_of, head_size, form_size}
use Rattle.byte_form.specs.Form.{entries_of, ranges_bytes, form_of, output, into_output}
use Rattle.byte_form.proofs.Lawful.{Lawful}
use Rattle.byte_form.proofs.Stores.{sets_append, put_mid}
use Rattle.byte_form.proofs.Ranges.{length_ranges_bytes}
use Rattle.byte_form.proofs.Entries.{length_entries_of}
use Rattle.byte_form.proofs.Forms.{length_head, length_form}
use Rattle.std.specs.Prelude.{Ok, Err}
use Rattle.answers.specs.declared.Refusal.TheVariants.{TooShort}

-- the map's columns, of one length
pub record Even (ss es : List ℤ) (vs : List ℕ) : Type 0 where
  pub ends : length es ≡ length ss
  pub values : length vs ≡ length ss

module _ (layout : Layout) where
  ranges_append : (xs ys : List Entry) → ranges_bytes layout (xs ++ ys) ≡ ranges_bytes layout xs ++ ranges_bytes layout ys
  unfolding ranges_bytes
  ranges_append [] ys = refl
  ranges_append (x ∷ xs) ys = rw (ranges_append xs ys) (sym (append_assoc (layout.written x) (ranges_bytes layout xs) (ranges_bytes layout ys)))

  -- one range more
  ranges_more : (ss es : List ℤ) (vs : List ℕ) (i : ℕ) → i < length ss → Even ss es vs
      → ranges_bytes layout (take i (entries ss es vs)) ++ layout.written (entry_at ss es vs i) ≡ ranges_bytes layout (take (i + 1) (entries ss es vs))
  unfolding ranges_bytes
  ranges_more ss es vs i h c =
      let xs : List Entry = entries ss es vs in
      let l : i < length xs = omega (arith, c.ends, c.values, length_entries ss es vs) in
      let x : Entry = record { start = pos 0; end = pos 0; value = 0 } in
      let y : Entry = entry_at ss es vs i in
      rw (add-one i, take-suc xs i x l, get_or_entries ss es vs i l, ranges_append (take i xs) (y ∷ []), append-nil (layout.written y))

module _ {layout : Layout} (law : Lawful layout) where
  -- and its stores, into its own bytes
  pub write_more : (ss es : List ℤ) (vs l : List ℕ) (i at : ℕ) {out ys : List ℕ} {s e : ℤ} {v : ℕ} → i < length ss → Even ss es vs
      → at ≡ form_size layout i → at + layout.size ≤ length l → out ≡ sets l (head_size layout) (ranges_bytes layout (take i (entries ss es vs)))
      → s ≡ get_or ss i (pos 0) → e ≡ get_or es i (pos 0) → v ≡ get_or vs i 0
      → ys ≡ sets (mid_of at (at + layout.size - at) out) 0 (layout.written (record { start = s; end = e; value = v }))
      → put_back at (at + layout.size - at) out ys ≡ sets l (head_size layout) (ranges_bytes layout (take (i + 1) (entries ss es vs)))
  write_more ss es vs l i at {out} {ys} {s} {e} {v} h c a b o es' ee ev y =
      let xs : List Entry = take i (entries ss es vs) in
      let x : Entry = record { start = s; end = e; value = v } in
      let bs : List ℕ = ranges_bytes layout xs in
      let xi : x ≡ entry_at ss es vs i = rw (es', ee, ev) in
      let n : length xs ≡ i = length-take-le i (entries ss es vs) (omega (arith, c.ends, c.values, length_entries ss es vs)) in
      let m : length bs ≡ layout.size * i = rw n at (length_ranges_bytes law xs) in
      let k : length out ≡ length l = ap length o ∙ length-sets l (head_size layout) bs in
      put_mid at (at + layout.size - at) out (layout.written x) y (omega (arith, law.long x)) (omega arith)
      ∙ ap (λ (t : List ℕ). sets t at (layout.written x)) o
      ∙ sets_append l (head_size layout) bs (layout.written x) at (omega arith)
      ∙ ap (λ (t : Entry). sets l (head_size layout) (bs ++ layout.written t)) xi
      ∙ ap (λ (t : List ℕ). sets l (head_size layout) t) (ranges_more layout ss es vs i h c)

  -- THE WHOLE

  module _ (m : Stored) (sound : Sound layout.kind m) (l : List ℕ) where
    form_long : length (form_of layout m) ≡ form_size layout m.count
    form_long = length_form law m ∙ ap (form_size layout) (length_entries_of m sound.ends_as sound.values_as (sound_held layout.kind m sound))

    -- the output is too short
    pub puts_none : length l < form_size layout m.count → output (Err TooShort) l ≡ into_output (form_of layout m) l
    unfolding into_output
    puts_none h = rw (lt-ltb (length l) (length (form_of layout m)) (omega (arith, form_long)))

    -- the head and the ranges are the form
    wrote_form : {h o : List ℕ} → h ≡ sets l 0 (head_of layout m.count) → o ≡ sets h (head_size layout) (ranges_bytes layout (entries_of m))
        → o ≡ sets l 0 (form_of layout m)
    unfolding form_of
    wrote_form a b =
        let rs : List ℕ = ranges_bytes layout (entries_of m) in
        b ∙ ap (λ (t : List ℕ). sets t (head_size layout) rs) a
        ∙ sets_append l 0 (head_of layout m.count) rs (head_size layout) (omega (arith, length_head layout m.count))

    pub puts_all : {h o : List ℕ} → form_size layout m.count ≤ length l → h ≡ sets l 0 (head_of layout m.count)
        → o ≡ sets h (head_size layout) (ranges_bytes layout (entries_of m)) → output (Ok (form_size layout m.count)) o ≡ into_output (form_of layout m) l
    unfolding into_output
    puts_all r a b =
        let bs : List ℕ = form_of layout m in
        let z : 0 + length bs ≡ length bs = omega arith in
        let s : sets l 0 bs ≡ bs ++ drop (length bs) l = rw z at (sets-eq bs l 0 (omega (arith, form_long))) in
        rw (wrote_form a b ∙ s, le-ltb (length l) (length bs) (omega (arith, form_long)), form_long)
