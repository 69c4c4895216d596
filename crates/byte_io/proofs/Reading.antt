-- The steps of the reader, for any layout: what stands in bytes at a place, the check, and the stores.
use Prim.Native.Nat.{ℕ, zero, suc, ◌+◌, ◌-◌, ◌*◌, ◌≤◌, ◌<◌}
use native.Mathlib.Nat.{mul-suc}
use native.Mathlib.Omega.{arith}
use native.Mathlib.Numerals.{add-one}
use mathlib.Core.Path.{◌≡◌, refl, sym, ap, ◌∙◌}
use mathlib.Core.Bool.{Bool, true, false, ◌&&◌}
use mathlib.Core.List.{List, [], ◌∷◌, ◌++◌, map, append-nil, map-append}
use lib.ListN.{length, get_or, set, take, drop, length-drop, replicate, length-append, length-map, length-replicate, get_or-append, get_or-map, drop_of_length-le}
use borrow.Rule.Slice.PartMut.{mid_of, put_mid as put_back}
use lib.Seq.{length-take-le, sets, sets-eq, drop-drop}
use lib.IntN.{pos}
use Rattle.answers.specs.Answers.{done}
use Rattle.key.specs.InnerDecides.{Decides}
use Rattle.outcomes.specs.Stored.{places, stored, filled}
use Rattle.outcomes.specs.declared.Stored.{Stored}
use Rattle.outcomes.specs.Outcomes.{formed, leaving}
use Rattle.key.specs.declared.Entry.{Entry}
use Rattle.outcomes.proofs.Formed.{Shaped}
use Rattle.outcomes.proofs.Formed as Formed
use Rattle.outcomes.proofs.Storing.{spare_filled}
use Rattle.store.specs.InnerCheck.{Steps, Unused}
use Rattle.store.proofs.Checked.{answers}
use Rattle.byte_form.specs.Bytes.{Bytes}
use Rattle.byte_form.specs.Layout.{Layout, head_size, form_size}
use Rattle.byte_form.specs.Form.{ranges_in, count_in, map_of, map_in, is_form, read}
use Rattle.byte_form.proofs.Lawful.{Lawful}
use Rattle.byte_form.proofs.Stores.{sets_append, put_mid}
use Rattle.byte_form.proofs.Ranges.{length_ranges_in}
use Rattle.byte_form.proofs.Entries.{entries_of_map}
use Rattle.byte_form.proofs.Forms.{mark_form, length_form, form_map, Form, form_yes, is_same, count_in_map, map_shaped}
use Rattle.byte_io.specs.InnerRead.{Cleared, ReadsForm, Sized, ranges_of, told, Filled}

-- a map has all places
pub record Full (m : Stored) : Type 0 where
  pub starts : length m.starts ≡ places
  pub ends : length m.ends ≡ places
  pub values : length m.values ≡ places

-- a range stands at a place
pub record Stands (m : Stored) (k : ℕ) (x : Entry) : Type 0 where
  pub start : get_or m.starts k (pos 0) ≡ x.start
  pub end : get_or m.ends k (pos 0) ≡ x.end
  pub value : get_or m.values k 0 ≡ x.value

abbrev none : Entry
none = record { start = pos 0; end = pos 0; value = 0 }

module _ (layout : Layout) where
  -- WHAT STANDS AT A PLACE

  -- what is left of bytes after k ranges, and after one more
  drop_next : (k : ℕ) (bs : List ℕ) → drop (layout.size * k) (drop layout.size bs) ≡ drop (layout.size * suc k) bs
  drop_next k bs =
      let e : layout.size + layout.size * k ≡ layout.size * suc k = omega (arith, mul-suc layout.size k) in
      drop-drop (layout.size * k) layout.size bs ∙ ap (λ (j : ℕ). drop j bs) e

  drop_none : (bs : List ℕ) → drop (layout.size * 0) bs ≡ bs
  drop_none bs = let e : layout.size * 0 ≡ 0 = omega arith in ap (λ (j : ℕ). drop j bs) e

  range_at : (n k : ℕ) (bs : List ℕ) → k < n → get_or (ranges_in layout n bs) k none ≡ layout.read (drop (layout.size * k) bs)
  unfolding ranges_in
  range_at zero k bs h = absurd (omega arith)
  range_at (suc n) zero bs h = ap layout.read (sym (drop_none bs))
  range_at (suc n) (suc k) bs h = range_at n k (drop layout.size bs) (omega arith) ∙ ap layout.read (drop_next k bs)

  pub count_told : (n : ℕ) (bs : List ℕ) → (told layout n bs).count ≡ n
  unfolding map_of
  count_told n bs = length_ranges_in layout n (drop (head_size layout) bs)

  -- the range at place k, whose bytes begin at `at`
  module _ (n k at : ℕ) (bs : List ℕ) (h : k < n) (e : at ≡ form_size layout k) where
    column_at : {A : Type 0} (f : Entry → A) → get_or (filled places (f none) (map f (ranges_of layout n bs))) k (f none) ≡ f (layout.read (drop at bs))
    unfolding filled
    column_at f =
        let xs : List Entry = ranges_of layout n bs in
        let l : k < length (map f xs) = omega (arith, length-map xs f, length_ranges_in layout n (drop (head_size layout) bs)) in
        let d : drop (layout.size * k) (drop (head_size layout) bs) ≡ drop at bs =
        drop-drop (layout.size * k) (head_size layout) bs ∙ ap (λ (j : ℕ). drop j bs) (sym e) in
        get_or-append (map f xs) (replicate (places - length (map f xs)) (f none)) (f none) k l ∙ get_or-map f xs k none
        ∙ ap f (range_at n k (drop (head_size layout) bs) h ∙ ap layout.read d)

    start_of : get_or (told layout n bs).starts k (pos 0) ≡ (layout.read (drop at bs)).start
    unfolding map_of
    start_of = column_at (λ (x : Entry). x.start)

    end_of : get_or (told layout n bs).ends k (pos 0) ≡ (layout.read (drop at bs)).end
    unfolding map_of
    end_of = column_at (λ (x : Entry). x.end)

    value_of : get_or (told layout n bs).values k 0 ≡ (layout.read (drop at bs)).value
    unfolding map_of
    value_of = column_at (λ (x : Entry). x.value)

  -- the range that is read there stands there
  pub stands : (n k : ℕ) (bs : List ℕ) → k < n → {x : Entry} → x ≡ layout.read (drop (form_size layout k) bs) → Stands (told layout n bs) k x
  stands n k bs h e = record {
    start = start_of n k (form_size layout k) bs h refl ∙ ap (λ (x : Entry). x.start) (sym e);
    end = end_of n k (form_size layout k) bs h refl ∙ ap (λ (x : Entry). x.end) (sym e);
    value = value_of n k (form_size layout k) bs h refl ∙ ap (λ (x : Entry). x.value) (sym e);
  }

  -- THE CHECK

  pub refused : (bs : List ℕ) → (Form layout bs → ⊥) → is_form layout bs ≡ false
  refused bs h = go (is_form layout bs) refl
    where
      go : (t : Bool) → is_form layout bs ≡ t → t ≡ false
      go true e = absurd (h (form_yes layout bs e))
      go false e = refl

  -- what holds of bytes that are a form
  pub form_marked : (bs : List ℕ) → Form layout bs → take (length layout.mark) bs ≡ layout.mark
  form_marked bs f = ap (take (length layout.mark)) (sym f.bytes) ∙ mark_form layout (map_in layout bs)

  pub form_few : (bs : List ℕ) → Form layout bs → count_in layout bs ≤ places
  form_few bs f = let h = (Formed.formed layout.kind places (map_in layout bs) f.well).held in omega (arith, count_in_map layout bs)

  pub form_sized : Lawful layout → (bs : List ℕ) → Form layout bs → Sized layout (count_in layout bs) bs
  unfolding map_in
  form_sized law bs f =
      let n : ℕ = count_in layout bs in
      let xs : List Entry = ranges_of layout n bs in
      let l : length xs ≡ n = length_ranges_in layout n (drop (head_size layout) bs) in
      record {
        few = form_few bs f;
        long = sym (ap length f.bytes) ∙ length_form law (map_in layout bs) ∙ ap (λ (ys : List Entry). form_size layout (length ys)) (entries_of_map xs)
            ∙ ap (form_size layout) l;
      }

unused_of : (xs : List Entry) → length xs ≤ places → Unused places (map_of xs)
unfolding map_of
unused_of xs h = record {
  held = h;
  starts = spare (λ (x : Entry). x.start) (pos 0);
  ends = spare (λ (x : Entry). x.end) (pos 0);
  values = spare (λ (x : Entry). x.value) 0;
}
  where
    spare : {A : Type 0} (f : Entry → A) (z : A) (k : ℕ) → length xs ≤ k → get_or (filled places z (map f xs)) k z ≡ z
    spare f z k b = spare_filled places z (map f xs) (omega (arith, length-map xs f)) k (omega (arith, length-map xs f))

and_true : (t : Bool) → t ≡ (t && true)
and_true true = refl
and_true false = refl

-- the answer is that of the ranges
pub form_tidy : {layout : Layout} → Lawful layout → (bs : List ℕ) (n : ℕ) (r : Bool) → Bytes bs → take (length layout.mark) bs ≡ layout.mark
    → n ≡ count_in layout bs → Sized layout n bs → Decides r (Steps layout.kind (told layout n bs)) → r ≡ is_form layout bs
unfolding map_in is_form
form_tidy {layout} law bs n r b t e s d =
    let l : length bs ≡ form_size layout (count_in layout bs) = s.long ∙ ap (form_size layout) e in
    let k : length (ranges_of layout (count_in layout bs) bs) ≡ count_in layout bs = length_ranges_in layout (count_in layout bs) (drop (head_size layout) bs) in
    let few : length (ranges_of layout (count_in layout bs) bs) ≤ places = omega (arith, s.few) in
    let shape : Shaped places (map_in layout bs) = map_shaped law bs (omega (arith, s.few)) in
    let a : r ≡ formed layout.kind (map_in layout bs) = answers layout.kind shape r (unused_of (ranges_of layout (count_in layout bs) bs) few) (rw e at d) in
    rw (form_map law bs b t l, is_same bs) (a ∙ and_true (formed layout.kind (map_in layout bs)))

-- THE STORES

-- the places from n on, filled with one value
pub zeros : {A : Type 0} (l : List A) (n : ℕ) (z : A) {ys : List A} → length l ≡ places → n ≤ places → ys ≡ replicate (length (mid_of n (places - n) l)) z
    → put_back n (places - n) l ys ≡ sets l n (replicate (places - n) z)
zeros l n z f h e =
    let t : List _ = mid_of n (places - n) l in
    let m : length t ≡ places - n = length-take-le (places - n) (drop n l) (omega (arith, length-drop n l)) in
    let k : length (replicate (places - n) z) ≡ places - n = length-replicate (places - n) z in
    let d : drop (0 + length (replicate (places - n) z)) t ≡ [] = drop_of_length-le t {i = 0 + length (replicate (places - n) z)} (omega arith) in
    let s : sets t 0 (replicate (places - n) z) ≡ replicate (places - n) z = sets-eq (replicate (places - n) z) t 0 (omega arith) ∙ rw (d, append-nil (replicate (places - n) z)) in
    put_mid n (places - n) l (replicate (places - n) z) (rw m at e ∙ sym s) (omega arith) (omega arith)

-- a column that was filled, and cleared from there on
fill_all : {A : Type 0} (z : A) (l vs : List A) (n : ℕ) {a b : List A} → length l ≡ places → length vs ≡ n → n ≤ places → a ≡ sets l 0 vs
    → b ≡ sets a n (replicate (places - n) z) → b ≡ filled places z vs
unfolding filled
fill_all z l vs n {a} c e h p q =
    let zs : List _ = replicate (places - n) z in
    let r : List _ = vs ++ zs in
    let k : length r ≡ places = length-append vs zs ∙ omega (arith, length-replicate (places - n) z) in
    let d : drop (0 + length r) l ≡ [] = drop_of_length-le l {i = 0 + length r} (omega arith) in
    q ∙ ap (λ (t : List _). sets t n zs) p ∙ sets_append l 0 vs zs n (omega arith) ∙ sets-eq r l 0 (omega arith) ∙ rw (d, append-nil r, e)

module _ (layout : Layout) where
  -- one range more
  ranges_in_more : (i : ℕ) (bs : List ℕ) → ranges_in layout (suc i) bs ≡ ranges_in layout i bs ++ (layout.read (drop (layout.size * i) bs) ∷ [])
  unfolding ranges_in
  ranges_in_more zero bs = ap (λ (l : List ℕ). layout.read l ∷ []) (sym (drop_none layout bs))
  ranges_in_more (suc i) bs =
      let rest : List ℕ = drop layout.size bs in
      ap (λ (l : List Entry). layout.read bs ∷ l)
      (ranges_in_more i rest ∙ ap (λ (l : List ℕ). ranges_in layout i rest ++ (layout.read l ∷ [])) (drop_next layout i bs))

  pub fill_more : {A : Type 0} (f : Entry → A) (l : List A) (bs : List ℕ) (i at : ℕ) {a : List A} {v : A} → at ≡ form_size layout i
      → a ≡ sets l 0 (map f (ranges_of layout i bs)) → v ≡ f (layout.read (drop at bs)) → set a i v ≡ sets l 0 (map f (ranges_of layout (i + 1) bs))
  fill_more f l bs i at {a} {v} p e r =
      let rest : List ℕ = drop (head_size layout) bs in
      let xs : List Entry = ranges_in layout i rest in
      let x : Entry = layout.read (drop at bs) in
      let d : drop (layout.size * i) rest ≡ drop at bs = drop-drop (layout.size * i) (head_size layout) bs ∙ ap (λ (j : ℕ). drop j bs) (sym p) in
      let n : length (map f xs) ≡ i = length-map xs f ∙ length_ranges_in layout i rest in
      rw (e, r, add-one i, ranges_in_more i rest, d, map-append f xs (x ∷ [])) (sets_append l 0 (map f xs) (f x ∷ []) i (omega arith))

  -- the map that is there at the end
  pub reads_form : (old : Stored) (bs : List ℕ) (n : ℕ) {a b : Stored} → ReadsForm layout n bs → Full old → Filled layout n bs old a → Cleared n a b
      → leaving done (stored n b.starts b.ends b.values) ≡ read layout old bs
  unfolding read map_in map_of
  reads_form old bs n r c f g =
      let xs : List Entry = ranges_of layout n bs in
      let l : length xs ≡ n = length_ranges_in layout n (drop (head_size layout) bs) in
      let h : n ≤ places = r.sized.few in
      let s = fill_all (pos 0) old.starts (map (λ (x : Entry). x.start) xs) n c.starts (length-map xs (λ (x : Entry). x.start) ∙ l) h f.starts g.starts in
      let t = fill_all (pos 0) old.ends (map (λ (x : Entry). x.end) xs) n c.ends (length-map xs (λ (x : Entry). x.end) ∙ l) h f.ends g.ends in
      let v = fill_all 0 old.values (map (λ (x : Entry). x.value) xs) n c.values (length-map xs (λ (x : Entry). x.value) ∙ l) h f.values g.values in
      rw (r.is, s, t, v, ← r.count, l)
