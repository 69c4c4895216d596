-- A map and its form, there and back, for any lawful layout: the two round trips, what the reader accepts, and no two maps with one form.
use Prim.Native.Nat.{ℕ, zero, suc, ◌-◌, ◌≤◌, ◌<◌}
use native.Mathlib.Omega.{arith}
use mathlib.Core.Path.{◌≡◌, refl, sym, ap, subst, ◌∙◌}
use mathlib.Core.Bool.{Bool, true, false, cond}
use mathlib.Core.List.{List, [], ◌∷◌, ◌++◌, map, append_assoc}
use borrow.Author.Tests.{eqb-true, eq-eqb}
use lib.Dec.{eqb}
use lib.ListN.{length, get_or, take, drop, replicate, length-append, length-drop, length-map, take-append-drop}
use lib.Seq.{take_at, drop_at, drop-drop, length-take-le}
use lib.IntN.{ℤ, pos}
use mir.Syntax.{w64}
use mir.Val.{SFits}
use mir.Facts.{sfits_lit}
use Rattle.answers.specs.Answers.{done, no_map}
use Rattle.span.proofs.Tests.{both}
use Rattle.key.proofs.Answers.{never}
use Rattle.outcomes.specs.Stored.{places, filled, well_formed, AllFit, Sound}
use Rattle.outcomes.specs.declared.Stored.{Stored}
use Rattle.outcomes.specs.Outcomes.{formed, Edited, leaving}
use Rattle.key.specs.declared.Entry.{Entry}
use Rattle.outcomes.proofs.Formed.{and_yes, Shaped}
use Rattle.outcomes.proofs.Formed as Formed
use Rattle.outcomes.proofs.Storing.{length_filled}
use Rattle.byte_form.specs.Bytes.{u32_size, bytes_of, Bytes}
use Rattle.byte_form.specs.Layout.{Layout, head_of, head_size, form_size}
use Rattle.byte_form.specs.Form.{entries_of, ranges_bytes, form_of, ranges_in, count_in, map_of, map_in, same_bytes, is_form, read}
use Rattle.byte_form.proofs.Laws.{length_bytes, number_bytes, bytes_number_lem, bytes_take, bytes_drop}
use Rattle.byte_form.proofs.Lawful.{Lawful}
use Rattle.byte_form.proofs.Ranges.{length_ranges_in, length_ranges_bytes, ranges_back, ranges_again}
use Rattle.byte_form.proofs.Entries.{sound_formed, sound_entries, sound_fitting, entries_of_map, map_of_entries}

-- TWO LISTS OF BYTES

pub same_is : (bs cs : List ℕ) → same_bytes bs cs ≡ true → bs ≡ cs
unfolding same_bytes
same_is [] [] e = refl
same_is [] (c ∷ cs) e = never e
same_is (b ∷ bs) [] e = never e
same_is (b ∷ bs) (c ∷ cs) e = let (h, t) = both (eqb b c) (same_bytes bs cs) e in rw (eqb-true b c h, same_is bs cs t)

pub is_same : (bs : List ℕ) → same_bytes bs bs ≡ true
unfolding same_bytes
is_same [] = refl
is_same (b ∷ bs) = and_yes (eq-eqb b b refl) (is_same bs)

-- what a comparison of bytes answers, as a function of bytes says it
pub told_same : (r : Bool) (a b : List ℕ) → (r ≡ true → a ≡ b) × (a ≡ b → r ≡ true) → same_bytes a b ≡ r
told_same true a b (is, _) = rw (is refl) (is_same b)
told_same false a b (_, is) = go (same_bytes a b) (λ e. is (same_is a b e))
  where
    go : (t : Bool) → (t ≡ true → false ≡ true) → t ≡ false
    go true f = sym (f refl)
    go false f = refl

-- THE HEAD AND WHAT FOLLOWS IT

module _ (layout : Layout) where
  pub length_head : (n : ℕ) → length (head_of layout n) ≡ head_size layout
  length_head n = length-append layout.mark (bytes_of u32_size n) ∙ omega (arith, length_bytes u32_size n)

  -- the mark of the form of a map, the count, and what stands after it
  pub mark_form : (m : Stored) → take (length layout.mark) (form_of layout m) ≡ layout.mark
  unfolding form_of
  mark_form m =
      let cs : List ℕ = bytes_of u32_size m.count in
      let rs : List ℕ = ranges_bytes layout (entries_of m) in
      rw (append_assoc layout.mark cs rs) (take_at layout.mark (cs ++ rs) (length layout.mark) refl)

  count_form : (m : Stored) → m.count ≤ places → count_in layout (form_of layout m) ≡ m.count
  unfolding count_in form_of
  count_form m h =
      let cs : List ℕ = bytes_of u32_size m.count in
      let rs : List ℕ = ranges_bytes layout (entries_of m) in
      let t : take u32_size (cs ++ rs) ≡ cs = take_at cs rs u32_size (length_bytes u32_size m.count) in
      rw (append_assoc layout.mark cs rs, drop_at layout.mark (cs ++ rs) (length layout.mark) refl, t)
      (number_bytes u32_size m.count (omega arith))

  rest_form : (m : Stored) → drop (head_size layout) (form_of layout m) ≡ ranges_bytes layout (entries_of m)
  unfolding form_of
  rest_form m = drop_at (head_of layout m.count) (ranges_bytes layout (entries_of m)) (head_size layout) (length_head m.count)

  -- the bytes of the count that bytes tell
  count_bytes : (bs : List ℕ) → Bytes bs → head_size layout ≤ length bs → bytes_of u32_size (count_in layout bs) ≡ take u32_size (drop (length layout.mark) bs)
  unfolding count_in
  count_bytes bs b h =
      let rest : List ℕ = drop (length layout.mark) bs in
      let n : length (take u32_size rest) ≡ u32_size = length-take-le u32_size rest (omega (arith, length-drop (length layout.mark) bs)) in
      rw n at (bytes_number_lem (take u32_size rest) (bytes_take u32_size rest (bytes_drop (length layout.mark) bs b)))

  pub count_in_map : (bs : List ℕ) → (map_in layout bs).count ≡ count_in layout bs
  unfolding map_in map_of
  count_in_map bs = length_ranges_in layout (count_in layout bs) (drop (head_size layout) bs)

  -- what bytes are that are the form of a well-formed map
  pub record Form (bs : List ℕ) : Type 0 where
    pub well : formed layout.kind (map_in layout bs) ≡ true
    pub bytes : form_of layout (map_in layout bs) ≡ bs

  pub form_yes : (bs : List ℕ) → is_form layout bs ≡ true → Form bs
  unfolding is_form
  form_yes bs e =
      let (w, s) = both (formed layout.kind (map_in layout bs)) (same_bytes bs (form_of layout (map_in layout bs))) e in
      record { well = w; bytes = sym (same_is bs (form_of layout (map_in layout bs)) s) }

  pub yes_form : (bs : List ℕ) → Form bs → is_form layout bs ≡ true
  unfolding is_form
  yes_form bs f = and_yes f.well (rw f.bytes (is_same bs))

  -- a sound map with all its places, whose form is some bytes
  pub record Read (m : Stored) (bs : List ℕ) : Type 0 where
    pub sound : Sound layout.kind m
    pub all_places : length m.starts ≡ places
    pub bytes : form_of layout m ≡ bs

module _ {layout : Layout} (law : Lawful layout) where
  pub length_form : (m : Stored) → length (form_of layout m) ≡ form_size layout (length (entries_of m))
  unfolding form_of
  length_form m =
      length-append (head_of layout m.count) (ranges_bytes layout (entries_of m))
      ∙ omega (arith, length_head layout m.count, length_ranges_bytes law (entries_of m))

  -- THE ROUND TRIPS

  -- WRITE THEN READ: a sound map with all its places is the map of its form. A value is its own byte, so nothing is asked of values
  pub map_form : {m : Stored} → Sound layout.kind m → length m.starts ≡ places → map_in layout (form_of layout m) ≡ m
  unfolding map_in
  map_form {m} s all =
      let f = Formed.formed layout.kind places m (sound_formed s all) in
      let n = sound_entries s in
      let r : ranges_in layout m.count (ranges_bytes layout (entries_of m)) ≡ entries_of m = rw n at (ranges_back law (entries_of m) (sound_fitting s)) in
      rw (count_form layout m f.held, rest_form layout m, r) (map_of_entries s all)

  -- READ THEN WRITE: bytes that begin as a form does, and are as many as their count says, are the form of their map
  pub form_map : (bs : List ℕ) → Bytes bs → take (length layout.mark) bs ≡ layout.mark → length bs ≡ form_size layout (count_in layout bs)
      → form_of layout (map_in layout bs) ≡ bs
  unfolding form_of map_in map_of
  form_map bs b t l =
      let k : ℕ = length layout.mark in
      let n : ℕ = count_in layout bs in
      let rest : List ℕ = drop (head_size layout) bs in
      let xs : List Entry = ranges_in layout n rest in
      let r : ranges_bytes layout xs ≡ rest = ranges_again law n rest (bytes_drop (head_size layout) bs b) (length-drop (head_size layout) bs ∙ omega arith) in
      let c : bytes_of u32_size n ++ rest ≡ drop k bs =
      rw (count_bytes layout bs b (omega arith), ← drop-drop u32_size k bs) (take-append-drop u32_size (drop k bs)) in
      rw (entries_of_map xs, length_ranges_in layout n rest, r, append_assoc layout.mark (bytes_of u32_size n) rest, c)
      (ap (λ (x : List ℕ). x ++ drop k bs) (sym t) ∙ take-append-drop k bs)

  -- THE READER

  -- what holds of every range of such bytes holds of the places of a column of their map
  module _ (Such : List ℕ → Type 0) (rest-such : (bs : List ℕ) → Such bs → Such (drop layout.size bs)) where
    column_all : {A : Type 0} (P : A → Type 0) (f : Entry → A) (z : A) (m : ℕ) → P z → ((bs : List ℕ) → Such bs → P (f (layout.read bs)))
        → (n : ℕ) (bs : List ℕ) → Such bs → (k : ℕ) → P (get_or (map f (ranges_in layout n bs) ++ replicate m z) k z)
    unfolding ranges_in
    column_all P f z zero pz pf zero bs b k = pz
    column_all P f z (suc m) pz pf zero bs b zero = pz
    column_all P f z (suc m) pz pf zero bs b (suc k) = column_all P f z m pz pf zero bs b k
    column_all P f z m pz pf (suc n) bs b zero = pf bs b
    column_all P f z m pz pf (suc n) bs b (suc k) = column_all P f z m pz pf n (drop layout.size bs) (rest-such bs b) k

    filled_all : {A : Type 0} (P : A → Type 0) (f : Entry → A) (z : A) → P z → ((bs : List ℕ) → Such bs → P (f (layout.read bs)))
        → (n : ℕ) (bs : List ℕ) → Such bs → (k : ℕ) → P (get_or (filled places z (map f (ranges_in layout n bs))) k z)
    unfolding filled
    filled_all P f z pz pf n bs b k = column_all P f z (places - length (map f (ranges_in layout n bs))) pz pf n bs b k

  -- the keys of the map of any bytes are i64
  map_keys : (f : Entry → ℤ) → ((bs : List ℕ) → SFits w64 (f (layout.read bs))) → (n : ℕ) (bs : List ℕ)
      → AllFit (filled places (pos 0) (map f (ranges_in layout n bs)))
  map_keys f fit n bs = filled_all (λ _. Unit {0}) (λ _ _. tt) (SFits w64) f (pos 0) (sfits_lit tt) (λ cs _. fit cs) n bs tt

  -- its values are u8, since bytes are
  pub map_values : (bs : List ℕ) → Bytes bs → Bytes (map_in layout bs).values
  unfolding map_in map_of
  map_values bs b =
      filled_all Bytes (bytes_drop layout.size) (λ (v : ℕ). v < 256) (λ (x : Entry). x.value) 0 (omega arith) law.value
      (count_in layout bs) (drop (head_size layout) bs) (bytes_drop (head_size layout) bs b)

  -- it has all its places
  pub map_shaped : (bs : List ℕ) → count_in layout bs ≤ places → Shaped places (map_in layout bs)
  unfolding map_in map_of
  map_shaped bs h =
      let xs : List Entry = ranges_in layout (count_in layout bs) (drop (head_size layout) bs) in
      let l = length_ranges_in layout (count_in layout bs) (drop (head_size layout) bs) in
      record {
        starts = length_filled places (pos 0) (map (λ (x : Entry). x.start) xs) (omega (arith, length-map xs (λ (x : Entry). x.start)));
        ends = length_filled places (pos 0) (map (λ (x : Entry). x.end) xs) (omega (arith, length-map xs (λ (x : Entry). x.end)));
        values = length_filled places 0 (map (λ (x : Entry). x.value) xs) (omega (arith, length-map xs (λ (x : Entry). x.value)));
      }

  -- and it is sound where it is well formed
  map_sound : (bs : List ℕ) → Shaped places (map_in layout bs) → formed layout.kind (map_in layout bs) ≡ true → Sound layout.kind (map_in layout bs)
  unfolding map_in map_of
  map_sound bs shape w = record {
    ends_as = shape.ends ∙ sym shape.starts;
    values_as = shape.values ∙ sym shape.starts;
    starts_fit = map_keys (λ (x : Entry). x.start) (λ cs. (law.keys cs).start) (count_in layout bs) (drop (head_size layout) bs);
    ends_fit = map_keys (λ (x : Entry). x.end) (λ cs. (law.keys cs).end) (count_in layout bs) (drop (head_size layout) bs);
    well = subst (λ (n : ℕ). well_formed layout.kind n (map_in layout bs) ≡ true) (sym shape.starts) w;
  }

  -- the reader accepts the form of a well-formed map, and gives that map
  pub write_read : {m : Stored} (old : Stored) → Sound layout.kind m → length m.starts ≡ places → read layout old (form_of layout m) ≡ leaving done m
  unfolding read
  write_read {m} old s all =
      let e = map_form s all in
      rw (yes_form layout (form_of layout m) (record { well = rw e (sound_formed s all); bytes = rw e }), e)

  accepted : (bs : List ℕ) → is_form layout bs ≡ true → Read layout (map_in layout bs) bs
  accepted bs y =
      let f = form_yes layout bs y in
      let h = (Formed.formed layout.kind places (map_in layout bs) f.well).held in
      let shape = map_shaped bs (omega (arith, count_in_map layout bs)) in
      record { sound = map_sound bs shape f.well; all_places = shape.starts; bytes = f.bytes }

  -- it accepts nothing else: what it gives is a well-formed map whose form is the bytes that it read
  pub read_write : {m : Stored} (old : Stored) (bs : List ℕ) → read layout old bs ≡ leaving done m → Read layout m bs
  unfolding read
  read_write {m} old bs e = go (is_form layout bs) refl e
    where
      go : (t : Bool) → is_form layout bs ≡ t → cond t (leaving done (map_in layout bs)) (leaving no_map old) ≡ leaving done m → Read layout m bs
      go true y e = let n : map_in layout bs ≡ m = ap (λ (o : Edited). o.left) e in rw n at (accepted bs y)
      go false y e = let z : ◌≡◌ {A = ℕ} 6 0 = ap (λ (o : Edited). o.answer) e in absurd (omega arith)

  -- and bytes that are the form of no such map are refused with 6, the map as it was
  pub read_refused : (old : Stored) (bs : List ℕ) → ((m : Stored) → Read layout m bs → ⊥) → read layout old bs ≡ leaving no_map old
  unfolding read
  read_refused old bs h = go (is_form layout bs) refl
    where
      go : (t : Bool) → is_form layout bs ≡ t → cond t (leaving done (map_in layout bs)) (leaving no_map old) ≡ leaving no_map old
      go true y = absurd (h (map_in layout bs) (accepted bs y))
      go false y = refl

  -- NO TWO MAPS HAVE THE SAME BYTES
  pub one_form : {a b : Stored} {bs : List ℕ} → Read layout a bs → Read layout b bs → a ≡ b
  one_form i j = sym (map_form i.sound i.all_places) ∙ ap (map_in layout) (i.bytes ∙ sym j.bytes) ∙ map_form j.sound j.all_places
