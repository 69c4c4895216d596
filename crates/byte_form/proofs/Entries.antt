-- A map and the entries that it holds, there and back.
use Prim.Native.Nat.{ℕ, zero, suc, ◌+◌, ◌-◌, ◌≤◌}
use native.Mathlib.Omega.{arith}
use mathlib.Core.Path.{◌≡◌, refl, sym, ap, subst, ◌∙◌}
use mathlib.Core.Bool.{true}
use mathlib.Core.List.{List, [], ◌∷◌, ◌++◌, map}
use lib.ListN.{length, take, drop, replicate, length-drop, length-replicate, get_or-replicate, take-append-drop}
use lib.Seq.{ext_get_or, get_or-drop, length-take-le}
use lib.IntN.{ℤ, pos}
use Rattle.key.specs.Range.{Kind}
use Rattle.outcomes.specs.Stored.{places, filled, well_formed, AllFit, Spare, Sound}
use Rattle.outcomes.specs.declared.Stored.{Stored}
use Rattle.outcomes.specs.Outcomes.{entries}
use Rattle.key.specs.declared.Entry.{Entry}
use Rattle.outcomes.proofs.Formed as Formed
use Rattle.outcomes.proofs.Bulk.{length_entries}
use Rattle.byte_form.specs.Form.{entries_of, map_of}
use Rattle.byte_form.proofs.Ranges.{AllFitting}

-- a sound map with all its places is well formed
pub sound_formed : {kind : Kind} {m : Stored} → Sound kind m → length m.starts ≡ places → well_formed kind places m ≡ true
sound_formed {kind} {m} s all = subst (λ (n : ℕ). well_formed kind n m ≡ true) all s.well

-- a map whose columns are of one length holds as many entries as it counts
pub length_entries_of : (m : Stored) → length m.ends ≡ length m.starts → length m.values ≡ length m.starts → m.count ≤ length m.starts
    → length (entries_of m) ≡ m.count
unfolding entries_of
length_entries_of m p q h = length-take-le m.count _ (omega (arith, length_entries m.starts m.ends m.values))

-- so does a sound one
pub sound_entries : {kind : Kind} {m : Stored} → Sound kind m → length (entries_of m) ≡ m.count
sound_entries {kind} {m} s = length_entries_of m s.ends_as s.values_as (Formed.formed kind (length m.starts) m s.well).held

-- the first c of three columns are the columns of these entries
record Columns (c : ℕ) (ss es : List ℤ) (vs : List ℕ) (xs : List Entry) : Type 0 where
  starts : map (λ (x : Entry). x.start) xs ≡ take c ss
  ends : map (λ (x : Entry). x.end) xs ≡ take c es
  values : map (λ (x : Entry). x.value) xs ≡ take c vs

columns_back : (c : ℕ) (ss es : List ℤ) (vs : List ℕ) → length es ≡ length ss → length vs ≡ length ss → Columns c ss es vs (take c (entries ss es vs))
unfolding entries
columns_back zero ss es vs p q = record { starts = refl; ends = refl; values = refl }
columns_back (suc c) [] [] [] p q = record { starts = refl; ends = refl; values = refl }
columns_back (suc c) [] [] (v ∷ vs) p q = absurd (omega arith)
columns_back (suc c) [] (e ∷ es) vs p q = absurd (omega arith)
columns_back (suc c) (s ∷ ss) [] vs p q = absurd (omega arith)
columns_back (suc c) (s ∷ ss) (e ∷ es) [] p q = absurd (omega arith)
columns_back (suc c) (s ∷ ss) (e ∷ es) (v ∷ vs) p q =
    let ih = columns_back c ss es vs (omega arith) (omega arith) in
    record {
      starts = ap (λ (l : List ℤ). s ∷ l) ih.starts;
      ends = ap (λ (l : List ℤ). e ∷ l) ih.ends;
      values = ap (λ (l : List ℕ). v ∷ l) ih.values;
    }

-- entries are those of their columns, whatever follows in these
entries_back : (xs : List Entry) (a b : List ℤ) (c : List ℕ)
    → take (length xs) (entries (map (λ (x : Entry). x.start) xs ++ a) (map (λ (x : Entry). x.end) xs ++ b) (map (λ (x : Entry). x.value) xs ++ c))
    ≡ xs
unfolding entries
entries_back [] a b c = refl
entries_back (x ∷ xs) a b c = rw (entries_back xs a b c)

-- the keys of the first c entries of three columns are i64
fitting : (c : ℕ) (ss es : List ℤ) (vs : List ℕ) → AllFit ss → AllFit es → AllFitting (take c (entries ss es vs))
unfolding entries AllFitting
fitting zero ss es vs f g = tt
fitting (suc c) [] es vs f g = tt
fitting (suc c) (s ∷ ss) [] vs f g = tt
fitting (suc c) (s ∷ ss) (e ∷ es) [] f g = tt
fitting (suc c) (s ∷ ss) (e ∷ es) (v ∷ vs) f g = (record { start = f 0; end = g 0 }, fitting c ss es vs (λ k. f (suc k)) (λ k. g (suc k)))

pub sound_fitting : {kind : Kind} {m : Stored} → Sound kind m → AllFitting (entries_of m)
unfolding entries_of
sound_fitting {m = m} s = fitting m.count m.starts m.ends m.values s.starts_fit s.ends_fit

-- a column whose places from c on hold z is its first c places, filled up
pub filled_take : {A : Type 0} (n c : ℕ) (z : A) (l : List A) → length l ≡ n → c ≤ n → Spare l c z → filled n z (take c l) ≡ l
unfolding filled
filled_take n c z l e h s =
    let t : length (take c l) ≡ c = length-take-le c l (omega arith) in
    let zs : List _ = replicate (n - c) z in
    let k : length zs ≡ n - c = length-replicate (n - c) z in
    let r : length zs ≡ length (drop c l) = k ∙ omega (arith, length-drop c l) in
    let d : replicate (n - c) z ≡ drop c l =
    ext_get_or z zs (drop c l) r (λ j b. get_or-replicate (n - c) j z z (omega arith) ∙ sym (get_or-drop c l j z ∙ s (c + j) (omega arith))) in
    rw (t, d) (take-append-drop c l)

-- the map of some entries holds them
pub entries_of_map : (xs : List Entry) → entries_of (map_of xs) ≡ xs
unfolding entries_of map_of filled
entries_of_map xs = entries_back xs _ _ _

-- a sound map with all its places is that of its entries
pub map_of_entries : {kind : Kind} {m : Stored} → Sound kind m → length m.starts ≡ places → map_of (entries_of m) ≡ m
unfolding entries_of map_of
map_of_entries {kind} {m} s all =
    let f = Formed.formed kind (length m.starts) m s.well in
    let held : m.count ≤ places = omega (arith, f.held) in
    let b = columns_back m.count m.starts m.ends m.values s.ends_as s.values_as in
    let n : length (take m.count (entries m.starts m.ends m.values)) ≡ m.count = sound_entries s in
    rw (
      n,
      b.starts,
      b.ends,
      b.values,
      filled_take places m.count (pos 0) m.starts all held f.starts,
      filled_take places m.count (pos 0) m.ends (s.ends_as ∙ all) held f.ends,
      filled_take places m.count 0 m.values (s.values_as ∙ all) held f.values,
    )
