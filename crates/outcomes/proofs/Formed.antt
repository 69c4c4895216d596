-- A well-formed map, as proofs use it: the test says so exactly where the record can be made. And the ranges of a map, place by place.
use Prim.Native.Nat.{ℕ, zero, suc, ◌+◌, ◌-◌, ◌≤◌, ◌<◌}
use native.Mathlib.Omega.{arith}
use mathlib.Core.Path.{◌≡◌, refl, sym, ap, ◌∙◌}
use mathlib.Core.Bool.{Bool, true, ◌&&◌}
use mathlib.Core.List.{List, [], ◌∷◌}
use borrow.Author.Tests.{leb-true, le-leb, eqb-true, eq-eqb}
use lib.Dec.{leb, eqb}
use lib.ListN.{length, get_or, take, drop}
use lib.Seq.{get_or-drop, get_or-take, length-take-le}
use lib.IntN.{ℤ, pos, negsuc}
use Rattle.span.specs.Span.{Span, span, Tidy, tidy}
use Rattle.span.proofs.Tests.{both, tidy_yes, yes_tidy}
use Rattle.key.specs.Range.{Kind, span_of}
use Rattle.outcomes.specs.Stored.{spans, ranges, is_zero, zeros, noughts, unused, well_formed, Spare, Sound}
use Rattle.outcomes.specs.declared.Stored.{Stored}

pub record Formed (kind : Kind) (n : ℕ) (m : Stored) : Type 0 where
  pub held : m.count ≤ n
  pub tidy : Tidy 0 (ranges kind m)
  pub starts : Spare m.starts m.count (pos 0)
  pub ends : Spare m.ends m.count (pos 0)
  pub values : Spare m.values m.count 0

-- both tests are true
pub and_yes : {s t : Bool} → s ≡ true → t ≡ true → (s && t) ≡ true
and_yes e f = rw (e, f)

is_zero_lem : (z : ℤ) → is_zero z ≡ true → z ≡ pos 0
is_zero_lem (pos n) e = ap pos (eqb-true n 0 e)
is_zero_lem (negsuc n) e = let z : ◌≡◌ {A = ℕ} 0 1 = cc in absurd (omega arith)

zero_is : (z : ℤ) → z ≡ pos 0 → is_zero z ≡ true
zero_is z e = rw e

zeros_all : (l : List ℤ) → zeros l ≡ true → (k : ℕ) → get_or l k (pos 0) ≡ pos 0
unfolding zeros
zeros_all [] e k = refl
zeros_all (z ∷ zs) e zero = is_zero_lem z (both (is_zero z) (zeros zs) e).0
zeros_all (z ∷ zs) e (suc k) = zeros_all zs (both (is_zero z) (zeros zs) e).1 k

all_zeros : (l : List ℤ) → ((k : ℕ) → get_or l k (pos 0) ≡ pos 0) → zeros l ≡ true
unfolding zeros
all_zeros [] h = refl
all_zeros (z ∷ zs) h = and_yes (zero_is z (h 0)) (all_zeros zs (λ k. h (suc k)))

pub noughts_all : (l : List ℕ) → noughts l ≡ true → (k : ℕ) → get_or l k 0 ≡ 0
unfolding noughts
noughts_all [] e k = refl
noughts_all (n ∷ ns) e zero = eqb-true n 0 (both (eqb n 0) (noughts ns) e).0
noughts_all (n ∷ ns) e (suc k) = noughts_all ns (both (eqb n 0) (noughts ns) e).1 k

pub all_noughts : (l : List ℕ) → ((k : ℕ) → get_or l k 0 ≡ 0) → noughts l ≡ true
unfolding noughts
all_noughts [] h = refl
all_noughts (n ∷ ns) h = and_yes (eq-eqb n 0 (h 0)) (all_noughts ns (λ k. h (suc k)))

-- what holds of each place of the rest of a list holds from there on
spare_drop : {A : Type 0} (l : List A) (n : ℕ) (z : A) → ((k : ℕ) → get_or (drop n l) k z ≡ z) → Spare l n z
spare_drop l n z h k b =
    let e : n + (k - n) ≡ k = omega arith in
    ap (λ (j : ℕ). get_or l j z) (sym e) ∙ sym (get_or-drop n l (k - n) z) ∙ h (k - n)

drop_spare : {A : Type 0} (l : List A) (n : ℕ) (z : A) → Spare l n z → (k : ℕ) → get_or (drop n l) k z ≡ z
drop_spare l n z h k = get_or-drop n l k z ∙ h (n + k) (omega arith)

pub formed : (kind : Kind) (n : ℕ) (m : Stored) → well_formed kind n m ≡ true → Formed kind n m
unfolding well_formed unused
formed kind n m e =
    let (c, f) = both (leb m.count n) (tidy 0 (ranges kind m) && unused m) e in
    let (t, u) = both (tidy 0 (ranges kind m)) (unused m) f in
    let (s, v) = both (zeros (drop m.count m.starts)) _ u in
    let (g, w) = both (zeros (drop m.count m.ends)) (noughts (drop m.count m.values)) v in
    record {
      held = leb-true m.count n c;
      tidy = tidy_yes 0 (ranges kind m) t;
      starts = spare_drop m.starts m.count (pos 0) (zeros_all _ s);
      ends = spare_drop m.ends m.count (pos 0) (zeros_all _ g);
      values = spare_drop m.values m.count 0 (noughts_all _ w);
    }

pub well_formed_lem : (kind : Kind) (n : ℕ) (m : Stored) → Formed kind n m → well_formed kind n m ≡ true
unfolding well_formed unused
well_formed_lem kind n m f =
    and_yes (le-leb m.count n f.held) (and_yes (yes_tidy 0 (ranges kind m) f.tidy)
    (and_yes (all_zeros _ (drop_spare m.starts m.count (pos 0) f.starts))
    (and_yes (all_zeros _ (drop_spare m.ends m.count (pos 0) f.ends)) (all_noughts _ (drop_spare m.values m.count 0 f.values)))))

-- the ranges of three lists of one length, place by place
pub length_spans : (kind : Kind) (ss es : List ℤ) (vs : List ℕ) → length es ≡ length ss → length vs ≡ length ss → length (spans kind ss es vs) ≡ length ss
unfolding spans
length_spans kind [] es vs p q = refl
length_spans kind (s ∷ ss) [] vs p q = absurd (omega arith)
length_spans kind (s ∷ ss) (e ∷ es) [] p q = absurd (omega arith)
length_spans kind (s ∷ ss) (e ∷ es) (v ∷ vs) p q = ap suc (length_spans kind ss es vs (omega arith) (omega arith))

pub get_or_spans : (kind : Kind) (ss es : List ℤ) (vs : List ℕ) (k : ℕ) (d : Span) → length es ≡ length ss → length vs ≡ length ss → k < length ss
    → get_or (spans kind ss es vs) k d ≡ span_of kind (get_or ss k (pos 0)) (get_or es k (pos 0)) (get_or vs k 0)
unfolding spans
get_or_spans kind [] es vs k d p q h = absurd (omega arith)
get_or_spans kind (s ∷ ss) [] vs k d p q h = absurd (omega arith)
get_or_spans kind (s ∷ ss) (e ∷ es) [] k d p q h = absurd (omega arith)
get_or_spans kind (s ∷ ss) (e ∷ es) (v ∷ vs) zero d p q h = refl
get_or_spans kind (s ∷ ss) (e ∷ es) (v ∷ vs) (suc k) d p q h = get_or_spans kind ss es vs k d (omega arith) (omega arith) (omega arith)

-- and those of a map of n places
pub record Shaped (n : ℕ) (m : Stored) : Type 0 where
  pub starts : length m.starts ≡ n
  pub ends : length m.ends ≡ n
  pub values : length m.values ≡ n

module _ (kind : Kind) (n : ℕ) (m : Stored) (shape : Shaped n m) (held : m.count ≤ n) where
  pub length_ranges : length (ranges kind m) ≡ m.count
  unfolding ranges
  length_ranges = length-take-le m.count _ (omega (arith, length_spans kind m.starts m.ends m.values (omega arith) (omega arith)))

  pub get_or_ranges : (k : ℕ) (d : Span) → k < m.count → get_or (ranges kind m) k d ≡ span_of kind (get_or m.starts k (pos 0)) (get_or m.ends k (pos 0)) (get_or m.values k 0)
  unfolding ranges
  get_or_ranges k d h = get_or-take m.count _ k d h ∙ get_or_spans kind m.starts m.ends m.values k d (omega arith) (omega arith) (omega arith)

-- a sound map: its columns are of one length, and it is well formed
module _ {kind : Kind} {m : Stored} (sound : Sound kind m) where
  pub shape : Shaped (length m.starts) m
  shape = record { starts = refl; ends = sound.ends_as; values = sound.values_as }

  pub good : Formed kind (length m.starts) m
  good = formed kind (length m.starts) m sound.well

-- a sound map holds no more ranges than it has places
pub sound_held : (kind : Kind) (m : Stored) → Sound kind m → m.count ≤ length m.starts
sound_held kind m s = (formed kind (length m.starts) m s.well).held
