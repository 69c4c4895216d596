-- A list of ranges as bytes, there and back, for any lawful layout.
use Prim.Native.Nat.{ℕ, zero, suc, ◌*◌}
use native.Mathlib.Nat.{mul-suc}
use native.Mathlib.Omega.{arith}
use mathlib.Core.Path.{◌≡◌, refl, ap, ◌∙◌}
use mathlib.Core.List.{List, [], ◌∷◌}
use lib.ListN.{length, drop, length-append, length-drop, take-append-drop}
use lib.Seq.{drop_at}
use Rattle.key.specs.declared.Entry.{Entry}
use Rattle.byte_form.specs.Bytes.{Bytes}
use Rattle.byte_form.specs.Layout.{Layout}
use Rattle.byte_form.specs.Form.{ranges_bytes, ranges_in}
use Rattle.byte_form.proofs.Laws.{bytes_drop}
use Rattle.byte_form.proofs.Lawful.{KeysFit, Lawful}

-- the keys of all ranges are i64
unfoldable pub AllFitting : List Entry → Type 0
AllFitting [] = Unit {0}
AllFitting (x ∷ xs) = KeysFit x × AllFitting xs

pub length_ranges_in : (layout : Layout) (n : ℕ) (bs : List ℕ) → length (ranges_in layout n bs) ≡ n
unfolding ranges_in
length_ranges_in layout zero bs = refl
length_ranges_in layout (suc n) bs = ap suc (length_ranges_in layout n (drop layout.size bs))

module _ {layout : Layout} (law : Lawful layout) where
  pub length_ranges_bytes : (xs : List Entry) → length (ranges_bytes layout xs) ≡ layout.size * length xs
  unfolding ranges_bytes
  length_ranges_bytes [] = omega arith
  length_ranges_bytes (x ∷ xs) =
      length-append (layout.written x) (ranges_bytes layout xs) ∙ omega (arith, law.long x, length_ranges_bytes xs, mul-suc layout.size (length xs))

  -- ranges are those of their bytes
  pub ranges_back : (xs : List Entry) → AllFitting xs → ranges_in layout (length xs) (ranges_bytes layout xs) ≡ xs
  unfolding AllFitting ranges_bytes ranges_in
  ranges_back [] f = refl
  ranges_back (x ∷ xs) f =
      rw (law.back x (ranges_bytes layout xs) f.0, drop_at (layout.written x) (ranges_bytes layout xs) layout.size (law.long x), ranges_back xs f.1)

  -- bytes are those of their ranges
  pub ranges_again : (n : ℕ) (bs : List ℕ) → Bytes bs → length bs ≡ layout.size * n → ranges_bytes layout (ranges_in layout n bs) ≡ bs
  unfolding ranges_bytes ranges_in
  ranges_again zero [] b e = refl
  ranges_again zero (x ∷ bs) b e = absurd (omega arith)
  ranges_again (suc n) bs b e =
      let m = mul-suc layout.size n in
      let ih = ranges_again n (drop layout.size bs) (bytes_drop layout.size bs b) (length-drop layout.size bs ∙ omega arith) in
      rw (law.again bs b (omega arith), ih) (take-append-drop layout.size bs)
