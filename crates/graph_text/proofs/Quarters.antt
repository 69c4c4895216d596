-- What is known of a quarter of a day: no strange status is in it, so its totals are answered.
use Prim.Native.Nat.{ℕ, suc, ◌+◌, ◌*◌, ◌≤◌, ◌<◌, min, max}
use native.Mathlib.Omega.{arith}
use native.Mathlib.Decide.{dec_lt}
use mathlib.Core.Path.{◌≡◌, sym, ◌∙◌}
use mathlib.Core.Bool.{false, not}
use mathlib.Core.List.{List, [], ◌∷◌}
use borrow.Author.Tests.{lt-ltb, le-ltb}
use lib.Dec.{ltb}
use lib.IntN.{ℤ, pos, negsuc, ◌+ℤ◌}
use mir.Syntax.{w64}
use mir.Val.{SFits, to_z, of_z}
use Rattle.span.specs.Span.{Span, keep}
use Rattle.span.proofs.Tests.{neither}
use Rattle.key.specs.Rank.{above_least, bit_rank, rank, keys}
use Rattle.key.specs.Range.{half_open}
use Rattle.key.proofs.Laws.{to_z_fit, rank_place, rank_below}
use Rattle.outcomes.specs.Stored.{ranges}
use Rattle.outcomes.specs.declared.Stored.{Stored}
use Rattle.duty.specs.Duty.{is_status, strange, tally_sound}
use Rattle.duty.specs.declared.Totals.{Totals}
use Rattle.std.specs.Prelude.{Result, Ok}
use Rattle.duty.proofs.Laws.{within_cons, strange_cons, strange_alike, strange_none}
use Rattle.report_text.specs.Rows.{row_of}
use Rattle.graph_text.specs.Grid.{quarters_in, in_quarter, is_marked, Drawable}
use Rattle.graph_text.specs.InnerRoom.{Quarters, Quarter}

-- A SPAN OFF A WINDOW counts for nothing there
off : (lo hi : ℕ) (x : Span) (xs : List Span) → min x.hi hi ≤ max x.lo lo → strange lo hi (x ∷ xs) ≡ strange lo hi xs
unfolding keep
off lo hi x xs h = strange_alike lo hi (x ∷ xs) xs (within_cons lo hi x xs ∙ rw (le-ltb (max x.lo lo) (min x.hi hi) h))

-- what is behind a span of a calm window is calm, and so is the span if it meets the window
behind_calm : (lo hi : ℕ) (x : Span) (xs : List Span) → strange lo hi (x ∷ xs) ≡ false → strange lo hi xs ≡ false
behind_calm lo hi x xs e = elim (dec_lt (max x.lo lo) (min x.hi hi)) [
  | yes h ↦ (neither (not (is_status x.label)) (strange lo hi xs) (sym (strange_cons lo hi x xs h) ∙ e)).1
  | no h ↦ sym (off lo hi x xs (omega arith)) ∙ e
]

-- A PART OF A CALM WINDOW is calm
pub calm_part : (lo hi a b : ℕ) (m : List Span) → lo ≤ a → b ≤ hi → strange lo hi m ≡ false → strange a b m ≡ false
calm_part lo hi a b [] p q e = strange_none a b
calm_part lo hi a b (x ∷ xs) p q e =
    let ih : strange a b xs ≡ false = calm_part lo hi a b xs p q (behind_calm lo hi x xs e) in
    elim (dec_lt (max x.lo a) (min x.hi b)) [
      | yes h ↦
          let w : max x.lo lo < min x.hi hi = omega arith in
          rw (strange_cons a b x xs h, (neither (not (is_status x.label)) (strange lo hi xs) (sym (strange_cons lo hi x xs w) ∙ e)).0, ih)
      | no h ↦ off a b x xs (omega arith) ∙ ih
    ]

-- A KEY n FURTHER ON, as `start + n` in the code asks it and gives it
place_further : (z : ℤ) (n : ℕ) → SFits w64 z → above_least z + n < keys → SFits w64 (z +ℤ pos n) × (above_least (z +ℤ pos n) ≡ above_least z + n)
unfolding above_least
place_further (pos a) n f l = (record { sfits = omega arith }, omega arith)
place_further (negsuc a) n f l = elim (dec_lt n (suc a)) [
  | yes p ↦ rw (lt-ltb n (suc a) p) (record { sfits = omega arith }, omega arith)
  | no p ↦ let q : suc a ≤ n = omega arith in rw (le-ltb n (suc a) q) (record { sfits = omega arith }, omega arith)
]

pub further_fits : (b n : ℕ) → bit_rank b + n < keys → SFits w64 (to_z w64 b +ℤ pos n)
unfolding bit_rank
further_fits b n l = (place_further _ n (to_z_fit b) l).0

pub rank_further : (b n : ℕ) → bit_rank b + n < keys → rank (to_z w64 b +ℤ pos n) ≡ bit_rank b + n
unfolding bit_rank
rank_further b n l = rank_place _ (further_fits b n l) ∙ (place_further _ n (to_z_fit b) l).1

-- ONE QUARTER of several, and the quarters of a day
pub quarter_in : {m : Stored} {s : ℤ} {n q : ℕ} → Quarters m s n → q < n → Quarter m s q
quarter_in {m} {s} {n} {q} d h = record {
  sound = d.sound;
  upto = omega (arith, d.upto);
  calm = calm_part (rank s) (rank s + 900 * n) (rank s + 900 * q) (rank s + 900 * (q + 1)) (ranges half_open m) (omega arith) (omega arith) d.calm;
}

pub day_quarters : {m : Stored} {s e : ℤ} → Drawable m s e → Quarters m s (quarters_in s e)
day_quarters {m} {s} {e} d =
    let n : ℕ = quarters_in s e in
    let upto : rank s + 900 * n ≤ rank e = omega (arith, d.real) in
    record {
      sound = d.sound;
      few = omega (arith, d.short);
      upto = omega (arith, rank_below (of_z w64 e));
      calm = calm_part (rank s) (rank e) (rank s) (rank s + 900 * n) (ranges half_open m) (omega arith) upto d.calm;
    }

-- WHAT IS ANSWERED of a quarter: its totals
pub quarter_totals : {m : Stored} {s : ℤ} {q : ℕ} (a b : ℤ) → Quarter m s q → rank a ≡ rank s + 900 * q → rank b ≡ rank s + 900 * (q + 1)
    → tally_sound m a b ≡ Ok (in_quarter (ranges half_open m) s q)
unfolding tally_sound in_quarter
quarter_totals a b d p r = rw (p, r, d.calm)

-- and its mark
pub marked_is : (m : List Span) (s : ℤ) (j q : ℕ) {E : Type 0} {t : Totals} {n : ℕ} → ◌≡◌ {A = Result Totals E} (Ok t) (Ok (in_quarter m s q)) → n ≡ row_of t j
    → ltb 0 n ≡ is_marked m s j q
unfolding is_marked
marked_is m s j q {t} e r = let u : t ≡ in_quarter m s q = cc in rw (r, u)
