-- A number with a sign in its room, and one line more of a map and of a result.
use Prim.Native.Nat.{ℕ, ◌+◌}
use mathlib.Core.Path.{◌≡◌}
use mathlib.Core.List.{List}
use lib.ListN.{get_or}
use lib.IntN.{ℤ, pos}
use mir.Syntax.{w64}
use mir.Val.{SFits, to_z, of_z}
use mir.Facts.{to_z-of_z}
use Rattle.outcomes.specs.Stored.{stored}
use Rattle.text.specs.Text.{Adds}
use Rattle.decimal.specs.Decimal.{signed_text}
use Rattle.decimal.proofs.Signs.{length_signed}
use Rattle.filling.specs.Filling.{AddsWithin}
use Rattle.filling.proofs.Laws.{in_room, series_none, series_more}
use Rattle.range_text.specs.RangeText.{range_line, result_line, ranges_text, result_text}
use Rattle.range_text.specs.InnerRoom.{range_line_room, result_line_room}

-- an i64 that code passes on
pub signed_within : {z : ℤ} {out out₁ : List ℕ} {at r : ℕ} → SFits w64 z → Adds (signed_text (to_z w64 (of_z w64 z))) out at out₁ r
    → AddsWithin 20 (signed_text z) out at out₁ r
signed_within {z} f a = in_room (length_signed z f) (rw (to_z-of_z f) at a)

-- NO LINE, and one line more
pub ranges_none : (ss es : List ℤ) (vs out : List ℕ) → AddsWithin 0 (ranges_text (stored 0 ss es vs)) out 0 out 0
unfolding ranges_text
ranges_none ss es vs out = series_none _ out 0

pub ranges_more : (ss es : List ℤ) (vs : List ℕ) (i : ℕ) {s e : ℤ} {v m r₁ r₂ : ℕ} {out out₁ out₂ : List ℕ} → s ≡ get_or ss i (pos 0)
    → e ≡ get_or es i (pos 0) → v ≡ get_or vs i 0
    → AddsWithin m (ranges_text (stored i ss es vs)) out 0 out₁ r₁ → AddsWithin range_line_room (range_line s e v) out₁ r₁ out₂ r₂ → AddsWithin (m + range_line_room) (ranges_text (stored (i + 1) ss es vs)) out 0 out₂ r₂
unfolding ranges_text
ranges_more ss es vs i p q w a b = series_more (λ k. range_line (get_or ss k (pos 0)) (get_or es k (pos 0)) (get_or vs k 0)) i a (rw (p, q, w) at b)

pub results_none : (ss es : List ℤ) (out : List ℕ) → AddsWithin 0 (result_text ss es 0) out 0 out 0
unfolding result_text
results_none ss es out = series_none _ out 0

pub results_more : (ss es : List ℤ) (i : ℕ) {s e : ℤ} {m r₁ r₂ : ℕ} {out out₁ out₂ : List ℕ} → s ≡ get_or ss i (pos 0) → e ≡ get_or es i (pos 0)
    → AddsWithin m (result_text ss es i) out 0 out₁ r₁ → AddsWithin result_line_room (result_line s e) out₁ r₁ out₂ r₂ → AddsWithin (m + result_line_room) (result_text ss es (i + 1)) out 0 out₂ r₂
unfolding result_text
results_more ss es i p q a b = series_more (λ k. result_line (get_or ss k (pos 0)) (get_or es k (pos 0))) i a (rw (p, q) at b)
