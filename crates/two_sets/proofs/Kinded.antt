-- The kind of range that the code names: both kinds differ by one in how far past its end a range reaches.
use Prim.Native.Nat.{ℕ, ◌+◌, ◌<◌, min, max}
use native.Mathlib.Omega.{arith}
use mathlib.Core.Path.{◌≡◌, refl, sym, ap, ◌∙◌}
use mathlib.Core.Bool.{Bool, true, false}
use mathlib.Core.List.{List}
use borrow.Author.Tests.{lt-ltb, le-ltb}
use lib.Dec.{ltb}
use lib.ListN.{set}
use lib.IntN.{ℤ}
use lib.Signed.{lt_z}
use mir.Syntax.{w64}
use mir.Val.{to_z, of_z}
use Rattle.key.specs.Rank.{rank, bit_rank, lesser, greater}
use Rattle.key.specs.Range.{kind_of}
use Rattle.key.specs.InnerDecides.{Decides}
use Rattle.key.specs.declared.RangeKind.{RangeKind}
use Rattle.key.proofs.Laws.{rank_lt, rank_ge, rank_back, rank_lesser, rank_greater, to_z_fit}
use Rattle.key.proofs.Answers.{not_full}
use Rattle.key.proofs.Lawful.{lawful}
use Rattle.two_sets.specs.InnerKind.{wide}

pub past_is : (kind : RangeKind) (e : ℤ) → (kind_of kind).past e ≡ wide kind + rank e
past_is RangeKind.HalfOpen e = omega arith
past_is RangeKind.Inclusive e = omega arith

-- a test is what it decides
by_answer : (s : Bool) {t : Bool} → (s ≡ true → t ≡ true) → (s ≡ false → t ≡ false) → s ≡ t
by_answer true f g = sym (f refl)
by_answer false f g = sym (g refl)

pub lt_test : (m n : ℕ) → lt_z (to_z w64 m) (to_z w64 n) ≡ ltb (bit_rank m) (bit_rank n)
lt_test m n =
    by_answer (lt_z (to_z w64 m) (to_z w64 n)) (λ e. lt-ltb (bit_rank m) (bit_rank n) (rank_lt m n e)) (λ e. le-ltb (bit_rank m) (bit_rank n) (rank_ge m n e))

-- what `meets` answers
pub meets_is : {r : Bool} (kind : RangeKind) (s e : ℤ) → Decides r (rank s < (kind_of kind).past e) → r ≡ ltb (rank s) (wide kind + rank e)
meets_is {r} kind s e d =
    let p = past_is kind e in
    by_answer r (λ t. let h = d.right t in lt-ltb (rank s) (wide kind + rank e) (omega arith))
    (λ f. let h = not_full d f in le-ltb (rank s) (wide kind + rank e) (omega arith))

-- an end as the code stores it
end_bits : (kind : RangeKind) (b : ℕ) → to_z w64 b ≡ (kind_of kind).ending (wide kind + bit_rank b)
end_bits kind b =
    let p : (kind_of kind).past (to_z w64 b) ≡ wide kind + bit_rank b = rw (rank_back b) at (past_is kind (to_z w64 b)) in
    sym (ap (kind_of kind).ending (sym p) ∙ (lawful kind).back (to_z_fit b))

-- the greater and the lesser of two keys that were read, by their ranks
pub greater_rank : {r : ℤ} (a b : ℤ) → r ≡ greater (to_z w64 (of_z w64 a)) (to_z w64 (of_z w64 b)) → rank (to_z w64 (of_z w64 r)) ≡ max (rank a) (rank b)
greater_rank {r} a b e =
    rank_back (of_z w64 r) ∙ ap rank e ∙ rank_greater (to_z w64 (of_z w64 a)) (to_z w64 (of_z w64 b)) ∙ rw (rank_back (of_z w64 a), rank_back (of_z w64 b))

pub lesser_rank : {r : ℤ} (a b : ℤ) → r ≡ lesser (to_z w64 (of_z w64 a)) (to_z w64 (of_z w64 b)) → rank (to_z w64 (of_z w64 r)) ≡ min (rank a) (rank b)
lesser_rank {r} a b e =
    rank_back (of_z w64 r) ∙ ap rank e ∙ rank_lesser (to_z w64 (of_z w64 a)) (to_z w64 (of_z w64 b)) ∙ rw (rank_back (of_z w64 a), rank_back (of_z w64 b))

-- and as it writes it
pub put_end : (kind : RangeKind) (l : List ℤ) {l₁ : List ℤ} (n b : ℕ) → l₁ ≡ set l n (to_z w64 b) → l₁ ≡ set l n ((kind_of kind).ending (wide kind + bit_rank b))
put_end kind l n b e = rw (← end_bits kind b) e
