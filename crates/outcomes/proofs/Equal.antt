-- How two maps compare, and whether they are equal.
use Prim.Native.Nat.{Ordering}
use mathlib.Core.Path.{◌≡◌, refl}
use mathlib.Core.Bool.{Bool, true, false, ◌&&◌, cond}
use Rattle.answers.specs.declared.Refusal.TheVariants.{NotFormed}
use Rattle.std.specs.Prelude.{Err}
use Rattle.key.specs.Range.{Kind}
use Rattle.outcomes.specs.declared.Stored.{Stored}
use Rattle.outcomes.specs.Numbers.{equal_of}
use Rattle.outcomes.specs.Outcomes.{yes_no, is_equal, compared_by, order_sound, formed, order, equal}

equal_by : (o : Ordering) → equal_of (compared_by o) ≡ yes_no (is_equal o)
equal_by Ordering.lt = refl
equal_by Ordering.eq = refl
equal_by Ordering.gt = refl

told : (t : Bool) (o : Ordering) → equal_of (cond t (compared_by o) (Err NotFormed)) ≡ cond t (yes_no (is_equal o)) (Err NotFormed)
told true o = equal_by o
told false o = refl

-- two maps are equal where neither comes first, and refused as they are there
pub equal_ordering : (kind : Kind) (a b : Stored) → equal_of (order kind a b) ≡ equal kind a b
unfolding order equal
equal_ordering kind a b = told (formed kind a && formed kind b) (order_sound kind a b)
