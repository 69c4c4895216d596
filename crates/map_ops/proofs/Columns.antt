-- A sound map, lent as its columns: how long these are.
use Prim.Native.Nat.{◌≤◌}
use native.Mathlib.Omega.{arith}
use mathlib.Core.Path.{◌≡◌, sym, subst}
use lib.ListN.{length}
use Rattle.key.specs.Range.{Kind}
use Rattle.outcomes.specs.Stored.{Sound}
use Rattle.outcomes.specs.Lent.{of_ref}
use Rattle.outcomes.specs.declared.Stored.{Stored}
use Rattle.outcomes.specs.declared.StoredRef.{StoredRef}
use Rattle.outcomes.proofs.Formed.{sound_held}

-- they are of one length, which the count is within
pub even : (kind : Kind) (m : Stored) (r : StoredRef) → of_ref r ≡ m → Sound kind m
    → (r.count ≤ length r.starts.now) × (length r.ends.now ≡ length r.starts.now) × (length r.values.now ≡ length r.starts.now)
even kind m r e s =
    let t : Sound kind (of_ref r) = subst (Sound kind) (sym e) s in
    (sound_held kind (of_ref r) t, t.ends_as, t.values_as)

-- the count is within each
pub within_each : (kind : Kind) (m : Stored) (r : StoredRef) → of_ref r ≡ m → Sound kind m
    → (r.count ≤ length r.starts.now) × (r.count ≤ length r.ends.now) × (r.count ≤ length r.values.now)
within_each kind m r e s = let t = even kind m r e s in omega (arith, t.0, t.1, t.2)
