-- Any sequence of rangemap's inserts and removes, and extend.
use Prim.Native.Nat.{ℕ, ◌<◌}
use mathlib.Core.Path.{◌≡◌, refl}
use mathlib.Core.List.{List, [], ◌∷◌}
use mathlib.Core.Option.{Option, some, none}
use Rattle.span.specs.Span.{Span, Tidy, Edit, given, history, Real}
use Rattle.span.specs.Operations.{puts}
use Rattle.span.proofs.Laws.{tidy_given}
use Rattle.rust_algorithm.specs.Map.{map_insert, map_edit, map_history, map_extend}
use Rattle.rust_algorithm.proofs.Entries.{after_both}
use Rattle.rust_algorithm.proofs.Insert.{insert_is}
use Rattle.rust_algorithm.proofs.Remove.{remove_is}

pub edit_is : (lo hi : ℕ) (new : Option ℕ) (m : List Span) → lo < hi → Tidy 0 m → map_edit lo hi new m ≡ some (given lo hi new m)
unfolding map_edit
edit_is lo hi none m h t = remove_is lo hi m h t
edit_is lo hi (some v) m h t = insert_is lo hi v m h t

-- HISTORY: the calls in order leave what `history` says. From the empty map: each instant holds the last label given it, by `history_means`
pub history_is : (es : List Edit) (m : List Span) → Real es → Tidy 0 m → map_history es m ≡ some (history es m)
unfolding map_history history
history_is [] m r t = refl
history_is (e ∷ es) m r t =
    rw (edit_is e.lo e.hi e.new m r.0 t) (history_is es _ r.1 (tidy_given e.lo e.hi e.new m r.0 t.ordered))

-- EXTEND is a sequence of inserts
pub extend_history : (xs m : List Span) → map_extend xs m ≡ map_history (puts xs) m
unfolding map_extend map_history map_edit puts
extend_history [] m = refl
extend_history (x ∷ xs) m = after_both (map_insert x.lo x.hi x.label m) (map_extend xs) (map_history (puts xs)) (extend_history xs)
