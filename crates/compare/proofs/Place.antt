-- One range of each map: the order of its keys and its value is that of the spans.
use Prim.Native.Nat.{ℕ, Ordering}
use native.Mathlib.Omega.{arith}
use native.Mathlib.Decide.{dec_lt}
use mathlib.Core.Path.{◌≡◌, refl}
use mathlib.Core.Bool.{Bool, true, false, cond}
use mathlib.Core.List.{[], ◌∷◌}
use borrow.Author.Tests.{lt-ltb, le-ltb, eq-eqb, ne_eqb}
use lib.Dec.{ltb}
use mir.Syntax.{w64}
use mir.Val.{to_z}
use Rattle.span.specs.Span.{span}
use Rattle.span.specs.Operations.{flat, lex, span_order}
use Rattle.key.specs.Rank.{bit_rank}
use Rattle.key.proofs.Laws.{to_z_fit, rank_back, lt_z_rank}
use Rattle.outcomes.specs.Outcomes.{compared_by}
use Rattle.std.specs.Prelude.{Ok}
use Rattle.std.specs.Ordering.{nat_cmp, int_cmp, ordering_then}
use Rattle.std.specs.declared.cmp.Ordering.TheVariants.{Less, Equal, Greater}

-- each order by two tests, as the definition has it
keys_order : (m n : ℕ) → int_cmp (to_z w64 m) (to_z w64 n) ≡ cond (ltb (bit_rank m) (bit_rank n)) Less (cond (ltb (bit_rank n) (bit_rank m)) Greater Equal)
keys_order m n =
    let a = rw (rank_back m, rank_back n) at (lt_z_rank (to_z w64 m) (to_z w64 n) (to_z_fit m) (to_z_fit n)) in
    let b = rw (rank_back n, rank_back m) at (lt_z_rank (to_z w64 n) (to_z w64 m) (to_z_fit n) (to_z_fit m)) in
    rw (a, b)

values_order : (m n : ℕ) → nat_cmp m n ≡ cond (ltb m n) Less (cond (ltb n m) Greater Equal)
values_order m n = elim (dec_lt m n) [
  | yes h ↦ rw (lt-ltb m n h)
  | no h ↦ elim (dec_lt n m) [ yes i ↦ rw (le-ltb m n (omega arith), lt-ltb n m i, ne_eqb m n (λ e. omega arith)) | no i ↦ rw (le-ltb m n (omega arith), le-ltb n m (omega arith), eq-eqb m n (omega arith)) ]
]

-- the first that decides, of the starts, the ends and the values
in_turn : (s s' e e' v v' : Bool)
    → Ok (ordering_then (ordering_then (cond s Less (cond s' Greater Equal)) (cond e Less (cond e' Greater Equal))) (cond v Less (cond v' Greater Equal)))
    ≡ compared_by (cond s Ordering.lt (cond s' Ordering.gt (cond e Ordering.lt (cond e' Ordering.gt (cond v Ordering.lt (cond v' Ordering.gt Ordering.eq))))))
in_turn true s' e e' v v' = refl
in_turn false true e e' v v' = refl
in_turn false false true e' v v' = refl
in_turn false false false true v v' = refl
in_turn false false false false true v' = refl
in_turn false false false false false true = refl
in_turn false false false false false false = refl

pub one_order : (s s' e e' v v' : ℕ)
    → Ok (ordering_then (ordering_then (int_cmp (to_z w64 s) (to_z w64 s')) (int_cmp (to_z w64 e) (to_z w64 e'))) (nat_cmp v v'))
    ≡ compared_by (span_order (span (bit_rank s) (bit_rank e) v ∷ []) (span (bit_rank s') (bit_rank e') v' ∷ []))
unfolding span_order flat lex
one_order s s' e e' v v' = rw (keys_order s s', keys_order e e', values_order v v') (in_turn _ _ _ _ _ _)
