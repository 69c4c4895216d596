use Prim.Native.Nat.{min, max}
use native.Mathlib.Omega.{arith}
use mathlib.Core.Path.{◌≡◌, ap, ◌∙◌}
use Rattle.key.specs.Rank.{rank}
use Rattle.key.proofs.Laws.{rank_back}
use Rattle.duty.proofs.Keys.{rank_max, rank_min}
use Rattle.duty.proofs.shared.Goals as goal

pub seconds-requires : goal.seconds-requires
seconds-requires c =
    let a = c.args in
    let from_is : rank c.max.result ≡ max (rank a.first) (rank a.window.start) = ap rank c.max.ensures.value ∙ rank_max _ _ in
    let to_is : rank c.min.result ≡ min (rank a.last) (rank a.window.end) = ap rank c.min.ensures.value ∙ rank_min _ _ in
    let p = c.requires in
    simp rank_back (omega (arith, from_is, to_is, p.0, p.1))

pub returns : goal.returns
returns c =
    let a = c.args in
    let from_is : rank c.max.result ≡ max (rank a.first) (rank a.window.start) = ap rank c.max.ensures.value ∙ rank_max _ _ in
    let to_is : rank c.min.result ≡ min (rank a.last) (rank a.window.end) = ap rank c.min.ensures.value ∙ rank_min _ _ in
    omega (arith, simp rank_back at c.seconds.ensures, from_is, to_is)
