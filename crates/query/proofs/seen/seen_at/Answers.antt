use native.Mathlib.Omega.{arith}
use native.Mathlib.Nat.{le_refl}
use mathlib.Core.Path.{ap, ◌∙◌}
use Rattle.key.specs.Rank.{rank}
use Rattle.key.proofs.Laws.{tests, rank_back, rank_lesser}
use Rattle.outcomes.specs.Lent.{of_ref}
use Rattle.query.proofs.Looks.{look_none, look_before, look_in, not_gone}
use Rattle.query.proofs.seen.seen_at.Goals as goal

pub returns-then-place-m : goal.returns-then-place-m
returns-then-place-m c =
    let s = c.args in
    simp rank_back (look_none (of_ref s.m.now) c.requires.0 s.place (rank s.key) c.requires.1 (rank s.end) (rank s.end) c.if-place-m.true c.requires.2 (le_refl (rank s.end)))

pub returns-then-key-start : goal.returns-then-key-start
returns-then-key-start c =
    let s = c.args in
    let e = simp rank_back at (ap rank c.min.ensures ∙ rank_lesser _ _) in
    simp rank_back
    (look_before (of_ref s.m.now) c.requires.0 s.place (rank s.key) c.requires.1 (rank s.end) (rank c.min.result) c.if-place-m.false
    (omega (arith, tests, c.requires.2)) (omega arith) (omega arith))

pub returns : goal.returns
returns c =
    let s = c.args in
    let m = of_ref s.m.now in
    let e = simp rank_back at (ap rank c.min-2.ensures ∙ rank_lesser _ _) in
    let g = not_gone m c.requires.0 s.place (rank s.key) c.requires.1 c.if-place-m.false in
    simp rank_back
    (look_in m c.requires.0 s.place (rank s.key) c.requires.1 (rank s.end) (rank c.min-2.result) c.class_of.result
    c.if-place-m.false (omega (arith, tests)) (omega (arith, c.requires.2)) (omega arith) (omega arith) c.class_of.ensures)
