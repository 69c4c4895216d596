use native.Mathlib.Omega.{arith}
use borrow.Author.Tests.{le-ltb}
use mir.Facts.{to_z-of_z}
use Rattle.key.proofs.Lawful.{lawful}
use Rattle.key.proofs.Laws.{rank_back}
use Rattle.key.proofs.Answers.{not_full}
use Rattle.outcomes.proofs.Formed.{good}
use Rattle.store.proofs.Seeking.{searched}
use Rattle.lookup.proofs.Returns.{met_empty, met_is, met_no}
use Rattle.lookup.proofs.overlaps.Goals as goal

pub returns-then-not-full : goal.returns-then-not-full
returns-then-not-full c =
    let query = rw (to_z-of_z c.ranges.start, to_z-of_z c.ranges.end) at c.full.ensures in
    met_empty c.requires c.args.start c.args.end (not_full query c.if-not-full.true)

pub reaching-place-requires : goal.reaching-place-requires
reaching-place-requires c = searched c.requires (lawful c.args.kind)

pub bounds-m-place : goal.bounds-m-place
bounds-m-place c = omega (arith, (good c.requires).held)

pub returns-then-place-m : goal.returns-then-place-m
returns-then-place-m c =
    let a = c.args in
    let query = rw (to_z-of_z c.ranges.start, to_z-of_z c.ranges.end) at c.full.ensures in
    let reach = rw (to_z-of_z c.ranges.start) at c.reaching-place.ensures in
    let begun = rw (rank_back, to_z-of_z c.ranges.end) at c.full-then-place-m.ensures in
    met_is c.requires a.start a.end (query.right c.if-not-full.false) reach c.if-place-m.true _ begun

pub returns-else-place-m : goal.returns-else-place-m
returns-else-place-m c =
    let a = c.args in
    let query = rw (to_z-of_z c.ranges.start, to_z-of_z c.ranges.end) at c.full.ensures in
    let reach = rw (to_z-of_z c.ranges.start) at c.reaching-place.ensures in
    rw (le-ltb c.reaching-place.result a.m.now.count (omega arith)) (met_no c.requires a.start a.end (query.right c.if-not-full.false) reach (λ i. absurd (omega arith)))
