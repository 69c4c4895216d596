use native.Mathlib.Omega.{arith}
use mir.Facts.{to_z-of_z}
use Rattle.key.proofs.Lawful.{lawful}
use Rattle.key.proofs.Answers.{not_full}
use Rattle.outcomes.proofs.Formed.{good}
use Rattle.store.proofs.Seeking.{searched}
use Rattle.lookup.proofs.Returns.{part_empty, part_none, part_some}
use Rattle.lookup.proofs.overlapping.Goals as goal

pub returns-then-not-full : goal.returns-then-not-full
returns-then-not-full c =
    let query = rw (to_z-of_z c.ranges.start, to_z-of_z c.ranges.end) at c.full.ensures in
    part_empty c.requires c.args.start c.args.end (not_full query c.if-not-full.true)

pub reaching-first-requires : goal.reaching-first-requires
reaching-first-requires c = searched c.requires (lawful c.args.kind)

pub first_past-next-requires : goal.first_past-next-requires
first_past-next-requires c = omega (arith, (rw (to_z-of_z c.ranges.start) at c.reaching-first.ensures).within, (good c.requires).held)

pub returns-then-next-first : goal.returns-then-next-first
returns-then-next-first c =
    let a = c.args in
    let query = rw (to_z-of_z c.ranges.start, to_z-of_z c.ranges.end) at c.full.ensures in
    let reach = rw (to_z-of_z c.ranges.start) at c.reaching-first.ensures in
    let walked = rw (to_z-of_z c.ranges.end) at c.first_past-next.ensures in
    part_none c.requires a.start a.end (query.right c.if-not-full.false) reach walked (omega arith)

pub returns : goal.returns
returns c =
    let a = c.args in
    let query = rw (to_z-of_z c.ranges.start, to_z-of_z c.ranges.end) at c.full.ensures in
    let reach = rw (to_z-of_z c.ranges.start) at c.reaching-first.ensures in
    let walked = rw (to_z-of_z c.ranges.end) at c.first_past-next.ensures in
    part_some c.requires a.start a.end (query.right c.if-not-full.false) reach walked (omega arith)
