use native.Mathlib.Omega.{arith}
use mir.Facts.{to_z-of_z}
use Rattle.key.specs.Range.{kind_of}
use Rattle.key.proofs.Lawful.{lawful}
use Rattle.key.proofs.Answers.{not_full}
use Rattle.store.proofs.Seeking.{searched}
use Rattle.gaps.proofs.Doors.{places, answers_empty, answers_short, answers_done}
use Rattle.gaps.proofs.gaps.Goals as goal

pub returns-then-not-full : goal.returns-then-not-full
returns-then-not-full c =
    let a = c.args in
    let outer = rw (to_z-of_z c.ranges.start, to_z-of_z c.ranges.end) at c.full.ensures in
    answers_empty (kind_of a.kind) _ a.start a.end _ _ (not_full outer c.if-not-full.true)

pub reaching-from-requires : goal.reaching-from-requires
reaching-from-requires c = searched c.requires (lawful c.args.kind)

pub fits-requires-clause-places : goal.fits-requires-clause-places
fits-requires-clause-places c =
    let first = rw (to_z-of_z c.ranges.start) at c.reaching-from.ensures in
    places (kind_of c.args.kind) c.requires first

pub returns-then-not-fits : goal.returns-then-not-fits
returns-then-not-fits c =
    let a = c.args in
    let outer = rw (to_z-of_z c.ranges.start, to_z-of_z c.ranges.end) at c.full.ensures in
    let real = outer.right c.if-not-full.false in
    let first = rw (to_z-of_z c.ranges.start) at c.reaching-from.ensures in
    let fit = rw (to_z-of_z c.ranges.start, to_z-of_z c.ranges.end) at c.fits.ensures in
    answers_short (kind_of a.kind) c.requires a.start a.end first real a.out_starts.now a.out_ends.now c.min-room.ensures (fit.wrong c.if-not-fits.true)

pub write-requires-clause-places : goal.write-requires-clause-places
write-requires-clause-places c =
    let first = rw (to_z-of_z c.ranges.start) at c.reaching-from.ensures in
    places (kind_of c.args.kind) c.requires first

pub write-requires-clause-room : goal.write-requires-clause-room
write-requires-clause-room c = let room = c.fits.ensures.right c.if-not-fits.false in record { starts = omega arith; ends = omega arith }

pub returns : goal.returns
returns c =
    let a = c.args in
    let outer = rw (to_z-of_z c.ranges.start, to_z-of_z c.ranges.end) at c.full.ensures in
    let real = outer.right c.if-not-full.false in
    let first = rw (to_z-of_z c.ranges.start) at c.reaching-from.ensures in
    let fit = rw (to_z-of_z c.ranges.start, to_z-of_z c.ranges.end) at c.fits.ensures in
    let room = fit.right c.if-not-fits.false in
    answers_done (kind_of a.kind) c.requires a.start a.end first real a.out_starts.now a.out_ends.now
    c.min-room.ensures room (rw (to_z-of_z c.ranges.start, to_z-of_z c.ranges.end) at c.write.ensures)
