use Prim.Native.Nat.{◌≤◌}
use lib.ListN.{length}
use Rattle.key.specs.Range.{kind_of}
use Rattle.outcomes.specs.Lent.{of_ref}
use Rattle.range_list.proofs.Answering.{answers_short, enough, answers_done}
use Rattle.two_sets.proofs.Doors.{side}
use Rattle.two_sets.proofs.Writing.{from_first}
use Rattle.operations.specs.InnerOperation.{found_by}
use Rattle.operations.proofs.Doors.{answered}
use Rattle.operations.proofs.combine_of.Goals as goal

pub fits-requires : goal.fits-requires
fits-requires c = (side (kind_of c.args.kind) c.requires.0, side (kind_of c.args.kind) c.requires.1)

pub returns-then-not-fits : goal.returns-then-not-fits
returns-then-not-fits c =
    let a = c.args in
    answered a.operation a.kind c.requires.0 c.requires.1 a.out_starts.now a.out_ends.now
    (answers_short (kind_of a.kind) _ a.out_starts.now a.out_ends.now c.min-room.ensures
    (c.fits.ensures.wrong c.if-not-fits.true))

pub write-requires : goal.write-requires
write-requires c =
    let a = c.args in
    let room : length (found_by a.operation a.kind (of_ref a.a.now) (of_ref a.b.now)) ≤ c.min-room.result =
    c.fits.ensures.right c.if-not-fits.false in (
      side (kind_of a.kind) c.requires.0,
      side (kind_of a.kind) c.requires.1,
      enough (kind_of a.kind) _ a.out_starts.now a.out_ends.now c.min-room.ensures room,
    )

pub returns : goal.returns
returns c =
    let a = c.args in
    let room : length (found_by a.operation a.kind (of_ref a.a.now) (of_ref a.b.now)) ≤ c.min-room.result =
    c.fits.ensures.right c.if-not-fits.false in
    answered a.operation a.kind c.requires.0 c.requires.1 a.out_starts.now a.out_ends.now
    (answers_done (kind_of a.kind) _ a.out_starts.now a.out_ends.now c.min-room.ensures room
    (from_first c.write.ensures))
