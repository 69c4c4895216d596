use native.Mathlib.Omega.{arith}
use mathlib.Core.Path.{◌≡◌, refl, ◌∙◌}
use mir.Facts.{to_z-of_z}
use borrow.Author.Tests.{lt-ltb, le-ltb}
use Rattle.key.specs.Rank.{rank}
use Rattle.key.proofs.Laws.{tests}
use Rattle.key.specs.Range.{half_open}
use Rattle.range_list.proofs.Answering.{answers_short, answers_done, enough}
use Rattle.outcomes.specs.Lent.{of_ref}
use Rattle.query_text.specs.Reader.{query_of}
use Rattle.query_text.proofs.Parts.{as_bad}
use Rattle.query.specs.Answers.{result_of, query_ranges_sound}
use Rattle.query.proofs.Glue.{table_read, list_table, result_comes, sound_few}
use Rattle.query.proofs.ranges.query_unchecked.Goals as goal

pub returns-then-start-end : goal.returns-then-start-end
unfolding query_ranges_sound
returns-then-start-end c =
    rw (le-ltb (rank c.args.start) (rank c.args.end) (omega (arith, tests))) refl

pub returns-in_default : goal.returns-in_default
unfolding query_ranges_sound
returns-in_default c =
    let a = c.args in
    let e = as_bad a.bytes.now 0 (query_of a.bytes.now) c.in_default.is c.read_query.ensures in
    rw (lt-ltb (rank a.start) (rank a.end) (omega (arith, tests)), e) refl

pub fits-requires : goal.fits-requires
fits-requires c =
    let a = c.args in
    let f = table_read a.bytes.now a.start a.end (omega (arith, tests, c.if-start-end.false)) c.in-Got.is c.read_query.ensures in
    let at_start : c.walk_at-w.result.key ≡ a.start = c.walk_at-w.ensures.0 ∙ to_z-of_z c.ranges.start in
    rw (to_z-of_z c.ranges.end) (
      c.walk_at-w.ensures.1 _ _,
      rw at_start (omega (arith, f.real)),
      rw at_start
          (record {
            list = result_of (of_ref a.a.now) (of_ref a.b.now) a.start a.end f.query;
            to_come = result_comes f (of_ref a.a.now) (of_ref a.b.now) c.requires.0 c.requires.1;
            few = sound_few f (of_ref a.a.now) (of_ref a.b.now) c.requires.0 c.requires.1;
          }),
    )

pub returns-then-not-fits : goal.returns-then-not-fits
returns-then-not-fits c =
    let a = c.args in
    let f = table_read a.bytes.now a.start a.end (omega (arith, tests, c.if-start-end.false)) c.in-Got.is c.read_query.ensures in
    let at_start : c.walk_at-w.result.key ≡ a.start = c.walk_at-w.ensures.0 ∙ to_z-of_z c.ranges.start in
    let m = rw (at_start, to_z-of_z c.ranges.end) at c.fits.ensures in
    let zs = result_of (of_ref a.a.now) (of_ref a.b.now) a.start a.end f.query in
    answers_short half_open zs a.out_starts.now a.out_ends.now c.shorter-room.ensures
    ((m zs (result_comes f (of_ref a.a.now) (of_ref a.b.now) c.requires.0 c.requires.1)).wrong c.if-not-fits.true)
    ∙ list_table (of_ref a.a.now) (of_ref a.b.now) a.start a.end a.bytes.now f a.out_starts.now a.out_ends.now

pub write-requires : goal.write-requires
write-requires c =
    let a = c.args in
    let f = table_read a.bytes.now a.start a.end (omega (arith, tests, c.if-start-end.false)) c.in-Got.is c.read_query.ensures in
    let at_start : c.walk_at-w.result.key ≡ a.start = c.walk_at-w.ensures.0 ∙ to_z-of_z c.ranges.start in
    let m = rw (at_start, to_z-of_z c.ranges.end) at c.fits.ensures in
    let zs = result_of (of_ref a.a.now) (of_ref a.b.now) a.start a.end f.query in
    let to_come = result_comes f (of_ref a.a.now) (of_ref a.b.now) c.requires.0 c.requires.1 in
    rw (to_z-of_z c.ranges.end) (
      c.walk_at-w.ensures.1 _ _,
      rw at_start (omega (arith, f.real)),
      rw at_start
          (record {
            list = zs;
            to_come = to_come;
            room = enough half_open zs a.out_starts.now a.out_ends.now c.shorter-room.ensures ((m zs to_come).right c.if-not-fits.false);
          }),
    )

pub returns : goal.returns
returns c =
    let a = c.args in
    let f = table_read a.bytes.now a.start a.end (omega (arith, tests, c.if-start-end.false)) c.in-Got.is c.read_query.ensures in
    let at_start : c.walk_at-w.result.key ≡ a.start = c.walk_at-w.ensures.0 ∙ to_z-of_z c.ranges.start in
    let m = rw (at_start, to_z-of_z c.ranges.end) at c.fits.ensures in
    let v = rw (at_start, to_z-of_z c.ranges.end) at c.write.ensures in
    let zs = result_of (of_ref a.a.now) (of_ref a.b.now) a.start a.end f.query in
    let to_come = result_comes f (of_ref a.a.now) (of_ref a.b.now) c.requires.0 c.requires.1 in
    answers_done half_open zs a.out_starts.now a.out_ends.now c.shorter-room.ensures
    ((m zs to_come).right c.if-not-fits.false) (omega (arith, v.upto zs to_come), v.puts zs to_come)
    ∙ list_table (of_ref a.a.now) (of_ref a.b.now) a.start a.end a.bytes.now f a.out_starts.now a.out_ends.now
