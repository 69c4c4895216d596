use native.Mathlib.Omega.{arith}
use mathlib.Core.Path.{refl}
use Rattle.key.proofs.Laws.{rank_back}
use Rattle.key.specs.Range.{kind_of}
use Rattle.two_sets.proofs.Writing.{first_room, first_written, none_written}
use Rattle.two_sets.proofs.Columns.{one_goes}
use Rattle.intersection.proofs.Steps.{found_all, found_none, found_no, first_found, none_found}
use Rattle.intersection.proofs.write.Goals as goal

pub loop-i-init : goal.loop-i-init
loop-i-init c = (omega arith, omega arith, refl, refl, found_all c.args.kind c.requires.0 c.requires.1)

pub write_from-requires : goal.write_from-requires
write_from-requires c =
    let l = c.loop-i in
    let p = c.requires in
    let one = one_goes c.step-s.result.left in
    let opened = first_found c.args.kind p.0 p.1 c.loop-i-test.true c.if-j-b.true c.step-s.ensures c.if-s.true l.invariant.4 in
    record {
      side_a = p.0;
      side_b = p.1;
      in_a = omega (arith, one);
      in_b = omega (arith, one);
      room = simp rank_back (first_room (kind_of c.args.kind) l.invariant.2 l.invariant.3 opened p.2);
    }

pub returns-then-s : goal.returns-then-s
returns-then-s c =
    let l = c.loop-i in
    let p = c.requires in
    let opened = first_found c.args.kind p.0 p.1 c.loop-i-test.true c.if-j-b.true c.step-s.ensures c.if-s.true l.invariant.4 in
    first_written (kind_of c.args.kind) l.invariant.2 l.invariant.3 opened (simp rank_back at c.write_from.ensures)

pub loop-i-preserved : goal.loop-i-preserved
loop-i-preserved c =
    let l = c.loop-i in
    let p = c.requires in
    let one = one_goes c.step-s.result.left in (
      omega (arith, one),
      omega (arith, one),
      l.invariant.2,
      l.invariant.3,
      none_found c.args.kind p.0 p.1 c.loop-i-test.true c.if-j-b.true c.step-s.ensures c.if-s.false l.invariant.4,
    )

pub returns-else-j-b : goal.returns-else-j-b
returns-else-j-b c =
    let l = c.loop-i in
    let p = c.requires in
    none_written (kind_of c.args.kind) l.invariant.2 l.invariant.3 l.invariant.4
    (found_no c.args.kind p.0 p.1 l.i l.j c.if-j-b.false)

pub returns-after-loop-i : goal.returns-after-loop-i
returns-after-loop-i c =
    let l = c.loop-i in
    let p = c.requires in
    none_written (kind_of c.args.kind) l.invariant.2 l.invariant.3 l.invariant.4
    (found_none c.args.kind p.0 p.1 l.i l.j c.loop-i-test.false)
