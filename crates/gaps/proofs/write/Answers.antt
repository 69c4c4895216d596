use Rattle.std.proofs.Common.{rules}
use native.Mathlib.Omega.{arith}
use lib.ListN.{get_or}
use lib.IntN.{pos}
use mir.Syntax.{w64}
use mir.Val.{SFits}
use mir.Facts.{to_z-of_z}
use Rattle.key.specs.Range.{kind_of}
use Rattle.key.proofs.Laws.{tests, rank_back, to_z_fit}
use Rattle.key.proofs.Lawful.{lawful}
use Rattle.key.proofs.Answers.{not_full}
use Rattle.gaps.proofs.Steps.{met_stop, going_first, followed, set_start, set_end, going_room, going_stop, going_last, going_on}
use Rattle.gaps.proofs.write.Goals as goal

pub loop-k-init : goal.loop-k-init
loop-k-init c = simp rank_back (going_first (kind_of c.args.kind) c.requires.places c.requires.outer_full)

pub put-requires : goal.put-requires
put-requires c =
    let a = c.args in
    let s : SFits w64 (get_or a.m.now.starts.now c.loop-k.k (pos 0)) = search rules in
    let e : SFits w64 a.outer.end = search rules in
    let begun = rw (to_z-of_z s, to_z-of_z e) at c.full.ensures in
    let room = met_stop (kind_of c.args.kind) c.requires.places c.loop-k.invariant.met (λ _. not_full begun c.if-not-full.true) in
    (omega arith, omega arith)

pub returns-then-not-full : goal.returns-then-not-full
returns-then-not-full c =
    let a = c.args in
    let l = c.loop-k in
    let s : SFits w64 (get_or a.m.now.starts.now l.k (pos 0)) = search rules in
    let e : SFits w64 a.outer.end = search rules in
    let begun = rw (to_z-of_z s, to_z-of_z e) at c.full.ensures in
    let starts = set_start l.out_starts l.at (to_z_fit l.cursor-bits) c.put.ensures.0 in
    let ends = set_end l.out_ends l.at (lawful a.kind) e (rw (to_z-of_z e) at c.put.ensures.1) in
    going_stop (kind_of c.args.kind) c.requires.places l.invariant (λ _. not_full begun c.if-not-full.true) starts ends

pub write_before-at-requires : goal.write_before-at-requires
write_before-at-requires c =
    let a = c.args in
    let s : SFits w64 (get_or a.m.now.starts.now c.loop-k.k (pos 0)) = search rules in
    let e : SFits w64 a.outer.end = search rules in
    let begun = rw (to_z-of_z s, to_z-of_z e) at c.full.ensures in
    let room = going_room (kind_of c.args.kind) c.requires.places c.loop-k.invariant (omega arith) (begun.right c.if-not-full.false) in
    rw (to_z-of_z s) (omega arith)

pub returns-then-end-last : goal.returns-then-end-last
returns-then-end-last c =
    let a = c.args in
    let s : SFits w64 (get_or a.m.now.starts.now c.loop-k.k (pos 0)) = search rules in
    let e : SFits w64 a.outer.end = search rules in
    let begun = rw (to_z-of_z s, to_z-of_z e) at c.full.ensures in
    let w = rw (to_z-of_z s) at c.write_before-at.ensures in
    let reach = (lawful a.kind).no_later a.outer.end (get_or a.m.now.ends.now c.loop-k.k (pos 0)) (omega (arith, tests)) in
    going_last (kind_of c.args.kind) c.requires.places c.loop-k.invariant c.loop-k-test.true (begun.right c.if-not-full.false) w reach

pub after-cursor-requires : goal.after-cursor-requires
after-cursor-requires c =
    let a = c.args in
    let f : SFits w64 (get_or a.m.now.ends.now c.loop-k.k (pos 0)) = search rules in
    rw (to_z-of_z f) (followed (lawful a.kind) a.outer.end _ (omega (arith, tests)))

pub loop-k-preserved : goal.loop-k-preserved
loop-k-preserved c =
    let a = c.args in
    let s : SFits w64 (get_or a.m.now.starts.now c.loop-k.k (pos 0)) = search rules in
    let e : SFits w64 a.outer.end = search rules in
    let last = get_or a.m.now.ends.now c.loop-k.k (pos 0) in
    let f : SFits w64 (get_or a.m.now.ends.now c.loop-k.k (pos 0)) = search rules in
    let begun = rw (to_z-of_z s, to_z-of_z e) at c.full.ensures in
    let w = rw (to_z-of_z s) at c.write_before-at.ensures in
    let past = rw (to_z-of_z f) at c.after-cursor.ensures in
    let short = (lawful a.kind).later last a.outer.end (omega (arith, tests)) in
    simp rank_back (going_on (kind_of c.args.kind) c.requires.places c.loop-k.invariant c.loop-k-test.true (begun.right c.if-not-full.false) w past short)

pub put-requires-2 : goal.put-requires-2
put-requires-2 c =
    let room = met_stop (kind_of c.args.kind) c.requires.places c.loop-k.invariant.met (λ b. absurd (omega arith)) in
    (omega arith, omega arith)

pub returns : goal.returns
returns c =
    let a = c.args in
    let l = c.loop-k in
    let e : SFits w64 a.outer.end = search rules in
    let starts = set_start l.out_starts l.at (to_z_fit l.cursor-bits) c.put-2.ensures.0 in
    let ends = set_end l.out_ends l.at (lawful a.kind) e (rw (to_z-of_z e) at c.put-2.ensures.1) in
    going_stop (kind_of c.args.kind) c.requires.places l.invariant (λ b. absurd (omega arith)) starts ends
