use Rattle.std.proofs.Common.{rules}
use native.Mathlib.Omega.{arith}
use lib.ListN.{get_or}
use lib.IntN.{pos}
use mir.Syntax.{w64}
use mir.Val.{SFits}
use mir.Facts.{to_z-of_z}
use Rattle.key.specs.Range.{kind_of}
use Rattle.key.proofs.Laws.{tests, rank_back}
use Rattle.key.proofs.Lawful.{lawful}
use Rattle.key.proofs.Answers.{not_full}
use Rattle.gaps.proofs.Walk.{one_gap}
use Rattle.gaps.proofs.Steps.{met_first, met_stop, met_last, met_on, followed}
use Rattle.gaps.proofs.counted.Goals as goal

pub loop-k-init : goal.loop-k-init
loop-k-init c = simp rank_back (met_first (kind_of c.args.kind) c.requires.places c.requires.outer_full)

pub returns-then-not-full : goal.returns-then-not-full
returns-then-not-full c =
    let a = c.args in
    let s : SFits w64 (get_or a.m.now.starts.now c.loop-k.k (pos 0)) = search rules in
    let e : SFits w64 a.outer.end = search rules in
    let begun = rw (to_z-of_z s, to_z-of_z e) at c.full.ensures in
    met_stop (kind_of c.args.kind) c.requires.places c.loop-k.invariant (λ _. not_full begun c.if-not-full.true)

pub overflow_add-n : goal.overflow_add-n
overflow_add-n c = let one = one_gap _ _ c.between-n.ensures in omega arith

pub returns-then-end-stop : goal.returns-then-end-stop
returns-then-end-stop c =
    let a = c.args in
    let s : SFits w64 (get_or a.m.now.starts.now c.loop-k.k (pos 0)) = search rules in
    let e : SFits w64 a.outer.end = search rules in
    let begun = rw (to_z-of_z s, to_z-of_z e) at c.full.ensures in
    let more = rw (to_z-of_z s) at c.between-n.ensures in
    let reach = (lawful a.kind).no_later a.outer.end (get_or a.m.now.ends.now c.loop-k.k (pos 0)) (omega (arith, tests)) in
    met_last (kind_of c.args.kind) c.requires.places c.loop-k.invariant (omega arith) more (begun.right c.if-not-full.false) reach

pub after-cursor-requires : goal.after-cursor-requires
after-cursor-requires c =
    let f : SFits w64 (get_or c.args.m.now.ends.now c.loop-k.k (pos 0)) = search rules in
    rw (to_z-of_z f) (followed (lawful c.args.kind) c.args.outer.end _ (omega (arith, tests)))

pub loop-k-preserved : goal.loop-k-preserved
loop-k-preserved c =
    let a = c.args in
    let s : SFits w64 (get_or a.m.now.starts.now c.loop-k.k (pos 0)) = search rules in
    let e : SFits w64 a.outer.end = search rules in
    let begun = rw (to_z-of_z s, to_z-of_z e) at c.full.ensures in
    let more = rw (to_z-of_z s) at c.between-n.ensures in
    let f : SFits w64 (get_or a.m.now.ends.now c.loop-k.k (pos 0)) = search rules in
    let past = rw (to_z-of_z f) at c.after-cursor.ensures in
    let short = (lawful a.kind).later (get_or a.m.now.ends.now c.loop-k.k (pos 0)) a.outer.end (omega (arith, tests)) in
    simp rank_back (met_on (kind_of c.args.kind) c.requires.places c.loop-k.invariant (omega arith) more (begun.right c.if-not-full.false) past short)

pub returns : goal.returns
returns c = met_stop (kind_of c.args.kind) c.requires.places c.loop-k.invariant (λ b. absurd (omega arith))
