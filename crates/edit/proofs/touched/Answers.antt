use native.Mathlib.Omega.{arith}
use lib.ListN.{get_or}
use lib.IntN.{pos}
use mir.Facts.{to_z-of_z}
use borrow.Author.Rules.{rules}
use mir.Syntax.{w64}
use mir.Val.{SFits}
use Rattle.key.specs.Rank.{rank}
use Rattle.key.specs.Range.{Kind, kind_of}
use Rattle.key.proofs.Laws.{rank_back}
use Rattle.key.proofs.Lawful.{lawful, inclusive_too}
use Rattle.outcomes.specs.declared.Stored.{Stored}
use Rattle.outcomes.proofs.Formed.{good}
use Rattle.store.proofs.Seeking.{searched, reached_after}
use Rattle.edit.proofs.Places.{touching}
use Rattle.edit.proofs.touched.Goals as goal

pub reaching-from-requires : goal.reaching-from-requires
reaching-from-requires c = searched c.requires.0 (lawful c.args.kind)

pub first_past-to-requires : goal.first_past-to-requires
first_past-to-requires c = (c.reaching-from.ensures.within, (good c.requires.0).held)

pub returns : goal.returns
returns c =
    let g = c.args in
    let m : Stored = g.m.now in
    let kind : Kind = kind_of g.kind in
    let law = lawful g.kind in
    let fs : SFits w64 c.args.change.start = search rules in
    let fe : SFits w64 c.args.change.end = search rules in
    let least = rw (to_z-of_z fs) at c.least_end-below.ensures in
    let greatest = rw (to_z-of_z fe) at c.greatest_start-above.ensures in
    let from = c.reaching-from.ensures in
    let to = c.first_past-to.ensures in
    let more = reached_after inclusive_too (searched c.requires.0 law).1 from in
    rw (to_z-of_z least.fits, to_z-of_z greatest.fits) (record {
      touching = touching kind law m c.requires.0 (rank g.change.start) (kind.past g.change.end) _ _ (omega arith) to.from to.within
          (λ k h. least.short (get_or g.m.now.ends k (pos 0)) (omega (arith, simp rank_back at (from.below k h))))
          (λ k h b. least.reaches (get_or g.m.now.ends k (pos 0)) (omega (arith, simp rank_back at (more k h b))))
          (λ k h b. greatest.begins (get_or g.m.now.starts k (pos 0)) (omega (arith, simp rank_back at (to.before k b h))))
          (λ h. greatest.off (get_or g.m.now.starts c.first_past-to.result (pos 0)) (omega (arith, simp rank_back at (to.at h))));
      below_fits = least.fits;
      above_fits = greatest.fits;
      cuts_below = least.cuts;
      cuts_above = greatest.cuts;
    })
