use Rattle.std.proofs.lemmas.Result.{err_from_is_err_and}
use Rattle.std.specs.Prelude.{Ok}
use borrow.Author.Rules.{sfits_of}
use mir.Facts.{to_z-of_z}
use native.Mathlib.Omega.{arith}
use mathlib.Core.Path.{ap, ◌∙◌}
use Rattle.key.proofs.Laws.{rank_back}
use Rattle.key.proofs.Lawful.{half_open_lawful}
use Rattle.outcomes.specs.Lent.{of_ref}
use Rattle.store.proofs.Seeking.{searched}
use Rattle.duty.proofs.Walking.{Found, found_strange, found_counted, counted_room, counted_is}
use Rattle.duty.proofs.between.Goals as goal

pub reaching-from-requires : goal.reaching-from-requires
reaching-from-requires c = searched c.requires.0 half_open_lawful

pub walk-requires : goal.walk-requires
walk-requires c =
    let p = c.requires in
    (p.0, rw (to_z-of_z (sfits_of c.struct_told-1.given.0.1)) at c.reaching-from.ensures, p.1, p.2)

pub seconds-requires : goal.seconds-requires
seconds-requires c = let p = c.requires in simp rank_back (omega (arith, p.1), p.2)

pub returns-in_err-t : goal.returns-in_err-t
returns-in_err-t c =
    let p = err_from_is_err_and c.from_residual.result c.from_residual.ensures.1 in
    rw (p.1, p.2) (found_strange _ _ _ (rw c.walk.ensures at c.in_err-t.ensures.value))

pub completed-requires : goal.completed-requires
completed-requires c =
    let a = c.args in
    let found : Found (of_ref a.m.now) a.window.start a.window.end c.in_ok-t.t =
    found_counted _ _ _ (rw c.walk.ensures at c.in_ok-t.ensures.value) in
    let p = c.requires in
    rw (simp rank_back at c.seconds.ensures) (counted_room _ _ _ p.0 p.1 found)

pub returns : goal.returns
returns c =
    let a = c.args in
    let found : Found (of_ref a.m.now) a.window.start a.window.end c.in_ok-t.t =
    found_counted _ _ _ (rw c.walk.ensures at c.in_ok-t.ensures.value) in
    let p = c.requires in
    let n = simp rank_back at c.seconds.ensures in
    ap Ok (rw n at c.completed.ensures) ∙ counted_is _ _ _ p.0 p.1 found
