use native.Mathlib.Omega.{arith}
use mir.Facts.{to_z-of_z}
use Rattle.key.proofs.Lawful.{lawful}
use Rattle.key.proofs.Laws.{tests}
use Rattle.outcomes.proofs.Formed.{good}
use Rattle.store.proofs.Seeking.{searched}
use Rattle.lookup.proofs.Returns.{place_found, place_none}
use Rattle.lookup.proofs.place_of.Goals as goal
use Rattle.lookup.proofs.place_of.Goals.{else-place-m-via-then-place-m+else-m-place, else-place-m-via-else-place-m}

pub reaching-place-requires : goal.reaching-place-requires
reaching-place-requires c = searched c.requires (lawful c.args.kind)

pub bounds-m-place : goal.bounds-m-place
bounds-m-place c = omega (arith, (good c.requires).held)

pub returns-then-m-place : goal.returns-then-m-place
returns-then-m-place c =
    let reach = rw (to_z-of_z c.ranges.key) at c.reaching-place.ensures in
    place_found c.requires reach (omega arith) (omega (arith, tests))

pub returns : goal.returns
returns c =
    let reach = rw (to_z-of_z c.ranges.key) at c.reaching-place.ensures in
    elim c.else-place-m.branch [
      | else-place-m-via-then-place-m+else-m-place w ↦ place_none c.requires reach (λ i. omega (arith, tests))
      | else-place-m-via-else-place-m w ↦ place_none c.requires reach (λ i. absurd (omega arith))
    ]
