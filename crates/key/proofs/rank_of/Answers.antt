use native.Mathlib.Omega.{arith}
use lib.IntN.{pos}
use mir.Syntax.{w64}
use mir.Val.{SFits, of_z}
use mir.Facts.{to_z-of_z}
use Rattle.key.specs.Rank.{rank}
use Rattle.key.proofs.Laws.{rank_negative, rank_natural, rank_below}
use Rattle.key.proofs.rank_of.Goals as goal

-- a negative key's rank is an i64
small : (c : goal.Then-a-lt0) → SFits w64 (pos (rank c.args.a))
small c = record { sfits = (rank_negative (of_z w64 c.args.a) c.if-a-lt0.true).1 }

pub overflow_sub-result : goal.overflow_sub-result
overflow_sub-result c = rw (rank_negative (of_z w64 c.args.a) c.if-a-lt0.true).0 (small c)

pub overflow_cast-result : goal.overflow_cast-result
overflow_cast-result c = rw ((rank_negative (of_z w64 c.args.a) c.if-a-lt0.true).0, to_z-of_z (small c)) (tt, record { fits = rank_below (of_z w64 c.args.a) })

pub returns-then-a-lt0 : goal.returns-then-a-lt0
returns-then-a-lt0 c = rw ((rank_negative (of_z w64 c.args.a) c.if-a-lt0.true).0, to_z-of_z (small c))

pub overflow_cast-result-2 : goal.overflow_cast-result-2
overflow_cast-result-2 c =
    let n = of_z w64 c.args.a in
    let r = rank_natural n c.if-a-lt0.false in
    (r.0, record { fits = omega (arith, r.1, rank_below n) })

pub overflow_add-result : goal.overflow_add-result
overflow_add-result c =
    let n = of_z w64 c.args.a in
    record { fits = omega (arith, (rank_natural n c.if-a-lt0.false).1, rank_below n) }

pub returns : goal.returns
returns c = (rank_natural (of_z w64 c.args.a) c.if-a-lt0.false).1
