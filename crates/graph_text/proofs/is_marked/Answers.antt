use Prim.Native.Nat.{ℕ}
use native.Mathlib.Omega.{arith}
use mathlib.Core.Path.{◌≡◌, sym, ◌∙◌}
use Rattle.key.proofs.Laws.{rank_back}
use Rattle.graph_text.proofs.Quarters.{quarter_totals, marked_is}
use Rattle.graph_text.proofs.is_marked.Goals as goal

pub returns-in-Ok : goal.returns-in-Ok
returns-in-Ok c =
    let p = rank_back _ ∙ simp rank_back at c.quarter_start.ensures in
    let q = rank_back _ ∙ simp rank_back at c.quarter_start-2.ensures in
    let e = sym c.in-Ok.is ∙ c.between.ensures ∙ quarter_totals _ _ c.requires.0 p q in
    marked_is _ _ _ _ e c.seconds_of.ensures

pub returns-in-Err : goal.returns-in-Err
returns-in-Err c =
    let p = rank_back _ ∙ simp rank_back at c.quarter_start.ensures in
    let q = rank_back _ ∙ simp rank_back at c.quarter_start-2.ensures in
    let e = sym c.in-Err.is ∙ c.between.ensures ∙ quarter_totals _ _ c.requires.0 p q in
    let z : ◌≡◌ {A = ℕ} 0 1 = cc in
    absurd (omega arith)
