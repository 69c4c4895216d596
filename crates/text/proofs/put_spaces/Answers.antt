use native.Mathlib.Omega.{arith}
use mathlib.Core.Path.{◌≡◌, ap, ◌∙◌}
use Prim.Native.Nat.{ℕ, ◌+◌, ◌-◌}
use lib.ListN.{length, take, drop, replicate, length-replicate, length-take, length-drop}
use Rattle.text.specs.Text.{space}
use Rattle.text.proofs.Laws.{adds_mid}
use Rattle.text.proofs.put_spaces.Goals as goal

pub returns : goal.returns
returns c =
    let s = c.args in
    let many : length (take (s.at + s.n - s.at) (drop s.at s.out.now)) ≡ s.n = simp (length-take, length-drop) (omega arith) in
    let filled = c.fill.ensures.after (λ y e. e) ∙ ap (λ (n : ℕ). replicate n space) many in
    adds_mid (replicate s.n space) filled (length-replicate s.n space) c.requires
