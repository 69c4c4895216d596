-- ONE OUTCOME: two outcomes that meet a promise are equal, the answer and all lent memory. Answers alone have `one_answer`, of the crate `key`.
use Prim.Native.Nat.{ℕ}
use mathlib.Core.Path.{◌≡◌, ap}
use mathlib.Core.List.{List}
use lib.IntN.{ℤ}
use Rattle.key.proofs.Answers.{one_answer}
use Rattle.outcomes.specs.declared.Stored.{Stored}
use Rattle.outcomes.specs.Outcomes.{Written, Listed, Edited, leaving, Extended, extended}
use Rattle.outcomes.specs.InnerOutcome.{Leaves}
use Rattle.outcomes.proofs.Went.{number_one}
use Rattle.outcomes.specs.Answered.{Outcome}
use Rattle.outcomes.specs.declared.Count.{Count}
use Rattle.outcomes.specs.declared.Applied.{Applied}

-- an edit: its number, and the map that it leaves
pub edit_one : {r t : ℕ} {m n : Stored} {o : Edited} → leaving r m ≡ o → leaving t n ≡ o → (r ≡ t) × (m ≡ n)
edit_one a b = (ap (λ (o : Edited). o.answer) (one_answer a b), ap (λ (o : Edited). o.left) (one_answer a b))

-- the same, as functions tell each other
pub leaves_one : {r t : Outcome} {m n : Stored} {e : Edited} → Leaves r m e → Leaves t n e → (r ≡ t) × (m ≡ n)
leaves_one {r} {t} a b = (number_one r t (one_answer a.outcome b.outcome), one_answer a.map_is b.map_is)

-- a bulk insert: its number, how many entries it applied, and the map
pub extend_one : {r t : Applied} {m n : Stored} {o : Extended} → extended r m ≡ o → extended t n ≡ o → (r ≡ t) × (m ≡ n)
extend_one a b = (ap (λ (o : Extended). o.told) (one_answer a b), ap (λ (o : Extended). o.left) (one_answer a b))

-- a written list: its number and count, and both lent lists
pub list_one : {r t : Count} {ss es ss' es' : List ℤ} {w : Written} → Listed r ss es w → Listed t ss' es' w → (r ≡ t) × (ss ≡ ss') × (es ≡ es')
list_one a b = (one_answer a.number b.number, one_answer a.starts_are b.starts_are, one_answer a.ends_are b.ends_are)
