-- ONE OUTCOME: two outcomes that meet a promise about lists are equal, the answer and both lent lists.
use Prim.Native.Nat.{ℕ}
use mathlib.Core.Path.{◌≡◌, ap}
use mathlib.Core.List.{List}
use lib.IntN.{ℤ}
use Rattle.span.specs.Span.{Span}
use Rattle.key.specs.Range.{Kind}
use Rattle.key.proofs.Answers.{one_answer}
use Rattle.outcomes.specs.Outcomes.{Written}
use Rattle.outcomes.specs.Answered.{Counted}
use Rattle.range_list.specs.InnerLists.{wrote, Puts}

-- what a door answers that writes a list, and the lists
pub wrote_one : {r t : Counted} {ss es ss' es' : List ℤ} {w : Written} → wrote r ss es ≡ w → wrote t ss' es' ≡ w → (r ≡ t) × (ss ≡ ss') × (es ≡ es')
wrote_one a b =
    let e = one_answer a b in
    (ap (λ (w : Written). w.answer) e, ap (λ (w : Written). w.starts) e, ap (λ (w : Written). w.ends) e)

-- the lists that ranges are written into
pub puts_one : {kind : Kind} {n : ℕ} {xs : List Span} {os oe ss es ss' es' : List ℤ} → Puts kind n xs os oe ss es → Puts kind n xs os oe ss' es'
    → (ss ≡ ss') × (es ≡ es')
puts_one a b = (one_answer a.starts b.starts, one_answer a.ends b.ends)
