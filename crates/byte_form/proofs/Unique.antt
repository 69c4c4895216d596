-- ONE OUTCOME: two outcomes that meet the writer's promise are equal, the answer and the lent output. The reader's is an edit's, `edit_one` of the crate
-- `outcomes`. And what the writer left is read back, for any lawful layout.
use Prim.Native.Nat.{ℕ, ◌≤◌}
use mathlib.Core.Path.{◌≡◌, ap, ◌∙◌}
use mathlib.Core.Bool.{true}
use mathlib.Core.List.{List}
use borrow.Author.Tests.{le-ltb}
use lib.ListN.{length, take, drop}
use lib.Seq.{take-append_seam}
use Rattle.answers.specs.Answers.{done}
use Rattle.key.proofs.Answers.{one_answer}
use Rattle.outcomes.specs.Stored.{places, Sound}
use Rattle.outcomes.specs.declared.Stored.{Stored}
use Rattle.outcomes.specs.Outcomes.{formed, leaving}
use Rattle.outcomes.specs.declared.Count.{Count}
use Rattle.outcomes.specs.Answered.{Counted}
use Rattle.byte_form.specs.Layout.{Layout}
use Rattle.byte_form.specs.Form.{form_of, Output, output, into_output, write, Wrote, read}
use Rattle.byte_form.proofs.Lawful.{Lawful}
use Rattle.byte_form.proofs.Entries.{sound_formed}
use Rattle.byte_form.proofs.Forms.{write_read}

pub write_one : {r t : Count} {o p : List ℕ} {w : Output} → Wrote r o w → Wrote t p w → (r ≡ t) × (o ≡ p)
write_one a b = (one_answer a.number b.number, one_answer a.out_is b.out_is)

-- the same, as functions tell each other
pub output_one : {r t : Counted} {o p : List ℕ} {w : Output} → output r o ≡ w → output t p ≡ w → (r ≡ t) × (o ≡ p)
output_one a b = (ap (λ (w : Output). w.answer) (one_answer a b), ap (λ (w : Output). w.out) (one_answer a b))

-- what stands first in an output that is long enough is the form
pub written_form : (layout : Layout) (m : Stored) (out : List ℕ) → formed layout.kind m ≡ true → length (form_of layout m) ≤ length out
    → take (length (form_of layout m)) (write layout m out).out ≡ form_of layout m
unfolding write into_output
written_form layout m out w h =
    let bs : List ℕ = form_of layout m in
    rw (w, le-ltb (length out) (length bs) h) (take-append_seam bs (drop (length bs) out))

-- and from there the map is read back
pub written_read : {layout : Layout} (law : Lawful layout) {m : Stored} (old : Stored) (out : List ℕ) → Sound layout.kind m → length m.starts ≡ places
    → length (form_of layout m) ≤ length out → read layout old (take (length (form_of layout m)) (write layout m out).out) ≡ leaving done m
written_read {layout} law {m} old out s all h = ap (read layout old) (written_form layout m out (sound_formed s all) h) ∙ write_read law old s all
