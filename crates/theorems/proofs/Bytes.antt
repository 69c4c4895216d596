-- BYTES: both round trips of the exported writer and reader, with nothing between. They take promises alone.
use Prim.Native.Nat.{ℕ, ◌≤◌}
use native.Mathlib.Omega.{arith}
use mathlib.Core.Path.{◌≡◌, refl, sym, ap, subst, ◌∙◌}
use mathlib.Core.Bool.{Bool, true, false, cond}
use mathlib.Core.List.{List, ◌++◌}
use lib.Dec.{ltb}
use borrow.Author.Tests.{le-ltb}
use lib.ListN.{length, take, drop}
use lib.Seq.{take_at}
use Rattle.std.specs.Prelude.{Ok, Err}
use Rattle.answers.specs.Answers.{done}
use Rattle.answers.specs.declared.Refusal.TheVariants.{TooShort, NotFormed}
use Rattle.key.specs.Range.{half_open}
use Rattle.outcomes.specs.declared.Stored.{Stored}
use Rattle.outcomes.specs.Outcomes.{leaving, formed}
use Rattle.outcomes.specs.Numbers.{counted_in_c}
use Rattle.outcomes.specs.declared.Count.{Count}
use Rattle.outcomes.proofs.Unique.{edit_one}
use Rattle.byte_form.specs.Layout.{rm01}
use Rattle.byte_form.specs.Form.{Output, output, form_of, into_output, write, read}
use Rattle.byte_form.proofs.Lawful.{rm01_lawful}
use Rattle.byte_form.proofs.Entries.{sound_formed}
use Rattle.byte_form.proofs.Forms.{Read, write_read, read_write}
use Rattle.one_map.specs.Events.{Proper}
use Rattle.map.specs.declared.RangeMap.{RangeMap}
use Rattle.map.specs.Map.{held}
use Rattle.map.proofs.Held.{held_one}
use Rattle.map.specs.Promises.{RangeMapWellFormed}
use Rattle.map_bytes.specs.Promises.{RangeMapWrite, RangeMapRead}
use Rattle.theorems.specs.Calls.{Call}
use Rattle.theorems.specs.Structs.{RangeMapAfter}
use Rattle.theorems.proofs.Formed.{range_map_formed}
use Rattle.theorems.proofs.Histories.{range_map_proper}

-- the bytes of an output that count
abbrev counted : Output → List ℕ
counted w = take (counted_in_c w.answer).count w.out

-- what is written where the writer answers 0: the form of a well-formed map
written : (m : Stored) (out : List ℕ) → (counted_in_c (write rm01 m out).answer).answer ≡ 0
    → (formed half_open m ≡ true) × (counted (write rm01 m out) ≡ form_of rm01 m)
unfolding write into_output
written m out z = go (formed half_open m) (ltb (length out) (length bs)) refl z
  where
    bs : List ℕ
    bs = form_of rm01 m

    done_or_short : Bool → Output
    done_or_short t = cond t (output (Err TooShort) out) (output (Ok (length bs)) (bs ++ drop (length bs) out))

    go : (f t : Bool) → formed half_open m ≡ f → (counted_in_c (cond f (done_or_short t) (output (Err NotFormed) out)).answer).answer ≡ 0
        → (formed half_open m ≡ true) × (counted (cond f (done_or_short t) (output (Err NotFormed) out)) ≡ bs)
    go true true e z = absurd (omega arith)
    go true false e z = (e, take_at bs (drop (length bs) out) (length bs) refl)
    go false t e z = absurd (omega arith)

-- what was written of a map with answer 0 is read as that map, whatever is overwritten, if the map is proper where it is well formed
written_back : (m n n' : RangeMap) (out out' : List ℕ) (r : Count) (t : ℕ) → (formed half_open (held m) ≡ true → Proper half_open (held m))
    → RangeMapWrite m out out' r → r.answer ≡ done → RangeMapRead n n' (take r.count out') t → (t ≡ done) × (n' ≡ m)
written_back m n n' out out' r t as-proper wrote z readIt =
    let (well, bytes) = written (held m) out (ap (λ (x : Count). x.answer) (sym wrote.number) ∙ z) in
    let bs-are : take r.count out' ≡ form_of rm01 (held m) = rw (wrote.number, wrote.out_is) bytes in
    let p = as-proper well in
    let one = edit_one readIt (sym (ap (read rm01 (held n)) bs-are ∙ write_read rm01_lawful (held n) p.sound p.all_places)) in
    (one.0, held_one one.1)

-- WRITE THEN READ: what was written of a map with answer 0 is read as that map, whatever is overwritten. `well_formed` was asked of the map, whatever it
-- answered: its promise has what memory says of keys and places, and the writer's 0 the rest
pub write_then_read : (m n n' : RangeMap) (b : Bool) (out out' : List ℕ) (r : Count) (t : ℕ) → RangeMapWellFormed m b
    → RangeMapWrite m out out' r → r.answer ≡ done → RangeMapRead n n' (take r.count out') t → (t ≡ done) × (n' ≡ m)
write_then_read m n n' b out out' r t asked = written_back m n n' out out' r t (λ well. range_map_formed m (rw (asked.0 ∙ well) at asked))

-- THE SAME OF WHAT CALLS LEAVE of a new map: nobody asks whether it is well formed
pub after_read_back : (cs : List Call) (m n n' : RangeMap) (out out' : List ℕ) (r : Count) (t : ℕ) → RangeMapAfter cs m
    → RangeMapWrite m out out' r → r.answer ≡ done → RangeMapRead n n' (take r.count out') t → (t ≡ done) × (n' ≡ m)
after_read_back cs m n n' out out' r t left = written_back m n n' out out' r t (λ well. range_map_proper cs m left)

-- what an output long enough holds after the form of a well-formed map was written
fits : (m : Stored) (out : List ℕ) → formed half_open m ≡ true → length (form_of rm01 m) ≤ length out
    → write rm01 m out ≡ output (Ok (length (form_of rm01 m))) (form_of rm01 m ++ drop (length (form_of rm01 m)) out)
unfolding write into_output
fits m out well room = rw (well, le-ltb (length out) (length (form_of rm01 m)) room)

-- READ THEN WRITE: bytes that were read are written again as they were, if the output is long enough; the places past them are as they were
pub read_then_write : (n n' : RangeMap) (bs out out' : List ℕ) (t : ℕ) (r : Count)
    → RangeMapRead n n' bs t → t ≡ done → RangeMapWrite n' out out' r → length bs ≤ length out
    → (r.answer ≡ done) × (r.count ≡ length bs) × (out' ≡ bs ++ drop (length bs) out)
read_then_write n n' bs out out' t r readIt z wrote room =
    let form : Read rm01 (held n') bs = read_write rm01_lawful (held n) bs (sym readIt ∙ ap (λ (k : ℕ). leaving k (held n')) z) in
    let is : write rm01 (held n') out ≡ output (Ok (length bs)) (bs ++ drop (length bs) out) =
    subst (λ (x : List ℕ). write rm01 (held n') out ≡ output (Ok (length x)) (x ++ drop (length x) out)) form.bytes
    (fits (held n') out (sound_formed form.sound form.all_places) (subst (λ (x : List ℕ). length x ≤ length out) (sym form.bytes) room)) in
    let told : r ≡ counted_in_c (Ok (length bs)) = wrote.number ∙ ap (λ (w : Output). counted_in_c w.answer) is in
    (ap (λ (x : Count). x.answer) told, ap (λ (x : Count). x.count) told, wrote.out_is ∙ ap (λ (w : Output). w.out) is)
