-- What the program's functions ask of each other, from what is proved of the functions that they call.
use Prim.Native.Nat.{ℕ, ◌≤◌, min}
use native.Mathlib.Omega.{arith}
use mathlib.Core.Path.{◌≡◌, refl, sym, ap, ◌∙◌}
use mathlib.Core.Bool.{Bool, true, false, ◌&&◌, cond}
use mathlib.Core.List.{List, ◌++◌}
use borrow.Author.Tests.{ltb-false}
use lib.Dec.{ltb}
use lib.ListN.{length, drop}
use lib.IntN.{ℤ}
use Rattle.key.specs.Rank.{rank}
use Rattle.key.specs.Range.{half_open}
use Rattle.outcomes.specs.Stored.{places}
use Rattle.outcomes.specs.declared.Stored.{Stored}
use Rattle.outcomes.specs.Outcomes.{not_written, formed, Written, into_lists}
use Rattle.outcomes.specs.Answered.{Counted, Outcome}
use Rattle.outcomes.specs.InnerOutcome.{Leaves}
use Rattle.outcomes.proofs.Went.{numbered}
use Rattle.outcomes.proofs.Formed as well
use Rattle.byte_form.specs.Layout.{rm01}
use Rattle.byte_form.specs.Form.{form_of, Output, output, into_output, read}
use Rattle.byte_form.specs.Form as form
use Rattle.byte_form.proofs.Lawful.{rm01_lawful}
use Rattle.byte_form.proofs.Entries.{sound_formed}
use Rattle.byte_form.proofs.Forms.{read_write}
use Rattle.range_list.specs.InnerLists.{wrote}
use Rattle.query_text.specs.Reader.{Read, got, bad, query_of}
use Rattle.query.specs.Answers.{by_query, result_of, query_ranges_sound, query_ranges}
use Rattle.hourledger.specs.InnerInput.{Loaded}
use Rattle.std.specs.Prelude.{Ok, Err, OnOk}
use Rattle.answers.specs.declared.Refusal.TheVariants.{EmptyRange, TooShort, NotFormed, BadQuery}

-- a form that was read
pub read_loaded : (old : Stored) {m : Stored} (bs : List ℕ) (r : Outcome) → Leaves r m (read rm01 old bs) → OnOk r (Loaded m)
read_loaded old {m} bs (Ok u) l =
    let r = read_write rm01_lawful old bs (sym (numbered l)) in
    record { sound = r.sound; held = (well.formed half_open places m (sound_formed r.sound r.all_places)).held }
read_loaded old bs (Err why) l = tt

-- a form that is written has room
pub written_within : (m : Stored) (out : List ℕ) {out₁ : List ℕ} {r : Counted} {n : ℕ} → output r out₁ ≡ form.write rm01 m out → r ≡ Ok n
    → n ≤ length out
unfolding form.write into_output
written_within m out {out₁} {r} {n} is e =
    go (formed half_open m) (ltb (length out) (length (form_of rm01 m))) refl (sym (ap (λ (o : Output). o.answer) is) ∙ e)
  where
    go : (t u : Bool) → ltb (length out) (length (form_of rm01 m)) ≡ u
        → (cond t
        (cond u (output (Err TooShort) out) (output (Ok (length (form_of rm01 m))) (form_of rm01 m ++ drop (length (form_of rm01 m)) out)))
        (output (Err NotFormed) out)
        ).answer
        ≡ Ok n
        → n ≤ length out
    go true true h q = cc
    go true false h q = let z : n ≡ length (form_of rm01 m) = cc in omega (arith, ltb-false (length out) (length (form_of rm01 m)) h)
    go false u h q = cc

-- the ranges of a query that were written have room
pub queried_within : (a b : Stored) (s e : ℤ) (bytes : List ℕ) (os oe : List ℤ) {os₁ oe₁ : List ℤ} {r : Counted} {n : ℕ}
    → wrote r os₁ oe₁ ≡ query_ranges a b s e bytes os oe → r ≡ Ok n → n ≤ length os
unfolding query_ranges query_ranges_sound into_lists
queried_within a b s e bytes os oe {r = r} {n = n} is q =
    any (formed half_open a && formed half_open b) (ltb (rank s) (rank e)) (query_of bytes) (sym (ap (λ (w : Written). w.answer) is) ∙ q)
  where
    one : (x : ℕ) (u : Bool) (w : Written) → ltb (min (length os) (length oe)) x ≡ u → w.answer ≡ Ok x
        → (cond u (not_written TooShort os oe) w).answer ≡ Ok n → n ≤ length os
    one x true w h i q = cc
    one x false w h i q = let z : n ≡ x = cc in omega (arith, ltb-false (min (length os) (length oe)) x h)

    any : (t u : Bool) (x : Read)
        → (cond t (cond u (by_query x (λ y. into_lists half_open (result_of a b s e y) os oe) (not_written BadQuery os oe)) (not_written EmptyRange os oe)) (not_written NotFormed os oe)).answer
        ≡ Ok n
        → n ≤ length os
    any true true (got y rest) q = one (length (result_of a b s e y)) (ltb (min (length os) (length oe)) (length (result_of a b s e y))) _ refl refl q
    any true true bad q = cc
    any true false x q = cc
    any false u x q = cc
