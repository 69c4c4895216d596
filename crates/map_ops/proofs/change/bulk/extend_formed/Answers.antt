use Prim.Native.Nat.{ℕ, suc, ◌<◌}
use native.Mathlib.Omega.{arith}
use native.Mathlib.Numerals.{add-one}
use mathlib.Core.Path.{◌≡◌, refl, ap, sym, ◌∙◌}
use mathlib.Core.List.{List, [], ◌∷◌}
use lib.ListN.{length, get_or, drop, drop_of_length-le}
use lib.Seq.{drop-cons}
use lib.IntN.{ℤ, pos}
use mir.Facts.{to_z-of_z}
use mir.Syntax.{w64}
use mir.Val.{SFits}
use borrow.Author.Rules.{rules}
use Rattle.key.specs.Range.{kind_of}
use Rattle.key.specs.declared.Entry.{Entry}
use Rattle.key.proofs.Lawful.{lawful}
use Rattle.outcomes.specs.Outcomes.{entries, bulk_insert_sound}
use Rattle.outcomes.proofs.Went.{numbered, number_nonzero}
use Rattle.outcomes.proofs.Bulk.{length_entries, get_or_entries, entry_at, entry_refused, entry_done, entry_sound}
use Rattle.map_ops.proofs.change.bulk.extend_formed.Goals as goal

-- the entry at a place of three lists, and those behind it
cut_at : (ss es : List ℤ) (vs : List ℕ) (i : ℕ) → i < length (entries ss es vs)
    → drop i (entries ss es vs) ≡ entry_at ss es vs i ∷ drop (suc i) (entries ss es vs)
cut_at ss es vs i h =
    drop-cons (entries ss es vs) i _ h ∙ ap (λ (e : Entry). e ∷ drop (suc i) (entries ss es vs)) (get_or_entries ss es vs i h)

pub loop-i-init : goal.loop-i-init
loop-i-init c = (c.requires, refl)

pub returns-in-Err : goal.returns-in-Err
returns-in-Err c =
    let a = c.args in
    let l = c.loop-i in
    let ss = a.new_starts.now in
    let es = a.new_ends.now in
    let vs = a.new_values.now in
    let h : l.i < length (entries ss es vs) = omega (arith, length_entries ss es vs) in
    let fs : SFits w64 (get_or c.args.new_starts.now c.loop-i.i (pos 0)) = search rules in
    let fe : SFits w64 (get_or c.args.new_ends.now c.loop-i.i (pos 0)) = search rules in
    let went = rw c.in-Err.is at (rw (to_z-of_z fs, to_z-of_z fe) at c.insert-went.ensures) in
    let k = kind_of a.kind in
    rw c.number.ensures (entry_refused k l.m l.i (entry_at ss es vs l.i) (drop (suc l.i) (entries ss es vs)) (numbered went) (number_nonzero c.in-Err.why)
    ∙ sym (l.invariant.1 ∙ ap (bulk_insert_sound k l.m l.i) (cut_at ss es vs l.i h)))

pub loop-i-preserved : goal.loop-i-preserved
loop-i-preserved c =
    let a = c.args in
    let l = c.loop-i in
    let ss = a.new_starts.now in
    let es = a.new_ends.now in
    let vs = a.new_values.now in
    let h : l.i < length (entries ss es vs) = omega (arith, length_entries ss es vs) in
    let x = entry_at ss es vs l.i in
    let rest = drop (suc l.i) (entries ss es vs) in
    let fs : SFits w64 (get_or c.args.new_starts.now c.loop-i.i (pos 0)) = search rules in
    let fe : SFits w64 (get_or c.args.new_ends.now c.loop-i.i (pos 0)) = search rules in
    let is = numbered (rw c.in_default.is at (rw (to_z-of_z fs, to_z-of_z fe) at c.insert-went.ensures)) in
    let k = kind_of a.kind in (
      (entry_sound k l.m l.i x rest is (lawful a.kind) l.invariant.0 refl).0,
      rw (add-one l.i) (l.invariant.1 ∙ ap (bulk_insert_sound k l.m l.i) (cut_at ss es vs l.i h) ∙ sym (entry_done k l.m l.i x rest is refl)),
    )

pub returns : goal.returns
unfolding bulk_insert_sound
returns c =
    let a = c.args in
    let l = c.loop-i in
    let xs = entries a.new_starts.now a.new_ends.now a.new_values.now in
    let e : drop l.i xs ≡ [] = drop_of_length-le xs {i = l.i} (omega (arith, length_entries a.new_starts.now a.new_ends.now a.new_values.now)) in
    let all : c.min-n.result ≡ l.i = omega arith in
    rw all (sym (l.invariant.1 ∙ ap (bulk_insert_sound (kind_of a.kind) l.m l.i) e))
