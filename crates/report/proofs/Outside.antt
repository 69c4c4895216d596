-- AN EDIT OUTSIDE THE DAY changes nothing in its report, be the edit accepted or refused.
use Prim.Native.Nat.{ℕ, ◌≤◌, ◌<◌}
use native.Mathlib.Omega.{arith}
use mathlib.Core.Path.{◌≡◌, refl, sym, ap, ◌∙◌}
use mathlib.Core.Logic.{◌⊎◌, inl, inr}
use mathlib.Core.Bool.{Bool, true, false, cond}
use mathlib.Core.List.{List}
use mathlib.Core.Option.{Option}
use lib.Dec.{leb, ltb}
use lib.ListN.{length}
use lib.IntN.{ℤ}
use Rattle.answers.specs.Answers.{done, empty_range, too_many, not_formed}
use Rattle.span.specs.Span.{Span, at, Ordered, given}
use Rattle.span.proofs.Tests.{Within, in_no}
use Rattle.span.proofs.Laws.{tidy_given, at_given}
use Rattle.std.specs.Prelude.{Ok}
use Rattle.key.specs.Rank.{rank}
use Rattle.key.specs.Range.{half_open}
use Rattle.key.proofs.Lawful.{half_open_lawful}
use Rattle.outcomes.specs.Stored.{places, ranges, storing, well_formed}
use Rattle.outcomes.specs.declared.Stored.{Stored}
use Rattle.outcomes.specs.Outcomes.{leaving, edit_sound, edit, formed}
use Rattle.outcomes.proofs.Formed as Formed
use Rattle.outcomes.proofs.Edits.{edit_accepted, edit_ranges, edit_sound_lem, edit_length}
use Rattle.duty.specs.Duty.{tally_sound}
use Rattle.duty.proofs.Sums.{same_totals, same_strange}
use Rattle.log_day.specs.Days.{bounds, day_of}
use Rattle.report.specs.Report.{with_keys, day_report}
use Rattle.report.proofs.Returns.{day_window}

-- the range a..b has no instant of the day
pub data Off (a b s e : ℤ) : Type 0 where
  earlier : rank b ≤ rank s → Off a b s e
  later : rank e ≤ rank a → Off a b s e

-- two maps that hold alike in a window have the same seconds there
same_tally : (m n : Stored) (s e : ℤ) → rank s < rank e → Ordered 0 (ranges half_open m) → Ordered 0 (ranges half_open n)
    → ((k : ℕ) → rank s ≤ k → k < rank e → at (ranges half_open m) k ≡ at (ranges half_open n) k) → tally_sound m s e ≡ tally_sound n s e
unfolding tally_sound
same_tally m n s e h o p f = rw (same_strange (rank s) (rank e) (ranges half_open m) (ranges half_open n) h o p f, same_totals (rank s) (rank e) (ranges half_open m) (ranges half_open n) h o p f)

-- an edit leaves the map as it was, or it was done
kept_or_done : (m : Stored) (a b : ℤ) (new : Option ℕ) → ((edit_sound half_open places m a b new).left ≡ m) ⊎ ((edit_sound half_open places m a b new).answer ≡ 0)
unfolding edit_sound
kept_or_done m a b new = go (leb (rank b) (rank a)) (ltb places (length xs))
  where
    xs : List Span
    xs = given (rank a) (rank b) new (ranges half_open m)

    go : (t u : Bool) → ((cond t (leaving empty_range m) (cond u (leaving too_many m) (leaving done (storing half_open places xs)))).left ≡ m) ⊎ ((cond t (leaving empty_range m) (cond u (leaving too_many m) (leaving done (storing half_open places xs)))).answer ≡ 0)
    go true u = inl refl
    go false true = inl refl
    go false false = inr refl

-- of a well-formed map and a day the report is what is counted in it
of_day : (m : Stored) (z y mo d : ℕ) {s e : ℤ} → formed half_open m ≡ true → day_of z y mo d ≡ Ok (bounds s e) → day_report m z y mo d ≡ with_keys s e (tally_sound m s e)
unfolding day_report
of_day m z y mo d h q = rw (h, q)

module _ (m : Stored) (z y mo d : ℕ) {s e : ℤ} (day : day_of z y mo d ≡ Ok (bounds s e)) (a b : ℤ) (new : Option ℕ) (off : Off a b s e) where
  outside : (k : ℕ) → rank s ≤ k → k < rank e → Within (rank a) (rank b) k → ⊥
  outside k p q w = elim off [ earlier h ↦ omega arith | later h ↦ omega arith ]

  was_done : formed half_open m ≡ true → (edit_sound half_open places m a b new).answer ≡ 0 → day_report (edit_sound half_open places m a b new).left z y mo d ≡ day_report m z y mo d
  was_done w zero_is =
      let t = (Formed.formed half_open places m w).tidy in
      let dn = edit_accepted half_open places m a b new zero_is in
      let n = (edit_sound half_open places m a b new).left in
      let is = edit_ranges half_open half_open_lawful places m t a b new dn in
      let well : formed half_open n ≡ true =
      ap (λ (i : ℕ). well_formed half_open i n) (sym (edit_length half_open half_open_lawful places m t a b new dn)) ∙ (edit_sound_lem half_open half_open_lawful places m t a b new dn).well in
      let o : Ordered 0 (ranges half_open n) = rw is (tidy_given (rank a) (rank b) new (ranges half_open m) dn.real t.ordered).ordered in
      of_day n z y mo d well day
      ∙ ap (with_keys s e) (same_tally n m s e (day_window z y mo d day).real o t.ordered (λ k p q.
      ap (λ (l : List Span). at l k) is ∙ at_given (rank a) (rank b) new (ranges half_open m) dn.real t.ordered k ∙ rw (in_no (rank a) (rank b) k (outside k p q))))
      ∙ sym (of_day m z y mo d w day)

  -- OUTSIDE: what the edit leaves has the report that the map had
  pub edit_outside : day_report (edit half_open m a b new).left z y mo d ≡ day_report m z y mo d
  unfolding edit
  edit_outside = go (formed half_open m) refl
    where
      go : (t : Bool) → formed half_open m ≡ t → day_report (cond t (edit_sound half_open places m a b new) (leaving not_formed m)).left z y mo d ≡ day_report m z y mo d
      go true w = elim (kept_or_done m a b new) [ inl k ↦ ap (λ (n : Stored). day_report n z y mo d) k | inr k ↦ was_done w k ]
      go false w = refl
