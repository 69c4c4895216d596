use Prim.Native.Nat.{◌≤◌, ◌<◌}
use native.Mathlib.Omega.{arith}
use native.Mathlib.Nat.{le_refl}
use mathlib.Core.Path.{◌≡◌, refl, sym, ap, ◌∙◌}
use mir.Facts.{to_z-of_z}
use borrow.Author.Tests.{lt-ltb, le-ltb}
use Rattle.key.specs.Rank.{rank}
use Rattle.key.proofs.Laws.{tests}
use Rattle.outcomes.specs.Outcomes.{yes_no}
use Rattle.outcomes.specs.Lent.{of_ref}
use Rattle.query_text.specs.Reader.{query_of}
use Rattle.query_text.proofs.Parts.{as_bad}
use Rattle.query.specs.Answers.{query_at_sound}
use Rattle.query.specs.InnerColumns.{spans_of}
use Rattle.query.proofs.Glue.{table_read, at_table, says_truth, before_window, behind_window, in_window}
use Rattle.query.proofs.instant.query_at_unchecked.Goals as goal
use Rattle.query.proofs.instant.query_at_unchecked.Goals.{then-key-start-via-then-key-start, then-key-start-via-else-key-start+then-key-end}

pub returns-then-start-end : goal.returns-then-start-end
unfolding query_at_sound
returns-then-start-end c =
    rw (le-ltb (rank c.args.start) (rank c.args.end) (omega (arith, tests))) refl

pub returns-in_default : goal.returns-in_default
unfolding query_at_sound
returns-in_default c =
    let a = c.args in
    let e = as_bad a.bytes.now 0 (query_of a.bytes.now) c.in_default.is c.read_query.ensures in
    rw (lt-ltb (rank a.start) (rank a.end) (omega (arith, tests)), e) refl

pub returns-then-key-start : goal.returns-then-key-start
returns-then-key-start c =
    let a = c.args in
    let xs = spans_of (of_ref a.a.now) in
    let ys = spans_of (of_ref a.b.now) in
    let f = table_read a.bytes.now a.start a.end (omega (arith, tests, c.if-start-end.false)) c.in-Got.is c.read_query.ensures in
    let told = at_table (of_ref a.a.now) (of_ref a.b.now) a.start a.end a.bytes.now f a.key in
    elim c.then-key-start.branch [
      | then-key-start-via-then-key-start w ↦
          ap yes_no (sym (before_window (rank a.start) (rank a.end) xs ys f.query (rank a.key) (omega (arith, tests, w.if-key-start.true)))) ∙ told
      | then-key-start-via-else-key-start+then-key-end w ↦
          ap yes_no (sym (behind_window (rank a.start) (rank a.end) xs ys f.query (rank a.key) (omega (arith, tests, w.if-key-end.true)))) ∙ told
    ]

pub cell_at-c-requires : goal.cell_at-c-requires
cell_at-c-requires c =
    let at_key : c.walk_at.result.key ≡ c.args.key = c.walk_at.ensures.0 ∙ to_z-of_z c.ranges.key in
    rw (to_z-of_z c.ranges.end)
    (c.walk_at.ensures.1 _ _, rw at_key (omega (arith, tests)))

pub returns : goal.returns
returns c =
    let a = c.args in
    let xs = spans_of (of_ref a.a.now) in
    let ys = spans_of (of_ref a.b.now) in
    let f = table_read a.bytes.now a.start a.end (omega (arith, tests, c.if-start-end.false)) c.in-Got.is c.read_query.ensures in
    let at_key : c.walk_at.result.key ≡ a.key = c.walk_at.ensures.0 ∙ to_z-of_z c.ranges.key in
    let e = rw (at_key, to_z-of_z c.ranges.end) at c.cell_at-c.ensures in
    let within : rank a.start ≤ rank a.key = omega (arith, tests, c.if-key-start.false) in
    let inside : rank a.key < rank a.end = omega (arith, tests, c.if-key-end.false) in
    ap yes_no (sym (e.same (rank a.key) (le_refl (rank a.key)) e.on) ∙ says_truth f xs ys (rank a.key)
    ∙ sym (in_window (rank a.start) (rank a.end) xs ys f.query (rank a.key) within inside))
    ∙ at_table (of_ref a.a.now) (of_ref a.b.now) a.start a.end a.bytes.now f a.key
