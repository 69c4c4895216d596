-- From the walk to the result.
use Prim.Native.Nat.{ℕ, ◌+◌, ◌≤◌, ◌<◌}
use native.Mathlib.Omega.{arith}
use mathlib.Core.Path.{◌≡◌, refl, ◌∙◌}
use mathlib.Core.Bool.{Bool, true, false, ◌&&◌, cond}
use mathlib.Core.List.{List}
use mathlib.Core.Option.{none}
use borrow.Author.Tests.{le-leb, lt-leb, lt-ltb, le-ltb}
use lib.Dec.{leb, ltb}
use lib.ListN.{length}
use lib.IntN.{ℤ}
use Rattle.key.specs.Rank.{rank}
use Rattle.outcomes.specs.Outcomes.{into_lists, yes_no}
use Rattle.query.specs.Answers.{result_of, true_at, query_ranges_sound, query_at_sound}
use Rattle.span.specs.Span.{Span, at, inside}
use Rattle.span.proofs.Laws.{reworded}
use Rattle.key.specs.Range.{half_open}
use Rattle.outcomes.specs.Stored.{ranges, Sound}
use Rattle.outcomes.specs.declared.Stored.{Stored}
use Rattle.outcomes.proofs.Formed.{good}
use Rattle.query_text.specs.Grammar.{Query}
use Rattle.query_text.specs.InnerClasses.{class_of, class_truth}
use Rattle.query_text.specs.InnerReading.{ReadAs}
use Rattle.query_text.specs.InnerTable.{Shows}
use Rattle.query_text.specs.Meaning.{truth}
use Rattle.query_text.specs.Reader.{got, query_of}
use Rattle.query_text.proofs.Grammar.{read_is}
use Rattle.query_text.proofs.Meaning.{by_class}
use Rattle.query_text.specs.declared.cursor.Cursor.{Cursor}
use Rattle.query_text.specs.declared.reader.Reading.{Reading}
use Rattle.query_text.specs.declared.truth.Truth.{Truth}
use Rattle.query_text.proofs.Parts.{as_got}
use Rattle.query.specs.Result.{result, is_true, marked}
use Rattle.query.proofs.Result.{result_means}
use Rattle.query.specs.InnerWalk.{says_at}
use Rattle.query.specs.InnerWritten.{ToCome}
use Rattle.query.proofs.Few.{query_few}
use Rattle.query.proofs.Walking.{class_least}
use Rattle.query.proofs.Looks.{many}

and_false : (a : Bool) → (a && false) ≡ false
and_false true = refl
and_false false = refl

windowed : (a b t : Bool) → marked ((a && b) && t) ≡ cond a (marked (b && t)) none
windowed true b t = refl
windowed false b t = refl

-- the window is not empty, and the table t is that of the query that the bytes are
pub record TableOf (bytes : List ℕ) (lo hi : ℕ) (t : Truth) : Type 0 where
  pub real : lo < hi
  pub query : Query
  pub rest : List ℕ
  pub is : query_of bytes ≡ got query rest
  pub table : Shows t (class_truth query)

-- the table that was read is that one
pub table_read : (bytes : List ℕ) (s e : ℤ) → rank s < rank e → {r : Reading} {d : Cursor} {t : Truth} → r ≡ Reading.Got d t
    → ReadAs bytes 0 (query_of bytes) r → TableOf bytes (rank s) (rank e) t
table_read bytes s e real is reads =
    let f = as_got bytes 0 (query_of bytes) is reads in
    record { real = real; query = f.query; rest = _; is = f.is; table = f.table }

module _ (a b : Stored) (s e : ℤ) (bytes : List ℕ) where
  -- where a table is read, both answers are those of its query
  module _ {t : Truth} (f : TableOf bytes (rank s) (rank e) t) where
    pub at_table : (k : ℤ) → yes_no (true_at a b s e f.query k) ≡ query_at_sound a b s e bytes k
    unfolding query_at_sound
    at_table k = rw (lt-ltb (rank s) (rank e) f.real, f.is) refl

    pub list_table : (os oe : List ℤ) → into_lists half_open (result_of a b s e f.query) os oe ≡ query_ranges_sound a b s e bytes os oe
    unfolding query_ranges_sound
    list_table os oe = rw (lt-ltb (rank s) (rank e) f.real, f.is) refl

module _ {bytes : List ℕ} {lo hi : ℕ} {t : Truth} (f : TableOf bytes lo hi t) where
  -- the table says what the query means
  pub says_truth : (xs ys : List Span) (k : ℕ) → says_at t xs ys k ≡ truth f.query (at xs k) (at ys k)
  says_truth xs ys k =
      f.table (class_of (at xs k)) (class_of (at ys k)) (class_least (at xs k)) (class_least (at ys k))
      ∙ by_class (read_is bytes f.query f.rest f.is).spelt (at xs k) (at ys k)

  -- the result is what is to come from the window's start on
  pub result_comes : (m n : Stored) → Sound half_open m → Sound half_open n
      → ToCome t (ranges half_open m) (ranges half_open n) lo hi (result lo hi (ranges half_open m) (ranges half_open n) f.query)
  unfolding is_true inside
  result_comes m n sm sn =
      let xs = ranges half_open m in
      let ys = ranges half_open n in
      reworded (result_means lo hi xs ys f.real (good sm).tidy (good sn).tidy f.query) (λ k.
      rw (says_truth xs ys k) (windowed (leb lo k) (ltb k hi) (truth f.query (at xs k) (at ys k))))

  -- it has at most one range more than the maps together
  pub sound_few : (m n : Stored) → Sound half_open m → Sound half_open n
      → length (result lo hi (ranges half_open m) (ranges half_open n) f.query) ≤ m.count + n.count + 1
  sound_few m n sm sn =
      omega (arith, query_few lo hi (ranges half_open m) (ranges half_open n) f.real (good sm).tidy (good sn).tidy f.query, many m sm, many n sn)

-- outside the window no instant is in the result; inside, the query decides
module _ (lo hi : ℕ) (xs ys : List Span) (q : Query) (k : ℕ) where
  pub before_window : k < lo → is_true lo hi xs ys q k ≡ false
  unfolding is_true inside
  before_window h = rw (lt-leb lo k h)

  pub behind_window : hi ≤ k → is_true lo hi xs ys q k ≡ false
  unfolding is_true inside
  behind_window h = rw (le-ltb k hi h, and_false (leb lo k))

  pub in_window : lo ≤ k → k < hi → is_true lo hi xs ys q k ≡ truth q (at xs k) (at ys k)
  unfolding is_true inside
  in_window h l = rw (le-leb lo k h, lt-ltb k hi l)
