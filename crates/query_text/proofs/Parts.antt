-- What the functions of the reader find, put together from what they find below. And the number that falls.
use Prim.Native.Nat.{ℕ, suc, ◌+◌, ◌-◌, ◌*◌, ◌≤◌, ◌<◌}
use mathlib.Core.Path.{◌≡◌, refl, sym, ap, subst, ◌∙◌}
use mathlib.Core.Bool.{Bool, true, false, ◌&&◌, ◌||◌, not}
use mathlib.Core.List.{List}
use Rattle.std.specs.Prelude.{Option, Some, None}
use native.Mathlib.Omega.{arith}
use borrow.Author.Tests.{leb-false}
use lib.Dec.{leb}
use lib.ListN.{length, drop, length-drop}
use Rattle.query_text.specs.Grammar.{Query, no, both, either, Level, factor, term, sum, open_limit}
use Rattle.query_text.specs.InnerClasses.{class_truth}
use Rattle.query_text.specs.Reader.{Read, got, bad, starts, behind, and_then, deeper, atom, closed, read_level}
use Rattle.query_text.specs.InnerReading.{negation, grouping}
use Rattle.query_text.proofs.Steps.{more, Shrinks, read_shrinks, read_factor, read_term, read_sum}
use Rattle.query_text.specs.declared.cursor.Cursor.{Cursor}
use Rattle.query_text.specs.InnerCursor.{cursor}
use Rattle.query_text.proofs.Bytes.{seen, past}
use Rattle.query_text.specs.declared.truth.Truth.{Truth}
use Rattle.query_text.specs.InnerTable.{says, Shows}
use Rattle.query_text.specs.declared.reader.Reading.{Reading}
use Rattle.query_text.specs.InnerReading.{Finds, ReadAs, Reads, here}

-- the bytes that are left, four times, and which function it is
abbrev pub left : List ℕ → ℕ → ℕ → ℕ
left bytes at k = 4 * (length bytes - at) + k

-- a cursor goes on where something is found
pub later : (l : Level) (bytes : List ℕ) (c d : Cursor) (m : ℕ) (t : Truth) → Finds bytes m (here l bytes c) d t → c.at < d.at
later l bytes c d m t f =
    let s : length (drop d.at bytes) < length (drop c.at bytes) = subst (Shrinks (drop c.at bytes)) f.is
    (read_shrinks l (open_limit - c.marks) (drop c.at bytes)) in
    let h = f.inside in
    omega (arith, length-drop c.at bytes, length-drop d.at bytes)

-- a level whose parts are of the level below, with an operator between them
pub record Chain : Type 0 where
  pub low : Level
  pub high : Level
  pub byte : ℕ
  pub op : Query → Query → Query
  pub bop : Bool → Bool → Bool
  pub step : (n : ℕ) (bs : List ℕ) → read_level high n bs ≡ and_then (read_level low n bs) (more high byte op n)
  pub means : (p q : Query) (a b : ℕ) → class_truth (op p q) a b ≡ bop (class_truth p a b) (class_truth q a b)

pub and_means : (p q : Query) (a b : ℕ) → class_truth (both p q) a b ≡ (class_truth p a b && class_truth q a b)
unfolding class_truth
and_means p q a b = refl

pub or_means : (p q : Query) (a b : ℕ) → class_truth (either p q) a b ≡ (class_truth p a b || class_truth q a b)
unfolding class_truth
or_means p q a b = refl

no_means : (p : Query) (a b : ℕ) → class_truth (no p) a b ≡ not (class_truth p a b)
unfolding class_truth
no_means p a b = refl

abbrev pub terms : Chain
terms = record { low = factor; high = term; byte = 38; op = both; bop = ◌&&◌; step = read_term; means = and_means }

abbrev pub sums : Chain
sums = record { low = term; high = sum; byte = 124; op = either; bop = ◌||◌; step = read_sum; means = or_means }

module _ (k : Chain) where
  pub none_below : (bytes : List ℕ) (c : Cursor) → here k.low bytes c ≡ bad → here k.high bytes c ≡ bad
  none_below bytes c e = k.step (open_limit - c.marks) (drop c.at bytes) ∙ rw e refl

  pub alone : (bytes : List ℕ) (c d : Cursor) (t : Truth) → Finds bytes c.marks (here k.low bytes c) d t → starts k.byte (drop d.at bytes) ≡ false
      → Finds bytes c.marks (here k.high bytes c) d t
  alone bytes c d t f e = record {
    query = f.query;
    is = k.step (open_limit - c.marks) (drop c.at bytes) ∙ rw (f.is, e) refl;
    inside = f.inside;
    back = f.back;
    table = f.table;
  }

  behind_next : (bytes : List ℕ) (c d z : Cursor) → d.marks ≡ c.marks → d.at < length bytes → z ≡ cursor (d.at + 1) d.marks
      → here k.high bytes z ≡ read_level k.high (open_limit - c.marks) (behind (drop d.at bytes))
  behind_next bytes c d z b i e = rw (e, b, past bytes d.at i)

  pub none_behind : (bytes : List ℕ) (c d z : Cursor) (t : Truth) → Finds bytes c.marks (here k.low bytes c) d t
      → starts k.byte (drop d.at bytes) ≡ true → z ≡ cursor (d.at + 1) d.marks → here k.high bytes z ≡ bad → here k.high bytes c ≡ bad
  none_behind bytes c d z t f e i w =
      let v : read_level k.high (open_limit - c.marks) (behind (drop d.at bytes)) ≡ bad = sym
      (behind_next bytes c d z f.back (seen bytes d.at k.byte e) i) ∙ w in
      k.step (open_limit - c.marks) (drop c.at bytes) ∙ rw (f.is, e, v) refl

  pub together : (bytes : List ℕ) (c d z g : Cursor) (t u v : Truth) → Finds bytes c.marks (here k.low bytes c) d t
      → starts k.byte (drop d.at bytes) ≡ true → z ≡ cursor (d.at + 1) d.marks
      → Finds bytes z.marks (here k.high bytes z) g u → Shows v (λ a b. k.bop (says t a b) (says u a b))
      → Finds bytes c.marks (here k.high bytes c) g v
  together bytes c d z g t u v f e i w s =
      let r : read_level k.high (open_limit - c.marks) (behind (drop d.at bytes)) ≡ got w.query (drop g.at bytes) =
      sym (behind_next bytes c d z f.back (seen bytes d.at k.byte e) i) ∙ w.is in
      record {
        query = k.op f.query w.query;
        is = k.step (open_limit - c.marks) (drop c.at bytes) ∙ rw (f.is, e, r) refl;
        inside = w.inside;
        back = w.back ∙ ap (λ (y : Cursor). y.marks) i ∙ f.back;
        table = λ a b ha hb. s a b ha hb ∙ rw (f.table a b ha hb, w.table a b ha hb) (sym (k.means f.query w.query a b));
      }

-- A MARK: what is read from it on
full : (m : ℕ) (k : ℕ → Read) → open_limit ≤ m → deeper (open_limit - m) k ≡ bad
full m k h = let e : open_limit - m ≡ 0 = omega arith in rw e

room : (m : ℕ) (k : ℕ → Read) → m < open_limit → deeper (open_limit - m) k ≡ k (open_limit - (m + 1))
room m k h = let e : open_limit - m ≡ suc (open_limit - (m + 1)) = omega arith in rw e

pub no_negation : (bytes : List ℕ) (c : Cursor) → open_limit ≤ c.marks → negation (open_limit - c.marks) (drop c.at bytes) ≡ bad
no_negation bytes c h = full c.marks _ h

pub no_grouping : (bytes : List ℕ) (c : Cursor) → open_limit ≤ c.marks → grouping (open_limit - c.marks) (drop c.at bytes) ≡ bad
no_grouping bytes c h = full c.marks _ h

-- a cursor past a mark
pub record Past (bytes : List ℕ) (c z : Cursor) : Type 0 where
  pub inside : c.at < length bytes
  pub few : c.marks < open_limit
  pub is : z ≡ cursor (c.at + 1) (c.marks + 1)

pub past_of : (bytes : List ℕ) (c z : Cursor) → c.at < length bytes → leb open_limit c.marks ≡ false → z ≡ cursor (c.at + 1) (c.marks + 1) → Past bytes c z
past_of bytes c z i f e = record { inside = i; few = leb-false open_limit c.marks f; is = e }

past_mark : (l : Level) (bytes : List ℕ) (c z : Cursor) → Past bytes c z → read_level l (open_limit - (c.marks + 1)) (behind (drop c.at bytes)) ≡ here l bytes z
past_mark l bytes c z p = rw (p.is, past bytes c.at p.inside)

negation_is : (bytes : List ℕ) (c z : Cursor) → Past bytes c z → negation (open_limit - c.marks) (drop c.at bytes) ≡ and_then (here factor bytes z)
    (λ q rest. got (no q) rest)
negation_is bytes c z p = room c.marks _ p.few ∙ rw (past_mark factor bytes c z p)

grouping_is : (bytes : List ℕ) (c z : Cursor) → Past bytes c z → grouping (open_limit - c.marks) (drop c.at bytes) ≡ and_then (here sum bytes z) closed
grouping_is bytes c z p = room c.marks _ p.few ∙ rw (past_mark sum bytes c z p)

pub bad_negation : (bytes : List ℕ) (c z : Cursor) → Past bytes c z → here factor bytes z ≡ bad → negation (open_limit - c.marks) (drop c.at bytes) ≡ bad
bad_negation bytes c z p e = negation_is bytes c z p ∙ rw e refl

pub bad_grouping : (bytes : List ℕ) (c z : Cursor) → Past bytes c z → here sum bytes z ≡ bad → grouping (open_limit - c.marks) (drop c.at bytes) ≡ bad
bad_grouping bytes c z p e = grouping_is bytes c z p ∙ rw e refl

-- the mark is shut again
shut_back : (c z d w : Cursor) → z ≡ cursor (c.at + 1) (c.marks + 1) → d.marks ≡ z.marks → w.marks ≡ d.marks - 1 → w.marks ≡ c.marks
shut_back c z d w e b s = let zm : z.marks ≡ c.marks + 1 = ap (λ (y : Cursor). y.marks) e in omega arith

pub negation_found : (bytes : List ℕ) (c z d w : Cursor) (t v : Truth) → Past bytes c z → Finds bytes z.marks (here factor bytes z) d t
    → w ≡ cursor d.at (d.marks - 1) → Shows v (λ a b. not (says t a b))
    → Finds bytes c.marks (negation (open_limit - c.marks) (drop c.at bytes)) w v
negation_found bytes c z d w t v p f e s =
    let at : w.at ≡ d.at = ap (λ (y : Cursor). y.at) e in
    record {
      query = no f.query;
      is = negation_is bytes c z p ∙ rw (f.is, at) refl;
      inside = rw at f.inside;
      back = shut_back c z d w p.is f.back (ap (λ (y : Cursor). y.marks) e);
      table = λ a b ha hb. s a b ha hb ∙ rw (f.table a b ha hb) (sym (no_means f.query a b));
    }

pub not_closed : (bytes : List ℕ) (c z d : Cursor) (t : Truth) → Past bytes c z → Finds bytes z.marks (here sum bytes z) d t
    → starts 41 (drop d.at bytes) ≡ false → grouping (open_limit - c.marks) (drop c.at bytes) ≡ bad
unfolding closed
not_closed bytes c z d t p f e = grouping_is bytes c z p ∙ rw (f.is, e) refl

pub grouping_found : (bytes : List ℕ) (c z d y w : Cursor) (t : Truth) → Past bytes c z → Finds bytes z.marks (here sum bytes z) d t
    → starts 41 (drop d.at bytes) ≡ true
    → y ≡ cursor (d.at + 1) d.marks → w ≡ cursor y.at (y.marks - 1) → Finds bytes c.marks (grouping (open_limit - c.marks) (drop c.at bytes)) w t
unfolding closed
grouping_found bytes c z d y w t p f e i j =
    let h = seen bytes d.at 41 e in
    let at : w.at ≡ d.at + 1 = ap (λ (y : Cursor). y.at) j ∙ ap (λ (y : Cursor). y.at) i in
    let marks : w.marks ≡ d.marks - 1 = ap (λ (y : Cursor). y.marks) j ∙ ap (λ (y : Cursor). y.marks - 1) i in
    record {
      query = f.query;
      is = grouping_is bytes c z p ∙ rw (f.is, e, past bytes d.at h, at) refl;
      inside = omega arith;
      back = shut_back c z d w p.is f.back marks;
      table = f.table;
    }

-- A FACTOR
pub factor_negated : (bytes : List ℕ) (c : Cursor) → starts 33 (drop c.at bytes) ≡ true
    → here factor bytes c ≡ negation (open_limit - c.marks) (drop c.at bytes)
factor_negated bytes c e = read_factor (open_limit - c.marks) (drop c.at bytes) ∙ rw e refl

pub factor_grouped : (bytes : List ℕ) (c : Cursor) → starts 33 (drop c.at bytes) ≡ false → starts 40 (drop c.at bytes) ≡ true
    → here factor bytes c ≡ grouping (open_limit - c.marks) (drop c.at bytes)
factor_grouped bytes c e g = read_factor (open_limit - c.marks) (drop c.at bytes) ∙ rw (e, g) refl

pub factor_atom : (bytes : List ℕ) (c : Cursor) → starts 33 (drop c.at bytes) ≡ false → starts 40 (drop c.at bytes) ≡ false
    → here factor bytes c ≡ atom (drop c.at bytes)
factor_atom bytes c e g = read_factor (open_limit - c.marks) (drop c.at bytes) ∙ rw (e, g) refl

-- what an answer says, by its case
pub as_got : (bytes : List ℕ) (n : ℕ) (x : Read) {r : Reading} {d : Cursor} {t : Truth} → r ≡ Reading.Got d t → ReadAs bytes n x r → Finds bytes n x d t
as_got bytes n x e s = subst (λ (r : Reading). ReadAs bytes n x r) e s

pub as_bad : (bytes : List ℕ) (n : ℕ) (x : Read) {r : Reading} → r ≡ Reading.Bad → ReadAs bytes n x r → x ≡ bad
as_bad bytes n x e s = subst (λ (r : Reading). ReadAs bytes n x r) e s

-- the same inside the reader
pub reads_got : (bytes : List ℕ) (n : ℕ) (x : Read) {r : Option (Cursor × Truth)} {d : Cursor} {t : Truth} → r ≡ Some (d, t) → Reads bytes n x r → Finds bytes n x d t
reads_got bytes n x e s = subst (λ (r : Option (Cursor × Truth)). Reads bytes n x r) e s

pub reads_bad : (bytes : List ℕ) (n : ℕ) (x : Read) {r : Option (Cursor × Truth)} → r ≡ None → Reads bytes n x r → x ≡ bad
reads_bad bytes n x e s = subst (λ (r : Option (Cursor × Truth)). Reads bytes n x r) e s

pub reads_is : (bytes : List ℕ) (n : ℕ) (x y : Read) (r : Option (Cursor × Truth)) → x ≡ y → Reads bytes n y r → Reads bytes n x r
reads_is bytes n x y r e s = subst (λ (x : Read). Reads bytes n x r) (sym e) s
