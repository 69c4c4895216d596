-- A letter and a digit; and the whole query.
use Prim.Native.Nat.{ℕ, ◌+◌, ◌-◌, ◌≤◌, ◌<◌}
use native.Mathlib.Numerals.{add-one}
use mathlib.Core.Path.{◌≡◌, refl, sym, ap, ◌∙◌}
use mathlib.Core.Bool.{true, false}
use mathlib.Core.List.{List, [], ◌∷◌}
use native.Mathlib.Omega.{arith}
use borrow.Author.Tests.{leb-true, le-leb, lt-leb}
use lib.Dec.{leb}
use lib.ListN.{length, drop, get_or, drop_of_length-le}
use lib.Seq.{drop-cons}
use Rattle.query_text.specs.Grammar.{Query, first, second, sum, open_limit, longest_query}
use Rattle.query_text.specs.InnerClasses.{class_truth}
use Rattle.query_text.specs.Reader.{got, bad, starts, digit_then, atom, read_level, whole, query_of}
use Rattle.query_text.proofs.Cases.{both_true}
use Rattle.query_text.specs.declared.cursor.Cursor.{Cursor}
use Rattle.query_text.specs.InnerCursor.{cursor, starts_digit}
use Rattle.query_text.proofs.Bytes.{seen, past, digit_seen, digit_here}
use Rattle.query_text.specs.declared.truth.Truth.{Truth}
use Rattle.query_text.specs.InnerTable.{Shows}
use Rattle.std.specs.Prelude.{Option}
use Rattle.query_text.specs.InnerReading.{Finds, Reads}
use Rattle.query_text.proofs.Parts.{reads_is}

pub no_digit : (make : ℕ → Query) (bs : List ℕ) → starts_digit bs ≡ false → digit_then make bs ≡ bad
unfolding digit_then
no_digit make [] e = refl
no_digit make (b ∷ bs) e = rw e

-- a digit comes next
pub record DigitAt (bytes : List ℕ) (i : ℕ) : Type 0 where
  pub inside : i < length bytes
  pub low : 48 ≤ get_or bytes i 0
  pub high : get_or bytes i 0 ≤ 57

pub digit_at : (bytes : List ℕ) (i : ℕ) → starts_digit (drop i bytes) ≡ true → DigitAt bytes i
digit_at bytes i e =
    let h = digit_seen bytes i e in
    let t = both_true (leb 48 (get_or bytes i 0)) (leb (get_or bytes i 0) 57) (sym (digit_here bytes i h) ∙ e) in
    record { inside = h; low = leb-true 48 (get_or bytes i 0) t.0; high = leb-true (get_or bytes i 0) 57 t.1 }

digit_is : (make : ℕ → Query) (bytes : List ℕ) (i : ℕ) → DigitAt bytes i → digit_then make (drop i bytes) ≡ got (make (get_or bytes i 0 - 48)) (drop (i + 1) bytes)
unfolding digit_then
digit_is make bytes i d = rw (drop-cons bytes i 0 d.inside, le-leb 48 (get_or bytes i 0) d.low, le-leb (get_or bytes i 0) 57 d.high, add-one i) refl

pub digit_found : (make : ℕ → Query) (bytes : List ℕ) (c z : Cursor) (v : ℕ) (t : Truth)
    → DigitAt bytes c.at → z ≡ cursor (c.at + 1) c.marks → v ≡ get_or bytes c.at 0 - 48 → Shows t (class_truth (make v))
    → Finds bytes c.marks (digit_then make (drop c.at bytes)) z t
digit_found make bytes c z v t d e i s =
    let at : z.at ≡ c.at + 1 = ap (λ (y : Cursor). y.at) e in
    record {
      query = make (get_or bytes c.at 0 - 48);
      is = digit_is make bytes c.at d ∙ rw at refl;
      inside = omega (arith, d.inside);
      back = ap (λ (y : Cursor). y.marks) e;
      table = λ a b ha hb. s a b ha hb ∙ ap (λ (x : ℕ). class_truth (make x) a b) i;
    }

pub atom_first : (bytes : List ℕ) (c z : Cursor) (r : Option (Cursor × Truth)) → starts 65 (drop c.at bytes) ≡ true → z ≡ cursor (c.at + 1) c.marks
    → Reads bytes z.marks (digit_then first (drop z.at bytes)) r → Reads bytes c.marks (atom (drop c.at bytes)) r
unfolding atom
atom_first bytes c z r e i s =
    let h = seen bytes c.at 65 e in
    let x : atom (drop c.at bytes) ≡ digit_then first (drop (c.at + 1) bytes) = rw (e, past bytes c.at h) in
    reads_is bytes c.marks _ _ r x (rw i at s)

pub atom_second : (bytes : List ℕ) (c z : Cursor) (r : Option (Cursor × Truth)) → starts 65 (drop c.at bytes) ≡ false → starts 66 (drop c.at bytes) ≡ true
    → z ≡ cursor (c.at + 1) c.marks
    → Reads bytes z.marks (digit_then second (drop z.at bytes)) r → Reads bytes c.marks (atom (drop c.at bytes)) r
unfolding atom
atom_second bytes c z r f e i s =
    let h = seen bytes c.at 66 e in
    let x : atom (drop c.at bytes) ≡ digit_then second (drop (c.at + 1) bytes) = rw (f, e, past bytes c.at h) in
    reads_is bytes c.marks _ _ r x (rw i at s)

pub no_atom : (bytes : List ℕ) (c : Cursor) → starts 65 (drop c.at bytes) ≡ false → starts 66 (drop c.at bytes) ≡ false → atom (drop c.at bytes) ≡ bad
unfolding atom
no_atom bytes c f e = rw (f, e) refl

-- THE WHOLE
pub too_long : (bytes : List ℕ) → longest_query < length bytes → query_of bytes ≡ bad
unfolding query_of
too_long bytes h = rw (lt-leb (length bytes) longest_query h) refl

query_is : (bytes : List ℕ) → length bytes ≤ longest_query → query_of bytes ≡ whole (read_level sum open_limit bytes)
unfolding query_of
query_is bytes h = rw (le-leb (length bytes) longest_query h) refl

pub no_sum : (bytes : List ℕ) → length bytes ≤ longest_query → read_level sum open_limit bytes ≡ bad → query_of bytes ≡ bad
no_sum bytes h e = query_is bytes h ∙ rw e refl

pub not_all : (bytes : List ℕ) (d : Cursor) (t : Truth) → length bytes ≤ longest_query → Finds bytes 0 (read_level sum open_limit bytes) d t → d.at < length bytes
    → query_of bytes ≡ bad
not_all bytes d t h f i = query_is bytes h ∙ rw (f.is, drop-cons bytes d.at 0 i) refl

pub all_read : (bytes : List ℕ) (d : Cursor) (t : Truth) → length bytes ≤ longest_query → Finds bytes 0 (read_level sum open_limit bytes) d t → length bytes ≤ d.at
    → Finds bytes 0 (query_of bytes) d t
all_read bytes d t h f i =
    let n : drop d.at bytes ≡ [] = drop_of_length-le bytes {i = d.at} i in
    record {
      query = f.query;
      is = query_is bytes h ∙ rw (f.is, n) refl;
      inside = f.inside;
      back = f.back;
      table = f.table;
    }
