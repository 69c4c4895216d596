-- Document 01, Byte form: the mark, count as u32, then range after range; what the writer and the reader answer and leave. All of it is over any layout:
-- document 01's is `rm01`.
use Rattle.std.specs.Prelude.{ℕ, zero, suc, ◌≡◌, Bool, true, false, ◌&&◌, cond, List, [], ◌∷◌, ◌++◌, map, eqb, ltb, length, take, drop, pos, Ok, Err}
use Rattle.answers.specs.Answers.{done, no_map}
use Rattle.outcomes.specs.Stored.{places, filled}
use Rattle.outcomes.specs.declared.Stored.{Stored}
use Rattle.outcomes.specs.Outcomes.{entries, formed, Edited, leaving}
use Rattle.key.specs.declared.Entry.{Entry}
use Rattle.outcomes.specs.Numbers.{counted_in_c}
use Rattle.outcomes.specs.declared.Count.{Count}
use Rattle.outcomes.specs.Answered.{Counted}
use Rattle.byte_form.specs.Bytes.{u32_size, number_in}
use Rattle.byte_form.specs.Layout.{Layout, head_of, head_size}
use Rattle.answers.specs.declared.Refusal.TheVariants.{TooShort, NotFormed}

-- the ranges that a map holds, place by place: those of its first `count` places
unfoldable pub entries_of : Stored → List Entry
entries_of m = take m.count (entries m.starts m.ends m.values)

-- the map of some ranges: unused places hold start 0, end 0, value 0
unfoldable pub map_of : List Entry → Stored
map_of xs = record {
  count = length xs;
  starts = filled places (pos 0) (map (λ (x : Entry). x.start) xs);
  ends = filled places (pos 0) (map (λ (x : Entry). x.end) xs);
  values = filled places 0 (map (λ (x : Entry). x.value) xs);
}

-- what the writer answers, the number of bytes if it is done, and what the lent output holds then
pub record Output : Type 0 where
  pub answer : Counted
  pub out : List ℕ

abbrev pub output : Counted → List ℕ → Output
output r out = record { answer = r; out = out }

-- what C and Rust see of it: the number and the count, and what the lent output holds
pub record Wrote (r : Count) (out : List ℕ) (w : Output) : Type 0 where
  pub number : r ≡ counted_in_c w.answer
  pub out_is : out ≡ w.out

-- bytes into the first places of a lent output, if it is long enough
unfoldable pub into_output : List ℕ → List ℕ → Output
into_output bs out = cond (ltb (length out) (length bs)) (output (Err TooShort) out)
    (output (Ok (length bs)) (bs ++ drop (length bs) out))

-- are two lists of bytes the same
unfoldable pub same_bytes : List ℕ → List ℕ → Bool
same_bytes [] [] = true
same_bytes [] (c ∷ cs) = false
same_bytes (b ∷ bs) [] = false
same_bytes (b ∷ bs) (c ∷ cs) = eqb b c && same_bytes bs cs

module _ (layout : Layout) where
  -- range after range
  unfoldable pub ranges_bytes : List Entry → List ℕ
  ranges_bytes [] = []
  ranges_bytes (x ∷ xs) = layout.written x ++ ranges_bytes xs

  -- THE BYTE FORM of a map: the mark, the count, and its ranges
  unfoldable pub form_of : Stored → List ℕ
  form_of m = head_of layout m.count ++ ranges_bytes (entries_of m)

  -- THE WRITER
  unfoldable pub write : Stored → List ℕ → Output
  write m out = cond (formed layout.kind m) (into_output (form_of m) out) (output (Err NotFormed) out)

  -- the first n ranges of some bytes
  unfoldable pub ranges_in : ℕ → List ℕ → List Entry
  ranges_in zero bs = []
  ranges_in (suc n) bs = layout.read bs ∷ ranges_in n (drop layout.size bs)

  -- the count that bytes tell: it stands behind the mark
  unfoldable pub count_in : List ℕ → ℕ
  count_in bs = number_in (take u32_size (drop (length layout.mark) bs))

  -- the only map that bytes can be the form of: that of the ranges that stand in them
  unfoldable pub map_in : List ℕ → Stored
  map_in bs = map_of (ranges_in (count_in bs) (drop (head_size layout) bs))

  -- are bytes the form of a well-formed map
  unfoldable pub is_form : List ℕ → Bool
  is_form bs = formed layout.kind (map_in bs) && same_bytes bs (form_of (map_in bs))

  -- THE READER. It overwrites its map, so it does not check it
  unfoldable pub read : Stored → List ℕ → Edited
  read m bs = cond (is_form bs) (leaving done (map_in bs)) (leaving no_map m)
