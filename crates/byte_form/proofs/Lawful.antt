-- What the laws of a byte form need of its layout, and that document 01's layout has it.
use Prim.Native.Nat.{ℕ, suc, ◌+◌, ◌-◌, ◌≤◌, ◌<◌}
use native.Mathlib.Omega.{arith}
use mathlib.Core.Path.{◌≡◌, sym, ap, ◌∙◌}
use mathlib.Core.List.{List, [], ◌∷◌, ◌++◌, append_assoc}
use lib.ListN.{length, get_or, take, drop, length-append, length-drop}
use lib.Seq.{get_or_at, take-suc, take_at, drop_at, take-add, get_or-drop, length-take-le}
use mir.Syntax.{w64}
use mir.Val.{SFits, of_z}
use Rattle.key.proofs.Laws.{to_z_fit}
use Rattle.key.specs.declared.Entry.{Entry}
use Rattle.byte_form.specs.Bytes.{i64_size, number_in, key_bytes, range_bytes, range_in, Bytes}
use Rattle.byte_form.specs.Layout.{Layout, rm01}
use Rattle.byte_form.proofs.Laws.{length_bytes, key_back, key_again, bytes_take, bytes_drop}

-- a range whose keys are i64
pub record KeysFit (x : Entry) : Type 0 where
  pub start : SFits w64 x.start
  pub end : SFits w64 x.end

pub record Lawful (layout : Layout) : Type 0 where
  -- every range has the size
  pub long : (x : Entry) → length (layout.written x) ≡ layout.size
  -- what is written is read back, whatever follows it
  pub back : (x : Entry) (rest : List ℕ) → KeysFit x → layout.read (layout.written x ++ rest) ≡ x
  -- what is read is written again
  pub again : (bs : List ℕ) → Bytes bs → layout.size ≤ length bs → layout.written (layout.read bs) ≡ take layout.size bs
  -- its keys are i64
  pub keys : (bs : List ℕ) → KeysFit (layout.read bs)
  -- and its value is u8
  pub value : (bs : List ℕ) → Bytes bs → (layout.read bs).value < 256

-- DOCUMENT 01'S LAYOUT

length_range : (x : Entry) → length (range_bytes x) ≡ rm01.size
unfolding range_bytes
length_range x = rw (length-append, length-append, length_bytes i64_size (of_z w64 x.start), length_bytes i64_size (of_z w64 x.end))

range_back : (x : Entry) (rest : List ℕ) → KeysFit x → range_in (range_bytes x ++ rest) ≡ x
unfolding range_bytes range_in
range_back x rest f =
    let s : List ℕ = key_bytes x.start in
    let e : List ℕ = key_bytes x.end in
    let a : s ++ (e ++ (x.value ∷ [])) ++ rest ≡ s ++ (e ++ (x.value ∷ rest)) =
    append_assoc s (e ++ (x.value ∷ [])) rest ∙ ap (λ (l : List ℕ). s ++ l) (append_assoc e (x.value ∷ []) rest) in
    let ls : length s ≡ i64_size = length_bytes i64_size (of_z w64 x.start) in
    let le : length e ≡ i64_size = length_bytes i64_size (of_z w64 x.end) in
    let d : drop i64_size (s ++ (e ++ (x.value ∷ rest))) ≡ e ++ (x.value ∷ rest) = drop_at s (e ++ (x.value ∷ rest)) i64_size ls in
    let v : get_or (s ++ (e ++ (x.value ∷ rest))) (i64_size + i64_size) 0 ≡ x.value =
    rw (← append_assoc s e (x.value ∷ rest)) (get_or_at (s ++ e) x.value rest 0 (i64_size + i64_size) (length-append s e ∙ rw (ls, le))) in
    rw (a, d, take_at s (e ++ (x.value ∷ rest)) i64_size ls, take_at e (x.value ∷ rest) i64_size le, v, key_back f.start, key_back f.end)

range_again : (bs : List ℕ) → Bytes bs → rm01.size ≤ length bs → range_bytes (range_in bs) ≡ take rm01.size bs
unfolding range_bytes range_in
range_again bs b h =
    let rest : List ℕ = drop i64_size bs in
    let n : length rest ≡ length bs - i64_size = length-drop i64_size bs in
    let s = key_again (take i64_size bs) (bytes_take i64_size bs b) (length-take-le i64_size bs (omega arith)) in
    let e = key_again (take i64_size rest) (bytes_take i64_size rest (bytes_drop i64_size bs b)) (length-take-le i64_size rest (omega arith)) in
    let v : take (suc i64_size) rest ≡ take i64_size rest ++ (get_or bs (i64_size + i64_size) 0 ∷ []) =
    take-suc rest i64_size 0 (omega arith) ∙ rw (get_or-drop i64_size bs i64_size 0) in
    rw (s, e) (sym (take-add i64_size (suc i64_size) bs ∙ ap (λ (l : List ℕ). take i64_size bs ++ l) v))

pub rm01_lawful : Lawful rm01
unfolding range_in
rm01_lawful = record {
  long = length_range;
  back = range_back;
  again = range_again;
  keys = λ bs. record { start = to_z_fit (number_in (take i64_size bs)); end = to_z_fit (number_in (take i64_size (drop i64_size bs))) };
  value = λ bs b. b (i64_size + i64_size);
}
