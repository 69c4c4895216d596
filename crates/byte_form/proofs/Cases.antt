-- Small forms of document 01's layout, byte by byte, and bytes that are none.
use Prim.Native.Nat.{ℕ}
use mathlib.Core.Path.{◌≡◌, refl}
use mathlib.Core.Bool.{true, false}
use mathlib.Core.List.{List, [], ◌∷◌, ◌++◌}
use lib.IntN.{ℤ, pos, negsuc}
use Rattle.span.specs.Span.{joins, tidy}
use Rattle.key.specs.Rank.{above_least, bit_rank}
use Rattle.outcomes.specs.Stored.{spans, ranges, filled, zeros, noughts, unused, well_formed}
use Rattle.outcomes.specs.Outcomes.{entries}
use Rattle.key.specs.declared.Entry.{Entry}
use Rattle.byte_form.specs.Bytes.{bytes_of, number_in, range_bytes, range_in}
use Rattle.byte_form.specs.Layout.{rm01}
use Rattle.byte_form.specs.Form.{entries_of, ranges_bytes, form_of, ranges_in, count_in, map_of, map_in, same_bytes, is_form}

-- what a well-formed map is, and what a form is
unfoldable maps : Unit {0}
unfolding joins tidy above_least bit_rank spans ranges filled zeros noughts unused well_formed entries
maps = tt

unfoldable forms : Unit {0}
unfolding bytes_of number_in range_bytes range_in entries_of ranges_bytes form_of ranges_in count_in map_of map_in same_bytes is_form
forms = tt

abbrev entry : ℤ → ℤ → ℕ → Entry
entry s e v = record { start = s; end = e; value = v }

-- the bytes of a small number as a key
abbrev small : ℕ → List ℕ
small n = n ∷ 0 ∷ 0 ∷ 0 ∷ 0 ∷ 0 ∷ 0 ∷ 0 ∷ []

-- nothing held
form_empty : form_of rm01 (map_of []) ≡ 0x52 ∷ 0x4D ∷ 0x30 ∷ 0x31 ∷ 0 ∷ 0 ∷ 0 ∷ 0 ∷ []
unfolding maps forms
form_empty = refl

-- -2..5>7
abbrev one : List ℕ
one = 0x52 ∷ 0x4D ∷ 0x30 ∷ 0x31 ∷ 1 ∷ 0 ∷ 0 ∷ 0 ∷ 0xFE ∷ 0xFF ∷ 0xFF ∷ 0xFF ∷ 0xFF ∷ 0xFF ∷ 0xFF ∷ 0xFF ∷ 5 ∷ 0 ∷ 0 ∷ 0 ∷ 0 ∷ 0 ∷ 0 ∷ 0 ∷ 7 ∷ []

form_one : form_of rm01 (map_of (entry (negsuc 1) (pos 5) 7 ∷ [])) ≡ one
unfolding maps forms
form_one = refl

one_is : is_form rm01 one ≡ true
unfolding maps forms
one_is = refl

-- with a spare byte
spare_byte : is_form rm01 (one ++ (0 ∷ [])) ≡ false
unfolding maps forms
spare_byte = refl

-- 0..5>1 and 5..8: with value 2 it is a form, and with value 1 the two touch and are equal
abbrev two : ℕ → List ℕ
two v = rm01.mark ++ (2 ∷ 0 ∷ 0 ∷ 0 ∷ small 0) ++ small 5 ++ (1 ∷ small 5) ++ small 8 ++ (v ∷ [])

touching : is_form rm01 (two 2) ≡ true
unfolding maps forms
touching = refl

touching_equals : is_form rm01 (two 1) ≡ false
unfolding maps forms
touching_equals = refl
