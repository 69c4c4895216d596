-- Document 01, Query and its Cases, of the reader by computation: which bytes are a query, and which one.
-- By `taken` and `refused` the same holds of the grammar: the last part says so of the document's own cases.
use Prim.Native.Nat.{ℕ, zero, suc}
use Prim.Native.Char.{code}
use Prim.Native.String.{String, [] as end, ◌∷◌ as ◌then◌}
use mathlib.Core.Path.{◌≡◌, refl}
use mathlib.Core.List.{List, [], ◌∷◌}
use lib.ListN.{length}
use Rattle.query_text.specs.Grammar.{Query, first, second, no, both, either, Is}
use Rattle.query_text.specs.Reader.{got, bad, query_of, read_level, read_steps, digit_then, atom, closed}
use Rattle.query_text.proofs.Unambiguous.{taken, refused}

-- the bytes of a text of ASCII characters
unfoldable pub bytes : String → List ℕ
bytes end = []
bytes (c then t) = code c ∷ bytes t

-- `!` so many times, and A1 or a query that is so many times A1 or it
unfoldable nots : ℕ → Query → Query
nots zero q = q
nots (suc n) q = no (nots n q)

unfoldable ones : ℕ → Query → Query
ones zero q = q
ones (suc n) q = either (first 1) (ones n q)

-- is a text the query, and is it none
abbrev Parses : String → Query → Type 0
Parses t q = query_of (bytes t) ≡ got q []

abbrev Fails : String → Type 0
Fails t = query_of (bytes t) ≡ bad

-- `unfolding all` opens every definition that a case computes with
unfoldable all : Unit {0}
unfolding query_of read_level read_steps digit_then atom closed bytes nots ones
all = tt

-- DOCUMENT 01'S CASES
parses : Parses "A3&!B1" (both (first 3) (no (second 1)))
unfolding all
parses = refl

nothing_behind_and : Fails "A3&"
unfolding all
nothing_behind_and = refl

no_digit : Fails "A"
unfolding all
no_digit = refl

nothing : Fails ""
unfolding all
nothing = refl

seventeen : Fails "!!!!!!!!!!!!!!!!!A3"
unfolding all
seventeen = refl

-- an atom is a capital letter and one digit, and no byte is skipped
least_digit : Parses "A0" (first 0)
unfolding all
least_digit = refl

greatest_digit : Parses "B9" (second 9)
unfolding all
greatest_digit = refl

two_digits : Fails "A12"
unfolding all
two_digits = refl

small_letter : Fails "a3"
unfolding all
small_letter = refl

third_map : Fails "C3"
unfolding all
third_map = refl

no_such_digit : Fails "A:"
unfolding all
no_such_digit = refl

space_behind : Fails "A3 "
unfolding all
space_behind = refl

space_before : Fails " A3"
unfolding all
space_before = refl

space_inside : Fails "A3 &B1"
unfolding all
space_inside = refl

no_sign_between : Fails "A3B1"
unfolding all
no_sign_between = refl

digit_alone : Fails "3"
unfolding all
digit_alone = refl

-- signs want operands, and parentheses their mates
nothing_in_parentheses : Fails "()"
unfolding all
nothing_in_parentheses = refl

never_opened : Fails "A3)"
unfolding all
never_opened = refl

never_shut : Fails "(A3"
unfolding all
never_shut = refl

and_first : Fails "&A3"
unfolding all
and_first = refl

or_last : Fails "A3|"
unfolding all
or_last = refl

two_ands : Fails "A3&&B1"
unfolding all
two_ands = refl

not_alone : Fails "!"
unfolding all
not_alone = refl

not_behind : Fails "A3!"
unfolding all
not_behind = refl

in_parentheses : Parses "(A3)" (first 3)
unfolding all
in_parentheses = refl

-- `!` binds tightest, then `&`, then `|`; parentheses bind first; a row of one sign binds from the right
not_binds : Parses "!A1&B2" (both (no (first 1)) (second 2))
unfolding all
not_binds = refl

and_binds : Parses "A1|B2&A3" (either (first 1) (both (second 2) (first 3)))
unfolding all
and_binds = refl

and_binds_first : Parses "A1&B2|A3" (either (both (first 1) (second 2)) (first 3))
unfolding all
and_binds_first = refl

parentheses_bind : Parses "(A1|B2)&A3" (both (either (first 1) (second 2)) (first 3))
unfolding all
parentheses_bind = refl

not_of_parentheses : Parses "!(A1&B2)" (no (both (first 1) (second 2)))
unfolding all
not_of_parentheses = refl

row_of_ands : Parses "A1&B2&A3" (both (first 1) (both (second 2) (first 3)))
unfolding all
row_of_ands = refl

row_of_ors : Parses "A1|B2|A3" (either (first 1) (either (second 2) (first 3)))
unfolding all
row_of_ors = refl

-- at most 16 marks open at once, `!` and `(` counted together
sixteen_nots : Parses "!!!!!!!!!!!!!!!!A3" (nots 16 (first 3))
unfolding all
sixteen_nots = refl

sixteen_groups : Parses "((((((((((((((((A3))))))))))))))))" (first 3)
unfolding all
sixteen_groups = refl

seventeen_groups : Fails "(((((((((((((((((A3)))))))))))))))))"
unfolding all
seventeen_groups = refl

eight_and_eight : Parses "!!!!!!!!((((((((A3))))))))" (nots 8 (first 3))
unfolding all
eight_and_eight = refl

eight_and_eight_in_turn : Parses "!(!(!(!(!(!(!(!(A3))))))))" (nots 8 (first 3))
unfolding all
eight_and_eight_in_turn = refl

nine_and_eight : Fails "!!!!!!!!!((((((((A3))))))))"
unfolding all
nine_and_eight = refl

eight_and_nine : Fails "!!!!!!!!(((((((((A3)))))))))"
unfolding all
eight_and_nine = refl

nine_and_eight_in_turn : Fails "!!(!(!(!(!(!(!(!(A3))))))))"
unfolding all
nine_and_eight_in_turn = refl

-- a mark that is shut is given back: 24, 25 and 32 marks in all, and never more than 16 open; 4 in small groups. The last has 17 open
groups_in_a_row : Parses "((((((((((((A1&B2))))))))))))&((((((((((((A1&B2))))))))))))" (both (both (first 1) (second 2)) (both (first 1) (second 2)))
unfolding all
groups_in_a_row = refl

groups_in_a_group : Parses "((((((((((((((((A1)))))))))|(((((((((A1))))))))))))))))" (either (first 1) (first 1))
unfolding all
groups_in_a_group = refl

nots_in_a_row : Parses "!!!!!!!!!!!!!!!!A1&!!!!!!!!!!!!!!!!A1" (both (nots 16 (first 1)) (nots 16 (first 1)))
unfolding all
nots_in_a_row = refl

small_groups : Parses "(A1)&(A1)&(A1)&(A1)" (both (first 1) (both (first 1) (both (first 1) (first 1))))
unfolding all
small_groups = refl

nots_in_a_not : Fails "!(!!!!!!!!!!!!!!!A1&!!!!!!!!!!!!!!!A1)"
unfolding all
nots_in_a_not = refl

-- 64 bytes are taken, and 65 are not, though they would be a query if they were fewer
abbrev longest_text : String
longest_text = "A1|A1|A1|A1|A1|A1|A1|A1|A1|A1|A1|A1|A1|A1|A1|A1|A1|A1|A1|A1|!!A1"

abbrev too_long_text : String
too_long_text = "A1|A1|A1|A1|A1|A1|A1|A1|A1|A1|A1|A1|A1|A1|A1|A1|A1|A1|A1|A1|!!!A1"

longest_length : length (bytes longest_text) ≡ 64
unfolding all
longest_length = refl

longest_taken : Parses longest_text (ones 20 (nots 2 (first 1)))
unfolding all
longest_taken = refl

too_long_length : length (bytes too_long_text) ≡ 65
unfolding all
too_long_length = refl

too_long : Fails too_long_text
unfolding all
too_long = refl

-- OF THE GRAMMAR: document 01's cases
pub parses_is : Is (bytes "A3&!B1") (both (first 3) (no (second 1)))
parses_is = (taken (bytes "A3&!B1") (both (first 3) (no (second 1)))).taken_is parses

pub nothing_behind_and_is : (q : Query) → Is (bytes "A3&") q → ⊥
nothing_behind_and_is = (refused (bytes "A3&")).refused_none nothing_behind_and

pub no_digit_is : (q : Query) → Is (bytes "A") q → ⊥
no_digit_is = (refused (bytes "A")).refused_none no_digit

pub nothing_is : (q : Query) → Is (bytes "") q → ⊥
nothing_is = (refused (bytes "")).refused_none nothing

pub seventeen_is : (q : Query) → Is (bytes "!!!!!!!!!!!!!!!!!A3") q → ⊥
seventeen_is = (refused (bytes "!!!!!!!!!!!!!!!!!A3")).refused_none seventeen
