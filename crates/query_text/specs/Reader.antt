-- How a query is read, byte by byte: the answers are computed by this. It is no further promise, since it reads exactly what the grammar says
-- (`is_read` and `read_is`, in proofs/Grammar).
use Rattle.std.specs.Prelude.{ℕ, zero, suc, ◌+◌, ◌-◌, ◌*◌, Bool, true, false, ◌&&◌, List, [], ◌∷◌, eqb, leb, length}
use Rattle.query_text.specs.Grammar.{Query, first, second, no, both, either, Level, factor, term, sum, open_limit, longest_query}

-- a query, and the bytes behind it
pub data Read : Type 0 where
  got : Query → List ℕ → Read
  bad : Read

-- does the byte x come next
abbrev pub starts : ℕ → List ℕ → Bool
starts x [] = false
starts x (b ∷ bs) = eqb b x

-- what comes behind the next byte
abbrev pub behind : List ℕ → List ℕ
behind [] = []
behind (b ∷ bs) = bs

-- the branch that is not taken is not computed
abbrev pub choose : Bool → (Unit {0} → Read) → (Unit {0} → Read) → Read
choose true a b = a tt
choose false a b = b tt

-- what is read next, where a query was read
abbrev pub and_then : Read → (Query → List ℕ → Read) → Read
and_then bad k = bad
and_then (got q bs) k = k q bs

-- one mark more is open, if there is room for it
abbrev pub deeper : ℕ → (ℕ → Read) → Read
deeper zero k = bad
deeper (suc n) k = k n

-- a digit
unfoldable pub digit_then : (ℕ → Query) → List ℕ → Read
digit_then make [] = bad
digit_then make (b ∷ bs) = choose (leb 48 b && leb b 57) (λ u. got (make (b - 48)) bs) (λ u. bad)

-- A or B, then a digit
unfoldable pub atom : List ℕ → Read
atom bs = choose (starts 65 bs) (λ u. digit_then first (behind bs)) (λ u. choose (starts 66 bs) (λ u. digit_then second (behind bs)) (λ u. bad))

-- `)` behind what is in parentheses
unfoldable pub closed : Query → List ℕ → Read
closed q bs = choose (starts 41 bs) (λ u. got q (behind bs)) (λ u. bad)

-- what is read at a level with room for n open marks, in at most so many steps
unfoldable pub read_steps : ℕ → Level → ℕ → List ℕ → Read
read_steps zero l n bs = bad
read_steps (suc k) factor n bs =
    choose (starts 33 bs)
    (λ u. deeper n (λ m. and_then (read_steps k factor m (behind bs)) (λ q rest. got (no q) rest)))
    (λ u. choose (starts 40 bs) (λ u. deeper n (λ m. and_then (read_steps k sum m (behind bs)) closed)) (λ u. atom bs))
read_steps (suc k) term n bs =
    and_then (read_steps k factor n bs) (λ p rest. choose (starts 38 rest)
    (λ u. and_then (read_steps k term n (behind rest)) (λ q more. got (both p q) more))
    (λ u. got p rest))
read_steps (suc k) sum n bs =
    and_then (read_steps k term n bs) (λ p rest. choose (starts 124 rest)
    (λ u. and_then (read_steps k sum n (behind rest)) (λ q more. got (either p q) more))
    (λ u. got p rest))

-- how many steps are enough: each level takes one, and each byte all of them
abbrev pub height : Level → ℕ
height factor = 1
height term = 2
height sum = 3

-- what is read at a level with room for n open marks
unfoldable pub read_level : Level → ℕ → List ℕ → Read
read_level l n bs = read_steps (3 * length bs + height l) l n bs

-- all bytes are read
abbrev pub whole : Read → Read
whole bad = bad
whole (got q []) = got q []
whole (got q (b ∷ bs)) = bad

-- THE QUERY that the bytes are, or none
unfoldable pub query_of : List ℕ → Read
query_of bs = choose (leb (length bs) longest_query) (λ u. whole (read_level sum open_limit bs)) (λ u. bad)
