-- Reading takes bytes away, enough steps are enough, and so each level is read from the level below.
use Prim.Native.Nat.{ℕ, zero, suc, ◌+◌, ◌*◌, ◌≤◌, ◌<◌}
use mathlib.Core.Path.{◌≡◌, refl, sym, subst, ◌∙◌}
use mathlib.Core.Bool.{true, ◌&&◌}
use lib.Dec.{leb}
use mathlib.Core.List.{List, [], ◌∷◌}
use native.Mathlib.Omega.{arith}
use lib.ListN.{length}
use Rattle.query_text.specs.Grammar.{Query, both, either, Level, factor, term, sum}
use Rattle.query_text.specs.Reader.{Read, got, bad, starts, behind, choose, and_then, digit_then, atom, closed, read_steps, height, read_level}
use Rattle.query_text.specs.InnerReading.{negation, grouping}
use Rattle.query_text.proofs.Cases.{choose_ind, then_ind, deeper_ind, choose_same, then_same, deeper_same}

-- what is left is shorter
abbrev pub Shrinks : List ℕ → Read → Type 0
Shrinks bs bad = Unit {0}
Shrinks bs (got q rest) = length rest < length bs

pub behind_le : (bs : List ℕ) → length (behind bs) ≤ length bs
behind_le [] = omega arith
behind_le (b ∷ bs) = omega arith

pub behind_lt : (x : ℕ) (bs : List ℕ) → starts x bs ≡ true → length (behind bs) < length bs
behind_lt x [] e = let z : ◌≡◌ {A = ℕ} 0 1 = cc in omega arith
behind_lt x (b ∷ bs) e = omega arith

digit_shrinks : (make : ℕ → Query) (bs : List ℕ) → Shrinks bs (digit_then make bs)
unfolding digit_then
digit_shrinks make [] = tt
digit_shrinks make (b ∷ bs) = let h : length bs < length (b ∷ bs) = omega arith in choose_ind (Shrinks (b ∷ bs)) (leb 48 b && leb b 57) _ _ (λ e. h) (λ e. tt)

-- shorter than a part is shorter than the whole
from_behind : (bs : List ℕ) (x : Read) → Shrinks (behind bs) x → Shrinks bs x
from_behind bs bad s = tt
from_behind bs (got q r) s = omega (arith, behind_le bs)

atom_shrinks : (bs : List ℕ) → Shrinks bs (atom bs)
unfolding atom
atom_shrinks bs =
    choose_ind (Shrinks bs) (starts 65 bs) _ _ (λ e. from_behind bs (digit_then _ (behind bs)) (digit_shrinks _ (behind bs)))
    (λ e. choose_ind (Shrinks bs) (starts 66 bs) _ _ (λ e. from_behind bs (digit_then _ (behind bs)) (digit_shrinks _ (behind bs))) (λ e. tt))

closed_shrinks : (q : Query) (r bs : List ℕ) → length r ≤ length bs → Shrinks bs (closed q r)
unfolding closed
closed_shrinks q r bs h = choose_ind (Shrinks bs) (starts 41 r) _ _ (λ e. omega (arith, behind_lt 41 r e)) (λ e. tt)

pub shrinks : (k : ℕ) (l : Level) (n : ℕ) (bs : List ℕ) → Shrinks bs (read_steps k l n bs)
unfolding read_steps
shrinks zero l n bs = tt
shrinks (suc k) factor n bs =
    choose_ind (Shrinks bs) (starts 33 bs) _ _
    (λ e. deeper_ind (Shrinks bs) n _ tt (λ m em. then_ind (Shrinks bs) (read_steps k factor m (behind bs)) _ tt
    (λ q r er. let s : length r < length (behind bs) = subst (Shrinks (behind bs)) er (shrinks k factor m (behind bs)) in omega (arith, behind_le bs))))
    (λ e. choose_ind (Shrinks bs) (starts 40 bs) _ _
    (λ e. deeper_ind (Shrinks bs) n _ tt (λ m em. then_ind (Shrinks bs) (read_steps k sum m (behind bs)) _ tt
    (λ q r er. let s : length r < length (behind bs) = subst (Shrinks (behind bs)) er (shrinks k sum m (behind bs)) in
    closed_shrinks q r bs (omega (arith, behind_le bs)))))
    (λ e. atom_shrinks bs))
shrinks (suc k) term n bs =
    then_ind (Shrinks bs) (read_steps k factor n bs) _ tt
    (λ p r er. let s : length r < length bs = subst (Shrinks bs) er (shrinks k factor n bs) in
    choose_ind (Shrinks bs) (starts 38 r) _ _
    (λ e. then_ind (Shrinks bs) (read_steps k term n (behind r)) _ tt
    (λ q more em. let u : length more < length (behind r) = subst (Shrinks (behind r)) em (shrinks k term n (behind r)) in omega (arith, behind_le r)))
    (λ e. s))
shrinks (suc k) sum n bs =
    then_ind (Shrinks bs) (read_steps k term n bs) _ tt
    (λ p r er. let s : length r < length bs = subst (Shrinks bs) er (shrinks k term n bs) in
    choose_ind (Shrinks bs) (starts 124 r) _ _
    (λ e. then_ind (Shrinks bs) (read_steps k sum n (behind r)) _ tt
    (λ q more em. let u : length more < length (behind r) = subst (Shrinks (behind r)) em (shrinks k sum n (behind r)) in omega (arith, behind_le r)))
    (λ e. s))

-- enough steps for the level l at so many bytes
abbrev Enough : ℕ → Level → List ℕ → Type 0
Enough k l bs = 3 * length bs + height l ≤ k

-- more steps than are enough change nothing
steady : (k j : ℕ) (l : Level) (n : ℕ) (bs : List ℕ) → Enough k l bs → Enough j l bs → read_steps k l n bs ≡ read_steps j l n bs
unfolding read_steps
steady zero j factor n bs a b = absurd (omega arith)
steady zero j term n bs a b = absurd (omega arith)
steady zero j sum n bs a b = absurd (omega arith)
steady (suc k) zero factor n bs a b = absurd (omega arith)
steady (suc k) zero term n bs a b = absurd (omega arith)
steady (suc k) zero sum n bs a b = absurd (omega arith)
steady (suc k) (suc j) factor n bs a b =
    choose_same (starts 33 bs) _ _ _ _
    (λ e. let h = behind_lt 33 bs e in deeper_same n _ _ (λ m.
    let s : read_steps k factor m (behind bs) ≡ read_steps j factor m (behind bs) = steady k j factor m (behind bs) (omega arith) (omega arith) in rw s refl))
    (λ e. choose_same (starts 40 bs) _ _ _ _
    (λ e. let h = behind_lt 40 bs e in deeper_same n _ _ (λ m.
    let s : read_steps k sum m (behind bs) ≡ read_steps j sum m (behind bs) = steady k j sum m (behind bs) (omega arith) (omega arith) in rw s refl))
    (λ e. refl))
steady (suc k) (suc j) term n bs a b =
    let s : read_steps k factor n bs ≡ read_steps j factor n bs = steady k j factor n bs (omega arith) (omega arith) in
    rw s (then_same (read_steps j factor n bs) _ _ (λ p r er.
    let u : length r < length bs = subst (Shrinks bs) er (shrinks j factor n bs) in
    choose_same (starts 38 r) _ _ _ _
    (λ e. let v : read_steps k term n (behind r) ≡ read_steps j term n (behind r) = steady k j term n (behind r) (omega (arith, behind_lt 38 r e))
    (omega (arith, behind_lt 38 r e)) in rw v refl)
    (λ e. refl)))
steady (suc k) (suc j) sum n bs a b =
    let s : read_steps k term n bs ≡ read_steps j term n bs = steady k j term n bs (omega arith) (omega arith) in
    rw s (then_same (read_steps j term n bs) _ _ (λ p r er.
    let u : length r < length bs = subst (Shrinks bs) er (shrinks j term n bs) in
    choose_same (starts 124 r) _ _ _ _
    (λ e. let v : read_steps k sum n (behind r) ≡ read_steps j sum n (behind r) = steady k j sum n (behind r) (omega (arith, behind_lt 124 r e))
    (omega (arith, behind_lt 124 r e)) in rw v refl)
    (λ e. refl)))

pub read_shrinks : (l : Level) (n : ℕ) (bs : List ℕ) → Shrinks bs (read_level l n bs)
unfolding read_level
read_shrinks l n bs = shrinks (3 * length bs + height l) l n bs

-- as many steps as are enough read what is read
enough : (k : ℕ) (l : Level) (n : ℕ) (bs : List ℕ) → Enough k l bs → read_steps k l n bs ≡ read_level l n bs
unfolding read_level
enough k l n bs h = steady k (3 * length bs + height l) l n bs h (omega arith)

-- what comes behind a part of the level below: an operator and more of the level, or nothing
abbrev pub more : Level → ℕ → (Query → Query → Query) → ℕ → Query → List ℕ → Read
more h x op n p rest = choose (starts x rest) (λ u. and_then (read_level h n (behind rest)) (λ q rest. got (op p q) rest)) (λ u. got p rest)

factor_step : (k n : ℕ) (bs : List ℕ) → 3 * length bs ≤ k
    → read_steps (suc k) factor n bs ≡ choose (starts 33 bs) (λ u. negation n bs) (λ u. choose (starts 40 bs) (λ u. grouping n bs) (λ u. atom bs))
unfolding read_steps
factor_step k n bs a =
    choose_same (starts 33 bs) _ _ _ _
    (λ e. let h = behind_lt 33 bs e in deeper_same n _ _ (λ m.
    let s : read_steps k factor m (behind bs) ≡ read_level factor m (behind bs) = enough k factor m (behind bs) (omega arith) in rw s refl))
    (λ e. choose_same (starts 40 bs) _ _ _ _
    (λ e. let h = behind_lt 40 bs e in deeper_same n _ _ (λ m.
    let s : read_steps k sum m (behind bs) ≡ read_level sum m (behind bs) = enough k sum m (behind bs) (omega arith) in rw s refl))
    (λ e. refl))

term_step : (k n : ℕ) (bs : List ℕ) → 3 * length bs + 1 ≤ k → read_steps (suc k) term n bs ≡ and_then (read_level factor n bs) (more term 38 both n)
unfolding read_steps
term_step k n bs a =
    let s : read_steps k factor n bs ≡ read_level factor n bs = enough k factor n bs (omega arith) in
    rw s (then_same (read_level factor n bs) _ _ (λ p r er.
    let u : length r < length bs = subst (Shrinks bs) er (read_shrinks factor n bs) in
    choose_same (starts 38 r) _ _ _ _
    (λ e. let v : read_steps k term n (behind r) ≡ read_level term n (behind r) = enough k term n (behind r) (omega (arith, behind_lt 38 r e)) in rw v refl)
    (λ e. refl)))

sum_step : (k n : ℕ) (bs : List ℕ) → 3 * length bs + 2 ≤ k → read_steps (suc k) sum n bs ≡ and_then (read_level term n bs) (more sum 124 either n)
unfolding read_steps
sum_step k n bs a =
    let s : read_steps k term n bs ≡ read_level term n bs = enough k term n bs (omega arith) in
    rw s (then_same (read_level term n bs) _ _ (λ p r er.
    let u : length r < length bs = subst (Shrinks bs) er (read_shrinks term n bs) in
    choose_same (starts 124 r) _ _ _ _
    (λ e. let v : read_steps k sum n (behind r) ≡ read_level sum n (behind r) = enough k sum n (behind r) (omega (arith, behind_lt 124 r e)) in rw v refl)
    (λ e. refl)))

-- EACH LEVEL FROM THE LEVEL BELOW
pub read_factor : (n : ℕ) (bs : List ℕ) → read_level factor n bs ≡ choose (starts 33 bs) (λ u. negation n bs)
    (λ u. choose (starts 40 bs) (λ u. grouping n bs) (λ u. atom bs))
read_factor n bs = sym (enough (suc (3 * length bs)) factor n bs (omega arith)) ∙ factor_step (3 * length bs) n bs (omega arith)

pub read_term : (n : ℕ) (bs : List ℕ) → read_level term n bs ≡ and_then (read_level factor n bs) (more term 38 both n)
read_term n bs = sym (enough (suc (3 * length bs + 1)) term n bs (omega arith)) ∙ term_step (3 * length bs + 1) n bs (omega arith)

pub read_sum : (n : ℕ) (bs : List ℕ) → read_level sum n bs ≡ and_then (read_level term n bs) (more sum 124 either n)
read_sum n bs = sym (enough (suc (3 * length bs + 2)) sum n bs (omega arith)) ∙ sum_step (3 * length bs + 2) n bs (omega arith)
