-- What is read is what the grammar says: all of it (`reads_all`), and nothing else (`reads_only`). So bytes are one query at most (`one_query`).
use Prim.Native.Nat.{ℕ, zero, suc, ◌+◌, ◌-◌, ◌*◌, ◌≤◌}
use mathlib.Core.Path.{◌≡◌, refl, sym, ap, subst, ◌∙◌}
use mathlib.Core.Bool.{true, false, ◌&&◌}
use mathlib.Core.List.{List, [], ◌∷◌, ◌++◌, append_assoc, append-nil}
use native.Mathlib.Omega.{arith}
use borrow.Author.Tests.{le-leb, leb-true, eqb-true}
use lib.Dec.{leb}
use lib.ListN.{length}
use Rattle.query_text.specs.Grammar.{Query, first, second, Level, factor, term, sum, Spells, in_first, in_second, negated, grouped}
use Rattle.query_text.specs.Grammar.{a_factor, and_term, a_term, or_sum, open_limit, longest_query, Is}
use Rattle.query_text.specs.Reader.{Read, got, bad, starts, behind, digit_then, atom, closed, read_steps, height, read_level, whole, query_of}
use Rattle.query_text.proofs.Cases.{both_true, choose_ind, then_ind, deeper_ind}
use Rattle.query_text.proofs.Steps.{read_factor, read_term, read_sum}

-- nothing comes behind that would belong to the level
abbrev Free : Level → List ℕ → Type 0
Free factor rest = Unit {0}
Free term rest = starts 38 rest ≡ false
Free sum rest = (starts 38 rest ≡ false) × (starts 124 rest ≡ false)

digit_read : (make : ℕ → Query) (d : ℕ) (rest : List ℕ) → d ≤ 9 → digit_then make ((48 + d) ∷ rest) ≡ got (make d) rest
unfolding digit_then
digit_read make d rest h =
    let e : 48 + d - 48 ≡ d = omega arith in
    rw (le-leb 48 (48 + d) (omega arith), le-leb (48 + d) 57 (omega arith), e)

pub reads_all : {l : Level} {n : ℕ} {w : List ℕ} {q : Query} → Spells l n w q → (rest : List ℕ) → Free l rest → read_level l n (w ++ rest) ≡ got q rest
unfolding atom closed
reads_all (in_first {n} {d} h) rest f = read_factor n (65 ∷ (48 + d) ∷ rest) ∙ digit_read first d rest h
reads_all (in_second {n} {d} h) rest f = read_factor n (66 ∷ (48 + d) ∷ rest) ∙ digit_read second d rest h
reads_all (negated {n} {w} {q} s) rest f =
    let ih : read_level factor n (w ++ rest) ≡ got q rest = reads_all s rest tt in
    read_factor (suc n) (33 ∷ (w ++ rest)) ∙ rw ih refl
reads_all (grouped {n} {w} {q} s) rest f =
    let ih : read_level sum n (w ++ (41 ∷ rest)) ≡ got q (41 ∷ rest) = reads_all s (41 ∷ rest) (refl, refl) in
    let a : (w ++ (41 ∷ [])) ++ rest ≡ w ++ (41 ∷ rest) = append_assoc w (41 ∷ []) rest in
    rw a (read_factor (suc n) (40 ∷ (w ++ (41 ∷ rest))) ∙ rw ih refl)
reads_all (a_factor {n} {w} {q} s) rest f =
    let ih : read_level factor n (w ++ rest) ≡ got q rest = reads_all s rest tt in
    read_term n (w ++ rest) ∙ rw (ih, f) refl
reads_all (and_term {n} {v} {w} {p} {q} s t) rest f =
    let one : read_level factor n (v ++ (38 ∷ (w ++ rest))) ≡ got p (38 ∷ (w ++ rest)) = reads_all s (38 ∷ (w ++ rest)) tt in
    let two : read_level term n (w ++ rest) ≡ got q rest = reads_all t rest f in
    let a : (v ++ (38 ∷ w)) ++ rest ≡ v ++ (38 ∷ (w ++ rest)) = append_assoc v (38 ∷ w) rest in
    rw a (read_term n (v ++ (38 ∷ (w ++ rest))) ∙ rw (one, two) refl)
reads_all (a_term {n} {w} {q} s) rest f =
    let ih : read_level term n (w ++ rest) ≡ got q rest = reads_all s rest f.0 in
    read_sum n (w ++ rest) ∙ rw (ih, f.1) refl
reads_all (or_sum {n} {v} {w} {p} {q} s t) rest f =
    let one : read_level term n (v ++ (124 ∷ (w ++ rest))) ≡ got p (124 ∷ (w ++ rest)) = reads_all s (124 ∷ (w ++ rest)) refl in
    let two : read_level sum n (w ++ rest) ≡ got q rest = reads_all t rest f in
    let a : (v ++ (124 ∷ w)) ++ rest ≡ v ++ (124 ∷ (w ++ rest)) = append_assoc v (124 ∷ w) rest in
    rw a (read_sum n (v ++ (124 ∷ (w ++ rest))) ∙ rw (one, two) refl)

-- a part of the bytes that is spelt, and what is behind it
pub record Spelt (l : Level) (n : ℕ) (bs : List ℕ) (q : Query) (rest : List ℕ) : Type 0 where
  pub word : List ℕ
  pub split : bs ≡ word ++ rest
  pub spells : Spells l n word q

-- what is read is spelt
abbrev OnlySpelt : Level → ℕ → List ℕ → Read → Type 0
OnlySpelt l n bs bad = Unit {0}
OnlySpelt l n bs (got q rest) = Spelt l n bs q rest

spelt : {l : Level} {n : ℕ} {bs : List ℕ} {q : Query} {rest : List ℕ} (w : List ℕ) → bs ≡ w ++ rest → Spells l n w q → Spelt l n bs q rest
spelt w e s = record { word = w; split = e; spells = s }

starts_with : (x : ℕ) (bs : List ℕ) → starts x bs ≡ true → bs ≡ x ∷ behind bs
starts_with x [] e = let z : ◌≡◌ {A = ℕ} 0 1 = cc in absurd (omega arith)
starts_with x (b ∷ bs) e = rw (eqb-true b x e)

digit_sound : (n x : ℕ) (make : ℕ → Query) → ((d : ℕ) → d ≤ 9 → Spells factor n (x ∷ (48 + d) ∷ []) (make d)) → (bs : List ℕ)
    → OnlySpelt factor n (x ∷ bs) (digit_then make bs)
unfolding digit_then
digit_sound n x make s [] = tt
digit_sound n x make s (b ∷ bs) = choose_ind (OnlySpelt factor n (x ∷ b ∷ bs)) (leb 48 b && leb b 57) _ _
    (λ e. let t = both_true (leb 48 b) (leb b 57) e in
    let lo : 48 ≤ b = leb-true 48 b t.0 in
    let hi : b ≤ 57 = leb-true b 57 t.1 in
    let c : b ≡ 48 + (b - 48) = omega arith in
    let d : x ∷ b ∷ bs ≡ (x ∷ (48 + (b - 48)) ∷ []) ++ bs = ap (λ (y : ℕ). x ∷ y ∷ bs) c in
    spelt (x ∷ (48 + (b - 48)) ∷ []) d (s (b - 48) (omega arith)))
    (λ e. tt)

atom_sound : (n : ℕ) (bs : List ℕ) → OnlySpelt factor n bs (atom bs)
unfolding atom
atom_sound n bs = choose_ind (OnlySpelt factor n bs) (starts 65 bs) _ _
    (λ e. subst (λ (l : List ℕ). OnlySpelt factor n l (digit_then first (behind bs))) (sym (starts_with 65 bs e))
    (digit_sound n 65 first (λ d h. in_first h) (behind bs)))
    (λ e. choose_ind (OnlySpelt factor n bs) (starts 66 bs) _ _
    (λ e. subst (λ (l : List ℕ). OnlySpelt factor n l (digit_then second (behind bs))) (sym (starts_with 66 bs e))
    (digit_sound n 66 second (λ d h. in_second h) (behind bs)))
    (λ e. tt))

pub reads_only : (k : ℕ) (l : Level) (n : ℕ) (bs : List ℕ) → OnlySpelt l n bs (read_steps k l n bs)
unfolding read_steps closed
reads_only zero l n bs = tt
reads_only (suc k) factor n bs = choose_ind (OnlySpelt factor n bs) (starts 33 bs) _ _
    (λ e. deeper_ind (OnlySpelt factor n bs) n _ tt (λ m em. then_ind (OnlySpelt factor n bs) (read_steps k factor m (behind bs)) _ tt (λ q r er.
    let s : Spelt factor m (behind bs) q r = subst (OnlySpelt factor m (behind bs)) er (reads_only k factor m (behind bs)) in
    rw em (spelt (33 ∷ s.word) (starts_with 33 bs e ∙ ap (λ (t : List ℕ). 33 ∷ t) s.split) (negated s.spells)))))
    (λ e. choose_ind (OnlySpelt factor n bs) (starts 40 bs) _ _
    (λ o. deeper_ind (OnlySpelt factor n bs) n _ tt (λ m em. then_ind (OnlySpelt factor n bs) (read_steps k sum m (behind bs)) _ tt (λ q r er.
    let s : Spelt sum m (behind bs) q r = subst (OnlySpelt sum m (behind bs)) er (reads_only k sum m (behind bs)) in
    choose_ind (OnlySpelt factor n bs) (starts 41 r) _ _
    (λ c.
    let a : s.word ++ r ≡ (s.word ++ (41 ∷ [])) ++ behind r = ap (λ (t : List ℕ). s.word ++ t) (starts_with 41 r c)
    ∙ sym (append_assoc s.word (41 ∷ []) (behind r)) in
    rw em (spelt (40 ∷ (s.word ++ (41 ∷ []))) (starts_with 40 bs o ∙ ap (λ (t : List ℕ). 40 ∷ t) (s.split ∙ a)) (grouped s.spells)))
    (λ c. tt))))
    (λ o. atom_sound n bs))
reads_only (suc k) term n bs = then_ind (OnlySpelt term n bs) (read_steps k factor n bs) _ tt (λ p r er.
    let s : Spelt factor n bs p r = subst (OnlySpelt factor n bs) er (reads_only k factor n bs) in
    choose_ind (OnlySpelt term n bs) (starts 38 r) _ _
    (λ e. then_ind (OnlySpelt term n bs) (read_steps k term n (behind r)) _ tt (λ q more em.
    let t : Spelt term n (behind r) q more = subst (OnlySpelt term n (behind r)) em (reads_only k term n (behind r)) in
    let o : r ≡ 38 ∷ t.word ++ more = starts_with 38 r e ∙ ap (λ (u : List ℕ). 38 ∷ u) t.split in
    let a : s.word ++ r ≡ (s.word ++ (38 ∷ t.word)) ++ more = ap (λ (u : List ℕ). s.word ++ u) o ∙ sym (append_assoc s.word (38 ∷ t.word) more) in
    spelt (s.word ++ (38 ∷ t.word)) (s.split ∙ a) (and_term s.spells t.spells)))
    (λ e. spelt s.word s.split (a_factor s.spells)))
reads_only (suc k) sum n bs = then_ind (OnlySpelt sum n bs) (read_steps k term n bs) _ tt (λ p r er.
    let s : Spelt term n bs p r = subst (OnlySpelt term n bs) er (reads_only k term n bs) in
    choose_ind (OnlySpelt sum n bs) (starts 124 r) _ _
    (λ e. then_ind (OnlySpelt sum n bs) (read_steps k sum n (behind r)) _ tt (λ q more em.
    let t : Spelt sum n (behind r) q more = subst (OnlySpelt sum n (behind r)) em (reads_only k sum n (behind r)) in
    let o : r ≡ 124 ∷ t.word ++ more = starts_with 124 r e ∙ ap (λ (u : List ℕ). 124 ∷ u) t.split in
    let a : s.word ++ r ≡ (s.word ++ (124 ∷ t.word)) ++ more = ap (λ (u : List ℕ). s.word ++ u) o ∙ sym (append_assoc s.word (124 ∷ t.word) more) in
    spelt (s.word ++ (124 ∷ t.word)) (s.split ∙ a) (or_sum s.spells t.spells)))
    (λ e. spelt s.word s.split (a_term s.spells)))

-- THE BYTES ARE A QUERY exactly where it is read
pub is_read : (w : List ℕ) (q : Query) → Is w q → query_of w ≡ got q []
unfolding query_of
is_read w q i =
    let r : read_level sum open_limit (w ++ []) ≡ got q [] = reads_all i.spelt [] (refl, refl) in
    rw (le-leb (length w) longest_query i.short, rw append-nil at r)

whole_got : (x : Read) (q : Query) (r : List ℕ) → whole x ≡ got q r → (x ≡ got q []) × (r ≡ [])
whole_got bad q r e = let z : ◌≡◌ {A = ℕ} 0 1 = cc in absurd (omega arith)
whole_got (got p []) q r e = (cc, cc)
whole_got (got p (b ∷ bs)) q r e = let z : ◌≡◌ {A = ℕ} 0 1 = cc in absurd (omega arith)

pub read_is : (w : List ℕ) (q : Query) (r : List ℕ) → query_of w ≡ got q r → Is w q
unfolding query_of read_level
read_is w q r = choose_ind (λ (x : Read). x ≡ got q r → Is w q) (leb (length w) longest_query) _ _
    (λ e g. let x : read_steps (3 * length w + height sum) sum open_limit w ≡ got q [] = (whole_got (read_steps (3 * length w + height sum) sum open_limit w) q r g).0 in
    let s : Spelt sum open_limit w q [] = subst (OnlySpelt sum open_limit w) x (reads_only (3 * length w + height sum) sum open_limit w) in
    let a : w ≡ s.word = s.split ∙ append-nil s.word in
    record { short = leb-true (length w) longest_query e; spelt = rw a s.spells })
    (λ e g. let z : ◌≡◌ {A = ℕ} 0 1 = cc in absurd (omega arith))

-- ONE QUERY for any bytes
pub one_query : (w : List ℕ) (p q : Query) → Is w p → Is w q → p ≡ q
one_query w p q i j = let a = is_read w p i in let b = is_read w q j in cc
