-- DOCUMENT 01's FULL CASE, of both kinds: which map is left, not only how many ranges it has. And a cut inside one of 512 ranges is 2, of any full map.
use Prim.Native.Nat.{ℕ, zero, suc, ◌+◌, ◌<◌}
use native.Mathlib.Omega.{arith}
use mathlib.Core.Path.{◌≡◌, refl, sym, ap, subst, ◌∙◌}
use mathlib.Core.List.{List, [], ◌∷◌, ◌++◌}
use mathlib.Core.Option.{none}
use borrow.Author.Tests.{lt-ltb, lt-leb}
use lib.ListN.{length, get_or, take, drop, length-append}
use lib.Seq.{split_at}
use lib.IntN.{ℤ, pos}
use Rattle.answers.specs.Answers.{done, too_many}
use Rattle.span.specs.Span.{Span, span, Ordered, Upto, Tidy, inside, keep, before, after, joins, tidy, push, joined, given}
use Rattle.span.proofs.Holding.{ordered_from, ordered_right}
use Rattle.span.proofs.Pieces.{upto_front, middle, middle_cut}
use Rattle.span.proofs.Local.{EndsBefore, given_local}
use Rattle.span.proofs.Cases.{comb}
use Rattle.key.specs.Rank.{above_least, bit_rank, rank, key_at}
use Rattle.key.specs.Range.{Kind, half_open, inclusive}
use Rattle.outcomes.specs.Stored.{places, spans, ranges, filled, storing, zeros, noughts, unused, well_formed}
use Rattle.outcomes.specs.declared.Stored.{Stored}
use Rattle.outcomes.specs.Outcomes.{leaving, edit_sound, edit, insert, remove}
use Rattle.outcomes.proofs.Formed.{shape, good, length_ranges, get_or_ranges}
use Rattle.one_map.specs.Events.{Proper}
use Rattle.one_map.proofs.Known.{proper_formed, proper_tidy}

-- 512 ranges of one key and one value, at 0, at 2, and so on: 0..1, 2..3 or 0..=0, 2..=2
abbrev full : Kind → Stored
full kind = storing kind places (comb places (rank (pos 0)))

-- the same, with the first two and the key between them as one range
abbrev fewer : Kind → Stored
fewer kind = storing kind places (span (rank (pos 0)) (rank (pos 3)) 1 ∷ comb 510 (rank (pos 4)))

-- `unfolding all` opens every definition that a case computes with
unfoldable lists : Unit {0}
unfolding inside keep before after joins tidy push joined given comb
lists = tt

unfoldable all : Unit {0}
unfolding lists above_least bit_rank key_at spans ranges filled storing zeros noughts unused well_formed edit_sound edit
all = tt

-- insert 1..2 of that value joins its neighbours: 0..3, 4..5, and so on, 511 ranges
pub full_joined : insert half_open (full half_open) (pos 1) (pos 2) 1 ≡ leaving done (fewer half_open)
unfolding all
full_joined = refl

-- the same of the inclusive kind: 1..=1
pub inclusive_full_joined : insert inclusive (full inclusive) (pos 1) (pos 1) 1 ≡ leaving done (fewer inclusive)
unfolding all
inclusive_full_joined = refl

-- insert 2000..2001 is 2, and the map is as it was
pub full_refused : insert half_open (full half_open) (pos 2000) (pos 2001) 1 ≡ leaving too_many (full half_open)
unfolding all
full_refused = refl

-- 2000..=2000
pub inclusive_full_refused : insert inclusive (full inclusive) (pos 2000) (pos 2000) 1 ≡ leaving too_many (full inclusive)
unfolding all
inclusive_full_refused = refl

-- an insert that covers all of them is taken, and leaves itself
pub full_covered : insert half_open (full half_open) (pos 0) (pos 2000) 3 ≡ leaving done (storing half_open places (span (rank (pos 0)) (rank (pos 2000)) 3 ∷ []))
unfolding all
full_covered = refl

-- n spans of three instants each, with label 1, from b on, an instant free after each
unfoldable pub blocks : ℕ → ℕ → List Span
blocks zero b = []
blocks (suc n) b = span b (b + 3) 1 ∷ blocks n (b + 4)

abbrev wide : Kind → Stored
wide kind = storing kind places (blocks places (rank (pos 0)))

-- 512 ranges at 0..3, 4..7, and so on: remove 1..2 would leave 513, and is 2
pub cut_refused : remove half_open (wide half_open) (pos 1) (pos 2) ≡ leaving too_many (wide half_open)
unfolding all blocks
cut_refused = refl

-- 1..=1 from 0..=2, 4..=6, and so on
pub inclusive_cut_refused : remove inclusive (wide inclusive) (pos 1) (pos 1) ≡ leaving too_many (wide inclusive)
unfolding all blocks
inclusive_cut_refused = refl

-- A CUT INSIDE A SPAN leaves one span more
ends_before : (c : ℕ) (m : List Span) → Upto c m → EndsBefore (suc c) m
ends_before c [] u = tt
ends_before c (x ∷ xs) u = (omega arith, ends_before c xs u.1)

cut_one : (lo hi : ℕ) (x : Span) → x.lo < lo → lo < hi → hi < x.hi → given lo hi none (x ∷ []) ≡ span x.lo lo x.label ∷ span hi x.hi x.label ∷ []
unfolding keep
cut_one lo hi x h i j =
    middle lo hi 0 none x [] [] x refl (omega arith, omega arith, tt) (omega arith) (omega arith)
    ∙ middle_cut x.lo lo hi x.hi x.label x.label i ∙ rw (lt-ltb x.lo lo h, lt-ltb hi x.hi j)

cut_more : (lo hi : ℕ) (ls : List Span) (x : Span) (rs : List Span) → Tidy 0 (ls ++ x ∷ rs) → x.lo < lo → lo < hi → hi < x.hi
    → length (given lo hi none (ls ++ x ∷ rs)) ≡ suc (length (ls ++ x ∷ rs))
cut_more lo hi ls x rs t h i j =
    let o : Ordered 0 (x ∷ rs) = ordered_right 0 ls (x ∷ rs) t.ordered in
    let two : List Span = span x.lo lo x.label ∷ span hi x.hi x.label ∷ [] in
    let is : ls ++ (two ++ rs) ≡ given lo hi none (ls ++ (x ∷ rs)) =
    given_local lo hi none ls (x ∷ []) two rs i (ends_before lo ls (upto_front 0 lo ls x rs t.ordered (omega arith)))
    (ordered_from {b = x.hi} rs (omega arith) o.2) t (cut_one lo hi x h i j) in
    ap length (sym is) ∙ omega (arith, length-append ls (two ++ rs), length-append ls (x ∷ rs))

-- REMOVE INSIDE ONE OF 512 RANGES is 2, whatever the map: the range at the place p reaches further on both sides
pub cut_full : {kind : Kind} {m : Stored} → Proper kind m → m.count ≡ places → (s e : ℤ) (p : ℕ) → p < m.count → rank (get_or m.starts p (pos 0)) < rank s
    → rank s < kind.past e → kind.past e < kind.past (get_or m.ends p (pos 0)) → remove kind m s e ≡ leaving too_many m
unfolding edit edit_sound
cut_full {kind} {m} pr full s e p b h i j =
    let held = (good pr.sound).held in
    let many = length_ranges kind (length m.starts) m (shape pr.sound) held in
    let x = get_or (ranges kind m) p (span 0 0 0) in
    let is = get_or_ranges kind (length m.starts) m (shape pr.sound) held p (span 0 0 0) b in
    let parts = split_at (ranges kind m) p (span 0 0 0) (omega arith) in
    let more : length (given (rank s) (kind.past e) none (ranges kind m)) ≡ suc (length (ranges kind m)) =
    subst (λ (l : List Span). length (given (rank s) (kind.past e) none l) ≡ suc (length l)) (sym parts)
    (cut_more (rank s) (kind.past e) (take p (ranges kind m)) x (drop (suc p) (ranges kind m)) (subst (Tidy 0) parts (proper_tidy pr))
    (rw is h) i (rw is j)) in
    rw (proper_formed pr, lt-leb (kind.past e) (rank s) i, lt-ltb places (length (given (rank s) (kind.past e) none (ranges kind m))) (omega arith))
