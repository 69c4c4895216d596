-- Document 01's cases of maps, of both kinds, as theorems about the definitions that the contracts cite: by computation.
use Prim.Native.Nat.{ℕ, ◌-◌, ◌^◌}
use mathlib.Core.Path.{◌≡◌, refl}
use mathlib.Core.List.{List, [], ◌∷◌, map}
use lib.IntN.{ℤ, pos, negsuc}
use Rattle.answers.specs.Answers.{done, empty_range}
use Rattle.span.specs.Span.{inside, keep, before, after, joins, tidy, push, joined, given}
use Rattle.span.proofs.Cases.{comb}
use Rattle.key.specs.Rank.{above_least, bit_rank, rank, key_at}
use Rattle.key.specs.Range.{Kind, half_open, inclusive, span_of}
use Rattle.outcomes.specs.Stored.{places, spans, ranges, filled, storing, zeros, noughts, unused, well_formed}
use Rattle.outcomes.specs.declared.Stored.{Stored}
use Rattle.outcomes.specs.Outcomes.{leaving, edit_sound, edit, insert, remove, clear}
use Rattle.key.specs.declared.Entry.{Entry}

-- a range with a value, and the map that holds some of them
abbrev to : ℤ → ℤ → ℕ → Entry
to s e v = record { start = s; end = e; value = v }

abbrev made : Kind → List Entry → Stored
made kind es = storing kind places (map (λ (x : Entry). span_of kind x.start x.end x.value) es)

-- the least and the greatest key
abbrev least : ℤ
least = negsuc (2 ^ 63 - 1)

abbrev greatest : ℤ
greatest = pos (2 ^ 63 - 1)

-- `unfolding all` opens every definition that a case computes with
unfoldable all : Unit {0}
unfolding inside keep before after joins tidy push joined given above_least bit_rank key_at spans ranges filled storing zeros noughts unused well_formed edit_sound edit clear comb
all = tt

-- Half-open
insert_joins : insert half_open (made half_open (to (pos 0) (pos 5) 1 ∷ [])) (pos 5) (pos 8) 1 ≡ leaving done (made half_open (to (pos 0) (pos 8) 1 ∷ []))
unfolding all
insert_joins = refl

insert_other : insert half_open (made half_open (to (pos 0) (pos 5) 1 ∷ [])) (pos 5) (pos 8) 2 ≡ leaving done (made half_open (to (pos 0) (pos 5) 1 ∷ to (pos 5) (pos 8) 2 ∷ []))
unfolding all
insert_other = refl

insert_inside : insert half_open (made half_open (to (pos 0) (pos 8) 1 ∷ [])) (pos 2) (pos 4) 2
    ≡ leaving done (made half_open (to (pos 0) (pos 2) 1 ∷ to (pos 2) (pos 4) 2 ∷ to (pos 4) (pos 8) 1 ∷ []))
unfolding all
insert_inside = refl

remove_inside : remove half_open (made half_open (to (pos 0) (pos 8) 1 ∷ [])) (pos 3) (pos 6) ≡ leaving done (made half_open (to (pos 0) (pos 3) 1 ∷ to (pos 6) (pos 8) 1 ∷ []))
unfolding all
remove_inside = refl

insert_empty : insert half_open (clear half_open) (pos 4) (pos 4) 1 ≡ leaving empty_range (clear half_open)
unfolding all
insert_empty = refl

insert_reversed : insert half_open (clear half_open) (pos 9) (pos 4) 1 ≡ leaving empty_range (clear half_open)
unfolding all
insert_reversed = refl

-- a stored range starts where the new one starts while another ends there
insert_both_left : insert half_open (made half_open (to (pos 0) (pos 2) 1 ∷ to (pos 2) (pos 4) 2 ∷ [])) (pos 2) (pos 3) 1 ≡ leaving done (made half_open (to (pos 0) (pos 3) 1 ∷ to (pos 3) (pos 4) 2 ∷ []))
unfolding all
insert_both_left = refl

-- Full: as many ranges of one value as there are places, at 0..1, 2..3, and so on
abbrev full : Stored
full = storing half_open places (comb places (rank (pos 0)))

full_joins : insert half_open full (pos 1) (pos 2) 1
    ≡ leaving done (storing half_open places (span_of half_open (pos 0) (pos 3) 1 ∷ comb (places - 2) (rank (pos 4))))
unfolding all
full_joins = refl

full_fewer : (insert half_open full (pos 1) (pos 2) 1).left.count ≡ places - 1
unfolding all
full_fewer = refl

full_more : (insert half_open full (pos 2000) (pos 2001) 1).answer ≡ 2
unfolding all
full_more = refl

-- a full map takes an insert that covers ranges, and a cut inside a range is too much for it
full_covers : (insert half_open full (pos 0) (pos 2000) 3).left.count ≡ 1
unfolding all
full_covers = refl

-- Inclusive
inclusive_joins : insert inclusive (made inclusive (to (pos 1) (pos 3) 7 ∷ [])) (pos 4) (pos 6) 7 ≡ leaving done (made inclusive (to (pos 1) (pos 6) 7 ∷ []))
unfolding all
inclusive_joins = refl

inclusive_one_key : insert inclusive (clear inclusive) (pos 5) (pos 5) 1 ≡ leaving done (made inclusive (to (pos 5) (pos 5) 1 ∷ []))
unfolding all
inclusive_one_key = refl

inclusive_greatest : insert inclusive (made inclusive (to (pos 5) (pos (2 ^ 63 - 2)) 7 ∷ [])) greatest greatest 7 ≡ leaving done (made inclusive (to (pos 5) greatest 7 ∷ []))
unfolding all
inclusive_greatest = refl

inclusive_all : insert inclusive (clear inclusive) least greatest 1 ≡ leaving done (made inclusive (to least greatest 1 ∷ []))
unfolding all
inclusive_all = refl

-- the inclusive sibling of the Full case: as many single keys as there are places, at 0, 2, and so on
abbrev full_inclusive : Stored
full_inclusive = storing inclusive places (comb places (rank (pos 0)))

inclusive_full_fewer : (insert inclusive full_inclusive (pos 1) (pos 1) 1).left.count ≡ places - 1
unfolding all
inclusive_full_fewer = refl

inclusive_full_more : (insert inclusive full_inclusive (pos 2000) (pos 2000) 1).answer ≡ 2
unfolding all
inclusive_full_more = refl
