-- THE ONE WELL-FORMED MAP: any well-formed map that holds, at every key, what an edit says is the map that the edit leaves, all places included.
-- So is it of clear and of read.
use Prim.Native.Nat.{ℕ, ◌≤◌, ◌<◌, Ordering}
use native.Mathlib.Omega.{arith}
use mathlib.Core.Path.{◌≡◌, refl, sym, ap, subst, ◌∙◌}
use mathlib.Core.Bool.{Bool, true, false, cond}
use mathlib.Core.List.{List, []}
use mathlib.Core.Option.{Option, none}
use borrow.Author.Tests.{le-ltb, lt-leb}
use lib.Dec.{ltb}
use lib.ListN.{length}
use lib.IntN.{ℤ}
use mir.Syntax.{w64}
use mir.Val.{SFits}
use Rattle.std.specs.Prelude.{Ok, None}
use Rattle.answers.specs.Answers.{done, too_many}
use Rattle.span.specs.Span.{Span, inside, at, given}
use Rattle.span.specs.Operations.{span_order}
use Rattle.span.proofs.Tests.{in_no}
use Rattle.span.proofs.Order.{order_refl, order_same}
use Rattle.span.proofs.Holding.{at_upto}
use Rattle.span.proofs.Laws.{the_only_one, tidy_given, at_given, nothing}
use Rattle.key.specs.Rank.{rank, keys}
use Rattle.key.specs.Range.{Kind, half_open}
use Rattle.key.proofs.Lawful.{Lawful}
use Rattle.outcomes.specs.Stored.{places, ranges}
use Rattle.outcomes.specs.declared.Stored.{Stored}
use Rattle.outcomes.specs.Outcomes.{yes_no, is_equal, order_sound, equal, Edited, leaving, edit_sound, edit, lookup, clear}
use Rattle.outcomes.proofs.Formed.{shape, good, length_ranges}
use Rattle.outcomes.proofs.Storing.{sound_storing, length_storing, upto_ranges}
use Rattle.outcomes.proofs.Edits.{accepted, edit_accepted, edit_ranges, edit_sound_lem, edit_length, ranges_cleared}
use Rattle.byte_form.specs.Layout.{rm01}
use Rattle.byte_form.specs.Form.{form_of, read}
use Rattle.byte_form.proofs.Lawful.{rm01_lawful}
use Rattle.byte_form.proofs.Forms.{write_read, read_write}
use Rattle.one_map.specs.Events.{Proper, value_of, value_at, in_range}
use Rattle.one_map.proofs.Known.{proper_formed, proper_tidy, value_at_lem, each_instant, stored_again, same_ranges, same_lookups}

-- a proper map holds no more ranges than it has places
proper_few : {kind : Kind} {m : Stored} → Proper kind m → length (ranges kind m) ≤ places
proper_few {kind} {m} p =
    let h = (good p.sound).held in
    omega (arith, p.all_places, length_ranges kind (length m.starts) m (shape p.sound) h)

-- AN EDIT of a proper map
module _ {kind : Kind} (law : Lawful kind) {m : Stored} (p : Proper kind m) (s e : ℤ) (new : Option ℕ) where
  abbrev next : List Span
  next = given (rank s) (kind.past e) new (ranges kind m)

  -- the map that an accepted edit leaves is proper
  pub edit_proper : (edit kind m s e new).answer ≡ 0 → Proper kind (edit kind m s e new).left
  edit_proper z =
      let (well, is, ok) = accepted kind m s e new z in
      let d = edit_accepted kind places m s e new ok in
      subst (λ (o : Edited). Proper kind o.left) (sym is) (record {
        sound = edit_sound_lem kind law places m (proper_tidy p) s e new d;
        all_places = edit_length kind law places m (proper_tidy p) s e new d;
      })

  -- and holds at every instant what the edit says
  pub edit_instants : (edit kind m s e new).answer ≡ 0 → (k : ℕ)
      → at (ranges kind (edit kind m s e new).left) k ≡ cond (inside (rank s) (kind.past e) k) new (at (ranges kind m) k)
  edit_instants z k =
      let (well, is, ok) = accepted kind m s e new z in
      let d = edit_accepted kind places m s e new ok in
      ap (λ (o : Edited). at (ranges kind o.left) k) is
      ∙ ap (λ (xs : List Span). at xs k) (edit_ranges kind law places m (proper_tidy p) s e new d)
      ∙ at_given (rank s) (kind.past e) new (ranges kind m) d.real (proper_tidy p).ordered k

  -- AN EDIT, as its lookups tell: in the range what is given, and elsewhere what was held
  pub edit_holds : (edit kind m s e new).answer ≡ 0 → (k : ℤ) → value_at kind (edit kind m s e new).left k ≡ cond (in_range kind s e k) new (value_at kind m k)
  edit_holds z k = value_at_lem (edit_proper z) k ∙ edit_instants z (rank k) ∙ ap (cond (in_range kind s e k) new) (sym (value_at_lem p k))

  -- THE ONE MAP OF AN EDIT: where some well-formed map holds at every key what the edit says, the edit is accepted and leaves that map, all places included
  pub one_edit : {b : Stored} → Proper kind b → rank s < kind.past e
      → ((k : ℤ) → SFits w64 k → value_at kind b k ≡ cond (in_range kind s e k) new (value_at kind m k)) → edit kind m s e new ≡ leaving done b
  unfolding edit edit_sound
  one_edit {b} q real told =
      let f : ℕ → Option ℕ = λ k. cond (inside (rank s) (kind.past e) k) new (at (ranges kind m) k) in
      let past : (k : ℕ) → keys ≤ k → f k ≡ none = λ k h.
      rw (in_no (rank s) (kind.past e) k (omega (arith, law.ends_within e, law.limit_keys)))
      (at_upto law.limit (ranges kind m) k (upto_ranges kind law m) (omega (arith, law.limit_keys))) in
      let each : (k : ℕ) → at (ranges kind b) k ≡ f k = each_instant law q f past (λ k fit. told k fit ∙ ap (cond (in_range kind s e k) new) (value_at_lem p k)) in
      let tidy = tidy_given (rank s) (kind.past e) new (ranges kind m) real (proper_tidy p).ordered in
      let is : next ≡ ranges kind b = the_only_one next (ranges kind b) tidy (proper_tidy q)
      (λ k. at_given (rank s) (kind.past e) new (ranges kind m) real (proper_tidy p).ordered k ∙ sym (each k)) in
      rw (proper_formed p, lt-leb (kind.past e) (rank s) real, is, le-ltb places (length (ranges kind b)) (proper_few q), stored_again law q)

  -- FULL, judged on the final map: where the answer is 2, no well-formed map holds what the edit says
  pub full_none : {b : Stored} → (edit kind m s e new).answer ≡ 2 → Proper kind b → rank s < kind.past e
      → ((k : ℤ) → SFits w64 k → value_at kind b k ≡ cond (in_range kind s e k) new (value_at kind m k)) → ⊥
  full_none two q real told = let z : ◌≡◌ {A = ℕ} 0 2 = ap (λ (o : Edited). o.answer) (sym (one_edit q real told)) ∙ two in omega arith

  -- and where none does, the answer is 2
  pub none_full : rank s < kind.past e
      → ((b : Stored) → Proper kind b → ((k : ℤ) → SFits w64 k → value_at kind b k ≡ cond (in_range kind s e k) new (value_at kind m k)) → ⊥)
      → edit kind m s e new ≡ leaving too_many m
  none_full real none-holds = go (ltb places (length next)) refl
    where
      go : (t : Bool) → ltb places (length next) ≡ t → edit kind m s e new ≡ leaving too_many m
      go true f = unfold edit edit_sound in rw (proper_formed p, lt-leb (kind.past e) (rank s) real, f)
      go false f =
          let z : (edit kind m s e new).answer ≡ 0 = unfold edit edit_sound in rw (proper_formed p, lt-leb (kind.past e) (rank s) real, f) in
          absurd (none-holds (edit kind m s e new).left (edit_proper z) (λ k fit. edit_holds z k))

-- the unchecked door of an edit does the same to a proper map
pub unchecked_same : {kind : Kind} {m : Stored} → Proper kind m → (s e : ℤ) (new : Option ℕ) → edit_sound kind places m s e new ≡ edit kind m s e new
unfolding edit
unchecked_same p s e new = rw (proper_formed p)

-- EQUALITY says yes exactly where two proper maps tell the same of every key, and then they are the same map
module _ {kind : Kind} (law : Lawful kind) {a b : Stored} (p : Proper kind a) (q : Proper kind b) where
  -- where it says yes, they are the same
  pub equal_same : equal kind a b ≡ Ok true → a ≡ b
  unfolding equal order_sound
  equal_same y =
      let o = span_order (ranges kind a) (ranges kind b) in
      same_ranges law p q (order_same (ranges kind a) (ranges kind b) (go o (rw (proper_formed p, proper_formed q) at y)))
    where
      go : (o : Ordering) → yes_no (is_equal o) ≡ Ok true → o ≡ Ordering.eq
      go Ordering.lt e = absurd (let z : ◌≡◌ {A = ℕ} 0 1 = cc in omega arith)
      go Ordering.eq e = refl
      go Ordering.gt e = absurd (let z : ◌≡◌ {A = ℕ} 0 1 = cc in omega arith)

  -- where they tell the same, it says yes
  pub same_equal : ((k : ℤ) → SFits w64 k → value_at kind a k ≡ value_at kind b k) → equal kind a b ≡ Ok true
  unfolding equal order_sound
  same_equal e = rw (proper_formed p, proper_formed q, same_lookups law p q e, order_refl (ranges kind b))

-- CLEAR, and a new map
module _ {kind : Kind} (law : Lawful kind) where
  -- it is well formed
  pub clear_proper : Proper kind (clear kind)
  unfolding clear
  clear_proper = record {
    sound = sound_storing kind law places [] nothing.tidy tt (omega arith);
    all_places = length_storing kind law places [] nothing.tidy tt (omega arith);
  }

  -- it holds nothing at any key
  pub clear_holds : (k : ℤ) → value_at kind (clear kind) k ≡ none
  unfolding at
  clear_holds k = value_at_lem clear_proper k ∙ ap (λ (xs : List Span). at xs (rank k)) (ranges_cleared kind law)

  -- THE ONE MAP THAT HOLDS NOTHING: a well-formed map whose lookup answers 5 at every key is a new map
  pub one_clear : {b : Stored} → Proper kind b → ((k : ℤ) → SFits w64 k → lookup kind b k ≡ Ok None) → b ≡ clear kind
  one_clear q told = same_lookups law q clear_proper (λ k fit. ap value_of (told k fit) ∙ sym (clear_holds k))

-- READ leaves a proper map, whose written form the bytes are
pub read_proper : {m : Stored} (old : Stored) (bs : List ℕ) → read rm01 old bs ≡ leaving done m → Proper half_open m × (form_of rm01 m ≡ bs)
read_proper old bs is = let r = read_write rm01_lawful old bs is in (record { sound = r.sound; all_places = r.all_places }, r.bytes)

-- THE ONE MAP OF SOME BYTES: where some well-formed map has them as its written form, they are read, and what is left is that map
pub one_read : {b : Stored} (old : Stored) (bs : List ℕ) → Proper half_open b → form_of rm01 b ≡ bs → read rm01 old bs ≡ leaving done b
one_read old bs p form = ap (read rm01 old) (sym form) ∙ write_read rm01_lawful old p.sound p.all_places
