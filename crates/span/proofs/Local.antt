-- An edit is local: what lies off its range stays as it is. Code that replaces the spans that meet the range by what the edit makes of them has made the edit;
-- that the result is tidy need not be proved of the code.
use Prim.Native.Nat.{ℕ, suc, ◌-◌, ◌≤◌, ◌<◌}
use native.Mathlib.Omega.{arith}
use native.Mathlib.Nat.{le_refl}
use native.Mathlib.Decide.{dec_lt}
use mathlib.Core.Path.{◌≡◌, refl, ap, sym, ◌∙◌}
use mathlib.Core.Logic.{◌⊎◌, inl, inr, ⊎_elim}
use mathlib.Core.List.{List, [], ◌∷◌, ◌++◌, append-nil}
use mathlib.Core.Option.{Option, some, none}
use Rattle.span.specs.Span.{Span, at, or_else, Ordered, Upto, Apart, Tidy, given}
use Rattle.span.proofs.Tests.{Within, in_yes, below, among, beyond, place, in_no}
use Rattle.span.proofs.Holding.{at_in, at_out, at_behind, at_app, at_below, at_upto, ordered_from, ordered_left, ordered_right}
use Rattle.span.proofs.Laws.{never, tail, at_end, tidy_given, at_given}
use Rattle.span.proofs.Pieces.{Ahead, tidy_right, tidy_ahead, tidy_app, local}

-- all of the list ends before c, and does not touch it
abbrev pub EndsBefore : ℕ → List Span → Type 0
EndsBefore c [] = Unit {0}
EndsBefore c (x ∷ xs) = (x.hi < c) × EndsBefore c xs

-- it is enough that the last of an ordered list does
pub ends_last : (b c : ℕ) (xs : List Span) (x : Span) → Ordered b (xs ++ x ∷ []) → x.hi < c → EndsBefore c (xs ++ x ∷ [])
ends_last b c [] x o h = (h, tt)
ends_last b c (y ∷ ys) x o h = let right = ordered_right y.hi ys (x ∷ []) o.2 in (omega arith, ends_last y.hi c ys x o.2 h)

-- bounds and joints, read off what is held
ordered_at : (b : ℕ) (m : List Span) → Ordered 0 m → ((k v : ℕ) → at m k ≡ some v → b ≤ k) → Ordered b m
ordered_at b [] o h = tt
ordered_at b (x ∷ xs) o h = (h x.lo x.label (at_in x xs x.lo (omega arith)), o.1, o.2)

pub upto_at : (b c : ℕ) (m : List Span) → Ordered b m → ((k v : ℕ) → at m k ≡ some v → k < c) → Upto c m
upto_at b c [] o h = tt
upto_at b c (x ∷ xs) o h = (omega (arith, h (x.hi - 1) x.label (at_in x xs (x.hi - 1) (omega arith))), upto_at x.hi c xs o.2 (λ k v e. h k v (at_behind x xs k o.2 e)))

apart_at : (x : Span) (ys : List Span) → Ordered x.hi ys → (at ys x.hi ≡ some x.label → ⊥) → Apart x ys
apart_at x [] o h = tt
apart_at x (y ∷ ys) o h = λ j. h (at_in y ys x.hi (omega arith) ∙ ap some (sym j.alike))

ahead_at : (b : ℕ) (xs : List Span) (y : Span) → Ordered b xs → Upto y.lo xs → ((k : ℕ) → suc k ≡ y.lo → at xs k ≡ some y.label → ⊥) → Ahead xs y
ahead_at b [] y o u h = tt
ahead_at b (x ∷ xs) y o u h = (
  record { past = u.0; apart = λ j. h (x.hi - 1) (omega arith) (at_in x xs (x.hi - 1) (omega arith) ∙ ap some j.alike) },
  ahead_at x.hi xs y o.2 u.1 (λ k e f. h k e (at_behind x xs k o.2 f)),
)

at_ahead : (xs : List Span) (y : Span) (k : ℕ) → Ahead xs y → suc k ≡ y.lo → at xs k ≡ some y.label → ⊥
unfolding at
at_ahead [] y k a e f = let z : ◌≡◌ {A = ℕ} 0 1 = cc in omega arith
at_ahead (x ∷ xs) y k a e f = elim (place x.lo x.hi k) [
  | below p ↦ at_ahead xs y k a.1 e (sym (at_out x xs k (omega arith)) ∙ f)
  | among p q ↦ let l : x.label ≡ y.label = cc (at_in x xs k (omega arith)) in a.0.apart (omega arith)
  | beyond p q ↦ at_ahead xs y k a.1 e (sym (at_out x xs k (omega arith)) ∙ f)
]

upto_ahead : (xs : List Span) (y : Span) → Ahead xs y → Upto y.lo xs
upto_ahead [] y a = tt
upto_ahead (x ∷ xs) y a = (a.0.past, upto_ahead xs y a.1)

-- how far off what stays must lie: a label may join what touches its range, and where none is given nothing joins
abbrev pub left_edge : Option ℕ → ℕ → ℕ
left_edge none lo = suc lo
left_edge (some v) lo = lo

abbrev pub right_edge : Option ℕ → ℕ → ℕ
right_edge none hi = hi
right_edge (some v) hi = suc hi

past_right : (new : Option ℕ) (hi r : ℕ) → right_edge new hi ≤ r → hi ≤ r
past_right none hi r h = h
past_right (some v) hi r h = omega arith

upto_left : (new : Option ℕ) (lo : ℕ) (m : List Span) → EndsBefore (left_edge new lo) m → Upto lo m
upto_left none lo [] l = tt
upto_left none lo (x ∷ xs) l = (omega arith, upto_left none lo xs l.1)
upto_left (some v) lo [] l = tt
upto_left (some v) lo (x ∷ xs) l = (omega arith, upto_left (some v) lo xs l.1)

module _ (lo hi : ℕ) (new : Option ℕ) (ms : List Span) (real : lo < hi) (o : Ordered 0 ms) where
  outside : (k : ℕ) → (Within lo hi k → ⊥) → at (given lo hi new ms) k ≡ at ms k
  outside k n = at_given lo hi new ms real o k ∙ rw (in_no lo hi k n)

  -- next to the range nothing changes, but that an instant of the range may be free now
  free : (k : ℕ) → new ≡ none → Within lo hi k → at (given lo hi new ms) k ≡ none
  free k e w = at_given lo hi new ms real o k ∙ rw (in_yes lo hi k w) e

  left_side : (k : ℕ) → k < left_edge new lo → (at (given lo hi new ms) k ≡ at ms k) ⊎ ((at (given lo hi new ms) k ≡ none) × Within lo hi k)
  left_side k h = go new refl h
    where
      go : (n : Option ℕ) → new ≡ n → k < left_edge n lo → (at (given lo hi new ms) k ≡ at ms k) ⊎ ((at (given lo hi new ms) k ≡ none) × Within lo hi k)
      go none e h = elim (dec_lt k lo) [ yes p ↦ inl (outside k (omega arith)) | no p ↦ inr (free k e (omega arith), omega arith) ]
      go (some v) e h = inl (outside k (omega arith))

  right_side : (k : ℕ) → right_edge new hi ≤ suc k → (at (given lo hi new ms) k ≡ at ms k) ⊎ (at (given lo hi new ms) k ≡ none)
  right_side k h = go new refl h
    where
      go : (n : Option ℕ) → new ≡ n → right_edge n hi ≤ suc k → (at (given lo hi new ms) k ≡ at ms k) ⊎ (at (given lo hi new ms) k ≡ none)
      go none e h = elim (dec_lt k hi) [ yes p ↦ inr (free k e (omega arith)) | no p ↦ inl (outside k (omega arith)) ]
      go (some v) e h = inl (outside k (omega arith))

  -- the edited middle begins no sooner, and goes on before what is right of it
  from_middle : (b : ℕ) → b ≤ lo → Ordered b ms → Tidy b (given lo hi new ms)
  from_middle b h p = let g = tidy_given lo hi new ms real o in
      record {
        ordered = ordered_at b (given lo hi new ms) g.ordered (λ k v e. elim (dec_lt k b) [
          | yes q ↦ absurd (never (sym (at_below ms k p q) ∙ sym (outside k (omega arith)) ∙ e))
          | no q ↦ omega arith
        ]);
        separate = g.separate;
      }

  ahead_middle : (r : Span) → right_edge new hi ≤ r.lo → Ahead ms r → Ahead (given lo hi new ms) r
  ahead_middle r h a =
      let g = tidy_given lo hi new ms real o in
      let past = past_right new hi r.lo h in
      ahead_at 0 (given lo hi new ms) r g.ordered
      (upto_at 0 r.lo (given lo hi new ms) g.ordered (λ k v e. elim (dec_lt k r.lo) [
        | yes q ↦ q
        | no q ↦ absurd (never (sym (at_upto r.lo ms k (upto_ahead ms r a) (omega arith)) ∙ sym (outside k (omega arith)) ∙ e))
      ]))
      (λ k e f. ⊎_elim (λ same. at_ahead ms r k a e (sym same ∙ f)) (λ z. never (sym z ∙ f)) (right_side k (omega arith)))

  tidy_middle : (b : ℕ) (rs : List Span) → b ≤ lo → Ordered (right_edge new hi) rs → Tidy b (ms ++ rs) → Tidy b (given lo hi new ms ++ rs)
  tidy_middle b [] h r t = rw append-nil (from_middle b h (ordered_left b ms [] t.ordered))
  tidy_middle b (y ∷ ys) h r t =
      let past = past_right new hi y.lo r.0 in
      tidy_app (given lo hi new ms) y ys (omega arith)
      (from_middle b h (ordered_left b ms (y ∷ ys) t.ordered)) (ahead_middle y r.0 (tidy_ahead ms y ys t)) (tidy_right ms (y ∷ ys) t)

  tidy_local : (b : ℕ) (ls rs : List Span) → b ≤ lo → EndsBefore (left_edge new lo) ls → Ordered (right_edge new hi) rs → Ordered hi rs
      → Tidy b (ls ++ (ms ++ rs)) → Tidy b (ls ++ (given lo hi new ms ++ rs))
  tidy_local b [] rs h l r p t = tidy_middle b rs h r t
  tidy_local b (x ∷ ls) rs h l r p t =
      let upto = upto_left new lo (x ∷ ls) l in
      let rest = tidy_local x.hi ls rs upto.0 l.1 r p (tail t) in
      let was : at (ls ++ (ms ++ rs)) x.hi ≡ or_else (at ls x.hi) (or_else (at ms x.hi) (at rs x.hi)) = simp at_app in
      let now : at (ls ++ (given lo hi new ms ++ rs)) x.hi ≡ or_else (at ls x.hi) (or_else (at (given lo hi new ms) x.hi) (at rs x.hi)) = simp at_app in
      let apart : at (ls ++ (given lo hi new ms ++ rs)) x.hi ≡ some x.label → ⊥ = λ e. ⊎_elim
      (λ same. at_end x (ls ++ (ms ++ rs)) t.ordered.2 t.separate.0 (cc))
      (λ z. never {v = x.label} (cc (z.0, at_upto lo ls x.hi upto.1 z.1.from, at_below rs x.hi p z.1.to)))
      (left_side x.hi l.0) in
      record {
        ordered = (t.ordered.0, t.ordered.1, rest.ordered);
        separate = (apart_at x _ rest.ordered apart, rest.separate);
      }

-- LOCAL: to replace a middle by what the edit makes of it is to make the edit
pub given_local : (lo hi : ℕ) (new : Option ℕ) (ls ms ns rs : List Span) → lo < hi → EndsBefore (left_edge new lo) ls → Ordered (right_edge new hi) rs
    → Tidy 0 (ls ++ (ms ++ rs)) → given lo hi new ms ≡ ns → ls ++ (ns ++ rs) ≡ given lo hi new (ls ++ (ms ++ rs))
given_local lo hi new ls ms ns rs h l r t e =
    let o = ordered_left 0 ms rs (ordered_right 0 ls (ms ++ rs) t.ordered) in
    let p : Ordered hi rs = ordered_from rs (past_right new hi _ (le_refl _)) r in
    ap (λ (n : List Span). ls ++ (n ++ rs)) (sym e)
    ∙ local lo hi new ls ms rs h (upto_left new lo ls l) p t (tidy_local lo hi new ms h o 0 ls rs (omega arith) l r p t)
