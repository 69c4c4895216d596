-- The hours of some seconds are the double nearest seconds / 3600, every other one is farther away; and they are exact where 225 divides the seconds.
-- In units of the smallest double the fraction is n / c, and `round` gives q * 2 ^ k units, q the whole number nearest n / (c * 2 ^ k). A double is either a
-- multiple of 2 ^ k units, or so small that 2 ^ (prec - 1 + k) units lie between it and the fraction. Assumes nothing.
use mathlib.Core.Path.{◌≡◌, refl, sym, ◌∙◌, ap, subst}
use mathlib.Core.Logic.{◌⊎◌, inl, inr}
use Prim.Native.Nat.{ℕ, zero, suc, ◌+◌, ◌-◌, ◌*◌, ◌/◌, ◌%◌, ◌^◌, ◌≤◌, ◌<◌, zero-le, compare, Ordering}
use native.Mathlib.Nat.{le_trans, le_of_eq, lt_of_lt_of_le, lt_of_le_of_lt, lt_trans, eq-zero-or-pos, mul-one, mul_comm, mul_assoc, mul_right_comm, mul-le-mul_right, mul-lt-mul_of_pos_right, lt_of_mul-lt-mul_right, eq_of_mul-eq-mul_right, mul-pos, mul-sub, div-add-mod', mod-lt, le-div_iff_mul-le, div-le_self, div-div-eq-div-mul, suc-mul, zero-mul, one-mul, add-mul, mul-add, lt_of_not-le, le_of_suc-le-suc, lt_irrefl}
use native.Mathlib.Omega.{arith}
use mathlib.Core.Bool.{Bool, true, false, not, ◌&&◌, true≢false}
use native.Mathlib.Decide.{dec_lt}
use lib.IntN.{ℤ, pos, negsuc}
use lib.Dec.{T, is_le, compare_is_eq, ltb, leb, eqb, ltb→lt, leb→le, nleb→lt, eqb→eq, eqb_refl, lit≤, lit<}
use lib.Arith.{lt_of_le-ne}
use lib.Pow.{pow-add, pow_pos, pow-lt, pow_mono, shl_lt}
use lib.Ieee.{Float, nan, inf, fin, Format, binary64, prec, emax, low, up, down, size, nearest, round, fits, eq}
use lib.Ieee.Digits.{size-le, size_reaches, back}
use lib.Ieee.Fits.{two, two-le_pos, and_i, and_l, and_r, eq→eqb, up_pos, down_pos, nearest-le, kept-lt, round-fits}
use lib.Ieee.Exact.{HasValue, round_exact}
use lib.Ieee.Nearest.{closest}
use lib.Ieee.Order.{drop, kept}
use lib.Ieee.Scale.{grid, overflow, finite, round_val}
use lib.Ieee.Positive.{den}
use Rattle.hours.specs.Hours.{hours_of, distance, far, Nearest}

-- ---- the nearest whole number

-- what `compare` says
abbrev Cmp : Ordering → ℕ → ℕ → Type 0
Cmp Ordering.lt a b = a < b
Cmp Ordering.eq a b = a ≡ b
Cmp Ordering.gt a b = b < a

cmp : (a b : ℕ) → Cmp (compare a b) a b
cmp a b = go (compare a b) (leb→le a b) (nleb→lt a b) (eqb→eq a b) (λ (e : a ≡ b). subst (λ (x : ℕ). T (eqb a x)) e (eqb_refl a))
  where
    go : (o : Ordering) → (T (is_le o) → a ≤ b) → (T (not (is_le o)) → b < a) → (T (compare_is_eq o) → a ≡ b) → (a ≡ b → T (compare_is_eq o)) → Cmp o a b
    go Ordering.lt h k e n = lt_of_le-ne (h tt) n
    go Ordering.eq h k e n = e tt
    go Ordering.gt h k e n = k tt

-- a whole number below another is one step below it, or more
step : (r q u : ℕ) → r < q → r * u + u ≤ q * u
step r q u h = le_trans (le_of_eq (sym (suc-mul r u))) (mul-le-mul_right u h)

up_one : (w u : ℕ) → suc w * u ≡ w * u + u
up_one w u = suc-mul w u

-- n is w * u + t, and 2 * t is not u: either r is the whole number nearest n / u, or it is farther away
beside : (o : Ordering) (w t u r : ℕ) → Cmp o (t * 2) u → (t * 2 ≡ u → ⊥) → t < u → (r ≡ nearest w o) ⊎ (distance (nearest w o * u) (w * u + t) < distance (r * u) (w * u + t))
beside Ordering.lt w t u r h tie k = elim (dec_lt r w) [
  | yes p ↦ inr (omega (arith, step r w u p))
  | no p ↦ elim (dec_lt w r) [ yes p' ↦ inr (omega (arith, step w r u p')) | no p' ↦ inl (omega arith) ]
]
beside Ordering.eq w t u r h tie k = absurd (tie h)
beside Ordering.gt w t u r h tie k = elim (dec_lt r (suc w)) [
  | yes p ↦ inr (omega (arith, step r (suc w) u p, up_one w u))
  | no p ↦ elim (dec_lt (suc w) r) [ yes p' ↦ inr (omega (arith, step (suc w) r u p', up_one w u)) | no p' ↦ inl (omega arith) ]
]

closest_beside : (n u r : ℕ) → 0 < u → (n % u * 2 ≡ u → ⊥) → (r ≡ closest n u) ⊎ (distance (closest n u * u) n < distance (r * u) n)
closest_beside n u r U tie =
    subst (λ (z : ℕ). (r ≡ closest n u) ⊎ (distance (closest n u * u) z < distance (r * u) z)) (div-add-mod' n u)
    (beside (compare (n % u * 2) u) (n / u) (n % u) u r (cmp (n % u * 2) u) tie (mod-lt n U))

-- ---- in units of the smallest double

pow_le_back : (a l : ℕ) → 2 ^ a ≤ 2 ^ l → a ≤ l
pow_le_back a l h = le_of_suc-le-suc (lt_of_not-le (λ (g : suc l ≤ a). lt_irrefl (2 ^ l) (lt_of_lt_of_le (pow-lt g) h)))

-- a double is a whole number below 2 ^ prec times a power of two, in such units
units_of : (l : ℕ) (d : ℤ) → down d ≤ 2 ^ l → (j : ℕ) × ((m : ℕ) → m * up d * 2 ^ l ≡ m * 2 ^ j * down d)
units_of l (pos a) h = (a + l, λ m. mul_assoc m (2 ^ a) (2 ^ l) ∙ ap (λ (x : ℕ). m * x) (sym (pow-add 2 a l)) ∙ sym (mul-one (m * 2 ^ (a + l))))
units_of l (negsuc a) h = (
  l - suc a,
  λ m. ap (λ (x : ℕ). x * 2 ^ l) (mul-one m) ∙ ap (λ (x : ℕ). m * x) (ap (λ (x : ℕ). 2 ^ x) (sym (back l (suc a) (pow_le_back (suc a) l h))) ∙ pow-add 2 (l - suc a) (suc a)) ∙ sym (mul_assoc m (2 ^ (l - suc a)) (2 ^ suc a)),
)

below_one : (a b : ℕ) → 0 < a → a * b ≡ 1 → b ≤ 1
below_one a b h e = le_trans (le_trans (le_of_eq (sym (one-mul b))) (mul-le-mul_right b h)) (le_of_eq e)

-- what it takes to be a double
double_says : (f : Format) (s : Bool) (m : ℕ) (e : ℤ) → T (fits f (fin s m e)) → (m < 2 ^ prec f) × (down e ≤ 2 ^ low f)
unfolding fits
double_says f s zero e t = (pow_pos (prec f), le_trans (below_one (up e) (down e) (up_pos e) (eqb→eq (up e * down e) 1 t)) (pow_pos (low f)))
double_says f s (suc m) e t =
    let a : Bool = eqb (suc m % 2) 1 in
    let b : Bool = ltb (suc m) (2 ^ prec f) in
    let c : Bool = leb (down e) (2 ^ low f) in
    let d : Bool = ltb (suc m * up e) (2 ^ suc (emax f) * down e) in
    (ltb→lt (suc m) (2 ^ prec f) (and_r a b (and_l (a && b) c (and_l (a && b && c) d t))), leb→le (down e) (2 ^ low f) (and_r (a && b) c (and_l (a && b && c) d t)))

swap : (q c z : ℕ) → q * (c * z) ≡ q * z * c
swap q c z = ap (λ (x : ℕ). q * x) (mul_comm c z) ∙ sym (mul_assoc q z c)

-- the digits that are dropped
reached : (p k z : ℕ) → 0 < p → 0 < k → k ≡ z - p → p - 1 + k < z
reached p k z P K e = omega arith

room : (p j k : ℕ) → 0 < p → j < k → p + j ≤ p - 1 + k
room p j k P h = omega arith

-- below n, the lower is the farther
lower : (g y n : ℕ) → g ≤ n → y < g → distance g n < distance y n
lower g y n h k = omega arith

-- of the doubles m * 2 ^ j the one that `round` gives is nearest
nearest_units : (p n c k j m : ℕ) → 0 < p → 0 < c → k ≡ size (n / c) - p → (n % (c * 2 ^ k) * 2 ≡ c * 2 ^ k → ⊥) → m < 2 ^ p
    → (m * 2 ^ j ≡ closest n (c * 2 ^ k) * 2 ^ k) ⊎ (distance (closest n (c * 2 ^ k) * 2 ^ k * c) n < distance (m * 2 ^ j * c) n)
nearest_units p n c k j m P C K tie M = elim (dec_lt j k) [ yes h ↦ inr (small h) | no h ↦ large (omega arith) ]
  where
    u : ℕ
    u = c * 2 ^ k

    q : ℕ
    q = closest n u

    U : 0 < u
    U = mul-pos C (pow_pos k)

    large : k ≤ j → (m * 2 ^ j ≡ q * 2 ^ k) ⊎ (distance (q * 2 ^ k * c) n < distance (m * 2 ^ j * c) n)
    large h =
        let r = m * 2 ^ (j - k) in
        let e : r * 2 ^ k ≡ m * 2 ^ j = mul_assoc m (2 ^ (j - k)) (2 ^ k) ∙ ap (λ (x : ℕ). m * x) (sym (pow-add 2 (j - k) k) ∙ ap (λ (x : ℕ). 2 ^ x) (back j k h)) in
        elim (closest_beside n u r U tie) [
          | inl w ↦ inl (sym e ∙ ap (λ (x : ℕ). x * 2 ^ k) w)
          | inr w ↦
              inr
              (subst (λ (x : ℕ). distance x n < distance (m * 2 ^ j * c) n) (swap q c (2 ^ k))
              (subst (λ (x : ℕ). distance (q * u) n < distance x n) (swap r c (2 ^ k) ∙ ap (λ (x : ℕ). x * c) e) w))
        ]

    small : j < k → distance (q * 2 ^ k * c) n < distance (m * 2 ^ j * c) n
    small h =
        let r = 2 ^ (p - 1) in
        let g = 2 ^ (p - 1 + k) in
        let e : r * u ≡ g * c = swap r c (2 ^ k) ∙ ap (λ (x : ℕ). x * c) (sym (pow-add 2 (p - 1) k)) in
        let a : g * c ≤ n = (le-div_iff_mul-le C).0 (size_reaches (n / c) (p - 1 + k) (reached p k (size (n / c)) P (lt_of_le_of_lt zero-le h) K)) in
        let b : m * 2 ^ j * c < g * c = mul-lt-mul_of_pos_right (lt_of_lt_of_le (shl_lt p j M) (pow_mono (room p j k P h))) C in
        elim (closest_beside n u r U tie) [
          | inl w ↦
              subst (λ (x : ℕ). distance x n < distance (m * 2 ^ j * c) n) (sym e ∙ ap (λ (x : ℕ). x * u) w ∙ swap q c (2 ^ k)) (lower (g * c) (m * 2 ^ j * c) n a b)
          | inr w ↦
              subst (λ (x : ℕ). distance x n < distance (m * 2 ^ j * c) n) (swap q c (2 ^ k))
              (lt_trans (subst (λ (x : ℕ). distance (q * u) n < distance x n) e w) (lower (g * c) (m * 2 ^ j * c) n a b))
        ]

-- ---- from units to floats

scaled : (a b z : ℕ) → distance (a * z) (b * z) ≡ distance a b * z
scaled a b z =
    ap (λ (x : ℕ). distance x (b * z)) (mul_comm a z)
    ∙ ap (λ (x : ℕ). distance (z * a) x) (mul_comm b z)
    ∙ ap (λ (x : ℕ). x + (z * b - z * a)) (sym (mul-sub z a b))
    ∙ ap (λ (x : ℕ). z * (a - b) + x) (sym (mul-sub z b a))
    ∙ sym (mul-add z (a - b) (b - a))
    ∙ mul_comm z (distance a b)

turned : (v x c l d : ℕ) → v * l ≡ x * d → v * c * l ≡ x * c * d
turned v x c l d h = mul_right_comm v c l ∙ ap (λ (z : ℕ). z * c) h ∙ mul_right_comm x d c

-- how far a float of x units is from a / c, by how far x * c is from a * l, l units being 1
far_plus : (m : ℕ) (e : ℤ) (x a c l : ℕ) → m * up e * l ≡ x * down e → far (fin false m e) a c * l ≡ distance (x * c) (a * l) * down e
far_plus m e x a c l h =
    sym (scaled (m * up e * c) (a * down e) l)
    ∙ ap (λ (z : ℕ). distance z (a * down e * l)) (turned (m * up e) x c l (down e) h)
    ∙ ap (λ (z : ℕ). distance (x * c * down e) z) (mul_right_comm a (down e) l)
    ∙ scaled (x * c) (a * l) (down e)

far_minus : (m : ℕ) (e : ℤ) (x a c l : ℕ) → m * up e * l ≡ x * down e → far (fin true m e) a c * l ≡ (x * c + a * l) * down e
far_minus m e x a c l h =
    add-mul (m * up e * c) (a * down e) l
    ∙ ap (λ (z : ℕ). z + a * down e * l) (turned (m * up e) x c l (down e) h)
    ∙ ap (λ (z : ℕ). x * c * down e + z) (mul_right_comm a (down e) l)
    ∙ sym (add-mul (x * c) (a * l) (down e))

crossed : (fx fy A B dx dy l : ℕ) → fx * l ≡ A * dx → fy * l ≡ B * dy → A < B → 0 < dx → 0 < dy → fx * dy < fy * dx
crossed fx fy A B dx dy l p q h X Y =
    lt_of_mul-lt-mul_right l
    (subst (λ (z : ℕ). z < fy * dx * l) (sym (mul_right_comm fx dy l ∙ ap (λ (z : ℕ). z * dy) p))
    (subst (λ (z : ℕ). A * dx * dy < z) (sym (mul_right_comm fy dx l ∙ ap (λ (z : ℕ). z * dx) q ∙ mul_right_comm B dy dx))
    (mul-lt-mul_of_pos_right (mul-lt-mul_of_pos_right h X) Y)))

-- two floats of as many units are the same number
same_size : (v w x y dv dw l : ℕ) → 0 < l → v * l ≡ x * dv → w * l ≡ y * dw → y ≡ x → v * dw ≡ w * dv
same_size v w x y dv dw l L p q h =
    eq_of_mul-eq-mul_right l L (v * dw) (w * dv)
    (mul_right_comm v dw l ∙ ap (λ (z : ℕ). z * dw) p ∙ mul_right_comm x dv dw ∙ ap (λ (z : ℕ). z * dw * dv) (sym h) ∙ sym (mul_right_comm w dv l ∙ ap (λ (z : ℕ). z * dv) q))

equal_plus : (m : ℕ) (e : ℤ) (n : ℕ) (d : ℤ) → m * up e * down d ≡ n * up d * down e → T (eq (fin false m e) (fin false n d))
unfolding eq
equal_plus m e n d h = and_i (eqb (m * up e * down d) (n * up d * down e)) true (eq→eqb h) tt

equal_minus : (m : ℕ) (e : ℤ) (n : ℕ) (d : ℤ) → m * up e * down d ≡ n * up d * down e → m * up e * down d ≡ 0 → T (eq (fin false m e) (fin true n d))
unfolding eq
equal_minus m e n d h z = and_i (eqb (m * up e * down d) (n * up d * down e)) (eqb (m * up e * down d) 0) (eq→eqb h) (eq→eqb z)

-- ---- `round` gives the nearest

-- the fraction a / c does not lie in the middle of two neighbours
abbrev NoTie : Format → ℕ → ℕ → Type 0
NoTie f a c = let n = a * 2 ^ low f in let u = c * 2 ^ drop (prec f) n c in n % u * 2 ≡ u → ⊥

nothing : (q z c : ℕ) → 0 ≡ q → q * z * c ≡ 0
nothing q z c h = ap (λ (x : ℕ). x * z * c) (sym h) ∙ ap (λ (x : ℕ). x * c) (zero-mul z) ∙ zero-mul c

from_nothing : (n : ℕ) → distance 0 n ≡ n
from_nothing n = omega arith

grows : (x n : ℕ) → 0 < x → n < x + n
grows x n h = omega arith

raised : (x n : ℕ) → n ≤ x + n
raised x n = omega arith

against : (f : Format) (a c : ℕ) (x y : Float) → 0 < c → NoTie f a c → HasValue x false (grid f a c) (2 ^ low f) → T (fits f y) → T (finite y)
    → T (eq x y) ⊎ (far x a c * den y < far y a c * den x)
against f a c nan y C tie h t u = absurd h
against f a c (inf s) y C tie h t u = absurd h
against f a c (fin true m e) y C tie h t u = absurd (true≢false h.0)
against f a c (fin false m e) nan C tie h t u = absurd u
against f a c (fin false m e) (inf s) C tie h t u = absurd u
against f a c (fin false m e) (fin false n d) C tie h t u =
    let l = low f in
    let is = double_says f false n d t in
    let at = units_of l d is.1 in
    let p = nearest_units (prec f) (a * 2 ^ l) c (drop (prec f) (a * 2 ^ l) c) at.0 n (two-le_pos (prec f) (two f)) C refl tie is.0 in
    elim p [
      | inl w ↦ inl (equal_plus m e n d (same_size (m * up e) (n * up d) (grid f a c) (n * 2 ^ at.0) (down e) (down d) (2 ^ l) (pow_pos l) h.1 (at.1 n) w))
      | inr w ↦
          inr (crossed (far (fin false m e) a c) (far (fin false n d) a c) (distance (grid f a c * c) (a * 2 ^ l)) (distance (n * 2 ^ at.0 * c) (a * 2 ^ l)) (down e) (down d) (2 ^ l)
          (far_plus m e (grid f a c) a c (2 ^ l) h.1) (far_plus n d (n * 2 ^ at.0) a c (2 ^ l) (at.1 n)) w (down_pos e) (down_pos d))
    ]
against f a c (fin false m e) (fin true n d) C tie h t u = go (closest_beside N (c * 2 ^ k) 0 (mul-pos C (pow_pos k)) tie) (eq-zero-or-pos Y)
  where
    N : ℕ
    N = a * 2 ^ low f

    k : ℕ
    k = drop (prec f) N c

    q : ℕ
    q = closest N (c * 2 ^ k)

    at : (j : ℕ) × ((m : ℕ) → m * up d * 2 ^ low f ≡ m * 2 ^ j * down d)
    at = units_of (low f) d (double_says f true n d t).1

    Y : ℕ
    Y = n * 2 ^ at.0

    farther : distance (q * 2 ^ k * c) N < Y * c + N → T (eq (fin false m e) (fin true n d)) ⊎ (far (fin false m e) a c * down d < far (fin true n d) a c * down e)
    farther w =
        inr (crossed (far (fin false m e) a c) (far (fin true n d) a c) (distance (q * 2 ^ k * c) N) (Y * c + N) (down e) (down d) (2 ^ low f)
        (far_plus m e (q * 2 ^ k) a c (2 ^ low f) h.1) (far_minus n d Y a c (2 ^ low f) (at.1 n)) w (down_pos e) (down_pos d))

    go : (0 ≡ q) ⊎ (distance (q * (c * 2 ^ k)) N < distance (0 * (c * 2 ^ k)) N) → (Y ≡ 0) ⊎ (0 < Y)
        → T (eq (fin false m e) (fin true n d)) ⊎ (far (fin false m e) a c * down d < far (fin true n d) a c * down e)
    go (inl z) (inl y) =
        let e1 : m * up e * down d ≡ n * up d * down e = same_size (m * up e) (n * up d) (q * 2 ^ k) Y (down e) (down d) (2 ^ low f) (pow_pos (low f)) h.1 (at.1 n) (y ∙ sym (ap (λ (x : ℕ). x * 2 ^ k) (sym z) ∙ zero-mul (2 ^ k))) in
        let e2 : m * up e ≡ 0 = eq_of_mul-eq-mul_right (2 ^ low f) (pow_pos (low f)) (m * up e) 0 (h.1 ∙ nothing q (2 ^ k) (down e) z ∙ sym (zero-mul (2 ^ low f))) in
        inl (equal_minus m e n d e1 (ap (λ (x : ℕ). x * down d) e2 ∙ zero-mul (down d)))
    go (inl z) (inr y) = farther (subst (λ (x : ℕ). distance x N < Y * c + N) (sym (nothing q (2 ^ k) c z)) (subst (λ (x : ℕ). x < Y * c + N) (sym (from_nothing N)) (grows (Y * c) N (mul-pos y C))))
    go (inr w) y =
        farther
        (subst (λ (x : ℕ). distance x N < Y * c + N) (swap q c (2 ^ k))
        (lt_of_lt_of_le (subst (λ (x : ℕ). distance (q * (c * 2 ^ k)) N < x) (ap (λ (x : ℕ). distance x N) (zero-mul (c * 2 ^ k)) ∙ from_nothing N) w) (raised (Y * c) N)))

-- ---- seconds / 3600

-- seconds below 2 ^ 32, in units, have at most this many digits
few_digits : (s l : ℕ) → s < 2 ^ 32 → size (s * 2 ^ l / 3600) ≤ 32 + l
few_digits s l h = size-le (s * 2 ^ l / 3600) (32 + l) (lt_of_le_of_lt (div-le_self (s * 2 ^ l) 3600) (shl_lt 32 l h))

odd_even : (x w : ℕ) → x * 2 ≡ (w * 2 + 1) * 225 → ⊥
odd_even x w h = omega arith

doubled : (w u t n : ℕ) → w * u + t ≡ n → t * 2 ≡ u → n * 2 ≡ w * u * 2 + u
doubled w u t n e h = omega arith

-- s * 2 ^ l is never an odd number of halves of 3600 * 2 ^ k: 225 times an odd number is odd
no_half : (s l k : ℕ) → k + 4 ≤ l → s * 2 ^ l % (3600 * 2 ^ k) * 2 ≡ 3600 * 2 ^ k → ⊥
no_half s l k h e =
    let n = s * 2 ^ l in
    let u = 3600 * 2 ^ k in
    let w = n / u in
    let z = 2 ^ (k + 4) in
    let d = 2 ^ (l - (k + 4)) in
    let a : n * 2 ≡ w * u * 2 + u = doubled w u (n % u) n (div-add-mod' n u) e in
    let b : u ≡ 225 * z = mul_assoc 225 16 (2 ^ k) ∙ ap (λ (x : ℕ). 225 * x) (mul_comm 16 (2 ^ k) ∙ sym (pow-add 2 k 4)) in
    let c : n ≡ s * d * z = ap (λ (x : ℕ). s * x) (ap (λ (x : ℕ). 2 ^ x) (sym (back l (k + 4) h)) ∙ pow-add 2 (l - (k + 4)) (k + 4)) ∙ sym (mul_assoc s d z) in
    let g : w * u * 2 + u ≡ (w * 2 + 1) * 225 * z =
    ap (λ (x : ℕ). w * x * 2 + x) b ∙ sym (ap (λ (x : ℕ). x + 225 * z) (mul_right_comm w 2 (225 * z)) ∙ refl) ∙ spread w z in
    odd_even (s * d) w (eq_of_mul-eq-mul_right z (pow_pos (k + 4)) (s * d * 2) ((w * 2 + 1) * 225) (mul_right_comm (s * d) 2 z ∙ ap (λ (x : ℕ). x * 2) (sym c) ∙ a ∙ g))
  where
    spread : (w z : ℕ) → w * 2 * (225 * z) + 225 * z ≡ (w * 2 + 1) * 225 * z
    spread w z = sym (mul_assoc (w * 2 + 1) 225 z ∙ add-mul (w * 2) 1 (225 * z) ∙ ap (λ (x : ℕ). w * 2 * (225 * z) + x) (one-mul (225 * z)))

dropped : (z p l : ℕ) → z ≤ 32 + l → p ≡ 53 → l ≡ 1074 → z - p + 4 ≤ l
dropped z p l h e g = omega arith

no_tie : (s : ℕ) → s < 2 ^ 32 → NoTie binary64 s 3600
no_tie s h = no_half s 1074 (drop 53 (s * 2 ^ 1074) 3600) (dropped (size (s * 2 ^ 1074 / 3600)) 53 1074 (few_digits s 1074 h) refl refl)

-- what is kept has at most one digit more than the format
kept_le : (p n c : ℕ) → kept p n c ≤ 2 ^ p
kept_le p n c =
    let k = drop p n c in
    let u = c * 2 ^ k in
    le_trans (nearest-le (n / u) (compare (n % u * 2) u)) (subst (λ (x : ℕ). x < 2 ^ p) (div-div-eq-div-mul n c (2 ^ k)) (kept-lt p (n / c)))

in_range_lem : (z p l t : ℕ) → z ≤ 32 + l → p ≡ 53 → l ≡ 1074 → t ≡ 2098 → p + (z - p) < t
in_range_lem z p l t h a b c = omega arith

finite_grid : (s : ℕ) → s < 2 ^ 32 → grid binary64 s 3600 < overflow binary64
finite_grid s h =
    let n = s * 2 ^ 1074 in
    let k = drop 53 n 3600 in
    lt_of_le_of_lt (le_trans (mul-le-mul_right (2 ^ k) (kept_le 53 n 3600)) (le_of_eq (sym (pow-add 2 53 k))))
    (pow-lt (in_range_lem (size (n / 3600)) 53 1074 2098 (few_digits s 1074 h) refl refl refl))

value_finite : (x : Float) (s : Bool) (a c : ℕ) → HasValue x s a c → T (finite x)
value_finite nan s a c h = absurd h
value_finite (inf t) s a c h = absurd h
value_finite (fin t m e) s a c h = tt

-- THE NEAREST: every other double is farther from seconds / 3600
pub hours_nearest : (s : ℕ) → s < 2 ^ 32 → Nearest (hours_of s) s 3600
unfolding hours_of
hours_nearest s h =
    let v = round_val binary64 s 3600 (finite_grid s h) in
    record {
      double = round-fits binary64 false s 3600;
      is_finite = value_finite (round binary64 false s 3600) false (grid binary64 s 3600) (2 ^ 1074) v;
      nearer = λ y t u. against binary64 s 3600 (round binary64 false s 3600) y (lit< tt) (no_tie s h) v t u;
    }

-- EXACT where 225 divides the seconds: the hours are v * 225 / 3600 itself
pub hours_exact : (v : ℕ) → v < 2 ^ 32 → HasValue (hours_of (v * 225)) false (v * 225) 3600
unfolding hours_of
hours_exact v h =
    round_exact binary64 false (v * 225) 3600 v 1070 (lit< tt) (lt_of_lt_of_le h (lit≤ tt))
    (lt_of_lt_of_le (shl_lt 32 1070 h) (pow_mono {i = 1102} {j = 2098} (lit≤ tt)))
    (mul_assoc v 225 (2 ^ 1074) ∙ ap (λ (x : ℕ). v * x) scale ∙ sym (mul_assoc v (2 ^ 1070) 3600))
  where
    scale : 225 * 2 ^ 1074 ≡ 2 ^ 1070 * 3600
    scale = refl

-- two floats that are nearest to one fraction are the same number
pub one_nearest : (x y : Float) (a c : ℕ) → Nearest x a c → Nearest y a c → T (eq x y) ⊎ T (eq y x)
one_nearest x y a c p q = elim (p.nearer y q.double q.is_finite) [
  | inl t ↦ inl t
  | inr h ↦ elim (q.nearer x p.double p.is_finite) [ inl t ↦ inr t | inr k ↦ absurd (omega arith) ]
]

-- NO TIE: a double as near as the hours is the same number, so "ties to even" never has to choose
pub hours_no_tie : (s : ℕ) → s < 2 ^ 32 → (y : Float) → T (fits binary64 y) → T (finite y) → far (hours_of s) s 3600 * den y ≡ far y s 3600 * den (hours_of s) → T (eq (hours_of s) y)
hours_no_tie s h y t u e = elim ((hours_nearest s h).nearer y t u) [ inl w ↦ w | inr w ↦ absurd (omega arith) ]
