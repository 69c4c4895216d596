-- What a table says of two classes.
use Rattle.std.specs.Prelude.{ℕ, ◌+◌, ◌-◌, ◌*◌, ◌/◌, ◌%◌, ◌^◌, ◌≤◌, ◌≡◌, Bool, cond, eqb, ltb}
use Rattle.query_text.specs.declared.truth.Truth.{Truth}

-- is bit i of a word 1
unfoldable pub is_one : ℕ → ℕ → Bool
is_one x i = eqb (x / 2 ^ i % 2) 1

-- the bit of the classes a and b
unfoldable pub says : Truth → ℕ → ℕ → Bool
says t a b = let i = 11 * a + b in cond (ltb i 64) (is_one t.low i) (is_one t.high (i - 64))

-- the table t shows f, at each two classes
abbrev pub Shows : Truth → (ℕ → ℕ → Bool) → Type 0
Shows t f = (a b : ℕ) → a ≤ 10 → b ≤ 10 → says t a b ≡ f a b
