-- Text is a list of bytes. What a function that puts text into lent bytes does, and text in columns.
use Rattle.std.specs.Prelude.{ℕ, ◌+◌, ◌-◌, ◌≡◌, List, ◌++◌, length, replicate}
use Rattle.std.proofs.lemmas.List.Edits.{sets}

-- the byte of a space
abbrev pub space : ℕ
space = 32

-- put into the bytes `out` from `at` on, a text makes `out₁` of them, and r is the place behind it
pub record Adds (text out : List ℕ) (at : ℕ) (out₁ : List ℕ) (r : ℕ) : Type 0 where
  pub upto : r ≡ at + length text
  pub puts : out₁ ≡ sets out at text

-- a text at the right of w columns: spaces before it
unfoldable pub right_of : ℕ → List ℕ → List ℕ
right_of w t = replicate (w - length t) space ++ t

-- a text at the left of w columns: spaces behind it
unfoldable pub left_of : ℕ → List ℕ → List ℕ
left_of w t = t ++ replicate (w - length t) space
