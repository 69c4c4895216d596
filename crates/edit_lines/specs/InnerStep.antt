-- What the functions of this crate say to each other.
use Rattle.std.specs.Prelude.{ℕ, suc, cond, List, [], ◌∷◌, eqb}

-- where a byte first stands in a text, or the text's length
unfoldable pub index_of : ℕ → List ℕ → ℕ
index_of b [] = 0
index_of b (x ∷ xs) = cond (eqb x b) 0 (suc (index_of b xs))
