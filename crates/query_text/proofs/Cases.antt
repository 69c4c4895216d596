-- Going by cases on a test, and on what is read.
use Prim.Native.Nat.{ℕ, zero, suc}
use mathlib.Core.Path.{◌≡◌, refl}
use mathlib.Core.Bool.{Bool, true, false, ◌&&◌}
use mathlib.Core.List.{List}
use native.Mathlib.Omega.{arith}
use Rattle.query_text.specs.Grammar.{Query}
use Rattle.query_text.specs.Reader.{Read, got, bad, choose, and_then, deeper}

pub both_true : (a b : Bool) → (a && b) ≡ true → (a ≡ true) × (b ≡ true)
both_true true b e = (refl, e)
both_true false b e = let z : ◌≡◌ {A = ℕ} 0 1 = cc in absurd (omega arith)

pub choose_ind : (P : Read → Type 0) (b : Bool) (f g : Unit {0} → Read) → (b ≡ true → P (f tt)) → (b ≡ false → P (g tt)) → P (choose b f g)
choose_ind P true f g y n = y refl
choose_ind P false f g y n = n refl

pub then_ind : (P : Read → Type 0) (x : Read) (k : Query → List ℕ → Read) → P bad → ((q : Query) (r : List ℕ) → x ≡ got q r → P (k q r)) → P (and_then x k)
then_ind P bad k b h = b
then_ind P (got q r) k b h = h q r refl

pub deeper_ind : (P : Read → Type 0) (n : ℕ) (k : ℕ → Read) → P bad → ((m : ℕ) → n ≡ suc m → P (k m)) → P (deeper n k)
deeper_ind P zero k b h = b
deeper_ind P (suc m) k b h = h m refl

pub choose_same : (b : Bool) (f g p q : Unit {0} → Read) → (b ≡ true → f tt ≡ p tt) → (b ≡ false → g tt ≡ q tt) → choose b f g ≡ choose b p q
choose_same true f g p q y n = y refl
choose_same false f g p q y n = n refl

pub then_same : (x : Read) (f g : Query → List ℕ → Read) → ((q : Query) (r : List ℕ) → x ≡ got q r → f q r ≡ g q r) → and_then x f ≡ and_then x g
then_same bad f g h = refl
then_same (got q r) f g h = h q r refl

pub deeper_same : (n : ℕ) (f g : ℕ → Read) → ((m : ℕ) → f m ≡ g m) → deeper n f ≡ deeper n g
deeper_same zero f g h = refl
deeper_same (suc m) f g h = h m
