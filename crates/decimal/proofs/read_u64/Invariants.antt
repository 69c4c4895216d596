use mathlib.Core.Path.{◌≡◌}
use lib.ListN.{drop}
use Rattle.std.specs.Prelude.{Some}
use Rattle.decimal.specs.Reading.{read_on, read_number}
use Rattle.decimal.proofs.read_u64.Given as goal

abbrev pub invariant-loop-byte : goal.invariant-loop-byte
invariant-loop-byte l = read_number l.text ≡ read_on (Some l.n) (drop l.byte-index l.text)
