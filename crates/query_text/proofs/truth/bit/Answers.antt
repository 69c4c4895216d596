use Prim.Native.Nat.{◌/◌, ◌%◌, ◌^◌}
use mathlib.Core.Path.{◌≡◌}
use lib.Bits.{bit_and, and_mask}
use Rattle.query_text.specs.InnerTable.{is_one}
use Rattle.query_text.proofs.truth.bit.Goals as goal

pub returns : goal.returns
unfolding is_one
returns c =
    let e : bit_and (c.args.word / 2 ^ c.args.i) 1 ≡ c.args.word / 2 ^ c.args.i % 2 = and_mask (c.args.word / 2 ^ c.args.i) 1 in
    rw e
