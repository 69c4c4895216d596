use Prim.Native.Nat.{◌+◌, ◌*◌}
use borrow.Author.Tests.{lt-ltb, le-ltb}
use Rattle.query_text.specs.InnerTable.{says}
use Rattle.query_text.proofs.truth.Truth.says.Goals as goal

pub returns-then-i-lt64 : goal.returns-then-i-lt64
unfolding says
returns-then-i-lt64 c =
    let g = c.args in
    rw (lt-ltb (11 * g.a + g.b) 64 c.if-i-lt64.true) c.bit.ensures

pub returns-else-i-lt64 : goal.returns-else-i-lt64
unfolding says
returns-else-i-lt64 c =
    let g = c.args in
    rw (le-ltb (11 * g.a + g.b) 64 c.if-i-lt64.false) c.bit-else-i-lt64.ensures
