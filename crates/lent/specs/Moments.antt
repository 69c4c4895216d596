-- What a lent reference holds at the two moments that a contract speaks of: the function's entry, and its exit. A clause writes `x.old` and `x.new`.
use Rattle.std.specs.Borrow.{MutBor}
use denote.Triple.Both.{Both}

module _ {A X : Type 0} where
  -- what it held when the function was called
  abbrev pub was : Both (MutBor A) X → A
  was x = x.entry.now

  -- what it holds when the function is done
  abbrev pub becomes : Both X (MutBor A) → A
  becomes x = x.exit.now
