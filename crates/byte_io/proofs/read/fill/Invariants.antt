use Rattle.byte_form.specs.Layout.{rm01}
use Rattle.byte_io.specs.InnerRead.{Filled}
use Rattle.byte_io.proofs.read.fill.Given as goal

abbrev pub invariant-loop-k : goal.invariant-loop-k
invariant-loop-k l = Filled rm01 l.k l.bytes l.initial.m l.m
