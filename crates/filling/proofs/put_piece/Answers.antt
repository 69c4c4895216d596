use Rattle.filling.proofs.Fills.{plain_piece, last_piece, number_piece}
use Rattle.filling.proofs.put_piece.Goals as goal

pub returns-then-byte-ne123 : goal.returns-then-byte-ne123
returns-then-byte-ne123 c =
    let p = plain_piece c.args.byte c.args.numbers.now c.if-byte-ne123.true c.put_byte.ensures in
    record { piece = p.0; left = p.1 }

pub returns-in-Some : goal.returns-in-Some
returns-in-Some c =
    let first = c.in-Some.ensures.cases.0 in
    let number = rw first at c.type_inv.numbers 0 in
    let p = number_piece c.args.byte c.args.numbers.now c.if-byte-ne123.false first number.fits c.put_u64.ensures in
    record { piece = p.0; left = p.1 }

pub returns-in-None : goal.returns-in-None
returns-in-None c =
    let p = last_piece c.args.byte c.args.numbers.now c.in-None.ensures.cases c.put_byte-in-None.ensures in
    record { piece = p.0; left = p.1 }
