use Rattle.query_text.specs.Grammar.{sum, open_limit}
use Rattle.query_text.specs.Reader.{read_level}
use Rattle.query_text.proofs.Atoms.{too_long, no_sum, not_all, all_read}
use Rattle.query_text.proofs.Parts.{reads_got, reads_bad}
use Rattle.query_text.proofs.reader.read_query.Goals as goal

pub returns-then-bytes-gt-LONGEST : goal.returns-then-bytes-gt-LONGEST
returns-then-bytes-gt-LONGEST c = too_long c.args.bytes.now c.if-bytes-gt-LONGEST.true

pub returns-in_default : goal.returns-in_default
returns-in_default c =
    let bytes = c.args.bytes.now in
    no_sum bytes c.if-bytes-gt-LONGEST.false (reads_bad bytes 0 (read_level sum open_limit bytes) c.in_default.is c.sum.ensures)

pub returns-then-d-bytes : goal.returns-then-d-bytes
returns-then-d-bytes c =
    let bytes = c.args.bytes.now in
    let f = reads_got bytes 0 (read_level sum open_limit bytes) c.in-Some.is c.sum.ensures in
    not_all bytes _ _ c.if-bytes-gt-LONGEST.false f c.if-d-bytes.true

pub returns : goal.returns
returns c =
    let bytes = c.args.bytes.now in
    let f = reads_got bytes 0 (read_level sum open_limit bytes) c.in-Some.is c.sum.ensures in
    all_read bytes _ _ c.if-bytes-gt-LONGEST.false f c.if-d-bytes.false
