use Rattle.calendar.proofs.Sundays.{march_sunday_of}
use Rattle.calendar.proofs.march_sunday.Goals as goal

pub returns : goal.returns
returns c = march_sunday_of c.args.year c.day_number.ensures.0 c.sunday_from-first.ensures.0
