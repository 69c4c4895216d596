use Rattle.calendar.proofs.Sundays.{november_sunday_of}
use Rattle.calendar.proofs.november_sunday.Goals as goal

pub returns : goal.returns
returns c = november_sunday_of c.args.year c.day_number.ensures.0 c.sunday_from.ensures.0
