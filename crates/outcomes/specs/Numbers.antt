-- Each answer as C and Rust see it: its number, and its values, 0 where document 01 says 0.
use Rattle.std.specs.Prelude.{true, false, pos, negsuc, Ok, Err, Some, None}
use Rattle.answers.specs.Answers.{done, none_there}
use Rattle.answers.specs.Refusals.{number}
use Rattle.std.specs.declared.cmp.Ordering.TheVariants.{Less, Equal, Greater}
use Rattle.outcomes.specs.Answered.{Asked, Counted, Found, Located, Compared, Totalled}
use Rattle.outcomes.specs.declared.Told.{Told}
use Rattle.outcomes.specs.declared.Count.{Count}
use Rattle.outcomes.specs.declared.Range.{Range}
use Rattle.outcomes.specs.declared.Stretch.{Stretch}
use Rattle.outcomes.specs.declared.Order.{Order}
use Rattle.outcomes.specs.declared.Total.{Total}

abbrev pub asked_in_c : Asked → Told
asked_in_c (Ok b) = record { answer = done; yes = b }
asked_in_c (Err why) = record { answer = number why; yes = false }

abbrev pub counted_in_c : Counted → Count
counted_in_c (Ok n) = record { answer = done; count = n }
counted_in_c (Err why) = record { answer = number why; count = 0 }

abbrev pub found_in_c : Found → Range
found_in_c (Ok (Some x)) = record { answer = done; start = x.start; end = x.end; value = x.value }
found_in_c (Ok None) = record { answer = none_there; start = pos 0; end = pos 0; value = 0 }
found_in_c (Err why) = record { answer = number why; start = pos 0; end = pos 0; value = 0 }

abbrev pub part_in_c : Located → Stretch
part_in_c (Ok p) = record { answer = done; place = p.place; count = p.count }
part_in_c (Err why) = record { answer = number why; place = 0; count = 0 }

abbrev pub compared_in_c : Compared → Order
compared_in_c (Ok Less) = record { answer = done; order = negsuc 0 }
compared_in_c (Ok Equal) = record { answer = done; order = pos 0 }
compared_in_c (Ok Greater) = record { answer = done; order = pos 1 }
compared_in_c (Err why) = record { answer = number why; order = pos 0 }

-- two maps are equal where neither comes first
abbrev pub equal_of : Compared → Asked
equal_of (Ok Less) = Ok false
equal_of (Ok Equal) = Ok true
equal_of (Ok Greater) = Ok false
equal_of (Err why) = Err why

abbrev pub totalled_in_c : Totalled → Total
totalled_in_c (Ok n) = record { answer = done; total = n }
totalled_in_c (Err why) = record { answer = number why; total = 0 }
