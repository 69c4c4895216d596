-- Document 01's hours, by computation, and two that are not exact: the bits are those of the Rust's quotients.
use mathlib.Core.Path.{◌≡◌, refl}
use mathlib.Core.Bool.{false}
use lib.IntN.{pos}
use lib.Ieee.{fin, binary64, to_bits}
use Rattle.hours.specs.Hours.{hours_of}

pub none_are : hours_of 0 ≡ fin false 0 (pos 0)
unfolding hours_of
none_are = refl

-- 18.0
pub eighteen : hours_of 64800 ≡ fin false 9 (pos 1)
unfolding hours_of
eighteen = refl

-- 7.0
pub seven : hours_of 25200 ≡ fin false 7 (pos 0)
unfolding hours_of
seven = refl

pub of_one_second : to_bits binary64 (hours_of 1) ≡ 0x3f32_3456_789a_bcdf
unfolding hours_of to_bits
of_one_second = refl

pub of_the_longest_day_less_a_second : to_bits binary64 (hours_of 89999) ≡ 0x4038_ffed_cba9_8765
unfolding hours_of to_bits
of_the_longest_day_less_a_second = refl
