-- Keys (the key of a midnight as a plain number), Accepted (which zones and dates are), Spans (what is known of a day: its length, that days meet, that starts
-- ascend), Instants (an instant lies in exactly one day), Cases (document 01).
pub mod Keys
pub mod Accepted
pub mod Spans
pub mod Instants
pub mod Cases
pub mod OneOutcome
