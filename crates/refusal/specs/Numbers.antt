-- 01's number of each refusal ("Refusal numbers"). Which call checks which of them, and in which order, stands with the calls.
use Rattle.std.specs.Prelude.{ℕ}
use Rattle.refusal.specs.declared.Refusal.{Refusal}
use Rattle.refusal.specs.declared.Refusal.TheVariants as refusal

abbrev pub number_of : Refusal → ℕ
number_of refusal.WrongSize = 1
number_of refusal.WrongTable = 2
number_of refusal.TooMuchTime = 3
number_of refusal.NoForm = 4
number_of refusal.NotForUs = 5
number_of refusal.NoRecord = 6
number_of refusal.ContentsOver = 7
number_of refusal.Old = 8
number_of refusal.Inconsistent = 9
number_of refusal.WrongReason = 10
number_of (refusal.Malformed at) = 11
