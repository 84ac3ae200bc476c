-- The numbers of the refusals (01, 'Calls', and 18 and 19 of 02).
-- Assumes nothing: these are definitions.
use Rattle.std.specs.Prelude.{ℕ}
use Rattle.model.specs.declared.Refusal.{Refusal}
use Rattle.model.specs.declared.Refusal.TheVariants.{Oversize, Form, Range, Count, Load, Target, Depth, Unseen, Uncalled, Long, Broken, Busy, Unfit, Idle, Stranger, Backward, Astray, Garbled, Costless}

-- The number of a refusal.
abbrev pub number_of : Refusal → ℕ
number_of Oversize = 1
number_of Form = 2
number_of Range = 3
number_of Count = 4
number_of Load = 5
number_of Target = 6
number_of Depth = 7
number_of Unseen = 8
number_of Uncalled = 9
number_of Long = 10
number_of Broken = 11
number_of Busy = 12
number_of Unfit = 13
number_of Idle = 14
number_of Stranger = 15
number_of Backward = 16
number_of Astray = 17
number_of Garbled = 18
number_of Costless = 19
