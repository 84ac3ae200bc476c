-- The state of a controller, the place that an open release stands for, and whether it is good (01, 'Calls' and refusal 11).
-- Assumes nothing: these are definitions.
use Rattle.std.specs.Prelude.{Bool, true, ◌&&◌, List, [], ◌∷◌, ◌++◌, ℕ, ◌-◌, length, take, drop, replicate}
use Rattle.std.proofs.Math.Option.{Option, none, some}
use Rattle.model.specs.Plan.{Plan, all_leaves}
use Rattle.model.specs.Forms.{main}
use Rattle.model.specs.Levels.{Frame, framed}
use Rattle.model.specs.Places.{pick}
use Rattle.model.specs.Stack.{Levels, decode, times}
use Rattle.model.specs.declared.Others.{Others}
use Rattle.model.specs.Controller.{is_point}
use Rattle.place.specs.Stack.{frames}
use Rattle.place.specs.declared.Place.{Place}
use Rattle.table.specs.Table.{same_numbers}
use Rattle.control.specs.declared.OpenRelease.{OpenRelease}
use Rattle.control.specs.declared.State.{State}
use Rattle.control.specs.declared.State.TheVariants.{Idle, Open}

-- A fresh state is idle (01).
abbrev pub fresh : State
fresh = Idle

-- The place at the release: no point was reported, and every number in it is 0 (01).
abbrev pub place_at_release : Place
place_at_release = record { level = 0; leaves = replicate 33 0; earlier = replicate 33 0 }

-- The place behind which a call comes: that of the open release, or that of a new one where none is open.
abbrev pub place_in : State → Place
place_in Idle = place_at_release
place_in (Open o) = o.place

-- A place's stack: for each level from 1 up to its own, the leaf reported last there, and its earlier visits there.
abbrev pub stack_at : Place → List Frame
stack_at x = frames x.leaves x.earlier 1 x.level

-- An open release has that of its place.
abbrev pub stack_of : OpenRelease → List Frame
stack_of o = stack_at o.place

-- Each frame is of a point of the plan.
unfoldable pub points? : Plan → List Frame → Bool
points? p [] = true
points? p (f ∷ fs) = is_point (all_leaves p.functions) f.leaf && points? p fs

-- The levels that a stack stands at: none open where no point was reported, else those that its stack of points decodes to.
abbrev pub levels_of : Plan → List Frame → Option Levels
levels_of p [] = some []
levels_of p (f ∷ fs) = pick (points? p (f ∷ fs)) (decode (main p) [] (f ∷ fs)) none

-- The levels of a good release: those where it stands, if its remaining times are those of that place (01, refusal 11).
abbrev pub timed : Plan → OpenRelease → Option Levels → Option Levels
timed p o none = none
timed p o (some ls) = pick (same_numbers o.times (times (main p) ls)) (some ls) none

abbrev pub standing : Plan → OpenRelease → Option Levels
standing p o = timed p o (levels_of p (stack_of o))

-- An array of 33 with v at l and 0 above.
abbrev pub put : List ℕ → ℕ → ℕ → List ℕ
put a l v = take l a ++ (v ∷ replicate (32 - l) 0)

-- The release as it is accepted, and at the report of n at the levels ls behind the place x, with this reading and the others doing this.
abbrev pub open_at_release : Plan → ℕ → Others → OpenRelease
open_at_release p reading others =
    record { others = others; reading = reading; place = place_at_release; times = times (main p) [] }

abbrev pub open_at_report : Plan → Place → ℕ → Levels → ℕ → Others → OpenRelease
open_at_report p x n ls reading others =
    let l = length ls in
    record {
      others = others;
      reading = reading;
      place = record {
        level = l;
        leaves = put x.leaves l n;
        earlier = put x.earlier l (framed n (drop (l - 1) (stack_at x))).earlier;
      };
      times = times (main p) ls;
    }
