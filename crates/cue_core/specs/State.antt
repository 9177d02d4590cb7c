-- The state of a show, and its rules.
use Rattle.std.specs.Prelude.{ℕ, Bool, true, false, not, ◌&&◌, List, [], Option, None, Some, is_some, unwrap_or, nat_eq}
use Rattle.std.specs.Prelude.{nat_le}
use Rattle.std.specs.Bool.{beq}
use Rattle.std.specs.List.{list_all}
use Rattle.std.specs.Option.{option_map_or}
use Rattle.std.specs.Cmp.Lexicographic.{pointwise}
use Rattle.cue_show.specs.declared.part.Part.{Part}
use Rattle.cue_show.specs.Show.{ShowLists, empty_show, parts_of, is_show}
use Rattle.cue_exchange.specs.declared.attempt.Attempt.{Attempt}
use Rattle.cue_exchange.specs.declared.attempt.DeviceAnswer.{DeviceAnswer}
use Rattle.cue_exchange.specs.declared.limits.TheConstants.{MAX_NUMBER}
use Rattle.cue_exchange.specs.Live.{attempt_of, are_live, is_number}
use Rattle.cue_core.specs.declared.event.Ended.{Ended}

-- the show, the live attempts, the last number that was drawn, and the attempt that ended last
pub record ShowState : Type 0 where
  pub show : ShowLists
  pub live : List Attempt
  pub last_seq : ℕ
  pub ended : Option Ended

-- no device, no cue, no place, and no attempt yet
abbrev pub empty_state : ShowState
empty_state = record { show = empty_show; live = []; last_seq = 0; ended = None }

-- the state with another show
abbrev pub with_show : ShowState → ShowLists → ShowState
with_show s show = record { show = show; live = s.live; last_seq = s.last_seq; ended = s.ended }

-- the state with other live attempts
abbrev pub with_live : ShowState → List Attempt → ShowState
with_live s live = record { show = s.show; live = live; last_seq = s.last_seq; ended = s.ended }

-- the parts of a cue; none if it is not in the stack
abbrev pub cue_parts : ShowLists → List ℕ → List Part
cue_parts show c = unwrap_or (parts_of show c) []

-- ---- the rules

-- the device is that of the part, and optional if the part is
abbrev pub is_of_part : Part → DeviceAnswer → Bool
is_of_part p x = nat_eq p.device x.device && beq p.optional x.optional

-- the devices are those of the parts, in order
abbrev pub are_of_parts : List Part → List DeviceAnswer → Bool
are_of_parts parts answers = pointwise is_of_part parts answers

-- the attempt's cue is in the stack, and its devices are those of the cue's parts
abbrev pub is_at_cue : ShowLists → Attempt → Bool
is_at_cue show a = option_map_or (λ parts. are_of_parts parts a.answers) (parts_of show a.cue) false

-- an attempt that has ended has a number that was drawn, and is not live
abbrev pub is_ended : List Attempt → ℕ → Option Ended → Bool
is_ended live last None = true
is_ended live last (Some e) = is_number e.seq && (nat_le e.seq last && not (is_some (attempt_of live e.seq)))

-- the rules that tie the parts of a state to each other
abbrev pub are_tied : ShowState → Bool
are_tied s =
    list_all (is_at_cue s.show) s.live
    && (list_all (λ a. nat_le a.seq s.last_seq) s.live
    && (nat_le s.last_seq MAX_NUMBER && is_ended s.live s.last_seq s.ended))

-- the rules of a state: those of its show, those of its live attempts, and those that tie them
abbrev pub is_state : ShowState → Bool
is_state s = is_show s.show && (are_live s.live && are_tied s)
