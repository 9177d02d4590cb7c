-- When a button may be lit, at a moment by each of the two clocks.
use Rattle.std.specs.Prelude.{ℕ, Bool, true, false, ◌&&◌, ◌||◌, List, [], ◌∷◌, ◌++◌, Option, None, Some, is_none}
use Rattle.std.specs.Prelude.{nat_eq}
use Rattle.std.specs.Option.{option_map_or}
use Rattle.cue_show.specs.Number.{same_text}
use Rattle.cue_show.specs.Show.{has_cue}
use Rattle.cue_exchange.specs.Answers.{answer_passes, is_preparing, is_waiting}
use Rattle.cue_exchange.specs.Live.{attempt_of, attempt_of_cue}
use Rattle.cue_exchange.specs.Steps.{can_go_now}
use Rattle.cue_exchange.specs.declared.attempt.Attempt.{Attempt}
use Rattle.cue_view.specs.declared.button.Button.{Button}
use Rattle.cue_view.specs.declared.button.Button.TheVariants as button
use Rattle.cue_station.specs.declared.heard.Copied.{Copied}
use Rattle.cue_station.specs.declared.lighting.Footing.{Footing}
use Rattle.cue_view.specs.declared.view.Next.{Next}
use Rattle.cue_view.specs.declared.view.Next.TheVariants as next
use Rattle.cue_station.specs.declared.memory.Reading.{Reading}
use Rattle.cue_station.specs.Turns.{Turn}
use Rattle.cue_station.specs.Alarms.{stands_by, trouble_of}
use Rattle.cue_station.specs.Reading.{reading_of, answered_of, seen_since}
use Rattle.cue_station.specs.Asking.{going_of, is_calm, is_quiet}
use Rattle.cue_station.specs.Choosing.{chosen_of, chosen_number}
use Rattle.cue_station.specs.Following.{next_in}
use Rattle.cue_station.specs.Showing.{is_in_time}

-- the number is this one
abbrev pub is_number : ℕ → Option ℕ → Bool
is_number q None = false
is_number q (Some p) = nat_eq p q

-- the cue that is next is this one
abbrev pub is_next : List ℕ → Next → Bool
is_next c (next.Cue d) = same_text d c
is_next c next.Empty = false
is_next c next.End = false
is_next c next.Unknown = false

-- the live attempt q passes the test
abbrev pub is_live_as : ℕ → (Attempt → Bool) → List Attempt → Bool
is_live_as q test live = option_map_or test (attempt_of live q) false

-- GO can be given for the attempt: each device may go, and its ten seconds are not over by either clock
abbrev pub is_ready : Option ℕ → ℕ → ℕ → Attempt → Bool
is_ready since now wall a = can_go_now a && is_in_time since now wall a

-- GO: the attempt at the cue is ready in a copy that stands; it was chosen; and no press of ours is open.
abbrev pub may_go : Footing → (ℕ → Option ℕ) → List ℕ → ℕ → Copied → Bool
may_go f since cue q c =
    (f.stands && (f.is_quiet && is_number q f.chosen))
    && is_live_as q (λ a. same_text a.cue cue && is_ready (since q) f.at f.wall a) c.state.live

-- CANCEL: the attempt prepares, and was chosen, or the last press is a GO of it that is open. An open STANDBY or
-- release of ours does not stop it: it is the safe way.
abbrev pub may_cancel : Footing → List ℕ → ℕ → Copied → Bool
may_cancel f cue q c =
    (f.stands && ((f.is_calm && is_number q f.chosen) || is_number q f.going))
    && is_live_as q (λ a. same_text a.cue cue && is_preparing a.stage) c.state.live

-- STANDBY: the cue is next, and nothing is live at it.
abbrev pub may_standby : Footing → List ℕ → Copied → Bool
may_standby f cue c =
    (f.stands && f.is_quiet) && (is_next cue (next_in c) && is_none (attempt_of_cue c.state.live cue))

-- Release: the live attempt waits for the device.
abbrev pub may_release : Footing → ℕ → ℕ → Copied → Bool
may_release f q d c = (f.stands && f.is_quiet) && is_live_as q (λ a. answer_passes is_waiting d a.answers) c.state.live

-- Move here: the stack has the cue.
abbrev pub may_move : Footing → List ℕ → Copied → Bool
may_move f cue c = (f.stands && f.is_quiet) && has_cue c.state.show cue

-- Choosing sends nothing: the attempt prepares.
abbrev pub may_choose : ℕ → Copied → Bool
may_choose q c = is_live_as q (λ a. is_preparing a.stage) c.state.live

-- When a button may be lit over a copy. Seen sends nothing, and rests on no copy: it is lit exactly for the failures
-- whose alarm is shown (`LitIsSo`).
abbrev pub may_in : Footing → (ℕ → Option ℕ) → Copied → Button → Bool
may_in f since c (button.Go cue q) = may_go f since cue q c
may_in f since c (button.Cancel cue q) = may_cancel f cue q c
may_in f since c (button.Standby cue) = may_standby f cue c
may_in f since c (button.Release q d) = may_release f q d c
may_in f since c (button.MoveTo cue) = may_move f cue c
may_in f since c (button.Choose q) = may_choose q c
may_in f since c (button.Seen q) = true

abbrev pub may_by : Footing → (ℕ → Option ℕ) → Option Reading → Button → Bool
may_by f since None b = false
may_by f since (Some r) b = may_in f since r.copy b

-- what a lit button rests on, beside the copy: the copy is in sight, and is what somebody at our port said lately that he
-- serves; which attempt is chosen; of which the last press is an open GO; and whether a press is open
abbrev pub footing_of : List Turn → ℕ → ℕ → Footing
footing_of turns now wall =
    record {
      at = now;
      wall = wall;
      stands = stands_by now (trouble_of turns) (answered_of turns) (reading_of turns);
      chosen = chosen_number (chosen_of turns);
      going = going_of turns;
      is_quiet = is_quiet turns;
      is_calm = is_calm turns;
    }

-- when a button may be lit
abbrev pub may : List Turn → ℕ → ℕ → Button → Bool
may turns now wall b = may_by (footing_of turns now wall) (λ q. seen_since q turns) (reading_of turns) b

-- ---- the buttons that there are

-- GO and CANCEL of an attempt
abbrev pub go_and_cancel : Attempt → List Button
go_and_cancel a = button.Go a.cue a.seq ∷ button.Cancel a.cue a.seq ∷ []

-- those of an attempt, if there is one
abbrev pub keys_of_choice : List Attempt → Option ℕ → List Button
keys_of_choice live None = []
keys_of_choice live (Some q) = option_map_or go_and_cancel (attempt_of live q) []

-- STANDBY of the cue that is next
abbrev pub standby_of : Next → List Button
standby_of (next.Cue cue) = button.Standby cue ∷ []
standby_of next.Empty = []
standby_of next.End = []
standby_of next.Unknown = []

-- the three great buttons: GO and CANCEL of the attempt that is chosen, and of the one of an open GO
abbrev pub keys_of : Footing → Copied → List Button
keys_of f c =
    (keys_of_choice c.state.live f.chosen ++ keys_of_choice c.state.live f.going) ++ standby_of (next_in c)
