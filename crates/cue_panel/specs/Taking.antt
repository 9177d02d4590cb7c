-- What a message of MIDI is to a panel, and how the hand stands after it.
use Rattle.std.specs.Prelude.{Bool, true, false, Option, None, Some, if◌then◌else◌}
use Rattle.cue_midi.specs.declared.heard.Heard.{Heard}
use Rattle.cue_midi.specs.declared.heard.Heard.TheVariants as midi
use Rattle.cue_panel.specs.declared.player.Setting.{Setting}
use Rattle.cue_panel.specs.declared.taking.Source.{Source}
use Rattle.cue_panel.specs.declared.taking.Source.TheVariants as source
use Rattle.cue_panel.specs.declared.taking.Strike.{Strike}
use Rattle.cue_panel.specs.declared.taking.Taken.{Taken}
use Rattle.cue_panel.specs.declared.taking.Taken.TheVariants as taken
use Rattle.cue_presses.specs.declared.address.Spoken.{Spoken}
use Rattle.cue_presses.specs.declared.address.Spoken.TheVariants as spoken
use Rattle.cue_presses.specs.declared.hand.Hand.{Hand}
use Rattle.cue_presses.specs.declared.hand.Struck.TheVariants as struck
use Rattle.cue_presses.specs.declared.intent.Intent.{Intent}
use Rattle.cue_presses.specs.declared.keys.Keys.{Keys}
use Rattle.cue_presses.specs.declared.tally.Passed.{Passed}
use Rattle.cue_presses.specs.declared.tally.Passed.TheVariants as passed
use Rattle.cue_presses.specs.Address.{spoken_to}
use Rattle.cue_presses.specs.Hand.{after, comes_of, counted, has_room}
use Rattle.cue_presses.specs.Keys.{intent_of, is_first_of_keys, is_of_keys}
use Rattle.cue_view.specs.declared.view.View.{View}

-- ---- what it comes to

-- what a message is called
abbrev pub passed_of : Heard → Passed
passed_of (midi.NoteOn channel note velocity) = passed.Note note
passed_of (midi.Controller channel number value) = passed.Controller number
passed_of (midi.Show show) = passed.Elsewhere
passed_of (midi.Ignored kind) = passed.Other kind

-- it is the first that is heard of a controller, which is down
abbrev pub is_first : Keys → Hand → Heard → Bool
is_first k h m = is_first_of_keys k h.pedals m

-- it is of a key
abbrev pub is_key : Keys → Heard → Bool
is_key k m = is_of_keys k m

-- what presses no key: a controller that is down when it is heard first, a key all the same, or no key
abbrev pub unstruck : (is_first is_key : Bool) → Passed → Taken
unstruck true is_key p = taken.Held p
unstruck false true p = taken.Nothing
unstruck false false p = taken.Other p

-- what is struck comes to what the hand makes of it; else it is as the other says
abbrev pub struck_or : Option Intent → Source → Hand → View → Taken → Taken
struck_or (Some i) s h v other = taken.Struck s i (comes_of h v i)
struck_or None s h v other = other

-- notes and controllers
abbrev pub key_taken : Keys → Hand → View → Heard → Taken
key_taken k h v m =
    struck_or (intent_of k h.pedals m) (source.Key (passed_of m)) h v
    (unstruck (is_first k h m) (is_key k m) (passed_of m))

-- a command for this desk that intends nothing, within eight in a round
abbrev pub unmeant : Spoken → Hand → Taken
unmeant sp h = if has_room h then taken.Spoken sp else taken.Flooded

-- commands of show control
abbrev pub show_taken : Spoken → Hand → View → Taken
show_taken (spoken.Intent i) h v = taken.Struck source.Show i (comes_of h v i)
show_taken spoken.Elsewhere h v = taken.Other passed.Elsewhere
show_taken (spoken.OtherCommand n) h v = unmeant (spoken.OtherCommand n) h
show_taken spoken.NoCue h v = unmeant spoken.NoCue h
show_taken spoken.OtherList h v = unmeant spoken.OtherList h
show_taken spoken.Unfit h v = unmeant spoken.Unfit h

-- what a message comes to, by a hand and the view that is shown
abbrev pub taken_of : Setting → Hand → View → Heard → Taken
taken_of s h v (midi.Show show) = show_taken (spoken_to s.address show) h v
taken_of s h v (midi.NoteOn channel note velocity) = key_taken s.keys h v (midi.NoteOn channel note velocity)
taken_of s h v (midi.Controller channel number value) = key_taken s.keys h v (midi.Controller channel number value)
taken_of s h v (midi.Ignored kind) = key_taken s.keys h v (midi.Ignored kind)

-- what is to be pressed: what was struck, if that presses
abbrev pub strike_of : Taken → Option Strike
strike_of (taken.Struck s i (struck.Presses p)) = Some (record { source = s; press = p })
strike_of _ = None

-- ---- how the hand stands then

-- what was struck is counted
abbrev pub counted_if : Option Intent → Hand → Hand
counted_if (Some i) h = counted h
counted_if None h = h

abbrev pub hand_of_key : Keys → Hand → Heard → Hand
hand_of_key k h m = counted_if (intent_of k h.pedals m) (after k m h)

-- so is a command of show control that is for this desk, whatever it says
abbrev pub hand_of_show : Spoken → Hand → Hand
hand_of_show spoken.Elsewhere h = h
hand_of_show _ h = counted h

-- the hand after a message, before what it means is pressed
abbrev pub hand_of : Setting → Hand → Heard → Hand
hand_of s h (midi.Show show) = hand_of_show (spoken_to s.address show) h
hand_of s h (midi.NoteOn channel note velocity) = hand_of_key s.keys h (midi.NoteOn channel note velocity)
hand_of s h (midi.Controller channel number value) = hand_of_key s.keys h (midi.Controller channel number value)
hand_of s h (midi.Ignored kind) = hand_of_key s.keys h (midi.Ignored kind)
