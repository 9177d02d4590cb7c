-- What a step makes, part by part.
use Rattle.std.specs.Prelude.{◌≡◌, ◌&&◌, ℕ, Bool, true, false, List, ◌∷◌, Option, None, is_none, take, IsTrue}
use Rattle.std.specs.List.{list_any}
use Rattle.cue_view.specs.declared.button.Button.{Button}
use Rattle.cue_station.specs.declared.heard.Heard.{Heard}
use Rattle.cue_station.specs.declared.heard.Heard.TheVariants as heard
use Rattle.cue_station.specs.declared.heard.Input.{Input}
use Rattle.cue_station.specs.declared.limits.TheConstants.{KEPT_VIEWS}
use Rattle.cue_station.specs.declared.memory.Choice.TheVariants as choice
use Rattle.cue_station.specs.declared.memory.Notes.{Notes}
use Rattle.cue_station.specs.declared.memory.Reading.{Reading}
use Rattle.cue_station.specs.declared.memory.Shown.{Shown}
use Rattle.cue_station.specs.declared.station.Made.{Made}
use Rattle.cue_station.specs.declared.station.Noted.{Noted}
use Rattle.cue_station.specs.declared.station.Station.{Station}
use Rattle.cue_station.specs.declared.station.Step.{Step}
use Rattle.cue_view.specs.declared.view.Told.{Told}
use Rattle.cue_view.specs.declared.view.Unsent.{Unsent}
use Rattle.cue_view.specs.declared.view.View.{View}
use Rattle.cue_station.specs.Alarms.{nothing_seen}
use Rattle.cue_station.specs.Asking.{is_tap}
use Rattle.cue_station.specs.Keeping.{failed_after, with_kept}
use Rattle.cue_station.specs.Lighting.{may_by}
use Rattle.cue_station.specs.Network.{relayed_with}
use Rattle.cue_station.specs.Noting.{footing_by, notes_heard, notes_sent, order_by, send_by}
use Rattle.cue_station.specs.Offering.{is_offered, is_recent}
use Rattle.cue_station.specs.Pacing.{is_overdue}
use Rattle.cue_station.specs.Pressing.{refusal_by, unsent_by}
use Rattle.cue_station.specs.Reading.{read_with}
use Rattle.cue_station.specs.Seeing.{seen_after}
use Rattle.cue_station.specs.Showing.{since_in}
use Rattle.cue_station.specs.Viewing.{IsView}

-- what is noted before anything was heard
abbrev pub first_notes : Notes
first_notes =
    record {
      number = 0;
      next_ask = 0;
      answered = None;
      nobody = false;
      trouble = None;
      differs = None;
      choice = choice.Nothing;
      question = None;
      press = None;
      beside = None;
      before = None;
      acknowledged = nothing_seen;
      moved = None;
    }

-- what is kept of a view
abbrev pub shown_in : View → Shown
shown_in v = record { number = v.number; at = v.at; lit = v.lit.items }

-- the newest views with one more
abbrev pub kept_with : Shown → List Shown → List Shown
kept_with s views = take KEPT_VIEWS (s ∷ views)

-- the machine is as it was
pub record IsSame (old new : Station) : Type 0 where
  pub notes : new.notes ≡ old.notes
  pub pace : new.pace ≡ old.pace
  pub reading : new.reading ≡ old.reading
  pub relay : new.relay ≡ old.relay
  pub seen : new.seen.items ≡ old.seen.items
  pub failed : new.failed.items ≡ old.failed.items
  pub views : new.views.items ≡ old.views.items

-- a press of the button of the view is heeded
abbrev pub is_heeded_by : Station → Input → ℕ → Button → Bool
is_heeded_by s i view b =
    is_offered view i.at b s.views.items
    && may_by (footing_by s.notes s.reading i.at i.wall) (since_in s.seen.items) s.reading b

-- a press that is heeded is not refused
abbrev pub Refuses : (ℕ → Button → Bool) → Heard → Option Unsent → Type 0
Refuses is_heeded (heard.Pressed view b) u = is_none u ≡ is_heeded view b
Refuses is_heeded _ u = Unit {0}

abbrev pub IsRefusal : Station → Input → Option Unsent → Type 0
IsRefusal s i u = Refuses (is_heeded_by s i) i.heard u

-- why a press is not heeded, if it is not
abbrev pub refusal_now : Station → Input → ℕ → Button → Option Unsent
refusal_now s i view b =
    refusal_by (is_tap i.at b s.notes.press) (list_any (is_recent view i.at) s.views.items)
    (is_offered view i.at b s.views.items)
    (may_by (footing_by s.notes s.reading i.at i.wall) (since_in s.seen.items) s.reading b)

abbrev pub unsent_now : Station → Input → Option Unsent
unsent_now s i = unsent_by (refusal_now s i) i.heard

-- the newest copy once this was heard
abbrev pub reading_now : Station → Input → Option Reading
reading_now s i = read_with i.heard s.reading

-- what is noted before anything is sent
abbrev pub noted_now : Station → Input → Notes
noted_now s i = notes_heard i.heard i.at (reading_now s i) s.views.items s.notes

-- what is kept of what went wrong, with what is noted then
abbrev pub failed_now : Station → Input → Notes → List Told
failed_now s i n = failed_after n.acknowledged (reading_now s i) (with_kept i.heard s.failed.items)

-- what a step makes before anything is kept
pub record Makes (s : Station) (i : Input) (m : Made) : Type 0 where
  pub due : Bool
  pub overdue : IsTrue (is_overdue s.notes.question i.at) → due ≡ true
  pub send : m.step.send ≡ send_by (order_by i.heard (is_heeded_by s i)) due (noted_now s i).next_ask
  pub notes : m.notes ≡ notes_sent i.heard i.at (reading_now s i) m.step.send (noted_now s i)
  pub seen : m.seen.items ≡ seen_after s.seen.items i.at (reading_now s i)
  pub failed : m.failed.items ≡ failed_now s i m.notes
  pub shown : m.shown ≡ shown_in m.step.view
  pub number : m.step.view.number ≡ s.notes.number
  pub unsent : m.step.view.unsent ≡ unsent_now s i
  pub view : IsView m.notes (reading_now s i) (relayed_with i.heard i.at s.relay) m.seen.items
      m.failed.items (footing_by m.notes (reading_now s i) i.at i.wall) m.step.view

-- ---- once the store and the relay were taken in

-- what is noted before anything is sent
abbrev pub noted_in : Station → Input → Notes
noted_in s i = notes_heard i.heard i.at s.reading s.views.items s.notes

-- what is kept of what went wrong, with what is noted then
abbrev pub failed_in : Station → Input → Notes → List Told
failed_in s i n = failed_after n.acknowledged s.reading (with_kept i.heard s.failed.items)

-- what is noted, and what is sent
pub record TakesNotes (s : Station) (i : Input) (n : Noted) : Type 0 where
  pub due : Bool
  pub overdue : IsTrue (is_overdue s.notes.question i.at) → due ≡ true
  pub send : n.send ≡ send_by (order_by i.heard (is_heeded_by s i)) due (noted_in s i).next_ask
  pub notes : n.notes ≡ notes_sent i.heard i.at s.reading n.send (noted_in s i)
  pub unsent : n.unsent ≡ unsent_now s i

-- what a step makes
pub record MakesIn (s : Station) (i : Input) (m : Made) : Type 0 where
  pub due : Bool
  pub overdue : IsTrue (is_overdue s.notes.question i.at) → due ≡ true
  pub send : m.step.send ≡ send_by (order_by i.heard (is_heeded_by s i)) due (noted_in s i).next_ask
  pub notes : m.notes ≡ notes_sent i.heard i.at s.reading m.step.send (noted_in s i)
  pub seen : m.seen.items ≡ seen_after s.seen.items i.at s.reading
  pub failed : m.failed.items ≡ failed_in s i m.notes
  pub shown : m.shown ≡ shown_in m.step.view
  pub number : m.step.view.number ≡ s.notes.number
  pub unsent : m.step.view.unsent ≡ unsent_now s i
  pub view : IsView m.notes s.reading s.relay m.seen.items m.failed.items
      (footing_by m.notes s.reading i.at i.wall) m.step.view

-- what was made is kept
pub record KeepsMade (old : Station) (m : Made) (new : Station) (step : Step) : Type 0 where
  pub made : step ≡ m.step
  pub notes : new.notes ≡ m.notes
  pub reading : new.reading ≡ old.reading
  pub relay : new.relay ≡ old.relay
  pub seen : new.seen.items ≡ m.seen.items
  pub failed : new.failed.items ≡ m.failed.items
  pub views : new.views.items ≡ kept_with m.shown old.views.items

pub record StepsIn (old : Station) (i : Input) (new : Station) (step : Step) : Type 0 where
  pub made : Made
  pub makes : MakesIn old i made
  pub keeps : KeepsMade old made new step
