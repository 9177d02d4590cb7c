-- A step takes the store and the relay in first; what comes of that is what the evening says.
use Rattle.std.proofs.Common.{◌≡◌, refl, sym, ap, ap₂, ◌∙◌, subst, ℕ, Bool, List, ◌∷◌, Option, None, Some, option_map}
use Rattle.cue_relay.specs.declared.status.Status.{Status}
use Rattle.cue_station.specs.declared.heard.Copied.{Copied}
use Rattle.cue_station.specs.declared.heard.Heard.{Heard}
use Rattle.cue_station.specs.declared.heard.Heard.TheVariants as heard
use Rattle.cue_station.specs.declared.heard.Input.{Input}
use Rattle.cue_station.specs.declared.memory.Choice.{Choice}
use Rattle.cue_station.specs.declared.memory.Choice.TheVariants as choice
use Rattle.cue_station.specs.declared.memory.Notes.{Notes}
use Rattle.cue_station.specs.declared.memory.Question.{Question}
use Rattle.cue_station.specs.declared.memory.Reading.{Reading}
use Rattle.cue_station.specs.declared.memory.Relayed.{Relayed}
use Rattle.cue_station.specs.declared.memory.Seen.{Seen}
use Rattle.cue_station.specs.declared.memory.Shown.{Shown}
use Rattle.cue_station.specs.declared.station.Made.{Made}
use Rattle.cue_station.specs.declared.station.Station.{Station}
use Rattle.cue_station.specs.declared.station.Step.{Step}
use Rattle.cue_view.specs.declared.view.Told.{Told}
use Rattle.cue_station.specs.Turns.{Turn}
use Rattle.cue_station.specs.Alarms.{nobody_by}
use Rattle.cue_station.specs.Choosing.{grown}
use Rattle.cue_station.specs.Laws.{Keeps}
use Rattle.cue_station.specs.Looking.{hollow}
use Rattle.cue_station.specs.Memory.{IsAfter, IsKept, StepKeeps, turn_of}
use Rattle.cue_station.specs.Network.{relayed_with}
use Rattle.cue_station.specs.Noting.{notes_heard, notes_sent, waits_by, with_answer, with_presses}
use Rattle.cue_station.specs.Reading.{answered_with, newer, read_with}
use Rattle.cue_station.specs.Stepping.{KeepsMade, Makes, MakesIn, StepsIn, kept_with, reading_now}
use Rattle.cue_station.proofs.AfterLemmas.{step-after}
use Rattle.cue_station.proofs.LawLemmas.{step-keeps}

-- the machine once the store and the relay were taken in
abbrev taken : Station → Option Reading → Option Relayed → Station
taken s r x = record s { reading = r; relay = x }

-- what is heard beside them
abbrev beside : ℕ → ℕ → Heard → Input
beside at wall h = record { at = at; wall = wall; heard = h }

abbrev taken_by : Station → ℕ → Heard → Station
taken_by s at h = taken s (read_with h s.reading) (relayed_with h at s.relay)

-- ---- what is noted of a copy, and of the words of the relay, is what is noted beside them

nobody_copy : (o : Option ℕ) (c : Copied) (old : Bool)
    → nobody_by o (heard.Copied c) old ≡ nobody_by o (heard.Same c.begun) old
nobody_copy None c old = refl
nobody_copy (Some n) c old = refl

nobody_relay : (o : Option ℕ) (x : Option Status) (old : Bool)
    → nobody_by o (heard.Relay x) old ≡ nobody_by o (heard.Relay None) old
nobody_relay None x old = refl
nobody_relay (Some n) x old = refl

grown_copy : (c : Copied) (w : ℕ → Bool) (r : Option Reading) (old : Choice)
    → grown (heard.Copied c) w r old ≡ grown (heard.Same c.begun) w r old
grown_copy c w r choice.Nothing = refl
grown_copy c w r (choice.Attempt q) = refl
grown_copy c w r (choice.Awaited n cue) = refl

grown_relay : (x : Option Status) (w : ℕ → Bool) (r : Option Reading) (old : Choice)
    → grown (heard.Relay x) w r old ≡ grown (heard.Relay None) w r old
grown_relay x w r choice.Nothing = refl
grown_relay x w r (choice.Attempt q) = refl
grown_relay x w r (choice.Awaited n cue) = refl

-- the number of the newest question
abbrev ask_of : Notes → Option ℕ
ask_of n = option_map (λ (q : Question). q.ask) n.question

-- the notes of before the choice, whose open presses a STANDBY waits for
abbrev notes_pressed : Heard → ℕ → Option Reading → Notes → Notes
notes_pressed h at r n = with_presses h at r (with_answer h at r (answered_with h at n.question n.answered) n)

copy_hollow : (c : Copied) (at : ℕ) (r : Option Reading) (views : List Shown) (n : Notes)
    → notes_heard (heard.Copied c) at r views n ≡ notes_heard (heard.Same c.begun) at r views n
copy_hollow c at r views n =
    ap₂ (λ b x. record (notes_heard (heard.Same c.begun) at r views n) { nobody = b; choice = x })
    (nobody_copy (ask_of n) c n.nobody)
    (grown_copy c (waits_by r (notes_pressed (heard.Same c.begun) at r n)) r n.choice)

relay_hollow : (x : Option Status) (at : ℕ) (r : Option Reading) (views : List Shown) (n : Notes)
    → notes_heard (heard.Relay x) at r views n ≡ notes_heard (heard.Relay None) at r views n
relay_hollow x at r views n =
    ap₂ (λ b y. record (notes_heard (heard.Relay None) at r views n) { nobody = b; choice = y })
    (nobody_relay (ask_of n) x n.nobody)
    (grown_relay x (waits_by r (notes_pressed (heard.Relay None) at r n)) r n.choice)

makes_heard : (s : Station) (at wall : ℕ) (h : Heard) (m : Made)
    → MakesIn (taken_by s at h) (beside at wall (hollow h)) m → Makes s (beside at wall h) m
makes_heard s at wall (heard.Copied c) m k =
    record {
      due = k.due;
      overdue = k.overdue;
      send = k.send;
      notes = k.notes
          ∙ ap (notes_sent (heard.Same c.begun) at (newer c s.reading) m.step.send)
          (sym (copy_hollow c at (newer c s.reading) s.views.items s.notes));
      seen = k.seen;
      failed = k.failed;
      shown = k.shown;
      number = k.number;
      unsent = k.unsent;
      view = k.view;
    }
makes_heard s at wall (heard.Same begun) m k =
    record {
      due = k.due;
      overdue = k.overdue;
      send = k.send;
      notes = k.notes;
      seen = k.seen;
      failed = k.failed;
      shown = k.shown;
      number = k.number;
      unsent = k.unsent;
      view = k.view;
    }
makes_heard s at wall (heard.Unread why) m k =
    record {
      due = k.due;
      overdue = k.overdue;
      send = k.send;
      notes = k.notes;
      seen = k.seen;
      failed = k.failed;
      shown = k.shown;
      number = k.number;
      unsent = k.unsent;
      view = k.view;
    }
makes_heard s at wall (heard.Replied n a) m k =
    record {
      due = k.due;
      overdue = k.overdue;
      send = k.send;
      notes = k.notes;
      seen = k.seen;
      failed = k.failed;
      shown = k.shown;
      number = k.number;
      unsent = k.unsent;
      view = k.view;
    }
makes_heard s at wall (heard.Nobody n) m k =
    record {
      due = k.due;
      overdue = k.overdue;
      send = k.send;
      notes = k.notes;
      seen = k.seen;
      failed = k.failed;
      shown = k.shown;
      number = k.number;
      unsent = k.unsent;
      view = k.view;
    }
makes_heard s at wall (heard.Pressed view b) m k =
    record {
      due = k.due;
      overdue = k.overdue;
      send = k.send;
      notes = k.notes;
      seen = k.seen;
      failed = k.failed;
      shown = k.shown;
      number = k.number;
      unsent = k.unsent;
      view = k.view;
    }
makes_heard s at wall (heard.Relay x) m k =
    record {
      due = k.due;
      overdue = k.overdue;
      send = k.send;
      notes = k.notes
          ∙ ap (notes_sent (heard.Relay None) at s.reading m.step.send)
          (sym (relay_hollow x at s.reading s.views.items s.notes));
      seen = k.seen;
      failed = k.failed;
      shown = k.shown;
      number = k.number;
      unsent = k.unsent;
      view = k.view;
    }
makes_heard s at wall (heard.Kept x) m k =
    record {
      due = k.due;
      overdue = k.overdue;
      send = k.send;
      notes = k.notes;
      seen = k.seen;
      failed = k.failed;
      shown = k.shown;
      number = k.number;
      unsent = k.unsent;
      view = k.view;
    }
makes_heard s at wall heard.Tick m k =
    record {
      due = k.due;
      overdue = k.overdue;
      send = k.send;
      notes = k.notes;
      seen = k.seen;
      failed = k.failed;
      shown = k.shown;
      number = k.number;
      unsent = k.unsent;
      view = k.view;
    }

-- what is kept, whichever way it is told
pub kept_as : (turns : List Turn) (n p : Notes) → n ≡ p → (r o : Option Reading) → r ≡ o → (x y : Option Relayed)
    → x ≡ y
    → (s t : List Seen) → s ≡ t → (l m : List Told) → l ≡ m → (v w : List Shown) → v ≡ w
    → IsKept turns n r x s l v → IsKept turns p o y t m w
kept_as turns n p en r o er x y ex s t es l m el v w ev k =
    subst (λ a. IsKept turns a o y t m w) en
    (subst (λ a. IsKept turns n a y t m w) er
    (subst (λ a. IsKept turns n r a t m w) ex
    (subst (λ a. IsKept turns n r x a m w) es
    (subst (λ a. IsKept turns n r x s a w) el
    (subst (λ a. IsKept turns n r x s l a) ev k)))))

made_keeps : (old : Station) (i : Input) (r : Option Reading) (x : Option Relayed) (m : Made) (new : Station)
    (step : Step)
    → r ≡ read_with i.heard old.reading → x ≡ relayed_with i.heard i.at old.relay → Makes old i m
    → KeepsMade (taken old r x) m new step → StepKeeps old i new step
made_keeps old i r x m new step er ex makes keeps = λ past after.
    let turns = turn_of i m.step ∷ past in (
      subst (λ s. Keeps (turn_of i s) past) (sym keeps.made) (step-keeps past old i m after makes),
      subst (λ s. IsAfter (turn_of i s ∷ past) new) (sym keeps.made)
          (kept_as turns m.notes new.notes (sym keeps.notes)
          (reading_now old i) new.reading (sym er ∙ sym keeps.reading)
          (relayed_with i.heard i.at old.relay) new.relay (sym ex ∙ sym keeps.relay)
          m.seen.items new.seen.items (sym keeps.seen)
          m.failed.items new.failed.items (sym keeps.failed)
          (kept_with m.shown old.views.items) new.views.items (sym keeps.views)
          (step-after past old i m after makes)),
    )

-- A step that took the store and the relay in keeps the law, whatever came before it.
pub step-kept : (old : Station) (i : Input) (r : Option Reading) (x : Option Relayed) (h : Heard) (new : Station)
    (step : Step) → r ≡ read_with i.heard old.reading → x ≡ relayed_with i.heard i.at old.relay → h ≡ hollow i.heard
    → StepsIn (taken old r x) (beside i.at i.wall h) new step → StepKeeps old i new step
step-kept old i r x h new step er ex eh k =
    let m = k.made in
    let makes = makes_heard old i.at i.wall i.heard m
    (subst (λ a. MakesIn (taken old (read_with i.heard old.reading) (relayed_with i.heard i.at old.relay))
    (beside i.at i.wall a) m) eh
    (subst (λ a. MakesIn (taken old (read_with i.heard old.reading) a) (beside i.at i.wall h) m) ex
    (subst (λ a. MakesIn (taken old a x) (beside i.at i.wall h) m) er k.makes))) in
    made_keeps old i r x m new step er ex makes k.keeps
