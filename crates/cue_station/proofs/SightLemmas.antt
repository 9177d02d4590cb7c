-- What is sent may be lit only while the store is in sight.
use Rattle.std.proofs.Common.{◌≡◌, refl, ap, ◌∙◌, ℕ, Bool, true, not, ◌&&◌, List, ◌∷◌, Option, None, Some}
use Rattle.std.proofs.Common.{IsTrue, IsSome}
use Rattle.std.specs.List.{list_any}
use Rattle.cue_show.proofs.TestLemmas.{both}
use Rattle.cue_view.specs.Sight.{is_age, is_in_sight}
use Rattle.cue_view.specs.declared.button.Button.{Button}
use Rattle.cue_view.specs.declared.button.Button.TheVariants as button
use Rattle.cue_station.specs.declared.lighting.Footing.{Footing}
use Rattle.cue_station.specs.declared.memory.Reading.{Reading}
use Rattle.cue_station.specs.Alarms.{agree_by, awaited_by, is_alive, in_sight_by, put_back_in, read_at, stands_by}
use Rattle.cue_station.specs.Alarms.{trouble_of}
use Rattle.cue_station.specs.Drawing.{facts_of, failures_shown, live_by}
use Rattle.cue_station.specs.Keeping.{numbers_of}
use Rattle.cue_station.specs.Lighting.{footing_of, is_number, may_by}
use Rattle.cue_station.specs.Network.{network_by, relayed_of}
use Rattle.cue_station.specs.Pressing.{order_of}
use Rattle.cue_station.specs.Reading.{answered_of, reading_of, seen_since}
use Rattle.cue_station.specs.Readings.{OutOfSightIsDark}
use Rattle.cue_station.proofs.AlarmLemmas.{age_said}

-- the first of tests that pass
first_of_three : (x y z : Bool) → IsTrue ((x && y) && z) → IsTrue x
first_of_three x y z h = (both x y (both (x && y) z h).0).0

-- a button that sends something is lit only while the copy stands
may_stands : (f : Footing) (since : ℕ → Option ℕ) (r : Option Reading) (b : Button) → IsSome (order_of b)
    → IsTrue (may_by f since r b) → IsTrue f.stands
may_stands f since None b o h = (cc)
may_stands f since (Some r) (button.Go c q) o h = first_of_three f.stands _ _ h
may_stands f since (Some r) (button.Cancel c q) o h = first_of_three f.stands _ _ h
may_stands f since (Some r) (button.Standby c) o h = first_of_three f.stands _ _ h
may_stands f since (Some r) (button.Release q d) o h = first_of_three f.stands _ _ h
may_stands f since (Some r) (button.MoveTo c) o h = first_of_three f.stands _ _ h
may_stands f since (Some r) (button.Choose q) o h = (cc)
may_stands f since (Some r) (button.Seen q) o h = (cc)

pub out_of_sight : OutOfSightIsDark
out_of_sight t past b keeps o lit =
    let turns = t ∷ past in
    let now = t.input.at in
    let stands : IsTrue (stands_by now (trouble_of turns) (answered_of turns) (reading_of turns)) =
    may_stands (footing_of turns now t.input.wall) (λ q. seen_since q turns) (reading_of turns) b o
    (keeps.lit.lit b lit) in
    let seen : in_sight_by now (trouble_of turns) (read_at (reading_of turns)) ≡ true =
    (both (in_sight_by now (trouble_of turns) (read_at (reading_of turns)))
    (is_alive now (answered_of turns) && agree_by (answered_of turns) (reading_of turns)) stands).0 in
    ap (λ alarms. not (list_any is_age alarms)) keeps.alarm
    ∙ ap not
    (age_said (facts_of turns now)
    (put_back_in (λ q. seen_since q turns) now t.input.wall (live_by (reading_of turns)))
    (numbers_of (failures_shown turns)) (awaited_by (reading_of turns) (network_by (relayed_of turns) now)))
    ∙ ap (λ s. not (not s)) seen
