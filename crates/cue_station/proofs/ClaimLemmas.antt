-- What devices tell of themselves raises no alarm.
use Rattle.std.proofs.Common.{◌≡◌, ◌∙◌, ℕ, List, [], ◌∷◌, ◌++◌, filter, map, Option, None, Some, refl, ap}
use Rattle.std.specs.Option.{option_to_list}
use Rattle.cue_exchange.specs.declared.attempt.Attempt.{Attempt}
use Rattle.cue_operator.proofs.LookUpLemmas.{filter-mapped}
use Rattle.cue_view.specs.declared.view.Alarm.{Alarm}
use Rattle.cue_view.specs.declared.view.Alarm.TheVariants as alarm
use Rattle.cue_view.specs.declared.view.Contacted.{Contacted}
use Rattle.cue_station.specs.Alarms.{awaited_by, doubt, is_awaited, old_store, relay_stopped, silence, silent_in}
use Rattle.cue_station.specs.Warning.{ClaimsRaiseNoAlarm, unclaimed}
use Rattle.cue_station.specs.declared.memory.Reading.{Reading}

same_devices : (network : List Contacted)
    → map (λ (c : Contacted). c.device) (map unclaimed network) ≡ map (λ (c : Contacted). c.device) network
same_devices [] = refl
same_devices (c ∷ network) = ap (λ ds. c.device ∷ ds) (same_devices network)

same_silent : (network : List Contacted) → silent_in (map unclaimed network) ≡ silent_in network
same_silent network =
    ap (map (λ (c : Contacted). c.device)) (filter-mapped (λ (c : Contacted). c.silent) unclaimed network)
    ∙ same_devices (filter (λ (c : Contacted). c.silent) network)

same_awaited : (reading : Option Reading) (network : List Contacted)
    → silent_in (awaited_by reading (map unclaimed network)) ≡ silent_in (awaited_by reading network)
same_awaited None network = refl
same_awaited (Some r) network =
    let awaited = λ (c : Contacted). is_awaited r.copy.state.live c.device in
    ap silent_in (filter-mapped awaited unclaimed network) ∙ same_silent (filter awaited network)

pub same_alarms : ClaimsRaiseNoAlarm
same_alarms f back failures reading network =
    ap (λ ds. option_to_list (silence f) ++ (option_to_list (doubt f) ++ (option_to_list (relay_stopped f)
    ++ (option_to_list (old_store f) ++ (map alarm.ClockPutBack back ++ (map alarm.Failed failures
    ++ map alarm.DeviceSilent ds)))))) (same_awaited reading network)
