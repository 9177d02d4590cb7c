-- What a plan makes of a device, and what is said of a table that is no plan.
use Rattle.std.specs.Prelude.{ℕ, Bool, ◌==◌, if◌then◌else◌, List, ◌++◌, codes, decimal, string_bytes}
use Rattle.std.specs.List.{list_any}
use Rattle.cue_rehearsal.specs.declared.manner.Behaviour.{Behaviour}
use Rattle.cue_rehearsal.specs.declared.manner.Behaviour.TheVariants.{Plays, Silent, Refuses, Fails}
use Rattle.cue_rehearsal.specs.declared.manner.Manner.{Manner}
use Rattle.cue_rehearsal.specs.declared.plan.Plan.{Plan}
use Rattle.cue_rehearsal.specs.declared.plan.PlanFault.{PlanFault}
use Rattle.cue_rehearsal.specs.declared.plan.PlanFault.TheVariants as fault
use Rattle.cue_rehearsal.specs.declared.plan.TheConstants.{MAX_TIME}

-- the device is one of these
abbrev pub is_among : ℕ → List ℕ → Bool
is_among d devices = list_any (λ n. n == d) devices

-- a device that is in several lists is silent first, and else refuses
abbrev pub behaviour_of : Plan → ℕ → Behaviour
behaviour_of p d =
    if is_among d p.silent.items then Silent
    else (if is_among d p.refuses.items then Refuses else (if is_among d p.fails.items then Fails else Plays))

-- how the machine of a device behaves
abbrev pub manner_of : Plan → ℕ → Manner
manner_of p d = record { prepare = p.prepare; moving = p.moving; behaviour = behaviour_of p d }

-- a key and how to write it
abbrev pub wants_time : List ℕ → List ℕ
wants_time key =
    codes "`" ++ (key ++ (codes "` wants milliseconds, 0 to " ++ (decimal MAX_TIME ++ (codes ": write it as " ++ (key
    ++ codes " = 800")))))

abbrev pub wants_devices : List ℕ → List ℕ
wants_devices key =
    codes "`" ++ (key ++ (codes "` wants numbers of devices: write it as " ++ (key ++ codes " = [3, 4]")))

-- what is said of each
abbrev pub fault_words : PlanFault → List ℕ
fault_words fault.NoTable = codes "it is written as one table, [rehearse]"
fault_words (fault.UnknownKey key) =
    codes "`" ++ (string_bytes key ++ codes "` is no key that stands here: look for a slip")
fault_words (fault.WantsTime key) = wants_time key.now
fault_words fault.WantsLoss =
    codes "`loss` wants how many of a hundred datagrams are lost: write it as loss = 10"
fault_words (fault.WantsDevices key) = wants_devices key.now
fault_words fault.Memory = codes "out of memory"
