-- The live attempts, by rising number: their rules, and how one is found.
use Rattle.std.specs.Prelude.{ℕ, Bool, true, ◌&&◌, List, [], ◌∷◌, length, map, filter, find, Option, nat_eq, nat_le}
use Rattle.std.specs.Prelude.{nat_lt}
use Rattle.std.specs.List.{list_all}
pub use Rattle.cue_show.specs.Devices.{is_among, distinct, disjoint, devices_in}
use Rattle.cue_show.specs.Number.{same_text}
use Rattle.cue_exchange.specs.declared.attempt.Stage.{Stage}
use Rattle.cue_exchange.specs.declared.attempt.Stage.TheVariants.{Preparing, Decided, Cancelling}
use Rattle.cue_exchange.specs.declared.attempt.DeviceAnswer.{DeviceAnswer}
use Rattle.cue_exchange.specs.declared.attempt.Attempt.{Attempt}
use Rattle.cue_exchange.specs.declared.limits.TheConstants.{MAX_NUMBER, MAX_LIVE}
pub use Rattle.cue_exchange.specs.Answers.{devices_of, has_required, is_one_of, may_be_in, some_waits, is_preparing}

-- ---- the rules of one attempt

-- a sequence number is 1 to 2,147,483,647
abbrev pub is_number : ℕ → Bool
is_number q = nat_le 1 q && nat_le q MAX_NUMBER

-- a time has 64 bits
abbrev pub is_time : ℕ → Bool
is_time t = nat_le t 18446744073709551615

-- an attempt that is carried out or given up has a device that is still to answer
abbrev pub is_open : Stage → List DeviceAnswer → Bool
is_open Preparing answers = true
is_open Decided answers = some_waits answers
is_open (Cancelling r) answers = some_waits answers

-- some device is required, and none is there twice
abbrev pub have_sound_devices : List DeviceAnswer → Bool
have_sound_devices answers = has_required answers && distinct (devices_of answers)

-- a number, a deadline, and sound devices, each with an answer that the stage knows
abbrev pub is_sound : Attempt → Bool
is_sound a =
    is_number a.seq && (is_time a.deadline && (have_sound_devices a.answers && list_all (may_be_in a.stage) a.answers))

-- the rules of one live attempt
abbrev pub is_attempt : Attempt → Bool
is_attempt a = is_sound a && is_open a.stage a.answers

-- ---- the rules of all

-- every two of the list, the first of them first
abbrev pub pairwise : {A : Type 0} → (A → A → Bool) → List A → Bool
pairwise R [] = true
pairwise R (x ∷ xs) = list_all (R x) xs && pairwise R xs

-- the number of a is below that of b, and no device is in both
abbrev pub goes_before : Attempt → Attempt → Bool
goes_before a b = nat_lt a.seq b.seq && disjoint (devices_of a.answers) (devices_of b.answers)

-- at most 8 attempts by rising number, and no device in two
abbrev pub are_live : List Attempt → Bool
are_live live = nat_le (length live) MAX_LIVE && (list_all is_attempt live && pairwise goes_before live)

-- ---- how one is found

-- the attempt has the number
abbrev pub has_number : ℕ → Attempt → Bool
has_number q a = nat_eq a.seq q

-- the device is one of the attempt
abbrev pub has_device : ℕ → Attempt → Bool
has_device d a = is_one_of d a.answers

-- the attempt is one at the cue
abbrev pub has_cue : List ℕ → Attempt → Bool
has_cue c a = same_text a.cue c

-- the attempt with the number
abbrev pub attempt_of : List Attempt → ℕ → Option Attempt
attempt_of live q = find (has_number q) live

-- the attempt that the device is in
abbrev pub attempt_of_device : List Attempt → ℕ → Option Attempt
attempt_of_device live d = find (has_device d) live

-- the first attempt at the cue
abbrev pub attempt_of_cue : List Attempt → List ℕ → Option Attempt
attempt_of_cue live c = find (has_cue c) live

-- the attempt is Preparing and its deadline is at or before now
abbrev pub is_due : ℕ → Attempt → Bool
is_due now a = is_preparing a.stage && nat_le a.deadline now

-- the numbers of the attempts that are due, rising
abbrev pub due : ℕ → List Attempt → List ℕ
due now live = map (λ a. a.seq) (filter (is_due now) live)
