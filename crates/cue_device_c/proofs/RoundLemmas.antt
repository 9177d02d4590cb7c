-- The numbers that are made of a device stand for it.
use Rattle.std.proofs.Common.{◌≡◌, ℕ, suc, ◌-◌, Bool, true, false, ◌&&◌, cond, nat_eq}
use Rattle.std.proofs.Common.{nat_le, List, [], ◌∷◌, ◌++◌, length, take, replicate, Option, Some, None, refl, sym, ap, arith}
use Rattle.std.proofs.lemmas.Bool.{le-leb}
use Rattle.std.proofs.lemmas.Bool.Decides.{nat_tests}
use Rattle.cue_show.specs.Number.{is_cue_number}
use Rattle.cue_show.specs.declared.limits.TheConstants.{MAX_CUE_BYTES, MAX_DEVICE_NUMBER, MAX_PART_BYTES}
use Rattle.cue_device.specs.declared.asked.Task.{Task}
use Rattle.cue_device.specs.declared.hearing.Device.{Device}
use Rattle.cue_device.specs.declared.phase.Attempt.{Attempt}
use Rattle.cue_device.specs.declared.phase.Phase.{Phase}
use Rattle.cue_device.specs.declared.phase.Phase.TheVariants.{Preparing, Ready, Moving, Done, LettingGo, LetGo, Failed}
use Rattle.cue_device.specs.declared.words.Order.{Order}
use Rattle.cue_device.specs.declared.words.Order.TheVariants.{Prepare, Move, GiveUp}
use Rattle.cue_device.specs.Datagrams.{HasTask}
use Rattle.cue_device.specs.Hearing.{phase_now, task_now}
use Rattle.cue_device_c.specs.Codes.{order_code, order_number, order_of, phase_code, phase_of}
use Rattle.cue_device_c.specs.Laws.{MayBe}
use Rattle.cue_device_c.specs.State.{attempt_in, bit, bytes_length, bytes_places, cue_length, cue_places, device_in}
use Rattle.cue_device_c.specs.State.{device_of, fits, fits_cue, numbers_of}
use Rattle.cue_device_c.specs.declared.state.CuePlace.{CuePlace}

-- ---- codes

phase_is_one : (p : Option Phase) → nat_le (phase_code p) 7 ≡ true
phase_is_one None = refl
phase_is_one (Some Preparing) = refl
phase_is_one (Some Ready) = refl
phase_is_one (Some Moving) = refl
phase_is_one (Some Done) = refl
phase_is_one (Some LettingGo) = refl
phase_is_one (Some LetGo) = refl
phase_is_one (Some Failed) = refl

phase_again : (p : Option Phase) → phase_of (phase_code p) ≡ p
phase_again None = refl
phase_again (Some Preparing) = refl
phase_again (Some Ready) = refl
phase_again (Some Moving) = refl
phase_again (Some Done) = refl
phase_again (Some LettingGo) = refl
phase_again (Some LetGo) = refl
phase_again (Some Failed) = refl

order_is_one : (o : Option Order) → nat_le (order_code o) 3 ≡ true
order_is_one None = refl
order_is_one (Some (Prepare q)) = refl
order_is_one (Some (Move q)) = refl
order_is_one (Some (GiveUp q)) = refl

order_again : (o : Option Order) → order_of (order_code o) (order_number o) ≡ o
order_again None = refl
order_again (Some (Prepare q)) = refl
order_again (Some (Move q)) = refl
order_again (Some (GiveUp q)) = refl

bit_is_one : (b : Bool) → nat_le (bit b) 1 ≡ true
bit_is_one true = refl
bit_is_one false = refl

bit_again : (b : Bool) → nat_eq (bit b) 1 ≡ b
bit_again true = refl
bit_again false = refl

-- ---- texts over zeros

front_again : (xs ys : List ℕ) → take (length xs) (xs ++ ys) ≡ xs
front_again [] ys = refl
front_again (x ∷ xs) ys = ap (λ (zs : List ℕ). x ∷ zs) (front_again xs ys)

not_zero : (n : ℕ) → nat_eq (suc n) 0 ≡ false
not_zero n = grind (arith, nat_tests)

-- a cue's number is not empty
cue_is_some : (cue : List ℕ) → is_cue_number cue ≡ true → nat_eq (length cue) 0 ≡ false
cue_is_some [] h = sym h
cue_is_some (x ∷ cue) h = not_zero (length cue)

first_of_both : (a b : Bool) → a && b ≡ true → a ≡ true
first_of_both true b h = refl
first_of_both false b h = h

cue_fits : (task : Option Task) → HasTask task → fits_cue (cue_length task) (cue_places task) ≡ true
cue_fits None h = refl
cue_fits (Some task) h =
    rw (
      cue_is_some task.cue h.cue,
      front_again task.cue (replicate (MAX_CUE_BYTES - length task.cue) 0),
      h.cue,
      first_of_both (nat_le (length task.cue) MAX_CUE_BYTES) _ h.cue,
    ) refl

bytes_fit : (task : Option Task) → HasTask task → nat_le (bytes_length task) MAX_PART_BYTES ≡ true
bytes_fit None h = refl
bytes_fit (Some task) h = le-leb (length task.bytes) MAX_PART_BYTES h.short

-- what is read of the places of a task
abbrev read_task : ℕ → ℕ → List ℕ → List ℕ → Option Task
read_task cue_len bytes_len cue bytes = cond (nat_eq cue_len 0) None (Some
    (record { cue = take cue_len cue; bytes = take bytes_len bytes }))

task_again : (task : Option Task) → HasTask task
    → read_task (cue_length task) (bytes_length task) (cue_places task) (bytes_places task) ≡ task
task_again None h = refl
task_again (Some task) h =
    rw (
      cue_is_some task.cue h.cue,
      front_again task.cue (replicate (MAX_CUE_BYTES - length task.cue) 0),
      front_again task.bytes (replicate (MAX_PART_BYTES - length task.bytes) 0),
    ) refl

attempt_again : (a : Option Attempt) → attempt_in (phase_now a) (task_now a) ≡ a
attempt_again None = refl
attempt_again (Some a) = refl

-- ---- the device

pub fits_again : (d : Device) (controller only : CuePlace) → MayBe d → fits (numbers_of d controller only) ≡ true
fits_again d controller only may =
    rw (
      le-leb d.number MAX_DEVICE_NUMBER may.number,
      phase_is_one (phase_now d.attempt),
      order_is_one d.doing,
      bit_is_one d.unheard,
      bytes_fit (task_now d.attempt) may.task,
      cue_fits (task_now d.attempt) may.task,
    ) refl

parts_again : (d : Device) (controller only : CuePlace) → MayBe d → device_in (numbers_of d controller only) ≡ d
parts_again d controller only may =
    rw (
      phase_again (phase_now d.attempt),
      task_again (task_now d.attempt) may.task,
      attempt_again d.attempt,
      order_again d.doing,
      bit_again d.unheard,
    ) refl

pub stand_for_it : (d : Device) (controller only : CuePlace) → MayBe d
    → device_of (numbers_of d controller only) ≡ Some d
stand_for_it d controller only may =
    rw (fits_again d controller only may, parts_again d controller only may) refl
