-- Tasks: what a device has to do in an attempt, and for what its machine was ordered something.
use Rattle.std.specs.Prelude.{◌≡◌, ℕ, if◌then◌else◌, List, [], ◌∷◌, Option, Some, IsTrue}
use Rattle.std.specs.Option.{option_map}
use Rattle.cue_show.specs.Devices.{is_among}
use Rattle.cue_core.specs.declared.event.Event.{Event}
use Rattle.cue_core.specs.declared.event.Event.TheVariants.{Start}
use Rattle.cue_core.specs.Events.{is_start_of}
use Rattle.cue_core.specs.Happenings.{onto}
use Rattle.cue_core.specs.History.{devices_by, parts_by}
use Rattle.cue_core.specs.Pending.{bytes_for}
use Rattle.cue_device.specs.declared.asked.Task.{Task}
use Rattle.cue_device.specs.declared.hearing.Device.{Device}
use Rattle.cue_device.specs.declared.words.Order.{Order}
use Rattle.cue_device.specs.Hearing.{ordered_for, task_now}
use Rattle.cue_device.specs.Histories.{Happening, device_after, latest, order_at}

-- ---- what a device has to do

-- the cue at which an attempt starts
abbrev pub cue_started : Event → List ℕ
cue_started (Start q c t) = c
cue_started _ = []

-- the cue of q is that of its Start
abbrev pub cue_by : List Event → ℕ → List ℕ
cue_by [] q = []
cue_by (e ∷ past) q = if is_start_of q e then cue_started e else cue_by past q

-- the task of the device d in q: the cue, and the bytes of its part there as q started, whatever came later
abbrev pub task_by : List Event → ℕ → ℕ → Task
task_by past q d = record { cue = cue_by past q; bytes = bytes_for d (parts_by past q) }

-- By the events the device d is one of the attempt q, and this is its task there.
pub record IsTaskOf (es : List Event) (q d : ℕ) (task : Task) : Type 0 where
  pub of_attempt : IsTrue (is_among d (devices_by (onto es []) q))
  pub is_it : task ≡ task_by (onto es []) q d

-- ---- what its machine was ordered

-- what a device has ordered its machine, the latest first, each order with the task that its attempt then had
abbrev pub tasks_of : Device → List Happening → List (Order × Option Task)
tasks_of d [] = []
tasks_of d (h ∷ hs) =
    latest (option_map (λ o. (o, task_now (device_after d (h ∷ hs)).attempt)) (order_at h (device_after d hs)))
    (tasks_of d hs)

-- The machine of the device d was ordered this for a task, and by the events that is its own in the attempt.
pub record IsForItsTask (es : List Event) (d : ℕ) (o : Order × Option Task) : Type 0 where
  pub task : Task
  pub is_it : o.1 ≡ Some task
  pub its_own : IsTaskOf es (ordered_for o.0) d task
