-- All that happens to a device, the latest first, and what it has ordered and answered since it began.
use Rattle.std.specs.Prelude.{◌≤◌, ℕ, List, [], ◌∷◌, Option, Some, None}
use Rattle.std.specs.List.{AllByRecursion}
use Rattle.cue_device.specs.declared.asked.Command.{Command}
use Rattle.cue_device.specs.declared.hearing.Device.{Device}
use Rattle.cue_device.specs.declared.hearing.Told.{Told}
use Rattle.cue_device.specs.declared.words.Order.{Order}
use Rattle.cue_device.specs.declared.words.Answer.{Answer}
use Rattle.cue_device.specs.Hearing.{after_command, after_reply, after_told, answer_ticked, answer_told, doing_after}
use Rattle.cue_device.specs.Hearing.{what_comes_of, left_after, ordered_for, device_restarted}

-- what happens to a device: it hears an order of the controller, its machine reports something, it repeats an
-- abort, it hears a reply to that, or it restarts, its machine at rest, and is handed in the number that it kept
pub data Happening : Type 0 where
  hears : Command → Happening
  tells : Told → Happening
  repeats : Happening
  hears_reply : Happening
  restarts : ℕ → Happening

-- the device after it
abbrev pub after : Happening → Device → Device
after (hears c) d = after_command c d
after (tells t) d = after_told t d
after repeats d = d
after hears_reply d = after_reply d
after (restarts n) d = device_restarted d.number n

-- what it orders then
abbrev pub order_at : Happening → Device → Option Order
order_at (hears c) d = (what_comes_of c d).order
order_at (tells t) d = None
order_at repeats d = None
order_at hears_reply d = None
order_at (restarts n) d = None

-- what it answers then
abbrev pub answer_to : Happening → Device → Option Answer
answer_to (hears c) d = (what_comes_of c d).answer
answer_to (tells t) d = answer_told t d
answer_to repeats d = answer_ticked d
answer_to hears_reply d = None
answer_to (restarts n) d = None

-- one more at the front, if there is one
abbrev pub latest : {A : Type 0} → Option A → List A → List A
latest None xs = xs
latest (Some x) xs = x ∷ xs

-- the device after all that happened, the latest first
abbrev pub device_after : Device → List Happening → Device
device_after d [] = d
device_after d (h ∷ hs) = after h (device_after d hs)

-- what it has ordered, the latest first
abbrev pub orders_of : Device → List Happening → List Order
orders_of d [] = []
orders_of d (h ∷ hs) = latest (order_at h (device_after d hs)) (orders_of d hs)

-- what it has answered, the latest first
abbrev pub answers_of : Device → List Happening → List Answer
answers_of d [] = []
answers_of d (h ∷ hs) = latest (answer_to h (device_after d hs)) (answers_of d hs)

-- what is left of an order, once this happened: nothing, if its end was reported, or if the device restarted
abbrev pub left_then : Happening → Option Order → Option Order
left_then (hears c) u = u
left_then (tells t) u = left_after t u
left_then repeats u = u
left_then hears_reply u = u
left_then (restarts n) u = None

-- the order whose end the machine has not reported
abbrev pub unfinished_order : Device → List Happening → Option Order
unfinished_order d [] = None
unfinished_order d (h ∷ hs) = doing_after (order_at h (device_after d hs)) (left_then h (unfinished_order d hs))

-- the number that is handed in at a restart is at least that of each order before
abbrev pub KeepsNumber : Happening → List Order → Type 0
KeepsNumber (hears c) os = Unit {0}
KeepsNumber (tells t) os = Unit {0}
KeepsNumber repeats os = Unit {0}
KeepsNumber hears_reply os = Unit {0}
KeepsNumber (restarts n) os = AllByRecursion (λ o. ordered_for o ≤ n) os

-- at each restart
abbrev pub KeepsNumbers : Device → List Happening → Type 0
KeepsNumbers d [] = Unit {0}
KeepsNumbers d (h ∷ hs) = KeepsNumber h (orders_of d hs) × KeepsNumbers d hs
