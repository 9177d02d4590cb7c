-- What the table of a device keeps: its number, the order that its machine does, and that an abort waits for a reply.
use Rattle.std.proofs.Common.{◌≡◌, ℕ, Bool, true, false, cond, List, [], ◌∷◌, Option, Some, None, refl, sym, ap, ◌∙◌}
use Rattle.std.proofs.Common.{true≢false}
use Rattle.std.specs.Prelude.{is_some, Ok, Err}
use Rattle.std.proofs.lemmas.Bool.{eq-eqb}
use Rattle.cue_device.specs.declared.asked.Command.{Command}
use Rattle.cue_device.specs.declared.hearing.Device.{Device}
use Rattle.cue_device.specs.declared.hearing.Place.{Place}
use Rattle.cue_device.specs.declared.hearing.Place.TheVariants.{Over, Same, New}
use Rattle.cue_device.specs.declared.hearing.ReportFault.TheVariants.{NotOrdered}
use Rattle.cue_device.specs.declared.hearing.Told.{Told}
use Rattle.cue_device.specs.declared.hearing.Told.TheVariants.{Prepared, Moved, GaveUp, Cannot}
use Rattle.cue_device.specs.declared.phase.Phase.{Phase}
use Rattle.cue_device.specs.declared.phase.Phase.TheVariants.{Preparing, Ready, Moving, Done, LettingGo, LetGo, Failed}
use Rattle.cue_device.specs.declared.words.Order.{Order}
use Rattle.cue_device.specs.declared.words.Order.TheVariants.{Prepare, Move, GiveUp}
use Rattle.cue_device.specs.Hearing.{after_at, after_report, after_told}
use Rattle.cue_device.specs.Hearing.{answer_told}
use Rattle.cue_device.specs.Hearing.{doing_after, ends, heard_at, in_time, is_in_time, left_after, number_of}
use Rattle.cue_device.specs.Hearing.{ordered_for}
use Rattle.cue_device.specs.Hearing.{place, seq_of, told_at, told_in, told_of}
use Rattle.cue_device.specs.Histories.{Happening, after, device_after, hears, hears_reply, latest, repeats}
use Rattle.cue_device.specs.Histories.{restarts, tells}
use Rattle.cue_rehearsal.specs.declared.manner.Manner.{Manner}
use Rattle.cue_rehearsal.specs.declared.player.Player.{Player}
use Rattle.cue_rehearsal.specs.declared.player.Work.{Work}
use Rattle.cue_rehearsal.specs.Playing.{after_end, answer_at_end, answer_in, begun, breaks_at, report_of, told_at_end}
use Rattle.cue_rehearsal.specs.Playing.{told_by, work_after}
use Rattle.cue_rehearsal_machine.specs.Seats.{after_what}

-- ---- its number

heard_number : (p : Place) (c : Command) (d : Device) → (after_at p c d).number ≡ d.number
heard_number Over c d = refl
heard_number (Same a) c d = refl
heard_number New c d = refl

either_number : (b : Bool) (x d : Device) (n : ℕ) → x.number ≡ n → d.number ≡ n → (cond b x d).number ≡ n
either_number true x d n e f = e
either_number false x d n e f = f

told_number : (p : Place) (t : Told) (d : Device) → (told_at p t d).number ≡ d.number
told_number Over t d = refl
told_number (Same a) t d = either_number (is_some (told_in t a.phase).answer) _ (after_report t d) d.number refl refl
told_number New t d = refl

number_after : (h : Happening) (d : Device) → (after h d).number ≡ d.number
number_after (hears c) d = heard_number (place d (seq_of c)) c d
number_after (tells t) d = told_number (place d (told_of t)) t d
number_after repeats d = refl
number_after hears_reply d = refl
number_after (restarts n) d = refl

pub number_history : (d : Device) (hs : List Happening) → (device_after d hs).number ≡ d.number
number_history d [] = refl
number_history d (h ∷ hs) = number_after h (device_after d hs) ∙ number_history d hs

-- ---- one happening more

pub device_what : (d : Device) (what : Option Happening) (hs : List Happening)
    → device_after d (latest what hs) ≡ after_what what (device_after d hs)
device_what d None hs = refl
device_what d (Some h) hs = refl

-- ---- what its machine does

-- the order that a machine does
abbrev pub order_in : Option Work → Option Order
order_in None = None
order_in (Some w) = Some w.order

pub doing_heard : (p : Place) (c : Command) (d : Device)
    → (after_at p c d).doing ≡ doing_after (heard_at p c d).order d.doing
doing_heard Over c d = refl
doing_heard (Same a) c d = refl
doing_heard New c d = refl

pub work_heard : (m : Manner) (now longer : ℕ) (o : Option Order) (w : Option Work) (doing : Option Order)
    → order_in w ≡ doing → order_in (work_after (begun m now longer) o w) ≡ doing_after o doing
work_heard m now longer None w doing e = e
work_heard m now longer (Some order) w doing e = refl

pub unheard_heard : (p : Place) (c : Command) (d : Device) → (after_at p c d).unheard ≡ true → d.unheard ≡ true
unheard_heard Over c d e = e
unheard_heard (Same a) c d e = e
unheard_heard New c d e = absurd (true≢false (sym e))

-- ---- the end of an order

ends_either : (b : Bool) (o : Order) → ends o (cond b (Cannot (ordered_for o)) (report_of o (ordered_for o))) ≡ true
ends_either true (Prepare q) = eq-eqb q q refl
ends_either true (Move q) = eq-eqb q q refl
ends_either true (GiveUp q) = eq-eqb q q refl
ends_either false (Prepare q) = eq-eqb q q refl
ends_either false (Move q) = eq-eqb q q refl
ends_either false (GiveUp q) = eq-eqb q q refl

-- what is told of the order that the device does is the end of it
ends_own : (p : Player) (o : Order) → p.device.doing ≡ Some o → ends o (told_by o p) ≡ true
ends_own p o e =
    let b = p.manner.behaviour in
    ap (λ (x : Option Order). ends o (told_at_end b o (number_of x p.device.last))) e ∙ ends_either (breaks_at b o) o

timely : (p : Player) (o : Order) → p.device.doing ≡ Some o → is_in_time (told_by o p) p.device ≡ true
timely p o e = ap (λ (x : Option Order). in_time x (told_by o p) p.device) e ∙ ends_own p o e

pub ended : (p : Player) (o : Order) → p.device.doing ≡ Some o
    → (after_end o p).device ≡ after_told (told_by o p) p.device
ended p o e = ap (λ (b : Bool). cond b (after_told (told_by o p) p.device) p.device) (timely p o e)

pub ended_answer : (p : Player) (o : Order) → p.device.doing ≡ Some o
    → answer_at_end o p ≡ answer_told (told_by o p) p.device
ended_answer p o e =
    ap (λ (b : Bool). answer_in (cond b (Ok (answer_told (told_by o p) p.device)) (Err NotOrdered))) (timely p o e)

prepared_quiet : (q : ℕ) (f : Phase) → (told_in (Prepared q) f).order ≡ None
prepared_quiet q Preparing = refl
prepared_quiet q Ready = refl
prepared_quiet q Moving = refl
prepared_quiet q Done = refl
prepared_quiet q LettingGo = refl
prepared_quiet q LetGo = refl
prepared_quiet q Failed = refl

moved_quiet : (q : ℕ) (f : Phase) → (told_in (Moved q) f).order ≡ None
moved_quiet q Preparing = refl
moved_quiet q Ready = refl
moved_quiet q Moving = refl
moved_quiet q Done = refl
moved_quiet q LettingGo = refl
moved_quiet q LetGo = refl
moved_quiet q Failed = refl

gave_up_quiet : (q : ℕ) (f : Phase) → (told_in (GaveUp q) f).order ≡ None
gave_up_quiet q Preparing = refl
gave_up_quiet q Ready = refl
gave_up_quiet q Moving = refl
gave_up_quiet q Done = refl
gave_up_quiet q LettingGo = refl
gave_up_quiet q LetGo = refl
gave_up_quiet q Failed = refl

cannot_quiet : (q : ℕ) (f : Phase) → (told_in (Cannot q) f).order ≡ None
cannot_quiet q Preparing = refl
cannot_quiet q Ready = refl
cannot_quiet q Moving = refl
cannot_quiet q Done = refl
cannot_quiet q LettingGo = refl
cannot_quiet q LetGo = refl
cannot_quiet q Failed = refl

-- a report orders nothing
quiet : (t : Told) (f : Phase) → (told_in t f).order ≡ None
quiet (Prepared q) f = prepared_quiet q f
quiet (Moved q) f = moved_quiet q f
quiet (GaveUp q) f = gave_up_quiet q f
quiet (Cannot q) f = cannot_quiet q f

either_doing : (b : Bool) (x d : Device) (o : Option Order) → x.doing ≡ o → d.doing ≡ o → (cond b x d).doing ≡ o
either_doing true x d o e f = e
either_doing false x d o e f = f

told_doing : (p : Place) (t : Told) (d : Device) → (told_at p t d).doing ≡ left_after t d.doing
told_doing Over t d = refl
told_doing (Same a) t d =
    let left : Option Order = left_after t d.doing in
    either_doing (is_some (told_in t a.phase).answer) _ (after_report t d) left
    (ap (λ (o : Option Order). doing_after o left) (quiet t a.phase)) refl
told_doing New t d = refl

-- it does nothing then
pub ended_doing : (p : Player) (o : Order) → p.device.doing ≡ Some o → (after_end o p).device.doing ≡ None
ended_doing p o e =
    let t : Told = told_by o p in
    ap (λ (d : Device). d.doing) (ended p o e)
    ∙ (told_doing (place p.device (told_of t)) t p.device
    ∙ (ap (left_after t) e ∙ ap (λ (b : Bool). cond b None (Some o)) (ends_own p o e)))
