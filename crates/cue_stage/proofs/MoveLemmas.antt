-- A device is ordered to move for an attempt only by a GO_2PC of it.
use Rattle.std.proofs.Common.{◌≡◌, ℕ, Bool, true, false, cond, Option, Some, None, is_none, refl, subst}
use Rattle.cue_device.specs.declared.asked.Command.{Command}
use Rattle.cue_device.specs.declared.asked.Command.TheVariants.{Standby, Go, Cancel}
use Rattle.cue_device.specs.declared.hearing.Device.{Device}
use Rattle.cue_device.specs.declared.hearing.Place.{Place}
use Rattle.cue_device.specs.declared.hearing.Place.TheVariants.{Over, Same, New}
use Rattle.cue_device.specs.declared.phase.Attempt.{Attempt}
use Rattle.cue_device.specs.declared.phase.Phase.{Phase}
use Rattle.cue_device.specs.declared.phase.Phase.TheVariants.{Preparing, Ready}
use Rattle.cue_device.specs.declared.words.Order.{Order}
use Rattle.cue_device.specs.declared.words.Order.TheVariants.{Prepare, Move, GiveUp}
use Rattle.cue_device.specs.Hearing.{again, heard_at, is_for, place, seq_of}
use Rattle.cue_device.specs.Histories.{Happening, hears, tells, repeats, hears_reply, restarts, order_at}
use Rattle.cue_device.specs.Table.{new_number, new_standby, other_standby, same_cancel, same_go, same_standby}

-- an order to move comes of a Go of its number alone
abbrev ComesOf : Command → Option Order → Type 0
ComesOf c None = Unit {0}
ComesOf c (Some (Prepare p)) = Unit {0}
ComesOf c (Some (Move p)) = c ≡ Go p
ComesOf c (Some (GiveUp p)) = Unit {0}

same_standby-comes : (c : Command) (q : ℕ) (p : Phase) → ComesOf c (same_standby q p).order
same_standby-comes c q Preparing = tt
same_standby-comes c q _ = tt

other_standby-comes : (c : Command) (q : ℕ) (p : Phase) → ComesOf c (other_standby q p).order
other_standby-comes c q Preparing = tt
other_standby-comes c q _ = tt

same_go-comes : (q : ℕ) (p : Phase) → ComesOf (Go q) (same_go q p).order
same_go-comes q Ready = refl
same_go-comes q _ = tt

same_cancel-comes : (c : Command) (q : ℕ) (p : Phase) → ComesOf c (same_cancel q p).order
same_cancel-comes c q Preparing = tt
same_cancel-comes c q _ = tt

standby_comes : (c : Command) (q : ℕ) (p : Phase) (b : Bool)
    → ComesOf c (cond b (same_standby q p) (other_standby q p)).order
standby_comes c q p true = same_standby-comes c q p
standby_comes c q p false = other_standby-comes c q p

again_comes : (a : Attempt) (c : Command) → ComesOf c (again a c).order
again_comes a (Standby q t) = standby_comes (Standby q t) q a.phase (is_for t a.task)
again_comes a (Go q) = same_go-comes q a.phase
again_comes a (Cancel q) = same_cancel-comes (Cancel q) q a.phase

new_standby-comes : (c : Command) (q : ℕ) (b : Bool) → ComesOf c (new_standby q b).order
new_standby-comes c q true = tt
new_standby-comes c q false = tt

new_number_comes : (free : Bool) (c : Command) → ComesOf c (new_number free c).order
new_number_comes free (Standby q t) = new_standby-comes (Standby q t) q free
new_number_comes free (Go q) = tt
new_number_comes free (Cancel q) = tt

heard_comes : (p : Place) (c : Command) (d : Device) → ComesOf c (heard_at p c d).order
heard_comes Over c d = tt
heard_comes (Same a) c d = again_comes a c
heard_comes New c d = new_number_comes (is_none d.doing) c

no_order : {A : Type 0} (q : ℕ) → None ≡ Some (Move q) → A
no_order q e = absurd cc

-- what orders to move is a Go of that number that was heard
pub moves_by_go : (h : Happening) (d : Device) (q : ℕ) → order_at h d ≡ Some (Move q) → h ≡ hears (Go q)
moves_by_go (hears c) d q e = let m : c ≡ Go q = subst (ComesOf c) e (heard_comes (place d (seq_of c)) c d) in cc
moves_by_go (tells t) d q e = no_order q e
moves_by_go repeats d q e = no_order q e
moves_by_go hears_reply d q e = no_order q e
moves_by_go (restarts n) d q e = no_order q e
