-- A life over calls: the struct that is handed back is the device that was left.
use Rattle.std.proofs.Common.{◌≡◌, ◌∙◌, ◌≤◌, ℕ, Bool, true, false, cond, nat_eq, nat_lt, List, [], ◌∷◌, Option, Some, None}
use Rattle.std.proofs.Common.{Ok, Err, inl, inr, refl, sym, ap, subst, is_some, is_none}
use Rattle.std.proofs.lemmas.Bool.{eqb-true}
use Rattle.cue_show.specs.declared.limits.TheConstants.{MAX_DEVICE_NUMBER}
use Rattle.cue_device.specs.declared.asked.Command.{Command}
use Rattle.cue_device.specs.declared.asked.Command.TheVariants.{Standby, Go, Cancel}
use Rattle.cue_device.specs.declared.hearing.Device.{Device}
use Rattle.cue_device.specs.declared.hearing.Place.TheVariants.{New}
use Rattle.cue_device.specs.declared.hearing.ReportFault.TheVariants.{NotOrdered}
use Rattle.cue_device.specs.declared.hearing.Told.{Told}
use Rattle.cue_device.specs.declared.hearing.Told.TheVariants.{Prepared, Moved, GaveUp, Cannot}
use Rattle.cue_device.specs.declared.phase.Attempt.{Attempt}
use Rattle.cue_device.specs.declared.phase.Phase.{Phase}
use Rattle.cue_device.specs.declared.phase.Phase.TheVariants.{Preparing, Ready, Moving, Done, LettingGo, LetGo, Failed}
use Rattle.cue_device.specs.declared.words.Order.{Order}
use Rattle.cue_device.specs.declared.words.Order.TheVariants.{Prepare, Move, GiveUp}
use Rattle.cue_device.specs.Datagrams.{HasTask, HearsDatagram, IsCommand}
use Rattle.cue_device.specs.Hearing.{after_at, after_call, after_command, after_told, again, answer_told}
use Rattle.cue_device.specs.Hearing.{device_at_rest, device_restarted, heard_at, is_for, is_in_time, ordered_for}
use Rattle.cue_device.specs.Hearing.{place_known, reported_for, seq_of, task_now, told_in, told_of, what_comes_of}
use Rattle.cue_device.specs.Hearing as hearing
use Rattle.cue_device.specs.Histories.{Happening, hears, tells, repeats, hears_reply, restarts, KeepsNumbers, after}
use Rattle.cue_device.specs.Histories.{device_after, latest, order_at, orders_of}
use Rattle.cue_device.specs.Laws.{has_moved}
use Rattle.cue_device.specs.Table.{new_number, new_standby, other_standby, same_cancel, same_go, same_standby}
use Rattle.cue_device.proofs.HistoryLemmas.{all_lawful}
use Rattle.cue_device_c.specs.Calls.{DeviceHears, EndsIf, HearsFrom, HearsOf, IsMade, IsRestarted, NamesOf, Reports}
use Rattle.cue_device_c.specs.Calls.{Tells, TellsOf, TicksOf, sent_bytes}
use Rattle.cue_device_c.specs.Codes.{order_code, order_of}
use Rattle.cue_device_c.specs.Laws.{Call, Life, LivesAs, Makes, MayBe, Step, left_by, told_at, told_by}
use Rattle.cue_device_c.specs.Laws as laws
use Rattle.cue_device_c.specs.State.{device_of, is_heard, no_place, numbers_of}
use Rattle.cue_device_c.specs.declared.answer.CueAnswer.{CueAnswer}
use Rattle.cue_device_c.specs.declared.codes.TheConstants.{BAD_CALL}
use Rattle.cue_device_c.specs.declared.state.CueDevice.{CueDevice}
use Rattle.cue_device_c.specs.declared.state.CuePlace.{CuePlace}
use Rattle.cue_device_c.proofs.RoundLemmas.{stand_for_it}

-- ---- there may be such a device after what happens to it

commanded_at : (is_new is_last : Bool) (a : Option Attempt) (c : Command) (d : Device) → IsCommand c → MayBe d
    → HasTask (task_now a) → MayBe (after_at (cond is_new New (place_known is_last a)) c d)
commanded_at true is_last a c d is may task = record { number = may.number; task = is.tasked }
commanded_at false is_last None c d is may task = may
commanded_at false true (Some a) c d is may task = record { number = may.number; task = task }
commanded_at false false (Some a) c d is may task = may

commanded : (c : Command) (d : Device) → IsCommand c → MayBe d → MayBe (after_command c d)
commanded c d is may =
    commanded_at (nat_lt d.last (seq_of c)) (nat_eq (seq_of c) d.last) d.attempt c d is may may.task

noted : (is_said : Bool) (a b : Device) → MayBe a → MayBe b → MayBe (cond is_said a b)
noted true a b x y = x
noted false a b x y = y

told_then : (is_new is_last : Bool) (a : Option Attempt) (t : Told) (d : Device) → MayBe d → HasTask (task_now a)
    → MayBe (hearing.told_at (cond is_new New (place_known is_last a)) t d)
told_then true is_last a t d may task = record { number = may.number; task = may.task }
told_then false is_last None t d may task = record { number = may.number; task = may.task }
told_then false true (Some a) t d may task =
    noted (is_some (told_in t a.phase).answer) _ _ (record { number = may.number; task = task })
    (record { number = may.number; task = may.task })
told_then false false (Some a) t d may task = record { number = may.number; task = may.task }

told : (t : Told) (d : Device) → MayBe d → MayBe (after_told t d)
told t d may = told_then (nat_lt d.last (told_of t)) (nat_eq (told_of t) d.last) d.attempt t d may may.task

-- ---- an order is for the last number

-- the order, if there is one, is for this number
abbrev For : ℕ → Option Order → Type 0
For n None = Unit {0}
For n (Some o) = ordered_for o ≡ n

-- so its code and that number are enough to know it
read_again : (n : ℕ) (o : Option Order) → For n o → order_of (order_code o) n ≡ o
read_again n None h = refl
read_again n (Some (Prepare q)) h = ap (λ (x : ℕ). Some (Prepare x)) (sym h)
read_again n (Some (Move q)) h = ap (λ (x : ℕ). Some (Move x)) (sym h)
read_again n (Some (GiveUp q)) h = ap (λ (x : ℕ). Some (GiveUp x)) (sym h)

standby_is_for : (q : ℕ) (p : Phase) → For q (same_standby q p).order
standby_is_for q Preparing = tt
standby_is_for q Ready = tt
standby_is_for q Moving = tt
standby_is_for q Done = tt
standby_is_for q LettingGo = tt
standby_is_for q LetGo = tt
standby_is_for q Failed = tt

other_is_for : (q : ℕ) (p : Phase) → For q (other_standby q p).order
other_is_for q Preparing = refl
other_is_for q Ready = refl
other_is_for q Moving = tt
other_is_for q Done = tt
other_is_for q LettingGo = tt
other_is_for q LetGo = tt
other_is_for q Failed = tt

go_is_for : (q : ℕ) (p : Phase) → For q (same_go q p).order
go_is_for q Preparing = tt
go_is_for q Ready = refl
go_is_for q Moving = tt
go_is_for q Done = tt
go_is_for q LettingGo = tt
go_is_for q LetGo = tt
go_is_for q Failed = tt

cancel_is_for : (q : ℕ) (p : Phase) → For q (same_cancel q p).order
cancel_is_for q Preparing = refl
cancel_is_for q Ready = refl
cancel_is_for q Moving = tt
cancel_is_for q Done = tt
cancel_is_for q LettingGo = tt
cancel_is_for q LetGo = tt
cancel_is_for q Failed = tt

any_standby_is_for : (is_same : Bool) (q : ℕ) (p : Phase)
    → For q (cond is_same (same_standby q p) (other_standby q p)).order
any_standby_is_for true q p = standby_is_for q p
any_standby_is_for false q p = other_is_for q p

again_is_for : (a : Attempt) (c : Command) → For (seq_of c) (again a c).order
again_is_for a (Standby q t) = any_standby_is_for (is_for t a.task) q a.phase
again_is_for a (Go q) = go_is_for q a.phase
again_is_for a (Cancel q) = cancel_is_for q a.phase

new_standby_is_for : (is_free : Bool) (q : ℕ) → For q (new_standby q is_free).order
new_standby_is_for true q = refl
new_standby_is_for false q = tt

new_is_for : (is_free : Bool) (c : Command) → For (seq_of c) (new_number is_free c).order
new_is_for is_free (Standby q t) = new_standby_is_for is_free q
new_is_for is_free (Go q) = tt
new_is_for is_free (Cancel q) = tt

ordered_at : (is_new is_last : Bool) (a : Option Attempt) (c : Command) (d : Device)
    → nat_eq (seq_of c) d.last ≡ is_last
    → For (after_at (cond is_new New (place_known is_last a)) c d).last
    (heard_at (cond is_new New (place_known is_last a)) c d).order
ordered_at true is_last a c d e = new_is_for (is_none d.doing) c
ordered_at false is_last None c d e = tt
ordered_at false true (Some a) c d e =
    subst (λ (n : ℕ). For n (again a c).order) (eqb-true (seq_of c) d.last e) (again_is_for a c)
ordered_at false false (Some a) c d e = tt

ordered_for_last : (c : Command) (d : Device) → For (after_command c d).last (what_comes_of c d).order
ordered_for_last c d = ordered_at (nat_lt d.last (seq_of c)) (nat_eq (seq_of c) d.last) d.attempt c d refl

-- ---- one call

-- the device after what happened, if something did; what it ordered then
abbrev after_if : Option Happening → Device → Device
after_if None d = d
after_if (Some h) d = after h d

abbrev order_if : Option Happening → Device → Option Order
order_if None d = None
order_if (Some h) d = order_at h d

-- it is no restart
abbrev IsCall : Happening → Type 0
IsCall (hears c) = Unit {0}
IsCall (tells t) = Unit {0}
IsCall repeats = Unit {0}
IsCall hears_reply = Unit {0}
IsCall (restarts n) = ⊥

abbrev IsCallIf : Option Happening → Type 0
IsCallIf None = Unit {0}
IsCallIf (Some h) = IsCall h

-- the struct stands for the device after what happened, and what it gave is what was ordered
record Goes (d : Device) (new : CueDevice) (given : ℕ) : Type 0 where
  more : Option Happening
  called : IsCallIf more
  stands : device_of new ≡ Some (after_if more d)
  told : order_of given new.last ≡ order_if more d
  may : MayBe (after_if more d)

silent : (given n : ℕ) → given ≡ 0 → order_of given n ≡ None
silent given n e = ap (λ (g : ℕ). order_of g n) e

refused : (given n : ℕ) → given ≡ BAD_CALL → order_of given n ≡ None
refused given n e = ap (λ (g : ℕ). order_of g n) e

stays : (d : Device) (old new : CueDevice) (given : ℕ) → MayBe d → device_of old ≡ Some d → new ≡ old
    → order_of given new.last ≡ None → Goes d new given
stays d old new given may is same told =
    record { more = None; called = tt; stands = ap device_of same ∙ is; told = told; may = may }

becomes : (h : Option Happening) (d then : Device) (new : CueDevice) (given : ℕ) (controller only : CuePlace)
    → IsCallIf h → new ≡ numbers_of then controller only → then ≡ after_if h d
    → order_of given new.last ≡ order_if h d → MayBe (after_if h d) → Goes d new given
becomes h d then new given controller only called is same told may =
    record {
      more = h;
      called = called;
      stands =
          ap device_of is ∙ ap (λ (x : Device). device_of (numbers_of x controller only)) same
          ∙ stand_for_it (after_if h d) controller only may;
      told = told;
      may = may;
    }

heard : (datagram : List ℕ) (from : CuePlace) (d : Device) (old new : CueDevice) (answer : CueAnswer) (given : ℕ)
    → MayBe d → (x : DeviceHears datagram from d old new answer given)
    → HearsDatagram datagram d x.after x.order (sent_bytes answer) → Goes d new given
heard datagram from d old new answer given may x (inl it) =
    let last : new.last ≡ (after_command it.command d).last =
    ap (λ (s : CueDevice). s.last) x.state ∙ ap (λ (e : Device). e.last) it.state in
    let code : given ≡ order_code (what_comes_of it.command d).order =
    x.result ∙ ap (λ (o : Option Order). order_code o) it.ordered in
    becomes (Some (hears it.command)) d x.after new given new.controller old.only tt x.state it.state
    (ap (λ (g : ℕ). order_of g new.last) code
    ∙ ap (λ (n : ℕ). order_of (order_code (what_comes_of it.command d).order) n) last
    ∙ read_again (after_command it.command d).last (what_comes_of it.command d).order
    (ordered_for_last it.command d))
    (commanded it.command d it.is_for.is_command may)
heard datagram from d old new answer given may x (inr (inl it)) =
    becomes (Some hears_reply) d x.after new given new.controller old.only tt x.state it.state
    (silent given new.last (x.result ∙ ap (λ (o : Option Order). order_code o) it.ordered))
    (record { number = may.number; task = may.task })
heard datagram from d old new answer given may x (inr (inr it)) =
    becomes None d x.after new given new.controller old.only tt x.state it.state
    (silent given new.last (x.result ∙ ap (λ (o : Option Order). order_code o) it.ordered)) may

heard_from : (is_heard : Bool) (datagram : List ℕ) (from : CuePlace) (d : Device) (old new : CueDevice)
    (answer : CueAnswer) (given : ℕ) → MayBe d → device_of old ≡ Some d
    → HearsFrom is_heard datagram from d old new answer given → Goes d new given
heard_from true datagram from d old new answer given may is x =
    heard datagram from d old new answer given may x x.heard
heard_from false datagram from d old new answer given may is x =
    stays d old new given may is x.state (silent given new.last x.result)

reported : (b : Bool) (t : Told) (d : Device) (old new : CueDevice) (answer : CueAnswer) (given : ℕ) → MayBe d
    → device_of old ≡ Some d → is_in_time t d ≡ b
    → Reports (cond b (Ok (answer_told t d)) (Err NotOrdered)) t d old new answer given → Goes d new given
reported true t d old new answer given may is in_time x =
    becomes (Some (tells t)) d (after_call t d) new given old.controller old.only tt x.state
    (ap (λ (b : Bool). cond b (after_told t d) d) in_time) (silent given new.last x.result) (told t d may)
reported false t d old new answer given may is in_time x =
    stays d old new given may is x.state (refused given new.last x.result)

tells_of : (what : ℕ → Told) (d : Device) (old new : CueDevice) (answer : CueAnswer) (given : ℕ) → MayBe d
    → device_of old ≡ Some d → Tells what old new answer given → Goes d new given
tells_of what d old new answer given may is x =
    reported (is_in_time (what (reported_for d)) d) (what (reported_for d)) d old new answer given may is refl
    (subst (λ (o : Option Device). TellsOf o what old new answer given) is x)

ends_if : (b : Bool) (what : ℕ → Told) (d : Device) (old new : CueDevice) (answer : CueAnswer) (given : ℕ) → MayBe d
    → device_of old ≡ Some d → EndsIf b what old new answer given → Goes d new given
ends_if true what d old new answer given may is x = tells_of what d old new answer given may is x
ends_if false what d old new answer given may is x =
    stays d old new given may is x.state (refused given new.last x.result)

ticked : (d : Device) (old new : CueDevice) (answer : CueAnswer) (given : ℕ) → MayBe d → device_of old ≡ Some d
    → new ≡ old → TicksOf (Some d) old answer given → Goes d new given
ticked d old new answer given may is same x = stays d old new given may is same (silent given new.last x.result)

named : (sender : CuePlace) (d : Device) (old new : CueDevice) (given : ℕ) → MayBe d
    → NamesOf (Some d) sender old new given → Goes d new given
named sender d old new given may x =
    becomes None d d new given old.controller sender tt x.state refl (silent given new.last x.result) may

goes : (c : Call) (d : Device) (old new : CueDevice) (answer : CueAnswer) (given : ℕ) → MayBe d
    → device_of old ≡ Some d → Makes c old new answer given → Goes d new given
goes (laws.hears datagram from) d old new answer given may is x =
    heard_from (is_heard old.only from) datagram from d old new answer given may is
    (subst (λ (o : Option Device). HearsOf o datagram from old new answer given) is x)
goes laws.prepared d old new answer given may is x =
    ends_if (nat_eq old.doing 1) (λ q. Prepared q) d old new answer given may is x
goes laws.moved d old new answer given may is x =
    ends_if (nat_eq old.doing 2) (λ q. Moved q) d old new answer given may is x
goes laws.gave_up d old new answer given may is x =
    ends_if (nat_eq old.doing 3) (λ q. GaveUp q) d old new answer given may is x
goes laws.cannot d old new answer given may is x = tells_of (λ q. Cannot q) d old new answer given may is x
goes laws.ticks d old new answer given may is x =
    ticked d old new answer given may is x.state
    (subst (λ (o : Option Device). TicksOf o old answer given) is x.ticked)
goes (laws.hears_only sender) d old new answer given may is x =
    named sender d old new given may (subst (λ (o : Option Device). NamesOf o sender old new given) is x)

-- ---- all calls

-- the law, and that there may be such a device
record Lives (number over : ℕ) (first : CueDevice) (ss : List Step) : Type 0 where
  law : LivesAs number over first ss
  may : MayBe (device_after (device_at_rest number over) law.history)

after_latest : (h : Option Happening) (d : Device) (hs : List Happening)
    → after_if h (device_after d hs) ≡ device_after d (latest h hs)
after_latest None d hs = refl
after_latest (Some h) d hs = refl

orders_latest : (h : Option Happening) (d : Device) (hs : List Happening)
    → latest (order_if h (device_after d hs)) (orders_of d hs) ≡ orders_of d (latest h hs)
orders_latest None d hs = refl
orders_latest (Some h) d hs = refl

keeps_latest : (h : Option Happening) (d : Device) (hs : List Happening) → IsCallIf h → KeepsNumbers d hs
    → KeepsNumbers d (latest h hs)
keeps_latest None d hs called k = k
keeps_latest (Some (hears c)) d hs called k = (tt, k)
keeps_latest (Some (tells t)) d hs called k = (tt, k)
keeps_latest (Some repeats) d hs called k = (tt, k)
keeps_latest (Some hears_reply) d hs called k = (tt, k)
keeps_latest (Some (restarts n)) d hs called k = absurd called

goes_on : (number over : ℕ) (first : CueDevice) (s : Step) (ss : List Step) (l : Lives number over first ss)
    → Goes (device_after (device_at_rest number over) l.law.history) s.left s.given
    → Lives number over first (s ∷ ss)
goes_on number over first s ss l g =
    let d = device_at_rest number over in
    let hs = l.law.history in
    let now = after_latest g.more d hs in
    record {
      law = record {
        history = latest g.more hs;
        keeps = keeps_latest g.more d hs g.called l.law.keeps;
        stands = g.stands ∙ ap (λ (x : Device). Some x) now;
        told =
            ap (λ (o : Option Order). latest o (told_by ss)) g.told
            ∙ ap (λ (os : List Order). latest (order_if g.more (device_after d hs)) os) l.law.told
            ∙ orders_latest g.more d hs;
      };
      may = subst (λ (x : Device). MayBe x) now g.may;
    }

step : (number over : ℕ) (first : CueDevice) (s : Step) (ss : List Step) (l : Lives number over first ss)
    → Makes s.call (left_by first ss) s.left s.answer s.given
    → Goes (device_after (device_at_rest number over) l.law.history) s.left s.given
step number over first s ss l x =
    goes s.call (device_after (device_at_rest number over) l.law.history) (left_by first ss) s.left s.answer s.given
    l.may l.law.stands x

lives : (number over : ℕ) (first : CueDevice) (ss : List Step) → Lives number over first [] → Life first ss
    → Lives number over first ss
lives number over first [] at_first x = at_first
lives number over first (s ∷ ss) at_first x =
    let before = lives number over first ss at_first x.1 in
    goes_on number over first s ss before (step number over first s ss before x.0)

made_at_first : (number given : ℕ) (first : CueDevice) → number ≤ MAX_DEVICE_NUMBER → IsMade number first given
    → Lives number 0 first []
made_at_first number given first le made =
    let may : MayBe (device_at_rest number 0) = record { number = le; task = tt } in
    record {
      law = record {
        history = [];
        keeps = tt;
        stands = ap device_of made.state ∙ stand_for_it (device_at_rest number 0) no_place no_place may;
        told = refl;
      };
      may = may;
    }

restarted_at_first : (number kept given : ℕ) (from : CuePlace) (first : CueDevice) → number ≤ MAX_DEVICE_NUMBER
    → IsRestarted number kept from first given → Lives number kept first []
restarted_at_first number kept given from first le is =
    let may : MayBe (device_restarted number kept) = record { number = le; task = tt } in
    record {
      law = record {
        history = restarts kept ∷ [];
        keeps = (tt, tt);
        stands = ap device_of is.state ∙ stand_for_it (device_restarted number kept) from no_place may;
        told = refl;
      };
      may = may;
    }

pub lives_made : (number given : ℕ) (first : CueDevice) (ss : List Step) → number ≤ MAX_DEVICE_NUMBER
    → IsMade number first given → Life first ss → LivesAs number 0 first ss
lives_made number given first ss le made life =
    (lives number 0 first ss (made_at_first number given first le made) life).law

pub lives_restarted : (number kept given : ℕ) (from : CuePlace) (first : CueDevice) (ss : List Step)
    → number ≤ MAX_DEVICE_NUMBER → IsRestarted number kept from first given → Life first ss
    → LivesAs number kept first ss
lives_restarted number kept given from first ss le is life =
    (lives number kept first ss (restarted_at_first number kept given from first le is) life).law

-- ---- one motion

nothing_told : {A : Type 0} (o : Order) → None ≡ Some o → A
nothing_told o e = absurd cc

moves_once : (h : Option Happening) (number over q : ℕ) (hs : List Happening)
    → KeepsNumbers (device_at_rest number over) hs
    → order_if h (device_after (device_at_rest number over) hs) ≡ Some (Move q)
    → has_moved q (orders_of (device_at_rest number over) hs) ≡ false
moves_once None number over q hs k e = nothing_told (Move q) e
moves_once (Some h) number over q hs k e = (all_lawful number over h hs (Move q) k e).0.0

pub moves_once_made : (number q given : ℕ) (first : CueDevice) (s : Step) (ss : List Step)
    → number ≤ MAX_DEVICE_NUMBER → IsMade number first given → Life first (s ∷ ss) → told_at s ≡ Some (Move q)
    → has_moved q (told_by ss) ≡ false
moves_once_made number q given first s ss le made life e =
    let l = lives number 0 first ss (made_at_first number given first le made) life.1 in
    let g = step number 0 first s ss l life.0 in
    subst (λ (os : List Order). has_moved q os ≡ false) (sym l.law.told)
    (moves_once g.more number 0 q l.law.history l.law.keeps (sym g.told ∙ e))
