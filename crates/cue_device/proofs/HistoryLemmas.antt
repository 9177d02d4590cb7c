-- What is kept over all that happens to a device, and what each order rests on.
use Rattle.std.proofs.Common.{◌≡◌, ℕ, ◌<◌, ◌≤◌, Bool, true, false, cond, eqb, ltb, List, [], ◌∷◌, Option, Some, None}
use Rattle.std.proofs.Common.{refl, sym, ap, subst, ◌∙◌, arith, is_none}
use Rattle.std.proofs.lemmas.Bool.{eqb-true, ltb-true, eq-eqb}
use Rattle.cue_device.specs.declared.asked.Command.{Command}
use Rattle.cue_device.specs.declared.asked.Command.TheVariants.{Standby, Go, Cancel}
use Rattle.cue_device.specs.declared.asked.Task.{Task}
use Rattle.cue_device.specs.declared.hearing.Device.{Device}
use Rattle.cue_device.specs.declared.hearing.Place.{Place}
use Rattle.cue_device.specs.declared.hearing.Place.TheVariants.{Over, Same, New}
use Rattle.cue_device.specs.declared.hearing.Told.{Told}
use Rattle.cue_device.specs.declared.hearing.Told.TheVariants.{Prepared, Moved, GaveUp, Cannot}
use Rattle.cue_device.specs.declared.phase.Attempt.{Attempt}
use Rattle.cue_device.specs.declared.phase.Phase.{Phase}
use Rattle.cue_device.specs.declared.phase.Phase.TheVariants.{Preparing, Ready, Moving, Done, LettingGo, LetGo, Failed}
use Rattle.cue_device.specs.declared.phase.Cell.{Cell}
use Rattle.cue_device.specs.declared.words.Order.{Order}
use Rattle.cue_device.specs.declared.words.Order.TheVariants.{Prepare, Move, GiveUp}
use Rattle.cue_device.specs.declared.words.Answer.{Answer}
use Rattle.cue_device.specs.declared.words.Answer.TheVariants.{StandingBy, Complete, Cancelled, Abort}
use Rattle.cue_device.specs.Hearing.{after_at, answer_at, again, begun, ends, after_report, heard_at}
use Rattle.cue_device.specs.Hearing.{is_for}
use Rattle.cue_device.specs.Hearing.{left_after, attempt_with_report, ordered_for, place, place_known, device_at_rest}
use Rattle.cue_device.specs.Hearing.{said_by, seq_of, after_cell}
use Rattle.cue_device.specs.Hearing.{task_of, told_at, told_in, told_of}
use Rattle.cue_device.specs.Table.{answer_over, new_number, new_standby, other_standby, same_cancel, same_go}
use Rattle.cue_device.specs.Table.{same_standby}
use Rattle.cue_device.specs.Histories.{Happening, hears, tells, repeats, hears_reply, restarts, KeepsNumbers, answer_to}
use Rattle.cue_device.specs.Histories.{answers_of, device_after, latest, order_at, orders_of, unfinished_order}
use Rattle.cue_device.specs.Laws.{has_stood_by}
use Rattle.cue_device.proofs.FitsLemmas.{UpTo, up_to-more, all_below, not_moved, not_given_up, OnlyPrepares, StandsIn}
use Rattle.cue_device.proofs.FitsLemmas.{Stands, Fits, Lawful, LawfulIf, Goes, more_answers, answers_more, freed_fits}

-- ---- one cell

-- the attempt of the last number takes a cell of the table
abbrev GoesByCell : Device → Option Task → List Order → List Answer → Option Order → Cell → Type 0
GoesByCell d task os xs u t = Goes os xs u (after_cell task t d) (said_by t)

-- without an order
keeps : (d : Device) (task : Option Task) (os : List Order) (xs : List Answer) (u : Option Order) (p : Phase)
    (x : Option Answer) → UpTo d.last os → d.doing ≡ u → StandsIn p d.last os (latest x xs) u
    → GoesByCell d task os xs u (record { phase = p; order = None; answer = x })
keeps d task os xs u p x b e s = record { lawful = tt; fits = record { bounded = b; doing = e; stands = s } }

-- with an order
orders : (d : Device) (task : Option Task) (os : List Order) (xs : List Answer) (u : Option Order) (p : Phase)
    (o : Order) (x : Option Answer) → UpTo d.last os → ordered_for o ≤ d.last → Lawful o os xs u
    → StandsIn p d.last (o ∷ os) (latest x xs) (Some o)
    → GoesByCell d task os xs u (record { phase = p; order = Some o; answer = x })
orders d task os xs u p o x b le l s =
    record { lawful = l; fits = record { bounded = (le, b); doing = refl; stands = s } }

le_itself : (n : ℕ) → n ≤ n
le_itself n = omega arith

free_prepares : (q : ℕ) (u : Option Order) → u ≡ None → OnlyPrepares q u
free_prepares q u e = subst (OnlyPrepares q) (sym e) tt

same_standby-goes : (d : Device) (task : Option Task) (os : List Order) (xs : List Answer) (u : Option Order)
    (p : Phase) → UpTo d.last os → d.doing ≡ u → StandsIn p d.last os xs u
    → GoesByCell d task os xs u (same_standby d.last p)
same_standby-goes d task os xs u Preparing b e s = keeps d task os xs u Preparing None b e s
same_standby-goes d task os xs u Ready b e s =
    keeps d task os xs u Ready (Some (StandingBy d.last)) b e (more_answers Ready d.last os (StandingBy d.last) xs u s)
same_standby-goes d task os xs u Moving b e s = keeps d task os xs u Moving None b e s
same_standby-goes d task os xs u Done b e s = keeps d task os xs u Done None b e s
same_standby-goes d task os xs u LettingGo b e s = keeps d task os xs u LettingGo None b e s
same_standby-goes d task os xs u LetGo b e s = keeps d task os xs u LetGo (Some (Abort d.last)) b e s
same_standby-goes d task os xs u Failed b e s = keeps d task os xs u Failed (Some (Abort d.last)) b e tt

other_standby-goes : (d : Device) (task : Option Task) (os : List Order) (xs : List Answer) (u : Option Order)
    (p : Phase) → UpTo d.last os → d.doing ≡ u → StandsIn p d.last os xs u
    → GoesByCell d task os xs u (other_standby d.last p)
other_standby-goes d task os xs u Preparing b e s = orders d task os xs u Failed (GiveUp d.last) (Some (Abort d.last)) b
    (le_itself d.last) (s.0.0, s.1, b) tt
other_standby-goes d task os xs u Ready b e s = orders d task os xs u Failed (GiveUp d.last) (Some (Abort d.last)) b
    (le_itself d.last) (s.0.0, free_prepares d.last u s.2, b) tt
other_standby-goes d task os xs u Moving b e s = keeps d task os xs u Failed (Some (Abort d.last)) b e tt
other_standby-goes d task os xs u Done b e s = keeps d task os xs u Failed (Some (Abort d.last)) b e tt
other_standby-goes d task os xs u LettingGo b e s = keeps d task os xs u Failed (Some (Abort d.last)) b e tt
other_standby-goes d task os xs u LetGo b e s = keeps d task os xs u Failed (Some (Abort d.last)) b e tt
other_standby-goes d task os xs u Failed b e s = keeps d task os xs u Failed (Some (Abort d.last)) b e tt

same_go-goes : (d : Device) (task : Option Task) (os : List Order) (xs : List Answer) (u : Option Order) (p : Phase)
    → UpTo d.last os → d.doing ≡ u → StandsIn p d.last os xs u → GoesByCell d task os xs u (same_go d.last p)
same_go-goes d task os xs u Preparing b e s = keeps d task os xs u Failed (Some (Abort d.last)) b e tt
same_go-goes d task os xs u Ready b e s = orders d task os xs u Moving (Move d.last) None b (le_itself d.last)
    (s.0, s.1, s.2, b) s.0.1
same_go-goes d task os xs u Moving b e s = keeps d task os xs u Moving None b e s
same_go-goes d task os xs u Done b e s = keeps d task os xs u Done (Some (Complete d.last)) b e s
same_go-goes d task os xs u LettingGo b e s = keeps d task os xs u Failed (Some (Abort d.last)) b e tt
same_go-goes d task os xs u LetGo b e s = keeps d task os xs u Failed (Some (Abort d.last)) b e tt
same_go-goes d task os xs u Failed b e s = keeps d task os xs u Failed (Some (Abort d.last)) b e tt

same_cancel-goes : (d : Device) (task : Option Task) (os : List Order) (xs : List Answer) (u : Option Order) (p : Phase)
    → UpTo d.last os → d.doing ≡ u → StandsIn p d.last os xs u → GoesByCell d task os xs u (same_cancel d.last p)
same_cancel-goes d task os xs u Preparing b e s =
    orders d task os xs u LettingGo (GiveUp d.last) None b (le_itself d.last) (s.0.0, s.1, b) s.0.0
same_cancel-goes d task os xs u Ready b e s = orders d task os xs u LettingGo (GiveUp d.last) None b (le_itself d.last)
    (s.0.0, free_prepares d.last u s.2, b) s.0.0
same_cancel-goes d task os xs u Moving b e s = keeps d task os xs u Moving None b e s
same_cancel-goes d task os xs u Done b e s = keeps d task os xs u Done (Some (Cancelled d.last)) b e s
same_cancel-goes d task os xs u LettingGo b e s = keeps d task os xs u LettingGo None b e s
same_cancel-goes d task os xs u LetGo b e s = keeps d task os xs u LetGo (Some (Cancelled d.last)) b e s
same_cancel-goes d task os xs u Failed b e s = keeps d task os xs u Failed (Some (Cancelled d.last)) b e tt

standby_goes : (d : Device) (a : Attempt) (os : List Order) (xs : List Answer) (u : Option Order) (same : Bool)
    → UpTo d.last os → d.doing ≡ u → StandsIn a.phase d.last os xs u
    → GoesByCell d a.task os xs u (cond same (same_standby d.last a.phase) (other_standby d.last a.phase))
standby_goes d a os xs u true b e s = same_standby-goes d a.task os xs u a.phase b e s
standby_goes d a os xs u false b e s = other_standby-goes d a.task os xs u a.phase b e s

again_goes : (d : Device) (a : Attempt) (os : List Order) (xs : List Answer) (u : Option Order) (c : Command)
    → seq_of c ≡ d.last → UpTo d.last os → d.doing ≡ u → StandsIn a.phase d.last os xs u
    → GoesByCell d a.task os xs u (again a c)
again_goes d a os xs u (Standby q t) at b e s =
    subst (λ (n : ℕ). GoesByCell d a.task os xs u
    (cond (is_for t a.task) (same_standby n a.phase) (other_standby n a.phase))) (sym at)
    (standby_goes d a os xs u (is_for t a.task) b e s)
again_goes d a os xs u (Go q) at b e s = subst (λ (n : ℕ). GoesByCell d a.task os xs u (same_go n a.phase)) (sym at)
    (same_go-goes d a.task os xs u a.phase b e s)
again_goes d a os xs u (Cancel q) at b e s = subst
    (λ (n : ℕ). GoesByCell d a.task os xs u (same_cancel n a.phase)) (sym at)
    (same_cancel-goes d a.task os xs u a.phase b e s)

new_standby-goes : (d : Device) (q : ℕ) (task : Option Task) (os : List Order) (xs : List Answer) (u : Option Order)
    → d.last < q → UpTo d.last os → d.doing ≡ u
    → GoesByCell (begun q d) task os xs u (new_standby q (is_none u))
new_standby-goes d q task os xs None lt b e =
    orders (begun q d) task os xs None Preparing (Prepare q) None (up_to-more d.last q os (omega arith) b) (le_itself q)
    (all_below d.last q os lt b, refl) ((not_moved d.last q os lt b, not_given_up d.last q os lt b), refl)
new_standby-goes d q task os xs (Some o) lt b e = keeps (begun q d) task os xs (Some o) Failed (Some (Abort q))
    (up_to-more d.last q os (omega arith) b) e tt

anew_goes : (d : Device) (os : List Order) (xs : List Answer) (u : Option Order) (c : Command) → d.last < seq_of c
    → UpTo d.last os → d.doing ≡ u → GoesByCell (begun (seq_of c) d)
    (task_of c) os xs u (new_number (is_none d.doing) c)
anew_goes d os xs u (Standby q t) lt b e =
    subst (λ (v : Option Order). GoesByCell (begun q d) (Some t) os xs u (new_standby q (is_none v))) (sym e)
    (new_standby-goes d q (Some t) os xs u lt b e)
anew_goes d os xs u (Go q) lt b e =
    keeps (begun q d) None os xs u Failed (Some (Abort q)) (up_to-more d.last q os (omega arith) b) e tt
anew_goes d os xs u (Cancel q) lt b e =
    keeps (begun q d) None os xs u LetGo (Some (Cancelled q)) (up_to-more d.last q os (omega arith) b) e
    (not_moved d.last q os lt b)

-- ---- places

-- what a place says of the number
abbrev IsPlace : Device → ℕ → Place → Type 0
IsPlace d q Over = Unit {0}
IsPlace d q (Same a) = (q ≡ d.last) × (d.attempt ≡ Some a)
IsPlace d q New = d.last < q

known_place : (d : Device) (q : ℕ) (b : Bool) (o : Option Attempt) → eqb q d.last ≡ b → d.attempt ≡ o
    → IsPlace d q (place_known b o)
known_place d q b None e f = tt
known_place d q true (Some a) e f = (eqb-true q d.last e, f)
known_place d q false (Some a) e f = tt

any_place : (d : Device) (q : ℕ) (b : Bool) → ltb d.last q ≡ b
    → IsPlace d q (cond b New (place_known (eqb q d.last) d.attempt))
any_place d q true e = ltb-true d.last q e
any_place d q false e = known_place d q (eqb q d.last) d.attempt refl refl

place_is : (d : Device) (q : ℕ) → IsPlace d q (place d q)
place_is d q = any_place d q (ltb d.last q) refl

-- ---- what is heard

heard_goes : (p : Place) (d : Device) (os : List Order) (xs : List Answer) (u : Option Order) (c : Command)
    → IsPlace d (seq_of c) p → Fits d os xs u → Goes os xs u (after_at p c d) (heard_at p c d)
heard_goes Over d os xs u c is f = record { lawful = tt; fits = answers_more d os (Some (answer_over c)) xs u f }
heard_goes (Same a) d os xs u c is f =
    again_goes d a os xs u c is.0 f.bounded f.doing
    (subst (λ (o : Option Attempt). Stands o d.last os xs u) is.1 f.stands)
heard_goes New d os xs u c is f = anew_goes d os xs u c is f.bounded f.doing

-- ---- what is told

-- what is left of a preparation, once its end was told
no_more : (b : Bool) (o : Order) → b ≡ true → cond b None (Some o) ≡ None
no_more b o e = rw e refl

prepared_left : (q : ℕ) (u : Option Order) → OnlyPrepares q u → left_after (Prepared q) u ≡ None
prepared_left q None h = refl
prepared_left q (Some o) h = no_more (ends o (Prepared q)) o (ap (λ (x : Order). ends x (Prepared q)) h
    ∙ eq-eqb q q refl)

-- the attempt is in this phase from now on
enters : (t : Told) (d : Device) (task : Option Task) (os : List Order) (xs : List Answer) (u : Option Order)
    (p : Phase) (x : Answer) → UpTo d.last os → d.doing ≡ u → StandsIn p d.last os (x ∷ xs) (left_after t u)
    → Fits (attempt_with_report t task (record { phase = p; order = None; answer = Some x }) (after_report t d)) os
    (x ∷ xs) (left_after t u)
enters t d task os xs u p x b e s = record { bounded = b; doing = ap (left_after t) e; stands = s }

stood : (q p : ℕ) (xs : List Answer) → p ≡ q → has_stood_by q (StandingBy p ∷ xs) ≡ true
stood q p xs e = rw (eq-eqb p q e) refl

told_goes : (t : Told) (d : Device) (a : Attempt) (p : Phase) (os : List Order) (xs : List Answer) (u : Option Order)
    → told_of t ≡ d.last → Fits d os xs u → StandsIn p d.last os xs u
    → Fits (attempt_with_report t a.task (told_in t p) (after_report t d)) os (latest (told_in t p).answer xs)
    (left_after t u)
told_goes (Prepared q) d a Preparing os xs u at f s =
    enters (Prepared q) d a.task os xs u Ready (StandingBy q) f.bounded f.doing (
      s.0,
      stood d.last q xs at,
      subst (λ (n : ℕ). left_after (Prepared n) u ≡ None) (sym at)
          (prepared_left d.last u s.1),
    )
told_goes (Prepared q) d a Ready os xs u at f s = freed_fits (Prepared q) d os xs u f
told_goes (Prepared q) d a Moving os xs u at f s = freed_fits (Prepared q) d os xs u f
told_goes (Prepared q) d a Done os xs u at f s = freed_fits (Prepared q) d os xs u f
told_goes (Prepared q) d a LettingGo os xs u at f s = freed_fits (Prepared q) d os xs u f
told_goes (Prepared q) d a LetGo os xs u at f s = freed_fits (Prepared q) d os xs u f
told_goes (Prepared q) d a Failed os xs u at f s = freed_fits (Prepared q) d os xs u f
told_goes (Moved q) d a Preparing os xs u at f s = freed_fits (Moved q) d os xs u f
told_goes (Moved q) d a Ready os xs u at f s = freed_fits (Moved q) d os xs u f
told_goes (Moved q) d a Moving os xs u at f s = enters (Moved q) d a.task os xs u Done (Complete q) f.bounded f.doing s
told_goes (Moved q) d a Done os xs u at f s = freed_fits (Moved q) d os xs u f
told_goes (Moved q) d a LettingGo os xs u at f s = freed_fits (Moved q) d os xs u f
told_goes (Moved q) d a LetGo os xs u at f s = freed_fits (Moved q) d os xs u f
told_goes (Moved q) d a Failed os xs u at f s = freed_fits (Moved q) d os xs u f
told_goes (GaveUp q) d a Preparing os xs u at f s = freed_fits (GaveUp q) d os xs u f
told_goes (GaveUp q) d a Ready os xs u at f s = freed_fits (GaveUp q) d os xs u f
told_goes (GaveUp q) d a Moving os xs u at f s = freed_fits (GaveUp q) d os xs u f
told_goes (GaveUp q) d a Done os xs u at f s = freed_fits (GaveUp q) d os xs u f
told_goes (GaveUp q) d a LettingGo os xs u at f s = enters (GaveUp q) d a.task os xs u LetGo (Cancelled q) f.bounded
    f.doing s
told_goes (GaveUp q) d a LetGo os xs u at f s = freed_fits (GaveUp q) d os xs u f
told_goes (GaveUp q) d a Failed os xs u at f s = freed_fits (GaveUp q) d os xs u f
told_goes (Cannot q) d a Preparing os xs u at f s = enters (Cannot q) d a.task os xs u Failed (Abort q) f.bounded
    f.doing tt
told_goes (Cannot q) d a Ready os xs u at f s = enters (Cannot q) d a.task os xs u Failed (Abort q) f.bounded f.doing tt
told_goes (Cannot q) d a Moving os xs u at f s = enters (Cannot q) d a.task os xs u Failed (Abort q) f.bounded f.doing
    tt
told_goes (Cannot q) d a Done os xs u at f s = freed_fits (Cannot q) d os xs u f
told_goes (Cannot q) d a LettingGo os xs u at f s = enters (Cannot q) d a.task os xs u Failed (Abort q) f.bounded
    f.doing tt
told_goes (Cannot q) d a LetGo os xs u at f s = freed_fits (Cannot q) d os xs u f
told_goes (Cannot q) d a Failed os xs u at f s = enters (Cannot q) d a.task os xs u Failed (Abort q) f.bounded f.doing
    tt

tells_fits : (p : Place) (t : Told) (d : Device) (os : List Order) (xs : List Answer) (u : Option Order)
    → IsPlace d (told_of t) p → Fits d os xs u → Fits (told_at p t d) os (latest (answer_at p t) xs) (left_after t u)
tells_fits Over t d os xs u is f = freed_fits t d os xs u f
tells_fits (Same a) t d os xs u is f =
    told_goes t d a a.phase os xs u is.0 f (subst (λ (o : Option Attempt). Stands o d.last os xs u) is.1 f.stands)
tells_fits New t d os xs u is f = freed_fits t d os xs u f

-- ---- all that happens

pub all_fits : (d : ℕ) (over : ℕ) (hs : List Happening) → KeepsNumbers (device_at_rest d over) hs
    → Fits (device_after (device_at_rest d over) hs) (orders_of (device_at_rest d over) hs)
    (answers_of (device_at_rest d over) hs)
    (unfinished_order (device_at_rest d over) hs)
all_fits d over [] k = record { bounded = tt; doing = refl; stands = tt }
all_fits d over (hears c ∷ hs) k =
    let now = device_after (device_at_rest d over) hs in
    (heard_goes (place now (seq_of c)) now (orders_of (device_at_rest d over) hs)
    (answers_of (device_at_rest d over) hs)
    (unfinished_order (device_at_rest d over) hs) c (place_is now (seq_of c)) (all_fits d over hs k.1)).fits
all_fits d over (tells t ∷ hs) k =
    let now = device_after (device_at_rest d over) hs in
    tells_fits (place now (told_of t)) t now (orders_of (device_at_rest d over) hs)
    (answers_of (device_at_rest d over) hs)
    (unfinished_order (device_at_rest d over) hs) (place_is now (told_of t)) (all_fits d over hs k.1)
all_fits d over (repeats ∷ hs) k =
    let now = device_after (device_at_rest d over) hs in
    answers_more now (orders_of (device_at_rest d over) hs) (answer_to repeats now)
    (answers_of (device_at_rest d over) hs)
    (unfinished_order (device_at_rest d over) hs) (all_fits d over hs k.1)
all_fits d over (hears_reply ∷ hs) k = let f = all_fits d over hs k.1 in
    record { bounded = f.bounded; doing = f.doing; stands = f.stands }
all_fits d over (restarts n ∷ hs) k = record { bounded = k.0; doing = refl; stands = tt }

nothing_ordered : {A : Type 0} (o : Order) → None ≡ Some o → A
nothing_ordered o e = absurd cc

-- each order is lawful
pub all_lawful : (d over : ℕ) (h : Happening) (hs : List Happening) (o : Order)
    → KeepsNumbers (device_at_rest d over) hs
    → order_at h (device_after (device_at_rest d over) hs) ≡ Some o
    → Lawful o (orders_of (device_at_rest d over) hs) (answers_of (device_at_rest d over) hs)
    (unfinished_order (device_at_rest d over) hs)
all_lawful d over (hears c) hs o k e =
    let now = device_after (device_at_rest d over) hs in
    let os = orders_of (device_at_rest d over) hs in
    let xs = answers_of (device_at_rest d over) hs in
    let u = unfinished_order (device_at_rest d over) hs in
    let g = heard_goes (place now (seq_of c)) now os xs u c (place_is now (seq_of c)) (all_fits d over hs k) in
    subst (λ (x : Option Order). LawfulIf x os xs u) e g.lawful
all_lawful d over (tells t) hs o k e = nothing_ordered o e
all_lawful d over repeats hs o k e = nothing_ordered o e
all_lawful d over hears_reply hs o k e = nothing_ordered o e
all_lawful d over (restarts n) hs o k e = nothing_ordered o e
