-- The answers of an attempt keep the rules of its stage.
use Rattle.std.proofs.Common.{◌≡◌, ℕ, Bool, true, false, not, ◌&&◌, ◌||◌, IsTrue, List, [], ◌∷◌, nat_eq, refl, ap}
use Rattle.std.proofs.Common.{⊎_elim}
use Rattle.std.specs.List.{list_all}
use Rattle.std.proofs.lemmas.Bool.{cond_both, or_cases, or_left, or_right}
use Rattle.cue_show.specs.Parts.{has_required_part}
use Rattle.cue_show.specs.declared.part.Part.{Part}
use Rattle.cue_show.specs.Devices.{devices_in}
use Rattle.cue_exchange.specs.declared.attempt.Answer.{Answer}
use Rattle.cue_exchange.specs.declared.attempt.Answer.TheVariants.{Waiting, Ready, Done, LetGo, Failed, Excused}
use Rattle.cue_exchange.specs.declared.attempt.Stage.{Stage}
use Rattle.cue_exchange.specs.declared.attempt.Stage.TheVariants.{Preparing, Decided, Cancelling}
use Rattle.cue_exchange.specs.declared.attempt.DeviceAnswer.{DeviceAnswer}
use Rattle.cue_exchange.specs.Answers.{is_waiting, is_preparing, is_decided, is_cancelling, is_concluding, is_known_in}
use Rattle.cue_exchange.specs.Answers.{is_excused, is_required, has_required, entering, enters, may_be_in, answers_with}
use Rattle.cue_exchange.specs.Answers.{first_answers, answers_on_entry, with_answer, some_waits, devices_of}
use Rattle.cue_exchange.specs.Live.{is_open}
use Rattle.cue_exchange.proofs.ListLemmas.{both, join, all_given, all_map}

-- ---- by stage

pub is_known_in-ready : (s : Stage) → IsTrue (is_preparing s) → IsTrue (is_known_in s Ready)
is_known_in-ready Preparing h = refl
is_known_in-ready Decided h = (cc)
is_known_in-ready (Cancelling r) h = (cc)

pub is_known_in-done : (s : Stage) → IsTrue (is_decided s) → IsTrue (is_known_in s Done)
is_known_in-done Preparing h = (cc)
is_known_in-done Decided h = refl
is_known_in-done (Cancelling r) h = (cc)

pub is_known_in-let_go : (s : Stage) → IsTrue (is_cancelling s) → IsTrue (is_known_in s LetGo)
is_known_in-let_go Preparing h = (cc)
is_known_in-let_go Decided h = (cc)
is_known_in-let_go (Cancelling r) h = refl

pub is_known_in-failed : (s : Stage) → IsTrue (is_concluding s) → IsTrue (is_known_in s Failed)
is_known_in-failed Preparing h = (cc)
is_known_in-failed Decided h = refl
is_known_in-failed (Cancelling r) h = refl

pub is_known_in-excused : (s : Stage) → IsTrue (is_preparing s) → IsTrue (is_known_in s Excused)
is_known_in-excused Preparing h = refl
is_known_in-excused Decided h = (cc)
is_known_in-excused (Cancelling r) h = (cc)

pub is_concluding-decided : (s : Stage) → IsTrue (is_decided s) → IsTrue (is_concluding s)
is_concluding-decided Preparing h = (cc)
is_concluding-decided Decided h = refl
is_concluding-decided (Cancelling r) h = (cc)

pub is_concluding-cancelling : (s : Stage) → IsTrue (is_cancelling s) → IsTrue (is_concluding s)
is_concluding-cancelling Preparing h = (cc)
is_concluding-cancelling Decided h = (cc)
is_concluding-cancelling (Cancelling r) h = refl

-- an attempt that is Preparing is open, whatever its devices have answered
pub is_open-preparing : (s : Stage) (answers : List DeviceAnswer) → IsTrue (is_preparing s) → IsTrue (is_open s answers)
is_open-preparing Preparing answers h = refl
is_open-preparing Decided answers h = (cc)
is_open-preparing (Cancelling r) answers h = (cc)

-- an attempt with a device that is still to answer is open
pub is_open-some_waits : (s : Stage) (answers : List DeviceAnswer) → IsTrue (some_waits answers)
    → IsTrue (is_open s answers)
is_open-some_waits Preparing answers h = refl
is_open-some_waits Decided answers h = h
is_open-some_waits (Cancelling r) answers h = h

-- an answer may stand in the stage that its attempt enters, where only an optional device is excused
may_be_in-entering : (t : Stage) (required : Bool) (x : Answer) → IsTrue (not (required && is_excused x))
    → IsTrue (is_known_in t (entering t x) && not (required && is_excused (entering t x)))
may_be_in-entering Preparing true Waiting h = refl
may_be_in-entering Preparing false Waiting h = refl
may_be_in-entering Preparing true Ready h = refl
may_be_in-entering Preparing false Ready h = refl
may_be_in-entering Preparing true Done h = refl
may_be_in-entering Preparing false Done h = refl
may_be_in-entering Preparing true LetGo h = refl
may_be_in-entering Preparing false LetGo h = refl
may_be_in-entering Preparing true Failed h = refl
may_be_in-entering Preparing false Failed h = refl
may_be_in-entering Preparing true Excused h = (cc)
may_be_in-entering Preparing false Excused h = refl
may_be_in-entering Decided true Waiting h = refl
may_be_in-entering Decided false Waiting h = refl
may_be_in-entering Decided true Ready h = refl
may_be_in-entering Decided false Ready h = refl
may_be_in-entering Decided true Done h = refl
may_be_in-entering Decided false Done h = refl
may_be_in-entering Decided true LetGo h = refl
may_be_in-entering Decided false LetGo h = refl
may_be_in-entering Decided true Failed h = refl
may_be_in-entering Decided false Failed h = refl
may_be_in-entering Decided true Excused h = (cc)
may_be_in-entering Decided false Excused h = refl
may_be_in-entering (Cancelling r) true Waiting h = refl
may_be_in-entering (Cancelling r) false Waiting h = refl
may_be_in-entering (Cancelling r) true Ready h = refl
may_be_in-entering (Cancelling r) false Ready h = refl
may_be_in-entering (Cancelling r) true Done h = refl
may_be_in-entering (Cancelling r) false Done h = refl
may_be_in-entering (Cancelling r) true LetGo h = refl
may_be_in-entering (Cancelling r) false LetGo h = refl
may_be_in-entering (Cancelling r) true Failed h = refl
may_be_in-entering (Cancelling r) false Failed h = refl
may_be_in-entering (Cancelling r) true Excused h = refl
may_be_in-entering (Cancelling r) false Excused h = refl

-- a required device is asked again as its attempt enters a stage
pub is_waiting-entering : (t : Stage) (x : Answer) → IsTrue (not (is_excused x)) → IsTrue (is_waiting (entering t x))
is_waiting-entering Preparing Waiting h = refl
is_waiting-entering Preparing Ready h = refl
is_waiting-entering Preparing Done h = refl
is_waiting-entering Preparing LetGo h = refl
is_waiting-entering Preparing Failed h = refl
is_waiting-entering Preparing Excused h = (cc)
is_waiting-entering Decided Waiting h = refl
is_waiting-entering Decided Ready h = refl
is_waiting-entering Decided Done h = refl
is_waiting-entering Decided LetGo h = refl
is_waiting-entering Decided Failed h = refl
is_waiting-entering Decided Excused h = (cc)
is_waiting-entering (Cancelling r) Waiting h = refl
is_waiting-entering (Cancelling r) Ready h = refl
is_waiting-entering (Cancelling r) Done h = refl
is_waiting-entering (Cancelling r) LetGo h = refl
is_waiting-entering (Cancelling r) Failed h = refl
is_waiting-entering (Cancelling r) Excused h = (cc)

-- ---- the devices stay

pub devices_of-with_answer : (d : ℕ) (x : Answer) (answers : List DeviceAnswer)
    → devices_of (with_answer d x answers) ≡ devices_of answers
devices_of-with_answer d x [] = refl
devices_of-with_answer d x (y ∷ ys) = ap (λ ds. y.device ∷ ds) (devices_of-with_answer d x ys)

pub devices_of-entered : (s : Stage) (answers : List DeviceAnswer)
    → devices_of (answers_on_entry s answers) ≡ devices_of answers
devices_of-entered s [] = refl
devices_of-entered s (y ∷ ys) = ap (λ ds. y.device ∷ ds) (devices_of-entered s ys)

pub devices_of-first_answers : (parts : List Part) → devices_of (first_answers parts) ≡ devices_in parts
devices_of-first_answers [] = refl
devices_of-first_answers (p ∷ ps) = ap (λ ds. p.device ∷ ds) (devices_of-first_answers ps)

-- ---- and so does who is required

pub has_required-with_answer : (d : ℕ) (x : Answer) (answers : List DeviceAnswer)
    → has_required (with_answer d x answers) ≡ has_required answers
has_required-with_answer d x [] = refl
has_required-with_answer d x (y ∷ ys) = ap (λ b. is_required y || b) (has_required-with_answer d x ys)

pub has_required-entered : (s : Stage) (answers : List DeviceAnswer)
    → has_required (answers_on_entry s answers) ≡ has_required answers
has_required-entered s [] = refl
has_required-entered s (y ∷ ys) = ap (λ b. is_required y || b) (has_required-entered s ys)

pub has_required-first_answers : (parts : List Part) → has_required (first_answers parts) ≡ has_required_part parts
has_required-first_answers [] = refl
has_required-first_answers (p ∷ ps) = ap (λ b. not p.optional || b) (has_required-first_answers ps)

-- ---- each answer may stand

-- the answer x of the device d excuses no required device
abbrev pub excuses_none : ℕ → Answer → List DeviceAnswer → Bool
excuses_none d x answers = list_all (λ y. not (nat_eq y.device d && (is_required y && is_excused x))) answers

not_all_three : (a b c : Bool) → IsTrue (not c) → IsTrue (not (a && (b && c)))
not_all_three true true true h = h
not_all_three true true false h = refl
not_all_three true false c h = refl
not_all_three false b c h = refl

pub excuses_none-other : (d : ℕ) (x : Answer) (answers : List DeviceAnswer) → IsTrue (not (is_excused x))
    → IsTrue (excuses_none d x answers)
excuses_none-other d x [] h = refl
excuses_none-other d x (y ∷ ys) h =
    join (not (nat_eq y.device d && (is_required y && is_excused x))) (excuses_none d x ys)
    (not_all_three (nat_eq y.device d) (is_required y) (is_excused x) h) (excuses_none-other d x ys h)

pub all_stand-with_answer : (s : Stage) (d : ℕ) (x : Answer) (answers : List DeviceAnswer) → IsTrue (is_known_in s x)
    → IsTrue (excuses_none d x answers)
    → IsTrue (list_all (may_be_in s) answers) → IsTrue (list_all (may_be_in s) (with_answer d x answers))
all_stand-with_answer s d x answers known none h =
    all_map (may_be_in s) (answers_with d x) answers
    (all_given (may_be_in s) (λ y. not (nat_eq y.device d && (is_required y && is_excused x)))
    (λ y. may_be_in s (answers_with d x y))
    (λ y k n. cond_both (nat_eq y.device d) x y.answer
    (λ z. IsTrue (is_known_in s z && not (is_required y && is_excused z)))
    (λ e. join (is_known_in s x) (not (is_required y && is_excused x)) known (rw e at n)) (λ e. k)) answers h none)

pub all_stand-entered : (s t : Stage) (answers : List DeviceAnswer) → IsTrue (list_all (may_be_in s) answers)
    → IsTrue (list_all (may_be_in t) (answers_on_entry t answers))
all_stand-entered s t [] h = refl
all_stand-entered s t (y ∷ ys) h =
    let k : IsTrue (may_be_in s y) × IsTrue (list_all (may_be_in s) ys) =
    both (may_be_in s y) (list_all (may_be_in s) ys) h in
    let fits : IsTrue (is_known_in s y.answer) × IsTrue (not (is_required y && is_excused y.answer)) =
    both (is_known_in s y.answer) (not (is_required y && is_excused y.answer)) k.0 in
    join (may_be_in t (enters t y)) (list_all (may_be_in t) (answers_on_entry t ys))
    (may_be_in-entering t (is_required y) y.answer fits.1) (all_stand-entered s t ys k.1)

may_be_in-first_answer : (required : Bool) → IsTrue (not (required && false))
may_be_in-first_answer true = refl
may_be_in-first_answer false = refl

pub all_stand-first_answers : (parts : List Part) → IsTrue (list_all (may_be_in Preparing) (first_answers parts))
all_stand-first_answers [] = refl
all_stand-first_answers (p ∷ ps) = rw (may_be_in-first_answer (not p.optional)) (all_stand-first_answers ps)

-- ---- some device is still to answer

required-waits : (t : Stage) (required : Bool) (x : Answer) → IsTrue (not (required && is_excused x)) → IsTrue required
    → IsTrue (is_waiting (entering t x))
required-waits t true x h k = is_waiting-entering t x h
required-waits t false x h k = (cc)

pub some_waits-entered : (s t : Stage) (answers : List DeviceAnswer) → IsTrue (has_required answers)
    → IsTrue (list_all (may_be_in s) answers) → IsTrue (some_waits (answers_on_entry t answers))
some_waits-entered s t [] some h = some
some_waits-entered s t (y ∷ ys) some h =
    let k : IsTrue (may_be_in s y) × IsTrue (list_all (may_be_in s) ys) =
    both (may_be_in s y) (list_all (may_be_in s) ys) h in
    let fits : IsTrue (is_known_in s y.answer) × IsTrue (not (is_required y && is_excused y.answer)) =
    both (is_known_in s y.answer) (not (is_required y && is_excused y.answer)) k.0 in
    ⊎_elim
    (λ (r : is_required y ≡ true). or_left (is_waiting (entering t y.answer)) (some_waits (answers_on_entry t ys))
    (required-waits t (is_required y) y.answer fits.1 r))
    (λ (r : has_required ys ≡ true). or_right (is_waiting (entering t y.answer)) (some_waits (answers_on_entry t ys))
    (some_waits-entered s t ys r k.1))
    (or_cases (is_required y) (has_required ys) some)
