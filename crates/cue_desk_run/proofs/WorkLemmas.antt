-- What a desk heard, one thing after the other.
use Rattle.std.proofs.Common.{◌≡◌, refl, sym, ap, ◌∙◌, subst, ◌+◌, ℕ, Bool, true, false, List, [], ◌∷◌, ◌++◌, length, arith}
use Rattle.std.proofs.Common.{length-append, Option, Result, Ok, Err, IfOk, OnErr}
use Rattle.cue_station.specs.declared.heard.Heard.{Heard}
use Rattle.cue_station.specs.declared.heard.Heard.TheVariants as heard
use Rattle.cue_station.specs.declared.heard.Input.{Input}
use Rattle.cue_station.specs.declared.heard.Send.{Send}
use Rattle.cue_station.specs.declared.station.Station.{Station}
use Rattle.cue_station.specs.declared.station.Step.{Step}
use Rattle.cue_view.specs.declared.view.View.{View}
use Rattle.cue_station.specs.Evening.{Plays, turns_with}
use Rattle.cue_station.specs.Laws.{KeepsLaw}
use Rattle.cue_station.specs.declared.memory.Notes.{Notes}
use Rattle.cue_station.specs.declared.memory.Reading.{Reading}
use Rattle.cue_station.specs.declared.memory.Relayed.{Relayed}
use Rattle.cue_station.specs.declared.memory.Seen.{Seen}
use Rattle.cue_station.specs.declared.memory.Shown.{Shown}
use Rattle.cue_view.specs.declared.view.Told.{Told}
use Rattle.cue_station.specs.Memory.{IsAfter, IsKept, StepKeeps, turn_of}
use Rattle.cue_station.specs.Stepping.{IsSame}
use Rattle.cue_station.specs.Turns.{Turn}
use Rattle.cue_desk_run.specs.Readings.{IsOf}
use Rattle.cue_view.specs.declared.button.Button.{Button}
use Rattle.cue_desk_run.specs.Working.{AreFor, AreUnpressed, Hears, HearsFor, HearsIf, IsFor, IsUnpressed, IsUntouched}
use Rattle.cue_desk_run.specs.Working.{OnlyLooks, Stays}

turns-then : (past : List Turn) (first : List Input) (steps : List Step) (more : List Input) (others : List Step)
    → length steps ≡ length first
    → turns_with past (first ++ more) (steps ++ others) ≡ turns_with (turns_with past first steps) more others
turns-then past [] [] more others e = refl
turns-then past [] (s ∷ steps) more others e = absurd (omega arith)
turns-then past (i ∷ first) [] more others e = absurd (omega arith)
turns-then past (i ∷ first) (s ∷ steps) more others e =
    turns-then (turn_of i s ∷ past) first steps more others (omega arith)

pub plays-then : (old mid new : Station) (first : List Input) (steps : List Step) (more : List Input) (others : List Step)
    → Plays old first steps mid → Plays mid more others new → Plays old (first ++ more) (steps ++ others) new
plays-then old mid new first steps more others p q = λ past law after.
    let a = p past law after in
    let b = q (turns_with past first steps) a.law a.after in
    let e = turns-then past first steps more others a.each in
    let each : length (steps ++ others) ≡ length (first ++ more) =
    length-append steps others ∙ ap (λ n. n + length others) a.each ∙ ap (λ n. length first + n) b.each
    ∙ sym (length-append first more) in
    record {
      each = each;
      law = subst KeepsLaw (sym e) b.law;
      after = subst (λ ts. IsAfter ts new) (sym e) b.after;
    }

pub unpressed-both : (first more : List Input) → AreUnpressed first → AreUnpressed more → AreUnpressed (first ++ more)
unpressed-both [] more p q = q
unpressed-both (i ∷ first) more p q = (p.0, unpressed-both first more p.1 q)

-- what is kept, whichever way it is told
kept-as : (turns : List Turn) (n p : Notes) → p ≡ n → (r o : Option Reading) → o ≡ r → (x y : Option Relayed) → y ≡ x
    → (s t : List Seen) → t ≡ s → (l m : List Told) → m ≡ l → (v w : List Shown) → w ≡ v
    → IsKept turns n r x s l v → IsKept turns p o y t m w
kept-as turns n p en r o er x y ex s t es l m el v w ev k =
    subst (λ a. IsKept turns a o y t m w) (sym en)
    (subst (λ a. IsKept turns n a y t m w) (sym er)
    (subst (λ a. IsKept turns n r a t m w) (sym ex)
    (subst (λ a. IsKept turns n r x a m w) (sym es)
    (subst (λ a. IsKept turns n r x s a w) (sym el)
    (subst (λ a. IsKept turns n r x s l a) (sym ev) k)))))

pub plays-same : (old new : Station) → IsSame old new → Plays old [] [] new
plays-same old new same = λ past law after.
    record {
      each = refl;
      law = law;
      after = kept-as past old.notes new.notes same.notes old.reading new.reading same.reading old.relay new.relay
          same.relay old.seen.items new.seen.items same.seen old.failed.items new.failed.items same.failed
          old.views.items new.views.items same.views after;
    }

pub plays-none : (s : Station) → Plays s [] [] s
plays-none s = λ past law after. record { each = refl; law = law; after = after }

pub plays-one : (old new : Station) (i : Input) (s : Step) → StepKeeps old i new s → Plays old (i ∷ []) (s ∷ []) new
plays-one old new i s k = λ past law after.
    record { each = refl; law = ((k past after).0, law); after = (k past after).1 }

-- its machine is as it was
looks-same : (old new : Station) → IsSame old new → OnlyLooks old new
looks-same old new same = record { heard = []; steps = []; unpressed = tt; plays = plays-same old new same }

-- it heard nothing
pub looks_none : (s : Station) → OnlyLooks s s
looks_none s = record { heard = []; steps = []; unpressed = tt; plays = plays-none s }

-- it heard one thing that is no press
pub looks_one : (h : Heard) (old new : Station) (v : View) → IsUnpressed h → Hears h old new v → OnlyLooks old new
looks_one h old new v u hears =
    let i : Input = record { at = hears.at; wall = hears.wall; heard = h } in
    let s : Step = record { view = v; send = hears.send } in
    record {
      heard = i ∷ [];
      steps = s ∷ [];
      unpressed = (u, tt);
      plays = plays-one old new i s hears.keeps;
    }

-- or could not hear it
looks-if : (b : Bool) (h : Heard) (old new : Station) (v v_then : View) → IsUnpressed h
    → HearsIf b h old new v v_then → OnlyLooks old new
looks-if true h old new v v_then u hears = looks_one h old new v_then u hears
looks-if false h old new v v_then u hears = looks-same old new hears.0

-- or there was no moment for it
pub looks_by : {E : Type 0} (r : Result Bool E) (h : Heard) (old new : Station) (v v_then : View) → IsUnpressed h
    → IfOk r (λ b. HearsIf b h old new v v_then) → OnErr r (new ≡ old) → OnlyLooks old new
looks_by (Ok b) h old new v v_then u p q = looks-if b h old new v v_then u p
looks_by (Err e) h old new v v_then u p q = subst (λ s. OnlyLooks old s) (sym q) (looks_none old)

-- one after the other
pub looks_then : (old mid new : Station) → OnlyLooks old mid → OnlyLooks mid new → OnlyLooks old new
looks_then old mid new a b =
    record {
      heard = a.heard ++ b.heard;
      steps = a.steps ++ b.steps;
      unpressed = unpressed-both a.heard b.heard a.unpressed b.unpressed;
      plays = plays-then old mid new a.heard a.steps b.heard b.steps a.plays b.plays;
    }

-- the first step is no press
pub untouched : (first new : Station) (i : Input) (s : Step) → IsAfter [] first → IsUnpressed i.heard
    → StepKeeps first i new s → IsUntouched new
untouched first new i s a u k =
    record {
      first = first;
      new = a;
      looks = record {
        heard = i ∷ [];
        steps = s ∷ [];
        unpressed = (u, tt);
        plays = plays-one first new i s k;
      };
    }

-- what is heard of the store is no press
pub of_store : (begun : ℕ) (h : Heard) → IsOf begun h → IsUnpressed h
of_store begun (heard.Copied c) p = tt
of_store begun (heard.Same at) p = tt
of_store begun (heard.Unread why) p = tt
of_store begun (heard.Replied ask r) p = tt
of_store begun (heard.Nobody ask) p = tt
of_store begun (heard.Pressed view b) p = absurd p
of_store begun (heard.Relay status) p = tt
of_store begun (heard.Kept kept) p = tt
of_store begun heard.Tick p = tt

-- the step of what was heard, whose view is shown
pub hears_as : (h : Heard) (at wall : ℕ) (send : Option Send) (old mid new : Station) (v v_then : View) → new ≡ mid
    → v_then ≡ v
    → StepKeeps old (record { at = at; wall = wall; heard = h }) mid (record { view = v; send = send })
    → Hears h old new v_then
hears_as h at wall send old mid new v v_then e f k =
    let i : Input = record { at = at; wall = wall; heard = h } in
    record {
      at = at;
      wall = wall;
      send = send;
      keeps = subst (λ (s : Station). StepKeeps old i s (record { view = v_then; send = send })) (sym e)
          (subst (λ (w : View). StepKeeps old i mid (record { view = w; send = send })) (sym f) k);
    }

-- ---- presses for a reason

unpressed-for : (reason : ℕ → Button → Type 0) (h : Heard) → IsUnpressed h → IsFor reason h
unpressed-for reason (heard.Copied c) u = tt
unpressed-for reason (heard.Same at) u = tt
unpressed-for reason (heard.Unread why) u = tt
unpressed-for reason (heard.Replied ask r) u = tt
unpressed-for reason (heard.Nobody ask) u = tt
unpressed-for reason (heard.Pressed view b) u = absurd u
unpressed-for reason (heard.Relay status) u = tt
unpressed-for reason (heard.Kept kept) u = tt
unpressed-for reason heard.Tick u = tt

all-unpressed-for : (reason : ℕ → Button → Type 0) (all : List Input) → AreUnpressed all → AreFor reason all
all-unpressed-for reason [] u = tt
all-unpressed-for reason (i ∷ more) u = (unpressed-for reason i.heard u.0, all-unpressed-for reason more u.1)

for-both : (reason : ℕ → Button → Type 0) (first more : List Input) → AreFor reason first → AreFor reason more
    → AreFor reason (first ++ more)
for-both reason [] more p q = q
for-both reason (i ∷ first) more p q = (p.0, for-both reason first more p.1 q)

-- it heard no press
pub for_looks : (reason : ℕ → Button → Type 0) (old new : Station) → OnlyLooks old new → HearsFor reason old new
for_looks reason old new looks =
    record {
      heard = looks.heard;
      steps = looks.steps;
      reasons = all-unpressed-for reason looks.heard looks.unpressed;
      plays = looks.plays;
    }

-- it heard nothing
pub for_none : (reason : ℕ → Button → Type 0) (s : Station) → HearsFor reason s s
for_none reason s = for_looks reason s s (looks_none s)

-- it heard this press, for which there is a reason, or could not hear it
pub for_if : (reason : ℕ → Button → Type 0) (b : Bool) (view : ℕ) (button : Button) (old new : Station)
    (v v_then : View) → reason view button → HearsIf b (heard.Pressed view button) old new v v_then → HearsFor reason old new
for_if reason true view button old new v v_then why hears =
    let i : Input = record { at = hears.at; wall = hears.wall; heard = heard.Pressed view button } in
    let s : Step = record { view = v_then; send = hears.send } in
    record {
      heard = i ∷ [];
      steps = s ∷ [];
      reasons = (why, tt);
      plays = plays-one old new i s hears.keeps;
    }
for_if reason false view button old new v v_then why hears = for_looks reason old new (looks-same old new hears.0)

-- all is as it was
pub for_stays : (reason : ℕ → Button → Type 0) (old new : Station) (v v_then : View) → Stays old new v v_then
    → HearsFor reason old new
for_stays reason old new v v_then stays =
    subst (λ (s : Station). HearsFor reason old s) (sym stays.0) (for_none reason old)

-- one after the other
pub for_then : (reason : ℕ → Button → Type 0) (old mid new : Station) → HearsFor reason old mid
    → HearsFor reason mid new → HearsFor reason old new
for_then reason old mid new a b =
    record {
      heard = a.heard ++ b.heard;
      steps = a.steps ++ b.steps;
      reasons = for-both reason a.heard b.heard a.reasons b.reasons;
      plays = plays-then old mid new a.heard a.steps b.heard b.steps a.plays b.plays;
    }
