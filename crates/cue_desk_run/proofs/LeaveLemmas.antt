-- What leaves a desk, one thing after the other.
use Rattle.std.proofs.Common.{◌≡◌, refl, sym, ap, ◌∙◌, subst, inl, inr, ℕ, Bool, true, false, if◌then◌else◌, List, [], ◌∷◌}
use Rattle.std.proofs.Common.{◌++◌, Option, Some, is_some, Result, Ok, Err, IfOk, OnErr, OnOk}
use Rattle.std.specs.declared.io.Error.{Error}
use Rattle.cue_ask_machine.specs.declared.letters.Letter.{Letter}
use Rattle.cue_ask_machine.specs.Letters.{IsLetterOf}
use Rattle.cue_desk.specs.Together.{companions_of}
use Rattle.cue_show_file.specs.declared.together.Group.{Group}
use Rattle.cue_station.specs.declared.heard.Heard.{Heard}
use Rattle.cue_station.specs.declared.heard.Input.{Input}
use Rattle.cue_station.specs.declared.heard.Send.{Send}
use Rattle.cue_station.specs.declared.station.Station.{Station}
use Rattle.cue_station.specs.declared.station.Step.{Step}
use Rattle.cue_station.specs.Memory.{IsAfter, StepKeeps}
use Rattle.cue_station.specs.Stepping.{IsSame}
use Rattle.cue_view.specs.declared.view.View.{View}
use Rattle.cue_desk_run.proofs.WorkLemmas.{plays-none, plays-one, plays-same, plays-then, unpressed-both}
use Rattle.cue_desk_run.specs.declared.failing.Tries.{Tries}
use Rattle.cue_desk_run.specs.declared.outlet.Outlet.{Outlet}
use Rattle.cue_desk_run.specs.Failing.{Fails, noted}
use Rattle.cue_desk_run.specs.Leaving.{Begins, HearsSending, IsFirstStep, IsUnused, LeavesOrFails, LetterLeaves}
use Rattle.cue_desk_run.specs.Leaving.{MessageLeaves, NothingLeaves, OnlySends, Sends, SendsAll, SendsIf}
use Rattle.cue_desk_run.specs.Working.{IsUnpressed}

-- ---- one letter

-- the message is that of the letter
pub message_as : (message said : List ℕ) (old new : Outlet) → said ≡ message → MessageLeaves said old new
    → MessageLeaves message old new
message_as message said old new e leaves = subst (λ m. MessageLeaves m old new) e leaves

-- the letter for what the machine says to send left
pub letter_leaves : (s : Send) (l : Letter) (groups : List Group) (old mid new : Outlet) → mid ≡ old
    → groups ≡ mid.way.together.now → l.number ≡ s.ask → IsLetterOf s.order (companions_of groups s.order) l
    → MessageLeaves l.message.items mid new → LetterLeaves s old new
letter_leaves s l groups old mid new e same number words leaves =
    subst (λ (o : Outlet). LetterLeaves s o new) e (record {
      letter = l;
      is_for = record {
        number = number;
        words = subst (λ gs. IsLetterOf s.order (companions_of gs s.order) l) same words;
      };
      leaves = leaves;
    })

-- what became of it is noted
noted-left : (s : Send) (old mid new : Outlet) → LetterLeaves s old mid → NothingLeaves mid new → LetterLeaves s old new
noted-left s old mid new left nothing =
    record {
      letter = left.letter;
      is_for = left.is_for;
      leaves = record {
        way = nothing.way ∙ left.leaves.way;
        count = nothing.count ∙ left.leaves.count;
        newest = ap (λ v. v.items) nothing.newest ∙ left.leaves.newest;
      };
    }

fails : (why : Error) (old new : Tries) → new ≡ noted (Err why) old → Fails old new
fails why old new e =
    record {
      failed = ap (λ (t : Tries). t.has_failed) e;
      kept = λ fine. ap (λ (t : Tries). is_some t.fault) e
          ∙ ap (λ (b : Bool). is_some (if b then old.fault else Some why)) fine;
    }

-- it left, or could not, and that is noted
pub left_or_failed : (s : Send) (posted : Result (Unit {0}) Error) (old mid new : Outlet)
    → OnOk posted (LetterLeaves s old mid) → OnErr posted (mid ≡ old) → NothingLeaves mid new
    → new.tries ≡ noted posted mid.tries → LeavesOrFails s old new
left_or_failed s (Ok done) old mid new left lost nothing e =
    inl (noted-left s old mid new left nothing, ap (λ (t : Tries). t.has_failed) e)
left_or_failed s (Err why) old mid new left lost nothing e =
    subst (λ (o : Outlet). LeavesOrFails s o new) lost (inr (nothing, fails why mid.tries new.tries e))

-- ---- one thing that is heard

-- the step of what was heard, whose view is shown and whose message was sent
pub hears_sending : (h : Heard) (at wall : ℕ) (send : Option Send) (old mid new : Station) (v v_then : View)
    (o o_mid o_then : Outlet) → new ≡ mid → v_then ≡ v → o_mid ≡ o
    → StepKeeps old (record { at = at; wall = wall; heard = h }) mid (record { view = v; send = send })
    → Sends send o_mid o_then → HearsSending h old new v_then o o_then
hears_sending h at wall send old mid new v v_then o o_mid o_then e f same k sends =
    let i : Input = record { at = at; wall = wall; heard = h } in
    record {
      at = at;
      wall = wall;
      send = send;
      keeps = subst (λ (s : Station). StepKeeps old i s (record { view = v_then; send = send })) (sym e)
          (subst (λ (w : View). StepKeeps old i mid (record { view = w; send = send })) (sym f) k);
      sends = subst (λ (x : Outlet). Sends send x o_then) same sends;
    }

-- ---- one thing after the other

all-then : (first more : List Step) (o mid o_then : Outlet) → SendsAll first o mid → SendsAll more mid o_then
    → SendsAll (first ++ more) o o_then
all-then [] more o mid o_then p q = subst (λ (x : Outlet). SendsAll more x o_then) p q
all-then (s ∷ first) more o mid o_then p q = (p.0, (p.1.0, all-then first more p.0 mid o_then p.1.1 q))

-- it heard nothing
pub sends_none : (s : Station) (o : Outlet) → OnlySends s s o o
sends_none s o = record { heard = []; steps = []; unpressed = tt; plays = plays-none s; sends = refl }

-- it heard one thing that is no press
pub sends_one : (h : Heard) (old new : Station) (v : View) (o o_then : Outlet) → IsUnpressed h
    → HearsSending h old new v o o_then → OnlySends old new o o_then
sends_one h old new v o o_then u hears =
    let i : Input = record { at = hears.at; wall = hears.wall; heard = h } in
    let s : Step = record { view = v; send = hears.send } in
    record {
      heard = i ∷ [];
      steps = s ∷ [];
      unpressed = (u, tt);
      plays = plays-one old new i s hears.keeps;
      sends = (o_then, (hears.sends, refl));
    }

-- its machine is as it was, and nothing left
sends-same : (old new : Station) (o o_then : Outlet) → IsSame old new → o_then ≡ o → OnlySends old new o o_then
sends-same old new o o_then same e =
    record { heard = []; steps = []; unpressed = tt; plays = plays-same old new same; sends = e }

sends-if : (b : Bool) (h : Heard) (old new : Station) (v v_then : View) (o o_then : Outlet) → IsUnpressed h
    → SendsIf b h old new v v_then o o_then → OnlySends old new o o_then
sends-if true h old new v v_then o o_then u hears = sends_one h old new v_then o o_then u hears
sends-if false h old new v v_then o o_then u rests = sends-same old new o o_then rests.0 rests.1.1

-- it heard it, or could not, or there was no moment for it
pub sends_by : {E : Type 0} (r : Result Bool E) (h : Heard) (old new : Station) (v v_then : View)
    (o o_then : Outlet) → IsUnpressed h → IfOk r (λ b. SendsIf b h old new v v_then o o_then) → OnErr r (new ≡ old)
    → OnErr r (o_then ≡ o) → OnlySends old new o o_then
sends_by (Ok b) h old new v v_then o o_then u p q n = sends-if b h old new v v_then o o_then u p
sends_by (Err e) h old new v v_then o o_then u p q n =
    subst (λ (s : Station). OnlySends old s o o_then) (sym q)
    (subst (λ (x : Outlet). OnlySends old old o x) (sym n) (sends_none old o))

-- one after the other
pub sends_then : (old mid new : Station) (o o_mid o_then : Outlet) → OnlySends old mid o o_mid
    → OnlySends mid new o_mid o_then → OnlySends old new o o_then
sends_then old mid new o o_mid o_then a b =
    record {
      heard = a.heard ++ b.heard;
      steps = a.steps ++ b.steps;
      unpressed = unpressed-both a.heard b.heard a.unpressed b.unpressed;
      plays = plays-then old mid new a.heard a.steps b.heard b.steps a.plays b.plays;
      sends = all-then a.steps b.steps o o_mid o_then a.sends b.sends;
    }

-- the first step of a desk, by a way out that is new
pub begins : (first s : Station) (step : Step) (fresh o : Outlet) → IsAfter [] first → IsFirstStep first s step
    → IsUnused fresh → Sends step.send fresh o → Begins s o
begins first s step fresh o after is_first unused sends =
    record {
      first = first;
      new = after;
      fresh = fresh;
      unused = unused;
      sends = record {
        heard = is_first.input ∷ [];
        steps = step ∷ [];
        unpressed = is_first.unpressed;
        plays = plays-one first s is_first.input step is_first.keeps;
        sends = (o, (sends, refl));
      };
    }
