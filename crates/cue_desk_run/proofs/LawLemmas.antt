-- What no round of a desk sends.
use Rattle.std.proofs.Common.{◌≡◌, refl, subst, ◌⊎◌, inl, inr, List, [], ◌∷◌, length, Option, None, Some, arith}
use Rattle.cue_desk.specs.declared.orders.DeskCommand.TheVariants as order
use Rattle.cue_station.specs.declared.heard.Heard.{Heard}
use Rattle.cue_station.specs.declared.heard.Input.{Input}
use Rattle.cue_station.specs.declared.heard.Send.{Send}
use Rattle.cue_station.specs.declared.station.Station.{Station}
use Rattle.cue_station.specs.declared.station.Step.{Step}
use Rattle.cue_station.specs.Evening.{turns_with}
use Rattle.cue_station.specs.Laws.{Keeps, KeepsLaw}
use Rattle.cue_station.specs.Memory.{IsAfter, turn_of}
use Rattle.cue_station.specs.Pressing.{IsOfPress}
use Rattle.cue_station.specs.Turns.{Turn}
use Rattle.cue_desk_run.specs.declared.outlet.Outlet.{Outlet}
use Rattle.cue_desk_run.specs.Laws.{AreQuestions, IsQuestion, OnlyAsks}
use Rattle.cue_desk_run.specs.Leaving.{OnlySends}
use Rattle.cue_desk_run.specs.Working.{AreUnpressed, IsUnpressed}

-- the law of an evening is that of its beginning
law-before : (past : List Turn) (heard : List Input) (steps : List Step) → length steps ≡ length heard
    → KeepsLaw (turns_with past heard steps) → KeepsLaw past
law-before past [] [] e law = law
law-before past [] (s ∷ steps) e law = law
law-before past (i ∷ heard) [] e law = law
law-before past (i ∷ heard) (s ∷ steps) e law =
    (law-before (turn_of i s ∷ past) heard steps (omega arith) law).1

-- what is sent for something that is no press is a question
asked : (past : List Turn) (i : Input) (s : Step) (sent : Send) → IsUnpressed i.heard
    → (sent.order ≡ order.Status) ⊎ IsOfPress (turn_of i s) past sent → sent.order ≡ order.Status
asked past i s sent u (inl e) = e
asked past i s sent u (inr press) = absurd (subst (λ (h : Heard). IsUnpressed h) press.pressed u)

question : (past : List Turn) (i : Input) (s : Step) (o : Option Send) → s.send ≡ o → IsUnpressed i.heard
    → Keeps (turn_of i s) past → IsQuestion o
question past i s None e u keeps = tt
question past i s (Some sent) e u keeps = asked past i s sent u (keeps.press.sent sent e)

all-questions : (past : List Turn) (heard : List Input) (steps : List Step) → length steps ≡ length heard
    → AreUnpressed heard → KeepsLaw (turns_with past heard steps) → AreQuestions steps
all-questions past [] [] e u law = tt
all-questions past [] (s ∷ steps) e u law = absurd (omega arith)
all-questions past (i ∷ heard) [] e u law = tt
all-questions past (i ∷ heard) (s ∷ steps) e u law = (
  question past i s s.send refl u.0 (law-before (turn_of i s ∷ past) heard steps (omega arith) law).0,
  all-questions (turn_of i s ∷ past) heard steps (omega arith) u.1 law,
)

pub only_asks : (old new : Station) (o o_then : Outlet) (sends : OnlySends old new o o_then) (past : List Turn)
    → KeepsLaw past → IsAfter past old → OnlyAsks o o_then
only_asks old new o o_then sends past law after =
    let played = sends.plays past law after in
    record {
      steps = sends.steps;
      questions = all-questions past sends.heard sends.steps played.each sends.unpressed played.law;
      sends = sends.sends;
    }
