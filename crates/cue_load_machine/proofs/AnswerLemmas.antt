-- What was replied.
use Rattle.std.proofs.Common.{◌≡◌, List, [], ◌∷◌, ◌++◌, Option, Some, sym, ap, ◌∙◌, subst, append_assoc, append-nil}
use Rattle.cue_desk.specs.declared.answered.Answered.{Answered}
use Rattle.cue_desk.specs.declared.replying.Replied.{Replied}
use Rattle.cue_desk.specs.Answered.{Tells}
use Rattle.cue_load_machine.specs.Answering.{AreAnswers, PushesAnswers}

pub pushed_none : (old : List Answered) → PushesAnswers old [] old
pushed_none old = record { added = []; all = sym (append-nil old); are = tt }

pub pushed_more : (old mid new : List Answered) (r : Replied) (told : List (Option Replied)) (a : Answered)
    → mid ≡ old ++ a ∷ [] → Tells r a → PushesAnswers mid told new → PushesAnswers old (Some r ∷ told) new
pushed_more old mid new r told a e tells h = record {
  added = a ∷ h.added;
  all = h.all ∙ (ap (λ (xs : List Answered). xs ++ h.added) e ∙ append_assoc old (a ∷ []) h.added);
  are = (tells, h.are);
}

pub are_answers : (old new : List Answered) (told : List (Option Replied)) → old ≡ [] → PushesAnswers old told new
    → AreAnswers told new
are_answers old new told none h =
    let all : h.added ≡ new = sym (h.all ∙ ap (λ (xs : List Answered). xs ++ h.added) none) in
    subst (λ (xs : List Answered). AreAnswers told xs) all h.are
