-- A plan that is cut off.
use Rattle.std.proofs.Common.{List, [], ◌∷◌, ◌++◌, Option, None, Some, refl}
use Rattle.std.specs.Prelude.{IsTrue, is_some, option_and_then}
use Rattle.std.proofs.lemmas.Bool.{false≢true}
use Rattle.cue_show.specs.Show.{ShowLists}
use Rattle.cue_loading.specs.Steps.{EachIsTaken, after_step, after_steps}
use Rattle.cue_loading.specs.declared.step.Step.{Step}

pub each_is_taken : EachIsTaken
each_is_taken s [] after h = refl
each_is_taken s (x ∷ xs) after h = at (after_step s x) (λ t k. each_is_taken t xs after k) h
  where
    at : (o : Option ShowLists)
        → ((t : ShowLists) → IsTrue (is_some (after_steps t (xs ++ after))) → IsTrue (is_some (after_steps t xs)))
        → IsTrue (is_some (option_and_then (λ t. after_steps t (xs ++ after)) o))
        → IsTrue (is_some (option_and_then (λ t. after_steps t xs) o))
    at None more k = absurd (false≢true k)
    at (Some t) more k = more t k
