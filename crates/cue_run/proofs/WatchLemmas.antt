-- What a watch was shown by a group, and by groups in turn.
use Rattle.std.proofs.Common.{◌≡◌, ℕ, suc, ◌+◌, List, [], ◌∷◌, ◌++◌, length, Option, Some, None, refl, sym, ap, ◌∙◌}
use Rattle.std.proofs.Common.{append-nil, append_assoc, length-append, arith}
use Rattle.cue_core.specs.declared.event.Event.{Event}
use Rattle.cue_core.specs.State.{ShowState}
use Rattle.cue_core.specs.Steps.{after_events}
use Rattle.cue_keeper.specs.Stands.{folded_all}
use Rattle.cue_engine.specs.Given.{Input, given_of}
use Rattle.cue_engine.specs.Groups.{batches_given}
use Rattle.cue_run.specs.Watching.{Saw, ShowedEach, Showed}

-- nothing was shown yet
pub saw_none : (seen : Option (List (List Event))) → Saw seen [] seen
saw_none None = tt
saw_none (Some seen) = sym (append-nil seen)

-- some looks, and then others
pub saw_more : (old mid new : Option (List (List Event))) (xs ys : List (List Event)) → Saw old xs mid → Saw mid ys new
    → Saw old (xs ++ ys) new
saw_more old mid None xs ys first more = tt
saw_more old None (Some new) xs ys first more = absurd more
saw_more None (Some mid) (Some new) xs ys first more = absurd first
saw_more (Some old) (Some mid) (Some new) xs ys first more =
    more ∙ (ap (λ l. l ++ ys) first ∙ append_assoc old xs ys)

folded_both : (s : ShowState) (xs ys : List (List Event)) → folded_all s (xs ++ ys) ≡ folded_all (folded_all s xs) ys
folded_both s [] ys = refl
folded_both s (x ∷ xs) ys = folded_both (after_events s x) xs ys

-- as many batches as inputs
pub batch_of_each : (s : ShowState) (is : List (ℕ × Input)) → length (batches_given s is) ≡ length is
batch_of_each s [] = refl
batch_of_each s (i ∷ is) = ap suc (batch_of_each (after_events s (given_of s i.0 i.1).batch) is)

-- no input was taken
pub showed_none : {turns : ℕ} (seen : Option (List (List Event))) {s s_then : ShowState} → turns ≡ 0 → s_then ≡ s
    → ShowedEach turns seen s s_then seen
showed_none seen none same = record { looks = []; each = sym none; saw = saw_none seen; made = same }

-- a run begins with a look that has no events
pub showed_first : {seen mid : Option (List (List Event))} {s s_then : ShowState} → s_then ≡ s → Saw seen ([] ∷ []) mid
    → Showed 0 seen s s_then mid
showed_first same saw = record { looks = [] ∷ []; each = omega arith; one_more = omega arith; saw = saw; made = same }

-- nothing was shown, and nothing taken
pub showed_nothing : (seen : Option (List (List Event))) {s s_then : ShowState} → s_then ≡ s → Showed 0 seen s s_then seen
showed_nothing seen same =
    record { looks = []; each = omega arith; one_more = omega arith; saw = saw_none seen; made = same }

-- and goes on with a round
pub showed_more : {turns more : ℕ} {seen mid seen_then : Option (List (List Event))} {s s_mid s_then : ShowState}
    → Showed turns seen s s_mid mid → ShowedEach more mid s_mid s_then seen_then
    → Showed (turns + more) seen s s_then seen_then
showed_more {turns} {more} {seen} {mid} {seen_then} {s} first then =
    let both = length-append first.looks then.looks in
    record {
      looks = first.looks ++ then.looks;
      each = omega (arith, both, first.each, then.each);
      one_more = omega (arith, both, first.one_more, then.each);
      saw = saw_more seen mid seen_then first.looks then.looks first.saw then.saw;
      made =
          then.made ∙ (ap (λ t. folded_all t then.looks) first.made ∙ sym (folded_both s first.looks then.looks));
    }
