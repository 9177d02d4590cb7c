-- Texts that grow.
use Rattle.std.proofs.Common.{◌≡◌, ◌++◌, ◌∙◌, ℕ, List, [], ap, append-nil, append_assoc, sym}
use Rattle.cue_report.specs.Telling.{Grows}

pub grows_none : (text new : List ℕ) → new ≡ text → Grows text new
grows_none text new same = ([], same ∙ sym (append-nil text))

pub grows_then : (a b c : List ℕ) → Grows a b → Grows b c → Grows a c
grows_then a b c first more =
    (first.0 ++ more.0, more.1 ∙ (ap (λ l. l ++ more.0) first.1 ∙ append_assoc a first.0 more.0))

pub grows_by : (a b c xs ys : List ℕ) → b ≡ a ++ xs → c ≡ b ++ ys → Grows a c
grows_by a b c xs ys first more = grows_then a b c (xs, first) (ys, more)

-- a text that began empty is what was put there first, and then the rest
pub both_put : (a b before mid new : List ℕ) → before ≡ [] → mid ≡ before ++ a → new ≡ mid ++ b → new ≡ a ++ b
both_put a b before mid new none first more = more ∙ ap (λ l. l ++ b) (first ∙ ap (λ l. l ++ a) none)
