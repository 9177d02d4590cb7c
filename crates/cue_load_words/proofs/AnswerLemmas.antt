-- Each entry has an answer.
use Rattle.std.proofs.Common.{◌≡◌, ◌∙◌, ℕ, ◌==◌, true, List, [], ◌∷◌, length, Option, Some, None, refl, sym, arith}
use Rattle.std.proofs.lemmas.Bool.{eqb-true}
use Rattle.std.specs.Prelude.{IfOk, IfSome, Result, Ok, Err, Vec, is_some}
use Rattle.std.specs.declared.alloc.Global.{Global}
use Rattle.cue_desk.specs.declared.answered.Answered.{Answered}
use Rattle.cue_desk.specs.declared.replying.Replied.{Replied}
use Rattle.cue_load_machine.specs.Answering.{AreAnswers, all_told, has_all}
use Rattle.cue_show.proofs.TestLemmas.{both}

as_many : (told : List (Option Replied)) (answers : List Answered) → AreAnswers told answers
    → length told ≡ length answers
as_many [] [] are = refl
as_many [] (a ∷ answers) are = absurd are
as_many (Some r ∷ told) [] are = absurd are
as_many (Some r ∷ told) (a ∷ answers) are = let more = as_many told answers are.1 in omega (arith, more)
as_many (None ∷ told) answers are = absurd are

-- where each of so many was replied to, there are as many answers
one_for_each : (count : ℕ) (told : List (Option Replied)) (answers : List Answered) → AreAnswers told answers
    → has_all count told ≡ true → length answers ≡ count
one_for_each count told answers are all =
    let parts = both (all_told told) (length told == count) all in
    sym (as_many told answers are) ∙ eqb-true (length told) count parts.1

-- the same of answers that may be there
one_for_each_of : (count : ℕ) (told : List (Option Replied)) (some : Option (Vec Answered Global))
    → IfSome some (λ answers. AreAnswers told answers.items) → is_some some ≡ has_all count told
    → IfSome some (λ answers. length answers.items ≡ count)
one_for_each_of count told None are all = tt
one_for_each_of count told (Some answers) are all = one_for_each count told answers.items are (sym all)

-- and of answers that memory may not have sufficed for
pub all_answered : {E : Type 0} (count : ℕ) (told : List (Option Replied)) (r : Result (Option (Vec Answered Global)) E)
    → IfOk r (λ some. IfSome some (λ answers. AreAnswers told answers.items))
    → IfOk r (λ some. is_some some ≡ has_all count told)
    → IfOk r (λ some. IfSome some (λ answers. length answers.items ≡ count))
all_answered count told (Ok some) are all = one_for_each_of count told some are all
all_answered count told (Err e) are all = tt
