-- What is heard, line by line.
use Rattle.std.proofs.Common.{◌≡◌, ◌++◌, ◌∙◌, ℕ, List, [], ◌∷◌, Option, Some, None, ap, refl, sym}
use Rattle.std.specs.List.{AllByRecursion}
use Rattle.cue_log_lines.specs.declared.line.Line.{Line}
use Rattle.cue_log_lines.specs.declared.line.Line.TheVariants.{Recovered}
use Rattle.cue_log_lines.specs.declared.line.Try.{Try}
use Rattle.cue_log_lines.specs.declared.listed.Found.{Found}
use Rattle.cue_operator.specs.declared.method.DeviceVerb.{DeviceVerb}
use Rattle.cue_report.specs.Picture.{Heard, Hears, IsIn, IsOf, Picture, Reads, ReadsEnd, Says, SaysSo, Told, after_found, after_line, heard}
use Rattle.cue_report.specs.Reading.{IsEndOf, IsSaidBy}
use Rattle.cue_report.specs.declared.attempt.Who.{Who}
use Rattle.cue_report.specs.declared.attempt.Who.TheVariants.{Unseen}
use Rattle.cue_report.specs.declared.reading.Said.{Said}
use Rattle.cue_report.specs.declared.reading.Said.TheVariants as said

heard_append : (xs ys : List Heard) (p : Picture) → heard (xs ++ ys) p ≡ heard ys (heard xs p)
heard_append [] ys p = refl
heard_append (x ∷ xs) ys p = heard_append xs ys (after_line x.at x.by x.answer x.found x.line p)

all_append : {A : Type 0} (P : A → Type 0) (xs ys : List A) → AllByRecursion P xs → AllByRecursion P ys
    → AllByRecursion P (xs ++ ys)
all_append P [] ys first more = more
all_append P (x ∷ xs) ys first more = (first.0, all_append P xs ys first.1 more)

all_map : {A : Type 0} (P Q : A → Type 0) (xs : List A) → ((x : A) → P x → Q x) → AllByRecursion P xs
    → AllByRecursion Q xs
all_map P Q [] more all = tt
all_map P Q (x ∷ xs) more all = (more x all.0, all_map P Q xs more all.1)

-- nothing was said of attempts
pub says_none : (at : ℕ) (l : Line) (p q : Picture) → q ≡ p → Says at l p q
says_none at l p q same = ([], tt, same)

-- a line was said, and then more of it
pub says_then : (at : ℕ) (l : Line) (p q r : Picture) → Says at l p q → Says at l q r → Says at l p r
says_then at l p q r first more = (
  first.0 ++ more.0,
  all_append (IsOf at l) first.0 more.0 first.1 more.1,
  more.2 ∙ (ap (heard more.0) first.2 ∙ sym (heard_append first.0 more.0 p)),
)

-- a line was said
pub says_line : (at : ℕ) (by : Who) (answer : Option (DeviceVerb × ℕ)) (found : Option (Try × Found)) (l : Line)
    (p q : Picture) → q ≡ after_line at by answer found l p → Says at l p q
says_line at by answer found l p q is = (
  record { at = at; by = by; answer = answer; found = found; line = l } ∷ [],
  ((refl, refl), tt),
  is,
)

-- a start has found this
pub says_found : (at : ℕ) (found : Option (Try × Found)) (text : List ℕ) (p q : Picture) → q ≡ after_found at found p
    → Says at (Recovered text) p q
says_found at found text p q is = says_line at Unseen None found (Recovered text) p q is

-- nothing was told of attempts
pub told_none : (s : Said) (p q : Picture) → q ≡ p → Told s p q
told_none (said.Line l) p q same = (0, says_none 0 l p q same)
told_none (said.Ended words) p q same = (0, same)

-- this was told at a second
pub told_at : (at : ℕ) (s : Said) (p q r : Picture) → q ≡ p → SaysSo at s q r → Told s p r
told_at at (said.Line l) p q r same says = (at, says_then at l p q r (says_none at l p q same) says)
told_at at (said.Ended words) p q r same says = (at, says ∙ same)

-- nothing was read
pub reads_none : (text : List ℕ) (p q : Picture) → q ≡ p → Reads text p q
reads_none text p q same = ([], tt, same)

-- what was told is what the text says
pub reads_told : (text : List ℕ) (s : Said) (p q : Picture) → IsSaidBy text s → Told s p q → Reads text p q
reads_told text (said.Line l) p q is told = (
  told.1.0,
  all_map (IsOf told.0 l) (IsIn text) told.1.0 (λ x so. is ∙ ap Some (sym so.1)) told.1.1,
  told.1.2,
)
reads_told text (said.Ended words) p q is told = reads_none text p q told.1

-- all of a text was read
pub reads_all : (text : List ℕ) (p q : Picture) → Reads text p q → ReadsEnd text p q
reads_all text p q reads = (text, (0, refl), reads)

-- the end of a text was read
pub reads_end : (text end : List ℕ) (p q r : Picture) → IsEndOf text end → q ≡ p → Reads end q r → ReadsEnd text p r
reads_end text end p q r is same reads = (end, is, (reads.0, reads.1, reads.2 ∙ ap (heard reads.0) same))

-- nothing was heard
pub hears_none : (p q : Picture) → q ≡ p → Hears p q
hears_none p q same = ([], same)

-- a text was heard
pub hears_end : (text : List ℕ) (p q : Picture) → ReadsEnd text p q → Hears p q
hears_end text p q reads = (reads.2.0, reads.2.2)

-- something was heard, and then more
pub hears_then : (p q r : Picture) → Hears p q → Hears q r → Hears p r
hears_then p q r first more =
    (first.0 ++ more.0, more.1 ∙ (ap (heard more.0) first.1 ∙ sym (heard_append first.0 more.0 p)))
