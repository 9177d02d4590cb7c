-- A text that was cut off anywhere is not read: what is read of a front is read of the whole, and the rest is left.
use Rattle.std.proofs.Common.{◌≡◌, ◌∙◌, ℕ, zero, suc, Bool, true, false, ◌==◌, if◌then◌else◌, List, [], ◌∷◌, ◌++◌}
use Rattle.std.proofs.Common.{length, take, drop}
use Rattle.std.proofs.Common.{codes, Option, Some, None, refl, sym, ap, subst, arith, length-append, length-drop}
use Rattle.std.proofs.lemmas.List.{take-append-drop}
use Rattle.cue_log_lines.specs.Pieces.{◌>>=◌, after}
use Rattle.cue_view.specs.declared.view.Told.{Told}
use Rattle.cue_kept.specs.Alarms.{Alarms}
use Rattle.cue_kept.specs.Laws.{CutTextsAreNotRead}
use Rattle.cue_kept.specs.Reading.{alarms_at, attempt_at, before, cue, device, device_at, devices_at, end_at, ending}
use Rattle.cue_kept.specs.Reading.{failures_at, few}
use Rattle.cue_kept.specs.Reading.{head_at, items_at, line_at, longer, number, parts_at, read, said_at, seen_at}
use Rattle.cue_kept.specs.Reading.{told_at, told_of, value_at, version, whole, why}
use Rattle.cue_kept.specs.Text.{write}
use Rattle.cue_kept.proofs.KeptLemmas.{alarms-are}

-- what was found is found, and more is left
abbrev Stretches : {A : Type 0} → List ℕ → Option (A × List ℕ) → Option (A × List ℕ) → Type 0
Stretches more None other = Unit {0}
Stretches more (Some x) other = other ≡ Some (x.0, x.1 ++ more)

-- what is found at the front of a text is found there whatever follows
abbrev Extends : {A : Type 0} → (List ℕ → Option (A × List ℕ)) → Type 0
Extends f = (text more : List ℕ) → Stretches more (f text) (f (text ++ more))

-- ---- one step after the other

then-extends : {A B : Type 0} (f : List ℕ → Option (A × List ℕ)) (g : A → List ℕ → Option (B × List ℕ))
    → Extends f → ((a : A) → Extends (g a)) → Extends (λ text. f text >>= λ x. g x.0 x.1)
then-extends {A = A} {B = B} f g first next text more = by (f text) (f (text ++ more)) (first text more)
  where
    by : (one other : Option (A × List ℕ)) → Stretches more one other
        → Stretches more (one >>= λ x. g x.0 x.1) (other >>= λ x. g x.0 x.1)
    by None other same = tt
    by (Some x) other same = rw same (next x.0 x.1 more)

found-extends : {A B : Type 0} (found : Option A) (of : A → B) → Extends (λ text. found >>= λ v. Some (of v, text))
found-extends None of text more = tt
found-extends (Some v) of text more = refl

-- ---- lines

line-extends : Extends line_at
unfolding line_at
line-extends [] more = tt
line-extends (b ∷ bs) more = by (b == 10) (line_at bs) (line_at (bs ++ more)) (line-extends bs more)
  where
    by : (c : Bool) (one other : Option (List ℕ × List ℕ)) → Stretches more one other
        → Stretches more (if c then Some ([], bs) else longer b one)
        (if c then Some ([], bs ++ more) else longer b other)
    by true one other same = refl
    by false None other same = tt
    by false (Some x) other same = rw same refl

said-extends : (words : List ℕ) → Extends (said_at words)
unfolding said_at
said-extends words =
    then-extends line_at (λ line rest. after words line >>= λ said. Some (said, rest)) line-extends
    (λ line. found-extends (after words line) (λ said. said))

value-extends : {A : Type 0} (meaning : List ℕ → Option A) (words : List ℕ) → Extends (value_at meaning words)
unfolding value_at
value-extends meaning words =
    then-extends (said_at words) (λ said rest. meaning said >>= λ v. Some (v, rest)) (said-extends words)
    (λ said. found-extends (meaning said) (λ v. v))

-- ---- lists

before-extends : {A : Type 0} (item : A) (f : List ℕ → Option (List A × List ℕ)) → Extends f
    → Extends (λ text. before item (f text))
before-extends {A = A} item f extends text more = by (f text) (f (text ++ more)) (extends text more)
  where
    by : (one other : Option (List A × List ℕ)) → Stretches more one other
        → Stretches more (before item one) (before item other)
    by None other same = tt
    by (Some x) other same = rw same refl

items-extend : {A : Type 0} (at : List ℕ → Option (A × List ℕ)) → Extends at → (n : ℕ) → Extends (items_at at n)
items-extend at extends zero = λ text more. refl
items-extend at extends (suc n) =
    then-extends at (λ a rest. before a (items_at at n rest)) extends
    (λ a. before-extends a (items_at at n) (items-extend at extends n))

devices-extend : (words : List ℕ) → Extends (devices_at words)
unfolding devices_at
devices-extend words =
    then-extends (value_at number words) (items_at device_at) (value-extends number words)
    (items-extend device_at (value-extends device (codes "device ")))

-- ---- an attempt that ended

parts-extend : Extends parts_at
unfolding parts_at
parts-extend =
    then-extends (devices_at (codes "failed "))
    (λ f rest. devices_at (codes "excused ") rest >>= λ e. Some ((f, e.0), e.1)) (devices-extend (codes "failed "))
    (λ f. then-extends (devices_at (codes "excused ")) (λ e rest. Some ((f, e), rest))
    (devices-extend (codes "excused "))
    (λ e text more. refl))

end-extends : Extends end_at
unfolding end_at
end-extends =
    then-extends (value_at ending (codes "outcome "))
    (λ o rest. value_at why (codes "reason ") rest >>= λ r. Some ((o, r.0), r.1))
    (value-extends ending (codes "outcome "))
    (λ o. then-extends (value_at why (codes "reason ")) (λ r rest. Some ((o, r), rest))
    (value-extends why (codes "reason "))
    (λ r text more. refl))

head-extends : Extends head_at
unfolding head_at
head-extends =
    then-extends attempt_at (λ a rest. value_at cue (codes "cue ") rest >>= λ c. Some ((a, c.0), c.1))
    (value-extends number (codes "attempt "))
    (λ a. then-extends (value_at cue (codes "cue ")) (λ c rest. Some ((a, c), rest)) (value-extends cue (codes "cue "))
    (λ c text more. refl))

told-extends : Extends told_at
unfolding told_at
told-extends =
    then-extends head_at
    (λ h rest. end_at rest >>= λ e. parts_at e.1 >>= λ p. Some (told_of h e.0 p.0, p.1)) head-extends
    (λ h. then-extends end_at (λ e rest. parts_at rest >>= λ p. Some (told_of h e p.0, p.1)) end-extends
    (λ e. then-extends parts_at (λ p rest. Some (told_of h e p, rest)) parts-extend (λ p text more. refl)))

-- ---- all that is kept

seen-extend : Extends seen_at
unfolding seen_at
seen-extend =
    then-extends (value_at few (codes "seen ")) (items_at attempt_at) (value-extends few (codes "seen "))
    (items-extend attempt_at (value-extends number (codes "attempt ")))

failures-extend : Extends failures_at
unfolding failures_at
failures-extend =
    then-extends (value_at few (codes "failures ")) (items_at told_at) (value-extends few (codes "failures "))
    (items-extend told_at told-extends)

-- what is kept, by its lists
abbrev both_lists : List ℕ → List Told → Alarms
both_lists seen failed = record { seen = seen; failed = failed }

alarms-extend : Extends alarms_at
unfolding alarms_at
alarms-extend =
    then-extends (value_at version (codes "alarms "))
    (λ v rest. seen_at rest >>= λ s. failures_at s.1 >>= λ f. Some (both_lists s.0 f.0, f.1))
    (value-extends version (codes "alarms "))
    (λ v. then-extends seen_at (λ s rest. failures_at rest >>= λ f. Some (both_lists s f.0, f.1)) seen-extend
    (λ s. then-extends failures_at (λ f rest. Some (both_lists s f, rest)) failures-extend (λ f text more. refl)))

-- what is left of what was found
rest_of : Option (Alarms × List ℕ) → List ℕ
rest_of None = []
rest_of (Some found) = found.1

pub cut-texts-are-not-read : CutTextsAreNotRead
unfolding read rest_of
cut-texts-are-not-read a n fits short = by (alarms_at (take n (write a))) refl
  where
    by : (one : Option (Alarms × List ℕ)) → alarms_at (take n (write a)) ≡ one → (one >>= whole) ≡ None
    by None found = refl
    by (Some x) found =
        let same : alarms_at (take n (write a) ++ drop n (write a)) ≡ Some (x.0, x.1 ++ drop n (write a)) =
        subst (λ one. Stretches (drop n (write a)) one (alarms_at (take n (write a) ++ drop n (write a)))) found
        (alarms-extend (take n (write a)) (drop n (write a))) in
        let left : [] ≡ x.1 ++ drop n (write a) =
        ap rest_of (sym (alarms-are a fits) ∙ ap alarms_at (sym (take-append-drop n (write a))) ∙ same) in
        absurd (omega (arith, ap length left, length-append x.1 (drop n (write a)), length-drop n (write a)))
