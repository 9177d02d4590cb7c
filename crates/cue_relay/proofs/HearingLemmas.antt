-- Who is silent was asked for something; who has answered all is not silent.
use Rattle.std.proofs.Common.{◌≡◌, ◌≢◌, ℕ, Bool, true, false, not, cond, List, [], ◌∷◌, ◌++◌, Option, Some, None}
use Rattle.std.proofs.Common.{refl, sym, ap, ◌∙◌, subst}
use Rattle.std.specs.List.{list_all}
use Rattle.cue_show.proofs.TestLemmas.{both}
use Rattle.cue_relay.specs.declared.hearing.Contact.{Contact}
use Rattle.cue_relay.specs.declared.hearing.Pending.{Pending}
use Rattle.cue_relay.specs.declared.messages.Message.TheVariants as says
use Rattle.cue_relay.specs.declared.status.Ordered.{Ordered}
use Rattle.cue_relay.specs.declared.status.Ordered.TheVariants.{Standby, Go, Cancel}
use Rattle.cue_relay.specs.Hearing.{is_answer_due, now_pending, ordered, after_order}
use Rattle.cue_relay.specs.Hearing.{is_any_overdue, falls_silent, after_time}
use Rattle.cue_relay.specs.Motions.{is_late}
use Rattle.cue_relay.specs.Silences.{Sight, went, passed, after_sight, known_after, is_quiet, SilentIsAsked}
use Rattle.cue_relay.specs.Silences.{AtRestIsNotSilent}

-- an answer is due
abbrev IsDue : Option Pending → Type 0
IsDue pending = (p : Pending) × (pending ≡ Some p) × (p.order ≢ Go)

-- where it is silent, an answer is due
abbrev Fits : Contact → Type 0
Fits c = c.silent ≡ true → IsDue c.pending

no_go : (o : Ordered) → is_answer_due o ≡ true → o ≢ Go
no_go Standby h e = cc
no_go Go h e = cc
no_go Cancel h e = cc

overdue_due : (o : Option Pending) (now : ℕ) → is_any_overdue o now ≡ true → IsDue o
overdue_due None now h = cc
overdue_due (Some p) now h = (p, refl, no_go p.order (both (is_answer_due p.order) _ h).0)

fits_ordered : (c : Contact) (o : Ordered) (seq now : ℕ) → Fits (ordered c o seq now)
fits_ordered c o seq now h =
    (now_pending c.pending o seq now, refl, no_go o (both c.silent (is_answer_due o) h).1)

fits_order : (c : Contact) (o : Ordered) (seq now : ℕ) → Fits c → Fits (after_order c o seq now)
fits_order c o seq now f = by (is_late c.motion o seq)
  where
    by : (b : Bool) → Fits (cond b c (ordered c o seq now))
    by true = f
    by false = fits_ordered c o seq now

fits_time : (c : Contact) (now : ℕ) → Fits c → Fits (after_time c now)
fits_time c now f = by (falls_silent c now) refl
  where
    by : (b : Bool) → falls_silent c now ≡ b → Fits (cond b (record c { silent = true }) c)
    by true e h = overdue_due c.pending now (both (not c.silent) (is_any_overdue c.pending now) e).1
    by false e h = f h

fits_sight : (c : Contact) (s : Sight) → Fits c → Fits (after_sight c s)
fits_sight c (went (says.Order o seq) now) f = fits_order c o seq now f
fits_sight c (went says.Reply now) f = f
fits_sight c (went (says.Answer a) now) f = λ h. cc
fits_sight c (passed now) f = fits_time c now f

fits_all : (seen : List Sight) → Fits (known_after seen)
fits_all [] = λ h. cc
fits_all (s ∷ before) = fits_sight (known_after before) s (fits_all before)

pub silent-is-asked : SilentIsAsked
silent-is-asked seen h = fits_all seen h

-- nothing is pending, and it is not silent
abbrev IsAtRest : Contact → Type 0
IsAtRest c = (c.pending ≡ None) × (c.silent ≡ false)

not_silent : (c : Contact) → Fits c → c.pending ≡ None → c.silent ≡ false
not_silent c f e = by c.silent refl
  where
    by : (b : Bool) → c.silent ≡ b → b ≡ false
    by false h = refl
    by true h = let p = f h in absurd (none_some p.0 (sym e ∙ p.1))
      where
        none_some : (x : Pending) → None ≡ Some x → ⊥
        none_some x k = cc

rest_time : (c : Contact) (now : ℕ) → IsAtRest c → IsAtRest (after_time c now)
rest_time c now r =
    let none : is_any_overdue c.pending now ≡ false = ap (λ o. is_any_overdue o now) r.0 in
    let still : falls_silent c now ≡ false = rw (r.1, none) refl in
    subst (λ (b : Bool). IsAtRest (cond b (record c { silent = true }) c)) (sym still) r

rest_sight : (c : Contact) (s : Sight) → is_quiet s ≡ true → IsAtRest c → IsAtRest (after_sight c s)
rest_sight c (went (says.Order o seq) now) q r = cc
rest_sight c (went says.Reply now) q r = r
rest_sight c (went (says.Answer a) now) q r = cc
rest_sight c (passed now) q r = rest_time c now r

rest_all : (before more : List Sight) → IsAtRest (known_after before) → list_all is_quiet more ≡ true
    → IsAtRest (known_after (more ++ before))
rest_all before [] r q = r
rest_all before (s ∷ more) r q =
    let parts = both (is_quiet s) (list_all is_quiet more) q in
    rest_sight (known_after (more ++ before)) s parts.0 (rest_all before more r parts.1)

pub at-rest-is-not-silent : AtRestIsNotSilent
at-rest-is-not-silent before more none q =
    (rest_all before more (none, not_silent (known_after before) (fits_all before) none) q).1
