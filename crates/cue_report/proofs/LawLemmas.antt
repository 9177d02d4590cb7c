-- Only what the lines say is told.
use Rattle.std.proofs.Common.{◌≡◌, ◌∙◌, ℕ, zero, suc, Bool, true, false, if◌then◌else◌, List, [], ◌∷◌, ◌++◌, length, refl, sym, ap, subst}
use Rattle.std.proofs.Common.{inl, inr, Option, Some, None, nat_eq, codes}
use Rattle.std.proofs.lemmas.Bool.{eqb-true}
use Rattle.std.specs.Prelude.{IfSome, is_some, option_and_then, slice_get, unwrap_or}
use Rattle.cue_show.proofs.TestLemmas.{both}
use Rattle.cue_log_lines.specs.Listed.{failure_at}
use Rattle.cue_log_lines.specs.declared.line.Ended.{Ended as LineOfEnd}
use Rattle.cue_log_lines.specs.declared.line.Line.{Line}
use Rattle.cue_log_lines.specs.declared.line.Line.TheVariants as line
use Rattle.cue_log_lines.specs.declared.line.Ordered.{Ordered}
use Rattle.cue_log_lines.specs.declared.line.OrderKind.{OrderKind}
use Rattle.cue_log_lines.specs.declared.line.OrderKind.TheVariants as order
use Rattle.cue_log_lines.specs.declared.line.Try.{Try}
use Rattle.cue_log_lines.specs.declared.line.Why.TheVariants as why
use Rattle.cue_log_lines.specs.declared.listed.Failure.{Failure}
use Rattle.cue_log_lines.specs.declared.listed.Found.{Found}
use Rattle.cue_log_lines.specs.declared.listed.Found.TheVariants as found
use Rattle.cue_exchange.specs.declared.attempt.Reason.TheVariants as reason
use Rattle.cue_operator.specs.declared.method.DeviceVerb.{DeviceVerb}
use Rattle.cue_operator.specs.declared.method.DeviceVerb.TheVariants as word
use Rattle.cue_report.specs.Following.{fate_by, first_moment}
use Rattle.cue_report.specs.Laws.{AreSaid, HasNoEnd, In, IsEnded, IsGivenUp, IsNamed, IsOrdered, IsSaid, LostEndsAreToldAsLost, OnlySaidIsTold}
use Rattle.cue_report.specs.Picture as picture
use Rattle.cue_report.specs.Picture.{Heard, Picture, after_line, changed_at, heard, is_named, named_place, nothing, place_if, said_of, with_named, with_new}
use Rattle.cue_report.specs.Seen.{Seen, after_end, after_failing, after_give_up, after_ordered, after_word, by_order, by_word, failure_taken, failures_taken, is_preparing, new_of, why_words, with_end}
use Rattle.cue_report.specs.Telling.{ending_words}
use Rattle.cue_report.specs.declared.attempt.Ended.{Ended}
use Rattle.cue_report.specs.declared.attempt.Moment.{Moment}
use Rattle.cue_report.specs.declared.attempt.Who.{Who}
use Rattle.cue_report.specs.declared.attempt.Who.TheVariants as who
use Rattle.cue_report.specs.declared.course.Fate.{Fate}

-- ---- one attempt

-- either of two attempts that are told so
chosen_said : (all : List Heard) (b : Bool) (x y : Seen) → IsSaid all x → IsSaid all y → IsSaid all (if b then x else y)
chosen_said all true x y h k = h
chosen_said all false x y h k = k

-- the first moment is one that a line says
first_said : (P : Moment → Type 0) (there : Option Moment) (at : ℕ) (by : Who) → IfSome there P → P (record { at = at; by = by }) → IfSome (first_moment there at by) P
first_said P None at by h q = q
first_said P (Some m) at by h q = h

order_said : (all : List Heard) (kind : OrderKind) (at : ℕ) (by : Who) (a : Seen) → IsOrdered all kind a.number (record { at = at; by = by }) → IsSaid all a → IsSaid all (by_order kind at by a)
order_said all order.Standby at by a q h = (h.0, first_said (λ m. IsOrdered all order.Standby a.number m) a.begun at by h.1 q, h.2, h.3, h.4)
order_said all order.Go at by a q h = (h.0, h.1, first_said (λ m. IsOrdered all order.Go a.number m) a.given at by h.2 q, h.3, h.4)
order_said all order.Cancel at by a q h = h

ordered_said : (all : List Heard) (at : ℕ) (by : Who) (o : Ordered) (a : Seen) → IsOrdered all o.kind a.number (record { at = at; by = by }) → IsSaid all a → IsSaid all (after_ordered at by o a)
unfolding after_ordered
ordered_said all at by o a q h = order_said all o.kind at by a q h

give_up_said : (all : List Heard) (at : ℕ) (by : Who) (why : List ℕ) (a : Seen) → IsGivenUp all a.number (record { at = at; by = by }) → IsSaid all a → IsSaid all (after_give_up at by why a)
give_up_said all at by why a q h =
    chosen_said all (is_some a.given_up) a (record a { given_up = first_moment a.given_up at by; why = why }) h
    (h.0, h.1, h.2, first_said (λ m. IsGivenUp all a.number m) a.given_up at by h.3 q, h.4)

taken_said : (all : List Heard) (f : Option (Failure × List ℕ)) (a : Seen) → IsSaid all a → IsSaid all (failure_taken f a).1
taken_said all None a h = h
taken_said all (Some f) a h = h

failures_said : (all : List Heard) (count : ℕ) (text : List ℕ) (a : Seen) → IsSaid all a → IsSaid all (failures_taken count text a).1
unfolding failures_taken
failures_said all zero text a h = h
failures_said all (suc count) text a h =
    taken_said all (failure_at (failures_taken count text a).0) (failures_taken count text a).1 (failures_said all count text a h)

end_said : (all : List Heard) (at : ℕ) (e : LineOfEnd) (a : Seen) → IsEnded all a.number (record { at = at; outcome = e.outcome }) → IsSaid all a → IsSaid all (after_end at e a)
unfolding after_end
end_said all at e a q h = failures_said all _ e.failures (with_end at e.outcome e.span a) (h.0, h.1, h.2, h.3, q)

failing_said : (all : List Heard) (fate : Option Fate) (device : ℕ) (a : Seen) → IsSaid all a → IsSaid all (after_failing fate device a)
failing_said all None device a h = h
failing_said all (Some fate) device a h = chosen_said all (is_some a.given_up) _ _ h h

by_word_said : (all : List Heard) (at : ℕ) (word : DeviceVerb) (device : ℕ) (a : Seen) → IsSaid all a → IsSaid all (by_word at word device a)
by_word_said all at word.StandingBy device a h = h
by_word_said all at word.Complete device a h = h
by_word_said all at word.Abort device a h = failing_said all (fate_by word.Abort (is_preparing a)) device a h
by_word_said all at word.Release device a h = failing_said all (fate_by word.Release (is_preparing a)) device a h
by_word_said all at word.Cancelled device a h = h
by_word_said all at word.Remove device a h = h

word_said : (all : List Heard) (at : ℕ) (word : DeviceVerb) (device : ℕ) (a : Seen) → IsSaid all a → IsSaid all (after_word at word device a)
unfolding after_word
word_said all at word device a h = chosen_said all (is_some a.ended) _ _ h (by_word_said all at word device a h)

-- ---- the one that a line names

place_number : (at : ℕ) (t : Try) (q place : ℕ) (v : Bool) (a b : Seen) → is_named at t b ≡ v → (if v then Some q else None) ≡ Some place → b.number ≡ t.number
place_number at t q place true a b r e = eqb-true b.number t.number (both (nat_eq b.number t.number) _ r).0
place_number at t q place false a b r e = cc

place_is : (at : ℕ) (t : Try) (q place : ℕ) (v : Bool) → (if v then Some q else None) ≡ Some place → q ≡ place
place_is at t q place true e = cc
place_is at t q place false e = cc

at_number : (at : ℕ) (t : Try) (xs : List Seen) (q place : ℕ) (s : Option Seen) (a : Seen) → slice_get xs q ≡ s → place_if at t q s ≡ Some place → slice_get xs place ≡ Some a → a.number ≡ t.number
at_number at t xs q place None a r e g = cc
at_number at t xs q place (Some b) a r e g =
    let n : b.number ≡ t.number = place_number at t q place (is_named at t b) a b refl e in
    let p : q ≡ place = place_is at t q place (is_named at t b) e in
    let same : Some b ≡ Some a = sym r ∙ (ap (slice_get xs) p ∙ g) in
    let one : b ≡ a = cc same in
    sym (ap (λ (x : Seen). x.number) one) ∙ n

newest_number : (at : ℕ) (t : Try) (xs : List Seen) (place : ℕ) (o : Option ℕ) (a : Seen) → option_and_then (λ q. place_if at t q (slice_get xs q)) o ≡ Some place → slice_get xs place ≡ Some a → a.number ≡ t.number
newest_number at t xs place None a e g = cc
newest_number at t xs place (Some q) a e g = at_number at t xs q place (slice_get xs q) a refl e g

named_number : (at : ℕ) (t : Try) (p : Picture) (place : ℕ) (a : Seen) → named_place at t p ≡ Some place → slice_get p.attempts place ≡ Some a → a.number ≡ t.number
unfolding named_place
named_number at t p place a e g = newest_number at t p.attempts place _ a e g

-- ---- the list

added_said : (all : List Heard) (xs : List Seen) (x : Seen) → AreSaid all xs → IsSaid all x → AreSaid all (xs ++ x ∷ [])
added_said all [] x h k = (k, tt)
added_said all (y ∷ ys) x h k = (h.0, added_said all ys x h.1 k)

changed_said : (all : List Heard) (change : Seen → Seen) (xs : List Seen) (place : ℕ) → AreSaid all xs → ((a : Seen) → slice_get xs place ≡ Some a → IsSaid all a → IsSaid all (change a)) → AreSaid all (changed_at place change xs)
changed_said all change [] place h f = tt
changed_said all change (x ∷ xs) zero h f = (f x refl h.0, h.1)
changed_said all change (x ∷ xs) (suc place) h f = (h.0, changed_said all change xs place h.1 f)

last_is : (xs : List Seen) (x a : Seen) → slice_get (xs ++ x ∷ []) (length xs) ≡ Some a → x ≡ a
last_is [] x a g = cc g
last_is (y ∷ ys) x a g = last_is ys x a g

new_said : (all : List Heard) (t : Try) → IsNamed all t.number → IsSaid all (new_of t)
new_said all t n = (n, tt, tt, tt, tt)

named_said_at : (all : List Heard) (t : Try) (p : Picture) (there : Option ℕ) → IsNamed all t.number → AreSaid all p.attempts → AreSaid all (if is_some there then p else with_new t p).attempts
named_said_at all t p None n h = added_said all p.attempts (new_of t) h (new_said all t n)
named_said_at all t p (Some place) n h = h

named_said : (all : List Heard) (at : ℕ) (t : Try) (p : Picture) → IsNamed all t.number → AreSaid all p.attempts → AreSaid all (with_named at t p).attempts
named_said all at t p n h = named_said_at all t p (named_place at t p) n h

said_at : (all : List Heard) (at : ℕ) (t : Try) (change : Seen → Seen) (p : Picture) (there : Option ℕ) → named_place at t p ≡ there → IsNamed all t.number → ((a : Seen) → t.number ≡ a.number → IsSaid all a → IsSaid all (change a)) → AreSaid all p.attempts → AreSaid all (changed_at (unwrap_or there (length p.attempts)) change (if is_some there then p else with_new t p).attempts)
said_at all at t change p None e n f h =
    changed_said all change (p.attempts ++ new_of t ∷ []) (length p.attempts) (added_said all p.attempts (new_of t) h (new_said all t n))
    (λ a g. f a (ap (λ (x : Seen). x.number) (last_is p.attempts (new_of t) a g)))
said_at all at t change p (Some place) e n f h =
    changed_said all change p.attempts place h (λ a g. f a (sym (named_number at t p place a e g)))

said_of_said : (all : List Heard) (at : ℕ) (t : Try) (change : Seen → Seen) (p : Picture) → IsNamed all t.number → ((a : Seen) → t.number ≡ a.number → IsSaid all a → IsSaid all (change a)) → AreSaid all p.attempts → AreSaid all (said_of at t change p).attempts
said_of_said all at t change p n f h = said_at all at t change p (named_place at t p) refl n f h

-- ---- one line

answer_at_said : (all : List Heard) (at : ℕ) (word : DeviceVerb) (device : ℕ) (p : Picture) (place : Option ℕ) → AreSaid all p.attempts → AreSaid all (picture.changed_if place (after_word at word device) p).attempts
answer_at_said all at word device p None h = h
answer_at_said all at word device p (Some place) h =
    changed_said all (after_word at word device) p.attempts place h (λ a g. word_said all at word device a)

reply_said : (all : List Heard) (at : ℕ) (answer : Option (DeviceVerb × ℕ)) (p : Picture) → AreSaid all p.attempts → AreSaid all (picture.after_reply at answer p).attempts
reply_said all at None p h = h
reply_said all at (Some answer) p h = answer_at_said all at answer.0 answer.1 p (picture.holder answer.1 p) h

found_said : (all : List Heard) (at : ℕ) (t : Try) (found : Found) (p : Picture) → IsNamed all t.number → ((a : Seen) → t.number ≡ a.number → IsGivenUp all a.number (record { at = at; by = who.Unseen })) → AreSaid all p.attempts → AreSaid all (picture.found_so at t found p).attempts
found_said all at t found.Preparing p n g h = named_said all at t p n h
found_said all at t found.Given p n g h = named_said all at t p n h
found_said all at t found.Lost p n g h =
    said_of_said all at t (after_give_up at who.Unseen (why_words (why.Said reason.Power))) p n
    (λ a e k. give_up_said all at who.Unseen (why_words (why.Said reason.Power)) a (g a e) k) h
found_said all at t found.GivenUp p n g h = named_said all at t p n h

recovered_said : (all : List Heard) (at : ℕ) (by : Who) (answer : Option (DeviceVerb × ℕ)) (found : Option (Try × Found)) (text : List ℕ) (p : Picture) → In (record { at = at; by = by; answer = answer; found = found; line = line.Recovered text }) all → AreSaid all p.attempts → AreSaid all (picture.after_found at found p).attempts
recovered_said all at by answer None text p i h = h
recovered_said all at by answer (Some f) text p i h =
    let l : Heard = record { at = at; by = by; answer = answer; found = Some f; line = line.Recovered text } in
    found_said all at f.0 f.1 p (l, i, refl) (λ a e. (l, i, e, refl)) h

line_said : (all : List Heard) (at : ℕ) (by : Who) (answer : Option (DeviceVerb × ℕ)) (found : Option (Try × Found)) (said : Line) (p : Picture) → In (record { at = at; by = by; answer = answer; found = found; line = said }) all → AreSaid all p.attempts → AreSaid all (after_line at by answer found said p).attempts
line_said all at by answer found (line.Ready dir port) p i h = h
line_said all at by answer found line.Stopped p i h = h
line_said all at by answer found (line.Own said) p i h = h
line_said all at by answer found (line.Recovered text) p i h = recovered_said all at by answer found text p i h
line_said all at by answer found (line.HeldUp span) p i h = h
line_said all at by answer found (line.Replied asked count) p i h = reply_said all at answer p h
line_said all at by answer found (line.Kinds count) p i h = h
line_said all at by answer found (line.Ordered o) p i h =
    let l : Heard = record { at = at; by = by; answer = answer; found = found; line = line.Ordered o } in
    said_of_said all at o.attempt (after_ordered at by o) p (l, i, refl)
    (λ a e k. ordered_said all at by o a (l, i, (e, refl), refl, refl) k) h
line_said all at by answer found (line.Alone t device) p i h =
    let l : Heard = record { at = at; by = by; answer = answer; found = found; line = line.Alone t device } in
    named_said all at t p (l, i, refl) h
line_said all at by answer found (line.GivenUp t cause) p i h =
    let l : Heard = record { at = at; by = by; answer = answer; found = found; line = line.GivenUp t cause } in
    said_of_said all at t (after_give_up at by (why_words cause)) p (l, i, refl)
    (λ a e k. give_up_said all at by (why_words cause) a (l, i, e, refl) k) h
line_said all at by answer found (line.Ended ended) p i h =
    let l : Heard = record { at = at; by = by; answer = answer; found = found; line = line.Ended ended } in
    said_of_said all at ended.attempt (after_end at ended) p (l, i, refl)
    (λ a e k. end_said all at ended a (l, i, (e, refl), refl) k) h

-- ---- all lines

lines_said : (all ls : List Heard) (p : Picture) → ((l : Heard) → In l ls → In l all) → AreSaid all p.attempts → AreSaid all (heard ls p).attempts
lines_said all [] p among h = h
lines_said all (l ∷ ls) p among h =
    lines_said all ls (after_line l.at l.by l.answer l.found l.line p) (λ m i. among m (inr i))
    (line_said all l.at l.by l.answer l.found l.line p (among l (inl refl)) h)

pub only_said_is_told : OnlySaidIsTold
only_said_is_told ls = lines_said ls ls nothing (λ l i. i) tt

one_said : (all : List Heard) (xs : List Seen) (a : Seen) → AreSaid all xs → In a xs → IsSaid all a
one_said all [] a h i = absurd i
one_said all (x ∷ xs) a h (inl e) = subst (λ (y : Seen). IsSaid all y) (sym e) h.0
one_said all (x ∷ xs) a h (inr i) = one_said all xs a h.1 i

lost_end : (ls : List Heard) (number : ℕ) (ended : Option Ended) → IfSome ended (λ e. IsEnded ls number e) → HasNoEnd ls number → ending_words ended ≡ codes "no end in this log"
lost_end ls number None h lost = refl
lost_end ls number (Some e) h lost = absurd (lost h.0 h.1 e.outcome h.2)

pub lost_ends_are_told_as_lost : LostEndsAreToldAsLost
lost_ends_are_told_as_lost ls a i lost =
    lost_end ls a.number a.ended (one_said ls (heard ls nothing).attempts a (only_said_is_told ls) i).4 lost
