-- What the log wrote, call by call.
use Rattle.std.proofs.Common.{◌≡◌, ◌+◌, ◌<◌, ℕ, List, [], ◌∷◌, ◌++◌, drop, length, take, Option, Some, None, sym, ap, ◌∙◌, append-nil, append_assoc}
use Rattle.std.proofs.Common.{Bool, false, slice_index_or, if◌then◌else◌}
use Rattle.std.proofs.lemmas.List.{at_drop_more}
use Rattle.cue_core.specs.State.{ShowState}
use Rattle.cue_core.specs.declared.event.Event.{Event}
use Rattle.cue_engine.specs.declared.account.Order.{Order}
use Rattle.cue_engine.specs.declared.account.Reply.{Reply}
use Rattle.cue_evening.specs.Sent.{first}
use Rattle.cue_evening.specs.declared.course.Followed.{Followed}
use Rattle.cue_evening.specs.Looks.{Entry, Grew, Log, Meets, Does, bits_after, events_after, hears, hears_reply, order_entries, orders_entries}

-- nothing was written
pub grew_none : (old : Option (List Entry)) → Grew old [] old
grew_none None = tt
grew_none (Some old) = sym (append-nil old)

-- some entries were written, and then others
pub grew_more : (old mid new : Option (List Entry)) (xs ys : List Entry) → Grew old xs mid → Grew mid ys new
    → Grew old (xs ++ ys) new
grew_more old mid None xs ys first more = tt
grew_more old None (Some new) xs ys first more = absurd more
grew_more None (Some mid) (Some new) xs ys first more = absurd first
grew_more (Some old) (Some mid) (Some new) xs ys first more =
    more ∙ (ap (λ l. l ++ ys) first ∙ append_assoc old xs ys)

-- something was done, and then something else
pub does_then : (f g : Log → Log) (old mid new : Option Log) → Does f old mid → Does g mid new
    → Does (λ log. g (f log)) old new
does_then f g old mid None first more = tt
does_then f g old None (Some new) first more = absurd more
does_then f g None (Some mid) (Some new) first more = absurd first
does_then f g (Some old) (Some mid) (Some new) first more = more ∙ ap g first

-- what is left to do is the same after one step of it
pub meets_step : (later rest step start : Log → Log) (old mid new : Option Log) → ((log : Log) → later log ≡ rest (step log))
    → Meets later mid start old → Does step mid new → Meets rest new start old
meets_step later rest step start old mid None same met does = tt
meets_step later rest step start old None (Some new) same met does = absurd does
meets_step later rest step start None (Some mid) (Some new) same met does = absurd met
meets_step later rest step start (Some old) (Some mid) (Some new) same met does =
    ap rest does ∙ (sym (same mid) ∙ met)

-- a list from a place on is what stands there, and the rest
at_place : {A B : Type 0} (f : List A → B) (xs : List A) (i : ℕ) (x : A) → i < length xs → x ≡ slice_index_or xs i x
    → f (drop i xs) ≡ f (x ∷ drop (i + 1) xs)
at_place f xs i x low is = at_drop_more f xs i x low ∙ ap (λ y. f (y ∷ drop (i + 1) xs)) (sym is)

-- what the orders from a place on make is what the one there makes, and then those after it
pub orders_step : (last : Option ℕ) (orders : List Order) (i : ℕ) (o : Order) (left left2 : List Bool)
    (course course2 : List Followed) (sent : Option Bool) (entries total : List Entry) → i < length orders
    → o ≡ slice_index_or orders i o → sent ≡ first left → left2 ≡ drop 1 left → course2 ≡ course
    → entries ++ orders_entries last (drop i orders) left course ≡ total
    → (entries ++ order_entries last o sent course) ++ orders_entries last (drop (i + 1) orders) left2 course2 ≡ total
orders_step last orders i o left left2 course course2 sent entries total low at sent_is left_is course_is same =
    rw (sent_is, left_is, course_is) (append_assoc entries _ _
    ∙ (ap (λ l. entries ++ l) (sym (at_place (λ os. orders_entries last os left course) orders i o low at)) ∙ same))

-- what the replies from a place on make is what the one there makes, and then those after it
pub hears_step : (state : ShowState) (replies : List Reply) (i : ℕ) (r : Reply) (rest made rest2 : List Event)
    (left left2 : List Bool) (sent : Option Bool) → i < length replies → r ≡ slice_index_or replies i r
    → made ≡ take r.events rest → rest2 ≡ drop r.events rest → sent ≡ first left → left2 ≡ drop (r.statuses + 1) left
    → (log : Log) → hears state (drop i replies) rest left log
    ≡ hears state (drop (i + 1) replies) rest2 left2 (hears_reply state r sent made rest2 log)
hears_step state replies i r rest made rest2 left left2 sent low at made_is rest_is sent_is left_is log =
    rw (made_is, rest_is, sent_is, left_is) (at_place (λ rs. hears state rs rest left log) replies i r low at)

-- the same of the events that are left
pub events_step : (replies : List Reply) (i : ℕ) (r : Reply) (rest rest2 total : List Event) → i < length replies
    → r ≡ slice_index_or replies i r → rest2 ≡ drop r.events rest → events_after (drop i replies) rest ≡ total
    → events_after (drop (i + 1) replies) rest2 ≡ total
events_step replies i r rest rest2 total low at rest_is same =
    rw rest_is (sym (at_place (λ rs. events_after rs rest) replies i r low at) ∙ same)

-- and of the bits
pub bits_step : (replies : List Reply) (i : ℕ) (r : Reply) (left left2 total : List Bool) → i < length replies
    → r ≡ slice_index_or replies i r → left2 ≡ drop (r.statuses + 1) left → bits_after (drop i replies) left ≡ total
    → bits_after (drop (i + 1) replies) left2 ≡ total
bits_step replies i r left left2 total low at left_is same =
    rw left_is (sym (at_place (λ rs. bits_after rs left) replies i r low at) ∙ same)

-- a text grew by these words, since there is something to say
pub text_unless : (b : Bool) (old front rest mid new : List ℕ) → b ≡ false → mid ≡ old ++ front → new ≡ mid ++ rest
    → new ≡ old ++ (if b then [] else front ++ rest)
text_unless b old front rest mid new isnt first more =
    rw isnt (more ∙ (ap (λ l. l ++ rest) first ∙ append_assoc old front rest))
