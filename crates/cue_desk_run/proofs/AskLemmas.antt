-- The asks whose answers are awaited.
use Rattle.std.proofs.Common.{◌≡◌, ◌≤◌, refl, sym, ap, ◌∙◌, subst, ℕ, ◌+◌, ◌<◌, List, [], ◌∷◌, ◌++◌, length, take, drop}
use Rattle.std.proofs.Common.{add-one, get_or, remove, position, Option, None, Some, Bool, count_by, if◌then◌else◌}
use Rattle.std.proofs.lemmas.Bool.{le-ltb, lt-ltb}
use Rattle.std.proofs.lemmas.List.{drop_more, take-append-drop}
use Rattle.std.proofs.lemmas.List.Quantifiers.{position-Some}
use Rattle.mio.specs.declared.net.udp.UdpSocket.{UdpSocket}
use Rattle.cue_ask_machine.specs.declared.letters.Letter.{Letter}
use Rattle.cue_station.specs.declared.heard.Heard.{Heard}
use Rattle.cue_desk_run.specs.declared.ask.Ask.{Ask}
use Rattle.cue_desk_run.specs.Asking.{Adds, Closes, IsAnswer, is_of_kind, most_of, with_room, without}
use Rattle.cue_desk_run.specs.Hearing.{IsHeardOf}
use Rattle.cue_desk_run.specs.Working.{IsUnpressed}
use Rattle.cue_desk_run.proofs.HearLemmas.{unpressed_of}

-- it is the newest
pub adds : (l : Letter) (socket : UdpSocket) (old mid new : List Ask) → mid ≡ old
    → new ≡ mid ++ record { letter = l; socket = socket } ∷ [] → Adds l old new
adds l socket old mid new e f = subst (λ asks. Adds l asks new) e (record { socket = socket; added = f })

-- it is the answer of the ask at the place
pub is_answer : (asks : List Ask) (place : ℕ) (ask : Ask) (h : Heard) → place < length asks
    → ask ≡ get_or asks place ask → IsHeardOf ask.letter h → IsAnswer asks place h
is_answer asks place ask h within at answers =
    record { ask = ask; within = within; at = sym at; answers = answers }

-- there is room
pub room_there : (status : Bool) (asks : List Ask) → count_by (is_of_kind status) asks < most_of status
    → asks ≡ with_room status asks
room_there status asks few =
    sym (ap (λ (b : Bool). if b then asks else without (position (is_of_kind status) asks) asks)
    (lt-ltb (count_by (is_of_kind status) asks) (most_of status) few))

full : (status : Bool) (asks : List Ask) (place : Option ℕ) → most_of status ≤ count_by (is_of_kind status) asks
    → position (is_of_kind status) asks ≡ place → with_room status asks ≡ without place asks
full status asks place many e =
    ap (λ (b : Bool). if b then asks else without (position (is_of_kind status) asks) asks)
    (le-ltb (count_by (is_of_kind status) asks) (most_of status) many)
    ∙ ap (λ (o : Option ℕ). without o asks) e

-- there are as many as may be, but none is there
pub room_none : (status : Bool) (asks : List Ask) → most_of status ≤ count_by (is_of_kind status) asks
    → position (is_of_kind status) asks ≡ None → asks ≡ with_room status asks
room_none status asks many e = sym (full status asks None many e)

-- there are as many as may be, and the oldest is closed
pub room_made : (status : Bool) (asks left : List Ask) (place : ℕ) → most_of status ≤ count_by (is_of_kind status) asks
    → position (is_of_kind status) asks ≡ Some place → left ≡ remove asks place → left ≡ with_room status asks
room_made status asks left place many e closed = closed ∙ sym (full status asks (Some place) many e)

-- the ask at the place is closed
pub closes : (asks left : List Ask) (place : ℕ) (h : Heard) → IsAnswer asks place h → left ≡ remove asks place
    → Closes h asks left
closes asks left place h a e =
    let front : List Ask = take place asks in
    let rest : drop place asks ≡ a.ask ∷ drop (place + 1) asks =
    drop_more asks place a.ask a.within ∙ ap (λ x. x ∷ drop (place + 1) asks) a.at in
    record {
      before = front;
      ask = a.ask;
      after = drop (place + 1) asks;
      was = sym (take-append-drop place asks) ∙ ap (λ l. front ++ l) rest;
      stay = e ∙ ap (λ n. front ++ drop n asks) (sym (add-one place));
      answers = a.answers;
    }

-- an answer is no press
pub answer_unpressed : (asks : List Ask) (place : ℕ) (h : Heard) → IsAnswer asks place h → IsUnpressed h
answer_unpressed asks place h a = unpressed_of a.ask.letter h a.answers

-- it is one of an ask that is there
pub answer_within : (asks : List Ask) (place : ℕ) (h : Heard) → IsAnswer asks place h → place < length asks
answer_within asks place h a = a.within

-- the oldest of a kind is there
pub oldest_within : (status : Bool) (asks : List Ask) (place : ℕ) (a : Ask)
    → position (is_of_kind status) asks ≡ Some place → place < length asks
oldest_within status asks place a e = (position-Some (is_of_kind status) asks place a e).0

-- The oldest of a kind was closed, by what was counted and found.
pub room_closed : (status is : Bool) (asks seen seen_then left : List Ask) (count most place : ℕ) (found : Option ℕ)
    → is ≡ status → seen ≡ asks → seen_then ≡ asks → count ≡ count_by (is_of_kind is) seen → most ≡ most_of is
    → most ≤ count → found ≡ position (is_of_kind is) seen_then → found ≡ Some place → left ≡ remove asks place
    → left ≡ with_room status asks
room_closed status is asks seen seen_then left count most place found e f g c m many p h closed =
    room_made status asks left place
    (subst (λ (b : Bool). most_of b ≤ count_by (is_of_kind b) asks) e
    (subst (λ (s : List Ask). most_of is ≤ count_by (is_of_kind is) s) f
    (subst (λ (n : ℕ). n ≤ count_by (is_of_kind is) seen) m (subst (λ (n : ℕ). most ≤ n) c many))))
    (subst (λ (b : Bool). position (is_of_kind b) asks ≡ Some place) e
    (subst (λ (s : List Ask). position (is_of_kind is) s ≡ Some place) g (sym p ∙ h)))
    closed

-- None was found, by what was counted.
pub room_unfound : (status is : Bool) (asks seen seen_then : List Ask) (count most : ℕ) (found : Option ℕ)
    → is ≡ status → seen ≡ asks → seen_then ≡ asks → count ≡ count_by (is_of_kind is) seen → most ≡ most_of is
    → most ≤ count → found ≡ position (is_of_kind is) seen_then → found ≡ None → asks ≡ with_room status asks
room_unfound status is asks seen seen_then count most found e f g c m many p h =
    room_none status asks
    (subst (λ (b : Bool). most_of b ≤ count_by (is_of_kind b) asks) e
    (subst (λ (s : List Ask). most_of is ≤ count_by (is_of_kind is) s) f
    (subst (λ (n : ℕ). n ≤ count_by (is_of_kind is) seen) m (subst (λ (n : ℕ). most ≤ n) c many))))
    (subst (λ (b : Bool). position (is_of_kind b) asks ≡ None) e
    (subst (λ (s : List Ask). position (is_of_kind is) s ≡ None) g (sym p ∙ h)))
