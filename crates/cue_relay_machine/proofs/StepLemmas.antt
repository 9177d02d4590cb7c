-- What a step gives.
use Rattle.std.proofs.Common.{◌≡◌, ℕ, Bool, true, false, cond, List, [], ◌++◌, Option, Some, None, refl, sym, ap}
use Rattle.std.proofs.Common.{◌∙◌}
use Rattle.std.proofs.Common.{◌≤◌, ◌<◌, length, append-nil}
use Rattle.std.specs.Prelude.{get_or, is_some, slice_get}
use Rattle.std.proofs.lemmas.Option.{slice_get_past, slice_get_read}
use Rattle.cue_machine.specs.declared.address.Address as machine
use Rattle.cue_machine.specs.declared.ears.Input.TheVariants as input
use Rattle.cue_machine.specs.Hearing.{heard_as}
use Rattle.cue_machine.specs.Posting.{Given}
use Rattle.cue_relay.specs.declared.claims.Claim.{Claim}
use Rattle.cue_relay.specs.declared.going.Going.{Going}
use Rattle.cue_relay.specs.declared.messages.Message.{Message}
use Rattle.cue_relay.specs.declared.relaying.Relay.{Relay}
use Rattle.cue_relay.specs.Hearing.{told_of_message}
use Rattle.cue_relay.specs.Rates.{admits, meters_after}
use Rattle.cue_relay.specs.Telling.{claim_from, claim_of}
use Rattle.cue_relay.specs.Relayed.{goes_on, times_then, way_and_message}
use Rattle.cue_relay_machine.specs.declared.books.Books.{Books}
use Rattle.cue_relay_machine.specs.declared.copies.Waiting.{Waiting}
use Rattle.cue_relay_machine.specs.declared.known.Known.{Known}
use Rattle.cue_relay_machine.specs.Books.{one_dropped, one_passed}
use Rattle.cue_relay_machine.specs.Copies.{taken_at}
use Rattle.cue_relay_machine.specs.Places.{opening_at, relay_address}
use Rattle.cue_relay_machine.specs.Steps.{State, Steps, books_after, came, going_given, known_after, news_given}
use Rattle.cue_relay_machine.specs.Steps.{books_told, known_told, state_heard, told_given, waiting_after}
use Rattle.cue_relay_machine.specs.Texts.{take_at}

-- what is left of a datagram that would go on so, once it was asked whether it goes on now
abbrev pub state_taken : State → ℕ → ℕ → List ℕ → (would goes : Option Going) → Option Claim → State
state_taken s now at bytes would goes claim = record {
  relay = s.relay;
  file = s.file;
  meters = cond (is_some would) (meters_after s.meters (opening_at at) now) s.meters;
  known = known_told (known_after s.known at now goes) at now claim;
  waiting = waiting_after s.waiting at now bytes goes;
  woken = false;
  books = books_told s.books claim goes;
}

pub taken : (s : State) (now at : ℕ) (from : machine.Address) (bytes : List ℕ) (would : Option Going) (b : Bool)
    (claim : Option Claim) (date : List ℕ) (given : List Given) (s_then : State)
    → way_and_message s.relay (opening_at at) (relay_address from) bytes ≡ would
    → admits s.meters (opening_at at) now ≡ b → claim_of s.relay (came now at from bytes) ≡ claim
    → given ≡ going_given date s.known at bytes (cond b would None)
    → s_then ≡ state_taken s now at bytes would (cond b would None) claim
    → Steps s (heard_as now (input.Datagram at from) bytes) given s_then
taken s now at from bytes would b claim date given s_then e f told g h =
    let meters = s.meters in
    let goes : goes_on s.relay meters (came now at from bytes) ≡ cond b would None =
    ap (λ (o : Option Going). cond (admits meters (opening_at at) now) o None) e
    ∙ ap (λ (c : Bool). cond c would None) f in
    let times : times_then s.relay meters (came now at from bytes)
    ≡ cond (is_some would) (meters_after meters (opening_at at) now) meters =
    ap (λ (o : Option Going). cond (is_some o) (meters_after meters (opening_at at) now) meters) e in
    record {
      date = date;
      gave = g ∙ sym (ap (going_given date s.known at bytes) goes);
      left = h ∙ sym (ap (λ (m : List (List ℕ)). record {
        relay = s.relay;
        file = s.file;
        meters = m;
        known = known_told (known_after s.known at now (goes_on s.relay meters (came now at from bytes))) at now
            (claim_of s.relay (came now at from bytes));
        waiting = waiting_after s.waiting at now bytes (goes_on s.relay meters (came now at from bytes));
        woken = false;
        books = books_told s.books (claim_of s.relay (came now at from bytes))
            (goes_on s.relay meters (came now at from bytes));
      }) times
          ∙ ap (λ (o : Option Going). state_taken s now at bytes would o (claim_of s.relay (came now at from bytes)))
          goes
          ∙ ap (λ (o : Option Claim). state_taken s now at bytes would (cond b would None) o) told);
    }

none_either : (b : Bool) → cond {A = Option Going} b None None ≡ None
none_either true = refl
none_either false = refl

-- what was heard of a datagram to which no way leads on
heard_taken : (s : State) (now at : ℕ) (bytes : List ℕ) (claim : Option Claim)
    → state_heard s now (opening_at at).route claim ≡ state_taken s now at bytes None None claim
heard_taken s now at bytes None = refl
heard_taken s now at bytes (Some c) = refl

-- no way leads on: nothing is given, and what it tells is kept, or it is dropped
pub heard : (s : State) (now at : ℕ) (from : machine.Address) (bytes : List ℕ) (given : List Given) (s_then : State)
    → way_and_message s.relay (opening_at at) (relay_address from) bytes ≡ None → given ≡ []
    → s_then ≡ state_heard s now (opening_at at).route
    (claim_from s.relay (opening_at at) (relay_address from) bytes)
    → Steps s (heard_as now (input.Datagram at from) bytes) given s_then
heard s now at from bytes given s_then e g h =
    let b : Bool = admits s.meters (opening_at at) now in
    let claim : Option Claim = claim_from s.relay (opening_at at) (relay_address from) bytes in
    let told : claim_of s.relay (came now at from bytes) ≡ claim =
    ap (λ (o : Option Going). cond (is_some o) None claim) e in
    taken s now at from bytes None b claim [] given s_then e refl told
    (g ∙ sym (ap (going_given [] s.known at bytes) (none_either b)))
    (h ∙ heard_taken s now at bytes claim
    ∙ sym (ap (λ (o : Option Going). state_taken s now at bytes None o claim) (none_either b)))

-- what is left of a datagram to which a way leads on, by whether it goes on now
abbrev pub state_settled : State → ℕ → ℕ → List ℕ → Going → Bool → State
state_settled s now at bytes g goes = record {
  relay = s.relay;
  file = s.file;
  meters = meters_after s.meters (opening_at at) now;
  known = cond goes (take_at s.known (opening_at at).route g.message now) s.known;
  waiting = cond goes (taken_at s.waiting (opening_at at).route now g bytes) s.waiting;
  woken = false;
  books = cond goes (one_passed s.books) (one_dropped s.books);
}

-- what says something that may go on tells nothing
untold : (s : State) (now at : ℕ) (from : machine.Address) (bytes : List ℕ) (g : Going)
    → way_and_message s.relay (opening_at at) (relay_address from) bytes ≡ Some g
    → claim_of s.relay (came now at from bytes) ≡ None
untold s now at from bytes g e =
    ap (λ (o : Option Going).
    cond (is_some o) None (claim_from s.relay (opening_at at) (relay_address from) bytes)) e

-- a way leads on: it goes on now, or all that was to be given for it is taken back
pub settled : (s : State) (now at : ℕ) (from : machine.Address) (bytes : List ℕ) (g : Going) (goes : Bool)
    (date : List ℕ) (mid given : List Given) (s_then : State)
    → way_and_message s.relay (opening_at at) (relay_address from) bytes ≡ Some g
    → admits s.meters (opening_at at) now ≡ goes → mid ≡ going_given date s.known at bytes (Some g)
    → given ≡ cond goes mid [] → s_then ≡ state_settled s now at bytes g goes
    → Steps s (heard_as now (input.Datagram at from) bytes) given s_then
settled s now at from bytes g true date mid given s_then e f k l h =
    taken s now at from bytes (Some g) true None date given s_then e f (untold s now at from bytes g e) (l ∙ k) h
settled s now at from bytes g false date mid given s_then e f k l h =
    taken s now at from bytes (Some g) false None date given s_then e f (untold s now at from bytes g e) l h

-- a change of each part is a change of the whole
pub settled_parts : (s s_then : State) (now at : ℕ) (bytes : List ℕ) (g : Going) (goes : Bool)
    → s_then.relay ≡ s.relay → s_then.file ≡ s.file
    → s_then.meters ≡ meters_after s.meters (opening_at at) now
    → s_then.known ≡ cond goes (take_at s.known (opening_at at).route g.message now) s.known
    → s_then.waiting ≡ cond goes (taken_at s.waiting (opening_at at).route now g bytes) s.waiting
    → s_then.woken ≡ false → s_then.books ≡ cond goes (one_passed s.books) (one_dropped s.books)
    → s_then ≡ state_settled s now at bytes g goes
settled_parts s s_then now at bytes g goes a b m k w v c =
    ap (λ (x : Relay). record s_then { relay = x }) a
    ∙ (ap (λ (x : Option (List ℕ)). record s_then { relay = s.relay; file = x }) b
    ∙ (ap (λ (x : List (List ℕ)). record s_then { relay = s.relay; file = s.file; meters = x }) m
    ∙ (ap (λ (x : List Known). record (state_settled s now at bytes g goes) {
      known = x;
      waiting = s_then.waiting;
      woken = s_then.woken;
      books = s_then.books;
    }) k
    ∙ (ap (λ (x : List (Option Waiting)). record (state_settled s now at bytes g goes) {
      waiting = x;
      woken = s_then.woken;
      books = s_then.books;
    }) w
    ∙ (ap (λ (x : Bool). record (state_settled s now at bytes g goes) { woken = x; books = s_then.books }) v
    ∙ ap (λ (x : Books). record (state_settled s now at bytes g goes) { books = x }) c)))))

-- ---- what is said of a device

pub nothing_told : (date : List ℕ) (known : List Known) (route : ℕ) (m : Message) (xs : List Given)
    → length known ≤ route → xs ≡ xs ++ told_given date (slice_get known route) m
nothing_told date known route m xs past =
    sym (ap (λ (o : Option Known). xs ++ told_given date o m) (slice_get_past known route past) ∙ append-nil xs)

pub something_told : (date : List ℕ) (known : List Known) (route : ℕ) (m : Message) (xs ys : List Given) (k : Known)
    → route < length known → k ≡ get_or known route k → ys ≡ xs ++ news_given date k (told_of_message k.contact m)
    → ys ≡ xs ++ told_given date (slice_get known route) m
something_told date known route m xs ys k within is e =
    e ∙ sym (ap (λ (o : Option Known). xs ++ told_given date o m)
    (slice_get_read known (length known) route k refl within is))
