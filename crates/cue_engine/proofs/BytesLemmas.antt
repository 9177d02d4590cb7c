-- What was sent rests on what was decided, down to the bytes of the datagrams.
use Rattle.std.proofs.Common.{◌≡◌, ℕ, pos, Bool, true, false, not, cond, ◌||◌, List, [], ◌∷◌, ◌++◌, length, drop}
use Rattle.std.proofs.Common.{nat_eq, nat_lt, ◌%◌, Result, Ok, Err, refl, sym, ap, ◌∙◌, subst, true≢false, rules}
use Rattle.std.specs.Prelude.{codes, ◌==◌}
use Rattle.std.specs.List.{AllByRecursion, list_any, list_all}
use Rattle.cue_osc.specs.declared.fault.Fault.{Fault}
use Rattle.cue_osc.specs.declared.fault.Fault.TheVariants.{TooLong, NotMultiple}
use Rattle.cue_osc.specs.Argument.{Argument, int}
use Rattle.cue_osc.specs.Content.{Content, message, discarded, bundle}
use Rattle.cue_osc.specs.Spelling.{IsText, osc_string, is_known_tag, comma}
use Rattle.cue_osc.specs.Reading.{◌>>=◌, string_at, all_args_at, tagged_at, after_address, message_at, is_message_start}
use Rattle.cue_osc.specs.Reading.{packet_at, datagram_at}
use Rattle.cue_osc.specs.Writing.{text_of}
use Rattle.cue_osc.proofs.FieldLemmas.{string_again}
use Rattle.cue_osc.proofs.StartLemmas.{message_start}
use Rattle.cue_core.specs.declared.event.Event.{Event}
use Rattle.cue_core.specs.Events.{is_cancel_of, is_go_of, is_start_of}
use Rattle.cue_core.specs.State.{ShowState}
use Rattle.cue_core.specs.Pending.{Order, standby, go_2pc, cancel}
use Rattle.cue_outbox.specs.Sending.{Send, reply, status, order, number, order_content, send_content, datagram}
use Rattle.cue_outbox.specs.Sending.{datagrams}
use Rattle.cue_outbox.proofs.ReadBackLemmas.{IsWritable, read_back}
use Rattle.cue_engine.specs.Runs.{run, joined_list, is_cancelling_in, order_rests}
use Rattle.cue_core.specs.Batches.{is_live_in, is_decided_in}
use Rattle.cue_engine.specs.InBytes.{AreReadAs, BytesRest, BytesOfEachRest}
use Rattle.cue_core.proofs.lists.AnyLemmas.{itself}
use Rattle.cue_core.proofs.lists.ConditionLemmas.{both}
use Rattle.cue_engine.proofs.SentLemmas.{Each, run-each}
use Rattle.cue_engine.proofs.DueLemmas.{IsDue, due_lasts}

-- ---- a message is read with the address in front

abbrev pub address_in : Content → List ℕ
address_in (message a xs) = a
address_in (discarded a) = a
address_in (bundle t cs) = []

-- what is read has this address
abbrev pub HasAddress : List ℕ → Result Content Fault → Type 0
HasAddress a (Ok c) = address_in c ≡ a
HasAddress a (Err f) = Unit {0}

has_if : (b : Bool) (a : List ℕ) (x y : Result Content Fault) → HasAddress a x → HasAddress a y
    → HasAddress a (cond b x y)
has_if true a x y h k = h
has_if false a x y h k = k

has_then : {A : Type 0} (a : List ℕ) (r : Result A Fault) (f : A → Result Content Fault)
    → ((x : A) → HasAddress a (f x)) → HasAddress a (r >>= f)
has_then a (Ok x) f h = h x
has_then a (Err e) f h = tt

tagged_has : (a bytes : List ℕ) → HasAddress a (tagged_at a bytes)
unfolding tagged_at
tagged_has a bytes =
    has_then a (string_at bytes)
    (λ found. cond (list_all is_known_tag (drop 1 found.0))
    (all_args_at (drop 1 found.0) found.1 >>= λ xs. Ok (message a xs)) (Ok (discarded a)))
    (λ found. has_if (list_all is_known_tag (drop 1 found.0)) a
    (all_args_at (drop 1 found.0) found.1 >>= λ xs. Ok (message a xs)) (Ok (discarded a))
    (has_then a (all_args_at (drop 1 found.0) found.1) (λ xs. Ok (message a xs)) (λ xs. refl)) refl)

behind_has : (a rest : List ℕ) → HasAddress a (after_address a rest)
unfolding after_address
behind_has a [] = refl
behind_has a (b ∷ bs) = has_if (b == comma) a (tagged_at a (b ∷ bs)) (Ok (discarded a)) (tagged_has a (b ∷ bs)) refl

message_has : (a rest : List ℕ) → IsText a → HasAddress a (message_at (osc_string a ++ rest))
unfolding message_at
message_has a rest is_text = let P : Result (List ℕ × List ℕ) Fault
    → Type 0 = λ r. HasAddress a (r >>= λ x. after_address x.0 x.1) in
    subst P (sym (string_again a rest is_text)) (behind_has a rest)

pub datagram_has : (a rest : List ℕ) → IsText a → is_message_start (osc_string a ++ rest) ≡ true
    → HasAddress a (datagram_at (osc_string a ++ rest))
unfolding datagram_at
datagram_has a rest is_text starts =
    let bytes : List ℕ = osc_string a ++ rest in
    let P : Result Content Fault → Type 0 = λ r. HasAddress a r in
    has_if (nat_lt 4096 (length bytes)) a (Err TooLong)
    (cond (not (length bytes % 4 == 0)) (Err NotMultiple) (packet_at 8 bytes)) tt
    (has_if (not (length bytes % 4 == 0)) a (Err NotMultiple) (packet_at 8 bytes) tt
    (subst P (sym (message_start 8 bytes starts)) (message_has a rest is_text)))

-- ---- addresses differ in their sixth character

abbrev pub letter : List ℕ → ℕ
letter (a ∷ b ∷ c ∷ d ∷ e ∷ f ∷ others) = f
letter _ = 0

pub differ : {A : Type 0} (a b : List ℕ) → nat_eq (letter a) (letter b) ≡ false → a ≡ b → A
differ a b apart e = let P : List ℕ → Type 0 = λ x. nat_eq (letter a) (letter x) ≡ true in
    absurd (true≢false (sym (subst P e (itself (letter a))) ∙ apart))

-- an address that no order has
pub record IsApart (a : List ℕ) : Type 0 where
  pub standby : nat_eq (letter (codes "/msc/standby")) (letter a) ≡ false
  pub go_2pc : nat_eq (letter (codes "/msc/go_2pc")) (letter a) ≡ false
  pub cancel : nat_eq (letter (codes "/msc/cancel")) (letter a) ≡ false

-- bytes of the one address are not read as a message to the other
not_read : {A : Type 0} (a b rest : List ℕ) (q : ℕ) → IsText a → is_message_start (osc_string a ++ rest) ≡ true
    → nat_eq (letter b) (letter a) ≡ false → AreReadAs (osc_string a ++ rest) b q → A
not_read a b rest q is_text starts apart read = let P : Result Content Fault → Type 0 = λ r. HasAddress a r in
    differ b a apart (subst P read.1 (datagram_has a rest is_text starts))

-- ---- no answer and no status is read as a command

apart_rests : (s : ShowState) (es : List Event) (a rest : List ℕ) → IsText a
    → is_message_start (osc_string a ++ rest) ≡ true → IsApart a → BytesRest s es (osc_string a ++ rest)
apart_rests s es a rest is_text starts apart = record {
  go_2pc = λ q read. not_read a (codes "/msc/go_2pc") rest q is_text starts apart.go_2pc read;
  standby = λ q read. not_read a (codes "/msc/standby") rest q is_text starts apart.standby read;
  cancel = λ q read. not_read a (codes "/msc/cancel") rest q is_text starts apart.cancel read;
  cancelled = λ q read. not_read a (codes "/msc/cancel") rest q is_text starts apart.cancel read;
}

pub reply_apart : IsApart (codes "/reply")
reply_apart = record { standby = refl; go_2pc = refl; cancel = refl }

pub status_apart : IsApart (codes "/status")
status_apart = record { standby = refl; go_2pc = refl; cancel = refl }

-- ---- a command is read as what was meant

abbrev pub number_in : Argument → ℕ
number_in (int (pos n)) = n
number_in _ = 0

abbrev pub first_number : Content → ℕ
first_number (message a (x ∷ xs)) = number_in x
first_number _ = 0

abbrev pub content_or : Content → Result Content Fault → Content
content_or c (Ok d) = d
content_or c (Err f) = c

read_as : (c : Content) (a : List ℕ) (q : ℕ) → IsWritable c → (read : AreReadAs (text_of c) a q)
    → c ≡ message a (number q ∷ read.0)
read_as c a q w read = ap (content_or c) (sym (read_back c w) ∙ read.1)

-- it is read as a message to no other address, and to its own about its own number
not_as : {A : Type 0} (c : Content) (a : List ℕ) (q : ℕ) → IsWritable c
    → nat_eq (letter (address_in c)) (letter a) ≡ false → AreReadAs (text_of c) a q → A
not_as c a q w apart read = differ (address_in c) a apart (ap address_in (read_as c a q w read))

number_as : (c : Content) (a : List ℕ) (q : ℕ) → IsWritable c → AreReadAs (text_of c) a q → first_number c ≡ q
number_as c a q w read = ap first_number (read_as c a q w read)

order_says : (s : ShowState) (es : List Event) (o : Order) → IsWritable (order_content o) → order_rests s es o ≡ true
    → BytesRest s es (text_of (order_content o))
unfolding order_content
order_says s es (go_2pc p d) w h =
    let c : Content = order_content (go_2pc p d) in
    let P : ℕ → Type 0 = λ n. (is_decided_in s n || list_any (is_go_of n) es) ≡ true in
    record {
      go_2pc = λ q read. subst P (number_as c (codes "/msc/go_2pc") q w read) h;
      standby = λ q read. not_as c (codes "/msc/standby") q w refl read;
      cancel = λ q read. not_as c (codes "/msc/cancel") q w refl read;
      cancelled = λ q read. not_as c (codes "/msc/cancel") q w refl read;
    }
order_says s es (standby p d name bytes) w h =
    let c : Content = order_content (standby p d name bytes) in
    let P : ℕ → Type 0 = λ n. (is_live_in s n || list_any (is_start_of n) es) ≡ true in
    record {
      go_2pc = λ q read. not_as c (codes "/msc/go_2pc") q w refl read;
      standby = λ q read. subst P (number_as c (codes "/msc/standby") q w read) h;
      cancel = λ q read. not_as c (codes "/msc/cancel") q w refl read;
      cancelled = λ q read. not_as c (codes "/msc/cancel") q w refl read;
    }
order_says s es (cancel p d) w h =
    let c : Content = order_content (cancel p d) in
    let k = both (is_live_in s p || list_any (is_start_of p) es) _ h in
    let P : ℕ → Type 0 = λ n. (is_live_in s n || list_any (is_start_of n) es) ≡ true in
    let Q : ℕ → Type 0 = λ n. (is_cancelling_in s n || list_any (is_cancel_of n) es) ≡ true in
    record {
      go_2pc = λ q read. not_as c (codes "/msc/go_2pc") q w refl read;
      standby = λ q read. not_as c (codes "/msc/standby") q w refl read;
      cancel = λ q read. subst P (number_as c (codes "/msc/cancel") q w read) k.0;
      cancelled = λ q read. subst Q (number_as c (codes "/msc/cancel") q w read) k.1;
    }

-- ---- all of them

says : (s : ShowState) (es : List Event) (m : Send) → IsDue s es m → BytesRest s es (text_of (send_content m))
unfolding send_content
says s es (reply a m k r c) due = apart_rests s es (codes "/reply") _ (search rules) refl reply_apart
says s es (status l p v e o) due = apart_rests s es (codes "/status") _ (search rules) refl status_apart
says s es (order o) due = order_says s es o due.readable due.decided

pub all_say : (s : ShowState) (es : List Event) (ms : List (ℕ × Send)) → Each (IsDue s es) ms
    → AllByRecursion (λ d. BytesRest s es d.1) (datagrams ms)
unfolding datagram
all_say s es [] due = tt
all_say s es (m ∷ ms) due = (says s es m.1 due.0, all_say s es ms due.1)

pub bytes_of_each_rest : BytesOfEachRest
bytes_of_each_rest s hs h = all_say s (joined_list (run s hs).batches) (run s hs).sends (run-each due_lasts s hs h)
