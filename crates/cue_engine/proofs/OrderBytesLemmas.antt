-- Bytes that are read as an order are those of the order that was sent.
use Rattle.std.proofs.Common.{◌≡◌, ℕ, List, [], ◌∷◌, ◌++◌, Result, nat_eq, true, false, refl, sym, ap, ◌∙◌, subst}
use Rattle.std.proofs.Common.{rules}
use Rattle.std.specs.Prelude.{codes}
use Rattle.std.specs.List.{AllByRecursion}
use Rattle.cue_osc.specs.declared.fault.Fault.{Fault}
use Rattle.cue_osc.specs.Content.{Content}
use Rattle.cue_osc.specs.Spelling.{IsText, osc_string}
use Rattle.cue_osc.specs.Reading.{is_message_start}
use Rattle.cue_osc.specs.Writing.{text_of}
use Rattle.cue_core.specs.declared.event.Event.{Event}
use Rattle.cue_core.specs.Pending.{Order, standby, go_2pc, cancel}
use Rattle.cue_core.specs.State.{ShowState}
use Rattle.cue_outbox.specs.Sending.{Send, reply, status, order, order_content, send_content, datagram, datagrams}
use Rattle.cue_outbox.proofs.ReadBackLemmas.{IsWritable, read_back}
use Rattle.cue_engine.specs.InBytes.{BytesPending}
use Rattle.cue_engine.specs.Runs.{WasPending}
use Rattle.cue_engine.proofs.BytesLemmas.{HasAddress, IsApart, address_in, content_or, datagram_has, differ, letter}
use Rattle.cue_engine.proofs.BytesLemmas.{reply_apart, status_apart}
use Rattle.cue_engine.proofs.DueLemmas.{IsDue}
use Rattle.cue_engine.proofs.SentLemmas.{Each}

-- ---- an order by its content

same_order : (p o : Order) → order_content p ≡ order_content o → p ≡ o
unfolding order_content
same_order (standby q d c b) (standby r e k m) is = cc
same_order (go_2pc q d) (go_2pc r e) is = cc
same_order (cancel q d) (cancel r e) is = cc
same_order p o is = differ (address_in (order_content p)) (address_in (order_content o)) refl (ap address_in is)

-- ---- what is no order is not read as one

order_apart : (a : List ℕ) → IsApart a → (o : Order)
    → nat_eq (letter (address_in (order_content o))) (letter a) ≡ false
unfolding order_content
order_apart a apart (standby q d c b) = apart.standby
order_apart a apart (go_2pc q d) = apart.go_2pc
order_apart a apart (cancel q d) = apart.cancel

apart_pending : (s : ShowState) (es : List Event) (a rest : List ℕ) → IsText a
    → is_message_start (osc_string a ++ rest) ≡ true → IsApart a → BytesPending s es (osc_string a ++ rest)
apart_pending s es a rest is_text starts apart o read = let P : Result Content Fault → Type 0 = λ r. HasAddress a r in
    differ (address_in (order_content o)) a (order_apart a apart o) (subst P read (datagram_has a rest is_text starts))

order_pending : (s : ShowState) (es : List Event) (p : Order) → IsWritable (order_content p) → WasPending s es p
    → BytesPending s es (text_of (order_content p))
order_pending s es p w h o read =
    let is : order_content p ≡ order_content o =
    ap (content_or (order_content p)) (sym (read_back (order_content p) w) ∙ read) in
    subst (WasPending s es) (same_order p o is) h

-- ---- all of them

was_pending : (s : ShowState) (es : List Event) (m : Send) → IsDue s es m
    → BytesPending s es (text_of (send_content m))
unfolding send_content
was_pending s es (reply a m k r c) due = apart_pending s es (codes "/reply") _ (search rules) refl reply_apart
was_pending s es (status l p v e o) due = apart_pending s es (codes "/status") _ (search rules) refl status_apart
was_pending s es (order p) due = order_pending s es p due.readable due.asked

pub all_pending_in_bytes : (s : ShowState) (es : List Event) (ms : List (ℕ × Send)) → Each (IsDue s es) ms
    → AllByRecursion (λ d. BytesPending s es d.1) (datagrams ms)
unfolding datagram
all_pending_in_bytes s es [] due = tt
all_pending_in_bytes s es (m ∷ ms) due = (was_pending s es m.1 due.0, all_pending_in_bytes s es ms due.1)
