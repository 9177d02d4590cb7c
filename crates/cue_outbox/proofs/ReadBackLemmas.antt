-- What is sent can be written, and is read again as what was meant.
use Rattle.std.proofs.Common.{◌≡◌, ℕ, zero, suc, ◌^◌, ◌<◌, ◌≤◌, lit≤, pos, ◌&&◌, IsTrue, List, [], ◌∷◌, length, take}
use Rattle.std.proofs.Common.{Option, Some, None, Ok, rules, arith}
use Rattle.std.specs.Prelude.{FitsSigned, IfSome, is_some, unwrap_or}
use Rattle.std.proofs.lemmas.Bool.{and_parts}
use Rattle.std.specs.Int.{w32}
use Rattle.std.proofs.lemmas.Int.{ints}
use Rattle.std.proofs.lemmas.List.{length-append, length-replicate, length-take}
use Rattle.cue_osc.specs.Content.{Content}
use Rattle.cue_osc.specs.Spelling.{IsText}
use Rattle.cue_osc.specs.Plain.{IsPlain}
use Rattle.cue_osc.specs.Reading.{datagram_at}
use Rattle.cue_osc.specs.Writing.{text_of, IsInRange}
use Rattle.cue_osc.proofs.WrittenLemmas.{text_spells}
use Rattle.cue_osc.proofs.PacketLemmas.{datagram_again}
use Rattle.cue_core.specs.Pending.{standby, go_2pc, cancel}
use Rattle.cue_exchange.specs.declared.attempt.Outcome.{Outcome}
use Rattle.cue_exchange.specs.declared.attempt.Outcome.TheVariants as outcomes
use Rattle.cue_show.specs.declared.part.Part.{Part}
use Rattle.cue_show.specs.Number.{is_cue_number}
use Rattle.cue_show.specs.Parts.{are_parts}
use Rattle.cue_show.specs.Show.{parts_of, are_known, is_place_of, is_cue_of}
use Rattle.cue_show.proofs.ChangeLemmas.{is_cue_of-parts_of}
use Rattle.cue_show.proofs.ShowLemmas.{show_rules}
use Rattle.cue_core.specs.declared.event.Ended.{Ended}
use Rattle.cue_core.specs.State.{ShowState, is_state}
use Rattle.cue_core.proofs.rules.RuleLemmas.{rules_of}
use Rattle.cue_outbox.specs.Sending.{reply, status, order_content, send_content, status_of, ended_number}
use Rattle.cue_outbox.specs.Sending.{ended_outcome}
use Rattle.cue_exchange.specs.Outcomes.{outcome_number}
use Rattle.cue_outbox.specs.Laws.{RepliesAreRead, StatusIsRead}
use Rattle.cue_show.proofs.NumberLemmas.{number_text, number_short}
use Rattle.cue_outbox.proofs.FactLemmas.{last_fits, live_fits, ended_fits}
use Rattle.cue_osc.specs.declared.limits.TheConstants.{MAX_LEN}

-- a message that can be written
pub record IsWritable (c : Content) : Type 0 where
  pub plain : IsPlain 8 c
  pub in_range : IsInRange c
  pub short : length (text_of c) ≤ MAX_LEN

-- and is read again
pub read_back : (c : Content) → IsWritable c → datagram_at (text_of c) ≡ Ok c
read_back c w = datagram_again (text_of c) c (text_spells c w.plain w.in_range w.short)

-- a number that an int32 holds
fits : (n : ℕ) → n < 2 ^ 31 → FitsSigned w32 (pos n)
fits n h = omega (arith, ints)

pub answer_writable : (address : List ℕ) (made known refused code : ℕ) → IsText address → length address ≤ 64
    → made < 2 ^ 31 → known < 2 ^ 31 → refused < 2 ^ 31 → code < 2 ^ 31
    → IsWritable (send_content (reply address made known refused code))
unfolding send_content
answer_writable address made known refused code is_text short m k r c = record {
  plain = search rules;
  in_range = (tt, (fits made m, (fits known k, (fits refused r, (fits code c, tt)))));
  short = simp (length-append, length-replicate) (omega arith);
}

pub status_writable : (last : ℕ) (place : List ℕ) (live ended outcome : ℕ) → last < 2 ^ 31 → IsText place
    → length place ≤ 16 → live < 2 ^ 31 → ended < 2 ^ 31 → outcome < 2 ^ 31
    → IsWritable (send_content (status last place live ended outcome))
unfolding send_content
status_writable last place live ended outcome l is_text short v e o = record {
  plain = search rules;
  in_range = (fits last l, (tt, (fits live v, (fits ended e, (fits outcome o, tt)))));
  short = simp (length-append, length-replicate) (omega arith);
}

pub standby_writable : (q d : ℕ) (cue bytes : List ℕ) → q < 2 ^ 31 → d < 2 ^ 31 → IsText cue → length cue ≤ 16
    → length bytes ≤ 32 → IsWritable (order_content (standby q d cue bytes))
unfolding order_content
standby_writable q d cue bytes m k is_text short part_short = record {
  plain = search rules;
  in_range = (fits q m, (fits d k, (tt, (tt, tt))));
  short = simp (length-append, length-replicate) (omega arith);
}

pub go_2pc_writable : (q d : ℕ) → q < 2 ^ 31 → d < 2 ^ 31 → IsWritable (order_content (go_2pc q d))
unfolding order_content
go_2pc_writable q d m k = record {
  plain = search rules;
  in_range = (fits q m, (fits d k, tt));
  short = search rules;
}

pub cancel_writable : (q d : ℕ) → q < 2 ^ 31 → d < 2 ^ 31 → IsWritable (order_content (cancel q d))
unfolding order_content
cancel_writable q d m k = record {
  plain = search rules;
  in_range = (fits q m, (fits d k, tt));
  short = search rules;
}

-- ---- replies

front_text : (n : ℕ) (t : List ℕ) → IsText t → IsText (take n t)
front_text zero t h = tt
front_text (suc n) [] h = tt
front_text (suc n) (b ∷ bs) h = (h.0, front_text n bs h.1)

reply_read : (most : ℕ) (address : List ℕ) (made known refused code : ℕ) → most ≤ 64 → IsText address → made < 2 ^ 16
    → known < 2 ^ 16 → refused < 2 ^ 16 → code < 2 ^ 16
    → datagram_at (text_of (send_content (reply (take most address) made known refused code))) ≡ Ok
    (send_content (reply (take most address) made known refused code))
reply_read most address made known refused code few is_text m k r c =
    read_back (send_content (reply (take most address) made known refused code))
    (answer_writable (take most address) made known refused code (front_text most address is_text)
    (omega (arith, length-take most address)) (omega arith) (omega arith) (omega arith) (omega arith))

pub replies-are-read : RepliesAreRead
replies-are-read address made known refused code is_text m k r c =
    reply_read 64 address made known refused code (lit≤ tt) is_text m k r c

-- ---- the status

-- a cue of the stack has a number
place_number : (s : ShowState) (c : List ℕ) → IsTrue (is_state s) → IsTrue (is_place_of s.show (Some c))
    → IsTrue (is_cue_number c)
place_number s c h place = by (parts_of s.show c) (is_cue_of-parts_of s.show c (rules_of s h).show) place
  where
    by : (o : Option (List Part)) → IfSome o (λ parts. IsTrue (is_cue_of s.show (c, parts))) → IsTrue (is_some o)
        → IsTrue (is_cue_number c)
    by None cue there = absurd cc
    by (Some parts) cue there = (and_parts (is_cue_number c) (are_parts parts && are_known s.show parts) cue).0

-- a place is none, or a cue number
place_parts : (s : ShowState) → IsTrue (is_state s) → IsText (unwrap_or s.show.place [])
    × (length (unwrap_or s.show.place []) ≤ 16)
place_parts s h = by s.show.place (show_rules s.show (rules_of s h).show).place
  where
    by : (o : Option (List ℕ)) → IsTrue (is_place_of s.show o) → IsText (unwrap_or o [])
        × (length (unwrap_or o []) ≤ 16)
    by None place = (tt, omega arith)
    by (Some c) place = let n = place_number s c h place in (number_text c n, number_short c n)

outcome_small : (o : Outcome) → outcome_number o ≤ 3
outcome_small outcomes.Complete = omega arith
outcome_small outcomes.Cancelled = omega arith
outcome_small outcomes.Failed = omega arith

ended_small : (e : Option Ended) → ended_outcome e ≤ 3
ended_small None = omega arith
ended_small (Some e) = outcome_small e.outcome

pub status-is-read : StatusIsRead
unfolding status_of
status-is-read s h =
    let place = place_parts s h in
    let last = last_fits s h in
    let live = live_fits s.live (rules_of s h).live in
    let ended = ended_fits s h in
    let outcome = ended_small s.ended in
    read_back (send_content (status_of s))
    (status_writable s.last_seq (unwrap_or s.show.place []) (length s.live) (ended_number s.ended)
    (ended_outcome s.ended) (omega arith) place.0 place.1 (omega arith) (omega arith) (omega arith))
