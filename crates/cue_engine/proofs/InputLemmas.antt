-- What a datagram gives, by its cases.
use Rattle.std.proofs.Common.{◌≡◌, ℕ, Bool, true, false, List, ◌++◌, Result, Ok, Err, if◌then◌else◌, refl, sym, subst}
use Rattle.cue_core.specs.State.{ShowState}
use Rattle.cue_core.specs.Steps.{after_events}
use Rattle.cue_core.specs.declared.refusal.Refusal.{Refusal}
use Rattle.cue_core.specs.declared.refusal.Refusal.TheVariants as refusal
use Rattle.cue_osc.specs.Content.{Content}
use Rattle.cue_outbox.specs.New.{newly_pending}
use Rattle.cue_engine.specs.Heard.{Heard, hear_all, all_counts, all_events, replies_or_one, sent_to}
use Rattle.cue_engine.specs.Given.{Given, datagram, given_of, given_by, given_heard, given_refused}
use Rattle.cue_engine.specs.Given.{are_too_many, messages_in}
use Rattle.cue_engine.specs.Accounts.{replies_of, new_orders}

-- what is given where it is not too much
abbrev pub in_full : ShowState → ℕ → List Heard → Given
in_full s from hs = record {
  batch = all_events hs;
  sends = sent_to from (replies_or_one hs) ++ newly_pending s
      (after_events s (all_events hs));
  counts = all_counts hs;
  replies = replies_of from hs;
  orders = new_orders (all_events hs) (after_events s (all_events hs));
}

pub given_by_test : (s : ShowState) (from : ℕ) (hs : List Heard) (b : Bool) → are_too_many hs ≡ b
    → given_heard s from hs ≡ (if b then given_refused from refusal.TooMany else in_full s from hs)
unfolding given_heard
given_by_test s from hs b e = rw e refl

-- what holds of each datagram that is refused whole, and of this one in full, holds of this one
pub datagram_case : (P : Given → Type 0) (s : ShowState) (now from : ℕ) (bytes : List ℕ)
    → ((why : Refusal) → P (given_refused from why))
    → ((ms : List Content) → are_too_many (hear_all s now from ms) ≡ false
    → P (in_full s from (hear_all s now from ms)))
    → P (given_of s now (datagram from bytes))
unfolding given_of
datagram_case P s now from bytes whole full = by (messages_in now bytes)
  where
    heard : (ms : List Content) (b : Bool) → are_too_many (hear_all s now from ms) ≡ b
        → P (given_heard s from (hear_all s now from ms))
    heard ms true e = subst P (sym (given_by_test s from (hear_all s now from ms) true e)) (whole refusal.TooMany)
    heard ms false e = subst P (sym (given_by_test s from (hear_all s now from ms) false e)) (full ms e)

    by : (r : Result (List Content) Refusal) → P (given_by s now from r)
    by (Err why) = whole why
    by (Ok ms) = heard ms (are_too_many (hear_all s now from ms)) refl
