-- What is owed for events is due by them: it rests on them, was pending, and can be read again.
use Rattle.std.proofs.Common.{◌≡◌, ℕ, true, List, [], ◌∷◌, IsTrue, refl}
use Rattle.std.specs.List.{list_all}
use Rattle.cue_core.specs.declared.event.Event.{Event}
use Rattle.cue_core.specs.Pending.{Order, pending}
use Rattle.cue_core.specs.State.{ShowState, is_state}
use Rattle.cue_core.specs.Steps.{after_events}
use Rattle.cue_core.proofs.lists.ConditionLemmas.{both}
use Rattle.cue_core.proofs.rules.BatchLemmas.{is_state-after_events}
use Rattle.cue_outbox.specs.Sending.{Send, order, order_content, all_pending}
use Rattle.cue_outbox.proofs.ListLemmas.{each_map, each_weaker}
use Rattle.cue_outbox.proofs.ReadBackLemmas.{IsWritable}
use Rattle.cue_outbox.proofs.WritableLemmas.{all_writable}
use Rattle.cue_engine.specs.Runs.{given_at, rests, send_rests}
use Rattle.cue_engine.proofs.AskedLemmas.{WasAsked, asked_more, asked_earlier, pending_asked}
use Rattle.cue_engine.proofs.HistoryLemmas.{happening-ok}
use Rattle.cue_engine.proofs.RestingLemmas.{more, earlier, all_pending_rest, all_rests}
use Rattle.cue_engine.proofs.SentLemmas.{Each, Lasts}

-- a command that can be written
abbrev pub IsReadable : Send → Type 0
IsReadable (order o) = IsWritable (order_content o)
IsReadable _ = Unit {0}

pub record IsDue (s : ShowState) (es : List Event) (m : Send) : Type 0 where
  pub decided : send_rests s es m ≡ true
  pub asked : WasAsked s es m
  pub readable : IsReadable m

each_due : (s : ShowState) (es : List Event) (ms : List (ℕ × Send)) → list_all (rests s es) ms ≡ true
    → Each (WasAsked s es) ms → Each IsReadable ms → Each (IsDue s es) ms
each_due s es [] rest asked readable = tt
each_due s es (m ∷ ms) rest asked readable = let w = both (rests s es m) (list_all (rests s es) ms) rest in (
  record { decided = w.0; asked = asked.0; readable = readable.0 },
  each_due s es ms w.1 asked.1 readable.1,
)

pub pending_due : (s : ShowState) (es : List Event) → IsTrue (is_state (after_events s es))
    → Each (IsDue s es) (all_pending (after_events s es))
pending_due s es rules =
    let t : ShowState = after_events s es in
    each_due s es (all_pending t) (all_pending_rest s es) (pending_asked s es)
    (each_map (λ (m : ℕ × Send). IsReadable m.1) (λ (o : ℕ × Order). (o.0, order o.1)) (pending t)
    (all_writable t rules))

-- it stays so with more events, and so it is of all that is sent
pub due_lasts : Lasts (λ s. IsTrue (is_state s)) IsDue
due_lasts = record {
  elsewhere = λ s es. record {
    answers = λ a m k r c. record { decided = refl; asked = tt; readable = tt };
    statuses = λ l p v e o. record { decided = refl; asked = tt; readable = tt };
  };
  pending = pending_due;
  more = λ s es fs m due. record {
    decided = more s es fs m due.decided;
    asked = asked_more s es fs m due.asked;
    readable = due.readable;
  };
  earlier = λ s es fs m due. record {
    decided = earlier s es fs m due.decided;
    asked = asked_earlier s es fs m due.asked;
    readable = due.readable;
  };
  fine = λ s x rules. is_state-after_events s (given_at s x).batch rules (happening-ok s x rules);
}

pub all_decided : (s : ShowState) (es : List Event) (ms : List (ℕ × Send)) → Each (IsDue s es) ms
    → list_all (rests s es) ms ≡ true
all_decided s es ms due = all_rests s es ms (each_weaker (λ (m : ℕ × Send). IsDue s es m.1)
    (λ (m : ℕ × Send). send_rests s es m.1 ≡ true) (λ m d. d.decided) ms due)
