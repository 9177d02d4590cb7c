-- What is sent was pending: in the state, or after the first of the events.
use Rattle.std.proofs.Common.{ℕ, suc, ◌<◌, List, [], ◌∷◌, ◌++◌, length, refl, sym, ap, ◌∙◌, subst, arith, append-nil}
use Rattle.std.proofs.Common.{append_assoc}
use Rattle.std.specs.List.{AllByRecursion, Contains}
use Rattle.cue_core.specs.declared.event.Event.{Event}
use Rattle.cue_core.specs.Pending.{Order, pending}
use Rattle.cue_core.specs.State.{ShowState}
use Rattle.cue_core.specs.Steps.{after_events}
use Rattle.cue_core.proofs.rules.ApplyLemmas.{after_events-append}
use Rattle.cue_outbox.specs.Sending.{Send, order, all_pending}
use Rattle.cue_outbox.proofs.ListLemmas.{each_map}
use Rattle.cue_engine.specs.Runs.{WasPending}
use Rattle.cue_engine.proofs.SentLemmas.{Each}

-- an order that is sent was pending
abbrev pub WasAsked : ShowState → List Event → Send → Type 0
WasAsked s es (order o) = WasPending s es o
WasAsked s es _ = Unit {0}

-- ---- elements of a list

-- one that is at a place is there, too, where one more stands before it
pub further : {X : Type 0} (x y : X) (xs : List X) → Contains xs y → Contains (x ∷ xs) y
further x y xs c = let lt : c.0 < length xs = c.1 in (suc c.0, omega arith, c.2)

each_of : {X : Type 0} (P : X → Type 0) (xs : List X) → ((x : X) → Contains xs x → P x) → AllByRecursion P xs
each_of P [] f = tt
each_of P (x ∷ xs) f = (f x (0, omega arith, refl), each_of P xs (λ y c. f y (further x y xs c)))

-- ---- more events before and after

pub asked_more : (s : ShowState) (es fs : List Event) (m : Send) → WasAsked s es m → WasAsked s (es ++ fs) m
asked_more s es fs (order o) h = record {
  before = h.before;
  later = h.later ++ fs;
  split = ap (λ (xs : List Event). xs ++ fs) h.split ∙ append_assoc h.before h.later fs;
  port = h.port;
  there = h.there;
}
asked_more s es fs _ h = tt

pub asked_earlier : (s : ShowState) (es fs : List Event) (m : Send) → WasAsked (after_events s es) fs m
    → WasAsked s (es ++ fs) m
asked_earlier s es fs (order o) h = record {
  before = es ++ h.before;
  later = h.later;
  split = ap (λ (xs : List Event). es ++ xs) h.split ∙ sym (append_assoc es h.before h.later);
  port = h.port;
  there = subst (λ (t : ShowState). Contains (pending t) (h.port, o)) (sym (after_events-append s es h.before)) h.there;
}
asked_earlier s es fs _ h = tt

-- ---- what is pending

pub pending_asked : (s : ShowState) (es : List Event) → Each (WasAsked s es) (all_pending (after_events s es))
pending_asked s es =
    let t : ShowState = after_events s es in
    each_map (λ (m : ℕ × Send). WasAsked s es m.1) (λ (o : ℕ × Order). (o.0, order o.1)) (pending t)
    (each_of (λ (o : ℕ × Order). WasPending s es o.1) (pending t)
    (λ o c. record { before = es; later = []; split = sym (append-nil es); port = o.0; there = c }))
