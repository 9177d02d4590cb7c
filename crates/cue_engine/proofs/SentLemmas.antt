-- What holds of answers, of status and of all that is pending holds of all that is sent.
use Rattle.std.proofs.Common.{◌≡◌, ℕ, List, [], ◌∷◌, ◌++◌, refl, sym, subst}
use Rattle.std.specs.List.{AllByRecursion, flat_map}
use Rattle.cue_core.specs.declared.command.Command.{Command}
use Rattle.cue_core.specs.declared.command.Command.TheVariants as command
use Rattle.cue_core.specs.declared.event.Event.{Event}
use Rattle.cue_core.specs.State.{ShowState}
use Rattle.cue_core.specs.Steps.{after_events}
use Rattle.cue_core.specs.InTurn.{Step}
use Rattle.cue_core.specs.Batches.{closed_state}
use Rattle.cue_outbox.specs.New.{newly_pending, is_new}
use Rattle.cue_outbox.specs.Sending.{Send, reply, status, status_of, all_pending, datagrams}
use Rattle.cue_outbox.proofs.ListLemmas.{each_append, each_filter, each_map, each_weaker}
use Rattle.cue_engine.specs.Heard.{Heard, refused, carried, hear_all, all_events, replies_to, replies_or_one}
use Rattle.cue_engine.specs.Heard.{shown_by, sent_to}
use Rattle.cue_engine.specs.Given.{datagram, tick, Given, given_of}
use Rattle.cue_engine.specs.Runs.{Happening, took, given_at, run, joined_list, with_batch}
use Rattle.cue_engine.specs.Runs as runs
use Rattle.cue_engine.proofs.InputLemmas.{datagram_case}

-- it holds of what is no command
pub record HoldsElsewhere (R : Send → Type 0) : Type 0 where
  pub answers : (a : List ℕ) (m k r c : ℕ) → R (reply a m k r c)
  pub statuses : (l : ℕ) (p : List ℕ) (v e o : ℕ) → R (status l p v e o)

-- it holds of each, whatever its port
abbrev pub Each : (Send → Type 0) → List (ℕ × Send) → Type 0
Each R ms = AllByRecursion (λ (m : ℕ × Send). R m.1) ms

-- of all that is sent it holds where it holds of all that is pending after the batch
abbrev pub HoldsOfSent : (Send → Type 0) → ShowState → Given → Type 0
HoldsOfSent R s g = Each R (all_pending (after_events s g.batch)) → Each R g.sends

module _ (R : Send → Type 0) (els : HoldsElsewhere R) where
  shown-each : (c : Command) (t : ShowState) → AllByRecursion R (shown_by c t)
  unfolding status_of
  shown-each command.Status t = (els.statuses _ _ _ _ _, tt)
  shown-each _ t = tt

  flat-each : {A : Type 0} (f : A → List Send) → ((x : A) → AllByRecursion R (f x)) → (xs : List A)
      → AllByRecursion R (flat_map f xs)
  flat-each f h [] = tt
  flat-each f h (x ∷ xs) = each_append R (f x) (flat_map f xs) (h x) (flat-each f h xs)

  reply-each : (h : Heard) → AllByRecursion R (replies_to h)
  reply-each (refused a c) = (els.answers _ _ _ _ _, tt)
  reply-each (carried a xs) = (
    els.answers _ _ _ _ _,
    flat-each (λ (x : Step). shown_by x.command x.before) (λ x. shown-each x.command x.before) xs,
  )

  replies-each : (hs : List Heard) → AllByRecursion R (replies_or_one hs)
  replies-each [] = (els.answers _ _ _ _ _, tt)
  replies-each (h ∷ hs) = flat-each replies_to reply-each (h ∷ hs)

  sent-each : (from : ℕ) (ms : List Send) → AllByRecursion R ms → Each R (sent_to from ms)
  sent-each from ms h = each_map (λ (m : ℕ × Send). R m.1) (λ m. (from, m)) ms h

  newly-each : (s t : ShowState) → Each R (all_pending t) → Each R (newly_pending s t)
  unfolding newly_pending
  newly-each s t h = each_filter (λ (m : ℕ × Send). R m.1) (is_new (datagrams (all_pending s))) (all_pending t) h

  pub happening-each : (s : ShowState) (x : Happening) → HoldsOfSent R s (given_at s x)
  unfolding closed_state given_of
  happening-each s (took now (datagram from bytes)) =
      datagram_case (HoldsOfSent R s) s now from bytes (λ why h. (els.answers _ _ _ _ _, tt)) (λ ms few h.
      let hs : List Heard = hear_all s now from ms in
      each_append (λ (m : ℕ × Send). R m.1) (sent_to from (replies_or_one hs))
      (newly_pending s (after_events s (all_events hs))) (sent-each from (replies_or_one hs) (replies-each hs))
      (newly-each s (after_events s (all_events hs)) h))
  happening-each s (took now tick) = λ h. h
  happening-each s runs.recovered = λ h. h

-- ---- whole runs

pub joined-with : (b : List Event) (bs : List (List Event)) → joined_list (with_batch b bs) ≡ b ++ joined_list bs
joined-with [] bs = refl
joined-with (e ∷ es) bs = refl

-- R holds of what is pending after the events; with more of them before or after it goes on to hold
pub record Lasts (Fine : ShowState → Type 0) (R : ShowState → List Event → Send → Type 0) : Type 0 where
  pub elsewhere : (s : ShowState) (es : List Event) → HoldsElsewhere (R s es)
  pub pending : (s : ShowState) (es : List Event) → Fine (after_events s es)
      → Each (R s es) (all_pending (after_events s es))
  pub more : (s : ShowState) (es fs : List Event) (m : Send) → R s es m → R s (es ++ fs) m
  pub earlier : (s : ShowState) (es fs : List Event) (m : Send) → R (after_events s es) fs m → R s (es ++ fs) m
  pub fine : (s : ShowState) (x : Happening) → Fine s → Fine (after_events s (given_at s x).batch)

module _ {Fine : ShowState → Type 0} {R : ShowState → List Event → Send → Type 0} (lasts : Lasts Fine R) where
  pub each_more : (s : ShowState) (es fs : List Event) (ms : List (ℕ × Send)) → Each (R s es) ms
      → Each (R s (es ++ fs)) ms
  each_more s es fs ms h = each_weaker (λ (m : ℕ × Send). R s es m.1) (λ (m : ℕ × Send). R s (es ++ fs) m.1)
      (λ m k. lasts.more s es fs m.1 k) ms h

  pub each_earlier : (s : ShowState) (es fs : List Event) (ms : List (ℕ × Send)) → Each (R (after_events s es) fs) ms
      → Each (R s (es ++ fs)) ms
  each_earlier s es fs ms h = each_weaker (λ (m : ℕ × Send). R (after_events s es) fs m.1)
      (λ (m : ℕ × Send). R s (es ++ fs) m.1) (λ m k. lasts.earlier s es fs m.1 k) ms h

  -- so it holds of all that a run sends
  pub run-each : (s : ShowState) (hs : List Happening) → Fine s
      → Each (R s (joined_list (run s hs).batches)) (run s hs).sends
  run-each s [] fine = tt
  run-each s (x ∷ hs) fine =
      let g : Given = given_at s x in
      let next : ShowState = after_events s g.batch in
      let later : List Event = joined_list (run next hs).batches in
      let after : Fine next = lasts.fine s x fine in
      subst (λ (es : List Event). Each (R s es) (g.sends ++ (run next hs).sends))
      (sym (joined-with g.batch (run next hs).batches))
      (each_append (λ (m : ℕ × Send). R s (g.batch ++ later) m.1) g.sends (run next hs).sends
      (each_more s g.batch later g.sends
      (happening-each (R s g.batch) (lasts.elsewhere s g.batch) s x (lasts.pending s g.batch after)))
      (each_earlier s g.batch later (run next hs).sends (run-each next hs after)))
