-- States: what is read is spelled so and keeps the rules, and is read again.
use Rattle.std.proofs.Common.{◌≡◌, ℕ, ◌≤◌, Bool, true, false, cond, nat_eq, not, ◌&&◌, ◌||◌, ◌==◌, List, [], ◌∷◌, ◌++◌}
use Rattle.std.proofs.Common.{length, Option, Some, None, Result, Ok, Err, IsTrue, nat_le, refl, sym, ap, subst, ◌∙◌}
use Rattle.std.proofs.Common.{arith}
use Rattle.std.specs.Prelude.{IfOk, IsErrOf, is_some}
use Rattle.std.specs.Str.{bytes_eq}
use Rattle.std.specs.List.{list_all}
use Rattle.std.specs.Map.{keys_of}
use Rattle.std.specs.Int.{w32}
use Rattle.std.proofs.lemmas.Bool.{le-leb, leb-true, eqb-true}
use Rattle.std.proofs.lemmas.List.{append-nil, nil_from_length}
use Rattle.std.proofs.lemmas.Slice.Eq.{bytes_eq-Decides}
use Rattle.cue_show.specs.Bytes.{are_bytes}
use Rattle.cue_show.specs.Number.{is_cue_number, same_text}
use Rattle.cue_show.specs.Distinct.{are_distinct}
use Rattle.cue_show.specs.Show.{ShowLists, empty_show, is_table, is_cue_of, is_stack_of, is_place_of}
use Rattle.cue_show.specs.declared.limits.TheConstants.{MAX_CUES}
use Rattle.cue_exchange.specs.Outcomes.{outcome_number, outcome_numbered}
use Rattle.cue_exchange.specs.Live.{is_number, is_time, is_attempt, are_live, attempt_of}
use Rattle.cue_exchange.specs.declared.attempt.Attempt.{Attempt}
use Rattle.cue_exchange.specs.declared.attempt.Outcome.{Outcome}
use Rattle.cue_exchange.specs.declared.attempt.Outcome.TheVariants as outcome
use Rattle.cue_exchange.specs.declared.limits.TheConstants.{MAX_NUMBER}
use Rattle.cue_exchange.proofs.ListLemmas.{all_given}
use Rattle.cue_exchange.proofs.LookUpLemmas.{find-passes}
use Rattle.cue_exchange.proofs.LiveLemmas.{attempts_of}
use Rattle.cue_core.specs.declared.event.Ended.{Ended}
use Rattle.cue_core.specs.State.{ShowState, is_at_cue, is_ended, is_state}
use Rattle.cue_core.proofs.lists.ConditionLemmas.{both, join, all_from}
use Rattle.cue_core.proofs.rules.RuleLemmas.{Rules, rules_of}
use Rattle.cue_core.proofs.rules.SoundLemmas.{attempt_rules}
use Rattle.cue_records.specs.declared.fault.StateFault.{StateFault}
use Rattle.cue_records.specs.declared.fault.StateFault.TheVariants as fault
use Rattle.cue_records.specs.declared.parts_form.PartsForm.{PartsForm}
use Rattle.cue_records.specs.declared.parts_form.PartsForm.TheVariants.{Plain, Flagged}
use Rattle.cue_records.specs.declared.state.TheConstants.{VERSION, OLD_VERSION}
use Rattle.cue_records.specs.Fields.{byte_text, number_text}
use Rattle.cue_records.specs.State.{show_text, ended_text, live_text, version_number, form_of_version, has_text}
use Rattle.cue_records.specs.State.{text_in, state_text, IsStateText, IsNoState}
use Rattle.cue_records.specs.Laws.{StatesAreReadBack, StateTextsDiffer}
use Rattle.cue_records.specs.Reading.{◌>>=◌, where_it, number_at}
use Rattle.cue_records.specs.StateReading.{GivesState, ended_of, ended_at, show_at, live_at, tail_of, where_state}
use Rattle.cue_records.specs.StateReading.{standing_of, state_of, is_text_in, is_state_text}
use Rattle.cue_records.proofs.AttemptLemmas.{attempt_fits, are_live_at, live_takes, live_again}
use Rattle.cue_records.proofs.FieldLemmas.{byte_field, have_text, step_number}
use Rattle.cue_records.proofs.FittingLemmas.{attempt_cue_fits}
use Rattle.cue_records.proofs.NumberLemmas.{field32}
use Rattle.cue_records.proofs.RangeLemmas.{live_short}
use Rattle.cue_records.proofs.ShowLemmas.{stack_fits, show_takes, show_again}
use Rattle.cue_records.proofs.TakingLemmas.{IsField, bind_some, where_some, some_is, bytes_behind, made_field}
use Rattle.cue_records.proofs.TakingLemmas.{both_field, respell}
use Rattle.cue_show.proofs.TestLemmas.{or_right}

-- ---- the attempt that ended last

outcome_again : (n : ℕ) (o : Outcome) → outcome_numbered n ≡ Some o → outcome_number o ≡ n
outcome_again n o e = eqb-true (outcome_number o) n
    (find-passes (λ k. nat_eq (outcome_number k) n) (outcome.Complete ∷ outcome.Cancelled ∷ outcome.Failed ∷ []) o e)

-- the numbers of an attempt that ended
abbrev ended_numbers : Option Ended → ℕ × ℕ
ended_numbers None = (0, 0)
ended_numbers (Some e) = (e.seq, outcome_number e.outcome)

abbrev ended_fits : Option Ended → Bool
ended_fits None = true
ended_fits (Some e) = nat_le e.seq 4294967295

abbrev EndedIs : ℕ × ℕ → Option Ended → Type 0
EndedIs x o = (ended_numbers o ≡ x) × IsTrue (ended_fits o)

ended_numbered : (x : ℕ × ℕ) (o : Option Ended) → IsTrue (nat_le x.0 4294967295 && nat_le x.1 255) → ended_of x ≡ Some o
    → EndedIs x o
ended_numbered x o h e = by (x.1 == 0) refl e
  where
    by : (b : Bool) → (x.1 == 0) ≡ b
        → cond b (where_it (x.0 == 0) None)
        (outcome_numbered x.1 >>= λ k. Some (Some (record { seq = x.0; outcome = k }))) ≡ Some o → EndedIs x o
    by true zero e =
        let w = where_some (x.0 == 0) None o e in
        let first : x.0 ≡ 0 = eqb-true x.0 0 w.0 in
        let second : x.1 ≡ 0 = eqb-true x.1 0 zero in
        subst (EndedIs x) w.1 (ap (λ n. (n, 0)) (sym first) ∙ ap (λ n. (x.0, n)) (sym second), refl)
    by false some e =
        let s = bind_some (outcome_numbered x.1) (λ k. Some (Some (record { seq = x.0; outcome = k }))) o e in
        subst (EndedIs x) (some_is (Some (record { seq = x.0; outcome = s.0 })) o s.2)
        (ap (λ n. (x.0, n)) (outcome_again x.1 s.0 s.1), (both (nat_le x.0 4294967295) (nat_le x.1 255) h).0)

ended_again : (o : Option Ended) → IsTrue (ended_fits o) → ended_of (ended_numbers o) ≡ Some o
ended_again None h = refl
ended_again (Some e) h = by e.seq e.outcome
  where
    by : (q : ℕ) (k : Outcome) → ended_of (q, outcome_number k) ≡ Some (Some (record { seq = q; outcome = k }))
    by q outcome.Complete = refl
    by q outcome.Cancelled = refl
    by q outcome.Failed = refl

outcome_byte : (k : Outcome) → IsTrue (nat_le (outcome_number k) 255)
outcome_byte outcome.Complete = refl
outcome_byte outcome.Cancelled = refl
outcome_byte outcome.Failed = refl

ended_within : (o : Option Ended) → IsTrue (ended_fits o)
    → IsTrue (nat_le (ended_numbers o).0 4294967295 && nat_le (ended_numbers o).1 255)
ended_within None h = refl
ended_within (Some e) h = join (nat_le e.seq 4294967295) (nat_le (outcome_number e.outcome) 255) h
    (outcome_byte e.outcome)

ended_spelled : (o : Option Ended) → number_text (ended_numbers o).0 ++ byte_text (ended_numbers o).1 ≡ ended_text o
ended_spelled None = refl
ended_spelled (Some e) = refl

ended_field : IsField ended_at ended_text ended_fits
unfolding ended_at
ended_field = respell ended_text (made_field ended_of ended_numbers ended_fits (both_field field32 byte_field)
    ended_numbered ended_again ended_within) ended_spelled

-- ---- what stands behind the show

tail_takes : (show : ShowLists) (bytes : List ℕ) (t : ℕ × (Option Ended × List Attempt)) → IsTrue (are_bytes bytes)
    → tail_of show [] bytes ≡ Some t → bytes ≡ number_text t.0 ++ (ended_text t.1.0 ++ live_text t.1.1)
unfolding tail_of
tail_takes show bytes t b e =
    let q = bind_some (number_at w32 bytes) (λ q. ended_at q.1 >>= λ o. live_at show [] o.1 >>= λ all. where_it
    (length all.1 == 0) (q.0, (o.0, all.0))) t e in
    let o = bind_some (ended_at q.0.1)
    (λ o. live_at show [] o.1 >>= λ all. where_it (length all.1 == 0) (q.0.0, (o.0, all.0))) t q.2 in
    let all = bind_some (live_at show [] o.0.1) (λ all. where_it (length all.1 == 0) (q.0.0, (o.0.0, all.0))) t o.2 in
    let w = where_some (length all.0.1 == 0) (q.0.0, (o.0.0, all.0.0)) t all.2 in
    let nothing : all.0.1 ≡ [] = nil_from_length all.0.1 (eqb-true (length all.0.1) 0 w.0) in
    let t0 = field32.takes bytes q.0 b q.1 in
    let b1 = bytes_behind bytes (number_text q.0.0) q.0.1 t0.0 b in
    let t1 = ended_field.takes q.0.1 o.0 b1 o.1 in
    let t2 = live_takes show o.0.1 all.0 (bytes_behind q.0.1 (ended_text o.0.0) o.0.1 t1.0 b1) all.1 in
    let last : o.0.1 ≡ live_text all.0.0 = t2 ∙ ap (λ rest. live_text all.0.0 ++ rest) nothing
    ∙ append-nil (live_text all.0.0) in
    let parts : bytes ≡ number_text q.0.0 ++ (ended_text o.0.0 ++ live_text all.0.0) = t0.0
    ∙ ap (λ bs. number_text q.0.0 ++ bs) (t1.0 ∙ ap (λ bs. ended_text o.0.0 ++ bs) last) in
    subst (λ z. bytes ≡ number_text z.0 ++ (ended_text z.1.0 ++ live_text z.1.1)) w.1 parts

tail_again : (show : ShowLists) (last : ℕ) (ended : Option Ended) (live : List Attempt)
    → IsTrue (nat_le last 4294967295) → IsTrue (ended_fits ended) → IsTrue (are_live live)
    → IsTrue (are_live_at show live)
    → tail_of show [] (number_text last ++ (ended_text ended ++ live_text live)) ≡ Some (last, (ended, live))
unfolding tail_of
tail_again show last ended live h k few all =
    let read : live_at show [] (live_text live) ≡ Some (live, []) =
    ap (live_at show []) (sym (append-nil (live_text live))) ∙ live_again show live [] (live_short live few) all in
    rw (field32.again last (ended_text ended ++ live_text live) h, ended_field.again ended (live_text live) k, read)
    refl

-- ---- states

-- what stands behind the number of the version
abbrev body_of : PartsForm → ShowState → List ℕ
body_of form s = show_text form s.show ++ (number_text s.last_seq ++ (ended_text s.ended ++ live_text s.live))

-- a state was taken
abbrev TakesState : PartsForm → List ℕ → ShowState → Type 0
TakesState form bytes s = IsTrue (is_state s) × (bytes ≡ body_of form s) × IsTrue (stack_fits form s.show.cues)

standing_takes : (form : PartsForm) (bytes : List ℕ) (s : ShowState) → IsTrue (are_bytes bytes)
    → standing_of form bytes ≡ Some s → TakesState form bytes s
unfolding standing_of
standing_takes form bytes s b e =
    let a = bind_some (show_at form empty_show bytes)
    (λ show. tail_of show.0 [] show.1 >>= λ t. where_state
    (record { show = show.0; live = t.1.1; last_seq = t.0; ended = t.1.0 })) s e in
    let c = bind_some (tail_of a.0.0 [] a.0.1)
    (λ t. where_state (record { show = a.0.0; live = t.1.1; last_seq = t.0; ended = t.1.0 })) s a.2 in
    let made : ShowState = record { show = a.0.0; live = c.0.1.1; last_seq = c.0.0; ended = c.0.1.0 } in
    let w = where_some (is_state made) made s c.2 in
    let t = show_takes form bytes a.0 b a.1 in
    let u = tail_takes a.0.0 a.0.1 c.0 (bytes_behind bytes (show_text form a.0.0) a.0.1 t.0 b) c.1 in
    subst (TakesState form bytes) w.1 (w.0, t.0 ∙ ap (λ bs. show_text form a.0.0 ++ bs) u, t.1)

live_fits : (s : ShowState) → Rules s → IsTrue (are_live_at s.show s.live)
live_fits s r =
    join (are_live s.live) (list_all (attempt_fits s.show) s.live) r.live
    (all_given is_attempt (is_at_cue s.show) (attempt_fits s.show)
    (λ a attempt at.
    let k = attempt_rules a attempt in
    join (is_number a.seq && (is_cue_number a.cue && (is_time a.deadline && true))) (is_at_cue s.show a)
    (join (is_number a.seq) (is_cue_number a.cue && (is_time a.deadline && true)) k.number
    (join (is_cue_number a.cue) (is_time a.deadline && true) (attempt_cue_fits s.show a r.show at)
    (join (is_time a.deadline) true k.time refl))) at)
    s.live (attempts_of s.live r.live) r.at)

last_fits : (n : ℕ) → IsTrue (nat_le n MAX_NUMBER) → IsTrue (nat_le n 4294967295)
last_fits n h = let k : n ≤ MAX_NUMBER = leb-true n MAX_NUMBER h in le-leb n 4294967295 (omega arith)

ended_in_range : (live : List Attempt) (last : ℕ) (o : Option Ended) → IsTrue (is_ended live last o)
    → IsTrue (ended_fits o)
ended_in_range live last None h = refl
ended_in_range live last (Some e) h =
    let p = both (is_number e.seq) (nat_le e.seq last && not (is_some (attempt_of live e.seq))) h in
    last_fits e.seq (both (nat_le 1 e.seq) (nat_le e.seq MAX_NUMBER) p.0).1

standing_again : (form : PartsForm) (s : ShowState) → IsTrue (is_state s) → IsTrue (stack_fits form s.show.cues)
    → standing_of form (body_of form s) ≡ Some s
unfolding standing_of
standing_again form s h k =
    let r = rules_of s h in
    let tail = number_text s.last_seq ++ (ended_text s.ended ++ live_text s.live) in
    let show : show_at form empty_show (show_text form s.show ++ tail) ≡ Some (s.show, tail) =
    show_again form s.show tail r.show k in
    let rest : tail_of s.show [] tail ≡ Some (s.last_seq, (s.ended, s.live)) =
    tail_again s.show s.last_seq s.ended s.live (last_fits s.last_seq r.last)
    (ended_in_range s.live s.last_seq s.ended r.ended) r.live (live_fits s r) in
    let keeps : is_state s ≡ true = h in
    rw (show, rest, keeps) refl

-- ---- the versions

version_numbered : (n : ℕ) (form : PartsForm) → form_of_version n ≡ Some form → version_number form ≡ n
version_numbered n =
    step_number version_number n OLD_VERSION Plain _ refl
    (step_number version_number n VERSION Flagged None refl (λ v e. absurd cc))

version_again : (form : PartsForm) → form_of_version (version_number form) ≡ Some form
version_again Plain = refl
version_again Flagged = refl

-- what the reader found to fit
found_text : (form : PartsForm) (s : ShowState) → IsTrue (stack_fits form s.show.cues) → IsTrue (has_text form s)
found_text Plain s h = h
found_text Flagged s h = refl

text_fits : (form : PartsForm) (s : ShowState) → IsTrue (is_state s) → IsTrue (has_text form s)
    → IsTrue (stack_fits form s.show.cues)
text_fits Plain s h k = k
text_fits Flagged s h k =
    let show = (rules_of s h).show in
    let stack = (both (is_stack_of s.show s.show.cues) (is_place_of s.show s.show.place)
    (both (is_table s.show.devices) (is_stack_of s.show s.show.cues && is_place_of s.show s.show.place) show).1).0
    in
    let p = both (nat_le (length s.show.cues) MAX_CUES)
    (are_distinct same_text (keys_of s.show.cues) && list_all (is_cue_of s.show) s.show.cues) stack in
    let each = (both (are_distinct same_text (keys_of s.show.cues)) (list_all (is_cue_of s.show) s.show.cues) p.1).1 in
    join (nat_le (length s.show.cues) MAX_CUES) (list_all (λ e. have_text Flagged e.1) s.show.cues) p.0
    (all_from (is_cue_of s.show) (λ e. have_text Flagged e.1) s.show.cues (λ e h. refl) each)

state_takes : (bytes : List ℕ) (s : ShowState) → IsTrue (are_bytes bytes) → state_of bytes ≡ Some s
    → IsTrue (is_state s) × IsStateText bytes s
unfolding state_of
state_takes [] s b e = absurd cc
state_takes (n ∷ bytes) s b e =
    let v = bind_some (form_of_version n) (λ form. standing_of form bytes) s e in
    let number : version_number v.0 ≡ n = version_numbered n v.0 v.1 in
    let t = standing_takes v.0 bytes s (both (nat_le n 255) (are_bytes bytes) b).1 v.2 in (
      t.0,
      record {
        form = v.0;
        has = found_text v.0 s t.2;
        is = ap (λ k. k ∷ bytes) (sym number)
            ∙ ap (λ bs. version_number v.0 ∷ bs) t.1;
      },
    )

state_again : (form : PartsForm) (s : ShowState) → IsTrue (is_state s) → IsTrue (has_text form s)
    → state_of (text_in form s) ≡ Some s
unfolding state_of
state_again form s h k = rw (version_again form) (standing_again form s h (text_fits form s h k))

-- ---- the contract of the reader

pub is_found : (bytes : List ℕ) (r : Result ShowState StateFault) → IsTrue (are_bytes bytes)
    → GivesState r (state_of bytes) → IfOk r (λ s. IsTrue (is_state s) × IsStateText bytes s)
is_found bytes (Ok s) b e = state_takes bytes s b e
is_found bytes (Err refused) b e = tt

pub is_only : (bytes : List ℕ) (r : Result ShowState StateFault) → GivesState r (state_of bytes)
    → IsErrOf r fault.Malformed → IsNoState bytes
is_only bytes (Ok s) e malformed = absurd cc
is_only bytes (Err fault.Memory) e malformed = absurd cc
is_only bytes (Err fault.Version) e malformed = absurd cc
is_only bytes (Err fault.Malformed) e malformed = λ s h t. let read : state_of bytes ≡ Some s = ap state_of t.is
    ∙ state_again t.form s h t.has in absurd cc

-- ---- the laws

pub read_back : StatesAreReadBack
read_back bytes s h t = ap state_of t.is ∙ state_again t.form s h t.has

pub texts_differ : StateTextsDiffer
texts_differ bytes one other h k t u = some_is one other (sym (read_back bytes one h t) ∙ read_back bytes other k u)

-- ---- what is a text of a state

-- what is written is one
pub written : (s : ShowState) → IsStateText (state_text s) s
written s = record { form = Flagged; has = refl; is = refl }

from_test : (form : PartsForm) (bytes : List ℕ) (s : ShowState) → IsTrue (is_text_in form bytes s) → IsStateText bytes s
from_test form bytes s h =
    let k = both (has_text form s) (bytes_eq bytes (text_in form s)) h in
    record { form = form; has = k.0; is = (bytes_eq-Decides bytes (text_in form s)).0 k.1 }

into_test : (form : PartsForm) (bytes : List ℕ) (s : ShowState) → IsTrue (has_text form s) → bytes ≡ text_in form s
    → IsTrue (is_text_in form bytes s)
into_test form bytes s h e = join (has_text form s) (bytes_eq bytes (text_in form s)) h
    ((bytes_eq-Decides bytes (text_in form s)).1 e)

from_tests : (bytes : List ℕ) (s : ShowState) → IsTrue (is_state_text bytes s) → IsStateText bytes s
from_tests bytes s h = by (is_text_in Flagged bytes s) refl h
  where
    by : (b : Bool) → is_text_in Flagged bytes s ≡ b → IsTrue (b || is_text_in Plain bytes s) → IsStateText bytes s
    by true two h = from_test Flagged bytes s two
    by false other h = from_test Plain bytes s h

into_tests : (bytes : List ℕ) (s : ShowState) → IsStateText bytes s → IsTrue (is_state_text bytes s)
into_tests bytes s t = by t.form t.has t.is
  where
    by : (form : PartsForm) → IsTrue (has_text form s) → bytes ≡ text_in form s → IsTrue (is_state_text bytes s)
    by Plain has is = or_right (is_text_in Flagged bytes s) (is_text_in Plain bytes s) (into_test Plain bytes s has is)
    by Flagged has is = let yes : is_text_in Flagged bytes s ≡ true = into_test Flagged bytes s has is in rw yes refl

-- the test is true of each text of the state, and of nothing else
pub is_text-decides : (bytes : List ℕ) (s : ShowState) → (IsTrue (is_state_text bytes s) → IsStateText bytes s)
    × (IsStateText bytes s → IsTrue (is_state_text bytes s))
is_text-decides bytes s = (from_tests bytes s, into_tests bytes s)
