-- An attempt starts once, and its cue and its parts are those of its Start, whatever comes later.
use Rattle.std.proofs.Common.{◌≡◌, ℕ, ◌+◌, ◌<◌, Bool, true, false, ◌||◌, List, [], ◌∷◌, nat_eq, refl, sym, ◌∙◌}
use Rattle.std.proofs.Common.{true≢false, arith, IsTrue}
use Rattle.std.specs.List.{list_any}
use Rattle.std.proofs.lemmas.Bool.Decides.{nat_tests}
use Rattle.cue_core.specs.declared.event.Event.{Event}
use Rattle.cue_core.specs.declared.event.Event.TheVariants as event
use Rattle.cue_core.specs.Events.{is_start_of}
use Rattle.cue_core.proofs.history.TellsLemmas.{is_about}
use Rattle.cue_core.specs.Happenings.{onto}
use Rattle.cue_core.specs.History.{is_history, parts_by, state_of}
use Rattle.cue_core.specs.State.{ShowState}
use Rattle.cue_core.specs.Steps.{acceptable}
use Rattle.cue_core.proofs.history.TellsLemmas.{parts_by-on, quiet}
use Rattle.cue_core.proofs.lists.AnyLemmas.{or_right}
use Rattle.cue_core.proofs.lists.ConditionLemmas.{both, neither}
use Rattle.cue_core.proofs.rules.SoundLemmas.{kept-history}
use Rattle.cue_stage.specs.Tasks.{cue_by}

pub parts_stay : (q : ℕ) (es past : List Event) → list_any (is_start_of q) es ≡ false
    → parts_by (onto es past) q ≡ parts_by past q
parts_stay q [] past none = refl
parts_stay q (e ∷ es) past none = by (is_start_of q e) refl (λ k. parts_stay q es (e ∷ past) k) none
  where
    by : (b : Bool) → is_start_of q e ≡ b
        → (list_any (is_start_of q) es ≡ false → parts_by (onto es (e ∷ past)) q ≡ parts_by (e ∷ past) q)
        → (b || list_any (is_start_of q) es) ≡ false → parts_by (onto es (e ∷ past)) q ≡ parts_by past q
    by true is f k = absurd (true≢false k)
    by false is f k = f k ∙ parts_by-on q e past is

cue_by-on : (q : ℕ) (e : Event) (h : List Event) → is_start_of q e ≡ false → cue_by (e ∷ h) q ≡ cue_by h q
cue_by-on q e h n = rw n refl

pub cue_stays : (q : ℕ) (es past : List Event) → list_any (is_start_of q) es ≡ false
    → cue_by (onto es past) q ≡ cue_by past q
cue_stays q [] past none = refl
cue_stays q (e ∷ es) past none = by (is_start_of q e) refl (λ k. cue_stays q es (e ∷ past) k) none
  where
    by : (b : Bool) → is_start_of q e ≡ b
        → (list_any (is_start_of q) es ≡ false → cue_by (onto es (e ∷ past)) q ≡ cue_by (e ∷ past) q)
        → (b || list_any (is_start_of q) es) ≡ false → cue_by (onto es (e ∷ past)) q ≡ cue_by past q
    by true is f k = absurd (true≢false k)
    by false is f k = f k ∙ cue_by-on q e past is

pub history_before : (es past : List Event) → IsTrue (is_history (onto es past)) → IsTrue (is_history past)
history_before [] past h = h
history_before (e ∷ es) past h =
    (both (acceptable (state_of past) e) (is_history past) (history_before es (e ∷ past) h)).1

-- a number that is drawn is above the last one
start_is_above : (q : ℕ) (s : ShowState) (e : Event) → is_start_of q e ≡ true → acceptable s e ≡ true → s.last_seq < q
start_is_above q s (event.Device e p) is ok = absurd (true≢false (sym is))
start_is_above q s (event.NoDevice e) is ok = absurd (true≢false (sym is))
start_is_above q s (event.Cue x ps) is ok = absurd (true≢false (sym is))
start_is_above q s (event.NoCue x) is ok = absurd (true≢false (sym is))
start_is_above q s (event.Place x) is ok = absurd (true≢false (sym is))
start_is_above q s (event.Start p x t) is ok = let drawn = (both (nat_eq p (s.last_seq + 1)) _ ok).0 in
    grind (arith, nat_tests)
start_is_above q s (event.Ready p e) is ok = absurd (true≢false (sym is))
start_is_above q s (event.Go p) is ok = absurd (true≢false (sym is))
start_is_above q s (event.Done p e) is ok = absurd (true≢false (sym is))
start_is_above q s (event.Cancel p r) is ok = absurd (true≢false (sym is))
start_is_above q s (event.LetGo p e) is ok = absurd (true≢false (sym is))
start_is_above q s (event.Failed p e) is ok = absurd (true≢false (sym is))
start_is_above q s (event.Excuse p e) is ok = absurd (true≢false (sym is))

none_started : (q : ℕ) (es : List Event) → list_any (is_about q) es ≡ false → list_any (is_start_of q) es ≡ false
none_started q [] h = refl
none_started q (e ∷ es) h = let w = neither (is_about q e) (list_any (is_about q) es) h in
    rw (quiet q e w.0).start (none_started q es w.1)

-- an attempt that has started does not start again
pub no_start : (q : ℕ) (es past : List Event) → IsTrue (is_history (onto es past))
    → list_any (is_start_of q) past ≡ true
    → list_any (is_start_of q) es ≡ false
no_start q [] past h started = refl
no_start q (e ∷ es) past h started =
    by (is_start_of q e) refl (λ k. no_start q es (e ∷ past) h (or_right (is_start_of q e) _ started))
  where
    new : is_start_of q e ≡ true → ⊥
    new is =
        let w = both (acceptable (state_of past) e) (is_history past) (history_before es (e ∷ past) h) in
        let above : (state_of past).last_seq < q = start_is_above q (state_of past) e is w.0 in
        true≢false (sym started ∙ none_started q past ((kept-history past w.1).unused q above))

    by : (b : Bool) → is_start_of q e ≡ b → (Unit {0} → list_any (is_start_of q) es ≡ false)
        → (b || list_any (is_start_of q) es) ≡ false
    by true is f = absurd (new is)
    by false is f = f tt
