-- What a load has done that says it is done.
use Rattle.std.proofs.Common.{◌≡◌, ℕ, suc, zero, ◌<◌, ◌≤◌, ◌+◌, Bool, true, false, cond, List, [], ◌∷◌, length, Option, Some}
use Rattle.std.proofs.Common.{None, refl, sym, ap, ◌∙◌, arith, inl, inr}
use Rattle.std.specs.Prelude.{min, nat_lt, slice_get}
use Rattle.std.proofs.Math.Nat.{min-le_left}
use Rattle.std.proofs.lemmas.Bool.{ltb-false, ltb-true, true≢false}
use Rattle.std.proofs.lemmas.Option.{none-some}
use Rattle.cue_loading.specs.declared.step.Step.{Step}
use Rattle.cue_load_machine.specs.declared.asks.Ask.{Ask}
use Rattle.cue_load_machine.specs.declared.asks.Form.{Form}
use Rattle.cue_load_machine.specs.declared.asks.Form.TheVariants as form
use Rattle.cue_load_machine.specs.declared.machine.LoadMachine.{LoadMachine}
use Rattle.cue_load_machine.specs.declared.stage.LoadEnd.TheVariants as end
use Rattle.cue_load_machine.specs.declared.stage.Stage.{Stage}
use Rattle.cue_load_machine.specs.declared.stage.Stage.TheVariants as stage
use Rattle.cue_load_machine.specs.declared.stage.Try.{Try}
use Rattle.cue_load_machine.specs.Asks.{covers}
use Rattle.cue_load_machine.specs.Lives.{AreSendings, How, IsSending, Sending, done, late, nobody}
use Rattle.cue_load_machine.specs.Lives.{stage_after, stops, waits}
use Rattle.cue_load_machine.specs.Plans.{ARefusalStops, AreAsksOf, EachIsDone, WasDone}
use Rattle.cue_load_machine.specs.Stages as stages
use Rattle.cue_load_machine.specs.Stages.{again, highest, next_place, spent}
use Rattle.cue_load_machine.specs.Steps.{State, begins_with, given_up, state_of}
use Rattle.cue_load_machine.proofs.OftenLemmas.{no_sends, try_of}
use Rattle.cue_load_machine.proofs.PlanLemmas.{step_at}

-- each message asks one thing
abbrev AllAlone : State → Type 0
AllAlone s = (place : ℕ) (a : Ask) → slice_get s.asks place ≡ Some a → a.form ≡ form.Alone

abbrev UpTo : State → List Sending → ℕ → Type 0
UpTo s xs n = (place : ℕ) → place < n → WasDone s xs place

-- ---- one more was sent

-- the place that follows is the next one at most
next_most : (place : ℕ) → next_place place 0 ≤ place + 1
next_most place =
    let first : min (place + 1) highest ≤ place + 1 = min-le_left (place + 1) highest in
    let all : next_place place 0 ≤ min (place + 1) highest + 0 = min-le_left (min (place + 1) highest + 0) highest in
    omega (arith, first, all)

alone_next : (place : ℕ) (f : Form) → f ≡ form.Alone → next_place place (covers f) ≤ place + 1
alone_next place f e =
    let same : next_place place (covers f) ≡ next_place place 0 = ap (λ (g : Form). next_place place (covers g)) e in
    omega (arith, next_most place, same)

-- what was done before it, and itself
one_more : (s : State) (x : Sending) (xs : List Sending) (n : ℕ) → UpTo s xs x.of.place → IsSending s x done
    → n ≤ x.of.place + 1 → UpTo s (x ∷ xs) n
one_more s x xs n before h most place below = by (nat_lt place x.of.place) refl
  where
    by : (b : Bool) → nat_lt place x.of.place ≡ b → WasDone s (x ∷ xs) place
    by true e = inr (before place (ltb-true place x.of.place e))
    by false e = inl (omega (arith, ltb-false place x.of.place e, below, most), h)

-- only what was done before it
no_more : (s : State) (x : Sending) (xs : List Sending) (n : ℕ) → UpTo s xs x.of.place → n ≡ x.of.place
    → UpTo s (x ∷ xs) n
no_more s x xs n before e place below = inr (before place (omega (arith, e, below)))

-- ---- how the next one begins

begins_place : (of : Try) (o : Option Ask) (place socket : ℕ) → stage.Sends of ≡ begins_with o place socket
    → of.place ≡ place
begins_place of None place socket e = absurd (no_sends of (begins_with None place socket) e refl)
begins_place of (Some a) place socket e = ap (λ (v : Stage). (try_of of v).place) e

again_place : (s : State) (of old : Try) (f : Form) → f ≡ form.Alone → (b : Bool)
    → stage.Sends of ≡ cond b (stage.Sends (again old)) (given_up s.asks f old) → of.place ≡ old.place
again_place s of old f alone true e = ap (λ (v : Stage). (try_of of v).place) e
again_place s of old f alone false e =
    absurd (no_sends of (given_up s.asks form.Alone old)
    (e ∙ ap (λ (g : Form). given_up s.asks g old) alone) refl)

-- before the first message there is none
first_up : (s : State) (of : Try) → stage.Sends of ≡ begins_with (slice_get s.asks 0) 0 0 → UpTo s [] of.place
first_up s of e place below = absurd (omega (arith, below, begins_place of (slice_get s.asks 0) 0 0 e))

sends_up : (s : State) → AllAlone s → (xs : List Sending) (of : Try) → AreSendings s xs (stage.Sends of)
    → UpTo s xs of.place
sends_up s alone [] of h = first_up s of h
sends_up s alone (x ∷ xs) of h = by (sends_up s alone xs x.of h.2) h.0 h.1 h.3
  where
    by : UpTo s xs x.of.place → (how : How) → IsSending s x how → stage.Sends of ≡ stage_after s x how
        → UpTo s (x ∷ xs) of.place
    by before waits k e = absurd (no_sends of (stage_after s x waits) e refl)
    by before done k e =
        let next : ℕ = next_place x.of.place (covers x.ask.form) in
        let at : of.place ≡ next = begins_place of (slice_get s.asks next) next x.of.socket e in
        let most : next ≤ x.of.place + 1 = alone_next x.of.place x.ask.form (alone x.of.place x.ask k.there) in
        one_more s x xs of.place before k (omega (arith, at, most))
    by before (stops code) k e = absurd (no_sends of (stage_after s x (stops code)) e refl)
    by before late k e =
        no_more s x xs of.place before
        (again_place s of (spent x.of) x.ask.form (alone x.of.place x.ask k.there) (nat_lt 0 (spent x.of).left) e)
    by before nobody k e = absurd (no_sends of (stage_after s x nobody) e refl)

-- ---- all is done

abbrev is_done : Stage → Bool
is_done (stage.Over end.Done) = true
is_done (stage.Over (end.Refused place code)) = false
is_done (stage.Over (end.Silent place)) = false
is_done (stage.Over (end.Nobody place)) = false
is_done (stage.Over end.NotKept) = false
is_done stage.Copies = false
is_done (stage.Sends of) = false
is_done (stage.Waits w) = false

not_done : (at : Stage) → stage.Over end.Done ≡ at → is_done at ≡ false → ⊥
not_done at e f = true≢false (ap (λ (v : Stage). is_done v) e ∙ f)

late_not : (s : State) (f : Form) (of : Try) → f ≡ form.Alone → (b : Bool)
    → is_done (cond b (stage.Sends (again of)) (given_up s.asks f of)) ≡ false
late_not s f of alone true = refl
late_not s f of alone false = ap (λ (g : Form). is_done (given_up s.asks g of)) alone

-- there is no message of this place
past_none : (asks : List Ask) (place : ℕ) → slice_get asks place ≡ None → length asks ≤ place
past_none [] place e = omega arith
past_none (a ∷ asks) zero e = absurd (none-some a (sym e))
past_none (a ∷ asks) (suc place) e = omega (arith, past_none asks place e)

begins_none : (asks : List Ask) (place socket : ℕ) (o : Option Ask) → slice_get asks place ≡ o
    → stage.Over end.Done ≡ begins_with o place socket → length asks ≤ place
begins_none asks place socket (Some a) f e = absurd (not_done (begins_with (Some a) place socket) e refl)
begins_none asks place socket None f e = past_none asks place f

-- where there is no message, none is to be done
none_up : (s : State) → stage.Over end.Done ≡ begins_with (slice_get s.asks 0) 0 0 → UpTo s [] (length s.asks)
none_up s e place below = absurd (omega (arith, below, begins_none s.asks 0 0 (slice_get s.asks 0) refl e))

done_up : (s : State) → AllAlone s → (xs : List Sending) → AreSendings s xs (stage.Over end.Done)
    → UpTo s xs (length s.asks)
done_up s alone [] h = none_up s h
done_up s alone (x ∷ xs) h = by (sends_up s alone xs x.of h.2) h.0 h.1 h.3
  where
    by : UpTo s xs x.of.place → (how : How) → IsSending s x how → stage.Over end.Done ≡ stage_after s x how
        → UpTo s (x ∷ xs) (length s.asks)
    by before waits k e = absurd (not_done (stage_after s x waits) e refl)
    by before done k e =
        let next : ℕ = next_place x.of.place (covers x.ask.form) in
        let past : length s.asks ≤ next = begins_none s.asks next x.of.socket (slice_get s.asks next) refl e in
        let most : next ≤ x.of.place + 1 = alone_next x.of.place x.ask.form (alone x.of.place x.ask k.there) in
        one_more s x xs (length s.asks) before k (omega (arith, past, most))
    by before (stops code) k e = absurd (not_done (stage_after s x (stops code)) e refl)
    by before late k e =
        absurd (not_done (stage_after s x late) e
        (late_not s x.ask.form (spent x.of) (alone x.of.place x.ask k.there) (nat_lt 0 (spent x.of).left)))
    by before nobody k e = absurd (not_done (stage_after s x nobody) e refl)

all_alone : (steps : List Step) (m : LoadMachine) → AreAsksOf steps m.asks.items → AllAlone (state_of m)
all_alone steps m h place a e = (step_at steps m.asks.items place a h e).asks.form

pub each-is-done : EachIsDone
each-is-done port manner file stored copied p xs h sends place below =
    done_up (state_of p.machine) (all_alone p.steps.items p.machine h.machine.asks) xs sends place below

pub a-refusal-stops : ARefusalStops
a-refusal-stops m m_then place code [] at h = refl
a-refusal-stops m m_then place code (t ∷ ts) at h =
    absurd (true≢false (sym (ap (λ (v : Stage). stages.is_over v) at) ∙ h.1.goes_on))
