-- How often a message is sent.
use Rattle.std.proofs.Common.{◌≡◌, ℕ, ◌<◌, ◌-◌, ◌⊎◌, Bool, true, false, cond, [], ◌∷◌, Option, Some}
use Rattle.std.proofs.Common.{None}
use Rattle.std.proofs.Common.{refl, sym, ap, ◌∙◌, arith, inl, inr}
use Rattle.std.specs.Prelude.{nat_lt, slice_get}
use Rattle.std.proofs.lemmas.Bool.{ltb-true, true≢false}
use Rattle.std.proofs.lemmas.Option.{same_Some}
use Rattle.cue_load_machine.specs.declared.asks.Ask.{Ask}
use Rattle.cue_load_machine.specs.declared.asks.Form.{Form}
use Rattle.cue_load_machine.specs.declared.asks.Form.TheVariants as form
use Rattle.cue_load_machine.specs.declared.stage.Stage.{Stage}
use Rattle.cue_load_machine.specs.declared.stage.Stage.TheVariants as stage
use Rattle.cue_load_machine.specs.declared.stage.Try.{Try}
use Rattle.cue_load_machine.specs.Asks.{sendings}
use Rattle.cue_load_machine.specs.Laws.{IsAgain, IsFirst, SentAsOftenAsMayBe}
use Rattle.cue_load_machine.specs.Lives.{How, Sending, done, late, nobody, stage_after, stops, waits}
use Rattle.cue_load_machine.specs.Stages.{again, next_place, next_socket, spent}
use Rattle.cue_load_machine.specs.Steps.{State, begins_with, given_up}

-- a message is to be sent
abbrev pub is_sends : Stage → Bool
is_sends stage.Copies = false
is_sends (stage.Sends of) = true
is_sends (stage.Waits w) = false
is_sends (stage.Over e) = false

abbrev pub try_of : Try → Stage → Try
try_of other stage.Copies = other
try_of other (stage.Sends of) = of
try_of other (stage.Waits w) = other
try_of other (stage.Over e) = other

pub no_sends : (of : Try) (at : Stage) → stage.Sends of ≡ at → is_sends at ≡ false → ⊥
no_sends of at e f = true≢false (ap is_sends e ∙ f)

from_begins : (s : State) (x : Sending) (o : Option Ask) (place socket : ℕ) → slice_get s.asks x.of.place ≡ Some x.ask
    → slice_get s.asks place ≡ o → stage.Sends x.of ≡ begins_with o place socket → IsFirst x
from_begins s x None place socket there f e = absurd (no_sends x.of (begins_with None place socket) e refl)
from_begins s x (Some a) place socket there f e =
    let of : x.of ≡ record { place = place; left = sendings a.form; socket = socket } =
    ap (λ (v : Stage). try_of x.of v) e in
    let same : Some a ≡ Some x.ask = sym f ∙ (ap (λ (v : Try). slice_get s.asks v.place) (sym of) ∙ there) in
    ap (λ (v : Try). v.left) of ∙ ap (λ (b : Ask). sendings b.form) (same_Some a x.ask same)

from_given_up : (s : State) (x : Sending) (f : Form) (of : Try) → slice_get s.asks x.of.place ≡ Some x.ask
    → stage.Sends x.of ≡ given_up s.asks f of → IsFirst x
from_given_up s x form.Alone of there e = absurd (no_sends x.of (given_up s.asks form.Alone of) e refl)
from_given_up s x (form.Together count) of there e =
    from_begins s x (slice_get s.asks (next_place of.place 0)) (next_place of.place 0) (next_socket of.socket) there
    refl e

again_when : (s : State) (x y : Sending) → slice_get s.asks x.of.place ≡ Some x.ask → (b : Bool)
    → nat_lt 0 (spent y.of).left ≡ b
    → stage.Sends x.of ≡ cond b (stage.Sends (again (spent y.of))) (given_up s.asks y.ask.form (spent y.of))
    → IsFirst x ⊎ IsAgain x y
again_when s x y there true f e =
    let of : x.of ≡ again (spent y.of) = ap (λ (v : Stage). try_of x.of v) e in
    let left : x.of.left ≡ y.of.left - 1 = ap (λ (v : Try). v.left) of in
    let some : 0 < y.of.left - 1 = ltb-true 0 (y.of.left - 1) f in
    inr (ap (λ (v : Try). v.place) of, omega (arith, left, some), omega (arith, left, some))
again_when s x y there false f e = inl (from_given_up s x y.ask.form (spent y.of) there e)

next_may : (s : State) (x y : Sending) (how : How) → slice_get s.asks x.of.place ≡ Some x.ask
    → stage.Sends x.of ≡ stage_after s y how → IsFirst x ⊎ IsAgain x y
next_may s x y waits there e = absurd (no_sends x.of (stage_after s y waits) e refl)
next_may s x y done there e = inl (from_begins s x (slice_get s.asks _) _ y.of.socket there refl e)
next_may s x y (stops code) there e = absurd (no_sends x.of (stage_after s y (stops code)) e refl)
next_may s x y late there e = again_when s x y there (nat_lt 0 (spent y.of).left) refl e
next_may s x y nobody there e = absurd (no_sends x.of (stage_after s y nobody) e refl)

pub sent-as-often-as-may-be : SentAsOftenAsMayBe
sent-as-often-as-may-be s [] at h = tt
sent-as-often-as-may-be s (x ∷ []) at h = from_begins s x (slice_get s.asks 0) 0 0 h.1.there refl h.2
sent-as-often-as-may-be s (x ∷ y ∷ xs) at h = (
  next_may s x y h.2.0 h.1.there h.2.3,
  sent-as-often-as-may-be s (y ∷ xs) (stage.Sends x.of) h.2,
)
