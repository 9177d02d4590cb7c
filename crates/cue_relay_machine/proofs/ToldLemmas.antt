-- What is kept of a device's claims is what it told last.
use Rattle.std.proofs.Common.{◌≡◌, ◌≢◌, ◌∙◌, ℕ, zero, suc, Bool, true, false, cond, ◌==◌, List, [], ◌∷◌, map, Option, Some, None}
use Rattle.std.proofs.Common.{refl, sym, ap, subst, arith}
use Rattle.std.specs.Option.{option_map}
use Rattle.std.specs.Prelude.{slice_get, slice_set}
use Rattle.std.proofs.lemmas.Bool.{eqb-true, eqb-false}
use Rattle.std.proofs.lemmas.Option.{none-some, same_Some}
use Rattle.cue_machine.specs.declared.address.Address as machine
use Rattle.cue_machine.specs.declared.ears.Input.{Input}
use Rattle.cue_machine.specs.declared.ears.Input.TheVariants as input
use Rattle.cue_machine.specs.declared.post.Output.{Output}
use Rattle.cue_machine.specs.Living.{AreTurns, IsTurn, Turn, after_loss_of, after_losses}
use Rattle.cue_machine.specs.Posting.{Posted}
use Rattle.cue_relay.specs.declared.claims.Claim.{Claim}
use Rattle.cue_relay.specs.declared.claims.Claims.{Claims}
use Rattle.cue_relay.specs.declared.going.Going.{Going}
use Rattle.cue_relay.specs.declared.messages.Message.{Message}
use Rattle.cue_relay.specs.declared.relaying.Relay.{Relay}
use Rattle.cue_relay.specs.declared.route.Route.{Route}
use Rattle.cue_relay.specs.Claims.{after_claim, no_claims}
use Rattle.cue_relay.specs.Relayed.{Answer, goes_on}
use Rattle.cue_relay.specs.Telling.{claim_of}
use Rattle.cue_relay.proofs.ToldLemmas.{answer-no-claim}
use Rattle.cue_relay_machine.specs.declared.known.Known.{Known}
use Rattle.cue_relay_machine.specs.declared.machine.RelayMachine.{RelayMachine}
use Rattle.cue_relay_machine.specs.Books.{is_due}
use Rattle.cue_relay_machine.specs.Laws.{HadTurns, HandsNoClaim, KeepsClaims}
use Rattle.cue_relay_machine.specs.Lives.{relay_machine}
use Rattle.cue_relay_machine.specs.Places.{opening_at}
use Rattle.cue_relay_machine.specs.Steps.{State, after_loss, came, known_after, known_told, state_of, state_then}
use Rattle.cue_relay_machine.specs.Steps.{state_ticked, state_woken}
use Rattle.cue_relay_machine.specs.Texts.{after_claim_of, after_message_of, after_time_of, take_at, tell_at, unknown}
use Rattle.cue_relay_machine.specs.Told.{claims_of, told_by, told_last, time_of, with_told}
use Rattle.cue_relay_machine.specs.Turns.{answer_as, answer_of}
use Rattle.cue_relay_machine.proofs.LawLemmas.{hands-only-answers}
use Rattle.cue_relay_machine.proofs.LifeLemmas.{turn_hands}

-- what is kept of the claims of the device of this route
abbrev claims_at : List Known → ℕ → Option Claims
claims_at known n = option_map claims_of (slice_get known n)

-- ---- one device

kept-set : (ks : List Known) (n i : ℕ) (k x : Known) → slice_get ks n ≡ Some k → x.claims ≡ k.claims
    → claims_at (slice_set ks n x) i ≡ claims_at ks i
kept-set [] n i k x e f = absurd (none-some k e)
kept-set (y ∷ ks) zero zero k x e f = ap (λ (c : Claims). Some c) (f ∙ ap claims_of (sym (same_Some y k e)))
kept-set (y ∷ ks) zero (suc i) k x e f = refl
kept-set (y ∷ ks) (suc n) zero k x e f = refl
kept-set (y ∷ ks) (suc n) (suc i) k x e f = kept-set ks n i k x e f

told-here : (ks : List Known) (n : ℕ) (k x : Known) → slice_get ks n ≡ Some k
    → claims_at (slice_set ks n x) n ≡ Some x.claims
told-here [] n k x e = absurd (none-some k e)
told-here (y ∷ ks) zero k x e = refl
told-here (y ∷ ks) (suc n) k x e = told-here ks n k x e

told-there : (ks : List Known) (n i : ℕ) (x : Known) → n ≢ i → claims_at (slice_set ks n x) i ≡ claims_at ks i
told-there [] n i x apart = refl
told-there (y ∷ ks) zero zero x apart = absurd (apart refl)
told-there (y ∷ ks) zero (suc i) x apart = refl
told-there (y ∷ ks) (suc n) zero x apart = refl
told-there (y ∷ ks) (suc n) (suc i) x apart = told-there ks n i x (λ e. apart (ap suc e))

-- ---- what went on changes no claims

kept-taken : (ks : List Known) (n : ℕ) (m : Message) (now i : ℕ) → claims_at (take_at ks n m now) i ≡ claims_at ks i
kept-taken ks n m now i = by (slice_get ks n) refl
  where
    by : (o : Option Known) → slice_get ks n ≡ o → claims_at (take_at ks n m now) i ≡ claims_at ks i
    by None e = rw e refl
    by (Some k) e = rw e (kept-set ks n i k (after_message_of k m now) e refl)

kept-after : (ks : List Known) (at now : ℕ) (o : Option Going) (i : ℕ)
    → claims_at (known_after ks at now o) i ≡ claims_at ks i
kept-after ks at now None i = refl
kept-after ks at now (Some g) i = kept-taken ks (opening_at at).route g.message now i

kept-timed : (ks : List Known) (now i : ℕ) → claims_at (map (after_time_of now) ks) i ≡ claims_at ks i
kept-timed [] now i = refl
kept-timed (k ∷ ks) now zero = refl
kept-timed (k ∷ ks) now (suc i) = kept-timed ks now i

-- ---- what was told

told-at : (ks : List Known) (n : ℕ) (x : Claim) (now i : ℕ) (b : Bool) (c : Claims) → (n == i) ≡ b
    → claims_at ks i ≡ Some c → claims_at (tell_at ks n x now) i ≡ Some (with_told (cond b (Some x) None) c now)
told-at ks n x now i true c same e =
    let is : n ≡ i = eqb-true n i same in
    subst (λ (j : ℕ). claims_at ks j ≡ Some c → claims_at (tell_at ks n x now) j ≡ Some (after_claim c x now)) is
    (λ here. by (slice_get ks n) refl here) e
  where
    by : (o : Option Known) → slice_get ks n ≡ o → option_map claims_of (slice_get ks n) ≡ Some c
        → claims_at (tell_at ks n x now) n ≡ Some (after_claim c x now)
    by None f here = absurd (none-some c (sym (ap (option_map claims_of) f) ∙ here))
    by (Some k) f here =
        let claims : k.claims ≡ c = same_Some k.claims c (sym (ap (option_map claims_of) f) ∙ here) in
        rw f (told-here ks n k (after_claim_of k x now) f
        ∙ ap (λ (y : Claims). Some (after_claim y x now)) claims)
told-at ks n x now i false c same e = by (slice_get ks n) refl
  where
    by : (o : Option Known) → slice_get ks n ≡ o → claims_at (tell_at ks n x now) i ≡ Some c
    by None f = rw f e
    by (Some k) f =
        rw f (told-there ks n i (after_claim_of k x now) (eqb-false n i same) ∙ e)

-- ---- turns

came-keeps : (ks : List Known) (r : Relay) (now at : ℕ) (from : machine.Address) (bytes : List ℕ) (i : ℕ)
    (c : Claims) (o : Option Claim) → claim_of r (came now at from bytes) ≡ o → claims_at ks i ≡ Some c
    → claims_at (known_told ks at now o) i ≡ Some (with_told (told_by r i (came now at from bytes)) c now)
came-keeps ks r now at from bytes i c None told e = by ((opening_at at).route == i)
  where
    by : (b : Bool) → claims_at ks i ≡ Some (with_told (cond b (claim_of r (came now at from bytes)) None) c now)
    by true = e ∙ sym (ap (λ (x : Option Claim). Some (with_told x c now)) told)
    by false = e
came-keeps ks r now at from bytes i c (Some x) told e =
    told-at ks (opening_at at).route x now i ((opening_at at).route == i) c refl e
    ∙ sym (ap (λ (y : Option Claim). Some (with_told (cond ((opening_at at).route == i) y None) c now)) told)

woken-keeps : (s : State) (now i : ℕ) (b : Bool)
    → claims_at (state_woken (cond b (state_ticked s now) s) now).known i ≡ claims_at s.known i
woken-keeps s now i true = kept-timed s.known now i
woken-keeps s now i false = refl

state-keeps : (s : State) (now : ℕ) (i : Input) (bytes : List ℕ) (n : ℕ) (c : Claims)
    → claims_at s.known n ≡ Some c
    → claims_at (state_then s now i bytes).known n
    ≡ Some (with_told (told_by s.relay n (answer_as now i bytes)) c (time_of (answer_as now i bytes)))
state-keeps s now (input.Datagram at from) bytes n c e =
    let goes : Option Going = goes_on s.relay s.meters (came now at from bytes) in
    came-keeps (known_after s.known at now goes) s.relay now at from bytes n c
    (claim_of s.relay (came now at from bytes)) refl (kept-after s.known at now goes n ∙ e)
state-keeps s now (input.Refused at) bytes n c e = e
state-keeps s now input.Wake bytes n c e = woken-keeps s now n (is_due s.books now) ∙ e

loss-keeps : (m : RelayMachine) (x : Output) (b : Bool) → (cond b (after_loss m x) m).known ≡ m.known
loss-keeps m x true = refl
loss-keeps m x false = refl

losses-keep : (ps : List Posted) (m : RelayMachine) → (after_losses after_loss ps m).known ≡ m.known
losses-keep [] m = refl
losses-keep (p ∷ ps) m =
    losses-keep ps (after_loss_of after_loss p m) ∙ loss-keeps m p.given.output p.lost

turn-keeps : (m : RelayMachine) (t : Turn) (m_then : RelayMachine) (n : ℕ) (c : Claims)
    → IsTurn relay_machine m t m_then → claims_at m.known.items n ≡ Some c
    → claims_at m_then.known.items n
    ≡ Some (with_told (told_by m.relay n (answer_of t)) c (time_of (answer_of t)))
turn-keeps m t m_then n c h e =
    let kept : m_then.known ≡ h.mid.known =
    ap (λ (x : RelayMachine). x.known) h.after ∙ losses-keep t.posted h.mid in
    ap (λ v. claims_at v.items n) kept
    ∙ ap (λ (s : State). claims_at s.known n) h.stepped.left
    ∙ state-keeps (state_of m) t.heard.now t.heard.input t.heard.bytes n c e

turns-keep : (m : RelayMachine) (ts : List Turn) (m_then : RelayMachine) (n : ℕ) (c : Claims)
    → AreTurns relay_machine m ts m_then → claims_at m.known.items n ≡ Some c
    → claims_at m_then.known.items n ≡ Some (told_last m.relay n c (map answer_of ts))
turns-keep m [] m_then n c h e = ap (λ (x : RelayMachine). claims_at x.known.items n) h ∙ e
turns-keep m (t ∷ ts) m_then n c h e =
    let now : Claims = with_told (told_by m.relay n (answer_of t)) c (time_of (answer_of t)) in
    turns-keep h.0 ts m_then n now h.2 (turn-keeps m t h.0 n c h.1 e)
    ∙ ap (λ (r : Relay). Some (told_last r n now (map answer_of ts))) (turn_hands m t h.0 h.1).relay

none-yet : (routes : List Route) (n : ℕ) (route : Route) → slice_get routes n ≡ Some route
    → claims_at (map unknown routes) n ≡ Some no_claims
none-yet [] n route e = absurd (none-some route e)
none-yet (x ∷ xs) zero route e = refl
none-yet (x ∷ xs) (suc n) route e = none-yet xs n route e

pub keeps-claims : KeepsClaims
keeps-claims m ts m_then n route h e =
    let start : claims_at m.known.items n ≡ Some no_claims =
    ap (λ (s : State). claims_at s.known n) h.new ∙ none-yet m.relay.routes.now n route e in
    turns-keep m ts m_then n no_claims h.turns start

pub hands-no-claim : HandsNoClaim
hands-no-claim m ts m_then s d c h in_it side is =
    let a = hands-only-answers m ts m_then s h in_it side in
    answer-no-claim a.0.device d s.bytes c a.2.fits a.1 is
