-- A GO that may be lit is in time.
use Rattle.std.proofs.Common.{◌≡◌, refl, ◌+◌, ◌<◌, ℕ, Bool, true, ◌&&◌, List, Option, None, Some, IsTrue, nat_lt, arith}
use Rattle.std.proofs.lemmas.Bool.Decides.{nat_tests}
use Rattle.cue_show.proofs.TestLemmas.{both}
use Rattle.cue_show.proofs.TextLemmas.{same_text-true}
use Rattle.cue_show.specs.Number.{same_text}
use Rattle.cue_core.specs.declared.limits.TheConstants.{STANDBY_MS}
use Rattle.cue_exchange.specs.Live.{attempt_of}
use Rattle.cue_exchange.specs.Steps.{can_go_now}
use Rattle.cue_exchange.specs.declared.attempt.Attempt.{Attempt}
use Rattle.cue_view.specs.declared.button.Button.TheVariants as button
use Rattle.cue_station.specs.declared.lighting.Footing.{Footing}
use Rattle.cue_station.specs.declared.memory.Reading.{Reading}
use Rattle.cue_station.specs.Lighting.{is_live_as, is_number, is_ready, may_by}
use Rattle.cue_station.specs.Readings.{IsInTime}
use Rattle.cue_station.specs.Showing.{is_in_time}
use Rattle.cue_station.proofs.LitLemmas.{live_found}

less : (x y : ℕ) → IsTrue (nat_lt x y) → x < y
less x y h = let k : nat_lt x y ≡ true = h in grind (arith, nat_tests, k)

in_time : (o : Option ℕ) (now wall : ℕ) (a : Attempt) → IsTrue (is_in_time o now wall a)
    → (s : ℕ) × (o ≡ Some s) × (wall < a.deadline) × (now < s + STANDBY_MS)
in_time None now wall a h = (cc)
in_time (Some s) now wall a h =
    let k = both (nat_lt wall a.deadline) (nat_lt now (s + STANDBY_MS)) h in
    (s, refl, less wall a.deadline k.0, less now (s + STANDBY_MS) k.1)

pub go-in_time : (f : Footing) (since : ℕ → Option ℕ) (r : Option Reading) (c : List ℕ) (q : ℕ)
    → IsTrue (may_by f since r (button.Go c q)) → IsInTime c q f.at f.wall r (since q)
go-in_time f since None c q h = (cc)
go-in_time f since (Some r) c q h =
    let test : Attempt → Bool = λ a. same_text a.cue c && is_ready (since q) f.at f.wall a in
    let ready = both (f.stands && (f.is_quiet && is_number q f.chosen)) (is_live_as q test r.copy.state.live) h in
    let found = live_found q test (attempt_of r.copy.state.live q) ready.1 in
    let there = both (same_text found.0.cue c) (is_ready (since q) f.at f.wall found.0) found.2 in
    let timed = both (can_go_now found.0) (is_in_time (since q) f.at f.wall found.0) there.1 in
    let k = in_time (since q) f.at f.wall found.0 timed.1 in
    record {
      reading = r;
      read = refl;
      attempt = found.0;
      live = found.1;
      cue = same_text-true found.0.cue c there.0;
      by_wall = k.2;
      seen = k.0;
      first = k.1;
      by_ours = k.3;
    }
