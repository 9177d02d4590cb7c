-- What a tick or a recovery cancels fits one record.
use Rattle.std.proofs.Common.{Result, Ok, Err, ◌≡◌, ℕ, ◌*◌, ◌≤◌, ap, not, ◌&&◌, Bool, List, [], ◌∷◌, length, map}
use Rattle.std.proofs.Common.{filter, refl, ◌∙◌, arith, length-append, IsTrue}
use Rattle.std.specs.Prelude.{IfOk}
use Rattle.std.specs.List.{flat_map}
use Rattle.std.proofs.lemmas.Bool.{leb-true}
use Rattle.std.proofs.lemmas.List.{length-map}
use Rattle.std.proofs.lemmas.Simd.{map-map}
use Rattle.std.proofs.lemmas.List.Filters.{length-filter_both}
use Rattle.cue_exchange.specs.declared.attempt.Attempt.{Attempt}
use Rattle.cue_exchange.specs.declared.attempt.Reason.{Reason}
use Rattle.cue_exchange.specs.declared.limits.TheConstants.{MAX_LIVE}
use Rattle.cue_exchange.specs.Live.{are_live}
use Rattle.cue_exchange.proofs.LiveLemmas.{room_of}
use Rattle.cue_exchange.proofs.ListLemmas.{both}
use Rattle.cue_show.specs.Show.{is_show}
use Rattle.cue_core.specs.declared.event.Event.TheVariants.{Cancel}
use Rattle.cue_core.specs.State.{ShowState, is_state, are_tied}
use Rattle.cue_core.specs.Happenings.{cancels}
use Rattle.cue_records.specs.Batch.{event_text}
use Rattle.cue_engine.specs.Takes.{FitsRecord}

few_of : {X : Type 0} (p : X → Bool) (xs : List X) → length (filter p xs) ≤ length xs
few_of p xs = omega (arith, length-filter_both p (λ x. not (p x)) (λ x. refl) xs)

live_few : (s : ShowState) → IsTrue (is_state s) → length s.live ≤ MAX_LIVE
live_few s h = leb-true (length s.live) MAX_LIVE
    (room_of s.live (both (are_live s.live) (are_tied s) (both (is_show s.show) (are_live s.live && are_tied s) h).1).0)

pub cancels_few : (test : Attempt → Bool) (r : Reason) (s : ShowState) → IsTrue (is_state s)
    → length (cancels test r s) ≤ 8
cancels_few test r s h =
    let same : length (cancels test r s) ≡ length (filter test s.live) =
    length-map (filter test s.live) (λ (a : Attempt). Cancel a.seq r) in
    omega (arith, live_few s h, few_of test s.live, same)

text_of : (r : Reason) (xs : List Attempt) → length (flat_map event_text (map (λ (a : Attempt). Cancel a.seq r) xs)) ≡ 6
    * length xs
text_of r [] = refl
text_of r (a ∷ xs) = omega (
  arith,
  text_of r xs,
  length-append (event_text (Cancel a.seq r))
      (flat_map event_text (map (λ (b : Attempt). Cancel b.seq r) xs)),
)

pub cancels_fit : (test : Attempt → Bool) (r : Reason) (s : ShowState) → IsTrue (is_state s)
    → FitsRecord (cancels test r s)
cancels_fit test r s h = record {
  most = omega (arith, cancels_few test r s h);
  short = omega (arith, live_few s h, few_of test s.live, text_of r (filter test s.live));
}

-- ---- as the code has it

pub cancels_are : (test : Attempt → Bool) (r : Reason) (s : ShowState) (seqs : List ℕ)
    → seqs ≡ map (λ (a : Attempt). a.seq) (filter test s.live) → map (λ (q : ℕ). Cancel q r) seqs ≡ cancels test r s
cancels_are test r s seqs e = ap (map (λ (q : ℕ). Cancel q r)) e
    ∙ map-map (λ (q : ℕ). Cancel q r) (λ (a : Attempt). a.seq) (filter test s.live)

pub on_batch : {V E : Type 0} {P Q : V → Type 0} (r : Result V E) → IfOk r P → ((v : V) → P v → Q v) → IfOk r Q
on_batch (Ok v) holds follows = follows v holds
on_batch (Err x) holds follows = holds
