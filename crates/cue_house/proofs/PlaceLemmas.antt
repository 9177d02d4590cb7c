-- Where among the incidents the Go of an attempt was asked for.
use Rattle.std.proofs.Common.{◌≡◌, inl, inr, ℕ, zero, suc, ◌≤◌, Bool, true, false, ◌||◌, List, [], ◌∷◌, ◌++◌}
use Rattle.std.proofs.Common.{refl, sym, ap, ◌∙◌, subst, true≢false, append_assoc, arith}
use Rattle.std.specs.List.{list_any}
use Rattle.cue_core.specs.declared.event.Event.{Event}
use Rattle.cue_core.specs.declared.event.Event.TheVariants as event
use Rattle.cue_core.specs.Events.{is_go_of}
use Rattle.cue_core.specs.State.{ShowState}
use Rattle.cue_core.specs.Steps.{after_events}
use Rattle.cue_core.proofs.lists.AnyLemmas.{any-append}
use Rattle.cue_core.proofs.rules.ApplyLemmas.{after_events-append}
use Rattle.cue_keeper.specs.Stands.{folded_all}
use Rattle.cue_engine.specs.Headline.{AreKept, batches_of}
use Rattle.cue_engine.specs.Incidents.{Incident}
use Rattle.cue_engine.specs.Runs.{joined_list}
use Rattle.cue_engine.proofs.GroupLemmas.{joined_append}
use Rattle.cue_engine.proofs.IncidentLemmas.{events_of, folded_batches, joined_batches}
use Rattle.cue_engine.proofs.KeptLemmas.{joined_kept}
use Rattle.cue_stage.specs.Stage.{meets}
use Rattle.cue_house.specs.Asking.{IsGivenAsAsked, IsReady}
use Rattle.cue_house.specs.Copies.{kept_by}
use Rattle.cue_house.specs.Decisions.{BringsGo}
use Rattle.cue_house.proofs.DecidedLemmas.{incident_gives}

-- the incident at this place brings a go of the cue
abbrev pub BringsAt : ℕ → List Incident → List ℕ → Type 0
BringsAt k [] cue = ⊥
BringsAt zero (i ∷ is) cue = BringsGo (meets i) cue
BringsAt (suc k) (i ∷ is) cue = BringsAt k is cue

-- The Go of q is among the events, and came of the incident at this place: what is kept of those before it stands
-- before.
pub record IsGivenAt (s : ShowState) (es : List Event) (q : ℕ) (is : List Incident) (first : ℕ → List Event) : Type 0
  where
    pub cue : List ℕ
    pub place : ℕ
    pub asked : BringsAt place is cue
    pub before : List Event
    pub later : List Event
    pub split : es ≡ before ++ event.Go q ∷ later
    pub ready : IsReady (after_events s before) q cue
    pub more : List Event
    pub after_first : before ≡ first place ++ more

-- the events that are kept of the first incidents
abbrev pub first_of : (s : ShowState) (is : List Incident) (kept : List (List Event)) → AreKept s is kept → ℕ
    → List Event
first_of s is kept are n = joined_list (kept_by n s is kept are)

given_here : (q : ℕ) (s : ShowState) (i : Incident) (is : List Incident) (es rest : List Event)
    (first : ℕ → List Event) → events_of s i ++ rest ≡ es → first 0 ≡ []
    → IsGivenAsAsked s (events_of s i) q (BringsGo (meets i))
    → IsGivenAt s es q (i ∷ is) first
given_here q s i is es rest first whole none g = record {
  cue = g.cue;
  place = 0;
  asked = g.asked;
  before = g.before;
  later = g.later ++ rest;
  split = sym whole ∙ ap (λ (xs : List Event). xs ++ rest) g.split ∙ append_assoc g.before (event.Go q ∷ g.later) rest;
  ready = g.ready;
  more = g.before;
  after_first = ap (λ (xs : List Event). xs ++ g.before) (sym none);
}

given_later : (q : ℕ) (s : ShowState) (i : Incident) (is : List Incident) (es rest : List Event)
    (first second : ℕ → List Event) → events_of s i ++ rest ≡ es
    → ((n : ℕ) → first (suc n) ≡ events_of s i ++ second n)
    → IsGivenAt (folded_all s (batches_of s i)) rest q is second → IsGivenAt s es q (i ∷ is) first
given_later q s i is es rest first second whole next g = record {
  cue = g.cue;
  place = suc g.place;
  asked = g.asked;
  before = events_of s i ++ g.before;
  later = g.later;
  split = sym whole ∙ ap (λ (xs : List Event). events_of s i ++ xs) g.split
      ∙ sym (append_assoc (events_of s i) g.before (event.Go q ∷ g.later));
  ready = subst (λ (t : ShowState). IsReady t q g.cue)
      (ap (λ (t : ShowState). after_events t g.before) (folded_batches s i)
      ∙ sym (after_events-append s (events_of s i) g.before)) g.ready;
  more = g.more;
  after_first = ap (λ (xs : List Event). events_of s i ++ xs) g.after_first
      ∙ sym (append_assoc (events_of s i) (second g.place) g.more)
      ∙ ap (λ (xs : List Event). xs ++ g.more) (sym (next g.place));
}

given_cut : (q : ℕ) (s : ShowState) (i : Incident) (is : List Incident) (es : List Event)
    (first second : ℕ → List Event) → ((n : ℕ) → first (suc n) ≡ second n) → IsGivenAt s es q is second
    → IsGivenAt s es q (i ∷ is) first
given_cut q s i is es first second next g = record {
  cue = g.cue;
  place = suc g.place;
  asked = g.asked;
  before = g.before;
  later = g.later;
  split = g.split;
  ready = g.ready;
  more = g.more;
  after_first = g.after_first ∙ ap (λ (xs : List Event). xs ++ g.more) (sym (next g.place));
}

next_kept : (s : ShowState) (i : Incident) (others : List (List Event))
    → joined_list (batches_of s i ++ others) ≡ events_of s i ++ joined_list others
next_kept s i others = joined_append (batches_of s i) others
    ∙ ap (λ (xs : List Event). xs ++ joined_list others) (joined_batches s i)

pub kept_at : (q : ℕ) (s : ShowState) (is : List Incident) (kept : List (List Event)) → (are : AreKept s is kept)
    → list_any (is_go_of q) (joined_list kept) ≡ true → IsGivenAt s (joined_list kept) q is (first_of s is kept are)
kept_at q s [] kept are h =
    absurd (true≢false (sym (ap (λ (bs : List (List Event)). list_any (is_go_of q) (joined_list bs)) (sym are) ∙ h)))
kept_at q s (i ∷ is) kept (inr cut) h =
    given_cut q s i is (joined_list kept) (first_of s (i ∷ is) kept (inr cut)) (first_of s is kept cut.1) (λ n. refl)
    (kept_at q s is kept cut.1 h)
kept_at q s (i ∷ is) kept (inl whole) h =
    by (list_any (is_go_of q) (events_of s i)) refl
    (λ k. kept_at q (folded_all s (batches_of s i)) is whole.0 whole.1.1 k)
    (sym (any-append (is_go_of q) (events_of s i) (joined_list whole.0)) ∙ (ap (list_any (is_go_of q)) same ∙ h))
  where
    same : events_of s i ++ joined_list whole.0 ≡ joined_list kept
    same = joined_kept s i kept whole.0 whole.1.0

    second : ℕ → List Event
    second = first_of (folded_all s (batches_of s i)) is whole.0 whole.1.1

    by : (b : Bool) → list_any (is_go_of q) (events_of s i) ≡ b
        → (list_any (is_go_of q) (joined_list whole.0) ≡ true
        → IsGivenAt (folded_all s (batches_of s i)) (joined_list whole.0) q is second)
        → (b || list_any (is_go_of q) (joined_list whole.0)) ≡ true
        → IsGivenAt s (joined_list kept) q (i ∷ is) (first_of s (i ∷ is) kept (inl whole))
    by true is_so f k = given_here q s i is (joined_list kept) (joined_list whole.0)
        (first_of s (i ∷ is) kept (inl whole)) same refl (incident_gives q s i is_so)
    by false is_so f k = given_later q s i is (joined_list kept) (joined_list whole.0)
        (first_of s (i ∷ is) kept (inl whole)) second same
        (λ n. next_kept s i (kept_by n (folded_all s (batches_of s i)) is whole.0 whole.1.1)) (f k)

-- ---- the first ones stand before more of them

-- these stand before those
abbrev pub StandsBefore : List Event → List Event → Type 0
StandsBefore xs ys = (more : List Event) × (ys ≡ xs ++ more)

before_with : (front xs ys : List Event) (a b : List Event) → a ≡ front ++ xs → b ≡ front ++ ys
    → StandsBefore xs ys → StandsBefore a b
before_with front xs ys a b e f k = (
  k.0,
  f ∙ ap (λ (zs : List Event). front ++ zs) k.1 ∙ sym (append_assoc front xs k.0)
      ∙ ap (λ (zs : List Event). zs ++ k.0) (sym e),
)

pub first_before : (n k : ℕ) (s : ShowState) (is : List Incident) (kept : List (List Event))
    → (are : AreKept s is kept) → n ≤ k → StandsBefore (first_of s is kept are n) (first_of s is kept are k)
first_before zero k s is kept are le = (first_of s is kept are k, refl)
first_before (suc n) zero s is kept are le = absurd (omega arith)
first_before (suc n) (suc k) s [] kept are le = ([], refl)
first_before (suc n) (suc k) s (i ∷ is) kept (inr cut) le = first_before n k s is kept cut.1 (omega arith)
first_before (suc n) (suc k) s (i ∷ is) kept (inl whole) le =
    let t : ShowState = folded_all s (batches_of s i) in
    before_with (events_of s i) (first_of t is whole.0 whole.1.1 n) (first_of t is whole.0 whole.1.1 k)
    (first_of s (i ∷ is) kept (inl whole) (suc n)) (first_of s (i ∷ is) kept (inl whole) (suc k))
    (next_kept s i (kept_by n t is whole.0 whole.1.1)) (next_kept s i (kept_by k t is whole.0 whole.1.1))
    (first_before n k t is whole.0 whole.1.1 (omega arith))
