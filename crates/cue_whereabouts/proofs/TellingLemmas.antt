-- What hearing events keeps, and what it covers.
use Rattle.std.proofs.Common.{◌≡◌, ◌∙◌, ℕ, true, false, ◌⊎◌, if◌then◌else◌, IsTrue, List, [], ◌∷◌, Option, None, Some}
use Rattle.std.proofs.Common.{refl, ap, arith, inl, inr, ⊎_elim}
use Rattle.std.proofs.lemmas.List.Elements.{Contains-append_right}
use Rattle.std.specs.List.{fold, list_all, Contains}
use Rattle.cue_show.proofs.TestLemmas.{both, join}
use Rattle.cue_show.specs.Show.{ShowLists}
use Rattle.cue_core.specs.declared.event.Event.{Event}
use Rattle.cue_whereabouts.specs.Laws.{Reading, after_readings, is_no_newer, tells_no_newer, IsTold}
use Rattle.cue_whereabouts.specs.Telling.{after_ending, after_event, after_reading, ending, is_newer, last_part}
use Rattle.cue_whereabouts.specs.declared.last.End.{End}
use Rattle.cue_whereabouts.specs.Ending.{PartEnd}

-- ---- one event

-- what was no newer stays so
pub ending-keeps : (show : ShowLists) (all : List Event) (d : ℕ) (x : Option (ℕ × End)) (k : Option PartEnd)
    (e : Option (ℕ × End)) → is_no_newer k x ≡ true → is_no_newer (after_ending show all d k e) x ≡ true
ending-keeps show all d None k e h = refl
ending-keeps show all d (Some x) k None h = h
ending-keeps show all d (Some x) None (Some e) h = grind arith
ending-keeps show all d (Some x) (Some k) (Some e) h = grind arith

-- what ended is no newer than what is known then
pub ending-covers : (show : ShowLists) (all : List Event) (d : ℕ) (k : Option PartEnd) (e : Option (ℕ × End))
    → is_no_newer (after_ending show all d k e) e ≡ true
ending-covers show all d k None = refl
ending-covers show all d None (Some e) = grind arith
ending-covers show all d (Some k) (Some e) = grind arith

-- what is no newer changes nothing
pub ending-still : (show : ShowLists) (all : List Event) (d : ℕ) (k : Option PartEnd) (e : Option (ℕ × End))
    → is_no_newer k e ≡ true → after_ending show all d k e ≡ k
ending-still show all d k None h = refl
ending-still show all d k (Some e) h = grind arith

-- ---- the events of a reading

pub events-keep : (show : ShowLists) (all : List Event) (d : ℕ) (x : Option (ℕ × End)) (k : Option PartEnd)
    (es : List Event) → is_no_newer k x ≡ true → is_no_newer (fold (after_event show all d) k es) x ≡ true
events-keep show all d x k [] h = h
events-keep show all d x k (e ∷ es) h =
    events-keep show all d x (after_event show all d k e) es (ending-keeps show all d x k (ending all d e) h)

pub events-cover : (show : ShowLists) (all : List Event) (d : ℕ) (k : Option PartEnd) (es : List Event)
    → IsTrue (list_all (λ e. is_no_newer (fold (after_event show all d) k es) (ending all d e)) es)
events-cover show all d k [] = refl
events-cover show all d k (e ∷ es) =
    let next = after_event show all d k e in
    let last = fold (after_event show all d) next es in
    join (is_no_newer last (ending all d e)) (list_all (λ x. is_no_newer last (ending all d x)) es)
    (events-keep show all d (ending all d e) next es (ending-covers show all d k (ending all d e)))
    (events-cover show all d next es)

pub events-still : (show : ShowLists) (all : List Event) (d : ℕ) (k : Option PartEnd) (es : List Event)
    → IsTrue (list_all (λ e. is_no_newer k (ending all d e)) es) → fold (after_event show all d) k es ≡ k
events-still show all d k [] h = refl
events-still show all d k (e ∷ es) h =
    let s : IsTrue (is_no_newer k (ending all d e)) × IsTrue (list_all (λ x. is_no_newer k (ending all d x)) es) =
    both (is_no_newer k (ending all d e)) (list_all (λ x. is_no_newer k (ending all d x)) es) h in
    let same : after_event show all d k e ≡ k = ending-still show all d k (ending all d e) s.0 in
    ap (λ x. fold (after_event show all d) x es) same ∙ events-still show all d k es s.1

-- a reading that is heard again changes nothing
pub reading-again : (show : ShowLists) (events : List Event) (d : ℕ) (known : Option PartEnd)
    → after_reading show events d (after_reading show events d known) ≡ after_reading show events d known
reading-again show events d known =
    events-still show events d (after_reading show events d known) events (events-cover show events d known events)

-- ---- readings, one after the other

-- a reading that tells of nothing newer than what is known does not do so later
pub reading-keeps : (show : ShowLists) (events : List Event) (d : ℕ) (r : Reading) (k : Option PartEnd) (es : List Event)
    → IsTrue (list_all (λ e. is_no_newer k (ending r.events d e)) es)
    → IsTrue (list_all (λ e. is_no_newer (after_reading show events d k) (ending r.events d e)) es)
reading-keeps show events d r k [] h = refl
reading-keeps show events d r k (e ∷ es) h =
    let x = ending r.events d e in
    let new = after_reading show events d k in
    let s : IsTrue (is_no_newer k x) × IsTrue (list_all (λ y. is_no_newer k (ending r.events d y)) es) =
    both (is_no_newer k x) (list_all (λ y. is_no_newer k (ending r.events d y)) es) h in
    join (is_no_newer new x) (list_all (λ y. is_no_newer new (ending r.events d y)) es)
    (events-keep show events d x k events s.0)
    (reading-keeps show events d r k es s.1)

pub readings-keep : (d : ℕ) (r : Reading) (k : Option PartEnd) (rs : List Reading) → IsTrue (tells_no_newer d k r)
    → IsTrue (tells_no_newer d (after_readings d k rs) r)
readings-keep d r k [] h = h
readings-keep d r k (s ∷ rs) h =
    readings-keep d r (after_reading s.show s.events d k) rs (reading-keeps s.show s.events d r k r.events h)

-- none of them tells of a newer attempt than what is known after all
pub readings-cover : (d : ℕ) (k : Option PartEnd) (rs : List Reading)
    → IsTrue (list_all (tells_no_newer d (after_readings d k rs)) rs)
readings-cover d k [] = refl
readings-cover d k (r ∷ rs) =
    let next = after_reading r.show r.events d k in
    let last = after_readings d next rs in
    join (tells_no_newer d last r) (list_all (tells_no_newer d last) rs)
    (readings-keep d r next rs (events-cover r.show r.events d k r.events))
    (readings-cover d next rs)

-- ---- where what is known comes from

-- the first of a list is one of it
Contains-head : {A : Type 0} (x : A) (xs : List A) → Contains (x ∷ xs) x
Contains-head x xs = (0, omega arith, refl)

-- an event leaves what is known, or what is known then is what it tells
pub ending-tells : (show : ShowLists) (all : List Event) (d : ℕ) (k : Option PartEnd) (e : Option (ℕ × End))
    → (after_ending show all d k e ≡ k)
    ⊎ ((ended : ℕ × End) × (e ≡ Some ended) × (after_ending show all d k e ≡ Some (last_part show all d ended)))
ending-tells show all d k None = inl refl
ending-tells show all d k (Some ended) =
    elim (is_newer ended.0 k)
    as (λ b. ((if b then Some (last_part show all d ended) else k) ≡ k)
    ⊎ ((other : ℕ × End) × (Some ended ≡ Some other)
    × ((if b then Some (last_part show all d ended) else k) ≡ Some (last_part show all d other))))
    [ true ↦ inr (ended, refl, refl) | false ↦ inl refl ]

-- what is known after events is what was known, or what one of them tells
pub record IsOf (show : ShowLists) (all : List Event) (d : ℕ) (es : List Event) (known : Option PartEnd) : Type 0 where
  pub event : Event
  pub ended : ℕ × End
  pub is_event : Contains es event
  pub ends : ending all d event ≡ Some ended
  pub is : known ≡ Some (last_part show all d ended)

pub events-tell : (show : ShowLists) (all : List Event) (d : ℕ) (k : Option PartEnd) (es : List Event)
    → (fold (after_event show all d) k es ≡ k) ⊎ IsOf show all d es (fold (after_event show all d) k es)
events-tell show all d k [] = inl refl
events-tell show all d k (e ∷ es) =
    let next = after_event show all d k e in
    let last = fold (after_event show all d) next es in
    ⊎_elim
    (λ (same : last ≡ next).
    ⊎_elim
    (λ (still : next ≡ k). inl (same ∙ still))
    (λ (t : (ended : ℕ × End) × (ending all d e ≡ Some ended) × (next ≡ Some (last_part show all d ended))).
    inr (record { event = e; ended = t.0; is_event = Contains-head e es; ends = t.1; is = same ∙ t.2 }))
    (ending-tells show all d k (ending all d e)))
    (λ (t : IsOf show all d es last).
    inr (record {
      event = t.event;
      ended = t.ended;
      is_event = Contains-append_right (e ∷ []) es t.event t.is_event;
      ends = t.ends;
      is = t.is;
    }))
    (events-tell show all d next es)

pub readings-tell : (d : ℕ) (k : Option PartEnd) (rs : List Reading)
    → (after_readings d k rs ≡ k) ⊎ IsTold d rs (after_readings d k rs)
readings-tell d k [] = inl refl
readings-tell d k (r ∷ rs) =
    let next = after_reading r.show r.events d k in
    let last = after_readings d next rs in
    ⊎_elim
    (λ (same : last ≡ next).
    ⊎_elim
    (λ (still : next ≡ k). inl (same ∙ still))
    (λ (t : IsOf r.show r.events d r.events next).
    inr (record {
      reading = r;
      event = t.event;
      ended = t.ended;
      is_heard = Contains-head r rs;
      is_event = t.is_event;
      ends = t.ends;
      is = same ∙ t.is;
    }))
    (events-tell r.show r.events d k r.events))
    (λ (t : IsTold d rs last).
    inr (record {
      reading = t.reading;
      event = t.event;
      ended = t.ended;
      is_heard = Contains-append_right (r ∷ []) rs t.reading t.is_heard;
      is_event = t.is_event;
      ends = t.ends;
      is = t.is;
    }))
    (readings-tell d next rs)
