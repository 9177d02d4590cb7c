-- A state that stands behind its version: where its parts are found, and where they are not.
use Rattle.std.proofs.Common.{◌≡◌, ◌↔◌, ℕ, Bool, true, false, List, [], Option, Some, None, IsTrue, refl, sym, ap, ◌∙◌}
use Rattle.std.specs.Prelude.{IfSome, IsSome, ok_or}
use Rattle.cue_show.specs.Show.{ShowLists, empty_show}
use Rattle.cue_exchange.specs.declared.attempt.Attempt.{Attempt}
use Rattle.cue_core.specs.declared.event.Ended.{Ended}
use Rattle.cue_core.specs.State.{ShowState, is_state}
use Rattle.cue_records.specs.declared.fault.ReadFault.{ReadFault}
use Rattle.cue_records.specs.declared.fault.ReadFault.TheVariants as fault
use Rattle.cue_records.specs.declared.parts_form.PartsForm.{PartsForm}
use Rattle.cue_records.specs.Reading.{Fails, Gives, where_it}
use Rattle.cue_records.specs.StateReading.{show_at, tail_of, standing_of}

-- where no show is found, no state is
pub no_show : (form : PartsForm) (e : ReadFault) (bytes : List ℕ) (start : ShowLists) → start ≡ empty_show
    → Fails e (show_at form start bytes) → Fails e (standing_of form bytes)
unfolding standing_of
no_show form fault.Memory bytes start new h = tt
no_show form fault.Malformed bytes start new h =
    let none : show_at form empty_show bytes ≡ None = ap (λ s. show_at form s bytes) (sym new) ∙ h in
    rw none refl

-- where nothing is found behind the show, no state is
pub no_tail : (form : PartsForm) (e : ReadFault) (bytes : List ℕ) (start show : ShowLists) (after : List ℕ)
    (before : List Attempt) → start ≡ empty_show → before ≡ [] → show_at form start bytes ≡ Some (show, after)
    → Fails e (tail_of show before after)
    → Fails e (standing_of form bytes)
unfolding standing_of
no_tail form fault.Memory bytes start show after before new no_live found h = tt
no_tail form fault.Malformed bytes start show after before new no_live found h =
    let front : show_at form empty_show bytes ≡ Some (show, after) = ap (λ s. show_at form s bytes) (sym new) ∙ found in
    let none : tail_of show [] after ≡ None = ap (λ live. tail_of show live after) (sym no_live) ∙ h in
    rw (front, none) refl

-- what does not follow from the false is false
not_so : (b : Bool) → (IsTrue b → IsTrue false) → b ≡ false
not_so false h = refl
not_so true h = let e : IsTrue false = h refl in absurd cc

-- a state that is made where it keeps the rules is the checked one
made_so : (s : ShowState) (made : Option ShowState) → IfSome made (λ m. m ≡ s) → (IsSome made ↔ IsTrue (is_state s))
    → Gives (λ m. m) (ok_or made fault.Malformed) (where_it (is_state s) s)
made_so s (Some m) same exact = let may : is_state s ≡ true = exact.0 refl in rw (may, same) refl
made_so s None same exact = let not_may : is_state s ≡ false = not_so (is_state s) exact.1 in rw not_may refl

-- where all parts are found, the state is what is made of them
pub stands : (form : PartsForm) (bytes : List ℕ) (start show : ShowLists) (after : List ℕ) (before live : List Attempt)
    (last_seq : ℕ) (ended : Option Ended) (made : Option ShowState) → start ≡ empty_show → before ≡ []
    → show_at form start bytes ≡ Some (show, after) → tail_of show before after ≡ Some (last_seq, (ended, live))
    → IfSome made (λ m. m ≡ record { show = show; live = live; last_seq = last_seq; ended = ended })
    → (IsSome made ↔ IsTrue (is_state (record { show = show; live = live; last_seq = last_seq; ended = ended })))
    → Gives (λ m. m) (ok_or made fault.Malformed) (standing_of form bytes)
unfolding standing_of
stands form bytes start show after before live last_seq ended made new no_live found rest same exact =
    let front : show_at form empty_show bytes ≡ Some (show, after) = ap (λ s. show_at form s bytes) (sym new) ∙ found in
    let tail : tail_of show [] after ≡ Some (last_seq, (ended, live)) = ap (λ l. tail_of show l after) (sym no_live)
    ∙ rest in
    rw (front, tail) (made_so (record { show = show; live = live; last_seq = last_seq; ended = ended }) made same exact)
