-- A step that is taken twice.
use Rattle.std.proofs.Common.{◌≡◌, ℕ, Bool, true, false, cond, ◌&&◌, not, List, [], ◌∷◌, ◌++◌, Option, Some, None}
use Rattle.std.proofs.Common.{refl, ap, ◌∙◌, subst, inl, inr}
use Rattle.std.specs.Prelude.{IsTrue, is_some, nat_eq}
use Rattle.std.specs.Cmp.{nat_eq_equiv}
use Rattle.std.specs.Map.{lookup}
use Rattle.std.proofs.lemmas.Option.{none-some, same_Some}
use Rattle.cue_show.specs.declared.part.Part.{Part}
use Rattle.cue_show.specs.Number.{same_text}
use Rattle.cue_show.specs.Show.{ShowLists, can_add_cue, can_add_device, can_remove_device, has_cue, has_device}
use Rattle.cue_show.specs.Show.{is_cue_of, is_full, is_show, is_used, parts_of, port_of, with_cue, with_device}
use Rattle.cue_show.specs.Show.{with_place}
use Rattle.cue_show.specs.Show.{without_cue, without_device}
use Rattle.cue_show.specs.DeviceNumber.{is_device, is_port}
use Rattle.cue_show.proofs.ChangeLemmas.{port_of-without_device}
use Rattle.cue_show.proofs.ShowLemmas.{parts_of-without_cue}
use Rattle.cue_show.proofs.TextLemmas.{same_text-itself}
use Rattle.cue_loading.specs.declared.step.Step.TheVariants as step
use Rattle.cue_loading.specs.Steps.{if_taken}
use Rattle.cue_load_machine.specs.Plans.{ChangesNothingMore, TwiceIsOnce}

is_taken : (b : Bool) (u t : ShowLists) → if_taken b u ≡ Some t → (b ≡ true) × (u ≡ t)
is_taken true u t e = (refl, same_Some u t e)
is_taken false u t e = absurd (none-some t e)

pushed_is_there : {K : Type 0} {V : Type 0} (test : K → Bool) (es : List (K × V)) (e : K × V) → test e.0 ≡ true
    → is_some (lookup test (es ++ e ∷ [])) ≡ true
pushed_is_there {K} {V} test [] e h = ap (λ (b : Bool). is_some (cond {A = Option V} b (Some e.1) None)) h
pushed_is_there {K} {V} test (f ∷ es) e h = by (test f.0) (pushed_is_there test es e h)
  where
    by : (b : Bool) → is_some (lookup test (es ++ e ∷ [])) ≡ true
        → is_some (cond {A = Option V} b (Some f.1) (lookup test (es ++ e ∷ []))) ≡ true
    by true rest = refl
    by false rest = rest

device_added : (s : ShowLists) (d port : ℕ) → ChangesNothingMore (with_device s d port) (step.AddDevice d port)
device_added s d port =
    let t : ShowLists = with_device s d port in
    let there : has_device t d ≡ true = pushed_is_there (nat_eq d) s.devices (d, port) (nat_eq_equiv.refl d) in
    inl (ap (λ (b : Bool). if_taken (not b && (is_device d && is_port port)) (with_device t d port)) there)

cue_added : (s : ShowLists) (c : List ℕ) (parts : List Part)
    → ChangesNothingMore (with_cue s c parts) (step.AddCue c parts)
cue_added s c parts =
    let t : ShowLists = with_cue s c parts in
    let there : has_cue t c ≡ true = pushed_is_there (same_text c) s.cues (c, parts) (same_text-itself c) in
    inl (ap (λ (b : Bool). if_taken (not b && (not (is_full t) && is_cue_of t (c, parts))) (with_cue t c parts)) there)

device_removed : (s : ShowLists) (d : ℕ) → IsTrue (is_show s)
    → ChangesNothingMore (without_device s d) (step.RemoveDevice d)
device_removed s d show =
    let t : ShowLists = without_device s d in
    let gone : port_of t d ≡ None =
    port_of-without_device s d d show
    ∙ ap (λ (b : Bool). cond {A = Option ℕ} b None (port_of s d)) (nat_eq_equiv.refl d) in
    inl (ap (λ (o : Option ℕ). if_taken (is_some o && not (is_used t d)) (without_device t d)) gone)

cue_removed : (s : ShowLists) (c : List ℕ) → IsTrue (is_show s)
    → ChangesNothingMore (without_cue s c) (step.RemoveCue c)
cue_removed s c show =
    let t : ShowLists = without_cue s c in
    let gone : parts_of t c ≡ None =
    parts_of-without_cue s c c show
    ∙ ap (λ (b : Bool). cond {A = Option (List Part)} b None (parts_of s c)) (same_text-itself c) in
    inl (ap (λ (o : Option (List Part)). if_taken (is_some o) (without_cue t c)) gone)

place_moved : (s : ShowLists) (c : List ℕ) → has_cue s c ≡ true
    → ChangesNothingMore (with_place s (Some c)) (step.MovePlace c)
place_moved s c there = inr (ap (λ (b : Bool). if_taken b (with_place s (Some c))) there)

pub twice-is-once : TwiceIsOnce
twice-is-once s (step.AddDevice d port) t show e =
    let taken = is_taken (can_add_device s d port) (with_device s d port) t e in
    subst (λ (u : ShowLists). ChangesNothingMore u (step.AddDevice d port)) taken.1 (device_added s d port)
twice-is-once s (step.RemoveDevice d) t show e =
    let taken = is_taken (can_remove_device s d) (without_device s d) t e in
    subst (λ (u : ShowLists). ChangesNothingMore u (step.RemoveDevice d)) taken.1 (device_removed s d show)
twice-is-once s (step.AddCue c parts) t show e =
    let taken = is_taken (can_add_cue s c parts) (with_cue s c parts) t e in
    subst (λ (u : ShowLists). ChangesNothingMore u (step.AddCue c parts)) taken.1 (cue_added s c parts)
twice-is-once s (step.RemoveCue c) t show e =
    let taken = is_taken (has_cue s c) (without_cue s c) t e in
    subst (λ (u : ShowLists). ChangesNothingMore u (step.RemoveCue c)) taken.1 (cue_removed s c show)
twice-is-once s (step.MovePlace c) t show e =
    let taken = is_taken (has_cue s c) (with_place s (Some c)) t e in
    subst (λ (u : ShowLists). ChangesNothingMore u (step.MovePlace c)) taken.1 (place_moved s c taken.0)
