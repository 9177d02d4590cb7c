-- Whether bytes read as the area before a generation.
use Rattle.std.proofs.Common.{◌≡◌, ◌+◌, ◌↔◌, ℕ, Bool, true, false, if◌then◌else◌, List, Option, Some, None, refl, subst}
use Rattle.std.specs.Prelude.{IsTrue, is_none}
use Rattle.std.proofs.lemmas.Bool.{false≢true, true≢false}
use Rattle.cue_log.specs.Area.{Area, IsArea, IsAbsent}
use Rattle.cue_log.specs.Log.{IsDamaged}
use Rattle.cue_log.specs.declared.opening.OpenFault.{OpenFault}
use Rattle.cue_log.specs.declared.opening.OpenFault.TheVariants as opening
use Rattle.cue_log.proofs.CompleteLemmas.{unique}
use Rattle.cue_log.proofs.SoundLemmas.{area_not_absent}
use Rattle.cue_keeper.specs.declared.fault.StoreFault.{StoreFault}
use Rattle.cue_copies.specs.Earlier.{IsAreaBefore, area_fault}

-- bytes that read as an area read as no other one: so it is the one before, or none is
pub before_or_none : (generation : ℕ) (bytes : List ℕ) (area : Area) (b : Bool) → IsArea area bytes
    → (IsTrue b ↔ (area.generation + 1 ≡ generation))
    → IsAreaBefore generation bytes (if b then Some area.payloads else None)
before_or_none generation bytes area true is says = (area, is, says.0 refl, refl)
before_or_none generation bytes area false is says =
    λ other is_other same. false≢true (says.1 (subst (λ (a : Area). a.generation + 1 ≡ generation)
    (unique other area bytes is_other is) same))

none_some : (f : StoreFault) → Some f ≡ None → ⊥
none_some f same = true≢false (subst (λ (o : Option StoreFault). is_none o ≡ false) same refl)

-- bytes that are absent, or damaged, read as no area
pub no_area : (fault : OpenFault) (bytes : List ℕ) → (fault ≡ opening.Absent → IsAbsent bytes)
    → (fault ≡ opening.Damaged → IsDamaged bytes) → area_fault fault ≡ None
    → (area : Area) → IsArea area bytes → ⊥
no_area opening.Absent bytes absent damaged none area is = area_not_absent area bytes is (absent refl)
no_area opening.Damaged bytes absent damaged none area is = (damaged refl).1 area is
no_area opening.Disk bytes absent damaged none area is = none_some _ none
no_area opening.Memory bytes absent damaged none area is = none_some _ none
