-- The area before the one that counts.
use Rattle.std.specs.Prelude.{◌≡◌, ◌+◌, ◌⊎◌, ℕ, List, Option, Some, None}
use Rattle.cue_keeper.specs.declared.fault.StoreFault.{StoreFault}
use Rattle.cue_keeper.specs.declared.fault.StoreFault.TheVariants as store
use Rattle.cue_log.specs.Area.{Area, IsArea}
use Rattle.cue_log.specs.declared.opening.OpenFault.{OpenFault}
use Rattle.cue_log.specs.declared.opening.OpenFault.TheVariants as opening

-- why a disk in memory is not opened, as a fault of the store; none if it has no area that can be read
abbrev pub area_fault : OpenFault → Option StoreFault
area_fault opening.Absent = None
area_fault opening.Damaged = None
area_fault opening.Disk = Some store.Memory
area_fault opening.Memory = Some store.Memory

-- the bytes read as the area before this generation, with these payloads; or they do not
abbrev pub IsAreaBefore : ℕ → List ℕ → Option (List (List ℕ)) → Type 0
IsAreaBefore generation bytes (Some payloads) =
    (area : Area) × IsArea area bytes × (area.generation + 1 ≡ generation) × (area.payloads ≡ payloads)
IsAreaBefore generation bytes None = (area : Area) → IsArea area bytes → area.generation + 1 ≡ generation → ⊥

-- one of the two reads as the area before this generation, with these payloads; or neither does
abbrev pub IsEarlier : ℕ → List ℕ → List ℕ → Option (List (List ℕ)) → Type 0
IsEarlier generation x y (Some payloads) =
    IsAreaBefore generation x (Some payloads) ⊎ IsAreaBefore generation y (Some payloads)
IsEarlier generation x y None = IsAreaBefore generation x None × IsAreaBefore generation y None
