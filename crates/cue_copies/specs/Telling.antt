-- What the records of a store tell.
use Rattle.std.specs.Prelude.{◌≡◌, ◌++◌, ℕ, List, [], ◌∷◌, Option, Some, None, IsTrue}
use Rattle.cue_disk.specs.Disk.{Contents}
use Rattle.cue_log.specs.Area.{Area}
use Rattle.cue_snap.specs.Pair.{PairReads}
use Rattle.cue_snap.specs.declared.opening.OpenFault.{OpenFault}
use Rattle.cue_snap.specs.declared.opening.OpenFault.TheVariants as opening
use Rattle.cue_core.specs.declared.event.Event.{Event}
use Rattle.cue_records.specs.Batch.{is_batch, batch_text}
use Rattle.cue_records.specs.declared.fault.ReadFault.{ReadFault}
use Rattle.cue_records.specs.declared.fault.ReadFault.TheVariants as read
use Rattle.cue_keeper.specs.Observed.{state_of}
use Rattle.cue_keeper.specs.Stands.{Stands}
use Rattle.cue_keeper.specs.declared.fault.StoreFault.{StoreFault}
use Rattle.cue_keeper.specs.declared.fault.StoreFault.TheVariants as store
use Rattle.cue_copies.specs.Copies.{CannotBeOpened, copy_of}
use Rattle.cue_copies.specs.Earlier.{IsEarlier}
use Rattle.cue_copies.specs.declared.copying.Copies.{Copies}
use Rattle.cue_copies.specs.declared.reading.Found.{Found}
use Rattle.cue_copies.specs.declared.reading.Found.TheVariants.{Whole, Same, Refused, Changing}

-- why a batch is not read, as a fault of the store
abbrev pub batch_fault : ReadFault → StoreFault
batch_fault read.Malformed = store.Malformed
batch_fault read.Memory = store.Memory

-- why two disks in memory are not opened, as a fault of the store
abbrev pub pair_fault : OpenFault → StoreFault
pair_fault opening.Damaged = store.Damaged
pair_fault opening.Unformed = store.Unformed
pair_fault opening.Disk = store.Memory
pair_fault opening.Memory = store.Memory

-- the payload is the encoding of a batch, whose events come after those before
pub record TellsOne (payload : List ℕ) (before after : List Event) : Type 0 where
  pub batch : List Event
  pub is_batch : IsTrue (is_batch batch)
  pub text : payload ≡ batch_text batch
  pub is : after ≡ before ++ batch

-- the payloads are the encodings of batches, and these are their events, one after the other
pub record AreToldBy (payload : List ℕ) (told : List Event → Type 0) (events : List Event) : Type 0 where
  pub batch : List Event
  pub more : List Event
  pub is_batch : IsTrue (is_batch batch)
  pub text : payload ≡ batch_text batch
  pub rest : told more
  pub is : events ≡ batch ++ more

abbrev pub AreTold : List (List ℕ) → List Event → Type 0
AreTold [] events = events ≡ []
AreTold (payload ∷ payloads) events = AreToldBy payload (AreTold payloads) events

-- these payloads; none if there are none
abbrev pub or_none : Option (List (List ℕ)) → List (List ℕ)
or_none None = []
or_none (Some payloads) = payloads

-- The earlier payloads tell of the first of these events, and the later ones of the others.
pub record AreBothTold (earlier later : List (List ℕ)) (events : List Event) : Type 0 where
  pub before : List Event
  pub after : List Event
  pub first : AreTold earlier before
  pub last : AreTold later after
  pub is : events ≡ before ++ after

-- The two read as an area. Its records tell of the last of these events, and those of the area before it of the events
-- before them, if one of the two still reads as that.
pub record Tells (x y : List ℕ) (events : List Event) : Type 0 where
  pub area : Area
  pub reads : PairReads area x y
  pub earlier : Option (List (List ℕ))
  pub is_earlier : IsEarlier area.generation x y earlier
  pub told : AreBothTold (or_none earlier) area.payloads events

-- the copies are of these bytes
abbrev pub AreOf : Option Copies → List ℕ → List ℕ → Type 0
AreOf None x y = ⊥
AreOf (Some copies) x y = (copies.first.items ≡ x) × (copies.second.items ≡ y)

-- If a store was read, the copies are of the two, which stand for its state and tell of its events; or the last copies
-- are of the two; or it is said why the store is refused.
abbrev pub IsFoundIn : Option Copies → List ℕ → List ℕ → Found → Type 0
IsFoundIn last x y (Whole copies keeper events) =
    AreOf (Some copies) x y × Stands x y (state_of keeper) × Tells x y events.items
IsFoundIn last x y Same = AreOf last x y
IsFoundIn last x y (Refused fault) = CannotBeOpened fault x y
IsFoundIn last x y Changing = ⊥

-- the same of what two disks hold
abbrev pub StandsAsFound : Option Copies → Contents → Contents → Found → Type 0
StandsAsFound last first second found = IsFoundIn last (copy_of first) (copy_of second) found
