-- Helper: what a memory disk holds, and what it held before each write and each sync.
use Rattle.std.specs.Prelude.{◌≡◌, ◌≤◌, ◌+◌, ℕ, nat_le, nat_lt, Bool, false, ◌&&◌, ◌||◌, List, [], ◌∷◌, length, take}
use Rattle.std.specs.Prelude.{drop}
use Rattle.std.specs.List.{list_any}
use Rattle.cue_disk.specs.Disk.{Contents, overwritten_bytes}
use Rattle.cue_disk.specs.declared.medium.Medium.{Medium}
use Rattle.cue_disk.specs.declared.medium.Change.{Change}
use Rattle.cue_disk.specs.declared.medium.Change.TheVariants.{Wrote, Synced}

-- The bytes, the length at the last sync, and the moment of that sync.
pub record State : Type 0 where
  pub bytes : List ℕ
  pub synced : ℕ
  pub synced_at : ℕ

-- A write touches each byte that it was asked for, whether it stored it or not.
abbrev pub touches : ℕ → Change → Bool
touches i (Wrote at asked bytes len) = nat_le at i && nat_lt i (at + asked)
touches i (Synced synced synced_at) = false

-- One of these changes touches this byte.
abbrev pub is_touched : List Change → ℕ → Bool
is_touched changes i = list_any (touches i) changes

-- What is held after these changes: a byte is touched if it was written since the last sync, or lies past the length
-- at that sync.
abbrev pub contents : State → List Change → Contents
contents state past = record {
  bytes = state.bytes;
  synced = state.synced;
  touched = λ i. is_touched (drop state.synced_at past) i || nat_le state.synced i;
}

-- A list of an earlier length, with what stood there from an offset on.
abbrev pub restored_bytes : List ℕ → ℕ → List ℕ → ℕ → List ℕ
restored_bytes now at old len = take len (overwritten_bytes now at old)

-- as it was before this change
abbrev pub undone : Change → State → State
undone (Wrote at asked bytes len) now = record now { bytes = restored_bytes now.bytes at bytes.items len }
undone (Synced synced synced_at) now = record now { synced = synced; synced_at = synced_at }

-- as it was before all of these changes
abbrev pub rewound : State → List Change → State
rewound now [] = now
rewound now (change ∷ changes) = undone change (rewound now changes)

-- the state of a medium
abbrev pub state_of : Medium → State
state_of medium = record {
  bytes = medium.bytes.items;
  synced = medium.synced;
  synced_at = medium.synced_at;
}

-- what it holds
abbrev pub medium_held : Medium → Contents
medium_held medium = contents (state_of medium) medium.past.items

-- the number of changes so far
abbrev pub medium_moment : Medium → ℕ
medium_moment medium = length medium.past.items

-- what it held after so many changes
abbrev pub medium_held_at : Medium → ℕ → Contents
medium_held_at medium k = contents (rewound (state_of medium) (drop k medium.past.items)) (take k medium.past.items)

-- This change undoes each write of at most so many bytes there.
abbrev pub UndoesWrites : Change → ℕ → ℕ → State → Type 0
UndoesWrites change at asked state =
    (stored : List ℕ) → length stored ≤ asked → undone change
    (record state { bytes = overwritten_bytes state.bytes at stored }) ≡ state

-- This change touches so many bytes from there on.
abbrev pub Touches : Change → ℕ → ℕ → Type 0
Touches change at asked = (i : ℕ) → touches i change ≡ (nat_le at i && nat_lt i (at + asked))

-- nothing was changed, and nothing was recorded
pub record IsUnchanged (old new : Medium) : Type 0 where
  pub state : state_of new ≡ state_of old
  pub past : new.past.items ≡ old.past.items
