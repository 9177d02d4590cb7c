-- The device table: its rules in parts, and why its length is kept by the numbers alone.
use Rattle.std.proofs.Common.{◌≡◌, ℕ, ◌<◌, ◌≤◌, ◌⊎◌, inl, inr, Bool, true, false, ◌&&◌, List, [], ◌∷◌, ◌++◌, length}
use Rattle.std.proofs.Common.{eqb, nat_eq, nat_le, sym, ap, ◌∙◌, true≢false, arith}
use Rattle.std.specs.Cmp.{nat_eq_equiv}
use Rattle.std.specs.List.{list_any, list_all}
use Rattle.std.specs.Map.{remove_entry, keys_of}
use Rattle.std.proofs.lemmas.Bool.{and_parts, and_from, or_cases, eqb-true, leb-true, le-leb}
use Rattle.std.proofs.lemmas.List.{map-append, length-map}
use Rattle.std.proofs.lemmas.Map.Steps.{length-le_from_distinct_below}
use Rattle.cue_show.specs.DeviceNumber.{is_device, is_port}
use Rattle.cue_show.specs.declared.limits.TheConstants.{MAX_DEVICE_NUMBER, MAX_DEVICES}
use Rattle.cue_show.specs.Devices.{distinct}
use Rattle.cue_show.specs.Show.{is_entry, is_table}
use Rattle.cue_show.proofs.ListLemmas.{list_all-push, are_distinct-push, IsDistinct-from_are_distinct}
use Rattle.cue_show.proofs.ListLemmas.{list_all-remove_entry, are_distinct-remove_entry}

-- what a table keeps to, apart from its length
pub record Table (devices : List (ℕ × ℕ)) : Type 0 where
  pub distinct : distinct (keys_of devices) ≡ true
  pub entries : list_all is_entry devices ≡ true

module _ (devices : List (ℕ × ℕ)) where
  pub table_parts : is_table devices ≡ true → Table devices
  table_parts table =
      let parts = and_parts (nat_le (length devices) MAX_DEVICES)
      (distinct (keys_of devices) && list_all is_entry devices) table in
      let rest = and_parts (distinct (keys_of devices)) (list_all is_entry devices) parts.1 in
      record { distinct = rest.0; entries = rest.1 }

-- the numbers of a table are below its limit
numbers_below : (devices : List (ℕ × ℕ)) → list_all is_entry devices ≡ true → (d : ℕ)
    → list_any (eqb d) (keys_of devices) ≡ true → d < MAX_DEVICES
numbers_below [] all d among = absurd (true≢false (sym among))
numbers_below (e ∷ es) all d among =
    let here = and_parts (is_entry e) (list_all is_entry es) all in
    let in_range = leb-true e.0 MAX_DEVICE_NUMBER (and_parts (is_device e.0) (is_port e.1) here.0).0 in
    by (or_cases (eqb d e.0) (list_any (eqb d) (keys_of es)) among) in_range (numbers_below es here.1 d)
  where
    by : (eqb d e.0 ≡ true) ⊎ (list_any (eqb d) (keys_of es) ≡ true) → e.0 ≤ MAX_DEVICE_NUMBER
        → (list_any (eqb d) (keys_of es) ≡ true → d < MAX_DEVICES) → d < MAX_DEVICES
    by (inl same) in_range later = omega (arith, eqb-true d e.0 same)
    by (inr among) in_range later = later among

-- distinct numbers below it are at most as many
pub table_short : (devices : List (ℕ × ℕ)) → Table devices → length devices ≤ MAX_DEVICES
table_short devices t =
    omega (
      arith,
      length-map devices (λ (e : ℕ × ℕ). e.0),
      length-le_from_distinct_below (keys_of devices) MAX_DEVICES
          (IsDistinct-from_are_distinct nat_eq nat_eq_equiv (keys_of devices) t.distinct)
          (numbers_below devices t.entries),
    )

pub is_table-from : (devices : List (ℕ × ℕ)) → Table devices → is_table devices ≡ true
is_table-from devices t =
    and_from (nat_le (length devices) MAX_DEVICES) (distinct (keys_of devices) && list_all is_entry devices)
    (le-leb (length devices) MAX_DEVICES (table_short devices t))
    (and_from (distinct (keys_of devices)) (list_all is_entry devices) t.distinct t.entries)

-- a device that is not in the table goes last
pub Table-push : (devices : List (ℕ × ℕ)) (d port : ℕ) → Table devices → list_any (nat_eq d) (keys_of devices) ≡ false
    → is_entry (d, port) ≡ true → Table (devices ++ (d, port) ∷ [])
Table-push devices d port t absent entry = record {
  distinct = ap distinct (map-append (λ (e : ℕ × ℕ). e.0) devices ((d, port) ∷ []))
      ∙ are_distinct-push nat_eq (keys_of devices) d t.distinct absent;
  entries = list_all-push is_entry devices (d, port) t.entries entry;
}

-- a device is taken out
pub Table-remove : (test : ℕ → Bool) (devices : List (ℕ × ℕ)) → Table devices → Table (remove_entry test devices)
Table-remove test devices t = record {
  distinct = are_distinct-remove_entry test nat_eq devices t.distinct;
  entries = list_all-remove_entry test is_entry devices t.entries;
}
