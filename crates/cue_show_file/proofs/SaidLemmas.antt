-- The table of a show says this very show.
use Rattle.std.proofs.Common.{◌≡◌, ◌∙◌, ℕ, zero, suc, pos, ◌<◌, Bool, true, false, ◌&&◌, List, [], ◌∷◌, map, codes, length}
use Rattle.std.proofs.Common.{IsTrue, Option, Some, None, is_some, nat_le, refl, ap, arith}
use Rattle.std.specs.Prelude.{IfOk, Result, Ok, Err, option_and_then}
use Rattle.std.specs.List.{list_all}
use Rattle.std.specs.Map.{keys_of}
use Rattle.std.proofs.lemmas.Bool.{false≢true}
use Rattle.std.proofs.lemmas.Bool.Decides.{nat_tests}
use Rattle.std.specs.declared.alloc.AllocError.{AllocError}
use Rattle.hex.specs.Hex.{IsBytes, decode_of, encode_lower}
use Rattle.hex.proofs.HexLemmas.{decode_of-encode_lower}
use Rattle.toml.specs.Data.{Members, get_member, integer, member, no_members}
use Rattle.cue_show.specs.declared.limits.TheConstants.{MAX_PART_BYTES}
use Rattle.cue_show.specs.declared.part.Part.{Part}
use Rattle.cue_show.specs.Bytes.{are_bytes}
use Rattle.cue_show.specs.DeviceNumber.{is_device, is_port}
use Rattle.cue_show.specs.Devices.{distinct}
use Rattle.cue_show.specs.Distinct.{are_distinct}
use Rattle.cue_show.specs.Number.{is_cue_number, same_text}
use Rattle.cue_show.specs.Parts.{are_parts, is_part}
use Rattle.cue_show.specs.Show.{Cues, ShowLists, are_known, is_cue_of, is_entry, is_show}
use Rattle.cue_show.proofs.TestLemmas.{both}
use Rattle.cue_operator.proofs.NameLemmas.{stack_of, table_of}
use Rattle.cue_show_file.specs.Reading.{ExportNamesNoPlace, names_no_place, no_place_in, no_places_in, said_of, said_without}
use Rattle.cue_show_file.specs.Plain.{is_plain}
use Rattle.cue_show_file.specs.Said.{ExportSaysTheShow, cue_said, device_said, each_said, file_said, is_of_cue}
use Rattle.cue_show_file.specs.Said.{is_of_file}
use Rattle.cue_show_file.specs.Said.{list_or_none, part_said, text_said}
use Rattle.cue_show_file.specs.Written.{IsFileOf, bare_cue, bare_device, cue_members, device_members, file_text}
use Rattle.cue_show_file.specs.Written.{part_members, show_members, tables_of, with_tables}
use Rattle.cue_show_file.specs.declared.file.ShowFile.{ShowFile}
use Rattle.cue_show_file.specs.declared.mistake.Finding.{Finding}
use Rattle.cue_show_file.specs.declared.reading.Draft.{Draft}
use Rattle.cue_show_file.proofs.PartLemmas.{are_parts-each}
use Rattle.cue_show_file.proofs.DefinedLemmas.{export-is_read}
use Rattle.cue_show_file.proofs.WrittenLemmas.{rest_by}

-- each table says its own entry
each-said : {A : Type 0} (said : Members → Option A) (members : A → Members) (ok : A → Bool)
    → ((x : A) → IsTrue (ok x) → said (members x) ≡ Some x) → (xs : List A) → IsTrue (list_all ok xs)
    → each_said said (tables_of (map members xs)) ≡ Some xs
each-said said members ok each [] h = refl
each-said said members ok each (x ∷ xs) h =
    let k = both (ok x) (list_all ok xs) h in
    rw (each x k.0, each-said said members ok each xs k.1) refl

device-said : (d : ℕ × ℕ) → IsTrue (is_entry d) → device_said (device_members (bare_device d)) ≡ Some d
device-said d h =
    let k = both (is_device d.0) (is_port d.1) h in
    rw (k.0, k.1) refl

bytes-small : (bs : List ℕ) → IsTrue (are_bytes bs) → IsBytes bs
bytes-small [] h i = omega arith
bytes-small (b ∷ bs) h zero = let k = both (nat_le b 255) (are_bytes bs) h in small b k.0
  where
    small : (n : ℕ) → nat_le n 255 ≡ true → n < 256
    small n g = grind (arith, nat_tests)
bytes-small (b ∷ bs) h (suc i) = bytes-small bs (both (nat_le b 255) (are_bytes bs) h).1 i

part-said : (p : Part) → IsTrue (is_part p) → part_said (part_members p) ≡ Some p
part-said p h =
    let k = both (is_device p.device) (nat_le (length p.bytes) MAX_PART_BYTES && are_bytes p.bytes) h in
    let bytes = (both (nat_le (length p.bytes) MAX_PART_BYTES) (are_bytes p.bytes) k.1).1 in
    at (is_plain p.bytes) p.optional p.device p.bytes k.0 (decode_of-encode_lower p.bytes (bytes-small p.bytes bytes))
  where
    at : (plain b : Bool) (d : ℕ) (bs : List ℕ) → is_device d ≡ true → decode_of (encode_lower bs) ≡ Ok bs
        → part_said (member (codes "device") (integer (pos d)) (rest_by plain b bs)) ≡ Some
        (record { device = d; optional = b; bytes = bs })
    at true true d bs fit back = rw fit refl
    at true false d bs fit back = rw fit refl
    at false true d bs fit back = rw (back, fit) refl
    at false false d bs fit back = rw (back, fit) refl

cue-said : (s : ShowLists) (c : List ℕ × List Part) → IsTrue (is_cue_of s c)
    → cue_said (cue_members (bare_cue c)) ≡ Some c
unfolding is_of_cue
cue-said s c h =
    let k = both (is_cue_number c.0) (are_parts c.1 && are_known s c.1) h in
    let parts = are_parts-each c.1 (both (are_parts c.1) (are_known s c.1) k.1).0 in
    rw (k.0, each-said part_said part_members is_part part-said c.1 parts) refl

both-said : (ds : List (ℕ × ℕ)) (cs : Cues) (ms : Members) → is_of_file ms ≡ true
    → list_or_none device_said (get_member (codes "device") ms) ≡ Some ds
    → list_or_none cue_said (get_member (codes "cue") ms) ≡ Some cs → file_said ms ≡ Some (ds, cs)
both-said ds cs ms fit e f = rw (fit, e, f) refl

-- the table has the keys of a file alone
of-file : (devices cues : List Members)
    → is_of_file (with_tables (codes "cue") cues (with_tables (codes "device") devices no_members)) ≡ true
of-file [] [] = refl
of-file (d ∷ devices) [] = refl
of-file [] (c ∷ cues) = refl
of-file (d ∷ devices) (c ∷ cues) = refl

-- the lists at their keys, where one of them may not be there
devices-at : (ds : List (ℕ × ℕ)) (devices cues : List Members) → each_said device_said (tables_of devices) ≡ Some ds
    → list_or_none device_said
    (get_member (codes "device") (with_tables (codes "cue") cues (with_tables (codes "device") devices no_members)))
    ≡ Some ds
devices-at ds [] [] e = e
devices-at ds (d ∷ devices) [] e = e
devices-at ds [] (c ∷ cues) e = e
devices-at ds (d ∷ devices) (c ∷ cues) e = e

cues-at : (cs : Cues) (devices cues : List Members) → each_said cue_said (tables_of cues) ≡ Some cs
    → list_or_none cue_said (get_member (codes "cue")
    (with_tables (codes "cue") cues (with_tables (codes "device") devices no_members))) ≡ Some cs
cues-at cs [] [] e = e
cues-at cs (d ∷ devices) [] e = e
cues-at cs [] (c ∷ cues) e = e
cues-at cs (d ∷ devices) (c ∷ cues) e = e

all-said : (ds : List (ℕ × ℕ)) (cs : Cues) (devices cues : List Members)
    → each_said device_said (tables_of devices) ≡ Some ds → each_said cue_said (tables_of cues) ≡ Some cs
    → file_said (with_tables (codes "cue") cues (with_tables (codes "device") devices no_members)) ≡ Some (ds, cs)
all-said ds cs devices cues e f =
    both-said ds cs (with_tables (codes "cue") cues (with_tables (codes "device") devices no_members))
    (of-file devices cues) (devices-at ds devices cues e) (cues-at cs devices cues f)

bare-map : {A B C : Type 0} (f : B → C) (g : A → B) (xs : List A) → map f (map g xs) ≡ map (λ x. f (g x)) xs
bare-map f g [] = refl
bare-map f g (x ∷ xs) = ap (λ ys. f (g x) ∷ ys) (bare-map f g xs)

show-said : (s : ShowLists) → IsTrue (is_show s) → file_said (show_members s) ≡ Some (s.devices, s.cues)
show-said s h =
    let table = both (distinct (keys_of s.devices)) (list_all is_entry s.devices) (both _ _ (table_of s h)).1 in
    let stack = both (are_distinct same_text (keys_of s.cues)) (list_all (is_cue_of s) s.cues)
    (both _ _ (stack_of s h)).1 in
    let devices = each-said device_said (λ d. device_members (bare_device d)) is_entry device-said s.devices table.1 in
    let cues = each-said cue_said (λ c. cue_members (bare_cue c)) (is_cue_of s) (cue-said s) s.cues stack.1 in
    all-said s.devices s.cues (map device_members (map bare_device s.devices)) (map cue_members (map bare_cue s.cues))
    (ap (λ ms. each_said device_said (tables_of ms)) (bare-map device_members bare_device s.devices) ∙ devices)
    (ap (λ ms. each_said cue_said (tables_of ms)) (bare-map cue_members bare_cue s.cues) ∙ cues)

pub export-says_the_show : ExportSaysTheShow
export-says_the_show s f h is = ap (option_and_then file_said) (export-is_read s f h is) ∙ show-said s h

-- ---- no place on the network

no-places : (ds : List (ℕ × ℕ)) → no_places_in (tables_of (map device_members (map bare_device ds))) ≡ true
no-places [] = refl
no-places (d ∷ ds) = no-places ds

no-place : (devices cues : List Members) → no_places_in (tables_of devices) ≡ true
    → no_place_in (with_tables (codes "cue") cues (with_tables (codes "device") devices no_members)) ≡ true
no-place [] [] e = refl
no-place (d ∷ devices) [] e = e
no-place [] (c ∷ cues) e = refl
no-place (d ∷ devices) (c ∷ cues) e = e

pub export-names_no_place : ExportNamesNoPlace
export-names_no_place s f h is =
    rw (export-is_read s f h is)
    (no-place (map device_members (map bare_device s.devices)) (map cue_members (map bare_cue s.cues))
    (no-places s.devices))

-- ---- read back

read-back : (s : ShowLists) (f : ShowFile) (t : List ℕ) (found : List Finding) (back : ShowFile) → IsTrue (is_show s)
    → IsFileOf s f → t ≡ file_text f
    → (IsTrue (names_no_place t) → said_without found back ≡ text_said t)
    → said_without found back ≡ Some (s.devices, s.cues)
read-back s f t found back h is e whole = whole (rw e (export-names_no_place s f h is))
    ∙ rw e (export-says_the_show s f h is)

clean-of : (found : List Finding) (back : ShowFile) (said : List (ℕ × ℕ) × Cues) → said_without found back ≡ Some said
    → found ≡ []
clean-of [] back said e = refl
clean-of (x ∷ found) back said e = absurd (false≢true (ap is_some e))

same-of : (found : List Finding) (back : ShowFile) (said : List (ℕ × ℕ) × Cues) → said_without found back ≡ Some said
    → said_of back ≡ said
same-of [] back said e = ap (λ o. get_some o said) e
  where
    get_some : Option (List (ℕ × ℕ) × Cues) → List (ℕ × ℕ) × Cues → List (ℕ × ℕ) × Cues
    get_some None d = d
    get_some (Some x) d = x
same-of (x ∷ found) back said e = absurd (false≢true (ap is_some e))

pub reads-clean : (s : ShowLists) (f : ShowFile) (t : List ℕ) → IsTrue (is_show s) → IsFileOf s f → t ≡ file_text f
    → (r : Result Draft AllocError)
    → IfOk r (λ draft. IsTrue (names_no_place t) → said_without draft.findings.items draft.file ≡ text_said t)
    → IfOk r (λ draft. draft.findings.items ≡ [])
reads-clean s f t h is e (Ok draft) whole = clean-of draft.findings.items draft.file (s.devices, s.cues)
    (read-back s f t draft.findings.items draft.file h is e whole)
reads-clean s f t h is e (Err x) whole = tt

pub reads-same : (s : ShowLists) (f : ShowFile) (t : List ℕ) → IsTrue (is_show s) → IsFileOf s f → t ≡ file_text f
    → (r : Result Draft AllocError)
    → IfOk r (λ draft. IsTrue (names_no_place t) → said_without draft.findings.items draft.file ≡ text_said t)
    → IfOk r (λ draft. said_of draft.file ≡ (s.devices, s.cues))
reads-same s f t h is e (Ok draft) whole = same-of draft.findings.items draft.file (s.devices, s.cues)
    (read-back s f t draft.findings.items draft.file h is e whole)
reads-same s f t h is e (Err x) whole = tt
