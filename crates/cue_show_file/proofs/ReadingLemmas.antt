-- What is read of a show file is what its table says.
use Rattle.std.proofs.Common.{◌≡◌, ◌∙◌, ℕ, Bool, true, false, ◌&&◌, List, [], ◌∷◌, ◌++◌, map, Option, Some, None}
use Rattle.std.proofs.Common.{String, Global, string_bytes, IsTrue, is_some, sym, refl, ap, append_assoc, append-nil}
use Rattle.std.proofs.Common.{if◌then◌else◌}
use Rattle.std.specs.Prelude.{IfOk, Result, Ok, Err, option_and_then}
use Rattle.std.proofs.lemmas.Bool.{false≢true}
use Rattle.std.specs.List.{list_all, list_any}
use Rattle.std.specs.Map.{keys_of}
use Rattle.toml.specs.declared.value.Value.{Value}
use Rattle.toml.specs.Data.{Items}
use Rattle.toml.specs.View.{members_view}
use Rattle.cue_show.specs.Number.{same_text}
use Rattle.cue_show.specs.Show.{Cues, ShowLists, can_add_cue, can_add_device, empty_show, with_cue, with_device}
use Rattle.cue_show_file.specs.declared.file.CueEntry.{CueEntry}
use Rattle.cue_show_file.specs.declared.file.DeviceEntry.{DeviceEntry}
use Rattle.cue_show_file.specs.Accepted.{after_cues, after_devices}
use Rattle.cue_show_file.specs.Reading.{CheckedIsSaid, all_in_option, cues_of, devices_of, no_places_in, said_of}
use Rattle.cue_show_file.specs.Said.{device_said, each_said, has_only, is_among, only_if}

-- ---- keys

-- one of these by its text is one of their texts
pub among-of : {A : Type 0} (f : A → List ℕ) (xs : List A) (key : List ℕ)
    → list_any (λ x. same_text (f x) key) xs ≡ is_among (map f xs) key
among-of f [] key = refl
among-of f (x ∷ xs) key = rw (among-of f xs key) refl

-- each key is one of these
abbrev pub are_known : List (List ℕ) → List (String Global) → Bool
are_known keys names = list_all (λ k. is_among keys (string_bytes k)) names

pub only-known : (keys : List (List ℕ)) (es : List (String Global × Value))
    → are_known keys (keys_of es) ≡ has_only keys (members_view es)
only-known keys [] = refl
only-known keys (e ∷ es) = rw (only-known keys es) refl

-- where no key is left, what was found speaks of all
pub all-known : (keys : List (List ℕ)) (es : List (String Global × Value)) (left : List (String Global))
    (before now : Bool) → (before && are_known keys (keys_of es)) ≡ (now && are_known keys left) → left ≡ []
    → now ≡ (before && has_only keys (members_view es))
all-known keys es left before now same done = at now (rw (← only-known keys es) (same ∙ rw done refl))
  where
    at : (b : Bool) → (before && has_only keys (members_view es)) ≡ (b && true)
        → b ≡ (before && has_only keys (members_view es))
    at true e = rw e refl
    at false e = rw e refl

-- ---- places on the network

same-items : (a b : Items) → Some a ≡ Some b → a ≡ b
same-items a b e = ap (λ o. option_or o a) e
  where
    option_or : Option Items → Items → Items
    option_or None d = d
    option_or (Some x) d = x

none≢some : (a : Items) → None ≡ Some a → ⊥
none≢some a e = false≢true (ap is_some e)

unread-none : (after : Bool) (read : List (ℕ × ℕ)) → (IsTrue after → None ≡ Some read)
    → only_if after (Some read) ≡ None
unread-none true read said = sym (said refl)
unread-none false read said = refl

-- where no table has an address, what was read of them is what they say, also where they are no list
pub places-whole : (t : Option Items) (values : Items) (read : List (ℕ × ℕ)) (before mid after : Bool)
    → only_if mid (Some values) ≡ only_if before t
    → (IsTrue after → only_if mid (each_said device_said values) ≡ Some read)
    → (IsTrue (no_places_in values) → only_if after (Some read) ≡ only_if mid (each_said device_said values))
    → IsTrue (all_in_option (λ ds. no_places_in ds) t)
    → only_if after (Some read) ≡ only_if before (option_and_then (λ ds. each_said device_said ds) t)
places-whole (Some ds) values read true true after same said whole free =
    rw (← same-items values ds same) (whole (rw (same-items values ds same) free))
places-whole (Some ds) values read true false after same said whole free = absurd (none≢some ds same)
places-whole None values read true true after same said whole free = absurd (none≢some values (sym same))
places-whole None values read true false after same said whole free = unread-none after read said
places-whole t values read false true after same said whole free = absurd (none≢some values (sym same))
places-whole t values read false false after same said whole free = unread-none after read said

-- two facts of what is there give a third
pub both-ok : {A E : Type 0} {P Q R : A → Type 0} (r : Result A E) → ((x : A) → P x → Q x → R x) → IfOk r P → IfOk r Q
    → IfOk r R
both-ok (Ok x) step p q = step x p q
both-ok (Err e) step p q = tt

-- ---- the show of a file

some-of : (a b : ShowLists) → Some a ≡ Some b → a ≡ b
some-of a b e = ap (λ o. option_or o a) e
  where
    option_or : Option ShowLists → ShowLists → ShowLists
    option_or None d = d
    option_or (Some x) d = x

devices-added : (s t : ShowLists) (es : List DeviceEntry) → after_devices s es ≡ Some t
    → (s.devices ++ devices_of es ≡ t.devices) × (s.cues ≡ t.cues)
devices-added s t [] e = (append-nil s.devices ∙ ap (λ x. x.devices) (some-of s t e), ap (λ x. x.cues) (some-of s t e))
devices-added s t (d ∷ es) e =
    at (can_add_device s d.number d.port) (λ f. devices-added (with_device s d.number d.port) t es f) e
  where
    at : (b : Bool)
        → (after_devices (with_device s d.number d.port) es ≡ Some t
        → ((with_device s d.number d.port).devices ++ devices_of es ≡ t.devices)
        × ((with_device s d.number d.port).cues ≡ t.cues))
        → option_and_then (λ u. after_devices u es) (if b then Some (with_device s d.number d.port) else None) ≡ Some t
        → (s.devices ++ devices_of (d ∷ es) ≡ t.devices) × (s.cues ≡ t.cues)
    at true more f = let (devices, cues) = more f in
        (sym (append_assoc s.devices ((d.number, d.port) ∷ []) (devices_of es)) ∙ devices, cues)
    at false more f = absurd (false≢true (ap is_some f))

cues-added : (s t : ShowLists) (es : List CueEntry) → after_cues s es ≡ Some t → (s.devices ≡ t.devices)
    × (s.cues ++ cues_of es ≡ t.cues)
cues-added s t [] e = (ap (λ x. x.devices) (some-of s t e), append-nil s.cues ∙ ap (λ x. x.cues) (some-of s t e))
cues-added s t (c ∷ es) e = at (can_add_cue s c.number c.parts) (λ f. cues-added (with_cue s c.number c.parts) t es f) e
  where
    at : (b : Bool)
        → (after_cues (with_cue s c.number c.parts) es ≡ Some t
        → ((with_cue s c.number c.parts).devices ≡ t.devices)
        × ((with_cue s c.number c.parts).cues ++ cues_of es ≡ t.cues))
        → option_and_then (λ u. after_cues u es) (if b then Some (with_cue s c.number c.parts) else None) ≡ Some t
        → (s.devices ≡ t.devices) × (s.cues ++ cues_of (c ∷ es) ≡ t.cues)
    at true more f = let (devices, cues) = more f in
        (devices, sym (append_assoc s.cues ((c.number, c.parts) ∷ []) (cues_of es)) ∙ cues)
    at false more f = absurd (false≢true (ap is_some f))

pair-of : (ds es : List (ℕ × ℕ)) (cs bs : Cues) → ds ≡ es → cs ≡ bs → Path (List (ℕ × ℕ) × Cues) (ds, cs) (es, bs)
pair-of ds es cs bs a b = rw (a, b) refl

pub checked-is_said : CheckedIsSaid
checked-is_said f s e = at (after_devices empty_show f.devices.items) refl e
  where
    at : (o : Option ShowLists) → after_devices empty_show f.devices.items ≡ o
        → option_and_then (λ t. after_cues t f.cues.items) o ≡ Some s → said_of f ≡ (s.devices, s.cues)
    at None same g = absurd (false≢true (ap is_some g))
    at (Some t) same g =
        let (devices, none) = devices-added empty_show t f.devices.items same in
        let (kept, cues) = cues-added t s f.cues.items g in
        pair-of (devices_of f.devices.items) s.devices (cues_of f.cues.items) s.cues (devices
        ∙ kept) (ap (λ xs. xs ++ cues_of f.cues.items) none ∙ cues)
