-- Shows: what is read is spelled so, and is read again.
use Rattle.std.proofs.Common.{◌≡◌, ℕ, ◌≤◌, Bool, true, false, not, ◌&&◌, List, [], ◌∷◌, ◌++◌, length, Option, Some}
use Rattle.std.proofs.Common.{None, IsTrue, nat_eq, nat_le, refl, sym, ap, subst, ◌∙◌, append_assoc, arith}
use Rattle.std.specs.Prelude.{is_some}
use Rattle.std.specs.List.{list_all}
use Rattle.std.specs.Map.{keys_of}
use Rattle.std.proofs.lemmas.Bool.{le-leb, leb-true, lt-leb}
use Rattle.std.proofs.lemmas.List.{length-append}
use Rattle.cue_show.specs.Bytes.{are_bytes}
use Rattle.cue_show.specs.DeviceNumber.{is_device, is_port}
use Rattle.cue_show.specs.Devices.{distinct}
use Rattle.cue_show.specs.Distinct.{are_distinct}
use Rattle.cue_show.specs.Number.{is_cue_number, same_text}
use Rattle.cue_show.specs.Parts.{are_parts}
use Rattle.cue_show.specs.Show.{Cues, ShowLists, empty_show, has_device, has_cue, is_full, are_known, is_place_of}
use Rattle.cue_show.specs.Show.{is_entry, is_table, is_cue_of, is_stack_of, is_show, can_add_device, can_add_cue}
use Rattle.cue_show.specs.Show.{with_device, with_cue, with_place}
use Rattle.cue_show.specs.declared.limits.TheConstants.{MAX_DEVICES, MAX_CUES}
use Rattle.cue_show.specs.declared.part.Part.{Part}
use Rattle.cue_core.proofs.lists.ConditionLemmas.{both, join, all_from}
use Rattle.cue_records.specs.declared.limits.TheConstants.{OLD_MAX_CUES}
use Rattle.cue_records.specs.declared.parts_form.PartsForm.{PartsForm}
use Rattle.cue_records.specs.declared.parts_form.PartsForm.TheVariants.{Plain, Flagged}
use Rattle.cue_records.specs.Fields.{short_text, text_text}
use Rattle.cue_records.specs.State.{table_text, stack_text, place_text, show_text}
use Rattle.cue_records.specs.Reading.{◌>>=◌, where_it}
use Rattle.cue_records.specs.StateReading.{device_step, most_cues, cue_count_at, cue_step, place_of, place_at}
use Rattle.cue_records.specs.StateReading.{place_step, table_at, stack_at, show_at}
use Rattle.cue_records.proofs.AfterwardsLemmas.{all_here, absent_before}
use Rattle.cue_records.proofs.FittingLemmas.{cue_fits}
use Rattle.cue_records.proofs.FieldLemmas.{byte_field, text_field, cue_short, have_text, entry_field, new_cue_fits}
use Rattle.cue_records.proofs.FieldLemmas.{new_cue_field}
use Rattle.cue_records.proofs.FoldLemmas.{IsMade, counted_takes, counted_again}
use Rattle.cue_records.proofs.NumberLemmas.{field16}
use Rattle.cue_records.proofs.TakingLemmas.{IsField, bind_some, where_some, some_is, bytes_behind, test_field}
use Rattle.cue_records.proofs.TakingLemmas.{made_field, respell}

-- ---- devices

-- a show of these devices alone
abbrev pub of_devices : List (ℕ × ℕ) → ShowLists
of_devices ds = record { devices = ds; cues = []; place = None }

devices_allow : (ys zs : List (ℕ × ℕ)) (x : ℕ × ℕ) → IsTrue (is_table (ys ++ x ∷ zs))
    → IsTrue (can_add_device (of_devices ys) x.0 x.1)
devices_allow ys zs x h =
    let all = ys ++ x ∷ zs in
    let p = both (nat_le (length all) MAX_DEVICES) (distinct (keys_of all) && list_all is_entry all) h in
    let q = both (distinct (keys_of all)) (list_all is_entry all) p.1 in
    let absent : has_device (of_devices ys) x.0 ≡ false = ap is_some (absent_before nat_eq ys zs x q.0) in
    join (not (has_device (of_devices ys) x.0)) (is_device x.0 && is_port x.1) (rw absent refl)
    (all_here is_entry ys zs x q.1)

entry_fits : (ys zs : List (ℕ × ℕ)) (x : ℕ × ℕ) → IsTrue (is_table (ys ++ x ∷ zs))
    → IsTrue (is_device x.0 && is_port x.1)
entry_fits ys zs x h =
    let all = ys ++ x ∷ zs in
    let p = both (nat_le (length all) MAX_DEVICES) (distinct (keys_of all) && list_all is_entry all) h in
    all_here is_entry ys zs x (both (distinct (keys_of all)) (list_all is_entry all) p.1).1

devices_made : IsMade (λ s e. can_add_device s e.0 e.1) (λ s e. with_device s e.0 e.1) of_devices
    (λ e. is_device e.0 && is_port e.1) is_table
devices_made = record { grows = λ xs x may. refl; allows = devices_allow; fitting = entry_fits }

table_takes : (bytes : List ℕ) (y : ShowLists × List ℕ) → IsTrue (are_bytes bytes) → table_at empty_show bytes ≡ Some y
    → (ds : List (ℕ × ℕ)) × (bytes ≡ table_text ds ++ y.1) × (y.0 ≡ of_devices ds)
unfolding table_at device_step
table_takes bytes y b e = let t = counted_takes byte_field entry_field devices_made bytes y b e in (t.0, t.1, t.2)

table_again : (ds : List (ℕ × ℕ)) (rest : List ℕ) → IsTrue (is_table ds)
    → table_at empty_show (table_text ds ++ rest) ≡ Some (of_devices ds, rest)
unfolding table_at device_step
table_again ds rest h =
    let few : length ds ≤ MAX_DEVICES =
    leb-true (length ds) MAX_DEVICES
    (both (nat_le (length ds) MAX_DEVICES) (distinct (keys_of ds) && list_all is_entry ds) h).0 in
    counted_again byte_field entry_field devices_made ds rest (le-leb (length ds) 255 (omega arith)) h

-- ---- cues

-- a show of these devices and cues
abbrev pub of_cues : List (ℕ × ℕ) → Cues → ShowLists
of_cues ds cs = record { devices = ds; cues = cs; place = None }

-- the rules of a stack, one by one
record StackRules (ds : List (ℕ × ℕ)) (cs : Cues) : Type 0 where
  few : length cs ≤ MAX_CUES
  apart : IsTrue (are_distinct same_text (keys_of cs))
  each : IsTrue (list_all (is_cue_of (of_devices ds)) cs)

stack_rules : (ds : List (ℕ × ℕ)) (cs : Cues) → IsTrue (is_stack_of (of_devices ds) cs) → StackRules ds cs
stack_rules ds cs h =
    let p = both (nat_le (length cs) MAX_CUES)
    (are_distinct same_text (keys_of cs) && list_all (is_cue_of (of_devices ds)) cs) h in
    let q = both (are_distinct same_text (keys_of cs)) (list_all (is_cue_of (of_devices ds)) cs) p.1 in
    record { few = leb-true (length cs) MAX_CUES p.0; apart = q.0; each = q.1 }

room_before : (ys zs : Cues) (x : List ℕ × List Part) → length (ys ++ x ∷ zs) ≤ MAX_CUES
    → nat_le MAX_CUES (length ys) ≡ false
room_before ys zs x h = lt-leb MAX_CUES (length ys) (omega (arith, length-append ys (x ∷ zs)))

cues_allow : (ds : List (ℕ × ℕ)) (ys zs : Cues) (x : List ℕ × List Part)
    → IsTrue (is_stack_of (of_devices ds) (ys ++ x ∷ zs)) → IsTrue (can_add_cue (of_cues ds ys) x.0 x.1)
cues_allow ds ys zs x h =
    let r = stack_rules ds (ys ++ x ∷ zs) h in
    let absent : has_cue (of_cues ds ys) x.0 ≡ false = ap is_some (absent_before same_text ys zs x r.apart) in
    let room : is_full (of_cues ds ys) ≡ false = room_before ys zs x r.few in
    join (not (has_cue (of_cues ds ys) x.0)) (not (is_full (of_cues ds ys)) && is_cue_of (of_cues ds ys) (x.0, x.1))
    (rw absent refl)
    (join (not (is_full (of_cues ds ys))) (is_cue_of (of_cues ds ys) (x.0, x.1)) (rw room refl)
    (all_here (is_cue_of (of_devices ds)) ys zs x r.each))

-- the parts of each cue have a text in this form
abbrev are_told : PartsForm → Cues → Bool
are_told form cs = list_all (λ e. have_text form e.1) cs

-- the stack has a text in this form
abbrev pub stack_fits : PartsForm → Cues → Bool
stack_fits form cs = nat_le (length cs) (most_cues form) && are_told form cs

-- a stack whose cues have a text in this form
abbrev is_told : PartsForm → List (ℕ × ℕ) → Cues → Bool
is_told form ds cs = is_stack_of (of_devices ds) cs && are_told form cs

told_fits : (form : PartsForm) (ds : List (ℕ × ℕ)) (ys zs : Cues) (x : List ℕ × List Part)
    → IsTrue (is_told form ds (ys ++ x ∷ zs)) → IsTrue (new_cue_fits form x)
told_fits form ds ys zs x h =
    let k = both (is_stack_of (of_devices ds) (ys ++ x ∷ zs)) (are_told form (ys ++ x ∷ zs)) h in
    let here = all_here (is_cue_of (of_devices ds)) ys zs x (stack_rules ds (ys ++ x ∷ zs) k.0).each in
    let p = both (is_cue_number x.0) (are_parts x.1 && are_known (of_devices ds) x.1) here in
    join (is_cue_number x.0) (are_parts x.1 && have_text form x.1) p.0
    (join (are_parts x.1) (have_text form x.1) (both (are_parts x.1) (are_known (of_devices ds) x.1) p.1).0
    (all_here (λ e. have_text form e.1) ys zs x k.1))

cues_made : (form : PartsForm) (ds : List (ℕ × ℕ))
    → IsMade (λ s e. can_add_cue s e.0 e.1) (λ s e. with_cue s e.0 e.1) (of_cues ds) (new_cue_fits form)
    (is_told form ds)
cues_made form ds = record {
  grows = λ xs x may. refl;
  allows = λ ys zs x h. cues_allow ds ys zs x
      (both (is_stack_of (of_devices ds) (ys ++ x ∷ zs)) (are_told form (ys ++ x ∷ zs)) h).0;
  fitting = told_fits form ds;
}

count_short : (form : PartsForm) (n : ℕ) → IsTrue (nat_le n (most_cues form)) → IsTrue (nat_le n 65535)
count_short Plain n h = let k : n ≤ OLD_MAX_CUES = leb-true n OLD_MAX_CUES h in le-leb n 65535 (omega arith)
count_short Flagged n h = let k : n ≤ MAX_CUES = leb-true n MAX_CUES h in le-leb n 65535 (omega arith)

cue_count_field : (form : PartsForm) → IsField (cue_count_at form) short_text (λ n. nat_le n (most_cues form))
unfolding cue_count_at
cue_count_field form = test_field (λ n. nat_le n (most_cues form)) field16 (count_short form)

-- a stack was taken
abbrev TakesStack : PartsForm → List (ℕ × ℕ) → List ℕ → ShowLists × List ℕ → Type 0
TakesStack form ds bytes y = (cs : Cues) × (bytes ≡ stack_text form cs ++ y.1) × (y.0 ≡ of_cues ds cs)
    × IsTrue (stack_fits form cs)

stack_takes : (form : PartsForm) (ds : List (ℕ × ℕ)) (bytes : List ℕ) (y : ShowLists × List ℕ)
    → IsTrue (are_bytes bytes) → stack_at form (of_devices ds) bytes ≡ Some y → TakesStack form ds bytes y
unfolding stack_at cue_step
stack_takes form ds bytes y b e =
    let t = counted_takes (cue_count_field form) (new_cue_field form) (cues_made form ds) bytes y b e in
    let k = both (nat_le (length t.0) (most_cues form)) (list_all (new_cue_fits form) t.0) t.3 in
    let told = all_from (new_cue_fits form) (λ x. have_text form x.1) t.0
    (λ x h. (both (are_parts x.1) (have_text form x.1)
    (both (is_cue_number x.0) (are_parts x.1 && have_text form x.1) h).1).1) k.1 in
    (t.0, t.1, t.2, join (nat_le (length t.0) (most_cues form)) (are_told form t.0) k.0 told)

stack_again : (form : PartsForm) (ds : List (ℕ × ℕ)) (cs : Cues) (rest : List ℕ)
    → IsTrue (is_stack_of (of_devices ds) cs) → IsTrue (stack_fits form cs)
    → stack_at form (of_devices ds) (stack_text form cs ++ rest) ≡ Some (of_cues ds cs, rest)
unfolding stack_at cue_step
stack_again form ds cs rest h k =
    let p = both (nat_le (length cs) (most_cues form)) (are_told form cs) k in
    counted_again (cue_count_field form) (new_cue_field form) (cues_made form ds) cs rest p.0
    (join (is_stack_of (of_devices ds) cs) (are_told form cs) h p.1)

-- ---- the place

abbrev place_number : Option (List ℕ) → List ℕ
place_number None = []
place_number (Some c) = c

abbrev place_fits : Option (List ℕ) → Bool
place_fits None = true
place_fits (Some c) = is_cue_number c

place_numbered : (t : List ℕ) (o : Option (List ℕ)) → IsTrue (nat_le (length t) 255 && are_bytes t)
    → place_of t ≡ Some o → (place_number o ≡ t) × IsTrue (place_fits o)
place_numbered [] o h e = subst (λ p. (place_number p ≡ []) × IsTrue (place_fits p)) (some_is None o e) (refl, refl)
place_numbered (b ∷ bs) o h e =
    let w = where_some (is_cue_number (b ∷ bs)) (Some (b ∷ bs)) o e in
    subst (λ p. (place_number p ≡ b ∷ bs) × IsTrue (place_fits p)) w.1 (refl, w.0)

place_found : (o : Option (List ℕ)) → IsTrue (place_fits o) → place_of (place_number o) ≡ Some o
place_found None h = refl
place_found (Some []) h = absurd cc
place_found (Some (b ∷ bs)) h = let k : is_cue_number (b ∷ bs) ≡ true = h in rw k refl

place_short : (o : Option (List ℕ)) → IsTrue (place_fits o)
    → IsTrue (nat_le (length (place_number o)) 255 && are_bytes (place_number o))
place_short None h = refl
place_short (Some c) h = cue_short c h

place_spelled : (o : Option (List ℕ)) → text_text (place_number o) ≡ place_text o
place_spelled None = refl
place_spelled (Some c) = refl

place_field : IsField place_at place_text place_fits
unfolding place_at
place_field = respell place_text (made_field place_of place_number place_fits text_field place_numbered place_found
    place_short) place_spelled

place_takes : (s : ShowLists) (bytes : List ℕ) (y : ShowLists × List ℕ) → IsTrue (are_bytes bytes)
    → place_step s bytes ≡ Some y → (o : Option (List ℕ)) × (bytes ≡ place_text o ++ y.1) × (y.0 ≡ with_place s o)
unfolding place_step
place_takes s bytes y b e =
    let x = bind_some (place_at bytes) (λ o. where_it (is_place_of s o.0) (with_place s o.0, o.1)) y e in
    let w = where_some (is_place_of s x.0.0) (with_place s x.0.0, x.0.1) y x.2 in
    let t = place_field.takes bytes x.0 b x.1 in
    (x.0.0, t.0 ∙ ap (λ z. place_text x.0.0 ++ z.1) w.1, sym (ap (λ z. z.0) w.1))

place_again : (s : ShowLists) (o : Option (List ℕ)) (rest : List ℕ) → IsTrue (place_fits o) → IsTrue (is_place_of s o)
    → place_step s (place_text o ++ rest) ≡ Some (with_place s o, rest)
unfolding place_step
place_again s o rest h k = let may : is_place_of s o ≡ true = k in rw (place_field.again o rest h, may) refl

-- ---- shows

three : (a b c rest : List ℕ) → a ++ (b ++ (c ++ rest)) ≡ (a ++ (b ++ c)) ++ rest
three a b c rest = sym (append_assoc a (b ++ c) rest ∙ ap (λ bs. a ++ bs) (append_assoc b c rest))

-- a show was taken
abbrev pub TakesShow : PartsForm → List ℕ → ShowLists × List ℕ → Type 0
TakesShow form bytes y = (bytes ≡ show_text form y.0 ++ y.1) × IsTrue (stack_fits form y.0.cues)

pub show_takes : (form : PartsForm) (bytes : List ℕ) (y : ShowLists × List ℕ) → IsTrue (are_bytes bytes)
    → show_at form empty_show bytes ≡ Some y → TakesShow form bytes y
unfolding show_at
show_takes form bytes y b e =
    let a = bind_some (table_at empty_show bytes) (λ t. stack_at form t.0 t.1 >>= λ u. place_step u.0 u.1) y e in
    let t = table_takes bytes a.0 b a.1 in
    let ds = t.0 in
    let c = bind_some (stack_at form a.0.0 a.0.1) (λ u. place_step u.0 u.1) y a.2 in
    let here : stack_at form (of_devices ds) a.0.1 ≡ Some c.0 = subst (λ s. stack_at form s a.0.1 ≡ Some c.0) t.2 c.1 in
    let b1 = bytes_behind bytes (table_text ds) a.0.1 t.1 b in
    let u = stack_takes form ds a.0.1 c.0 b1 here in
    let cs = u.0 in
    let v = place_takes c.0.0 c.0.1 y (bytes_behind a.0.1 (stack_text form cs) c.0.1 u.1 b1) c.2 in
    let whole : y.0 ≡ record { devices = ds; cues = cs; place = v.0 } = v.2 ∙ ap (λ s. with_place s v.0) u.2 in
    let parts : bytes ≡ (table_text ds ++ (stack_text form cs ++ place_text v.0)) ++ y.1 =
    t.1 ∙ ap (λ bs. table_text ds ++ bs) (u.1 ∙ ap (λ bs. stack_text form cs ++ bs) v.1)
    ∙ three (table_text ds) (stack_text form cs) (place_text v.0) y.1 in
    subst (λ s. (bytes ≡ show_text form s ++ y.1) × IsTrue (stack_fits form s.cues)) (sym whole) (parts, u.3)

place_same : (s : ShowLists) (o : Option (List ℕ)) → IsTrue (is_place_of s o)
    → IsTrue (is_place_of (of_cues s.devices s.cues) o)
place_same s None h = h
place_same s (Some c) h = h

place_in : (s : ShowLists) (o : Option (List ℕ)) → IsTrue (is_show s) → IsTrue (is_place_of s o) → IsTrue (place_fits o)
place_in s None rules h = refl
place_in s (Some c) rules h = cue_fits s c rules h

pub show_again : (form : PartsForm) (s : ShowLists) (rest : List ℕ) → IsTrue (is_show s)
    → IsTrue (stack_fits form s.cues) → show_at form empty_show (show_text form s ++ rest) ≡ Some (s, rest)
unfolding show_at
show_again form s rest h k =
    let p = both (is_table s.devices) (is_stack_of s s.cues && is_place_of s s.place) h in
    let q = both (is_stack_of s s.cues) (is_place_of s s.place) p.1 in
    let after = place_text s.place ++ rest in
    let behind = stack_text form s.cues ++ after in
    let regrouped : show_text form s ++ rest ≡ table_text s.devices ++ behind =
    sym (three (table_text s.devices) (stack_text form s.cues) (place_text s.place) rest) in
    let table : table_at empty_show (table_text s.devices ++ behind) ≡ Some (of_devices s.devices, behind) =
    table_again s.devices behind p.0 in
    let stack : stack_at form (of_devices s.devices) behind ≡ Some (of_cues s.devices s.cues, after) =
    stack_again form s.devices s.cues after q.0 k in
    ap (show_at form empty_show) regrouped
    ∙ rw (table, stack) (place_again (of_cues s.devices s.cues) s.place rest (place_in s s.place h q.1)
    (place_same s s.place q.1))
