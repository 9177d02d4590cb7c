-- The rules of a show, kept by each change.
use Rattle.std.proofs.Common.{◌≡◌, slice_get, nat_lt, add-one, one-add, ℕ, Bool, true, false, not, cond, if◌then◌else◌}
use Rattle.std.proofs.Common.{◌&&◌, List, [], ◌∷◌, length, suc, ◌+◌, Option, None, Some, is_some, IsTrue, nat_eq}
use Rattle.std.proofs.Common.{nat_le, refl, sym, ap, subst, ◌∙◌, arith, length-append}
use Rattle.std.specs.Cmp.{nat_eq_equiv}
use Rattle.std.specs.List.{list_any, list_all, position, position_or_len}
use Rattle.std.specs.Option.{option_map}
use Rattle.std.specs.Map.{lookup, remove_entry, keys_of, values_of}
use Rattle.std.proofs.lemmas.Bool.{and_parts, and_from, not-true, leb-true, leb-false, ltb-false, le-leb}
use Rattle.std.proofs.lemmas.List.{map-append}
use Rattle.std.proofs.lemmas.Map.{lookup-remove_entry}
use Rattle.std.proofs.lemmas.Map.Entries.{length-keys_of}
use Rattle.std.proofs.lemmas.Option.{slice_get_past}
use Rattle.std.proofs.lemmas.Map.Made.{is_some-lookup}
use Rattle.indexmap.specs.IndexMap.{insert_entry}
use Rattle.cue_show.specs.DeviceNumber.{is_device, is_port}
use Rattle.cue_show.specs.Distinct.{are_distinct}
use Rattle.cue_show.specs.Number.{is_cue_number, same_text}
use Rattle.cue_show.specs.Parts.{are_parts, uses}
use Rattle.cue_show.specs.Show.{Cues, ShowLists, parts_of, has_device, has_cue, is_used, are_known, is_full, first_cue}
use Rattle.cue_show.specs.Show.{cue_after, following, is_place, is_place_of, is_table, is_cue_of, is_stack_of, is_show}
use Rattle.cue_show.specs.Show.{can_add_device, can_remove_device, can_add_cue, with_device, without_device, with_cue}
use Rattle.cue_show.specs.Show.{without_cue, with_place}
use Rattle.cue_show.specs.declared.limits.TheConstants.{MAX_CUES}
use Rattle.cue_show.specs.declared.part.Part.{Part}
use Rattle.cue_show.proofs.ListLemmas.{neither, list_all-from, list_all-weaken, list_all-push, are_distinct-push}
use Rattle.cue_show.proofs.ListLemmas.{IsDistinct-from_are_distinct, is_some-lookup-push, insert_entry-absent}
use Rattle.cue_show.proofs.ListLemmas.{length-remove_entry-le, list_all-remove_entry, are_distinct-remove_entry}
use Rattle.cue_show.proofs.TableLemmas.{table_parts, is_table-from, Table-push, Table-remove}
use Rattle.cue_show.proofs.TextLemmas.{same_text_equiv, same_text-itself}

-- the rules in three parts
pub record Rules (s : ShowLists) : Type 0 where
  pub table : is_table s.devices ≡ true
  pub stack : is_stack_of s s.cues ≡ true
  pub place : is_place_of s s.place ≡ true

pub show_rules : (s : ShowLists) → IsTrue (is_show s) → Rules s
show_rules s show =
    let first = and_parts (is_table s.devices) (is_stack_of s s.cues && is_place_of s s.place) show in
    let rest = and_parts (is_stack_of s s.cues) (is_place_of s s.place) first.1 in
    record { table = first.0; stack = rest.0; place = rest.1 }

pub is_show-from : (s : ShowLists) → Rules s → IsTrue (is_show s)
is_show-from s r = and_from (is_table s.devices) (is_stack_of s s.cues && is_place_of s s.place) r.table
    (and_from (is_stack_of s s.cues) (is_place_of s s.place) r.stack r.place)

-- the rules of a stack in three parts
pub record Stack (s : ShowLists) (cues : Cues) : Type 0 where
  pub short : nat_le (length cues) MAX_CUES ≡ true
  pub distinct : are_distinct same_text (keys_of cues) ≡ true
  pub each : list_all (is_cue_of s) cues ≡ true

pub stack_parts : (s : ShowLists) (cues : Cues) → is_stack_of s cues ≡ true → Stack s cues
stack_parts s cues stack =
    let first = and_parts (nat_le (length cues) MAX_CUES)
    (are_distinct same_text (keys_of cues) && list_all (is_cue_of s) cues) stack in
    let rest = and_parts (are_distinct same_text (keys_of cues)) (list_all (is_cue_of s) cues) first.1 in
    record { short = first.0; distinct = rest.0; each = rest.1 }

pub is_stack_of-from : (s : ShowLists) (cues : Cues) → Stack s cues → is_stack_of s cues ≡ true
is_stack_of-from s cues k =
    and_from (nat_le (length cues) MAX_CUES) (are_distinct same_text (keys_of cues) && list_all (is_cue_of s) cues)
    k.short
    (and_from (are_distinct same_text (keys_of cues)) (list_all (is_cue_of s) cues) k.distinct k.each)

-- ---- a device more

-- a cue stays one where each of its devices stays in the table
is_cue_of-known : (s t : ShowLists) (e : List ℕ × List Part) → is_cue_of s e ≡ true
    → (are_known s e.1 ≡ true → are_known t e.1 ≡ true) → is_cue_of t e ≡ true
is_cue_of-known s t e cue step =
    let first = and_parts (is_cue_number e.0) (are_parts e.1 && are_known s e.1) cue in
    let rest = and_parts (are_parts e.1) (are_known s e.1) first.1 in
    and_from (is_cue_number e.0) (are_parts e.1 && are_known t e.1) first.0
    (and_from (are_parts e.1) (are_known t e.1) rest.0 (step rest.1))

pub is_show-with_device : (s : ShowLists) (d port : ℕ) → IsTrue (is_show s) → IsTrue (can_add_device s d port)
    → IsTrue (is_show (with_device s d port))
is_show-with_device s d port show can =
    let r = show_rules s show in
    let k = stack_parts s s.cues r.stack in
    let asked = and_parts (not (has_device s d)) (is_device d && is_port port) can in
    let absent : list_any (nat_eq d) (keys_of s.devices) ≡ false = sym (is_some-lookup (nat_eq d) s.devices)
    ∙ not-true (has_device s d) asked.0 in
    let new : ShowLists = with_device s d port in
    let known : (parts : List Part) → are_known s parts ≡ true → are_known new parts ≡ true =
    list_all-weaken (λ p. has_device s p.device) (λ p. has_device new p.device)
    (λ p. is_some-lookup-push (nat_eq p.device) s.devices (d, port)) in
    is_show-from new record {
      table = is_table-from new.devices (Table-push s.devices d port (table_parts s.devices r.table) absent asked.1);
      stack = is_stack_of-from new s.cues record {
        short = k.short;
        distinct = k.distinct;
        each = list_all-weaken (is_cue_of s) (is_cue_of new) (λ e cue. is_cue_of-known s new e cue (known e.1)) s.cues
            k.each;
      };
      place = by s.place r.place;
    }
  where
    by : (p : Option (List ℕ)) → is_place_of s p ≡ true → is_place_of (with_device s d port) p ≡ true
    by None h = refl
    by (Some c) h = h

-- ---- a device less

-- a device that none of the parts is for can be taken out beside them
are_known-without : (s : ShowLists) (d : ℕ) → are_distinct nat_eq (keys_of s.devices) ≡ true → (parts : List Part)
    → uses d parts ≡ false
    → are_known s parts ≡ true → are_known (without_device s d) parts ≡ true
are_known-without s d distinct parts unused known =
    list_all-from (λ p. has_device s p.device) (λ p. nat_eq p.device d) (λ p. has_device (without_device s d) p.device)
    stays parts known unused
  where
    stays : (p : Part) → has_device s p.device ≡ true → nat_eq p.device d ≡ false
        → has_device (without_device s d) p.device ≡ true
    stays p there other =
        ap is_some (lookup-remove_entry nat_eq_equiv (nat_eq d) (nat_eq_equiv.congr d) p.device s.devices
        (IsDistinct-from_are_distinct nat_eq nat_eq_equiv (keys_of s.devices) distinct))
        ∙ ap (λ b. is_some (cond b None (lookup (nat_eq p.device) s.devices))) (nat_eq_equiv.symm d p.device ∙ other)
        ∙ there

each_without : (s : ShowLists) (d : ℕ) → are_distinct nat_eq (keys_of s.devices) ≡ true → (cues : Cues)
    → list_any (uses d) (values_of cues) ≡ false
    → list_all (is_cue_of s) cues ≡ true → list_all (is_cue_of (without_device s d)) cues ≡ true
each_without s d distinct [] unused each = refl
each_without s d distinct (e ∷ es) unused each =
    let apart = neither (uses d e.1) (list_any (uses d) (values_of es)) unused in
    let here = and_parts (is_cue_of s e) (list_all (is_cue_of s) es) each in
    and_from (is_cue_of (without_device s d) e) (list_all (is_cue_of (without_device s d)) es)
    (is_cue_of-known s (without_device s d) e here.0 (are_known-without s d distinct e.1 apart.0))
    (each_without s d distinct es apart.1 here.1)

pub is_show-without_device : (s : ShowLists) (d : ℕ) → IsTrue (is_show s) → IsTrue (can_remove_device s d)
    → IsTrue (is_show (without_device s d))
is_show-without_device s d show can =
    let r = show_rules s show in
    let t = table_parts s.devices r.table in
    let k = stack_parts s s.cues r.stack in
    let asked = and_parts (has_device s d) (not (is_used s d)) can in
    let new : ShowLists = without_device s d in
    is_show-from new record {
      table = is_table-from new.devices (Table-remove (nat_eq d) s.devices t);
      stack = is_stack_of-from new s.cues record {
        short = k.short;
        distinct = k.distinct;
        each = each_without s d t.distinct s.cues (not-true (is_used s d) asked.1) k.each;
      };
      place = by s.place r.place;
    }
  where
    by : (p : Option (List ℕ)) → is_place_of s p ≡ true → is_place_of (without_device s d) p ≡ true
    by None h = refl
    by (Some c) h = h

-- ---- a cue more

pub is_show-with_cue : (s : ShowLists) (c : List ℕ) (parts : List Part) → IsTrue (is_show s)
    → IsTrue (can_add_cue s c parts) → IsTrue (is_show (with_cue s c parts))
is_show-with_cue s c parts show can =
    let r = show_rules s show in
    let k = stack_parts s s.cues r.stack in
    let asked = and_parts (not (has_cue s c)) (not (is_full s) && is_cue_of s (c, parts)) can in
    let room = and_parts (not (is_full s)) (is_cue_of s (c, parts)) asked.1 in
    let absent : list_any (same_text c) (keys_of s.cues) ≡ false = sym (is_some-lookup (same_text c) s.cues)
    ∙ not-true (has_cue s c) asked.0 in
    let below = leb-false MAX_CUES (length s.cues) (not-true (is_full s) room.0) in
    let new : ShowLists = with_cue s c parts in
    is_show-from new record {
      table = r.table;
      stack = is_stack_of-from new new.cues record {
        short = le-leb (length new.cues) MAX_CUES (omega (arith, length-append s.cues ((c, parts) ∷ [])));
        distinct = ap (are_distinct same_text) (map-append (λ (e : List ℕ × List Part). e.0) s.cues ((c, parts) ∷ []))
            ∙ are_distinct-push same_text (keys_of s.cues) c k.distinct absent;
        each = list_all-push (is_cue_of s) s.cues (c, parts) k.each room.1;
      };
      place = by s.place r.place;
    }
  where
    by : (p : Option (List ℕ)) → is_place_of s p ≡ true → is_place_of (with_cue s c parts) p ≡ true
    by None h = refl
    by (Some q) h = is_some-lookup-push (same_text q) s.cues (c, parts) h

-- ---- a cue less

-- a place is none, or stands in the cues
abbrev stands_in : Cues → Option (List ℕ) → Bool
stands_in cues None = true
stands_in cues (Some c) = is_some (lookup (same_text c) cues)

stands_in-more : (e : List ℕ × List Part) (es : Cues) (p : Option (List ℕ)) → stands_in es p ≡ true
    → stands_in (e ∷ es) p ≡ true
stands_in-more e es None h = refl
stands_in-more e es (Some q) h = by (same_text q e.0) refl
  where
    by : (b : Bool) → same_text q e.0 ≡ b → is_some (cond (same_text q e.0) (Some e.1) (lookup (same_text q) es)) ≡ true
    by true same = rw same
    by false same = rw same h

stands_in-first : (es : Cues) → stands_in es (first_cue es) ≡ true
stands_in-first [] = refl
stands_in-first (e ∷ es) = rw (same_text-itself e.0)

-- the cue behind another stays when that one is taken out
stands_in-behind : (c : List ℕ) (es : Cues) → stands_in (remove_entry (same_text c) es) (cue_after c es) ≡ true
stands_in-behind c [] = refl
stands_in-behind c (e ∷ es) = by (same_text c e.0) refl (stands_in-behind c es)
  where
    by : (b : Bool) → same_text c e.0 ≡ b → stands_in (remove_entry (same_text c) es) (cue_after c es) ≡ true
        → stands_in (remove_entry (same_text c) (e ∷ es)) (cue_after c (e ∷ es)) ≡ true
    by true same later = rw same (stands_in-first es)
    by false same later = rw same (stands_in-more e (remove_entry (same_text c) es) (cue_after c es) later)

-- and stands in the stack
stands_in-following : (c : List ℕ) (es : Cues) → stands_in es (cue_after c es) ≡ true
stands_in-following c [] = refl
stands_in-following c (e ∷ es) = by (same_text c e.0) refl (stands_in-following c es)
  where
    by : (b : Bool) → same_text c e.0 ≡ b → stands_in es (cue_after c es) ≡ true
        → stands_in (e ∷ es) (cue_after c (e ∷ es)) ≡ true
    by true same later = rw same (stands_in-more e es (first_cue es) (stands_in-first es))
    by false same later = rw same (stands_in-more e es (cue_after c es) later)

is_place_of-stands : (s : ShowLists) (p : Option (List ℕ)) → is_place_of s p ≡ stands_in s.cues p
is_place_of-stands s None = refl
is_place_of-stands s (Some c) = refl

-- what follows a cue is a place
pub is_place_of-following : (s : ShowLists) (c : List ℕ) → IsTrue (is_place_of s (following s c))
is_place_of-following s c = is_place_of-stands s (following s c) ∙ stands_in-following c s.cues

-- another cue stays
pub parts_of-without_cue : (s : ShowLists) (c q : List ℕ) → IsTrue (is_show s)
    → parts_of (without_cue s c) q ≡ cond (same_text c q) None (parts_of s q)
parts_of-without_cue s c q show =
    let k = stack_parts s s.cues (show_rules s show).stack in
    lookup-remove_entry same_text_equiv (same_text c) (same_text_equiv.congr c) q s.cues
    (IsDistinct-from_are_distinct same_text same_text_equiv (keys_of s.cues) k.distinct)

place_after_removal : (s : ShowLists) (c : List ℕ) → IsTrue (is_show s) → (p : Option (List ℕ)) → is_place_of s p ≡ true
    → is_place_of (without_cue s c) (if is_place c p then following s c else p) ≡ true
place_after_removal s c show None there = refl
place_after_removal s c show (Some q) there = by (same_text c q) refl
  where
    by : (b : Bool) → same_text c q ≡ b
        → is_place_of (without_cue s c) (if same_text c q then following s c else Some q) ≡ true
    by true same = rw same (is_place_of-stands (without_cue s c) (following s c) ∙ stands_in-behind c s.cues)
    by false same = rw same (ap is_some (parts_of-without_cue s c q show) ∙ rw same there)

pub is_show-without_cue : (s : ShowLists) (c : List ℕ) → IsTrue (is_show s) → IsTrue (is_show (without_cue s c))
is_show-without_cue s c show =
    let r = show_rules s show in
    let k = stack_parts s s.cues r.stack in
    let new : ShowLists = without_cue s c in
    is_show-from new record {
      table = r.table;
      stack = is_stack_of-from new new.cues record {
        short = le-leb (length new.cues) MAX_CUES
            (omega (arith, length-remove_entry-le (same_text c) s.cues, leb-true (length s.cues) MAX_CUES k.short));
        distinct = are_distinct-remove_entry (same_text c) same_text s.cues k.distinct;
        each = list_all-remove_entry (same_text c) (is_cue_of s) s.cues k.each;
      };
      place = place_after_removal s c show s.place r.place;
    }

-- ---- another place

pub is_show-with_place : (s : ShowLists) (p : Option (List ℕ)) → IsTrue (is_show s) → IsTrue (is_place_of s p)
    → IsTrue (is_show (with_place s p))
is_show-with_place s p show there =
    let r = show_rules s show in
    is_show-from (with_place s p) record { table = r.table; stack = r.stack; place = by p there }
  where
    by : (q : Option (List ℕ)) → is_place_of s q ≡ true → is_place_of (with_place s p) q ≡ true
    by None h = refl
    by (Some c) h = h

-- ---- what the code makes of its maps

-- a show that keeps the rules, and is the one that was wanted
pub record IsMade (show wanted : ShowLists) : Type 0 where
  pub rules : IsTrue (is_show show)
  pub same : show ≡ wanted

-- the change f of s, where s is what the caller sees as old
made : (show s old : ShowLists) (f : ShowLists → ShowLists) → s ≡ old → show ≡ f s → IsTrue (is_show (f s))
    → IsMade show (f old)
made show s old f view same rules =
    let P : ShowLists → Type 0 = λ t. IsTrue (is_show t) in
    record { rules = subst P (sym same) rules; same = same ∙ ap f view }

pub device_inserted : (s old : ShowLists) (devices : List (ℕ × ℕ)) (d port : ℕ) → s ≡ old → IsTrue (is_show s)
    → IsTrue (can_add_device old d port)
    → devices ≡ insert_entry nat_eq s.devices d port → IsMade (record s { devices = devices }) (with_device old d port)
device_inserted s old devices d port view show asked inserted =
    let P : ShowLists → Type 0 = λ t. IsTrue (can_add_device t d port) in
    let can = subst P (sym view) asked in
    let absent = not-true (has_device s d) (and_parts (not (has_device s d)) (is_device d && is_port port) can).0 in
    let last = inserted ∙ insert_entry-absent nat_eq s.devices d port absent in
    made (record s { devices = devices }) s old (λ t. with_device t d port) view
    (ap (λ (ds : List (ℕ × ℕ)). record s { devices = ds }) last) (is_show-with_device s d port show can)

pub device_removed : (s old : ShowLists) (devices : List (ℕ × ℕ)) (d : ℕ) → s ≡ old → IsTrue (is_show s)
    → IsTrue (can_remove_device old d)
    → devices ≡ remove_entry (nat_eq d) s.devices → IsMade (record s { devices = devices }) (without_device old d)
device_removed s old devices d view show asked removed =
    let P : ShowLists → Type 0 = λ t. IsTrue (can_remove_device t d) in
    let can = subst P (sym view) asked in
    made (record s { devices = devices }) s old (λ t. without_device t d) view
    (ap (λ (ds : List (ℕ × ℕ)). record s { devices = ds }) removed) (is_show-without_device s d show can)

pub cue_inserted : (s old : ShowLists) (cues : Cues) (c : List ℕ) (parts : List Part) → s ≡ old → IsTrue (is_show s)
    → IsTrue (can_add_cue old c parts)
    → cues ≡ insert_entry same_text s.cues c parts → IsMade (record s { cues = cues }) (with_cue old c parts)
cue_inserted s old cues c parts view show asked inserted =
    let P : ShowLists → Type 0 = λ t. IsTrue (can_add_cue t c parts) in
    let can = subst P (sym view) asked in
    let absent = not-true (has_cue s c) (and_parts (not (has_cue s c)) (not (is_full s) && is_cue_of s (c, parts))
    can).0 in
    let last = inserted ∙ insert_entry-absent same_text s.cues c parts absent in
    made (record s { cues = cues }) s old (λ t. with_cue t c parts) view
    (ap (λ (es : Cues). record s { cues = es }) last) (is_show-with_cue s c parts show can)

pub cue_removed : (s old : ShowLists) (cues : Cues) (place : Option (List ℕ)) (c : List ℕ) → s ≡ old
    → IsTrue (is_show s)
    → cues ≡ remove_entry (same_text c) s.cues → place ≡ (without_cue old c).place
    → IsMade (record s { cues = cues; place = place }) (without_cue old c)
cue_removed s old cues place c view show removed moved =
    made (record s { cues = cues; place = place }) s old (λ t. without_cue t c) view
    (λ i. record s { cues = removed i; place = (moved ∙ sym (ap (λ t. (without_cue t c).place) view)) i })
    (is_show-without_cue s c show)

-- ---- the cue that follows, by its index

cue_after-position : (c : List ℕ) (es : Cues)
    → cue_after c es ≡ option_map (λ (e : List ℕ × List Part). e.0)
    (slice_get es (suc (position_or_len (same_text c) (keys_of es))))
cue_after-position c [] = refl
cue_after-position c (e ∷ es) = by (same_text c e.0) refl (cue_after-position c es)
  where
    first : (fs : Cues) → first_cue fs ≡ option_map (λ (f : List ℕ × List Part). f.0) (slice_get fs 0)
    first [] = refl
    first (f ∷ fs) = refl

    by : (b : Bool) → same_text c e.0 ≡ b
        → cue_after c es ≡ option_map (λ (f : List ℕ × List Part). f.0)
        (slice_get es (suc (position_or_len (same_text c) (keys_of es))))
        → cue_after c (e ∷ es) ≡ option_map (λ (f : List ℕ × List Part). f.0)
        (slice_get (e ∷ es) (suc (position_or_len (same_text c) (keys_of (e ∷ es)))))
    by true same later = rw same (first es)
    by false same later = rw (same, one-add) later

index_found : (b : Bool) (n i : ℕ) → Some i ≡ cond b (Some n) None → n ≡ i
index_found true n i at = cc
index_found false n i at = cc

index_missing : (b : Bool) (n : ℕ) → None ≡ cond b (Some n) None → b ≡ false
index_missing true n at = cc
index_missing false n at = refl

pub cue_after-found : (c : List ℕ) (es : Cues) (i : ℕ) → Some i ≡ position (same_text c) (keys_of es)
    → cue_after c es ≡ option_map (λ (e : List ℕ × List Part). e.0) (slice_get es (i + 1))
cue_after-found c es i at =
    let n : ℕ = position_or_len (same_text c) (keys_of es) in
    cue_after-position c es
    ∙ ap (λ k. option_map (λ (e : List ℕ × List Part). e.0) (slice_get es k))
    (ap suc (index_found (nat_lt n (length (keys_of es))) n i at) ∙ sym (add-one i))

pub cue_after-missing : (c : List ℕ) (es : Cues) → None ≡ position (same_text c) (keys_of es) → cue_after c es ≡ None
cue_after-missing c es at =
    let n : ℕ = position_or_len (same_text c) (keys_of es) in
    let past = ltb-false n (length (keys_of es)) (index_missing (nat_lt n (length (keys_of es))) n at) in
    cue_after-position c es
    ∙ ap (option_map (λ (e : List ℕ × List Part). e.0))
    (slice_get_past es (suc n) (omega (arith, length-keys_of es)))
