-- What stands in the table and in the stack after each change, for the number that changed and for the others.
use Rattle.std.proofs.Common.{◌≡◌, ℕ, Bor, true, false, cond, List, Option, None, Some, IsTrue, IfSome}
use Rattle.std.proofs.Common.{nat_eq, sym, subst}
use Rattle.std.specs.Cmp.{nat_eq_equiv}
use Rattle.std.specs.Option.{option_copied}
use Rattle.std.specs.Map.{keys_of}
use Rattle.std.proofs.lemmas.Bool.{eqb-true}
use Rattle.std.proofs.lemmas.Map.{lookup-remove_entry}
use Rattle.cue_show.specs.Number.{same_text}
use Rattle.cue_show.specs.Show.{ShowLists, port_of, parts_of, is_entry, is_cue_of}
use Rattle.cue_show.specs.Show.{is_show, with_device, without_device, with_cue}
use Rattle.cue_show.specs.declared.part.Part.{Part}
use Rattle.cue_show.proofs.ListLemmas.{lookup-push_other, lookup-passes, IsDistinct-from_are_distinct}
use Rattle.cue_show.proofs.ShowLemmas.{show_rules, stack_parts}
use Rattle.cue_show.proofs.TableLemmas.{table_parts}
use Rattle.cue_show.proofs.TextLemmas.{same_text-true}

-- ---- devices

pub port_of-with_device_other : (s : ShowLists) (d port q : ℕ) → nat_eq q d ≡ false
    → port_of (with_device s d port) q ≡ port_of s q
port_of-with_device_other s d port q other = lookup-push_other (nat_eq q) s.devices (d, port) other

pub port_of-without_device : (s : ShowLists) (d q : ℕ) → IsTrue (is_show s)
    → port_of (without_device s d) q ≡ cond (nat_eq d q) None (port_of s q)
port_of-without_device s d q show =
    let t = table_parts s.devices (show_rules s show).table in
    lookup-remove_entry nat_eq_equiv (nat_eq d) (nat_eq_equiv.congr d) q s.devices
    (IsDistinct-from_are_distinct nat_eq nat_eq_equiv (keys_of s.devices) t.distinct)

-- a device of the table is in range, and so is its port
pub is_entry-port_of : (s : ShowLists) (d : ℕ) → IsTrue (is_show s)
    → IfSome (port_of s d) (λ port. IsTrue (is_entry (d, port)))
is_entry-port_of s d show =
    let t = table_parts s.devices (show_rules s show).table in
    lookup-passes (nat_eq d) is_entry (λ port. IsTrue (is_entry (d, port))) (λ e same entry. let P : ℕ
    → Type 0 = λ k. is_entry (k, e.1) ≡ true in subst P (sym (eqb-true d e.0 same)) entry) s.devices t.entries

-- ---- cues

pub parts_of-with_cue_other : (s : ShowLists) (c : List ℕ) (parts : List Part) (q : List ℕ) → same_text q c ≡ false
    → parts_of (with_cue s c parts) q ≡ parts_of s q
parts_of-with_cue_other s c parts q other = lookup-push_other (same_text q) s.cues (c, parts) other

-- a cue of the stack has a number, and parts of devices of the table
pub is_cue_of-parts_of : (s : ShowLists) (c : List ℕ) → IsTrue (is_show s)
    → IfSome (parts_of s c) (λ parts. IsTrue (is_cue_of s (c, parts)))
is_cue_of-parts_of s c show =
    let k = stack_parts s s.cues (show_rules s show).stack in
    lookup-passes (same_text c) (is_cue_of s) (λ parts. IsTrue (is_cue_of s (c, parts))) (λ e same cue. let P : List ℕ
    → Type 0 = λ q. is_cue_of s (q, e.1) ≡ true in subst P (sym (same_text-true c e.0 same)) cue) s.cues k.each

-- ---- what a look-up in the code finds, of the show s that the caller sees as old

pub found_port : (s : ShowLists) (d : ℕ) (port : Option ℕ) → IsTrue (is_show s) → port ≡ port_of s d
    → IfSome port (λ p. IsTrue (is_entry (d, p)))
found_port s d port show found =
    let P : Option ℕ → Type 0 = λ o. IfSome o (λ p. IsTrue (is_entry (d, p))) in
    subst P (sym found) (is_entry-port_of s d show)

pub found_parts : (s old : ShowLists) (c : List ℕ) (parts : Option (Bor (List Part))) → s ≡ old → IsTrue (is_show s)
    → option_copied parts ≡ parts_of s c
    → IfSome parts (λ p. IsTrue (is_cue_of old (c, p.now)))
found_parts s old c None view show found = tt
found_parts s old c (Some p) view show found =
    let P : Option (List Part) → Type 0 = λ o. IfSome o (λ q. IsTrue (is_cue_of s (c, q))) in
    let here : IsTrue (is_cue_of s (c, p.now)) = subst P (sym found) (is_cue_of-parts_of s c show) in
    let Q : ShowLists → Type 0 = λ t. IsTrue (is_cue_of t (c, p.now)) in
    subst Q view here
