-- What TOML's rules for tables make of the lines of a show file, and so what is read from its text.
use Rattle.std.proofs.Common.{◌≡◌, ◌∙◌, ℕ, suc, pos, true, false, ◌==◌, List, [], ◌∷◌, ◌++◌, length, map, codes, IsTrue}
use Rattle.std.proofs.Common.{nat_le, ◌&&◌, subst, Option, Some, None, String, Global, string_bytes, option_and_then}
use Rattle.std.proofs.Common.{refl, sym, ap, arith}
use Rattle.std.specs.List.{flat_map, list_all}
use Rattle.std.specs.Map.{keys_of}
use Rattle.toml_parser.specs.Lexical.{first}
use Rattle.toml.specs.Data.{integer, string, array, table, Items, no_items, item, Members, member, no_members}
use Rattle.toml.specs.Data.{push_item}
use Rattle.toml.specs.Tables.{Document, Expression, Node, Nodes, no_nodes, node, value, open_array, close, get_node}
use Rattle.toml.specs.Tables.{insert, define, along_header, along_dots, at_key}
use Rattle.toml.specs.Parse.{lines, skip_bom}
use Rattle.toml.proofs.ReadLines.{read_lines, run}
use Rattle.toml.proofs.ReadValues.{item_join, item_join-none, item_join-push}
use Rattle.toml.proofs.Turns.{document_some}
use Rattle.cue_show.specs.declared.limits.TheConstants.{MAX_PORT}
use Rattle.cue_show.specs.declared.part.Part.{Part}
use Rattle.cue_show.specs.DeviceNumber.{is_device, is_port}
use Rattle.cue_show.specs.Devices.{distinct}
use Rattle.cue_show.specs.Distinct.{are_distinct}
use Rattle.cue_show.specs.Number.{is_cue_number, same_text}
use Rattle.cue_show.specs.Parts.{are_parts, is_part}
use Rattle.cue_show.specs.Show.{Cues, ShowLists, are_known, is_cue_of, is_entry}
use Rattle.cue_show.proofs.TestLemmas.{both, join}
use Rattle.cue_operator.proofs.NameLemmas.{stack_of, table_of}
use Rattle.cue_show_file.specs.declared.file.CueEntry.{CueEntry}
use Rattle.cue_show_file.specs.declared.file.DeviceEntry.{DeviceEntry}
use Rattle.cue_show_file.specs.declared.file.ShowFile.{ShowFile}
use Rattle.cue_show_file.specs.declared.marks.Color.{Color}
use Rattle.cue_show_file.specs.declared.marks.Flag.{Flag}
use Rattle.cue_show_file.specs.Marks.{color_word, flag_word}
use Rattle.cue_show_file.specs.Written.{ExportIsRead, WrittenIsRead, bare_cue, bare_device, is_port_number, cue_members}
use Rattle.cue_show_file.specs.Written.{cue_text, device_members, device_text, file_members, file_text, port_text, tables_of}
use Rattle.cue_show_file.specs.Written.{with_port, with_tables}
use Rattle.cue_show_file.proofs.PartLemmas.{are_parts-each}
use Rattle.cue_show_file.proofs.WrittenLemmas.{cue_lines, device_lines, file-text, file_lines, lines_of_cue, lines_of_device}
use Rattle.cue_show_file.proofs.WrittenLemmas.{parts_data, port_lines, printed-file}

-- ---- one list of expressions after another

run-append : (doc : Document) (es fs : List Expression)
    → run doc (es ++ fs) ≡ option_and_then (λ next. run next fs) (run doc es)
run-append doc [] fs = refl
run-append doc (e ∷ es) fs = at (define doc e) (λ next. run-append next es fs)
  where
    at : (o : Option Document)
        → ((next : Document) → run next (es ++ fs) ≡ option_and_then (λ d. run d fs) (run next es))
        → option_and_then (λ next. run next (es ++ fs)) o ≡ option_and_then (λ next. run next fs)
        (option_and_then (λ next. run next es) o)
    at None more = refl
    at (Some next) more = more next

then-run : (doc next : Document) (es fs : List Expression) → run doc es ≡ Some next → run doc (es ++ fs) ≡ run next fs
then-run doc next es fs h = run-append doc es fs ∙ ap (option_and_then (λ d. run d fs)) h

-- ---- an entry

abbrev with_node : List ℕ → Option (String Global) → Nodes → Nodes
with_node k None ns = ns
with_node k (Some t) ns = node k (value (string (string_bytes t))) ns

abbrev device_nodes : DeviceEntry → Nodes
device_nodes e = with_node (codes "name") e.name
    (node (codes "number") (value (integer (pos e.number)))
    (node (codes "port") (value (integer (pos e.port))) no_nodes))

abbrev with_color_node : Option Color → Nodes → Nodes
with_color_node None ns = ns
with_color_node (Some c) ns = node (codes "color") (value (string (color_word c))) ns

abbrev with_flag_node : Option Flag → Nodes → Nodes
with_flag_node None ns = ns
with_flag_node (Some f) ns = node (codes "flag") (value (string (flag_word f))) ns

-- the nodes of a cue with these signs
abbrev nodes_with : CueEntry → Option Color → Option Flag → Option (String Global) → Option (String Global) → Nodes
nodes_with e color flag name note = with_color_node color
    (with_flag_node flag
    (with_node (codes "name") name
    (with_node (codes "note") note
    (node (codes "number") (value (string e.number)) (node (codes "parts") (value (parts_data e.parts)) no_nodes)))))

abbrev cue_nodes : CueEntry → Nodes
cue_nodes e = nodes_with e e.color e.flag e.name e.note

close-device : (e : DeviceEntry) → close (device_nodes e) ≡ device_members e
close-device e = at e.name
  where
    at : (o : Option (String Global))
        → close (with_node (codes "name") o
        (node (codes "number") (value (integer (pos e.number)))
        (node (codes "port") (value (integer (pos e.port))) no_nodes))) ≡ device_members (record e { name = o })
    at None = refl
    at (Some t) = refl

close-cue : (e : CueEntry) → close (cue_nodes e) ≡ cue_members e
close-cue e = at e.color e.flag e.name e.note
  where
    at : (c : Option Color) (f : Option Flag) (o p : Option (String Global)) → close (nodes_with e c f o p)
        ≡ cue_members (record e { color = c; flag = f; name = o; note = p })
    at None None None None = refl
    at None None None (Some u) = refl
    at None None (Some t) None = refl
    at None None (Some t) (Some u) = refl
    at None (Some f) None None = refl
    at None (Some f) None (Some u) = refl
    at None (Some f) (Some t) None = refl
    at None (Some f) (Some t) (Some u) = refl
    at (Some c) None None None = refl
    at (Some c) None None (Some u) = refl
    at (Some c) None (Some t) None = refl
    at (Some c) None (Some t) (Some u) = refl
    at (Some c) (Some f) None None = refl
    at (Some c) (Some f) None (Some u) = refl
    at (Some c) (Some f) (Some t) None = refl
    at (Some c) (Some f) (Some t) (Some u) = refl

-- ---- a list of entries: each begins with a header of the list, and goes to its end

-- the list stands first, with these elements before the last one
abbrev listed : List ℕ → Items → Nodes → Nodes → Nodes
listed key done last others = node key (open_array done last) others

-- the lines of an entry begin the list
abbrev Begins : {A : Type 0} → List ℕ → (A → List Expression) → (A → Nodes) → Nodes → Type 0
Begins {A} key lines nodes others = (e : A) (section : List (List ℕ))
    → run (others, section) (lines e) ≡ Some (listed key no_items (nodes e) others, key ∷ [])

-- they end its last element, and begin the next
abbrev GoesOn : {A : Type 0} → List ℕ → (A → List Expression) → (A → Nodes) → Nodes → Type 0
GoesOn {A} key lines nodes others = (e : A) (done : Items) (last : Nodes) (section : List (List ℕ))
    → run (listed key done last others, section) (lines e) ≡ Some
    (listed key (push_item done (table (close last))) (nodes e) others, key ∷ [])

-- the lines end with this list put first, of these elements in all
abbrev Ends : List ℕ → Document → List Expression → Nodes → Items → Type 0
Ends key doc es others wanted = (done : Items) × (last : Nodes) × (section : List (List ℕ))
    × (run doc es ≡ Some (listed key done last others, section)) × (push_item done (table (close last)) ≡ wanted)

goes-on : {A : Type 0} (key : List ℕ) (lines : A → List Expression) (nodes : A → Nodes) (members : A → Members)
    (others : Nodes) → GoesOn key lines nodes others → ((e : A) → close (nodes e) ≡ members e)
    → (es : List A) (done : Items) (last : Nodes) (section : List (List ℕ))
    → Ends key (listed key done last others, section) (flat_map lines es) others
    (item_join (push_item done (table (close last))) (tables_of (map members es)))
goes-on key lines nodes members others step closed [] done last section =
    (done, last, section, refl, sym (item_join-none (push_item done (table (close last)))))
goes-on key lines nodes members others step closed (e ∷ es) done last section =
    let next : Items = push_item done (table (close last)) in
    let (d, l, at_end, ran, is) = goes-on key lines nodes members others step closed es next (nodes e) (key ∷ []) in
    let joined = ap (λ ms. item_join (push_item next (table ms)) (tables_of (map members es))) (closed e)
    ∙ item_join-push next (table (members e)) (tables_of (map members es)) in (
      d,
      l,
      at_end,
      then-run (listed key done last others, section) (listed key next (nodes e) others, key ∷ [])
          (lines e) (flat_map lines es) (step e done last section) ∙ ran,
      is ∙ joined,
    )

-- a list with an entry or more
all-listed : {A : Type 0} (key : List ℕ) (lines : A → List Expression) (nodes : A → Nodes) (members : A → Members)
    (others : Nodes) → Begins key lines nodes others → GoesOn key lines nodes others
    → ((e : A) → close (nodes e) ≡ members e)
    → (e : A) (es : List A) (section : List (List ℕ))
    → Ends key (others, section) (flat_map lines (e ∷ es)) others (tables_of (map members (e ∷ es)))
all-listed key lines nodes members others start step closed e es section =
    let (d, l, at_end, ran, is) =
    goes-on key lines nodes members others step closed es no_items (nodes e) (key ∷ []) in (
      d,
      l,
      at_end,
      then-run (others, section) (listed key no_items (nodes e) others, key ∷ []) (lines e) (flat_map lines es)
          (start e section) ∙ ran,
      is ∙ ap (λ ms. item (table ms) (tables_of (map members es))) (closed e),
    )

-- ---- devices

-- the key is not there, and stands before those that are
abbrev IsBefore : List ℕ → Nodes → Type 0
IsBefore key ns = (get_node key ns ≡ None) × ((x : Node) → insert key x ns ≡ node key x ns)

device-begins : (others : Nodes) → IsBefore (codes "device") others
    → Begins (codes "device") lines_of_device device_nodes others
unfolding along_header along_dots at_key define
device-begins others h e section = at e.name
  where
    at : (o : Option (String Global)) → run (others, section) (device_lines e.number e.port o)
        ≡ Some (
          listed (codes "device") no_items
              (with_node (codes "name") o
              (node (codes "number") (value (integer (pos e.number)))
              (node (codes "port") (value (integer (pos e.port))) no_nodes))) others,
          codes "device" ∷ [],
        )
    at None = rw (h.0, h.1) refl
    at (Some t) = rw (h.0, h.1) refl

device-goes-on : (others : Nodes) → GoesOn (codes "device") lines_of_device device_nodes others
unfolding along_header along_dots at_key define
device-goes-on others e done last section = at e.name
  where
    at : (o : Option (String Global))
        → run (listed (codes "device") done last others, section) (device_lines e.number e.port o)
        ≡ Some (
          listed (codes "device") (push_item done (table (close last)))
              (with_node (codes "name") o
              (node (codes "number") (value (integer (pos e.number)))
              (node (codes "port") (value (integer (pos e.port))) no_nodes))) others,
          codes "device" ∷ [],
        )
    at None = refl
    at (Some t) = refl

-- ---- cues

cue-begins : (others : Nodes) → IsBefore (codes "cue") others → Begins (codes "cue") lines_of_cue cue_nodes others
unfolding along_header along_dots at_key define
cue-begins others h e section = at e.color e.flag e.name e.note
  where
    at : (c : Option Color) (f : Option Flag) (o p : Option (String Global))
        → run (others, section) (cue_lines e.number o p c f e.parts)
        ≡ Some (listed (codes "cue") no_items (nodes_with e c f o p) others, codes "cue" ∷ [])
    at None None None None = rw (h.0, h.1) refl
    at None None None (Some u) = rw (h.0, h.1) refl
    at None None (Some t) None = rw (h.0, h.1) refl
    at None None (Some t) (Some u) = rw (h.0, h.1) refl
    at None (Some f) None None = rw (h.0, h.1) refl
    at None (Some f) None (Some u) = rw (h.0, h.1) refl
    at None (Some f) (Some t) None = rw (h.0, h.1) refl
    at None (Some f) (Some t) (Some u) = rw (h.0, h.1) refl
    at (Some c) None None None = rw (h.0, h.1) refl
    at (Some c) None None (Some u) = rw (h.0, h.1) refl
    at (Some c) None (Some t) None = rw (h.0, h.1) refl
    at (Some c) None (Some t) (Some u) = rw (h.0, h.1) refl
    at (Some c) (Some f) None None = rw (h.0, h.1) refl
    at (Some c) (Some f) None (Some u) = rw (h.0, h.1) refl
    at (Some c) (Some f) (Some t) None = rw (h.0, h.1) refl
    at (Some c) (Some f) (Some t) (Some u) = rw (h.0, h.1) refl

cue-goes-on : (others : Nodes) → GoesOn (codes "cue") lines_of_cue cue_nodes others
unfolding along_header along_dots at_key define
cue-goes-on others e done last section = at e.color e.flag e.name e.note
  where
    at : (c : Option Color) (f : Option Flag) (o p : Option (String Global))
        → run (listed (codes "cue") done last others, section) (cue_lines e.number o p c f e.parts)
        ≡ Some (
          listed (codes "cue") (push_item done (table (close last))) (nodes_with e c f o p) others,
          codes "cue" ∷ [],
        )
    at None None None None = refl
    at None None None (Some u) = refl
    at None None (Some t) None = refl
    at None None (Some t) (Some u) = refl
    at None (Some f) None None = refl
    at None (Some f) None (Some u) = refl
    at None (Some f) (Some t) None = refl
    at None (Some f) (Some t) (Some u) = refl
    at (Some c) None None None = refl
    at (Some c) None None (Some u) = refl
    at (Some c) None (Some t) None = refl
    at (Some c) None (Some t) (Some u) = refl
    at (Some c) (Some f) None None = refl
    at (Some c) (Some f) None (Some u) = refl
    at (Some c) (Some f) (Some t) None = refl
    at (Some c) (Some f) (Some t) (Some u) = refl

-- ---- the whole

abbrev port_nodes : Option ℕ → Nodes
port_nodes None = no_nodes
port_nodes (Some port) = node (codes "port") (value (integer (pos port))) no_nodes

port-run : (o : Option ℕ) → run (no_nodes, []) (port_lines o) ≡ Some (port_nodes o, [])
unfolding along_header along_dots at_key define
port-run None = refl
port-run (Some port) = refl

close-port : (o : Option ℕ) → close (port_nodes o) ≡ with_port o no_members
close-port None = refl
close-port (Some port) = refl

device-before : (o : Option ℕ) → IsBefore (codes "device") (port_nodes o)
device-before None = (refl, λ x. refl)
device-before (Some port) = (refl, λ x. refl)

cue-before-port : (o : Option ℕ) → IsBefore (codes "cue") (port_nodes o)
cue-before-port None = (refl, λ x. refl)
cue-before-port (Some port) = (refl, λ x. refl)

-- the nodes after some lines, and what they stand for
abbrev Leads : Document → List Expression → Members → Type 0
Leads doc es wanted = (root : Nodes) × (section : List (List ℕ)) × (run doc es ≡ Some (root, section))
    × (close root ≡ wanted)

-- the cues after all else
cues-lead : (others : Nodes) (wanted : Members) → close others ≡ wanted → IsBefore (codes "cue") others
    → (cs : List CueEntry) (section : List (List ℕ))
    → Leads (others, section) (flat_map lines_of_cue cs) (with_tables (codes "cue") (map cue_members cs) wanted)
cues-lead others wanted is before [] section = (others, section, refl, is)
cues-lead others wanted is before (c ∷ cs) section =
    let (d, l, at_end, ran, all) = all-listed (codes "cue") lines_of_cue cue_nodes cue_members others
    (cue-begins others before) (cue-goes-on others) close-cue c cs section in (
      listed (codes "cue") d l others,
      at_end,
      ran,
      ap (λ ds. member (codes "cue") (array ds) (close others)) all
          ∙ ap (member (codes "cue") (array (tables_of (map cue_members (c ∷ cs))))) is,
    )

cue-before-devices : (o : Option ℕ) (done : Items) (last : Nodes)
    → IsBefore (codes "cue") (listed (codes "device") done last (port_nodes o))
cue-before-devices None done last = (refl, λ x. refl)
cue-before-devices (Some port) done last = (refl, λ x. refl)

-- the devices, and the cues after them
entries-lead : (o : Option ℕ) (ds : List DeviceEntry) (cs : List CueEntry)
    → Leads (port_nodes o, []) (flat_map lines_of_device ds ++ flat_map lines_of_cue cs)
    (with_tables (codes "cue") (map cue_members cs)
    (with_tables (codes "device") (map device_members ds) (with_port o no_members)))
entries-lead o [] cs = cues-lead (port_nodes o) (with_port o no_members) (close-port o) (cue-before-port o) cs []
entries-lead o (e ∷ ds) cs =
    let others : Nodes = port_nodes o in
    let (d, l, at_end, ran, all) = all-listed (codes "device") lines_of_device device_nodes device_members others
    (device-begins others (device-before o)) (device-goes-on others) close-device e ds [] in
    let root : Nodes = listed (codes "device") d l others in
    let stands = ap (λ is. member (codes "device") (array is) (close others)) all
    ∙ ap (member (codes "device") (array (tables_of (map device_members (e ∷ ds))))) (close-port o) in
    let (top, last_header, more, closed) =
    cues-lead root (with_tables (codes "device") (map device_members (e ∷ ds)) (with_port o no_members)) stands
    (cue-before-devices o d l) cs at_end in (
      top,
      last_header,
      then-run (others, []) (root, at_end) (flat_map lines_of_device (e ∷ ds))
          (flat_map lines_of_cue cs) ran ∙ more,
      closed,
    )

file-leads : (f : ShowFile) → Leads (no_nodes, []) (file_lines f) (file_members f)
file-leads f =
    let (root, section, ran, closed) = entries-lead f.port f.devices.items f.cues.items in (
      root,
      section,
      then-run (no_nodes, []) (port_nodes f.port, []) (port_lines f.port)
          (flat_map lines_of_device f.devices.items ++ flat_map lines_of_cue f.cues.items) (port-run f.port)
          ∙ ran,
      closed,
    )

-- ---- the text

not-bom : (o : Option ℕ) (ds : List DeviceEntry) (cs : List CueEntry)
    → (first (port_text o ++ (flat_map device_text ds ++ flat_map cue_text cs)) == 239) ≡ false
not-bom (Some port) ds cs = refl
not-bom None (e ∷ ds) cs = refl
not-bom None [] (c ∷ cs) = refl
not-bom None [] [] = refl

no-skip : (text : List ℕ) → (first text == 239) ≡ false → skip_bom text ≡ text
unfolding skip_bom
no-skip text h = rw h

pub written-is_read : WrittenIsRead
written-is_read f h =
    let text : List ℕ = file_text f in
    let (root, section, ran, closed) = file-leads f in
    let read = read_lines true true (file_lines f) text text (no_nodes, []) (suc (length text)) (file-text f h)
    (printed-file f) refl (omega arith) in
    let skipped = no-skip text (not-bom f.port f.devices.items f.cues.items) in
    document_some text (root, section) (rw skipped (read ∙ ran)) ∙ ap (λ ms. Some ms) closed

-- ---- the file of a show

devices-in_range : (ds : List (ℕ × ℕ)) → IsTrue (list_all is_entry ds)
    → IsTrue (list_all (λ (e : DeviceEntry). is_device e.number && nat_le e.port MAX_PORT) (map bare_device ds))
devices-in_range [] h = refl
devices-in_range (d ∷ ds) h =
    let k = both (is_entry d) (list_all is_entry ds) h in
    let m = both (is_device d.0) (is_port d.1) k.0 in
    join (is_device d.0 && nat_le d.1 MAX_PORT) _
    (join (is_device d.0) (nat_le d.1 MAX_PORT) m.0 (both (nat_le 1 d.1) (nat_le d.1 MAX_PORT) m.1).1)
    (devices-in_range ds k.1)

parts-in_range : (ps : List Part) → IsTrue (list_all is_part ps)
    → IsTrue (list_all (λ (p : Part). is_device p.device) ps)
parts-in_range [] h = refl
parts-in_range (p ∷ ps) h =
    let k = both (is_part p) (list_all is_part ps) h in
    join (is_device p.device) _ (both (is_device p.device) _ k.0).0 (parts-in_range ps k.1)

cues-in_range : (s : ShowLists) (cs : Cues) → IsTrue (list_all (is_cue_of s) cs)
    → IsTrue (list_all (λ (e : CueEntry). list_all (λ (p : Part). is_device p.device) e.parts) (map bare_cue cs))
cues-in_range s [] h = refl
cues-in_range s (c ∷ cs) h =
    let k = both (is_cue_of s c) (list_all (is_cue_of s) cs) h in
    let m = both (is_cue_number c.0) (are_parts c.1 && are_known s c.1) k.0 in
    join (list_all (λ (p : Part). is_device p.device) c.1) _
    (parts-in_range c.1 (are_parts-each c.1 (both (are_parts c.1) (are_known s c.1) m.1).0))
    (cues-in_range s cs k.1)

pub export-is_read : ExportIsRead
export-is_read s f h is =
    let table = both (distinct (keys_of s.devices)) (list_all is_entry s.devices) (both _ _ (table_of s h)).1 in
    let stack = both (are_distinct same_text (keys_of s.cues)) (list_all (is_cue_of s) s.cues)
    (both _ _ (stack_of s h)).1 in
    let devices = subst (λ (es : List DeviceEntry).
    IsTrue (list_all (λ (e : DeviceEntry). is_device e.number && nat_le e.port MAX_PORT) es)) (sym is.devices)
    (devices-in_range s.devices table.1) in
    let cues = subst (λ (es : List CueEntry).
    IsTrue (list_all (λ (e : CueEntry). list_all (λ (p : Part). is_device p.device) e.parts) es)) (sym is.cues)
    (cues-in_range s s.cues stack.1) in
    let port = subst (λ (o : Option ℕ). IsTrue (is_port_number o)) (sym is.port) refl in
    let numbers = join (is_port_number f.port) _ port (join _ _ devices cues) in
    written-is_read f numbers
    ∙ rw (is.port, is.devices, is.cues) refl
