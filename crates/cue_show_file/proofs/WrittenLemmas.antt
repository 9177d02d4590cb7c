-- The text of a show file is lines as TOML's own writer has them.
use Rattle.std.proofs.Common.{◌≡◌, ℕ, ◌≤◌, max, pos, Bool, true, false, ◌&&◌, List, [], ◌∷◌, ◌++◌, length, map, codes}
use Rattle.std.proofs.Common.{IsTrue, Option, Some, None, String, Global, string_bytes, nat_le, refl, ap, arith}
use Rattle.std.proofs.Common.{append_assoc, if◌then◌else◌}
use Rattle.std.specs.Prelude.{FitsSigned}
use Rattle.std.specs.Int.{w64}
use Rattle.std.specs.Fmt.{decimal}
use Rattle.std.specs.List.{flat_map, list_all}
use Rattle.std.proofs.lemmas.Bool.Decides.{nat_tests}
use Rattle.hex.specs.Hex.{encode_lower}
use Rattle.toml_writer.specs.Text.{key_text, string_text}
use Rattle.toml.specs.Data.{Data, integer, string, array, table, Members, member, no_members, is_before, depth}
use Rattle.toml.specs.Data.{items_depth, has_valid_dates}
use Rattle.toml.specs.Data.{items_have_valid_dates}
use Rattle.toml.specs.Tables.{Expression, key_value, array_table}
use Rattle.toml.specs.Text.{IsItemsText, IsLinesText, IsMembersText, IsValueText, array_end}
use Rattle.toml.proofs.Lines.{IsLinesText-append}
use Rattle.toml.proofs.ReadLines.{AllPrinted}
use Rattle.cue_show.specs.declared.limits.TheConstants.{MAX_PORT}
use Rattle.cue_show.specs.declared.part.Part.{Part}
use Rattle.cue_show.specs.DeviceNumber.{is_device}
use Rattle.cue_show.proofs.TestLemmas.{both}
use Rattle.cue_show_file.specs.declared.file.CueEntry.{CueEntry}
use Rattle.cue_show_file.specs.declared.file.DeviceEntry.{DeviceEntry}
use Rattle.cue_show_file.specs.declared.file.ShowFile.{ShowFile}
use Rattle.cue_show_file.specs.declared.marks.Color.{Color}
use Rattle.cue_show_file.specs.declared.marks.Flag.{Flag}
use Rattle.cue_show_file.specs.Marks.{color_word, flag_word}
use Rattle.cue_show_file.specs.Plain.{is_plain}
use Rattle.cue_show_file.specs.Written.{color_line, cue_text, device_text, digits_rest, file_text, flag_line, has_lines}
use Rattle.cue_show_file.specs.Written.{has_numbers, is_port_number, part_item, part_members, part_rest, part_text}
use Rattle.cue_show_file.specs.Written.{parts_line, parts_text, plain_rest, port_text, signs_text, tables_of, text_line}
use Rattle.cue_show_file.specs.Written.{with_optional}

-- ---- the lines

abbrev pub pair : List ℕ → Data → Expression
pair k d = (([], k), key_value d)

abbrev pub list_header : List ℕ → Expression
list_header k = (([], k), array_table)

abbrev pub text_lines : List ℕ → Option (String Global) → List Expression
text_lines k None = []
text_lines k (Some t) = pair k (string (string_bytes t)) ∷ []

abbrev pub color_lines : Option Color → List Expression
color_lines None = []
color_lines (Some c) = pair (codes "color") (string (color_word c)) ∷ []

abbrev pub flag_lines : Option Flag → List Expression
flag_lines None = []
flag_lines (Some f) = pair (codes "flag") (string (flag_word f)) ∷ []

abbrev pub device_lines : ℕ → ℕ → Option (String Global) → List Expression
device_lines number port name =
    list_header (codes "device") ∷ pair (codes "number") (integer (pos number)) ∷ pair (codes "port")
    (integer (pos port)) ∷ text_lines (codes "name") name

abbrev pub parts_data : List Part → Data
parts_data ps = array (tables_of (map part_members ps))

-- what people see of a cue
abbrev pub signs_lines : Option (String Global) → Option (String Global) → Option Color → Option Flag → List Expression
signs_lines name note color flag =
    text_lines (codes "name") name ++ (text_lines (codes "note") note ++ (color_lines color ++ flag_lines flag))

abbrev pub cue_lines : List ℕ → Option (String Global) → Option (String Global) → Option Color → Option Flag → List Part
    → List Expression
cue_lines number name note color flag parts =
    list_header (codes "cue") ∷ pair (codes "number") (string number)
    ∷ (signs_lines name note color flag ++ pair (codes "parts") (parts_data parts) ∷ [])

abbrev pub port_lines : Option ℕ → List Expression
port_lines None = []
port_lines (Some port) = pair (codes "port") (integer (pos port)) ∷ []

abbrev pub lines_of_device : DeviceEntry → List Expression
lines_of_device e = device_lines e.number e.port e.name

abbrev pub lines_of_cue : CueEntry → List Expression
lines_of_cue e = cue_lines e.number e.name e.note e.color e.flag e.parts

abbrev pub file_lines : ShowFile → List Expression
file_lines f = port_lines f.port ++ (flat_map lines_of_device f.devices.items ++ flat_map lines_of_cue f.cues.items)

-- ---- keys need no quotes

abbrev IsBareKey : List ℕ → Type 0
IsBareKey k = key_text k ≡ k

key-number : IsBareKey (codes "number")
unfolding key_text
key-number = refl

key-port : IsBareKey (codes "port")
unfolding key_text
key-port = refl

key-name : IsBareKey (codes "name")
unfolding key_text
key-name = refl

key-note : IsBareKey (codes "note")
unfolding key_text
key-note = refl

key-color : IsBareKey (codes "color")
unfolding key_text
key-color = refl

key-flag : IsBareKey (codes "flag")
unfolding key_text
key-flag = refl

key-parts : IsBareKey (codes "parts")
unfolding key_text
key-parts = refl

key-device : IsBareKey (codes "device")
unfolding key_text
key-device = refl

key-cue : IsBareKey (codes "cue")
unfolding key_text
key-cue = refl

key-hex : IsBareKey (codes "hex")
unfolding key_text
key-hex = refl

key-text : IsBareKey (codes "text")
unfolding key_text
key-text = refl

key-optional : IsBareKey (codes "optional")
unfolding key_text
key-optional = refl

-- ---- one line

-- the text is these lines, with an empty line before each header
abbrev pub AreLines : List Expression → List ℕ → Type 0
AreLines es text = IsLinesText true true es text

pair-line : (k v : List ℕ) (d : Data) → IsBareKey k → IsValueText true d v
    → AreLines (pair k d ∷ []) (k ++ (codes " = " ++ (v ++ codes "\n")))
pair-line k v d bare h =
    let line : List ℕ = k ++ (codes " = " ++ (v ++ codes "\n")) in
    (line, [], simp append_assoc refl, (v, rw bare refl, h), refl)

header-line : (k : List ℕ) → IsBareKey k → AreLines (list_header k ∷ []) (codes "\n[[" ++ (k ++ codes "]]\n"))
header-line k bare =
    let line : List ℕ = codes "\n[[" ++ (k ++ codes "]]\n") in
    (line, [], simp append_assoc refl, rw bare refl, refl)

then-lines : (es fs : List Expression) (t u : List ℕ) → AreLines es t → AreLines fs u → AreLines (es ++ fs) (t ++ u)
then-lines [] fs t u h k = IsLinesText-append true true [] fs t u h k
then-lines (e ∷ es) fs t u h k = IsLinesText-append true true (e ∷ es) fs t u h k

text-lines : (k : List ℕ) (o : Option (String Global)) → IsBareKey k → AreLines (text_lines k o) (text_line k o)
text-lines k None bare = refl
text-lines k (Some t) bare = pair-line k (string_text (string_bytes t)) (string (string_bytes t)) bare refl

color-lines : (o : Option Color) → AreLines (color_lines o) (color_line o)
color-lines None = refl
color-lines (Some c) = pair-line (codes "color") (string_text (color_word c)) (string (color_word c)) key-color refl

flag-lines : (o : Option Flag) → AreLines (flag_lines o) (flag_line o)
flag-lines None = refl
flag-lines (Some f) = pair-line (codes "flag") (string_text (flag_word f)) (string (flag_word f)) key-flag refl

each-lines : {A : Type 0} (lines : A → List Expression) (text : A → List ℕ) (ok : A → Bool)
    → ((x : A) → IsTrue (ok x) → AreLines (lines x) (text x)) → (xs : List A) → IsTrue (list_all ok xs)
    → AreLines (flat_map lines xs) (flat_map text xs)
each-lines lines text ok each [] h = refl
each-lines lines text ok each (x ∷ xs) h =
    let k = both (ok x) (list_all ok xs) h in
    then-lines (lines x) (flat_map lines xs) (text x) (flat_map text xs) (each x k.0)
    (each-lines lines text ok each xs k.1)

fits : (n : ℕ) → n ≤ MAX_PORT → FitsSigned w64 (pos n)
fits n h = omega arith

number-line : (k : List ℕ) (n : ℕ) → IsBareKey k → n ≤ MAX_PORT
    → AreLines (pair k (integer (pos n)) ∷ []) (k ++ (codes " = " ++ (decimal n ++ codes "\n")))
number-line k n bare h = pair-line k (decimal n) (integer (pos n)) bare (refl, fits n h)

-- ---- parts

plain-rest : (b : Bool) (t : List ℕ)
    → IsMembersText true false (with_optional b (member (codes "text") (string t) no_members)) (plain_rest b t)
plain-rest true t = (
  codes "true",
  codes ", text = " ++ (string_text t ++ codes " }"),
  rw key-optional refl,
  refl,
  (string_text t, codes " }", rw key-text refl, refl, refl, refl),
  refl,
)
plain-rest false t = (string_text t, codes " }", rw key-text refl, refl, refl, refl)

digits-rest : (b : Bool) (t : List ℕ)
    → IsMembersText true false (member (codes "hex") (string t) (with_optional b no_members)) (digits_rest b t)
digits-rest true t = (
  string_text t,
  codes ", optional = true }",
  rw key-hex refl,
  refl,
  (codes "true", codes " }", rw key-optional refl, refl, refl, refl),
  refl,
)
digits-rest false t = (string_text t, codes " }", rw key-hex refl, refl, refl, refl)

-- the rest of a part, where it is plain text and where not
abbrev pub rest_by : Bool → Bool → List ℕ → Members
rest_by plain b bytes =
    if plain then with_optional b (member (codes "text") (string bytes) no_members)
    else member (codes "hex") (string (encode_lower bytes)) (with_optional b no_members)

rest-text : (plain b : Bool) (bytes : List ℕ)
    → IsMembersText true false (rest_by plain b bytes)
    (if plain then plain_rest b bytes else digits_rest b (encode_lower bytes))
rest-text true b bytes = plain-rest b bytes
rest-text false b bytes = digits-rest b (encode_lower bytes)

rest-after : (plain b : Bool) (bytes : List ℕ) → is_before (codes "device") (rest_by plain b bytes) ≡ true
rest-after true true bytes = refl
rest-after true false bytes = refl
rest-after false b bytes = refl

part-text : (p : Part) → p.device ≤ MAX_PORT → IsValueText true (table (part_members p)) (part_text p)
part-text p h = (
  codes " device = " ++ (decimal p.device ++ part_rest p),
  refl,
  (
    decimal p.device,
    part_rest p,
    rw key-device refl,
    (refl, fits p.device h),
    rest-text (is_plain p.bytes) p.optional p.bytes,
    rest-after (is_plain p.bytes) p.optional p.bytes,
  ),
)

abbrev parts_in_range : List Part → Bool
parts_in_range ps = list_all (λ p. is_device p.device) ps

device-fits : (n : ℕ) → is_device n ≡ true → n ≤ MAX_PORT
device-fits n h = grind (arith, nat_tests)

port-fits : (n : ℕ) → nat_le n MAX_PORT ≡ true → n ≤ MAX_PORT
port-fits n h = grind (arith, nat_tests)

-- two parts or more, a line each
items-lines : (is_first : Bool) (ps : List Part) → IsTrue (parts_in_range ps)
    → IsItemsText true true is_first (tables_of (map part_members ps)) (flat_map (part_item true) ps ++ array_end true)
items-lines is_first [] h = refl
items-lines is_first (p ∷ ps) h =
    let k = both (is_device p.device) (parts_in_range ps) h in
    let rest : List ℕ = flat_map (part_item true) ps ++ array_end true in
    (part_text p, rest, simp append_assoc refl, part-text p (device-fits p.device k.0), items-lines false ps k.1)

parts-text : (ps : List Part) → IsTrue (parts_in_range ps) → IsValueText true (parts_data ps) (parts_text ps)
parts-text [] h = (codes "]", refl, refl)
parts-text (p ∷ []) h =
    let k = both (is_device p.device) true h in (
      part_text p ++ codes "]",
      simp append_assoc refl,
      (
        part_text p,
        codes "]",
        refl,
        part-text p
            (device-fits p.device k.0),
        refl,
      ),
    )
parts-text (p ∷ q ∷ ps) h =
    (flat_map (part_item true) (p ∷ q ∷ ps) ++ array_end true, more (length ps), items-lines true (p ∷ q ∷ ps) h)
  where
    more : (n : ℕ) → parts_text (p ∷ q ∷ ps) ≡ codes "[" ++ (flat_map (part_item true) (p ∷ q ∷ ps) ++ array_end true)
    more n =
        let lines : has_lines (p ∷ q ∷ ps) ≡ true = grind (arith, nat_tests) in
        ap (λ (b : Bool). codes "[" ++ (flat_map (part_item b) (p ∷ q ∷ ps) ++ array_end b)) lines

-- ---- entries

abbrev device_in_range : DeviceEntry → Bool
device_in_range e = is_device e.number && nat_le e.port MAX_PORT

device-text : (e : DeviceEntry) → IsTrue (device_in_range e) → AreLines (lines_of_device e) (device_text e)
device-text e h =
    let k = both (is_device e.number) (nat_le e.port MAX_PORT) h in
    let number = number-line (codes "number") e.number key-number (device-fits e.number k.0) in
    let port = number-line (codes "port") e.port key-port (port-fits e.port k.1) in
    let number_text : List ℕ = codes "number = " ++ (decimal e.number ++ codes "\n") in
    let port_text : List ℕ = codes "port = " ++ (decimal e.port ++ codes "\n") in
    let name = text-lines (codes "name") e.name key-name in
    let same : codes "\n[[device]]\n" ++ (number_text ++ (port_text ++ text_line (codes "name") e.name)) ≡ device_text
    e = simp append_assoc refl in
    let all = then-lines (list_header (codes "device") ∷ [])
    (pair (codes "number") (integer (pos e.number)) ∷ pair (codes "port") (integer (pos e.port)) ∷ text_lines
    (codes "name") e.name) _ _ (header-line (codes "device") key-device)
    (then-lines (pair (codes "number") (integer (pos e.number)) ∷ [])
    (pair (codes "port") (integer (pos e.port)) ∷ text_lines (codes "name") e.name) _ _ number
    (then-lines (pair (codes "port") (integer (pos e.port)) ∷ []) (text_lines (codes "name") e.name) _ _ port name)) in
    rw same at all

signs-text : (e : CueEntry) → AreLines (signs_lines e.name e.note e.color e.flag) (signs_text e)
signs-text e =
    then-lines (text_lines (codes "name") e.name) _ _ _ (text-lines (codes "name") e.name key-name)
    (then-lines (text_lines (codes "note") e.note) _ _ _ (text-lines (codes "note") e.note key-note)
    (then-lines (color_lines e.color) (flag_lines e.flag) _ _ (color-lines e.color) (flag-lines e.flag)))

cue-text : (e : CueEntry) → IsTrue (parts_in_range e.parts) → AreLines (lines_of_cue e) (cue_text e)
cue-text e h =
    let number = pair-line (codes "number") (string_text e.number) (string e.number) key-number refl in
    let number_text : List ℕ = codes "number = " ++ (string_text e.number ++ codes "\n") in
    let parts = pair-line (codes "parts") (parts_text e.parts) (parts_data e.parts) key-parts (parts-text e.parts h) in
    let signs : List Expression = signs_lines e.name e.note e.color e.flag in
    let after : List Expression = pair (codes "parts") (parts_data e.parts) ∷ [] in
    let same : codes "\n[[cue]]\n" ++ (number_text ++ (signs_text e ++ parts_line e.parts)) ≡ cue_text e
    = simp append_assoc refl in
    let all = then-lines (list_header (codes "cue") ∷ [])
    (pair (codes "number") (string e.number) ∷ (signs ++ after)) _ _
    (header-line (codes "cue") key-cue)
    (then-lines (pair (codes "number") (string e.number) ∷ []) (signs ++ after) _ _ number
    (then-lines signs after _ _ (signs-text e) parts)) in
    rw same at all

port-text : (o : Option ℕ) → IsTrue (is_port_number o) → AreLines (port_lines o) (port_text o)
port-text None h = refl
port-text (Some port) h = number-line (codes "port") port key-port (port-fits port h)

pub file-text : (f : ShowFile) → IsTrue (has_numbers f) → AreLines (file_lines f) (file_text f)
file-text f h =
    let k = both (is_port_number f.port)
    (list_all device_in_range f.devices.items && list_all (λ (e : CueEntry). parts_in_range e.parts) f.cues.items)
    h in
    let m = both (list_all device_in_range f.devices.items)
    (list_all (λ (e : CueEntry). parts_in_range e.parts) f.cues.items) k.1 in
    then-lines (port_lines f.port) (flat_map lines_of_device f.devices.items ++ flat_map lines_of_cue f.cues.items)
    (port_text f.port) _ (port-text f.port k.0)
    (then-lines (flat_map lines_of_device f.devices.items) (flat_map lines_of_cue f.cues.items) _ _
    (each-lines lines_of_device device_text device_in_range device-text f.devices.items m.0)
    (each-lines lines_of_cue cue_text (λ (e : CueEntry). parts_in_range e.parts) cue-text f.cues.items m.1))

-- ---- what is nested in them

parts-depth : (ps : List Part) → items_depth (tables_of (map part_members ps)) ≤ 1
parts-depth [] = omega arith
parts-depth (p ∷ ps) = let more = parts-depth ps in at (is_plain p.bytes) p.optional more
  where
    at : (plain b : Bool) → items_depth (tables_of (map part_members ps)) ≤ 1
        → max (depth (table (member (codes "device") (integer (pos p.device)) (rest_by plain b p.bytes))))
        (items_depth (tables_of (map part_members ps))) ≤ 1
    at true true more = omega arith
    at true false more = omega arith
    at false true more = omega arith
    at false false more = omega arith

parts-dates : (ps : List Part) → items_have_valid_dates (tables_of (map part_members ps)) ≡ true
parts-dates [] = refl
parts-dates (p ∷ ps) = at (is_plain p.bytes) p.optional (parts-dates ps)
  where
    at : (plain b : Bool) → items_have_valid_dates (tables_of (map part_members ps)) ≡ true
        → (has_valid_dates (table (member (codes "device") (integer (pos p.device)) (rest_by plain b p.bytes)))
        && items_have_valid_dates (tables_of (map part_members ps))) ≡ true
    at true true more = more
    at true false more = more
    at false true more = more
    at false false more = more

printed-append : (es fs : List Expression) → AllPrinted es → AllPrinted fs → AllPrinted (es ++ fs)
printed-append [] fs a b = b
printed-append (e ∷ es) fs a b = (a.0, printed-append es fs a.1 b)

printed-each : {A : Type 0} (lines : A → List Expression) → ((x : A) → AllPrinted (lines x)) → (xs : List A)
    → AllPrinted (flat_map lines xs)
printed-each lines each [] = tt
printed-each lines each (x ∷ xs) = printed-append (lines x) (flat_map lines xs) (each x) (printed-each lines each xs)

printed-text : (k : List ℕ) (o : Option (String Global)) → AllPrinted (text_lines k o)
printed-text k None = tt
printed-text k (Some t) = ((refl, omega arith, refl), tt)

printed-color : (o : Option Color) → AllPrinted (color_lines o)
printed-color None = tt
printed-color (Some c) = ((refl, omega arith, refl), tt)

printed-flag : (o : Option Flag) → AllPrinted (flag_lines o)
printed-flag None = tt
printed-flag (Some f) = ((refl, omega arith, refl), tt)

printed-signs : (e : CueEntry) → AllPrinted (signs_lines e.name e.note e.color e.flag)
printed-signs e =
    printed-append (text_lines (codes "name") e.name) _ (printed-text (codes "name") e.name)
    (printed-append (text_lines (codes "note") e.note) _ (printed-text (codes "note") e.note)
    (printed-append (color_lines e.color) (flag_lines e.flag) (printed-color e.color) (printed-flag e.flag)))

printed-device : (e : DeviceEntry) → AllPrinted (lines_of_device e)
printed-device e = (
  omega arith,
  ((refl, omega arith, refl), ((refl, omega arith, refl), printed-text (codes "name") e.name)),
)

printed-cue : (e : CueEntry) → AllPrinted (lines_of_cue e)
printed-cue e =
    let deep = parts-depth e.parts in
    let parts : AllPrinted (pair (codes "parts") (parts_data e.parts) ∷ []) =
    ((refl, omega arith, parts-dates e.parts), tt) in (
      omega arith,
      (
        (refl, omega arith, refl),
        printed-append (signs_lines e.name e.note e.color e.flag) _ (printed-signs e) parts,
      ),
    )

printed-port : (o : Option ℕ) → AllPrinted (port_lines o)
printed-port None = tt
printed-port (Some port) = ((refl, omega arith, refl), tt)

pub printed-file : (f : ShowFile) → AllPrinted (file_lines f)
printed-file f =
    printed-append (port_lines f.port) _ (printed-port f.port)
    (printed-append (flat_map lines_of_device f.devices.items) _
    (printed-each lines_of_device printed-device f.devices.items)
    (printed-each lines_of_cue printed-cue f.cues.items))
