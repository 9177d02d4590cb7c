-- What stands at the front of a command's bytes is what was written there.
use Rattle.std.proofs.Common.{◌≡◌, ℕ, ◌^◌, ◌≤◌, true, false, ◌==◌, List, [], ◌∷◌, ◌++◌, length}
use Rattle.std.proofs.Common.{IsTrue, Ok, refl, sym, ap, subst, ◌∙◌, arith}
use Rattle.std.specs.Int.{w32, to_be_bytes}
use Rattle.std.proofs.lemmas.Bool.{eqb-true}
use Rattle.cue_osc.specs.Spelling.{osc_blob, osc_string}
use Rattle.cue_osc.specs.Reading.{blob_at, number_at, string_at}
use Rattle.cue_osc.proofs.FieldLemmas.{IsBytes, IsBytes-rest, ok_is, number_takes, wide32, string_takes, string_again}
use Rattle.cue_osc.proofs.FieldLemmas.{blob_takes, blob_again}
use Rattle.cue_show.specs.Number.{is_cue_number}
use Rattle.cue_show.specs.declared.limits.TheConstants.{MAX_PART_BYTES}
use Rattle.cue_show.proofs.NumberLemmas.{number_text}
use Rattle.cue_device.specs.declared.asked.Task.{Task}
use Rattle.cue_device.specs.Datagrams.{IsTask}

-- ---- numbers

-- two numbers that are read stand there
pub two_numbers : (bytes behind rest : List ℕ) (q d e : ℕ) → IsBytes bytes → number_at w32 bytes ≡ Ok (q, behind)
    → number_at w32 behind ≡ Ok (e, rest) → e ≡ d
    → bytes ≡ to_be_bytes w32 q ++ (to_be_bytes w32 d ++ rest)
two_numbers bytes behind rest q d e fits first second same =
    let a = number_takes w32 (2 ^ 32) wide32 bytes q behind fits first in
    let b = number_takes w32 (2 ^ 32) wide32 behind e rest (IsBytes-rest bytes (to_be_bytes w32 q) behind a.0 fits)
    second in
    a.0 ∙ ap (λ (x : List ℕ). to_be_bytes w32 q ++ x) (b.0 ∙ ap (λ (n : ℕ). to_be_bytes w32 n ++ rest) same)

-- ---- tasks

-- the bytes of a task
abbrev pub task_text : Task → List ℕ
task_text t = osc_string t.cue ++ (osc_blob t.bytes ++ [])

-- its cue is read
pub cue_read : (bytes : List ℕ) (t : Task) → IsTask t → bytes ≡ task_text t
    → string_at bytes ≡ Ok (t.cue, osc_blob t.bytes ++ [])
cue_read bytes t h e = ap string_at e ∙ string_again t.cue (osc_blob t.bytes ++ []) (number_text t.cue h.cue)

-- and its bytes
pub bytes_read : (t : Task) → IsTask t → blob_at (osc_blob t.bytes ++ []) ≡ Ok (t.bytes, [])
bytes_read t h = blob_again t.bytes [] (omega (arith, h.short))

-- what was read of a task is its cue
pub cue_is : (bytes cue rest : List ℕ) (t : Task) → IsTask t → bytes ≡ task_text t → string_at bytes ≡ Ok (cue, rest)
    → (cue ≡ t.cue) × (rest ≡ osc_blob t.bytes ++ [])
cue_is bytes cue rest t h e read =
    let same : (cue, rest) ≡ (t.cue, osc_blob t.bytes ++ []) =
    ok_is (cue, rest) (t.cue, osc_blob t.bytes ++ []) (sym read ∙ cue_read bytes t h e) in
    (ap (λ (x : List ℕ × List ℕ). x.0) same, ap (λ (x : List ℕ × List ℕ). x.1) same)

-- and its bytes, and nothing after them
pub bytes_are : (rest kept left : List ℕ) (t : Task) → IsTask t → rest ≡ osc_blob t.bytes ++ []
    → blob_at rest ≡ Ok (kept, left) → (kept ≡ t.bytes) × (left ≡ [])
bytes_are rest kept left t h e read =
    let back : blob_at rest ≡ Ok (t.bytes, []) = ap blob_at e ∙ bytes_read t h in
    let same : (kept, left) ≡ (t.bytes, []) = ok_is (kept, left) (t.bytes, []) (sym read ∙ back) in
    (ap (λ (x : List ℕ × List ℕ). x.0) same, ap (λ (x : List ℕ × List ℕ). x.1) same)

-- both
pub task_is : (bytes cue rest kept left : List ℕ) (t : Task) → IsTask t → bytes ≡ task_text t
    → string_at bytes ≡ Ok (cue, rest) → blob_at rest ≡ Ok (kept, left)
    → (cue ≡ t.cue) × (kept ≡ t.bytes) × (left ≡ [])
task_is bytes cue rest kept left t h e first second =
    let a = cue_is bytes cue rest t h e first in
    let b = bytes_are rest kept left t h a.1 second in
    (a.0, b.0, b.1)

-- what is read is what was written
pub task_takes : (bytes cue rest kept left : List ℕ) → IsBytes bytes → string_at bytes ≡ Ok (cue, rest)
    → blob_at rest ≡ Ok (kept, left) → left ≡ []
    → bytes ≡ osc_string cue ++ (osc_blob kept ++ [])
task_takes bytes cue rest kept left fits first second none =
    let a = string_takes bytes cue rest first in
    let b = blob_takes rest kept left (IsBytes-rest bytes (osc_string cue) rest a.0 fits) second in
    a.0 ∙ ap (λ (x : List ℕ). osc_string cue ++ x) (b.0 ∙ ap (λ (x : List ℕ). osc_blob kept ++ x) none)

-- what is left after a task is none
pub nothing_left : (left : List ℕ) → false ≡ (length left == 0) → left ≡ [] → ⊥
nothing_left left h e =
    let g : false ≡ true = subst (λ (x : List ℕ). false ≡ (length x == 0)) e h in
    absurd cc

-- a text that is no cue number is that of no task
pub no_cue : (cue text : List ℕ) → is_cue_number cue ≡ false → cue ≡ text → IsTrue (is_cue_number text) → ⊥
no_cue cue text h e number =
    let g : is_cue_number text ≡ false = ap is_cue_number (sym e) ∙ h in
    absurd cc

-- where nothing is left, it is the empty list
pub empty_is : (left : List ℕ) → true ≡ (length left == 0) → left ≡ []
empty_is [] h = refl
empty_is (b ∷ bs) h = let n : length (b ∷ bs) ≡ 0 = eqb-true (length (b ∷ bs)) 0 (sym h) in absurd (omega (arith, n))

-- what was found is a task, and stands there
pub found_task : (bytes text kept cue part : List ℕ) → bytes ≡ osc_string text ++ (osc_blob kept ++ [])
    → (cue ≡ text) × IsTrue (is_cue_number text) → (part ≡ kept) × (length kept ≤ MAX_PART_BYTES)
    → let t : Task = record { cue = cue; bytes = part } in (bytes ≡ task_text t) × IsTask t
found_task bytes text kept cue part e number short = (
  e ∙ ap (λ (x : List ℕ). osc_string x ++ (osc_blob kept ++ [])) (sym number.0)
      ∙ ap (λ (x : List ℕ). osc_string cue ++ (osc_blob x ++ [])) (sym short.0),
  record {
    cue = subst (λ (x : List ℕ). IsTrue (is_cue_number x)) (sym number.0) number.1;
    short = subst (λ (x : List ℕ). length x ≤ MAX_PART_BYTES) (sym short.0) short.1;
  },
)
