-- What a settled disk reads as, whatever a crash leaves of it.
use Rattle.std.proofs.Common.{◌≡◌, ◌∙◌, ap, List, ℕ, length, sym, subst, Result, Ok, Err}
use Rattle.std.specs.Prelude.{OnOk, IsErr, ◌≤◌}
use Rattle.cue_disk.specs.Disk.{Contents, IsStable, MoreFailures, CountsFailure}
use Rattle.cue_disk.proofs.CrashLemmas.{image_stable}
use Rattle.cue_log.specs.Area.{Area, IsArea, area_text}
use Rattle.cue_log.specs.Reading.{area_in}
use Rattle.cue_log.specs.Log.{IsSettled, IsNumbered, ReadsAs}
use Rattle.cue_log.proofs.CompleteLemmas.{area_in_is}

-- Whatever a crash leaves of it reads as its area.
pub settled_reads : (held : Contents) (end : ℕ) → IsSettled held end → ReadsAs held (area_in held.bytes)
settled_reads held end settled image left = subst (λ (bytes : List ℕ). IsArea (area_in held.bytes) bytes)
    (sym (image_stable held image settled.stable left)) settled.is

-- what holds anyway holds at `Ok`
pub at_ok : {T E : Type 0} {P : Type 0} (result : Result T E) → P → OnOk result P
at_ok (Ok value) holds = holds
at_ok (Err fault) holds = tt

-- where nothing is `Ok`, all that would hold then does
pub at_err : {T E : Type 0} (P : Type 0) (result : Result T E) → IsErr result → OnOk result P
at_err P (Ok value) failed = absurd (cc (failed))
at_err P (Err fault) failed = tt

-- a failure that is counted
pub counts_at_err : {T E : Type 0} (result : Result T E) (old new : ℕ) → IsErr result
    → MoreFailures old new × (old ≤ new) → CountsFailure result old new
counts_at_err (Ok value) old new failed more = absurd (cc (failed))
counts_at_err (Err fault) old new failed more = more

-- what follows from what holds at `Ok`
pub if_ok : {T E : Type 0} {P Q : Type 0} (result : Result T E) → (P → Q) → OnOk result P → OnOk result Q
if_ok (Ok value) follows holds = follows holds
if_ok (Err fault) follows holds = tt

-- The same, where the area is known by another name.
pub reads_as : (held : Contents) (end : ℕ) (area : Area) → IsSettled held end → area_in held.bytes ≡ area
    → ReadsAs held area
reads_as held end area settled same image left =
    subst (λ (a : Area). IsArea a image) same (settled_reads held end settled image left)

-- A stable disk whose bytes read as an area is settled.
pub settled_on : (held : Contents) (area : Area) (end : ℕ) → IsArea area held.bytes → IsStable held
    → end ≡ length (area_text area) → IsSettled held end
settled_on held area end is stable ends =
    let same : area_in held.bytes ≡ area = area_in_is area held.bytes is in
    record {
      is = subst (λ (a : Area). IsArea a held.bytes) (sym same) is;
      stable = stable;
      same_end = ends ∙ ap (λ (a : Area). length (area_text a)) (sym same);
    }

-- and its numbers are the area's
pub counted_on : (held : Contents) (area : Area) → IsArea area held.bytes
    → IsNumbered held area.generation (length area.payloads)
counted_on held area is =
    let same : area ≡ area_in held.bytes = sym (area_in_is area held.bytes is) in
    record {
      same_generation = ap (λ (a : Area). a.generation) same;
      same_count =
          ap (λ (a : Area). length a.payloads) same;
    }

-- whatever a crash leaves of it reads as that area
pub stable_reads : (held : Contents) (area : Area) → IsArea area held.bytes → IsStable held → ReadsAs held area
stable_reads held area is stable image left =
    subst (λ (l : List ℕ). IsArea area l) (sym (image_stable held image stable left)) is
