-- Records are given to a log: none of them, or more than it has room for, or a failure, or all of them.
use Rattle.std.proofs.Common.{◌≡◌, inl, refl, ℕ, false, List, [], ◌∷◌, ◌++◌, length, Ok, Err, sym, ◌∙◌, ap, subst}
use Rattle.std.proofs.Common.{arith}
use Rattle.std.proofs.lemmas.Bool.{both_ways}
use Rattle.std.proofs.lemmas.List.{append-nil}
use Rattle.cue_disk.specs.declared.disk.Disk.{Ghosts}
use Rattle.cue_disk.proofs.MomentLemmas.{started}
use Rattle.cue_log.specs.declared.log.AppendFault.TheVariants as fault
use Rattle.cue_log.specs.declared.log.Log.{Log}
use Rattle.cue_log.specs.Area.{Area, IsArea, room_of, with_payloads}
use Rattle.cue_log.specs.Log.{IsEither}
use Rattle.cue_log.specs.Observed.{disk_of, is_broken, area_of}
use Rattle.cue_log.specs.Appending.{Appends, LacksRoom}
use Rattle.cue_log.proofs.SettledLemmas.{settled_reads}

-- a count of none
pub none_counted : (payloads : List (List ℕ)) → length payloads ≡ 0 → payloads ≡ []
none_counted [] none = refl
none_counted (payload ∷ payloads) none = absurd (omega (arith, none))

-- a count of some
pub some_counted : (payloads : List (List ℕ)) (P : Type 0) → (length payloads ≡ 0 → ⊥) → payloads ≡ [] → P
some_counted payloads P some none = absurd (some (ap length none))

-- no record more
pub with_none : (area : Area) (payloads : List (List ℕ)) → payloads ≡ [] → area ≡ with_payloads area payloads
with_none area payloads none = λ i. record {
  generation = area.generation;
  snapshot = area.snapshot;
  payloads = (sym (append-nil area.payloads) ∙ ap (λ (l : List (List ℕ)). area.payloads ++ l) (sym none)) i;
}

module _ {D : Type 0} {disk : Ghosts D} (payloads : List (List ℕ)) (log : Log D disk) (works : is_broken log ≡ false)
    (now : disk.is_honest (disk_of log)
    → disk.held_at (disk_of log) (disk.moment (disk_of log)) ≡ disk.held (disk_of log)) where
  abbrev Unit0 : Type 0
  Unit0 = Unit {0}

  -- There is nothing to add.
  pub nothing_added : payloads ≡ [] → Appends {T = Unit0} payloads (Ok tt) log log
  nothing_added none =
      let same : area_of disk.held log ≡ with_payloads (area_of disk.held log) payloads =
      with_none (area_of disk.held log) payloads none in
      record {
        cause = tt;
        after = tt;
        broken = λ is. absurd (both_ways (is_broken log) works is);
        full = λ _ lacks. absurd (omega (arith, log.fits, lacks, ap room_of none));
        quiet = λ _. refl;
        appended = λ honest image left. subst (λ (a : Area). IsArea a image) same
            (settled_reads (disk.held (disk_of log)) _ (log.settled honest works) image left);
        area = λ _. same;
        works = works;
        count = omega (arith, ap length none);
        end = omega (arith, ap room_of none);
        generation = refl;
        bytes = λ some. absurd (omega (arith, some, ap length none));
        any_moment = λ honest _.
            started disk.moment disk.held_at (disk_of log) (disk.held (disk_of log))
            (IsEither (area_of disk.held log) (with_payloads (area_of disk.held log) payloads)) (now honest)
            (λ image left. inl (settled_reads (disk.held (disk_of log)) _ (log.settled honest works) image left));
        failures = omega arith;
        honest = (λ honest. honest, λ honest. honest);
      }

  -- There is no room for all of them.
  pub no_room : LacksRoom log payloads → Appends {T = Unit0} payloads (Err fault.Full) log log
  no_room lacks = record {
    cause = (works, lacks);
    after = refl;
    broken = λ is. absurd (both_ways (is_broken log) works is);
    full = λ _ _. refl;
    quiet = λ _. refl;
    appended = λ _. tt;
    area = λ _. tt;
    works = tt;
    count = tt;
    end = tt;
    generation = refl;
    bytes = λ _ _. tt;
    any_moment = λ honest _.
        started disk.moment disk.held_at (disk_of log) (disk.held (disk_of log))
        (IsEither (area_of disk.held log) (with_payloads (area_of disk.held log) payloads)) (now honest)
        (λ image left. inl (settled_reads (disk.held (disk_of log)) _ (log.settled honest works) image left));
    failures = omega arith;
    honest = (λ honest. honest, λ honest. honest);
  }
