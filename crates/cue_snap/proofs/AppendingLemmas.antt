-- Records are given to a pair: what the log did to its disk is what the pair did.
use Rattle.std.proofs.Common.{◌≡◌, inl, inr, refl, ℕ, ◌<◌, ◌≤◌, Bool, true, false, List, [], length, Result, Ok, Err}
use Rattle.std.proofs.Common.{sym, ◌∙◌, ap, subst, arith}
use Rattle.std.proofs.lemmas.Bool.{cases_lt, both_ways}
use Rattle.std.specs.Prelude.{IsTrue, ◌↔◌}
use Rattle.cue_disk.specs.declared.disk.Disk.{Ghosts}
use Rattle.cue_disk.specs.Disk.{IsImage, LeavesAtEachMoment}
use Rattle.cue_disk.proofs.MomentLemmas.{started, weaker}
use Rattle.cue_log.specs.declared.log.AppendFault.{AppendFault}
use Rattle.cue_log.specs.declared.log.AppendFault.TheVariants as fault
use Rattle.cue_log.specs.Area.{Area, room_of, with_payloads}
use Rattle.cue_log.proofs.AddingLemmas.{with_none}
use Rattle.cue_log.specs.Log.{IsEither}
use Rattle.cue_log.specs.Observed as log
use Rattle.cue_log.specs.Appending as log_appending
use Rattle.cue_snap.specs.declared.snap.Snap.{Snap}
use Rattle.cue_snap.specs.Pair.{PairIsEither, PairLeaves}
use Rattle.cue_snap.specs.Observed.{live_of, spare_of, is_first_live, generation_of, is_broken, live_area_of}
use Rattle.cue_snap.specs.Appending.{Appends, LacksRoom}
use Rattle.cue_snap.proofs.PairLemmas.{older_of, either_reads, pair_leaves}

-- a test that failed
pub too_long : (fits : Bool) (n most : ℕ) → IsTrue fits ↔ (n ≤ most) → fits ≡ false → most < n
too_long fits n most test failed = elim (cases_lt most n) [
  | inl longer ↦ longer
  | inr within ↦ absurd (both_ways fits failed (test.1 within))
]

-- and one that did not
pub not_too_long : (fits : Bool) (n most : ℕ) → IsTrue fits ↔ (n ≤ most) → fits ≡ true → most < n → ⊥
not_too_long fits n most test passed longer = let within : n ≤ most = test.0 passed in omega (arith, within, longer)

module _ {D : Type 0} {disk : Ghosts D} (payloads : List (List ℕ)) (old : Snap D disk) (works : is_broken old ≡ false)
  where
    abbrev Unit0 : Type 0
    Unit0 = Unit {0}

    abbrev before : Area
    before = live_area_of disk.held old

    abbrev after : Area
    after = with_payloads before payloads

    -- one of the two areas, beside what is left of the spare disk
    either : disk.is_honest (live_of old) → disk.is_honest (spare_of old) → (y : List ℕ)
        → IsImage (disk.held (spare_of old)) y → (x : List ℕ) → IsEither before after x → PairIsEither before after x y
    either live spare y left x is =
        either_reads before after (generation_of old) x y (old.numbered live works) (old.numbered live works)
        (older_of (disk.held (spare_of old)) (generation_of old) (old.older spare works) y left) is

    -- No call was made.
    module _ (now : disk.is_honest (live_of old)
        → disk.held_at (live_of old) (disk.moment (live_of old)) ≡ disk.held (live_of old)) where
      still : disk.is_honest (live_of old) → disk.is_honest (spare_of old) → (y : List ℕ)
          → IsImage (disk.held (spare_of old)) y
          → LeavesAtEachMoment disk.moment disk.held_at (live_of old) (live_of old) (λ x. PairIsEither before after x y)
      still live spare y left =
          started disk.moment disk.held_at (live_of old) (disk.held (live_of old)) (λ x. PairIsEither before after x y)
          (now live)
          (λ x left_x. either live spare y left x (inl (old.reads live works x left_x)))

      -- There is no room for all of them.
      pub no_room : LacksRoom old payloads → Appends {T = Unit0} payloads (Err fault.Full) old old
      no_room lacks = record {
        cause = (works, lacks);
        after = refl;
        broken = λ is. absurd (both_ways (is_broken old) works is);
        full = λ _ _. refl;
        quiet = λ _. refl;
        appended = λ _ _. tt;
        area = λ _. tt;
        works = tt;
        count = tt;
        end = tt;
        generation = refl;
        bytes = λ _ _. tt;
        spare = refl;
        sides = refl;
        any_moment = λ live spare _. still live spare;
        failures = omega arith;
        honest = (λ honest. honest, λ honest. honest);
      }

      -- There is nothing to add.
      pub nothing_added : payloads ≡ [] → Appends {T = Unit0} payloads (Ok tt) old old
      nothing_added none =
          let same : before ≡ after = with_none before payloads none in
          record {
            cause = tt;
            after = tt;
            broken = λ is. absurd (both_ways (is_broken old) works is);
            full = λ _ lacks. absurd (omega (arith, old.log.fits, lacks, ap room_of none));
            quiet = λ _. refl;
            appended = λ live spare.
                subst (λ (a : Area). PairLeaves (disk.held (live_of old)) (disk.held (spare_of old)) a) same
                (pair_leaves (disk.held (live_of old)) (disk.held (spare_of old)) before (generation_of old)
                (old.reads live works) (old.numbered live works) (old.older spare works));
            area = λ _. same;
            works = works;
            count = omega (arith, ap length none);
            end = omega (arith, ap room_of none);
            generation = refl;
            bytes = λ some. absurd (omega (arith, some, ap length none));
            spare = refl;
            sides = refl;
            any_moment = λ live spare _. still live spare;
            failures = omega arith;
            honest = (λ honest. honest, λ honest. honest);
          }

    -- The log took them, and the pair is broken where the log is.
    module _ (new : Snap D disk) (spare_is : spare_of new ≡ spare_of old)
        (sides : is_first_live new ≡ is_first_live old) (broken_is : is_broken new ≡ log.is_broken new.log)
        (some : payloads ≡ [] → ⊥) (room : LacksRoom old payloads → ⊥) where
      moves : {T : Type 0} (result : Result T AppendFault) → log_appending.Appends payloads result old.log new.log
          → disk.is_honest (live_of old) → disk.is_honest (spare_of old) → is_broken old ≡ false → (y : List ℕ)
          → IsImage (disk.held (spare_of old)) y
          → LeavesAtEachMoment disk.moment disk.held_at (live_of old) (live_of new) (λ x. PairIsEither before after x y)
      moves result appends live spare _ y left =
          weaker disk.moment disk.held_at (live_of old) (live_of new) (IsEither before after)
          (λ x. PairIsEither before after x y) (either live spare y left) (appends.any_moment live (old.works works))

      pub handed_on : {T : Type 0} (result : Result T AppendFault)
          → log_appending.Appends payloads result old.log new.log → Appends payloads result old new
      handed_on (Ok done) appends = record {
        cause = tt;
        after = tt;
        broken = λ is. absurd (both_ways (is_broken old) works is);
        full = λ _ lacks. absurd (room lacks);
        quiet = λ none. absurd (some none);
        appended = λ live spare.
            subst (λ (d : D). PairLeaves (disk.held (live_of new)) (disk.held d) after) (sym spare_is)
            (pair_leaves (disk.held (live_of new)) (disk.held (spare_of old)) after (generation_of old)
            (appends.appended live) (old.numbered live works) (old.older spare works));
        area = appends.area;
        works = broken_is ∙ appends.works;
        count = appends.count;
        end = appends.end;
        generation = appends.generation;
        bytes = appends.bytes;
        spare = spare_is;
        sides = sides;
        any_moment = moves (Ok done) appends;
        failures = appends.failures;
        honest = appends.honest;
      }
      handed_on (Err fault.Broken) appends = absurd (both_ways (log.is_broken old.log) (old.works works) appends.cause)
      handed_on (Err fault.Full) appends = absurd (room appends.cause.1)
      handed_on (Err fault.Disk) appends = record {
        cause = (works, appends.cause.1);
        after = (broken_is ∙ appends.after.0, appends.after.1, appends.after.2);
        broken = λ is. absurd (both_ways (is_broken old) works is);
        full = λ _ lacks. absurd (room lacks);
        quiet = λ none. absurd (some none);
        appended = λ _ _. tt;
        area = λ _. tt;
        works = tt;
        count = tt;
        end = tt;
        generation = appends.generation;
        bytes = λ _ _. tt;
        spare = spare_is;
        sides = sides;
        any_moment = moves (Err fault.Disk) appends;
        failures = appends.failures;
        honest = appends.honest;
      }
