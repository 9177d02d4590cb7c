-- How a load ends, and what was refused.
use Rattle.std.proofs.Common.{◌≡◌, ◌≢◌, Bool, true, false, not, List, [], ◌∷◌}
use Rattle.std.proofs.Common.{Some, None, refl, arith}
use Rattle.cue_desk.specs.declared.answered.Answered.{Answered}
use Rattle.cue_desk.specs.declared.answered.Answered.TheVariants as answered
use Rattle.cue_load_machine.specs.Counts.{counted, nothing, one_more, with_answers}
use Rattle.cue_load_machine.specs.declared.becoming.Became.TheVariants as became
use Rattle.cue_load_machine.specs.declared.becoming.Counts.{Counts}
use Rattle.cue_load_machine.specs.declared.stage.LoadEnd.TheVariants as end
use Rattle.cue_loading.specs.Loaded.{is_same}
use Rattle.cue_load_words.specs.Endings.{ending_of, some_refused}
use Rattle.cue_load_words.specs.Laws.{DoneIsLoaded, RefusedIsCounted, RefusedIsNamed, SilenceIsNoSuccess}

done_by : (r d : Bool) → ending_of r (not d) ≡ None → (r ≡ false) × (d ≡ true)
done_by true d e = cc
done_by false true e = (refl, refl)
done_by false false e = cc

pub done-is-loaded : DoneIsLoaded
done-is-loaded file stored r e = done_by r (is_same file stored) e

pub silence-is-no-success : SilenceIsNoSuccess
silence-is-no-success (Some end.Done) e = refl
silence-is-no-success (Some (end.Refused place code)) e = cc
silence-is-no-success (Some (end.Silent place)) e = cc
silence-is-no-success (Some (end.Nobody place)) e = cc
silence-is-no-success (Some end.NotKept) e = cc
silence-is-no-success None e = cc

pub refused-is-named : RefusedIsNamed
refused-is-named [] [] same some e = cc
refused-is-named [] (a ∷ more) same some e = absurd (omega (arith, same))
refused-is-named (x ∷ xs) [] same some e = absurd (omega (arith, same))
refused-is-named (x ∷ xs) (answered.Refused code ∷ more) same some e = cc
refused-is-named (x ∷ xs) (answered.Made ∷ more) same some e =
    refused-is-named xs more (omega (arith, same)) some e
refused-is-named (x ∷ xs) (answered.Known ∷ more) same some e =
    refused-is-named xs more (omega (arith, same)) some e

-- a number that is counted up is never 0 again
stays : (c : Counts) (answers : List Answered) → (with_answers c answers).refused ≡ 0 → c.refused ≡ 0
stays c [] e = e
stays c (answered.Made ∷ more) e = stays (counted became.New c) more e
stays c (answered.Known ∷ more) e = stays (counted became.Known c) more e
stays c (answered.Refused code ∷ more) e =
    let one : one_more c.refused ≡ 0 = stays (counted (became.Refused code) c) more e in absurd (omega (arith, one))

is_counted : (c : Counts) (answers : List Answered) → some_refused answers ≡ true
    → (with_answers c answers).refused ≢ 0
is_counted c [] some e = cc
is_counted c (answered.Made ∷ more) some e = is_counted (counted became.New c) more some e
is_counted c (answered.Known ∷ more) some e = is_counted (counted became.Known c) more some e
is_counted c (answered.Refused code ∷ more) some e =
    let one : one_more c.refused ≡ 0 = stays (counted (became.Refused code) c) more e in absurd (omega (arith, one))

pub refused-is-counted : RefusedIsCounted
refused-is-counted answers some = is_counted nothing answers some
