-- What a datagram gives fits one record.
use Rattle.std.proofs.Common.{◌≡◌, ℕ, ◌≤◌, Result, Ok, Err, subst, false, nat_lt, List, [], length, sym, arith}
use Rattle.std.specs.Prelude.{IfOk}
use Rattle.std.proofs.lemmas.Bool.Decides.{nat_tests}
use Rattle.cue_core.specs.State.{ShowState}
use Rattle.cue_records.specs.Batch.{batch_text}
use Rattle.cue_engine.specs.declared.limits.TheConstants.{MAX_COMMANDS, MAX_BATCH}
use Rattle.cue_engine.specs.declared.heard.Heard.{Heard}
use Rattle.cue_engine.specs.Heard.{hear_all, all_events, all_commands}
use Rattle.cue_engine.specs.Heard as heard
use Rattle.cue_engine.specs.Given.{given_of, datagram}
use Rattle.cue_engine.specs.Hearing.{Gives}
use Rattle.cue_engine.specs.Takes.{FitsRecord}
use Rattle.cue_core.proofs.lists.ConditionLemmas.{neither}
use Rattle.cue_engine.proofs.InputLemmas.{datagram_case}
use Rattle.cue_engine.proofs.FewLemmas.{few_in_all}

none_fits : FitsRecord []
none_fits = record { most = omega arith; short = omega arith }

at_most : (m n : ℕ) → nat_lt m n ≡ false → n ≤ m
at_most m n h = grind (arith, nat_tests)

given_fits : (s : ShowState) (now from : ℕ) (bytes : List ℕ) → FitsRecord (given_of s now (datagram from bytes)).batch
given_fits s now from bytes =
    datagram_case (λ g. FitsRecord g.batch) s now from bytes (λ why. none_fits) (λ ms few.
    let hs : List heard.Heard = hear_all s now from ms in
    let text : ℕ = length (batch_text (all_events hs)) in
    let low = neither (nat_lt MAX_COMMANDS (all_commands hs)) (nat_lt MAX_BATCH text) few in
    let commands = at_most MAX_COMMANDS (all_commands hs) low.0 in
    record { most = omega (arith, few_in_all s now from ms, commands); short = at_most MAX_BATCH text low.1 })

pub heard_fits : {E : Type 0} (s : ShowState) (now from : ℕ) (bytes : List ℕ) (r : Result Heard E)
    → IfOk r (Gives (given_of s now (datagram from bytes))) → IfOk r (λ (h : Heard). FitsRecord h.batch.items)
heard_fits s now from bytes (Ok h) g = subst FitsRecord (sym g.batch) (given_fits s now from bytes)
heard_fits s now from bytes (Err e) g = g
