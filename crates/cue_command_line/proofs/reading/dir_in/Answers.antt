use Rattle.std.proofs.Common.{◌≡◌, ◌∙◌, Some, codes, sym, ap}
use Rattle.std.specs.Prelude.{option_map}
use Rattle.clap.specs.Words.{found_of}
use Rattle.clap.proofs.WalkLemmas.{first_value-rows}
use Rattle.cue_command_line.proofs.reading.dir_in.Goals as goal

pub returns-in_ok-from_str-in-Some-clause-dir : goal.returns-in_ok-from_str-in-Some-clause-dir
returns-in_ok-from_str-in-Some-clause-dir c =
    let read : option_map (λ s. s.now) c.get_str.result ≡ _ = c.get_str.ensures in
    let found : Some c.in-Some.dir.now ≡ _ = ap (option_map (λ s. s.now)) (sym c.in-Some.is) ∙ read in
    sym (found ∙ first_value-rows (found_of c.args.found.now) (codes "DIR"))
    ∙ ap Some (sym c.in_ok-from_str-in-Some.ensures.ok)

pub returns-in-None-clause-usage : goal.returns-in-None-clause-usage
returns-in-None-clause-usage c = λ h.
    let read : option_map (λ s. s.now) c.get_str.result ≡ _ = c.get_str.ensures in
    sym (first_value-rows (found_of c.args.found.now) (codes "DIR"))
    ∙ (sym read ∙ ap (option_map (λ s. s.now)) c.in-None.is)
