-- Lists within a line are taken apart as they were put together.
use Rattle.std.proofs.Common.{◌≡◌, ◌∙◌, ℕ, Bool, true, false, List, [], ◌∷◌, ◌++◌, codes, Option, Some, None, refl, ap, sym, append_assoc, nat_eq}
use Rattle.std.specs.Char.{is_ascii_digit}
use Rattle.std.specs.Prelude.{decimal}
use Rattle.std.specs.List.{flat_map}
use Rattle.cue_show.specs.DeviceNumber.{is_device}
use Rattle.cue_log_lines.specs.declared.listed.Cause.{Cause}
use Rattle.cue_log_lines.specs.declared.listed.Cause.TheVariants as cause
use Rattle.cue_log_lines.specs.declared.listed.Failure.{Failure}
use Rattle.cue_log_lines.specs.Listed.{FailuresAreReadBack, cause_at, cause_words, failure_at, failure_text, failures_text}
use Rattle.cue_log_lines.specs.Pieces.{after}
use Rattle.cue_log_lines.proofs.PieceLemmas.{after-words, device_at-decimal, starts}

cause-is : (c : Cause) (rest : List ℕ) → cause_at (cause_words c ++ rest) ≡ Some (c, rest)
unfolding cause_at after
cause-is cause.Aborted rest = refl
cause-is cause.Released rest = refl
cause-is cause.Unseen rest = refl

cause-stops : (c : Cause) (rest : List ℕ) → starts is_ascii_digit (cause_words c ++ rest) ≡ false
cause-stops cause.Aborted rest = refl
cause-stops cause.Released rest = refl
cause-stops cause.Unseen rest = refl

pub failures-are-read-back : FailuresAreReadBack
unfolding failure_at failure_text
failures-are-read-back f others device =
    ap (λ x. failure_at (codes ", device " ++ x)) (append_assoc (decimal f.device) (cause_words f.cause) (failures_text others))
    ∙ rw (
      after-words (codes ", device ") (decimal f.device ++ (cause_words f.cause ++ failures_text others)),
      device_at-decimal f.device (cause_words f.cause ++ failures_text others) device (cause-stops f.cause (failures_text others)),
      cause-is f.cause (failures_text others),
    ) refl
