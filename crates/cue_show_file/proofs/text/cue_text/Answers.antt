use Rattle.std.proofs.Common.{subst, sym}
use Rattle.std.specs.Str.{IsUtf8}
use Rattle.cue_show_file.proofs.CueTextLemmas.{cue-utf8}
use Rattle.cue_show_file.proofs.text.cue_text.Goals as goal

pub unreachable-requires : goal.unreachable-requires
unreachable-requires c =
    c.in-Err.ensures.cases.0 (subst IsUtf8 (sym c.text.ensures.value) (cue-utf8 c.args.cue.now c.text.ensures.number))
