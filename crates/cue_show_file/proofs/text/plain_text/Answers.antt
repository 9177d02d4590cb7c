use Rattle.std.proofs.Common.{◌∙◌, sym}
use Rattle.cue_show_file.proofs.PlainLemmas.{plain-utf8}
use Rattle.cue_show_file.proofs.text.plain_text.Goals as goal

pub unreachable-requires : goal.unreachable-requires
unreachable-requires c =
    c.in-Err.ensures.cases.0 (plain-utf8 c.args.bytes.now (sym c.is_plain.ensures ∙ c.if-not-is_plain.false))
