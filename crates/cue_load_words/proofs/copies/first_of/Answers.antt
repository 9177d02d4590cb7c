use Rattle.std.proofs.Common.{◌∙◌, sym, ap, rules}
use Rattle.cue_load_words.specs.Copies.{is_turn}
use Rattle.cue_load_words.proofs.CopyLemmas.{first_none, first_other}
use Rattle.cue_load_words.proofs.copies.first_of.Goals as goal

pub returns-else-is_turn : goal.returns-else-is_turn
returns-else-is_turn c =
    first_other c.args.bare.now c.in-Some.first.now c.in-Some.turn.now c.in-Some.ensures.cases
    (ap is_turn (sym c.as_bytes.ensures.value) ∙ sym c.is_turn.ensures ∙ c.if-is_turn.false)

pub returns-in-None : goal.returns-in-None
returns-in-None c = first_none c.args.bare.now (search rules)
