use Rattle.std.proofs.Common.{map, rules}
use Rattle.std.specs.Str.{chars}
use Rattle.std.proofs.lemmas.Iterator.{YieldsList-from_chars, YieldsList-from_map, text_from_collect}
use Rattle.cue_words.specs.Signs.{shown}
use Rattle.cue_words.proofs.SignLemmas.{signs-of, safe-of}
use Rattle.cue_words.proofs.signs.shown_text.Goals as goal

pub returns-clause-signs : goal.returns-clause-signs
returns-clause-signs c =
    signs-of c.collect.result (map shown (chars c.args.text.now))
    (text_from_collect c.collect.result c.collect.ensures.ran
    (YieldsList-from_map _ shown (YieldsList-from_chars c.args.text.now c.utf8.text cc) c.map.ensures.closure
    (λ x r q k. search rules)))

pub returns-clause-safe : goal.returns-clause-safe
returns-clause-safe c = safe-of c.collect.result (chars c.args.text.now) (returns-clause-signs c)
