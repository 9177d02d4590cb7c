use Rattle.std.proofs.Common.{◌≡◌, ◌∙◌, rules}
use Rattle.std.specs.Prelude.{is_ok}
use Rattle.cue_outbox.proofs.NumberLemmas.{found-among}
use Rattle.cue_engine.proofs.ordering.is_among.Goals as goal

pub returns : goal.returns
returns c =
    let e : c.is_ok.result ≡ is_ok c.binary_search.result = search rules in
    e ∙ found-among c.args.numbers.now c.args.number c.binary_search.result c.requires c.binary_search.ensures.position
