use Rattle.std.proofs.Common.{refl}
use Rattle.cue_exchange.proofs.DeviceLemmas.{distinct-first}
use Rattle.cue_exchange.proofs.answers.+are_distinct.Goals as goal

pub returns-then-not-is_one_of : goal.returns-then-not-is_one_of
returns-then-not-is_one_of t c =
    rw (
      distinct-first c.args.items.now c.first-item.result c.in-len1-up.len_at_least c.first-item.is,
      ←
          c.is_one_of.ensures,
      c.if-not-is_one_of.true,
    ) c.are_distinct.ensures

pub returns-else-not-is_one_of : goal.returns-else-not-is_one_of
returns-else-not-is_one_of t c =
    rw (
      distinct-first c.args.items.now c.first-item.result c.in-len1-up.len_at_least c.first-item.is,
      ←
          c.is_one_of.ensures,
      c.if-not-is_one_of.false,
    ) refl
