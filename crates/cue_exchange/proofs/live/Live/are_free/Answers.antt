use Rattle.std.proofs.Common.{sym}
use Rattle.std.specs.Option.{is_none}
use Rattle.std.proofs.lemmas.List.Folds.{list_all-map}
use Rattle.cue_exchange.specs.Live.{attempt_of_device}
use Rattle.cue_exchange.proofs.live.Live.are_free.Goals as goal

pub returns : goal.returns
returns c =
    rw (c.all_free.ensures, c.as_slice.ensures)
    (sym (list_all-map (λ d. is_none (attempt_of_device c.args.self.now d)) (λ p. p.device) c.args.parts.now))
