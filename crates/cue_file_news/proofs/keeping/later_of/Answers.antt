use Rattle.std.proofs.Common.{Bool, sym, subst}
use Rattle.std.specs.Prelude.{◌≢◌, ◌↔◌, IsTrue}
use Rattle.cue_file_news.specs.Keeping.{IsOtherRelay, kept_in}
use Rattle.cue_file_news.proofs.keeping.later_of.Goals as goal

pub returns : goal.returns
returns c = record {
  port = subst (λ (b : Bool). IsTrue b ↔ (c.args.kept.now.port ≢ c.args.fresh.now.port)) (sym c.later_by.ensures.port)
      c.is_other_port.ensures;
  relay = subst (λ (b : Bool). IsTrue b ↔ IsOtherRelay (kept_in c.args.kept.now) (kept_in c.args.fresh.now))
      (sym c.later_by.ensures.relay) c.is_other_relay.ensures;
}
