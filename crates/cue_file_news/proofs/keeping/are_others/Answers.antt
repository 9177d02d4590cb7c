-- Routes are compared field by field.
use Rattle.std.proofs.Common.{◌≡◌, not, refl, rules}
use Rattle.std.specs.Bool.{Decides}
use Rattle.std.specs.Cmp.Lexicographic.{pointwise}
use Rattle.std.proofs.lemmas.Bool.Decides.{Decides-at, Decides-not}
use Rattle.std.proofs.lemmas.Slice.Eq.{slice_eq-Decides}
use Rattle.cue_relay.specs.declared.route.Route.{Route}
use Rattle.cue_relay.specs.contracts.route.RoutePartialEq.TheImpl as route
use Rattle.cue_file_news.proofs.keeping.are_others.Goals as goal

same : (a b : Route) → Decides (route.eq-value.it a b) (a ≡ b)
same a b = search rules

pub returns : goal.returns
returns c =
    let p = pointwise route.eq-value.it c.args.kept.now c.args.fresh.now in
    Decides-at c.ne.result (not p) c.ne.ensures
    (Decides-not p (slice_eq-Decides same c.args.kept.now c.args.fresh.now p refl))
