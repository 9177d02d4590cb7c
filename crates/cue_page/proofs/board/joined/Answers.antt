use Rattle.std.proofs.Common.{◌∙◌, ap}
use Rattle.serde_json.proofs.Views.{view-Object}
use Rattle.serde_json.specs.Data.{object}
use Rattle.cue_page.specs.Page.{with_second}
use Rattle.cue_page.proofs.PageLemmas.{halves}
use Rattle.cue_page.proofs.board.joined.Goals as goal

pub returns : goal.returns
returns c =
    let parts = c.args.parts in
    view-Object c.put_second.new.map
    ∙ ap object (c.in_ok-put_second.ensures ∙ ap (with_second parts.second) c.in_ok-map.ensures
    ∙ halves parts.first parts.second)
