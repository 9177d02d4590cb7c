use Rattle.cue_columns.proofs.ColumnLemmas.{are_fit_append}
use Rattle.cue_board.proofs.board.drawn.Goals as goal

pub returns-clause-fit : goal.returns-clause-fit
returns-clause-fit c =
    are_fit_append c.in_ok-all.all.items c.args.heard.items c.append.new.self.items c.in_ok-all.ensures.fit c.requires
    c.in_ok-append.ensures.items
