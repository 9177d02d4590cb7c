-- What a panel says when it looks at a view, and what is left to say.
use Rattle.cue_panel.specs.Dropped.{flooded_line, flooded_told, waited_line, waited_told}
use Rattle.cue_panel.specs.Lines.{Says}
use Rattle.cue_panel.specs.Pending.{told}
use Rattle.cue_panel.specs.Playing.{is_settled}
use Rattle.cue_panel.specs.declared.dropped.Dropped.{Dropped}
use Rattle.cue_panel.specs.declared.lines.Lines.{Lines}
use Rattle.cue_panel.specs.declared.lines.Looked.{Looked}
use Rattle.cue_panel.specs.declared.panel.Panel.{Panel}
use Rattle.cue_panel.specs.declared.pending.Pendings.{Pendings}
use Rattle.cue_view.specs.declared.view.View.{View}

-- what became of the press before the newest one, and of the newest one; how many waited, and how many were too many
abbrev pub looked_of : View → Panel → Looked
looked_of v p =
    record {
      before = (told p.pendings.before v p.player.hand.at).line;
      newest = (told p.pendings.newest v p.player.hand.at).line;
      waited = waited_line p.dropped (is_settled p.player);
      flooded = flooded_line (waited_told p.dropped (is_settled p.player)) p.player.hand.at;
    }

-- what is still to be said of the two presses, and of what was dropped
abbrev pub pendings_left : View → Panel → Pendings
pendings_left v p =
    record {
      newest = (told p.pendings.newest v p.player.hand.at).left;
      before = (told p.pendings.before v p.player.hand.at).left;
    }

abbrev pub dropped_left : Panel → Dropped
dropped_left p = flooded_told (waited_told p.dropped (is_settled p.player)) p.player.hand.at

-- Each of the four is said, in order, and nothing else.
pub record SaysEach (v : View) (l : Looked) (old new : Lines) : Type 0 where
  pub after_before : Lines
  pub after_newest : Lines
  pub after_waited : Lines
  pub before : Says v l.before old after_before
  pub newest : Says v l.newest after_before after_newest
  pub waited : Says v l.waited after_newest after_waited
  pub flooded : Says v l.flooded after_waited new
