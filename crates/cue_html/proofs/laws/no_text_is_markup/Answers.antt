use Rattle.cue_html.proofs.HtmlLemmas.{no-text-is-markup}
use Rattle.cue_html.proofs.laws.no_text_is_markup.Goals as goal

pub returns : goal.returns
returns c = no-text-is-markup
