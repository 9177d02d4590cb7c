use Rattle.std.proofs.Common.{[]}
use Rattle.cue_file_news.specs.Watching.{start_of}
use Rattle.cuedesk.proofs.program.renewing.begin_with.Goals as goal

pub returns : goal.returns
returns c = record {
  port_is = c.port.ensures (start_of c.args.said c.args.file c.args.text) [] c.in_ok-watch.ensures;
  together_is = c.in_ok-together.ensures;
}
