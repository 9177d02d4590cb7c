use Rattle.std.specs.Prelude.{codes}
use Rattle.toml.specs.Data.{get_member}
use Rattle.toml.specs.View.{items_view, table_view}
use Rattle.cue_show_file.specs.Reading.{devices_of, is_clean}
use Rattle.cue_show_file.specs.Said.{tables_at}
use Rattle.cue_show_file.proofs.ReadingLemmas.{both-ok, places-whole}
use Rattle.cue_show_file.proofs.reading.devices.read_devices.Goals as goal

pub returns-clause-whole : goal.returns-clause-whole
returns-clause-whole c =
    both-ok c.read_each.result
    (λ devices said whole free. places-whole (tables_at (get_member (codes "device") (table_view c.args.table.now)))
    (items_view c.in_ok-values.values.now) (devices_of devices.items) (is_clean c.args.findings.now)
    (is_clean c.tables_in.new.findings) (is_clean c.read_each.new.findings) c.in_ok-values.ensures said whole free)
    c.read_each.ensures.said c.read_each.ensures.whole
