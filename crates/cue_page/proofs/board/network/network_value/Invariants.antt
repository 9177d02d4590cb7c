use Rattle.std.proofs.Common.{◌≡◌, map, take}
use Rattle.serde_json.specs.View.{view}
use Rattle.cue_page.specs.Network.{contact_data}
use Rattle.cue_page.proofs.board.network.network_value.Given as goal

-- those so far were put there
abbrev pub invariant-loop-contact : goal.invariant-loop-contact
invariant-loop-contact l = map view l.values.items ≡ map contact_data (take l.contact-index l.contacts)
