-- What a bundle says.
use Rattle.std.proofs.Common.{◌≡◌, ℕ, map, sym, ap, ◌∙◌, Vec, Global}
use Rattle.cue_osc.specs.Content.{Content, bundle, contents_of, view_step, view}
use Rattle.cue_osc.specs.declared.packet.Packet.{Packet}
use Rattle.cue_osc.specs.declared.packet.Packet.TheOpen.{Packet-F}
use Rattle.cue_osc.specs.declared.packet.Packet.TheVariants.{Bundle, rolls-Bundle}
use Rattle.cue_osc.specs.declared.packet.Packet.TheFolds.{fold-roll-Packet}

pub view-bundle : (t : ℕ) (items : Vec Packet Global)
    → view (Bundle t items) ≡ bundle t (contents_of (map view items.items))
view-bundle t items = ap view (sym (rolls-Bundle t items))
    ∙ fold-roll-Packet Content view_step (Packet-F.Bundle t items)
