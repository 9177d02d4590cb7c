-- What a packet says, without where it lies in memory.
use Rattle.std.specs.Prelude.{ℕ, List, [], ◌∷◌}
use Rattle.cue_osc.specs.Argument.{Argument}
use Rattle.cue_osc.specs.declared.packet.Packet.{Packet}
use Rattle.cue_osc.specs.declared.packet.Packet.TheOpen.{Packet-F}
use Rattle.cue_osc.specs.declared.packet.Packet.TheFolds.{fold-Packet}

-- a message, a message that is not understood, or a bundle (OSC 1.0, "OSC Packets")
mutual
  pub data Content : Type 0 where
    message : List ℕ → List Argument → Content
    discarded : List ℕ → Content
    bundle : ℕ → Contents → Content

  -- the elements of a bundle (OSC 1.0, "OSC Bundles")
  pub data Contents : Type 0 where
    nothing : Contents
    element : Content → Contents → Contents

-- the packets of a list, as the elements of a bundle
abbrev pub contents_of : List Content → Contents
contents_of [] = nothing
contents_of (c ∷ cs) = element c (contents_of cs)

-- one level, with each packet inside already seen as its content
abbrev pub view_step : Packet-F Content → Content
view_step (Packet-F.Message m) = message m.address.now m.args
view_step (Packet-F.Discarded a) = discarded a.now
view_step (Packet-F.Bundle tag items) = bundle tag (contents_of items.items)

-- what a packet says
abbrev pub view : Packet → Content
view = fold-Packet Content view_step
