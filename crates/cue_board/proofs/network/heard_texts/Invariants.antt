use Rattle.std.proofs.Common.{◌≡◌, map, take, string_bytes}
use Rattle.cue_board.specs.Network.{device_words}
use Rattle.cue_board.proofs.network.heard_texts.Given as goal

-- the devices so far were put there
abbrev pub invariant-loop-contact : goal.invariant-loop-contact
invariant-loop-contact l = map string_bytes l.texts.items ≡ map device_words (take l.contact-index l.network)
