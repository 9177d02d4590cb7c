-- The front of a list of datagrams.
use Rattle.std.proofs.Common.{◌≡◌, ℕ, List, take, sym}
use Rattle.std.proofs.lemmas.List.{take-map}
use Rattle.cue_outbox.specs.declared.out.Out.{Out}
use Rattle.cue_outbox.specs.Views.{out_view, outs_view}

pub view_of_front : (count : ℕ) (outs : List Out) → outs_view (take count outs) ≡ take count (outs_view outs)
view_of_front count outs = sym (take-map out_view count outs)
