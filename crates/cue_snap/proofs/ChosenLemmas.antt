-- What was chosen of two disks.
use Rattle.std.proofs.Common.{◌≡◌, ◌∙◌, Result, Ok, Err, sym, ap, subst}
use Rattle.cue_disk.specs.Disk.{Contents, IsImage}
use Rattle.cue_log.specs.Area.{Area}
use Rattle.cue_log.specs.Reading.{area_in}
use Rattle.cue_snap.specs.declared.opening.Opened2.{Opened2}
use Rattle.cue_snap.specs.Pair.{PairReads, PairLeaves}
use Rattle.cue_snap.specs.Observed.{live_of, RefusedAs}
use Rattle.cue_snap.specs.Opened.{live_area_read}
use Rattle.cue_snap.specs.Found.{IsChosen}

-- Two disks that leave an area, of which the live one holds it, and what was read is that area.
pub chosen : {D : Type 0} {disk : _} (held : D → Contents) (a b live : D) (opened : Opened2 D disk) (area : Area)
    → PairLeaves (held a) (held b) area → IsImage (held a) (held a).bytes → IsImage (held b) (held b).bytes
    → live_area_read opened ≡ area → live_of opened.snap ≡ live → area_in (held live).bytes ≡ area
    → IsChosen held a b opened
chosen held a b live opened area leaves image_a image_b read live_is same = record {
  stood = subst (λ (it : Area). PairReads it (held a).bytes (held b).bytes) (sym read)
      (leaves (held a).bytes (held b).bytes image_a image_b);
  reads = subst (λ (it : Area). PairLeaves (held a) (held b) it) (sym read) leaves;
  same_area = ap (λ (disk : _). area_in (held disk).bytes) live_is ∙ same ∙ sym read;
}

-- a fault that is answered for one reason is answered for what follows from it
pub refused_as : {T E D : Type 0} (fault : E) (P Q : Type 0) (result : Result T (E × D × D)) → (P → Q)
    → RefusedAs fault P result → RefusedAs fault Q result
refused_as fault P Q (Ok made) follows refused = tt
refused_as fault P Q (Err given) follows refused = λ is. follows (refused is)
