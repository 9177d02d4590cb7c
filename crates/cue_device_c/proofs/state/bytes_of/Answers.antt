use Rattle.cue_device_c.proofs.PlacesLemmas.{over_zeros}
use Rattle.cue_device_c.proofs.state.bytes_of.Goals as goal

pub returns-in-Some-clause-places : goal.returns-in-Some-clause-places
returns-in-Some-clause-places c =
    rw c.in-Some.is (rw c.copy_from_slice.ensures.after
    (rw c.as_slice-bytes.ensures.value (over_zeros c.in-Some.task.bytes)))
