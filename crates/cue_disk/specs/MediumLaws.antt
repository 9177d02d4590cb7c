-- Helper: what a medium held at the present moment is what it holds, and its bytes are an image.
use Rattle.std.specs.Prelude.{◌≡◌, List, length, take}
use Rattle.std.proofs.Common.{refl, ◌∙◌, ap, arith}
use Rattle.std.proofs.lemmas.List.{drop_all, take_all}
use Rattle.cue_disk.specs.Disk.{IsImage}
use Rattle.cue_disk.specs.Medium.{contents, rewound, state_of, medium_held, medium_moment, medium_held_at}
use Rattle.cue_disk.specs.declared.medium.Medium.{Medium}
use Rattle.cue_disk.specs.declared.medium.Change.{Change}

pub held_now : (medium : Medium) → medium_held_at medium (medium_moment medium) ≡ medium_held medium
held_now medium =
    let now = length medium.past.items in
    ap (λ (l : List Change). contents (rewound (state_of medium) l) (take now medium.past.items))
    (drop_all now medium.past.items (omega arith))
    ∙ ap (contents (state_of medium)) (take_all now medium.past.items (omega arith))

pub reads_as_image : (medium : Medium) → IsImage (medium_held medium) (medium_held medium).bytes
reads_as_image medium = record {
  no_shorter = omega (arith, medium.within);
  no_longer = omega arith;
  untouched = λ i within clean. refl;
}
