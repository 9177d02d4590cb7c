-- The members of a view.
use Rattle.std.proofs.Common.{◌≡◌, refl}
use Rattle.serde_json.specs.Data.{no_members}
use Rattle.cue_page.specs.Page.{first_members, second_members, with_second}
use Rattle.cue_page.specs.declared.board.FirstHalf.{FirstHalf}
use Rattle.cue_page.specs.declared.board.SecondHalf.{SecondHalf}

-- the second half stands after the first one
pub halves : (p : FirstHalf) (q : SecondHalf)
    → with_second q (first_members p no_members) ≡ first_members p (second_members q)
unfolding with_second
halves p q = refl
