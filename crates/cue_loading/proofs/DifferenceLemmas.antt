-- A list of differences that grows.
use Rattle.std.proofs.Common.{◌≡◌, ◌∙◌, true, List, [], ◌∷◌, ◌++◌, ap, refl}
use Rattle.cue_show.specs.Show.{ShowLists}
use Rattle.cue_loading.specs.Differences.{are_so, is_so}
use Rattle.cue_loading.specs.declared.comparing.Difference.{Difference}
use Rattle.cue_loading.specs.declared.comparing.Difference.TheVariants as difference

pushed : (file s : ShowLists) (all : List Difference) (d : Difference) → is_so file s d ≡ true
    → are_so file s (all ++ d ∷ []) ≡ are_so file s all
pushed file s [] d one = rw one refl
pushed file s (x ∷ xs) d one = rw (pushed file s xs d one) refl

pub so_push : (file s : ShowLists) (all more : List Difference) (d : Difference) → is_so file s d ≡ true
    → more ≡ all ++ d ∷ [] → are_so file s more ≡ are_so file s all
so_push file s all more d one e = ap (λ ds. are_so file s ds) e ∙ pushed file s all d one

pub otherwise_push : (file s : ShowLists) (all more : List Difference) → more ≡ all ++ difference.Otherwise ∷ []
    → are_so file s more ≡ are_so file s all
unfolding is_so
otherwise_push file s all more e = so_push file s all more difference.Otherwise refl e
