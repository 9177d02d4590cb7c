-- What is known before anything was heard.
use Rattle.std.proofs.Common.{◌≡◌, ℕ, ◌+◌, [], ◌++◌}
use Rattle.std.proofs.Common.{refl, add-one}
use Rattle.cue_whereabouts.specs.Beginning.{entries_below, entry_of}

-- one more number
pub entries_one_more : (n : ℕ) → entries_below (n + 1) ≡ entries_below n ++ entry_of n
unfolding entries_below
entries_one_more n = rw (add-one n) refl

pub entries_none : entries_below 0 ≡ []
unfolding entries_below
entries_none = refl
