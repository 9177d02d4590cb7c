-- What a reading takes of a file.
use Rattle.std.proofs.Common.{sym, ℕ, List, [], Option, Some, None}
use Rattle.std.specs.Io.KnownBytes.{Consumes, Keeps}

-- it took nothing
pub takes_none : (left left_then : Option (List ℕ)) → Keeps left left_then → Consumes left left_then []
takes_none None left_then e = tt
takes_none (Some xs) None e = absurd e
takes_none (Some xs) (Some ys) e = sym e
