-- What leaves of the letter of a desk.
use Rattle.std.proofs.Common.{◌≡◌, refl, inl, inr, ℕ, Bool, true, false, List, [], ◌∷◌, Option, Some, None}
use Rattle.cue_machine.specs.Growing.{Grew}
use Rattle.cue_machine.specs.Posting.{Given, Posted}
use Rattle.cue_machine.proofs.LivingLemmas.{grew_both, grew_none}
use Rattle.cue_ask_machine.specs.Lives.{post}
use Rattle.cue_ask_machine.specs.Sending.{Asks, Leaves, Names}
use Rattle.cue_ask_machine.specs.Steps.{sends}

pub unnamed : (port : ℕ) (left : Option (List Posted)) → Names port None left left
unnamed port left = record { said = []; names = refl; grew = grew_none left }

pub named : (port : ℕ) (name : List ℕ) (lost : Bool) (left new : Option (List Posted))
    → Grew left (post (sends port name) lost ∷ []) new → Names port (Some name) left new
named port name lost left new g =
    record { said = post (sends port name) lost ∷ []; names = (lost, refl); grew = g }

-- the message left at once
pub left_first : (given : Given) (left new : Option (List Posted)) → Grew left (post given false ∷ []) new
    → Asks false given left new
left_first given left new g = record { asked = post given false ∷ []; asks = inl refl; grew = g }

-- it was lost, and went out once more
pub left_second : (given : Given) (is_lost : Bool) (left mid new : Option (List Posted))
    → Grew left (post given true ∷ []) mid → Grew mid (post given is_lost ∷ []) new → Asks is_lost given left new
left_second given false left mid new g h =
    record {
      asked = post given true ∷ post given false ∷ [];
      asks = inr refl;
      grew = grew_both left (post given true ∷ []) mid (post given false ∷ []) new g h;
    }
left_second given true left mid new g h =
    record {
      asked = post given true ∷ post given true ∷ [];
      asks = refl;
      grew = grew_both left (post given true ∷ []) mid (post given true ∷ []) new g h;
    }

pub leaves : (port : ℕ) (name : Option (List ℕ)) (message : List ℕ) (is_lost : Bool)
    (left mid new : Option (List Posted)) → Names port name left mid → Asks is_lost (sends port message) mid new
    → Leaves port name message is_lost left new
leaves port name message is_lost left mid new a b = record { mid = mid; first = a; then_asks = b }
