-- What is found on a walk over a packet.
use Rattle.std.specs.Prelude.{ℕ, ◌+◌, ◌*◌, ◌^◌, List, [], ◌∷◌, ◌++◌, Bool, false, not, ◌&&◌, ◌||◌, ◌==◌, nat_lt}
use Rattle.std.specs.Borrow.{Bor}
use Rattle.cue_osc.specs.declared.packet.Packet.{Packet}
use Rattle.cue_osc.specs.Spelling.{IsAddress}
use Rattle.cue_osc.specs.Content.{Content, message, discarded, bundle, Contents, nothing, element, view}

-- messages and discarded messages, in order
abbrev mutual
  pub leaves : Content → List Content
  leaves (message a xs) = message a xs ∷ []
  leaves (discarded a) = discarded a ∷ []
  leaves (bundle t cs) = all_leaves cs

  pub all_leaves : Contents → List Content
  all_leaves nothing = []
  all_leaves (element c cs) = leaves c ++ all_leaves cs

-- a message has an address that begins with / and holds no null
abbrev pub HasAddress : Content → Type 0
HasAddress (message a xs) = IsAddress a
HasAddress (discarded a) = IsAddress a
HasAddress (bundle t cs) = ⊥

-- whether a time tag ("Temporal Semantics and OSC Time Tags") is later than a time in milliseconds since
-- 1970, which began 2,208,988,800 seconds after 1900. A tag has 32 bits of seconds since 1900 and 32 bits of
-- fractions; the tag 1 means immediately
abbrev pub is_later_tag : ℕ → ℕ → Bool
is_later_tag now t = not (t == 1) && nat_lt ((2208988800000 + now) * 2 ^ 32) (t * 1000)

-- whether a bundle at any depth is later
abbrev mutual
  pub is_later : ℕ → Content → Bool
  is_later now (message a xs) = false
  is_later now (discarded a) = false
  is_later now (bundle t cs) = is_later_tag now t || is_any_later now cs

  pub is_any_later : ℕ → Contents → Bool
  is_any_later now nothing = false
  is_any_later now (element c cs) = is_later now c || is_any_later now cs

-- what a borrowed packet says
abbrev pub content_at : Bor Packet → Content
content_at p = view p.now
