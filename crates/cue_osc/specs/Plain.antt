-- Which packets can be written: nothing discarded, no null in an address or a text, at most so deep.
use Rattle.std.specs.Prelude.{ℕ, zero, suc, List, [], ◌∷◌, Bool, true, false, ◌==◌, ◌&&◌, not}
use Rattle.std.specs.List.{AllByRecursion, list_all}
use Rattle.cue_osc.specs.Argument.{Argument, int, text, blob}
use Rattle.cue_osc.specs.Content.{Content, message, discarded, bundle, Contents, nothing, element}
use Rattle.cue_osc.specs.Spelling.{slash, IsText, IsAddress}

-- numbers and blobs are free, texts hold no null
abbrev pub IsPlainArg : Argument → Type 0
IsPlainArg (int z) = Unit {0}
IsPlainArg (text t) = IsText t
IsPlainArg (blob b) = Unit {0}

-- nothing discarded, each address begins with / and holds no null, bundles at most so deep
abbrev mutual
  pub IsPlain : ℕ → Content → Type 0
  IsPlain d (message a xs) = IsAddress a × AllByRecursion IsPlainArg xs
  IsPlain d (discarded a) = ⊥
  IsPlain zero (bundle t cs) = ⊥
  IsPlain (suc d) (bundle t cs) = AllPlain d cs

  pub AllPlain : ℕ → Contents → Type 0
  AllPlain d nothing = Unit {0}
  AllPlain d (element c cs) = IsPlain d c × AllPlain d cs

-- ---- the same as tests

-- no null in it
abbrev pub is_text : List ℕ → Bool
is_text bytes = list_all (λ b. not (b == 0)) bytes

-- it begins with / and holds no null
abbrev pub is_address : List ℕ → Bool
is_address [] = false
is_address (b ∷ bs) = (b == slash) && is_text bs

-- no null if it is a text
abbrev pub is_plain_arg : Argument → Bool
is_plain_arg (int z) = true
is_plain_arg (text t) = is_text t
is_plain_arg (blob b) = true

-- whether a packet can be written
abbrev mutual
  pub is_plain : ℕ → Content → Bool
  is_plain d (message a xs) = is_address a && list_all is_plain_arg xs
  is_plain d (discarded a) = false
  is_plain zero (bundle t cs) = false
  is_plain (suc d) (bundle t cs) = are_plain d cs

  pub are_plain : ℕ → Contents → Bool
  are_plain d nothing = true
  are_plain d (element c cs) = is_plain d c && are_plain d cs
