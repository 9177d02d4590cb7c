-- The grammar of OSC 1.0: which bytes a packet has, by cases on the packet. The sections that are
-- named are those of "The Open Sound Control 1.0 Specification".
use Rattle.std.specs.Prelude.{◌≡◌, ◌≢◌, ℕ, zero, suc, ◌-◌, ◌%◌, ◌^◌, ◌<◌, ◌≤◌, List, [], ◌∷◌, ◌++◌, length, map}
use Rattle.std.specs.Prelude.{replicate, codes, Bool, false, ◌==◌, ◌||◌, ◌⊎◌, FitsSigned}
use Rattle.std.specs.List.{flat_map, AllByRecursion, list_all}
use Rattle.std.specs.Int.{w32, w64, to_be_bytes, cast_unsigned}
use Rattle.cue_osc.specs.Argument.{Argument, int, text, blob}
use Rattle.cue_osc.specs.Content.{Content, message, discarded, bundle, Contents, nothing, element}
use Rattle.cue_osc.specs.declared.limits.TheConstants.{MAX_LEN, MAX_DEPTH}

-- the characters / and ,
abbrev pub slash : ℕ
slash = 47

abbrev pub comma : ℕ
comma = 44

-- how many bytes are missing to a multiple of 4
abbrev pub padding : ℕ → ℕ
padding n = (4 - n % 4) % 4

-- OSC-string ("Atomic Data Types"): a text, one null, and nulls up to a multiple of 4
abbrev pub osc_string : List ℕ → List ℕ
osc_string t = t ++ replicate (4 - length t % 4) 0

-- OSC-blob ("Atomic Data Types"): a count as an int32, so many bytes, and zeros up to a multiple of 4
abbrev pub osc_blob : List ℕ → List ℕ
osc_blob b = to_be_bytes w32 (length b) ++ (b ++ replicate (padding (length b)) 0)

-- a text holds no null
abbrev pub IsText : List ℕ → Type 0
IsText t = AllByRecursion (λ b. 0 < b) t

-- the characters i, s and b ("OSC Type Tag String")
abbrev pub tag : Argument → ℕ
tag (int z) = 105
tag (text t) = 115
tag (blob b) = 98

-- the bytes of an argument ("OSC Arguments"): an int32 is four bytes, two's complement, the highest first
abbrev pub argument : Argument → List ℕ
argument (int z) = to_be_bytes w32 (cast_unsigned w32 z)
argument (text t) = osc_string t
argument (blob b) = osc_blob b

-- which arguments have bytes
abbrev pub Fits : Argument → Type 0
Fits (int z) = FitsSigned w32 z
Fits (text t) = IsText t
Fits (blob b) = length b < 2 ^ 31

-- a comma, and a tag for each argument ("OSC Type Tag String")
abbrev pub tags : List Argument → List ℕ
tags xs = comma ∷ map tag xs

-- an address begins with / and holds no null ("OSC Messages")
abbrev pub IsAddress : List ℕ → Type 0
IsAddress [] = ⊥
IsAddress (b ∷ bs) = (b ≡ slash) × IsText bs

-- the one spelling of a message that has its type tag string
abbrev pub message_text : List ℕ → List Argument → List ℕ
message_text a xs = osc_string a ++ (osc_string (tags xs) ++ flat_map argument xs)

-- these bytes are this message: with its type tag string, or, without arguments, also without it
abbrev pub IsMessage : List ℕ → List ℕ → List Argument → Type 0
IsMessage bytes a xs =
    IsAddress a × AllByRecursion Fits xs × ((bytes ≡ message_text a xs) ⊎ ((xs ≡ []) × (bytes ≡ osc_string a)))

-- whether a tag is i, s or b
abbrev pub is_known_tag : ℕ → Bool
is_known_tag b = (b == 105) || ((b == 115) || (b == 98))

-- what stands after an address that is not followed by a type tag string
abbrev pub IsNoTag : List ℕ → Type 0
IsNoTag [] = ⊥
IsNoTag (b ∷ bs) = b ≢ comma

-- a type tag string with another tag than i, s and b, and then anything
pub record IsOtherTags (rest : List ℕ) : Type 0 where
  pub kinds : List ℕ
  pub after : List ℕ
  pub are_text : IsText kinds
  pub other : list_all is_known_tag kinds ≡ false
  pub spelled : rest ≡ osc_string (comma ∷ kinds) ++ after

-- these bytes are a message that is not understood: what stands after its address is not looked at
-- if it is no type tag string, and after another tag nothing is
abbrev pub IsDiscarded : List ℕ → List ℕ → Type 0
IsDiscarded bytes a = IsAddress a × (rest : List ℕ) × (bytes ≡ osc_string a ++ rest) × (IsNoTag rest ⊎ IsOtherTags rest)

-- how a bundle begins ("OSC Bundles")
abbrev pub bundle_head : List ℕ
bundle_head = osc_string (codes "#bundle")

-- how long an element may be ("OSC Bundles"): its size is a positive int32, and a multiple of 4
abbrev pub IsSize : ℕ → Type 0
IsSize n = (0 < n) × (n < 2 ^ 31) × (n % 4 ≡ 0)

-- these bytes are this packet, with bundles at most so deep ("OSC Packets", "OSC Bundles"): a message, or
-- a bundle, which is its head, a time tag of 64 bits, and elements, each after its size
abbrev mutual
  pub IsPacket : ℕ → List ℕ → Content → Type 0
  IsPacket d bytes (message a xs) = IsMessage bytes a xs
  IsPacket d bytes (discarded a) = IsDiscarded bytes a
  IsPacket zero bytes (bundle t cs) = ⊥
  IsPacket (suc d) bytes (bundle t cs) =
      (t < 2 ^ 64) × (rest : List ℕ) × (bytes ≡ bundle_head ++ (to_be_bytes w64 t ++ rest)) × AreElements d rest cs

  pub AreElements : ℕ → List ℕ → Contents → Type 0
  AreElements d bytes nothing = bytes ≡ []
  AreElements d bytes (element c cs) =
      (front : List ℕ) × (rest : List ℕ) × IsSize (length front)
      × (bytes ≡ to_be_bytes w32 (length front) ++ (front ++ rest)) × IsPacket d front c × AreElements d rest cs

-- a datagram that is this packet: at most 4,096 bytes, a multiple of 4, bundles at most 8 deep
abbrev pub Spells : List ℕ → Content → Type 0
Spells bytes c = (length bytes ≤ MAX_LEN) × (length bytes % 4 ≡ 0) × IsPacket MAX_DEPTH bytes c
