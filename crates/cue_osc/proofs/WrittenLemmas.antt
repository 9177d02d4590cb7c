-- What is written is spelled so: the one spelling of a plain packet is in the grammar.
use Rattle.std.proofs.Common.{◌≡◌, ℕ, zero, suc, ◌+◌, ◌-◌, ◌%◌, ◌^◌, ◌<◌, ◌≤◌, List, [], ◌∷◌, ◌++◌, length, replicate}
use Rattle.std.proofs.Common.{refl, ap, ◌∙◌, arith, inl}
use Rattle.std.specs.List.{flat_map, AllByRecursion}
use Rattle.std.specs.Int.{w32, w64, to_be_bytes}
use Rattle.std.proofs.lemmas.List.{length-append, length-replicate}
use Rattle.std.proofs.lemmas.List.Concat.{flat_map-cons}
use Rattle.cue_osc.specs.Argument.{Argument, int, text, blob}
use Rattle.cue_osc.specs.Content.{Content, message, discarded, bundle, Contents, nothing, element}
use Rattle.cue_osc.specs.Spelling.{padding, osc_string, osc_blob, argument, Fits, tags, message_text, bundle_head}
use Rattle.cue_osc.specs.Spelling.{IsPacket, AreElements, Spells}
use Rattle.cue_osc.specs.Plain.{IsPlainArg, IsPlain, AllPlain}
use Rattle.cue_osc.specs.Writing.{text_of, elements_text, IsArgInRange, IsInRange, AllInRange}
use Rattle.cue_osc.proofs.RoomLemmas.{element_len}
use Rattle.cue_osc.specs.declared.limits.TheConstants.{MAX_LEN}

-- ---- lengths

abbrev IsWhole : ℕ → Type 0
IsWhole n = n % 4 ≡ 0

whole-add : (a b : ℕ) → IsWhole a → IsWhole b → IsWhole (a + b)
whole-add a b h k = omega arith

string_len : (t : List ℕ) → length (osc_string t) ≡ length t + (4 - length t % 4)
string_len t = length-append t (replicate (4 - length t % 4) 0)
    ∙ ap (λ (n : ℕ). length t + n) (length-replicate (4 - length t % 4) 0)

blob_len : (b : List ℕ) → length (osc_blob b) ≡ 4 + (length b + padding (length b))
blob_len b = length-append (to_be_bytes w32 (length b)) (b ++ replicate (padding (length b)) 0)
    ∙ ap (λ (n : ℕ). 4 + n) (length-append b (replicate (padding (length b)) 0)
    ∙ ap (λ (n : ℕ). length b + n) (length-replicate (padding (length b)) 0))

pub string_whole : (t : List ℕ) → IsWhole (length (osc_string t))
string_whole t = omega (arith, string_len t)

string_some : (t : List ℕ) → 0 < length (osc_string t)
string_some t = omega (arith, string_len t)

arg_whole : (x : Argument) → IsWhole (length (argument x))
arg_whole (int z) = refl
arg_whole (text t) = string_whole t
arg_whole (blob b) = omega (arith, blob_len b)

args_len : (x : Argument) (xs : List Argument)
    → length (flat_map argument (x ∷ xs)) ≡ length (argument x) + length (flat_map argument xs)
args_len x xs = ap length (flat_map-cons argument x xs) ∙ length-append (argument x) (flat_map argument xs)

args_whole : (xs : List Argument) → IsWhole (length (flat_map argument xs))
args_whole [] = refl
args_whole (x ∷ xs) = omega (arith, args_len x xs, arg_whole x, args_whole xs)

message_len : (a : List ℕ) (xs : List Argument)
    → length (message_text a xs) ≡ length (osc_string a) +
    (length (osc_string (tags xs)) + length (flat_map argument xs))
message_len a xs = length-append (osc_string a) (osc_string (tags xs) ++ flat_map argument xs)
    ∙ ap (λ (n : ℕ). length (osc_string a) + n) (length-append (osc_string (tags xs)) (flat_map argument xs))

bundle_len : (t : ℕ) (cs : Contents) → length (text_of (bundle t cs)) ≡ 16 + length (elements_text cs)
bundle_len t cs = length-append bundle_head (to_be_bytes w64 t ++ elements_text cs)
    ∙ ap (λ (n : ℕ). 8 + n) (length-append (to_be_bytes w64 t) (elements_text cs)) ∙ omega arith

-- a packet's spelling has some bytes, in whole fours
pub record IsUnit (n : ℕ) : Type 0 where
  pub some : 0 < n
  pub whole : n % 4 ≡ 0

pub message_unit : (a : List ℕ) (xs : List Argument) → IsUnit (length (message_text a xs))
message_unit a xs = record {
  some = omega (arith, message_len a xs, string_some a);
  whole = omega (arith, message_len a xs, string_whole a, string_whole (tags xs), args_whole xs);
}

mutual
  pub text_unit : (d : ℕ) (c : Content) → IsPlain d c → IsUnit (length (text_of c))
  text_unit d (message a xs) h = message_unit a xs
  text_unit d (discarded a) h = absurd h
  text_unit zero (bundle t cs) h = absurd h
  text_unit (suc d) (bundle t cs) h =
      record { some = omega (arith, bundle_len t cs); whole = omega (arith, bundle_len t cs, elements_whole d cs h) }

  elements_whole : (d : ℕ) (cs : Contents) → AllPlain d cs → length (elements_text cs) % 4 ≡ 0
  elements_whole d nothing h = refl
  elements_whole d (element c cs) h = let first = text_unit d c h.0 in let others = elements_whole d cs h.1 in
      omega (arith, element_len c cs)

-- ---- the spelling

arg_fits : (x : Argument) → IsPlainArg x → IsArgInRange x → length (argument x) < 2 ^ 31 → Fits x
arg_fits (int z) h k lt = k
arg_fits (text t) h k lt = h
arg_fits (blob b) h k lt = omega (arith, blob_len b)

args_fit : (xs : List Argument) → AllByRecursion IsPlainArg xs → AllByRecursion IsArgInRange xs
    → length (flat_map argument xs) < 2 ^ 31 → AllByRecursion Fits xs
args_fit [] h k lt = tt
args_fit (x ∷ xs) h k lt =
    (arg_fits x h.0 k.0 (omega (arith, args_len x xs)), args_fit xs h.1 k.1 (omega (arith, args_len x xs)))

mutual
  pub text_spelled : (d : ℕ) (c : Content) → IsPlain d c → IsInRange c → length (text_of c) < 2 ^ 31
      → IsPacket d (text_of c) c
  text_spelled d (message a xs) h k lt = (h.0, args_fit xs h.1 k (omega (arith, message_len a xs)), inl refl)
  text_spelled d (discarded a) h k lt = absurd h
  text_spelled zero (bundle t cs) h k lt = absurd h
  text_spelled (suc d) (bundle t cs) h k lt =
      (k.0, elements_text cs, refl, elements_spelled d cs h k.1 (omega (arith, bundle_len t cs)))

  elements_spelled : (d : ℕ) (cs : Contents) → AllPlain d cs → AllInRange cs → length (elements_text cs) < 2 ^ 31
      → AreElements d (elements_text cs) cs
  elements_spelled d nothing h k lt = refl
  elements_spelled d (element c cs) h k lt =
      let unit = text_unit d c h.0 in
      let len = element_len c cs in (
        text_of c,
        elements_text cs,
        (unit.some, omega arith, unit.whole),
        refl,
        text_spelled d c h.0 k.0 (omega arith),
        elements_spelled d cs h.1 k.1 (omega arith),
      )

-- the spelling of a plain packet is a datagram of it, unless it is too long
pub text_spells : (c : Content) → IsPlain 8 c → IsInRange c → length (text_of c) ≤ MAX_LEN → Spells (text_of c) c
text_spells c h k le = (le, (text_unit 8 c h).whole, text_spelled 8 c h k (omega arith))
