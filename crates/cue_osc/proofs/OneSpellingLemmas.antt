-- How many datagrams a packet has: one, and two if it is a message without arguments.
use Rattle.std.proofs.Common.{◌≡◌, ◌⊎◌, ◌%◌, ℕ, zero, suc, List, [], ◌∷◌, ◌++◌, length, refl, sym, ap, ◌∙◌, inl, inr}
use Rattle.std.specs.List.{AllByRecursion}
use Rattle.std.specs.Int.{w32, w64, to_be_bytes}
use Rattle.cue_osc.specs.Content.{Content, message, discarded, bundle, Contents, nothing, element}
use Rattle.cue_osc.specs.Spelling.{IsAddress, osc_string, message_text, IsMessage, bundle_head, IsPacket, AreElements}
use Rattle.cue_osc.specs.Spelling.{Spells}
use Rattle.cue_osc.specs.Walking.{leaves, all_leaves}
use Rattle.cue_osc.specs.Writing.{text_of, elements_text}
use Rattle.cue_osc.specs.Laws.{HasArguments, TwoSpellings}
use Rattle.cue_osc.proofs.WrittenLemmas.{message_unit, string_whole}

abbrev AllHaveArguments : List Content → Type 0
AllHaveArguments cs = AllByRecursion HasArguments cs

all_before : (cs ds : List Content) → AllHaveArguments (cs ++ ds) → AllHaveArguments cs
all_before [] ds h = tt
all_before (c ∷ cs) ds h = (h.0, all_before cs ds h.1)

all_after : (cs ds : List Content) → AllHaveArguments (cs ++ ds) → AllHaveArguments ds
all_after [] ds h = h
all_after (c ∷ cs) ds h = all_after cs ds h.1

mutual
  packet_text : (d : ℕ) (bytes : List ℕ) (c : Content) → AllHaveArguments (leaves c) → IsPacket d bytes c
      → bytes ≡ text_of c
  packet_text d bytes (message a xs) have h =
      elim h.2 [
        | inl p ↦ p
        | inr p ↦ absurd (have.0 p.0)
      ]
  packet_text d bytes (discarded a) have h = absurd have.0
  packet_text zero bytes (bundle t cs) have h = absurd h
  packet_text (suc d) bytes (bundle t cs) have h = h.2
      ∙ ap (λ (rest : List ℕ). bundle_head ++ (to_be_bytes w64 t ++ rest)) (all_text d h.1 cs have h.3)

  all_text : (d : ℕ) (bytes : List ℕ) (cs : Contents) → AllHaveArguments (all_leaves cs) → AreElements d bytes cs
      → bytes ≡ elements_text cs
  all_text d bytes nothing have h = h
  all_text d bytes (element c cs) have h =
      let first : h.0 ≡ text_of c = packet_text d h.0 c (all_before (leaves c) (all_leaves cs) have) h.4 in
      let others : h.1 ≡ elements_text cs = all_text d h.1 cs (all_after (leaves c) (all_leaves cs) have) h.5 in
      h.3 ∙ ap (λ (front : List ℕ). to_be_bytes w32 (length front) ++ (front ++ h.1)) first
      ∙ ap (λ (rest : List ℕ). to_be_bytes w32 (length (text_of c)) ++ (text_of c ++ rest)) others

pub spelled_text : (bytes : List ℕ) (c : Content) → AllHaveArguments (leaves c) → Spells bytes c → bytes ≡ text_of c
spelled_text bytes c have h = packet_text 8 bytes c have h.2

pub spelled_once : (bytes other : List ℕ) (c : Content) → AllHaveArguments (leaves c) → Spells bytes c → Spells other c
    → bytes ≡ other
spelled_once bytes other c have h k = spelled_text bytes c have h ∙ sym (spelled_text other c have k)

-- ---- a message without arguments

-- with its type tag string, and without it
abbrev IsBare : List ℕ → List ℕ → Type 0
IsBare bytes a = (bytes ≡ message_text a []) ⊎ (bytes ≡ osc_string a)

bare_spelled : (bytes a : List ℕ) → Spells bytes (message a []) → IsBare bytes a
bare_spelled bytes a h =
    elim h.2.2 [
      | inl p ↦ inl p
      | inr p ↦ inr p.1
    ]

bare_whole : (bytes a : List ℕ) → IsBare bytes a → length bytes % 4 ≡ 0
bare_whole bytes a h =
    elim h [
      | inl p ↦ ap (λ (t : List ℕ). length t % 4) p ∙ (message_unit a []).whole
      | inr p ↦ ap (λ (t : List ℕ). length t % 4) p ∙ string_whole a
    ]

bare_message : (bytes a : List ℕ) → IsAddress a → IsBare bytes a → IsMessage bytes a []
bare_message bytes a address h =
    elim h [
      | inl p ↦ (address, tt, inl p)
      | inr p ↦ (address, tt, inr (refl, p))
    ]

pub two-spellings : TwoSpellings
two-spellings bytes a = (
  λ h. (h.2.0, h.0, bare_spelled bytes a h),
  λ h. (h.1, bare_whole bytes a h.2, bare_message bytes a h.0 h.2),
)
