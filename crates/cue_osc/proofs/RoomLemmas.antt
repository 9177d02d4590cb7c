-- The length of a spelling, part by part, and what it leaves of a room.
use Rattle.std.proofs.Common.{◌≡◌, ℕ, suc, ◌+◌, ◌-◌, ◌<◌, ◌≤◌, List, ◌∷◌, ◌++◌, length, drop, get_or, map, Some, None}
use Rattle.std.proofs.Common.{inl, inr, refl, sym, ap, ◌∙◌, arith, add-one, drop-cons}
use Rattle.std.specs.List.{flat_map}
use Rattle.std.specs.Int.{w32, to_be_bytes}
use Rattle.std.proofs.lemmas.Bool.{le-leb, lt-leb, cases_lt}
use Rattle.std.proofs.lemmas.List.{length-append}
use Rattle.std.proofs.lemmas.List.Concat.{flat_map-cons}
use Rattle.cue_osc.specs.declared.packet.Arg.{Arg}
use Rattle.cue_osc.specs.declared.packet.Packet.{Packet}
use Rattle.cue_osc.specs.Argument.{arg_view}
use Rattle.cue_osc.specs.Content.{Content, Contents, element, contents_of, view}
use Rattle.cue_osc.specs.Spelling.{argument}
use Rattle.cue_osc.specs.Writing.{text_of, elements_text, room_left}

pub room-fits : (room n : ℕ) → n ≤ room → room_left room n ≡ Some (room - n)
room-fits room n h = rw (le-leb n room h) refl

pub room-full : (room n : ℕ) → room < n → room_left room n ≡ None
room-full room n h = rw (lt-leb n room h) refl

-- one part after the other
pub room-more : (room a b : ℕ) → a ≤ room → room_left room (a + b) ≡ room_left (room - a) b
room-more room a b h =
    elim (cases_lt (room - a) b) [
      | inl lt ↦ room-full room (a + b) (omega arith) ∙ sym (room-full (room - a) b lt)
      | inr le ↦ room-fits room (a + b) (omega arith) ∙ ap (λ (n : ℕ). Some n) (omega arith)
          ∙ sym (room-fits (room - a) b le)
    ]

pub room-over : (room a b : ℕ) → room < a → room_left room (a + b) ≡ None
room-over room a b h = room-full room (a + b) (omega arith)

-- ---- arguments

abbrev pub args_len : List Arg → ℕ
args_len args = length (flat_map argument (map arg_view args))

pub args_len-drop : (args : List Arg) (i : ℕ) (x : Arg) → i < length args → x ≡ get_or args i x
    → args_len (drop i args) ≡ length (argument (arg_view x)) + args_len (drop (i + 1) args)
args_len-drop args i x lt e =
    let rest = drop (suc i) args in
    let parts : drop i args ≡ x ∷ rest = drop-cons args i x lt ∙ ap (λ (y : Arg). y ∷ rest) (sym e) in
    rw (
      parts,
      flat_map-cons argument (arg_view x) (map arg_view rest),
      length-append (argument (arg_view x))
          (flat_map argument (map arg_view rest)),
      add-one,
    ) refl

-- ---- elements

abbrev pub items_len : List Packet → ℕ
items_len items = length (elements_text (contents_of (map view items)))

pub element_len : (c : Content) (cs : Contents)
    → length (elements_text (element c cs)) ≡ 4 + (length (text_of c) + length (elements_text cs))
element_len c cs = length-append (to_be_bytes w32 (length (text_of c))) (text_of c ++ elements_text cs)
    ∙ ap (λ (n : ℕ). 4 + n) (length-append (text_of c) (elements_text cs))

pub items_len-drop : (items : List Packet) (i : ℕ) (x : Packet) → i < length items → x ≡ get_or items i x
    → items_len (drop i items) ≡ 4 + (length (text_of (view x)) + items_len (drop (i + 1) items))
items_len-drop items i x lt e =
    let rest = drop (suc i) items in
    let parts : drop i items ≡ x ∷ rest = drop-cons items i x lt ∙ ap (λ (y : Packet). y ∷ rest) (sym e) in
    ap items_len parts ∙ element_len (view x) (contents_of (map view rest))
    ∙ ap (λ (n : ℕ). 4 + (length (text_of (view x)) + items_len (drop n items))) (sym (add-one i))

-- what fits is no longer than the room
pub room-some : (room n left : ℕ) → Some left ≡ room_left room n → n ≤ room
room-some room n left e =
    elim (cases_lt room n) [
      | inl lt ↦ let none = room-full room n lt in absurd cc
      | inr le ↦ le
    ]
