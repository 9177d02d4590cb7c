-- A message that is read is spelled so, and a message that is spelled so is read.
use Rattle.std.proofs.Common.{◌≡◌, ℕ, true, cond, eqb, List, [], ◌∷◌, ◌++◌, length, drop, map, Result, Ok, refl, sym}
use Rattle.std.proofs.Common.{ap, subst, ◌∙◌, arith, inl, inr, ◌⊎◌}
use Rattle.std.specs.List.{AllByRecursion, list_all, flat_map}
use Rattle.std.proofs.lemmas.Bool.{and_parts, and_from, eqb-true, eqb-false, eq-eqb, ne_eqb}
use Rattle.std.proofs.lemmas.List.{append-nil, nil_from_length}
use Rattle.std.proofs.lemmas.List.Concat.{flat_map-cons}
use Rattle.cue_osc.specs.declared.fault.Fault.{Fault}
use Rattle.cue_osc.specs.declared.fault.Fault.TheVariants.{Trailing}
use Rattle.cue_osc.specs.Argument.{Argument}
use Rattle.cue_osc.specs.Content.{Content, message, discarded, bundle}
use Rattle.cue_osc.specs.Spelling.{osc_string, IsText, tag, argument, Fits, tags, IsAddress, message_text, IsMessage}
use Rattle.cue_osc.specs.Spelling.{is_known_tag, IsNoTag, IsOtherTags, IsDiscarded, IsPacket}
use Rattle.cue_osc.specs.Reading.{◌>>=◌, string_at, arg_at, all_args_at, tagged_at, after_address, message_at}
use Rattle.cue_osc.specs.Reading.{is_message_start}
use Rattle.cue_osc.proofs.LoopLemmas.{bind_ok}
use Rattle.cue_osc.proofs.FieldLemmas.{IsBytes, IsBytes-rest, ok_is, then_ok, chosen, string_takes, string_again}
use Rattle.cue_osc.proofs.FieldLemmas.{arg_takes, arg_again, known_tag, tag_is_text}

-- ---- arguments

-- the arguments are all of the bytes
pub record AreArgs (kinds bytes : List ℕ) (xs : List Argument) : Type 0 where
  pub parts : bytes ≡ flat_map argument xs
  pub fit : AllByRecursion Fits xs
  pub kinds_are : map tag xs ≡ kinds

pub args_take : (kinds bytes : List ℕ) (xs : List Argument) → list_all is_known_tag kinds ≡ true → IsBytes bytes
    → all_args_at kinds bytes ≡ Ok xs → AreArgs kinds bytes xs
unfolding all_args_at
args_take [] bytes xs known fits e =
    let p = then_ok (eqb (length bytes) 0) Trailing (Ok []) xs e in
    let none : bytes ≡ [] = nil_from_length bytes (eqb-true (length bytes) 0 p.0) in
    subst (λ (ys : List Argument). AreArgs [] bytes ys) (ok_is [] xs p.1)
    (record { parts = none; fit = tt; kinds_are = refl })
args_take (kind ∷ kinds) bytes xs known fits e =
    let k = and_parts (is_known_tag kind) (list_all is_known_tag kinds) known in
    let a = bind_ok (arg_at kind bytes) (λ first. all_args_at kinds first.1 >>= λ others. Ok (first.0 ∷ others)) xs e in
    let x = a.0.0 in
    let t = arg_takes kind bytes a.0 k.0 fits a.1 in
    let b = bind_ok (all_args_at kinds a.0.1) (λ others. Ok (x ∷ others)) xs a.2 in
    let others = args_take kinds a.0.1 b.0 k.1 (IsBytes-rest bytes (argument x) a.0.1 t.parts fits) b.1 in
    let made : AreArgs (kind ∷ kinds) bytes (x ∷ b.0) = record {
      parts = t.parts ∙ ap (λ (r : List ℕ). argument x ++ r) others.parts ∙ sym (flat_map-cons argument x b.0);
      fit = (t.fits, others.fit);
      kinds_are = ap (λ (n : ℕ). n ∷ map tag b.0) t.kind_is ∙ ap (λ (ns : List ℕ). kind ∷ ns) others.kinds_are;
    } in
    subst (λ (ys : List Argument). AreArgs (kind ∷ kinds) bytes ys) (ok_is (x ∷ b.0) xs b.2) made

abbrev all_done : List Argument → Result (List Argument) Fault
all_done xs = Ok xs

pub args_again : (xs : List Argument) → AllByRecursion Fits xs → all_args_at (map tag xs) (flat_map argument xs) ≡ Ok xs
unfolding all_args_at
args_again [] h = refl
args_again (x ∷ xs) h =
    let read : arg_at (tag x) (flat_map argument (x ∷ xs)) ≡ Ok (x, flat_map argument xs) =
    ap (arg_at (tag x)) (flat_map-cons argument x xs) ∙ arg_again x (flat_map argument xs) h.0 in
    rw (read, args_again xs h.1) refl

known_tags : (xs : List Argument) → list_all is_known_tag (map tag xs) ≡ true
known_tags [] = refl
known_tags (x ∷ xs) = and_from (is_known_tag (tag x)) (list_all is_known_tag (map tag xs)) (known_tag x) (known_tags xs)

-- ---- what stands behind an address

-- with a type tag string
abbrev IsTagged : List ℕ → List ℕ → Content → Type 0
IsTagged a bytes (message b xs) = (b ≡ a) × AllByRecursion Fits xs
    × (bytes ≡ osc_string (tags xs) ++ flat_map argument xs)
IsTagged a bytes (discarded b) = (b ≡ a) × IsOtherTags bytes
IsTagged a bytes (bundle t cs) = ⊥

-- the text of an OSC-string that begins with a comma does
comma_first : (t rest bs : List ℕ) → 44 ∷ bs ≡ osc_string t ++ rest → (kinds : List ℕ) × (t ≡ 44 ∷ kinds)
comma_first [] rest bs e = absurd cc
comma_first (b ∷ kinds) rest bs e = (kinds, cc)

tagged_message : (a bytes kinds values : List ℕ) (c : Content) → bytes ≡ osc_string (44 ∷ kinds) ++ values
    → list_all is_known_tag kinds ≡ true → IsBytes values
    → (all_args_at kinds values >>= λ xs. Ok (message a xs)) ≡ Ok c → IsTagged a bytes c
tagged_message a bytes kinds values c parts known fits e =
    let b = bind_ok (all_args_at kinds values) (λ xs. Ok (message a xs)) c e in
    let xs = b.0 in
    let t = args_take kinds values xs known fits b.1 in
    let whole : bytes ≡ osc_string (tags xs) ++ flat_map argument xs = parts
    ∙ ap (λ (r : List ℕ). osc_string (44 ∷ kinds) ++ r) t.parts
    ∙ ap (λ (ks : List ℕ). osc_string (44 ∷ ks) ++ flat_map argument xs) (sym t.kinds_are) in
    subst (IsTagged a bytes) (ok_is (message a xs) c b.2) (refl, t.fit, whole)

tagged_takes : (a bs : List ℕ) (c : Content) → IsBytes (44 ∷ bs) → tagged_at a (44 ∷ bs) ≡ Ok c → IsTagged a (44 ∷ bs) c
unfolding tagged_at
tagged_takes a bs c fits e =
    let f = bind_ok (string_at (44 ∷ bs))
    (λ found. cond (list_all is_known_tag (drop 1 found.0))
    (all_args_at (drop 1 found.0) found.1 >>= λ xs. Ok (message a xs)) (Ok (discarded a))) c e in
    let t = f.0.0 in
    let values = f.0.1 in
    let s = string_takes (44 ∷ bs) t values f.1 in
    let comma = comma_first t values bs s.0 in
    let kinds = comma.0 in
    let dropped : drop 1 t ≡ kinds = ap (drop 1) comma.1 in
    let parts : 44 ∷ bs ≡ osc_string (44 ∷ kinds) ++ values = s.0
    ∙ ap (λ (u : List ℕ). osc_string u ++ values) comma.1 in
    let is_text : IsText (44 ∷ kinds) = subst IsText comma.1 s.1 in
    let behind : List ℕ → Result Content Fault = λ ks. all_args_at ks values >>= λ xs. Ok (message a xs) in
    let read : cond (list_all is_known_tag kinds) (behind kinds) (Ok (discarded a)) ≡ Ok c =
    ap (λ (ks : List ℕ). cond (list_all is_known_tag ks) (behind ks) (Ok (discarded a))) (sym dropped) ∙ f.2 in
    elim (chosen (list_all is_known_tag kinds) (behind kinds) (Ok (discarded a)) (Ok c) read) [
      | inl p ↦ tagged_message a (44 ∷ bs) kinds values c parts p.0
          (IsBytes-rest (44 ∷ bs) (osc_string t) values s.0 fits) p.1
      | inr p ↦ subst (IsTagged a (44 ∷ bs)) (ok_is (discarded a) c p.1)
          (refl, record { kinds = kinds; after = values; are_text = is_text.1; other = p.0; spelled = parts })
    ]

kinds_are_text : (xs : List Argument) → IsText (map tag xs)
kinds_are_text [] = tt
kinds_are_text (x ∷ xs) = (tag_is_text x, kinds_are_text xs)

tags_are_text : (xs : List Argument) → IsText (tags xs)
tags_are_text xs = (omega arith, kinds_are_text xs)

tagged_again : (a : List ℕ) (xs : List Argument) → AllByRecursion Fits xs
    → tagged_at a (osc_string (tags xs) ++ flat_map argument xs) ≡ Ok (message a xs)
unfolding tagged_at
tagged_again a xs h =
    let read = string_again (tags xs) (flat_map argument xs) (tags_are_text xs) in
    rw (read, known_tags xs, args_again xs h) refl

other_tags_again : (a rest : List ℕ) → IsOtherTags rest → tagged_at a rest ≡ Ok (discarded a)
unfolding tagged_at
other_tags_again a rest h =
    let read : string_at rest ≡ Ok (44 ∷ h.kinds, h.after) = ap string_at h.spelled
    ∙ string_again (44 ∷ h.kinds) h.after (omega arith, h.are_text) in
    rw (read, h.other) refl

-- with anything
abbrev IsBehind : List ℕ → List ℕ → Content → Type 0
IsBehind a rest (message b xs) = (b ≡ a) × AllByRecursion Fits xs
    × ((rest ≡ osc_string (tags xs) ++ flat_map argument xs) ⊎ ((xs ≡ []) × (rest ≡ [])))
IsBehind a rest (discarded b) = (b ≡ a) × (IsNoTag rest ⊎ IsOtherTags rest)
IsBehind a rest (bundle t cs) = ⊥

from_tagged : (a bytes : List ℕ) (c : Content) → IsTagged a bytes c → IsBehind a bytes c
from_tagged a bytes (message b xs) h = (h.0, h.1, inl h.2)
from_tagged a bytes (discarded b) h = (h.0, inr h.1)
from_tagged a bytes (bundle t cs) h = absurd h

behind_takes : (a rest : List ℕ) (c : Content) → IsBytes rest → after_address a rest ≡ Ok c → IsBehind a rest c
unfolding after_address
behind_takes a [] c fits e = subst (IsBehind a []) (ok_is (message a []) c e) (refl, tt, inr (refl, refl))
behind_takes a (b ∷ bs) c fits e =
    elim (chosen (eqb b 44) (tagged_at a (b ∷ bs)) (Ok (discarded a)) (Ok c) e) [
      | inl p ↦
          let comma : b ≡ 44 = eqb-true b 44 p.0 in
          let read : tagged_at a (44 ∷ bs) ≡ Ok c = ap (λ (n : ℕ). tagged_at a (n ∷ bs)) (sym comma) ∙ p.1 in
          let tagged : IsTagged a (44 ∷ bs) c = tagged_takes a bs c (subst (λ (n : ℕ). IsBytes (n ∷ bs)) comma fits)
          read in
          subst (λ (n : ℕ). IsBehind a (n ∷ bs) c) (sym comma) (from_tagged a (44 ∷ bs) c tagged)
      | inr p ↦ subst (IsBehind a (b ∷ bs)) (ok_is (discarded a) c p.1) (refl, inl (eqb-false b 44 p.0))
    ]

-- ---- messages

-- the text of an OSC-string that begins with a slash does
address_first : (a rest bs : List ℕ) → 47 ∷ bs ≡ osc_string a ++ rest → IsText a → IsAddress a
address_first [] rest bs e h = absurd cc
address_first (b ∷ t) rest bs e h = (cc, h.1)

address_is_text : (a : List ℕ) → IsAddress a → IsText a
address_is_text [] h = absurd h
address_is_text (b ∷ bs) h = let slash : b ≡ 47 = h.0 in (omega arith, h.1)

whole_message : (d : ℕ) (bytes a rest : List ℕ) (c : Content) → IsAddress a → bytes ≡ osc_string a ++ rest
    → IsBehind a rest c → IsPacket d bytes c
whole_message d bytes a rest (message b xs) address parts h =
    let spelled : (bytes ≡ message_text b xs) ⊎ ((xs ≡ []) × (bytes ≡ osc_string b)) = elim h.2 [
      | inl p ↦ inl (parts ∙ ap (λ (r : List ℕ). osc_string a ++ r) p
          ∙ ap (λ (t : List ℕ). osc_string t ++ (osc_string (tags xs) ++ flat_map argument xs)) (sym h.0))
      | inr p ↦ inr (
        p.0,
        parts ∙ ap (λ (r : List ℕ). osc_string a ++ r) p.1 ∙ append-nil (osc_string a)
            ∙ ap osc_string (sym h.0),
      )
    ] in
    (subst IsAddress (sym h.0) address, h.1, spelled)
whole_message d bytes a rest (discarded b) address parts h =
    (subst IsAddress (sym h.0) address, rest, parts ∙ ap (λ (t : List ℕ). osc_string t ++ rest) (sym h.0), h.1)
whole_message d bytes a rest (bundle t cs) address parts h = absurd h

pub message_takes : (d : ℕ) (bytes : List ℕ) (c : Content) → is_message_start bytes ≡ true → IsBytes bytes
    → message_at bytes ≡ Ok c → IsPacket d bytes c
unfolding message_at
message_takes d [] c start fits e = absurd cc
message_takes d (b ∷ bs) c start fits e =
    let a = bind_ok (string_at (b ∷ bs)) (λ a. after_address a.0 a.1) c e in
    let s = string_takes (b ∷ bs) a.0.0 a.0.1 a.1 in
    let slash : 47 ∷ bs ≡ osc_string a.0.0 ++ a.0.1 = ap (λ (n : ℕ). n ∷ bs) (sym (eqb-true b 47 start)) ∙ s.0 in
    whole_message d (b ∷ bs) a.0.0 a.0.1 c (address_first a.0.0 a.0.1 bs slash s.1) s.0
    (behind_takes a.0.0 a.0.1 c (IsBytes-rest (b ∷ bs) (osc_string a.0.0) a.0.1 s.0 fits) a.2)

-- what begins with an address begins a message
pub message_begins : (bytes a rest : List ℕ) → IsAddress a → bytes ≡ osc_string a ++ rest
    → is_message_start bytes ≡ true
message_begins bytes [] rest h e = absurd h
message_begins bytes (b ∷ bs) rest h e = ap is_message_start e ∙ eq-eqb b 47 h.0

behind_again : (bytes a rest : List ℕ) (c : Content) → IsAddress a → bytes ≡ osc_string a ++ rest
    → after_address a rest ≡ Ok c → message_at bytes ≡ Ok c
unfolding message_at
behind_again bytes a rest c address parts h =
    let read : string_at bytes ≡ Ok (a, rest) = ap string_at parts ∙ string_again a rest (address_is_text a address) in
    rw read h

-- one that is understood
abbrev BeginsAndReads : List ℕ → Content → Type 0
BeginsAndReads bytes c = (is_message_start bytes ≡ true) × (message_at bytes ≡ Ok c)

spelled_again : (bytes a rest : List ℕ) (c : Content) → IsAddress a → bytes ≡ osc_string a ++ rest
    → after_address a rest ≡ Ok c → BeginsAndReads bytes c
spelled_again bytes a rest c address parts h =
    (message_begins bytes a rest address parts, behind_again bytes a rest c address parts h)

pub message_again : (bytes a : List ℕ) (xs : List Argument) → IsMessage bytes a xs → BeginsAndReads bytes (message a xs)
unfolding after_address
message_again bytes a xs h =
    elim h.2 [
      | inl p ↦ spelled_again bytes a (osc_string (tags xs) ++ flat_map argument xs) (message a xs) h.0 p
          (tagged_again a xs h.1)
      | inr p ↦
          let said : Result Content Fault → Type 0 = λ r. after_address a [] ≡ r in
          spelled_again bytes a [] (message a xs) h.0 (p.1 ∙ sym (append-nil (osc_string a)))
          (subst (λ (ys : List Argument). said (Ok (message a ys))) (sym p.0) refl)
    ]

no_tag_again : (a rest : List ℕ) → IsNoTag rest → after_address a rest ≡ Ok (discarded a)
unfolding after_address
no_tag_again a [] h = absurd h
no_tag_again a (b ∷ bs) h = rw (ne_eqb b 44 h) refl

other_tags_behind : (a rest : List ℕ) → IsOtherTags rest → after_address a rest ≡ Ok (discarded a)
unfolding after_address
other_tags_behind a rest h =
    let r : List ℕ = osc_string (44 ∷ h.kinds) ++ h.after in
    let begins : after_address a r ≡ tagged_at a r = refl in
    ap (after_address a) h.spelled ∙ begins ∙ ap (tagged_at a) (sym h.spelled) ∙ other_tags_again a rest h

pub discarded_again : (bytes a : List ℕ) → IsDiscarded bytes a → BeginsAndReads bytes (discarded a)
discarded_again bytes a h =
    elim h.3 [
      | inl p ↦ spelled_again bytes a h.1 (discarded a) h.0 h.2 (no_tag_again a h.1 p)
      | inr p ↦ spelled_again bytes a h.1 (discarded a) h.0 h.2 (other_tags_behind a h.1 p)
    ]
