-- What was written of a status is read back, and nothing else is read.
use Rattle.std.proofs.Common.{◌≡◌, ◌≢◌, ◌∙◌, ℕ, zero, suc, ◌+◌, ◌≤◌, Bool, true, false, ◌&&◌, ◌==◌, cond}
use Rattle.std.proofs.Common.{List, [], ◌∷◌, ◌++◌, length, Option, Some, None, refl, sym, ap, subst, append_assoc, arith, ◌⊎◌, inl, inr}
use Rattle.std.specs.Char.{is_ascii_digit}
use Rattle.std.specs.List.{AllByRecursion, flat_map, list_all}
use Rattle.std.specs.Option.{option_map}
use Rattle.std.specs.Prelude.{codes, decimal, IsTrue, IfSome, IfNone}
use Rattle.std.proofs.lemmas.List.{length-append}
use Rattle.std.proofs.lemmas.Option.{none-some, same_Some}
use Rattle.cue_show.proofs.TestLemmas.{both, join}
use Rattle.cue_show.proofs.TextLemmas.{same_text-itself, same_text-true}
use Rattle.cue_show.specs.Number.{same_text}
use Rattle.cue_relay.specs.declared.motion.Motion.{Motion}
use Rattle.cue_relay.specs.declared.motion.Motion.TheVariants.{Unknown, Moving, Over}
use Rattle.cue_relay.specs.declared.relaying.Counts.{Counts}
use Rattle.cue_relay.specs.declared.status.Ordered.{Ordered}
use Rattle.cue_relay.specs.declared.status.Ordered.TheVariants.{Standby, Go, Cancel}
use Rattle.cue_relay.specs.declared.status.Seen.{Seen}
use Rattle.cue_relay.specs.declared.status.Status.{Status}
use Rattle.cue_relay.specs.Claims.{are_claims, kept}
use Rattle.cue_relay.specs.Fitting.{FitsCounts, FitsSeen, FitsStatus}
use Rattle.cue_relay.specs.Pieces.{◌>>=◌, after, number_after}
use Rattle.cue_relay.specs.Reading.{and_more, counts_at, device_at, devices_at, head_at, is_written, read, said_at}
use Rattle.cue_relay.specs.Reading.{seen_at, seen_of}
use Rattle.cue_relay.specs.Status.{Said, address_text, claims_text, counted, head_text, heard_text, is_address, is_seen}
use Rattle.cue_relay.specs.Status.{is_status, motion_text, ordered_text, place_text, said_of, seen_text, silent_text}
use Rattle.cue_relay.specs.Status.{status_text}
use Rattle.cue_relay.proofs.PieceLemmas.{after-words, number_after-is, starts}
use Rattle.cue_relay.proofs.StatusLemmas.{IsNext, address-is, after_ordered, claims-are, device-is, heard-is}
use Rattle.cue_relay.proofs.StatusLemmas.{motion-is, ordered-is, silent-is}

-- ---- a device

-- what the lines of a device say after its address
abbrev known_text : Seen → List ℕ
known_text s = heard_text s.heard ++ (ordered_text s.ordered ++ (motion_text s.motion
    ++ (silent_text s.silent ++ claims_text s.claims)))

regrouped : (s : Seen) (rest : List ℕ) → known_text s ++ rest
    ≡ heard_text s.heard ++ (ordered_text s.ordered ++ after_ordered s.motion s.silent (claims_text s.claims ++ rest))
regrouped s rest =
    append_assoc (heard_text s.heard) (ordered_text s.ordered ++ (motion_text s.motion
    ++ (silent_text s.silent ++ claims_text s.claims))) rest
    ∙ ap (λ (x : List ℕ). heard_text s.heard ++ x)
    (append_assoc (ordered_text s.ordered) (motion_text s.motion ++ (silent_text s.silent ++ claims_text s.claims)) rest
    ∙ ap (λ (x : List ℕ). ordered_text s.ordered ++ x)
    (append_assoc (motion_text s.motion) (silent_text s.silent ++ claims_text s.claims) rest
    ∙ ap (λ (x : List ℕ). motion_text s.motion ++ x) (append_assoc (silent_text s.silent) (claims_text s.claims) rest)))

ordered-stops : (s : Seen) (rest : List ℕ)
    → starts is_ascii_digit (ordered_text s.ordered ++ after_ordered s.motion s.silent rest) ≡ false
ordered-stops s rest = by s.ordered s.motion s.silent
  where
    by : (o : Option Ordered) (m : Motion) (b : Bool)
        → starts is_ascii_digit (ordered_text o ++ after_ordered m b rest) ≡ false
    by (Some Standby) m b = refl
    by (Some Go) m b = refl
    by (Some Cancel) m b = refl
    by None Unknown true = refl
    by None Unknown false = refl
    by None (Moving seq) b = refl
    by None (Over seq) b = refl

seen-known : (s : Seen) (rest : List ℕ) → FitsSeen s → IsNext rest
    → seen_of s.device s.address (known_text s ++ rest) ≡ Some (s, rest)
unfolding seen_of
seen-known s rest fits next =
    let told = (both (is_address s.address) (are_claims s.claims) fits.is_seen).1 in
    let more : List ℕ = claims_text s.claims ++ rest in
    ap (seen_of s.device s.address) (regrouped s rest)
    ∙ rw (
      heard-is s.heard (ordered_text s.ordered ++ after_ordered s.motion s.silent more) fits.heard
          (ordered-stops s more),
      ordered-is s.ordered s.motion s.silent more,
      motion-is s.motion s.silent more fits.motion,
      silent-is s.silent more,
      after-words (codes "\n") more,
      claims-are s.claims rest fits.position told next,
    ) refl

heard-stops : (s : Seen) (rest : List ℕ) → starts is_ascii_digit (known_text s ++ rest) ≡ false
unfolding heard_text
heard-stops s rest = by s.heard
  where
    by : (o : Option ℕ) → starts is_ascii_digit ((heard_text o ++ (ordered_text s.ordered ++ (motion_text s.motion
        ++ (silent_text s.silent ++ claims_text s.claims)))) ++ rest) ≡ false
    by None = refl
    by (Some now) = refl

placed : (s : Seen) (rest : List ℕ) → seen_text s ++ rest
    ≡ counted (codes "device ") s.device ++ (codes " " ++ (address_text s.address ++ (known_text s ++ rest)))
unfolding seen_text place_text
placed s rest =
    append_assoc (place_text s.device s.address) (known_text s) rest
    ∙ append_assoc (counted (codes "device ") s.device) (codes " " ++ address_text s.address) (known_text s ++ rest)
    ∙ ap (λ (x : List ℕ). counted (codes "device ") s.device ++ x)
    (append_assoc (codes " ") (address_text s.address) (known_text s ++ rest))

seen-is : (s : Seen) (rest : List ℕ) → FitsSeen s → IsNext rest → seen_at (seen_text s ++ rest) ≡ Some (s, rest)
unfolding seen_at
seen-is s rest fits next =
    let known : List ℕ = known_text s ++ rest in
    ap seen_at (placed s rest)
    ∙ rw (
      device-is s.device (codes " " ++ (address_text s.address ++ known)) fits.device refl,
      address-is s.address known fits.address (heard-stops s rest),
      seen-known s rest fits next,
    ) refl

-- ---- all devices

-- the lines of these devices, and the end
abbrev devices_text : List Seen → List ℕ
devices_text xs = flat_map seen_text xs ++ codes "end\n"

next-is : (xs : List Seen) → IsNext (devices_text xs)
next-is [] = inr refl
next-is (x ∷ xs) =
    let more : List ℕ = codes " " ++ (address_text x.address ++ (known_text x ++ devices_text xs)) in
    inl (
      decimal x.device ++ more,
      append_assoc (seen_text x) (flat_map seen_text xs) (codes "end\n") ∙ placed x (devices_text xs)
          ∙ append_assoc (codes "device ") (decimal x.device) more,
    )

end-is : seen_at (codes "end\n") ≡ None
unfolding seen_at device_at number_after after
end-is = refl

devices-are : (n : ℕ) (xs : List Seen) → AllByRecursion FitsSeen xs → length xs ≤ n
    → devices_at n (devices_text xs) ≡ xs
devices-are zero [] fits room = refl
devices-are zero (x ∷ xs) fits room = absurd (omega (arith, room))
devices-are (suc n) [] fits room = ap (and_more (devices_at n)) end-is
devices-are (suc n) (x ∷ xs) fits room =
    ap (λ (t : List ℕ). and_more (devices_at n) (seen_at t))
    (append_assoc (seen_text x) (flat_map seen_text xs) (codes "end\n"))
    ∙ ap (and_more (devices_at n)) (seen-is x (devices_text xs) fits.0 (next-is xs))
    ∙ ap (λ (ys : List Seen). x ∷ ys) (devices-are n xs fits.1 (omega (arith, room)))

long : (s : Seen) → 1 ≤ length (seen_text s)
unfolding seen_text place_text
long s = omega arith

room-is : (xs : List Seen) → length xs ≤ length (devices_text xs)
room-is [] = omega arith
room-is (x ∷ xs) =
    let l = long x in
    let more = room-is xs in
    omega (
      arith,
      length-append (seen_text x ++ flat_map seen_text xs) (codes "end\n"),
      length-append (seen_text x) (flat_map seen_text xs),
      length-append (flat_map seen_text xs) (codes "end\n"),
    )

-- ---- the whole

counts-are : (c : Counts) (rest : List ℕ) → FitsCounts c → starts is_ascii_digit rest ≡ false
    → counts_at (counted (codes "\npassed ") c.passed ++ (counted (codes " lost ") c.lost
    ++ (counted (codes " dropped ") c.dropped ++ rest))) ≡ Some (c, rest)
unfolding counts_at
counts-are c rest fits stops =
    rw (
      number_after-is (codes "\npassed ") c.passed
          (counted (codes " lost ") c.lost ++ (counted (codes " dropped ") c.dropped ++ rest)) fits.passed refl,
      number_after-is (codes " lost ") c.lost (counted (codes " dropped ") c.dropped ++ rest) fits.lost refl,
      number_after-is (codes " dropped ") c.dropped rest fits.dropped stops,
    ) refl

five : (a b c d e rest : List ℕ)
    → (a ++ (b ++ (c ++ (d ++ e)))) ++ rest ≡ a ++ (b ++ (c ++ (d ++ (e ++ rest))))
five a b c d e rest = simp append_assoc

head-regrouped : (now : ℕ) (c : Counts) (rest : List ℕ) → head_text now c ++ rest
    ≡ counted (codes "relay 4 ") now ++ (counted (codes "\npassed ") c.passed ++ (counted (codes " lost ") c.lost
    ++ (counted (codes " dropped ") c.dropped ++ (codes "\n" ++ rest))))
unfolding head_text
head-regrouped now c rest =
    five (counted (codes "relay 4 ") now) (counted (codes "\npassed ") c.passed) (counted (codes " lost ") c.lost)
    (counted (codes " dropped ") c.dropped) (codes "\n") rest

head-is : (s : Said) (rest : List ℕ) → FitsStatus s
    → head_at (head_text s.now s.counts ++ rest) ≡ Some ((s.now, s.counts), rest)
unfolding head_at
head-is s rest fits =
    ap head_at (head-regrouped s.now s.counts rest)
    ∙ rw (
      number_after-is (codes "relay 4 ") s.now (counted (codes "\npassed ") s.counts.passed
          ++ (counted (codes " lost ") s.counts.lost ++ (counted (codes " dropped ") s.counts.dropped
          ++ (codes "\n" ++ rest)))) fits.now refl,
      counts-are s.counts (codes "\n" ++ rest) fits.counts refl,
      after-words (codes "\n") rest,
    ) refl

said-is : (s : Said) → FitsStatus s → said_at (status_text s) ≡ Some s
unfolding said_at
said-is s fits =
    rw (
      head-is s (devices_text s.devices) fits,
      devices-are (length (devices_text s.devices)) s.devices fits.devices (room-is s.devices),
    ) refl

all-seen : (xs : List Seen) → AllByRecursion FitsSeen xs → list_all is_seen xs ≡ true
all-seen [] fits = refl
all-seen (x ∷ xs) fits = join (is_seen x) (list_all is_seen xs) fits.0.is_seen (all-seen xs fits.1)

-- what was written is read back
read-back : (s : Said) → FitsStatus s → read (status_text s) ≡ Some s
unfolding read
read-back s fits =
    let written : is_written (status_text s) s ≡ true = join (is_status s)
    (same_text (status_text s) (status_text s)) (all-seen s.devices fits.devices) (same_text-itself (status_text s)) in
    rw (said-is s fits, written) refl

kept-is : (p : Said → Bool) (o : Option Said) (s : Said) → (o >>= kept p) ≡ Some s → p s ≡ true
kept-is p None s h = absurd (none-some s h)
kept-is p (Some x) s h = by (p x) refl h
  where
    by : (b : Bool) → p x ≡ b → cond b (Some x) None ≡ Some s → p s ≡ true
    by true e k = subst (λ (z : Said). p z ≡ true) (same_Some x s k) e
    by false e k = absurd (none-some s k)

written-is : (text : List ℕ) (s : Said) → read text ≡ Some s → is_written text s ≡ true
unfolding read
written-is text s h = kept-is (is_written text) (said_at text) s h

-- what is read is written so
pub found-is : (text : List ℕ) (o : Option Status) → option_map said_of o ≡ read text
    → IfSome o (λ s. text ≡ status_text (said_of s))
found-is text None h = tt
found-is text (Some s) h =
    let yes = written-is text (said_of s) (sym h) in
    sym (same_text-true (status_text (said_of s)) text
    (both (is_status (said_of s)) (same_text (status_text (said_of s)) text) yes).1)

-- by what a device may tell
pub fit-is : (text : List ℕ) (o : Option Status) → option_map said_of o ≡ read text
    → IfSome o (λ s. IsTrue (is_status (said_of s)))
fit-is text None h = tt
fit-is text (Some s) h =
    (both (is_status (said_of s)) (same_text (status_text (said_of s)) text)
    (written-is text (said_of s) (sym h))).0

-- and what is not read is written of no status
pub none-is : (text : List ℕ) (o : Option Status) → option_map said_of o ≡ read text
    → IfNone o ((s : Said) → FitsStatus s → text ≢ status_text s)
none-is text (Some s) h = tt
none-is text None h = λ s fits e. absurd (none-some s (h ∙ ap read e ∙ read-back s fits))
