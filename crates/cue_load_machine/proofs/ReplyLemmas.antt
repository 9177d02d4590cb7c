-- One reply more.
use Rattle.std.proofs.Common.{◌≡◌, ℕ, ◌-◌, false, List, [], ◌∷◌, ◌++◌, length, Option, Some, None}
use Rattle.std.proofs.Common.{refl, sym, ap, ◌∙◌, arith, append_assoc, append-nil, length-append}
use Rattle.std.specs.Prelude.{option_to_list, slice_set}
use Rattle.cue_machine.specs.Living.{Turn}
use Rattle.cue_desk.specs.declared.replying.Replied.{Replied}
use Rattle.cue_load_machine.specs.declared.asks.Ask.{Ask}
use Rattle.cue_load_machine.specs.declared.asks.Refusal.{Refusal}
use Rattle.cue_load_machine.specs.declared.stage.Waits.{Waits}
use Rattle.cue_load_machine.specs.Asks.{stops_by}
use Rattle.cue_load_machine.specs.Lives.{AllGoOn, NoneRefused, put, replies_in, since_by, since_in, waits_after}
use Rattle.cue_load_machine.specs.Lives.{waits_by}
use Rattle.cue_load_machine.specs.Stages.{next_slot}
use Rattle.cue_load_machine.specs.Steps.{is_refused, reply_to}

pub replies_more : (port : ℕ) (a : Ask) (socket : ℕ) (ts : List Turn) (t : Turn)
    → replies_in port a socket (ts ++ t ∷ [])
    ≡ replies_in port a socket ts ++ option_to_list (reply_to port a socket t.heard.input t.heard.bytes)
replies_more port a socket [] t = append-nil (option_to_list (reply_to port a socket t.heard.input t.heard.bytes))
replies_more port a socket (u ∷ ts) t =
    let first = option_to_list (reply_to port a socket u.heard.input u.heard.bytes) in
    ap (λ (rs : List Replied). first ++ rs) (replies_more port a socket ts t)
    ∙ sym (append_assoc first (replies_in port a socket ts)
    (option_to_list (reply_to port a socket t.heard.input t.heard.bytes)))

-- ---- what is waited for

pub waits_more : (port : ℕ) (a : Ask) (socket : ℕ) (ts : List Turn) (t : Turn) (w : Waits)
    → waits_after port a socket (ts ++ t ∷ []) w
    ≡ waits_by (waits_after port a socket ts w) t.heard.now (reply_to port a socket t.heard.input t.heard.bytes)
waits_more port a socket [] t w = refl
waits_more port a socket (u ∷ ts) t w =
    waits_more port a socket ts t
    (waits_by w u.heard.now (reply_to port a socket u.heard.input u.heard.bytes))

of_by : (w : Waits) (now : ℕ) (q : Option Replied) → (waits_by w now q).of ≡ w.of
of_by w now None = refl
of_by w now (Some r) = refl

pub of_is : (port : ℕ) (a : Ask) (socket : ℕ) (ts : List Turn) (w : Waits)
    → (waits_after port a socket ts w).of ≡ w.of
of_is port a socket [] w = refl
of_is port a socket (t ∷ ts) w =
    let q : Option Replied = reply_to port a socket t.heard.input t.heard.bytes in
    of_is port a socket ts (waits_by w t.heard.now q) ∙ of_by w t.heard.now q

since_is_by : (w : Waits) (now : ℕ) (q : Option Replied) → (waits_by w now q).since ≡ since_by w.since now q
since_is_by w now None = refl
since_is_by w now (Some r) = refl

pub since_is : (port : ℕ) (a : Ask) (socket : ℕ) (ts : List Turn) (w : Waits)
    → (waits_after port a socket ts w).since ≡ since_in port a socket ts w.since
since_is port a socket [] w = refl
since_is port a socket (t ∷ ts) w =
    let q : Option Replied = reply_to port a socket t.heard.input t.heard.bytes in
    since_is port a socket ts (waits_by w t.heard.now q)
    ∙ ap (λ (n : ℕ). since_in port a socket ts n) (since_is_by w t.heard.now q)

rest_by : (w : Waits) (now : ℕ) (q : Option Replied) → (waits_by w now q).rest ≡ w.rest - length (option_to_list q)
rest_by w now None = omega arith
rest_by w now (Some r) = omega arith

pub rest_is : (port : ℕ) (a : Ask) (socket : ℕ) (ts : List Turn) (w : Waits)
    → (waits_after port a socket ts w).rest ≡ w.rest - length (replies_in port a socket ts)
rest_is port a socket [] w = omega arith
rest_is port a socket (t ∷ ts) w =
    let q : Option Replied = reply_to port a socket t.heard.input t.heard.bytes in
    let rest = rest_is port a socket ts (waits_by w t.heard.now q) in
    let first = rest_by w t.heard.now q in
    let all = length-append (option_to_list q) (replies_in port a socket ts) in
    omega (arith, rest, first, all)

-- the place after that of so many replies
abbrev pub slot_after : ℕ → List Replied → ℕ
slot_after slot [] = slot
slot_after slot (r ∷ rs) = slot_after (next_slot slot) rs

slot_by : (w : Waits) (now : ℕ) (q : Option Replied) (rs : List Replied)
    → slot_after (waits_by w now q).slot rs ≡ slot_after w.slot (option_to_list q ++ rs)
slot_by w now None rs = refl
slot_by w now (Some r) rs = refl

pub slot_is : (port : ℕ) (a : Ask) (socket : ℕ) (ts : List Turn) (w : Waits)
    → (waits_after port a socket ts w).slot ≡ slot_after w.slot (replies_in port a socket ts)
slot_is port a socket [] w = refl
slot_is port a socket (t ∷ ts) w =
    let q : Option Replied = reply_to port a socket t.heard.input t.heard.bytes in
    slot_is port a socket ts (waits_by w t.heard.now q) ∙ slot_by w t.heard.now q (replies_in port a socket ts)

-- ---- what is kept, and what goes on

pub put_more : (answers : List (Option Replied)) (slot : ℕ) (rs : List Replied) (r : Replied)
    → put answers slot (rs ++ r ∷ []) ≡ slice_set (put answers slot rs) (slot_after slot rs) (Some r)
put_more answers slot [] r = refl
put_more answers slot (q ∷ rs) r = put_more (slice_set answers slot (Some q)) (next_slot slot) rs r

pub go_on_more : (f : Refusal) (rs : List Replied) (r : Replied) → AllGoOn f rs → stops_by f r ≡ None
    → AllGoOn f (rs ++ r ∷ [])
go_on_more f [] r h e = (e, tt)
go_on_more f (q ∷ rs) r h e = (h.0, go_on_more f rs r h.1 e)

pub none_more : (socket : ℕ) (ts : List Turn) (t : Turn) → NoneRefused socket ts
    → is_refused socket t.heard.input ≡ false → NoneRefused socket (ts ++ t ∷ [])
none_more socket [] t h e = (e, tt)
none_more socket (u ∷ ts) t h e = (h.0, none_more socket ts t h.1 e)
