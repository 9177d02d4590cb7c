-- What a connection asks.
use Rattle.std.proofs.Common.{◌≡◌, ◌∙◌, refl, sym, ap, subst, inl, inr, arith, ℕ, ◌≤◌, Bool, true, false, List, []}
use Rattle.std.proofs.Common.{◌++◌, length, take, drop, Option, None, Some}
use Rattle.std.specs.Prelude.{codes, if◌then◌else◌, nat_le, nat_lt, option_map}
use Rattle.std.specs.Fmt.{decimal}
use Rattle.std.proofs.lemmas.Bool.{leb-true}
use Rattle.std.proofs.lemmas.List.{append-nil, drop_all, length-take-le, take-append-drop}
use Rattle.httparse.specs.Grammar.{ReadsRequest, RequestHead, print_request}
use Rattle.cue_request.specs.declared.identity.PageIdentity.{PageIdentity}
use Rattle.cue_request.specs.declared.lock.Said.{Said}
use Rattle.cue_request.specs.declared.request.Asked.{Asked}
use Rattle.cue_request.specs.declared.request.Asked.TheVariants as asked
use Rattle.cue_request.specs.declared.request.Head.{Head}
use Rattle.cue_request.specs.declared.request.Refusal.{Refusal}
use Rattle.cue_request.specs.declared.request.Refusal.TheVariants as refusal
use Rattle.cue_request.specs.declared.request.TheConstants.{MAX_HEAD}
use Rattle.cue_request.specs.Identity.{IsFromPage}
use Rattle.cue_request.specs.Locks.{said_at}
use Rattle.cue_request.specs.Requests.{IsCommand, IsCommandHead, IsHeadOf, OnCommand, field}
use Rattle.cue_connection.specs.Asking.{AsksAfter, AsksBy, AsksEnded, AsksFor, AsksIn, AsksNow, BodyAsks, BodyAsksIf}
use Rattle.cue_connection.specs.Asking.{IsCommandThat}
use Rattle.cue_connection.specs.Connecting.{ReadsIf}
use Rattle.cue_connection.specs.declared.asking.Asking.{Asking}
use Rattle.cue_connection.specs.declared.asking.Asking.TheVariants as asking
use Rattle.cue_connection.specs.declared.connection.Connection.{Connection}
use Rattle.cue_connection.specs.declared.scanning.Scan.{Scan}
use Rattle.cue_connection.specs.declared.scanning.Scan.TheVariants as scan

-- what a head says of the word of the lock
abbrev word-of : Head → Option (List ℕ)
word-of head = option_map (λ v. v.now) head.word

-- a head that was read is a head whatever follows it
with-rest : (bytes rest : List ℕ) (read : RequestHead) → ReadsRequest bytes read (drop (length bytes) bytes)
    → ReadsRequest (bytes ++ rest) read rest
with-rest bytes rest read reads =
    let none : drop (length bytes) bytes ≡ [] = drop_all (length bytes) bytes (omega arith) in
    let whole : bytes ≡ print_request read =
    reads.1 ∙ ap (λ l. print_request read ++ l) none ∙ append-nil (print_request read) in
    (reads.0, ap (λ l. l ++ rest) whole)

-- it was sent by our own page, as was read
sent-by : (identity : PageIdentity) (head : Head) (read : RequestHead) → IsHeadOf head read
    → IsFromPage identity (option_map (λ v. v.now) head.host) (option_map (λ v. v.now) head.origin)
    (option_map (λ v. v.now) head.token)
    → IsFromPage identity (field read (codes "host")) (field read (codes "origin")) (field read (codes "cuedesk-token"))
sent-by identity head read is sent =
    subst (λ (x : Option (List ℕ)). IsFromPage identity x (field read (codes "origin"))
    (field read (codes "cuedesk-token"))) is.host
    (subst (λ (x : Option (List ℕ)). IsFromPage identity (option_map (λ v. v.now) head.host) x
    (field read (codes "cuedesk-token"))) is.origin
    (subst (λ (x : Option (List ℕ)). IsFromPage identity (option_map (λ v. v.now) head.host)
    (option_map (λ v. v.now) head.origin) x) is.token sent))

-- the head of a command is one with any body after it that is as long as it says
command-with : (identity : PageIdentity) (bytes rest : List ℕ) (head : Head) (read : RequestHead) (size : ℕ)
    → ReadsRequest bytes read (drop (length bytes) bytes) → IsHeadOf head read → IsCommandHead identity head size
    → size ≤ length rest → IsCommand identity (bytes ++ rest) (take size rest) (word-of head)
command-with identity bytes rest head read size reads is command long =
    let same : length (take size rest) ≡ size = length-take-le size rest long in
    let short : size ≤ 256 = command.short in
    record {
      played = command.played;
      read = read;
      rest = rest;
      reads = with-rest bytes rest read reads;
      method = sym is.method ∙ command.method;
      target = sym is.target ∙ command.target;
      sent = sent-by identity head read is command.sent;
      short = omega arith;
      whole = sym is.length ∙ command.length ∙ ap (λ n. Some (decimal n)) (sym same);
      follows = ap (λ n. take n rest) (sym same);
      says = is.word;
    }

pub asks_by : (identity : PageIdentity) (bytes : List ℕ) (head : Head) (read : RequestHead) (start : ℕ) (a : Asked)
    (said : Said) → ReadsRequest bytes read (drop start bytes) → start ≡ length bytes → IsHeadOf head read
    → OnCommand a (IsCommandHead identity head) → said ≡ said_at identity.purpose (word-of head)
    → AsksBy identity bytes (record { asked = a; said = said })
asks_by identity bytes head read start asked.Page said reads same is command says = tt
asks_by identity bytes head read start asked.Board said reads same is command says = tt
asks_by identity bytes head read start asked.ShowFile said reads same is command says = tt
asks_by identity bytes head read start (asked.Command size) said reads same is command says = λ rest long.
    let whole : ReadsRequest bytes read (drop (length bytes) bytes) =
    subst (λ (n : ℕ). ReadsRequest bytes read (drop n bytes)) same reads in
    record {
      word = word-of head;
      command = command-with identity bytes rest head read size whole is command long;
      says = says;
    }

-- ---- what is asked came

-- what is refused asks for nothing
refused-in : (identity : PageIdentity) (bytes : List ℕ) (a : Asking) (why : Refusal)
    → Some a ≡ Some (asking.Refused why) → AsksIn identity bytes a
refused-in identity bytes a why same =
    let e : a ≡ asking.Refused why = cc in
    subst (λ (x : Asking). AsksIn identity bytes x) (sym e) tt

-- what a body asks is in a command
body-in : (identity : PageIdentity) (bytes body : List ℕ) (said : Said) (a : Asking)
    → IsCommandThat identity bytes body said → BodyAsks body said a → AsksIn identity bytes a
body-in identity bytes body said asking.Page command asks = tt
body-in identity bytes body said asking.View command asks = tt
body-in identity bytes body said asking.ShowFile command asks = tt
body-in identity bytes body said (asking.Press None) command asks = tt
body-in identity bytes body said (asking.Press (Some p)) command asks =
    record {
      body = body;
      word = command.word;
      command = command.command;
      names = asks.0.names;
      says = asks.0.says ∙ command.says;
    }
body-in identity bytes body said (asking.Mark c) command asks =
    record { body = body; word = command.word; command = command.command; says = asks }
body-in identity bytes body said (asking.Refused why) command asks = tt

command-in : (v : Bool) (identity : PageIdentity) (head rest : List ℕ) (size : ℕ) (said : Said) (a : Asking)
    → nat_le size (length rest) ≡ v
    → ((more : List ℕ) → size ≤ length more → IsCommandThat identity (head ++ more) (take size more) said)
    → BodyAsksIf v (take size rest) said (Some a) → AsksIn identity (head ++ rest) a
command-in true identity head rest size said a whole by asks =
    body-in identity (head ++ rest) (take size rest) said a (by rest (leb-true size (length rest) whole)) asks
command-in false identity head rest size said a whole by asks = absurd cc

for-in : (q : Asked) (identity : PageIdentity) (head rest : List ℕ) (said : Said) (a : Asking)
    → AsksBy identity head (record { asked = q; said = said }) → AsksFor q said rest (Some a)
    → AsksIn identity (head ++ rest) a
for-in asked.Page identity head rest said a by asks =
    let e : a ≡ asking.Page = cc in
    subst (λ (x : Asking). AsksIn identity (head ++ rest) x) (sym e) tt
for-in asked.Board identity head rest said a by asks =
    let e : a ≡ asking.View = cc in
    subst (λ (x : Asking). AsksIn identity (head ++ rest) x) (sym e) tt
for-in asked.ShowFile identity head rest said a by asks =
    let e : a ≡ asking.ShowFile = cc in
    subst (λ (x : Asking). AsksIn identity (head ++ rest) x) (sym e) tt
for-in (asked.Command size) identity head rest said a by asks =
    command-in (nat_le size (length rest)) identity head rest size said a refl by asks

after-in : (identity : PageIdentity) (head rest : List ℕ) (a : Asking) → AsksAfter identity head rest (Some a)
    → AsksIn identity (head ++ rest) a
after-in identity head rest a (inl h) = for-in h.0.asked identity head rest h.0.said a h.1 h.2
after-in identity head rest a (inr h) = refused-in identity (head ++ rest) a h.0 h.1

ended-in : (v : Bool) (identity : PageIdentity) (n : ℕ) (bytes : List ℕ) (a : Asking)
    → AsksEnded v identity (take n bytes) (drop n bytes) (Some a) → AsksIn identity bytes a
ended-in true identity n bytes a asks =
    subst (λ (l : List ℕ). AsksIn identity l a) (take-append-drop n bytes)
    (after-in identity (take n bytes) (drop n bytes) a asks)
ended-in false identity n bytes a asks = refused-in identity bytes a refusal.LongHead asks

long-in : (v : Bool) (identity : PageIdentity) (bytes : List ℕ) (a : Asking)
    → Some a ≡ (if v then Some (asking.Refused refusal.LongHead) else None) → AsksIn identity bytes a
long-in true identity bytes a asks = refused-in identity bytes a refusal.LongHead asks
long-in false identity bytes a asks = absurd cc

now-in : (s : Scan) (identity : PageIdentity) (bytes : List ℕ) (a : Asking) → AsksNow identity s bytes (Some a)
    → AsksIn identity bytes a
now-in (scan.Open p left) identity bytes a asks = long-in (nat_lt MAX_HEAD (length bytes)) identity bytes a asks
now-in (scan.Ended n) identity bytes a asks = ended-in (nat_le n MAX_HEAD) identity n bytes a asks
now-in scan.NoHead identity bytes a asks = refused-in identity bytes a refusal.Unreadable asks

-- what a connection asks is in what came
pub reads_in : (v : Bool) (identity : PageIdentity) (c : Connection) (a : Asking) → ReadsIf v identity c (Some a)
    → AsksIn identity c.input.items a
reads_in true identity c a reads = now-in c.scan identity c.input.items a reads
reads_in false identity c a reads = absurd cc
