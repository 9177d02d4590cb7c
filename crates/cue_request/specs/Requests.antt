-- Which requests are commands.
use Rattle.std.specs.Prelude.{◌≡◌, ℕ, ◌≤◌, false, List, length, take, map, codes, ⊤, Option, Some, option_map}
use Rattle.std.specs.Fmt.{decimal}
use Rattle.httparse.specs.Grammar.{ReadsRequest, RequestHead}
use Rattle.httparse.specs.Spans.{name_and_value}
use Rattle.cue_request.specs.Identity.{IsAskedHere, IsFromPage, IsOfOthers, IsPlayed}
use Rattle.cue_request.specs.Fields.{has_field, has_many, only_value}
use Rattle.cue_request.specs.declared.identity.PageIdentity.{PageIdentity}
use Rattle.cue_request.specs.declared.request.Head.{Head}
use Rattle.cue_request.specs.declared.request.Asked.{Asked}
use Rattle.cue_request.specs.declared.request.Asked.TheVariants as asked

-- the value of the field of this name, if exactly one has it
abbrev pub field : RequestHead → List ℕ → Option (List ℕ)
field head name = only_value name (map name_and_value head.fields)

-- What is looked at of a head is what was read there.
pub record IsHeadOf (head : Head) (read : RequestHead) : Type 0 where
  pub method : head.method.now ≡ read.method
  pub target : head.target.now ≡ read.target
  pub host : option_map (λ v. v.now) head.host ≡ field read (codes "host")
  pub origin : option_map (λ v. v.now) head.origin ≡ field read (codes "origin")
  pub token : option_map (λ v. v.now) head.token ≡ field read (codes "cuedesk-token")
  pub word : option_map (λ v. v.now) head.word ≡ field read (codes "cuedesk-word")
  pub length : option_map (λ v. v.now) head.length ≡ field read (codes "content-length")
  pub site : option_map (λ v. v.now) head.site ≡ field read (codes "sec-fetch-site")
  pub many_sites : head.many_sites ≡ has_many (codes "sec-fetch-site") (map name_and_value read.fields)
  pub is_coded : head.is_coded ≡ has_field (codes "transfer-encoding") (map name_and_value read.fields)

-- Bytes begin with a head by the grammar of RFC 9112 that came to a host of the page, and from no page of another
-- origin or site; it says once at most whose page asked, and nothing of a coding by which its body would have no length
-- (RFC 9112, section 6.1).
pub record IsAsked (identity : PageIdentity) (bytes : List ℕ) : Type 0 where
  pub read : RequestHead
  pub rest : List ℕ
  pub reads : ReadsRequest bytes read rest
  pub here : IsAskedHere identity (field read (codes "host")) (field read (codes "origin"))
  pub own : IsOfOthers (field read (codes "sec-fetch-site")) → ⊥
  pub single : has_many (codes "sec-fetch-site") (map name_and_value read.fields) ≡ false
  pub uncoded : has_field (codes "transfer-encoding") (map name_and_value read.fields) ≡ false

-- A head is that of a command: our own page asks it, whose buttons are pressed, and says that its body has so many
-- bytes.
pub record IsCommandHead (identity : PageIdentity) (head : Head) (size : ℕ) : Type 0 where
  pub played : IsPlayed identity.purpose
  pub method : head.method.now ≡ codes "POST"
  pub target : head.target.now ≡ codes "/command"
  pub sent : IsFromPage identity (option_map (λ v. v.now) head.host) (option_map (λ v. v.now) head.origin)
      (option_map (λ v. v.now) head.token)
  pub short : size ≤ 256
  pub length : option_map (λ v. v.now) head.length ≡ Some (decimal size)

-- Bytes begin with a command: a head by the grammar of RFC 9112 that our own page sent, whose buttons are pressed, this
-- short body, which is as long as the head says, and what the head has of the word of the lock.
pub record IsCommand (identity : PageIdentity) (bytes body : List ℕ) (word : Option (List ℕ)) : Type 0 where
  pub played : IsPlayed identity.purpose
  pub read : RequestHead
  pub rest : List ℕ
  pub reads : ReadsRequest bytes read rest
  pub method : read.method ≡ codes "POST"
  pub target : read.target ≡ codes "/command"
  pub sent : IsFromPage identity (field read (codes "host")) (field read (codes "origin"))
      (field read (codes "cuedesk-token"))
  pub short : length body ≤ 256
  pub whole : field read (codes "content-length") ≡ Some (decimal (length body))
  pub follows : body ≡ take (length body) rest
  pub says : word ≡ field read (codes "cuedesk-word")

-- if a command is wished, this holds of the length of its body
abbrev pub OnCommand : Asked → (ℕ → Type 0) → Type 0
OnCommand (asked.Command size) holds = holds size
OnCommand asked.Page holds = ⊤
OnCommand asked.Board holds = ⊤
OnCommand asked.ShowFile holds = ⊤
