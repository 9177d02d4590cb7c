-- Where the page is asked, and by whom.
use Rattle.std.specs.Prelude.{◌≡◌, ◌≢◌, ℕ, ◌==◌, ◌<◌, ◌≤◌, ◌⊎◌, Bool, ◌||◌, List, ◌++◌, length, codes, ⊤, Option, None}
use Rattle.std.specs.Prelude.{Some, option_map}
use Rattle.std.specs.Prelude.{IfSome, IsTrue}
use Rattle.std.specs.Char.{is_ascii_digit, is_ascii_lowercase}
use Rattle.std.specs.List.{list_all}
use Rattle.std.specs.Fmt.{decimal}
use Rattle.cue_request.specs.declared.identity.PageIdentity.{PageIdentity}
use Rattle.cue_request.specs.declared.identity.Purpose.{Purpose}
use Rattle.cue_request.specs.declared.identity.Purpose.TheVariants as purpose

-- ---- what the page is for

-- its buttons are pressed
abbrev pub IsPlayed : Purpose → Type 0
IsPlayed (purpose.Plays lock) = ⊤
IsPlayed (purpose.Shows name) = ⊥

-- the name that a proxy gives it: only a page that shows has one
abbrev pub name_of : Purpose → Option (List ℕ)
name_of (purpose.Plays lock) = None
name_of (purpose.Shows name) = option_map (λ v. v.now) name

-- a byte that may stand in a name as browsers say it: a letter in lower case, a digit, a dash or a point
abbrev pub is_name_byte : ℕ → Bool
is_name_byte b = is_ascii_lowercase b || (is_ascii_digit b || (b == 45 || b == 46))

-- what can stand as a name before a port: up to 253 such bytes, and one at least
abbrev pub IsPlainName : List ℕ → Type 0
IsPlainName text = (0 < length text) × (length text ≤ 253) × IsTrue (list_all is_name_byte text)

-- a port that a browser says after a name; those that are usual it leaves out
abbrev pub IsSaid : ℕ → Type 0
IsSaid port = (1 ≤ port) × (port ≤ 65535) × (port ≢ 80) × (port ≢ 443)

-- such a port in decimal
abbrev pub IsPort : List ℕ → Type 0
IsPort text = (port : ℕ) × (text ≡ decimal port) × IsSaid port

-- A name, and a port after a colon.
pub record IsNameWithPort (text : List ℕ) : Type 0 where
  pub name : List ℕ
  pub port : List ℕ
  pub joined : text ≡ name ++ (codes ":" ++ port)
  pub plain : IsPlainName name
  pub number : IsPort port

-- what can be the name of the page: a name alone, or with a port
abbrev pub IsName : List ℕ → Type 0
IsName text = IsPlainName text ⊎ IsNameWithPort text

-- ---- its hosts

-- this machine, at the port
abbrev pub IsHomeWith : ℕ → List ℕ → Type 0
IsHomeWith port host = (host ≡ codes "127.0.0.1:" ++ decimal port) ⊎ (host ≡ codes "localhost:" ++ decimal port)

-- this machine without a port, which stands for port 80 (RFC 9110, section 4.2.1)
abbrev pub IsHomeAlone : ℕ → List ℕ → Type 0
IsHomeAlone port host = (port ≡ 80) × ((host ≡ codes "127.0.0.1") ⊎ (host ≡ codes "localhost"))

-- this machine, at the port of the page
abbrev pub IsHome : ℕ → List ℕ → Type 0
IsHome port host = IsHomeWith port host ⊎ IsHomeAlone port host

-- the name that a proxy gives the page, letter by letter
abbrev pub IsNamed : PageIdentity → List ℕ → Type 0
IsNamed identity host = name_of identity.purpose ≡ Some host

-- a host at which the page is asked: this machine, or its name
abbrev pub IsHostOf : PageIdentity → List ℕ → Type 0
IsHostOf identity host = IsHome identity.port host ⊎ IsNamed identity host

-- ---- its origins

-- the origin of a page that was read at this host
abbrev pub origin_of : List ℕ → List ℕ
origin_of host = codes "http://" ++ host

-- the same over TLS
abbrev pub safe_origin_of : List ℕ → List ℕ
safe_origin_of host = codes "https://" ++ host

-- an origin of a page that was read at this host: over TLS only by its name
abbrev pub IsOriginOf : PageIdentity → List ℕ → List ℕ → Type 0
IsOriginOf identity host origin = (origin ≡ origin_of host) ⊎ (IsNamed identity host × (origin ≡ safe_origin_of host))

-- a page of another site made the browser ask (Fetch Metadata, section 2.3)
abbrev pub IsOfOthers : Option (List ℕ) → Type 0
IsOfOthers site = site ≡ Some (codes "cross-site")

-- ---- who asks

-- It came to a host of the page, and from no page of another origin.
pub record IsAskedHere (identity : PageIdentity) (host origin : Option (List ℕ)) : Type 0 where
  pub at : List ℕ
  pub named : host ≡ Some at
  pub here : IsHostOf identity at
  pub own : IfSome origin (λ o. IsOriginOf identity at o)

-- It came to this machine, from a page of this origin, with the token of the page.
pub record IsFromPage (identity : PageIdentity) (host origin token : Option (List ℕ)) : Type 0 where
  pub at : List ℕ
  pub named : host ≡ Some at
  pub home : IsHome identity.port at
  pub own : origin ≡ Some (origin_of at)
  pub knows : token ≡ Some identity.token.now
