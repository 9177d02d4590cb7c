-- Which address a text names.
use Rattle.std.proofs.Common.{◌≡◌, ◌∙◌, ℕ, true, false, zero, suc, ◌<◌, ◌^◌, List, [], ◌∷◌, get_or, refl, sym, ap, subst, lit<}
use Rattle.std.proofs.lemmas.Bool.{false≢true}
use Rattle.std.specs.Int.{w32, from_be_bytes, to_be_bytes}
use Rattle.std.specs.Net.Addr.{ipv4_bits}
use Rattle.std.specs.Net.Grammar.{IsDotted, IsPortText, IsSocketV4Text}
use Rattle.std.specs.declared.net.socket_addr.SocketAddrV4.{SocketAddrV4}
use Rattle.std.proofs.NetLemmas.Theorems.{IsSocketV4Text_unique}
use Rattle.cue_osc.proofs.FieldLemmas.{wide32}
use Rattle.cue_relay.specs.Addresses.{Names}
use Rattle.cue_relay.specs.Status.{is_address}
use Rattle.cue_relay.specs.declared.route.Address.{Address}

-- an address as the text's reader has it
abbrev pub socket_of : Address → SocketAddrV4
socket_of a = record { ip = record { octets = to_be_bytes w32 a.host }; port = a.port }

-- what names an address is its text
pub names-text : (text : List ℕ) (a : Address) → Names text a → IsSocketV4Text text (socket_of a)
names-text text a n = (n.host, n.port, n.spelled, n.is_host, n.is_port)

four-small : (a b c d : ℕ) → a < 256 → b < 256 → c < 256 → d < 256 → (i : ℕ) → get_or (a ∷ b ∷ c ∷ d ∷ []) i 0 < 256
four-small a b c d ha hb hc hd zero = ha
four-small a b c d ha hb hc hd (suc zero) = hb
four-small a b c d ha hb hc hd (suc (suc zero)) = hc
four-small a b c d ha hb hc hd (suc (suc (suc zero))) = hd
four-small a b c d ha hb hc hd (suc (suc (suc (suc i)))) = lit< tt

-- the octets of a text, and the number that they are
dotted-back : (text octets : List ℕ) → IsDotted text octets → to_be_bytes w32 (from_be_bytes w32 octets) ≡ octets
dotted-back text octets o =
    let four : List ℕ = o.a ∷ o.b ∷ o.c ∷ o.d ∷ [] in
    let back : to_be_bytes w32 (from_be_bytes w32 four) ≡ four =
    wide32.back four refl (four-small o.a o.b o.c o.d o.fit.0 o.fit.1 o.fit.2 o.fit.3) in
    ap (λ (x : List ℕ). to_be_bytes w32 (from_be_bytes w32 x)) o.value ∙ back ∙ sym o.value

-- and its text names it
pub text-names : (text : List ℕ) (s : SocketAddrV4) (a : Address) → a.host ≡ ipv4_bits s.ip → a.port ≡ s.port
    → IsSocketV4Text text s → Names text a
unfolding ipv4_bits
text-names text s a host port t = record {
  host = t.0;
  port = t.1;
  spelled = t.2;
  is_host = subst (IsDotted t.0) (sym (ap (to_be_bytes w32) host ∙ dotted-back t.0 s.ip.octets t.3)) t.3;
  is_port = subst (IsPortText t.1) (sym port) t.4;
}

-- an address whose text names another one, too, is that one
pub names-one : (text : List ℕ) (s : SocketAddrV4) (b a : Address) → b.host ≡ ipv4_bits s.ip → b.port ≡ s.port
    → IsSocketV4Text text s → a.host < 2 ^ 32 → Names text a → b ≡ a
unfolding ipv4_bits
names-one text s b a host port t low n =
    let one : s ≡ socket_of a = IsSocketV4Text_unique text s (socket_of a) t (names-text text a n) in
    let is_host : b.host ≡ a.host = host ∙ ap (λ (x : SocketAddrV4). from_be_bytes w32 x.ip.octets) one
    ∙ wide32.again a.host low in
    let is_port : b.port ≡ a.port = port ∙ ap (λ (x : SocketAddrV4). x.port) one in
    λ i. record { host = is_host i; port = is_port i }

-- no address with a host and a port is one that has neither
pub names-none : (text : List ℕ) (s : SocketAddrV4) (b a : Address) → b.host ≡ ipv4_bits s.ip → b.port ≡ s.port
    → IsSocketV4Text text s → is_address b ≡ false → a.host < 2 ^ 32 → is_address a ≡ true → Names text a → ⊥
names-none text s b a host port t unfit low fit n =
    absurd (false≢true (sym unfit ∙ ap is_address (names-one text s b a host port t low n) ∙ fit))
