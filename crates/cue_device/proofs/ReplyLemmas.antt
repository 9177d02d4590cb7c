-- What is no reply to an abort.
use Rattle.std.proofs.Common.{◌≡◌, ◌≢◌, ℕ, List, ◌++◌, false, IsTrue, drop, sym, ap, ◌∙◌}
use Rattle.cue_osc.specs.Spelling.{osc_string}
use Rattle.cue_device.specs.declared.over_bytes.TheConstants.{REPLY}
use Rattle.cue_device.specs.declared.words.Answer.TheVariants.{Abort}
use Rattle.cue_device.specs.Datagrams.{IsReply, answer_address}

-- no test is both
pub no_true : {A : Type 0} → IsTrue false → A
no_true h = absurd cc

-- the datagram does not begin as a reply
pub begins_otherwise : (d : ℕ) (datagram : List ℕ) → ((rest : List ℕ) → datagram ≢ REPLY ++ rest) → IsReply d datagram
    → ⊥
begins_otherwise d datagram none r = none (osc_string (answer_address d (Abort 0)) ++ r.counts) r.text

-- its text is not the address of an abort
pub says_otherwise : (d : ℕ) (datagram rest abort : List ℕ) → datagram ≡ REPLY ++ rest
    → abort ≡ osc_string (answer_address d (Abort 0)) → ((x : List ℕ) → rest ≢ abort ++ x) → IsReply d datagram → ⊥
says_otherwise d datagram rest abort e is none r =
    none r.counts (ap (λ (l : List ℕ). drop 16 l) (sym e ∙ r.text) ∙ ap (λ (a : List ℕ). a ++ r.counts) (sym is))
