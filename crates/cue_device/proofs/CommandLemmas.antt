-- A command's datagram is its head, the two numbers, and in a standby the task.
use Rattle.std.proofs.Common.{◌≡◌, ◌≢◌, ℕ, List, [], ◌++◌, get_or, drop, refl, sym, ap, ◌∙◌, arith, lit<, ◌<◌}
use Rattle.std.specs.Int.{w32, to_be_bytes}
use Rattle.cue_device.specs.declared.asked.Command.{Command}
use Rattle.cue_device.specs.declared.asked.Command.TheVariants.{Standby, Go, Cancel}
use Rattle.cue_device.specs.declared.asked.Task.{Task}
use Rattle.cue_device.specs.declared.reading.TheConstants.{STANDBY, GO, CANCEL}
use Rattle.cue_device.specs.Datagrams.{IsFor, IsNumber, IsTask, command_text}
use Rattle.cue_device.proofs.ReadingLemmas.{task_text}

-- the two numbers, and what stands after them
abbrev pub numbered : ℕ → ℕ → List ℕ → List ℕ
numbered q d rest = to_be_bytes w32 q ++ (to_be_bytes w32 d ++ rest)

pub standby_is : (d q : ℕ) (t : Task) → command_text d (Standby q t) ≡ STANDBY ++ numbered q d (task_text t)
unfolding command_text
standby_is d q t = refl

pub go_is : (d q : ℕ) → command_text d (Go q) ≡ GO ++ numbered q d []
unfolding command_text
go_is d q = refl

pub cancel_is : (d q : ℕ) → command_text d (Cancel q) ≡ CANCEL ++ numbered q d []
unfolding command_text
cancel_is d q = refl

-- ---- the heads differ

-- a byte is not another one
two_bytes : (a b : ℕ) → b < a → b ≡ a → ⊥
two_bytes a b lt e = omega arith

-- no bytes begin with two of the heads
pub no_standby_go : (x y : List ℕ) → STANDBY ++ x ≡ GO ++ y → ⊥
no_standby_go x y e = two_bytes 115 103 (lit< tt) (ap (λ (l : List ℕ). get_or l 5 0) (sym e))

pub no_standby_cancel : (x y : List ℕ) → STANDBY ++ x ≡ CANCEL ++ y → ⊥
no_standby_cancel x y e = two_bytes 115 99 (lit< tt) (ap (λ (l : List ℕ). get_or l 5 0) (sym e))

pub no_go_cancel : (x y : List ℕ) → GO ++ x ≡ CANCEL ++ y → ⊥
no_go_cancel x y e = two_bytes 103 99 (lit< tt) (ap (λ (l : List ℕ). get_or l 5 0) (sym e))

-- ---- what a command's bytes say after the head

-- the numbers and the task of a standby
pub record SaysStandby (d : ℕ) (rest : List ℕ) : Type 0 where
  pub seq : ℕ
  pub task : Task
  pub number : IsNumber seq
  pub is_task : IsTask task
  pub text : rest ≡ numbered seq d (task_text task)

-- the numbers of a go or a cancel
pub record SaysNumber (d : ℕ) (rest : List ℕ) : Type 0 where
  pub seq : ℕ
  pub number : IsNumber seq
  pub text : rest ≡ numbered seq d []

pub says_standby : (d : ℕ) (datagram rest : List ℕ) (c : Command) → datagram ≡ STANDBY ++ rest → IsFor d datagram c
    → SaysStandby d rest
says_standby d datagram rest (Standby q t) e f = record {
  seq = q;
  task = t;
  number = f.is_command.numbered;
  is_task = f.is_command.tasked;
  text = ap (λ (l : List ℕ). drop 24 l) (sym e ∙ f.text ∙ standby_is d q t);
}
says_standby d datagram rest (Go q) e f = absurd (no_standby_go rest (numbered q d []) (sym e ∙ f.text ∙ go_is d q))
says_standby d datagram rest (Cancel q) e f =
    absurd (no_standby_cancel rest (numbered q d []) (sym e ∙ f.text ∙ cancel_is d q))

pub says_go : (d : ℕ) (datagram rest : List ℕ) (c : Command) → datagram ≡ GO ++ rest → IsFor d datagram c
    → SaysNumber d rest
says_go d datagram rest (Standby q t) e f =
    absurd (no_standby_go (numbered q d (task_text t)) rest (sym (standby_is d q t) ∙ sym f.text ∙ e))
says_go d datagram rest (Go q) e f = record {
  seq = q;
  number = f.is_command.numbered;
  text = ap (λ (l : List ℕ). drop 16 l) (sym e ∙ f.text ∙ go_is d q);
}
says_go d datagram rest (Cancel q) e f = absurd (no_go_cancel rest (numbered q d []) (sym e ∙ f.text ∙ cancel_is d q))

pub says_cancel : (d : ℕ) (datagram rest : List ℕ) (c : Command) → datagram ≡ CANCEL ++ rest → IsFor d datagram c
    → SaysNumber d rest
says_cancel d datagram rest (Standby q t) e f =
    absurd (no_standby_cancel (numbered q d (task_text t)) rest (sym (standby_is d q t) ∙ sym f.text ∙ e))
says_cancel d datagram rest (Go q) e f = absurd (no_go_cancel (numbered q d []) rest (sym (go_is d q) ∙ sym f.text ∙ e))
says_cancel d datagram rest (Cancel q) e f = record {
  seq = q;
  number = f.is_command.numbered;
  text = ap (λ (l : List ℕ). drop 16 l) (sym e ∙ f.text ∙ cancel_is d q);
}

-- a datagram that begins with none of the heads is no command
pub says_nothing : (d : ℕ) (datagram : List ℕ) (c : Command) → ((rest : List ℕ) → datagram ≢ STANDBY ++ rest)
    → ((rest : List ℕ) → datagram ≢ GO ++ rest) → ((rest : List ℕ) → datagram ≢ CANCEL ++ rest) → IsFor d datagram c → ⊥
says_nothing d datagram (Standby q t) s g c f = s (numbered q d (task_text t)) (f.text ∙ standby_is d q t)
says_nothing d datagram (Go q) s g c f = g (numbered q d []) (f.text ∙ go_is d q)
says_nothing d datagram (Cancel q) s g c f = c (numbered q d []) (f.text ∙ cancel_is d q)

-- what stands after the two numbers is one thing
pub same_behind : (bytes x y : List ℕ) (p q d : ℕ) → bytes ≡ numbered p d x → bytes ≡ numbered q d y → x ≡ y
same_behind bytes x y p q d a b = ap (λ (l : List ℕ). drop 8 l) (sym a ∙ b)

-- ---- what was found is a command

pub found_standby : (d q : ℕ) (t : Task) (datagram rest behind : List ℕ) → datagram ≡ STANDBY ++ rest
    → rest ≡ numbered q d behind → behind ≡ task_text t → IsNumber q → IsTask t → IsFor d datagram (Standby q t)
found_standby d q t datagram rest behind a b e number is_task = record {
  is_command = record { numbered = number; tasked = is_task };
  text = a ∙ ap (λ (x : List ℕ). STANDBY ++ x) (b ∙ ap (numbered q d) e) ∙ sym (standby_is d q t);
}

pub found_go : (d q : ℕ) (datagram rest : List ℕ) → datagram ≡ GO ++ rest → rest ≡ numbered q d [] → IsNumber q
    → IsFor d datagram (Go q)
found_go d q datagram rest a b number = record {
  is_command = record { numbered = number; tasked = tt };
  text = a ∙ ap (λ (x : List ℕ). GO ++ x) b ∙ sym (go_is d q);
}

pub found_cancel : (d q : ℕ) (datagram rest : List ℕ) → datagram ≡ CANCEL ++ rest → rest ≡ numbered q d [] → IsNumber q
    → IsFor d datagram (Cancel q)
found_cancel d q datagram rest a b number = record {
  is_command = record { numbered = number; tasked = tt };
  text = a ∙ ap (λ (x : List ℕ). CANCEL ++ x) b ∙ sym (cancel_is d q);
}
