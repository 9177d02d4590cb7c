-- Helper: tests of one event.
use Rattle.std.specs.Prelude.{ℕ, Bool, true, false, ◌&&◌, nat_eq}
use Rattle.cue_core.specs.declared.event.Event.{Event}
use Rattle.cue_core.specs.declared.event.Event.TheVariants.{Start, Ready, Go, Done, Cancel, LetGo, Failed, Excuse}

-- an attempt starts
abbrev pub is_start : Event → Bool
is_start (Start q c t) = true
is_start _ = false

-- q starts
abbrev pub is_start_of : ℕ → Event → Bool
is_start_of q (Start p c t) = nat_eq p q
is_start_of q _ = false

-- the device d stands by in q
abbrev pub is_ready_of : ℕ → ℕ → Event → Bool
is_ready_of q d (Ready p e) = nat_eq p q && nat_eq e d
is_ready_of q d _ = false

-- the device d is excused in q
abbrev pub is_excuse_of : ℕ → ℕ → Event → Bool
is_excuse_of q d (Excuse p e) = nat_eq p q && nat_eq e d
is_excuse_of q d _ = false

-- q is decided
abbrev pub is_go_of : ℕ → Event → Bool
is_go_of q (Go p) = nat_eq p q
is_go_of q _ = false

-- q is cancelled
abbrev pub is_cancel_of : ℕ → Event → Bool
is_cancel_of q (Cancel p r) = nat_eq p q
is_cancel_of q _ = false

-- the device d is done with in q: Done, LetGo, Failed or Excuse
abbrev pub is_end_of : ℕ → ℕ → Event → Bool
is_end_of q d (Done p e) = nat_eq p q && nat_eq e d
is_end_of q d (LetGo p e) = nat_eq p q && nat_eq e d
is_end_of q d (Failed p e) = nat_eq p q && nat_eq e d
is_end_of q d (Excuse p e) = nat_eq p q && nat_eq e d
is_end_of q d _ = false
