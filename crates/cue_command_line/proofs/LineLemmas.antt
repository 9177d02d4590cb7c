-- Reading what clap matched.
use Rattle.std.proofs.Common.{◌≡◌, ℕ, ◌<◌, ◌^◌, List, Option, Some, None, Result, Ok, Err, ◌∙◌, sym, refl, ap, subst}
use Rattle.std.proofs.Common.{◌⊎◌, inl, inr, OnOk, codes}
use Rattle.std.specs.Str.Parse.{ParsesUnsigned}
use Rattle.clap.specs.Words.{ReadsOne, one_text, rows_of, Row, Text, Kinds, IsAmong}
use Rattle.clap.specs.declared.parser.matches.Found.{Found}
use Rattle.clap.proofs.WalkLemmas.{one_text-rows}
use Rattle.clap.specs.declared.error.kind.ErrorKind.{ErrorKind}
use Rattle.clap.specs.declared.error.kind.ErrorKind.TheVariants.{DisplayHelp, DisplayVersion, OutOfMemory}
use Rattle.cue_command_line.specs.declared.words.LineFault.{LineFault}
use Rattle.cue_command_line.specs.declared.words.LineFault.TheVariants.{Help, Usage, Memory}
use Rattle.cue_command_line.specs.Lines.{IsNumberIn, IsFaultOf, IsHelp, IsRefused, AsksForText}
use Rattle.cue_command_line.specs.Unread.{LacksDir, LacksPort, LacksTurns, IsNoLine}

-- what a getter read is the number that stands there, and it fits
pub number_in : {E : Type 0} (gives : List ℕ → Result ℕ E → Type 0) (k : ℕ) (f : Found) (id : Text) (r : Option ℕ)
    (n : ℕ)
    → ((t : List ℕ) (x : Result ℕ E) → gives t x → ParsesUnsigned k 10 t x)
    → (one_text f id ≡ None → r ≡ None)
    → ((t : List ℕ) → one_text f id ≡ Some t → ReadsOne gives t r)
    → r ≡ Some n → IsNumberIn id (rows_of f) n × (n < 2 ^ k)
number_in {E} gives k f id r n parses none value is = go (one_text f id) refl
  where
    read : (t : List ℕ) → ReadsOne gives t r → gives t (Ok n)
    read t h = rw is at h

    go : (o : Option Text) → one_text f id ≡ o → IsNumberIn id (rows_of f) n × (n < 2 ^ k)
    go None e =
        let bad : None ≡ Some n = sym (none e) ∙ is in
        cc
    go (Some t) e =
        let h = parses t (Ok n) (read t (value t e)) in (
          record { text = t; stands = sym (one_text-rows f id) ∙ e; numeral = h.0.0; value = h.1 },
          subst (λ (m : ℕ). m < 2 ^ k) (sym h.1) h.0.1,
        )

-- the number that stands there is what a getter reads, where it fits
pub number_read : {E : Type 0} (gives : List ℕ → Result ℕ E → Type 0) (k : ℕ) (f : Found) (id : Text) (r : Option ℕ)
    (n : ℕ)
    → ((t : List ℕ) (x : Result ℕ E) → gives t x → ParsesUnsigned k 10 t x)
    → ((t : List ℕ) → one_text f id ≡ Some t → ReadsOne gives t r)
    → IsNumberIn id (rows_of f) n → n < 2 ^ k → r ≡ Some n
number_read {E} gives k f id r n parses value has fits = go r (value has.text (one_text-rows f id ∙ has.stands))
  where
    go : (o : Option ℕ) → ReadsOne gives has.text o → o ≡ Some n
    go (Some v) h = ap Some ((parses has.text (Ok v) h).1 ∙ sym has.value)
    go None h = absurd (parses has.text (Err h.0) h.1 (has.numeral, subst (λ (m : ℕ). m < 2 ^ k) has.value fits))

-- whatever holds, holds on Ok
pub on_ok : {T E : Type 0} {P : Type 0} (r : Result T E) → P → OnOk r P
on_ok (Ok v) p = p
on_ok (Err e) p = tt

-- the text is given only where the help or the version is asked for
pub asks : (kinds : Kinds) (kind : ErrorKind) (fault : LineFault) → IsFaultOf kind fault
    → (kind ≡ OutOfMemory) ⊎ IsAmong kind kinds → IsHelp fault → AsksForText kinds
asks kinds kind (Help text) (inl is) (inl no_memory) h =
    let bad : DisplayHelp ≡ OutOfMemory = sym is ∙ no_memory in
    cc
asks kinds kind (Help text) (inr is) (inl no_memory) h =
    let bad : DisplayVersion ≡ OutOfMemory = sym is ∙ no_memory in
    cc
asks kinds kind (Help text) (inl is) (inr among) h = inl (subst (λ (k : ErrorKind). IsAmong k kinds) is among)
asks kinds kind (Help text) (inr is) (inr among) h = inr (subst (λ (k : ErrorKind). IsAmong k kinds) is among)
asks kinds kind Usage is has h = absurd h
asks kinds kind Memory is has h = absurd h

-- the words are refused where clap stops for another reason than the help and the version
pub refused : (kinds : Kinds) (kind : ErrorKind) (fault : LineFault) → IsFaultOf kind fault
    → (kind ≡ OutOfMemory) ⊎ IsAmong kind kinds → fault ≡ Usage → IsRefused kinds
refused kinds kind (Help text) is has e = cc
refused kinds kind Usage is (inl no_memory) e = absurd (is.1 no_memory)
refused kinds kind Usage is (inr among) e = record { kind = kind; among = among; other = is.0 }
refused kinds kind Memory is has e = cc

-- serve is no line where it lacks what stands after it
pub no_serve : (rows : List Row) → LacksDir rows ⊎ LacksPort rows ⊎ LacksTurns rows → IsNoLine (codes "serve", rows)
no_serve rows lacks = record {
  form = λ other. let bad : codes "serve" ≡ codes "form" = other in cc;
  serve = λ _. lacks;
  show = λ other. let bad : codes "serve" ≡ codes "show" = other in cc;
  script = λ other. let bad : codes "serve" ≡ codes "script" = other in cc;
}
