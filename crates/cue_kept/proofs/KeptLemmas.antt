-- What was written of what a desk keeps is read back, whole.
use Rattle.std.proofs.Common.{◌≡◌, ◌∙◌, ℕ, suc, ◌<◌, ◌≤◌, true, List, [], ◌∷◌, ◌++◌, length, codes, Option, Some}
use Rattle.std.proofs.Common.{refl, sym, ap, append_assoc, append-nil, arith}
use Rattle.std.specs.List.{All, flat_map}
use Rattle.std.specs.Prelude.{decimal, IsTrue}
use Rattle.cue_log_lines.proofs.PieceLemmas.{free-decimal}
use Rattle.cue_log_lines.specs.Fitting.{is_free}
use Rattle.cue_log_lines.specs.Pieces.{◌>>=◌}
use Rattle.cue_show.specs.DeviceNumber.{is_device}
use Rattle.cue_view.specs.declared.view.Told.{Told}
use Rattle.cue_words.specs.Answered.{outcome_words}
use Rattle.std.proofs.lemmas.Bool.{leb-true}
use Rattle.cue_kept.specs.Alarms.{Alarms, Fits, FitsDevices, FitsTold}
use Rattle.cue_kept.specs.Laws.{AlarmsAreReadBack}
use Rattle.cue_kept.specs.Reading.{alarms_at, attempt_at, cue, device, device_at, devices_at, end_at, ending}
use Rattle.cue_kept.specs.Reading.{failures_at, few}
use Rattle.cue_kept.specs.Reading.{before, head_at, items_at, number, parts_at, read, seen_at, told_at, value_at}
use Rattle.cue_kept.specs.Reading.{version, why}
use Rattle.cue_kept.specs.Text.{attempt_line, cue_said, device_line, devices_text, end_text, line_text, list_text}
use Rattle.cue_kept.specs.Text.{number_line}
use Rattle.cue_kept.specs.Text.{parts_text, reason_said, told_text, write}
use Rattle.cue_kept.specs.declared.TheConstants.{MOST, VERSION}
use Rattle.cue_kept.proofs.LineLemmas.{cue-free, cue-is, device-is, few-is, number-is, outcome-free, outcome-is}
use Rattle.cue_kept.proofs.LineLemmas.{reason-free, reason-is}
use Rattle.cue_kept.proofs.LineLemmas.{value-is, version-is}

-- ---- lists

-- so many are read, one after the other, as what was written
items-are : {A : Type 0} (at : List ℕ → Option (A × List ℕ)) (text : A → List ℕ) (P : A → Type 0)
    → ((a : A) (rest : List ℕ) → P a → at (text a ++ rest) ≡ Some (a, rest))
    → (xs : List A) (rest : List ℕ) → All P xs → items_at at (length xs) (flat_map text xs ++ rest) ≡ Some (xs, rest)
items-are at text P each [] rest fits = refl
items-are at text P each (x ∷ xs) rest fits =
    ap (λ t. at t >>= λ i. before i.0 (items_at at (length xs) i.1)) (append_assoc (text x) (flat_map text xs) rest)
    ∙ rw (
      each x (flat_map text xs ++ rest) (fits 0 x (omega arith)),
      items-are at text P each xs rest (λ k d low. fits (suc k) d (omega arith)),
    ) refl

attempt-is : (n : ℕ) (rest : List ℕ) → n < 4294967296 → attempt_at (attempt_line n ++ rest) ≡ Some (n, rest)
attempt-is n rest fits =
    value-is number (codes "attempt ") (decimal n) rest n refl (free-decimal 10 n refl (omega arith)) (number-is n fits)

device-line-is : (d : ℕ) (rest : List ℕ) → IsTrue (is_device d) → device_at (device_line d ++ rest) ≡ Some (d, rest)
device-line-is d rest fits =
    let low : d ≤ 111 = leb-true d 111 fits in
    value-is device (codes "device ") (decimal d) rest d refl (free-decimal 10 d refl (omega arith)) (device-is d fits)

devices-are : (words devices rest : List ℕ) → is_free 10 words ≡ true → FitsDevices devices
    → devices_at words (devices_text words devices ++ rest) ≡ Some (devices, rest)
unfolding devices_at devices_text
devices-are words devices rest free fits =
    let count = value-is number words (decimal (length devices)) (flat_map device_line devices ++ rest)
    (length devices) free
    (free-decimal 10 (length devices) refl (omega (arith, fits.few))) (number-is (length devices) fits.few) in
    ap (devices_at words) (append_assoc (number_line words (length devices)) (flat_map device_line devices) rest)
    ∙ rw (count, items-are device_at device_line (λ d. IsTrue (is_device d)) device-line-is devices rest fits.each) refl

-- ---- an attempt that ended

parts-are : (t : Told) (rest : List ℕ) → FitsTold t
    → parts_at (parts_text t ++ rest) ≡ Some ((t.failed, t.excused), rest)
unfolding parts_at parts_text
parts-are t rest fits =
    ap parts_at (append_assoc (devices_text (codes "failed ") t.failed)
    (devices_text (codes "excused ") t.excused) rest)
    ∙ rw (
      devices-are (codes "failed ") t.failed (devices_text (codes "excused ") t.excused ++ rest) refl fits.failed,
      devices-are (codes "excused ") t.excused rest refl fits.excused,
    ) refl

ends-are : (t : Told) (rest : List ℕ)
    → end_at (line_text (codes "outcome ") (outcome_words t.outcome)
    ++ (line_text (codes "reason ") (reason_said t.reason) ++ rest))
    ≡ Some ((t.outcome, t.reason), rest)
unfolding end_at
ends-are t rest =
    rw (
      value-is ending (codes "outcome ") (outcome_words t.outcome)
          (line_text (codes "reason ") (reason_said t.reason) ++ rest)
          t.outcome refl (outcome-free t.outcome) (outcome-is t.outcome),
      value-is why (codes "reason ") (reason_said t.reason) rest t.reason refl
          (reason-free t.reason) (reason-is t.reason),
    ) refl

heads-are : (t : Told) (rest : List ℕ) → FitsTold t
    → head_at (attempt_line t.seq ++ (line_text (codes "cue ") (cue_said t.cue) ++ rest)) ≡ Some ((t.seq, t.cue), rest)
unfolding head_at
heads-are t rest fits =
    rw (
      attempt-is t.seq (line_text (codes "cue ") (cue_said t.cue) ++ rest) fits.seq,
      value-is cue (codes "cue ") (cue_said t.cue) rest t.cue refl (cue-free t.cue fits.cue) (cue-is t.cue fits.cue),
    ) refl

end-apart : (t : Told) (rest : List ℕ)
    → end_text t ++ rest ≡ line_text (codes "outcome ") (outcome_words t.outcome)
    ++ (line_text (codes "reason ") (reason_said t.reason) ++ (parts_text t ++ rest))
unfolding end_text
end-apart t rest =
    append_assoc (line_text (codes "outcome ") (outcome_words t.outcome))
    (line_text (codes "reason ") (reason_said t.reason) ++ parts_text t) rest
    ∙ ap (λ x. line_text (codes "outcome ") (outcome_words t.outcome) ++ x)
    (append_assoc (line_text (codes "reason ") (reason_said t.reason)) (parts_text t) rest)

told-apart : (t : Told) (rest : List ℕ)
    → told_text t ++ rest ≡ attempt_line t.seq ++ (line_text (codes "cue ") (cue_said t.cue) ++ (end_text t ++ rest))
unfolding told_text
told-apart t rest =
    append_assoc (attempt_line t.seq) (line_text (codes "cue ") (cue_said t.cue) ++ end_text t) rest
    ∙ ap (λ x. attempt_line t.seq ++ x) (append_assoc (line_text (codes "cue ") (cue_said t.cue)) (end_text t) rest)

told-is : (t : Told) (rest : List ℕ) → FitsTold t → told_at (told_text t ++ rest) ≡ Some (t, rest)
unfolding told_at
told-is t rest fits =
    ap told_at (told-apart t rest)
    ∙ rw (
      heads-are t (end_text t ++ rest) fits,
      end-apart t rest,
      ends-are t (parts_text t ++ rest),
      parts-are t rest fits,
    ) refl

-- ---- all that is kept

counted : {A : Type 0} (words : List ℕ) (at : List ℕ → Option (A × List ℕ)) (text : A → List ℕ) (P : A → Type 0)
    → ((a : A) (rest : List ℕ) → P a → at (text a ++ rest) ≡ Some (a, rest)) → is_free 10 words ≡ true
    → (xs : List A) (rest : List ℕ) → length xs ≤ MOST → All P xs
    → (value_at few words (list_text words text xs ++ rest) >>= λ n. items_at at n.0 n.1) ≡ Some (xs, rest)
counted words at text P each free xs rest low fits =
    let count = value-is few words (decimal (length xs)) (flat_map text xs ++ rest) (length xs) free
    (free-decimal 10 (length xs) refl (omega arith)) (few-is (length xs) low) in
    ap (λ t. value_at few words t >>= λ n. items_at at n.0 n.1)
    (append_assoc (number_line words (length xs)) (flat_map text xs) rest)
    ∙ rw (count, items-are at text P each xs rest fits) refl

seen-are : (a : Alarms) (rest : List ℕ) → Fits a
    → seen_at (list_text (codes "seen ") attempt_line a.seen ++ rest) ≡ Some (a.seen, rest)
unfolding seen_at
seen-are a rest fits =
    counted (codes "seen ") attempt_at attempt_line (λ n. n < 4294967296) attempt-is refl a.seen rest
    fits.few_seen fits.seen

failures-are : (a : Alarms) (rest : List ℕ) → Fits a
    → failures_at (list_text (codes "failures ") told_text a.failed ++ rest) ≡ Some (a.failed, rest)
unfolding failures_at
failures-are a rest fits =
    counted (codes "failures ") told_at told_text FitsTold told-is refl a.failed rest fits.few_failed fits.failed

-- what was written is read back, and what follows it is left
pub alarms-are : (a : Alarms) → Fits a → alarms_at (write a) ≡ Some (a, [])
unfolding alarms_at write
alarms-are a fits =
    let seen = list_text (codes "seen ") attempt_line a.seen in
    let failed = list_text (codes "failures ") told_text a.failed in
    let last : failures_at failed ≡ Some (a.failed, []) =
    ap failures_at (sym (append-nil failed)) ∙ failures-are a [] fits in
    rw (
      value-is version (codes "alarms ") (decimal VERSION) (seen ++ failed) VERSION refl
          (free-decimal 10 VERSION refl (omega arith)) version-is,
      seen-are a failed fits,
      last,
    ) refl

pub alarms-are-read-back : AlarmsAreReadBack
unfolding read
alarms-are-read-back a fits = rw (alarms-are a fits) refl
