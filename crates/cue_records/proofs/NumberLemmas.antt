-- Numbers of two, four and eight bytes.
use Rattle.std.proofs.Common.{◌≡◌, ℕ, ◌<◌, ◌≤◌, ◌++◌, false, List, length, get_or, take, drop, Some, IsTrue, nat_le}
use Rattle.std.proofs.Common.{ltb, refl, sym, ap, subst, ◌∙◌, arith}
use Rattle.std.specs.Int.{Width, w16, w32, w64, byte_len, from_be_bytes, to_be_bytes}
use Rattle.std.proofs.lemmas.Bool.{le-leb, leb-true, ltb-false, le-ltb}
use Rattle.std.proofs.lemmas.List.{take_at, drop_at, take-append-drop, length-append, length-take}
use Rattle.std.proofs.lemmas.Nat.{be_bytes_2, be_bytes_4, be_bytes_8, from_be_bytes-to_be_bytes_2}
use Rattle.std.proofs.lemmas.Nat.{from_be_bytes-to_be_bytes_4, from_be_bytes-to_be_bytes_8}
use Rattle.cue_show.specs.Bytes.{are_bytes}
use Rattle.cue_records.specs.Reading.{number_at}
use Rattle.cue_records.proofs.TakingLemmas.{Takes, IsField, else_some, bytes_apart, byte_below}

-- the bytes of a number are those of no other, up to the most
record IsWide (w : Width) (most : ℕ) : Type 0 where
  len : (n : ℕ) → length (to_be_bytes w n) ≡ byte_len w
  back : (bytes : List ℕ) → length bytes ≡ byte_len w → ((i : ℕ) → get_or bytes i 0 < 256)
      → to_be_bytes w (from_be_bytes w bytes) ≡ bytes
  again : (n : ℕ) → n ≤ most → from_be_bytes w (to_be_bytes w n) ≡ n
  within : (bytes : List ℕ) → ((i : ℕ) → get_or bytes i 0 < 256) → from_be_bytes w bytes ≤ most

wide16 : IsWide w16 65535
wide16 = record {
  len = λ n. refl;
  back = λ bytes len fits. be_bytes_2 bytes _ len fits refl;
  again = λ n h. from_be_bytes-to_be_bytes_2 n (omega arith);
  within = λ bytes fits. omega (arith, fits 0, fits 1);
}

wide32 : IsWide w32 4294967295
wide32 = record {
  len = λ n. refl;
  back = λ bytes len fits. be_bytes_4 bytes _ len fits refl;
  again = λ n h. from_be_bytes-to_be_bytes_4 n (omega arith);
  within = λ bytes fits. omega (arith, fits 0, fits 1, fits 2, fits 3);
}

wide64 : IsWide w64 18446744073709551615
wide64 = record {
  len = λ n. refl;
  back = λ bytes len fits. be_bytes_8 bytes _ len fits refl;
  again = λ n h. from_be_bytes-to_be_bytes_8 n (omega arith);
  within = λ bytes fits. omega (arith, fits 0, fits 1, fits 2, fits 3, fits 4, fits 5, fits 6, fits 7);
}

number_takes : (w : Width) (most : ℕ) → IsWide w most → (bytes : List ℕ) (x : ℕ × List ℕ) → IsTrue (are_bytes bytes)
    → number_at w bytes ≡ Some x → Takes (to_be_bytes w) (λ n. nat_le n most) bytes x
number_takes w most wide bytes x b e =
    let k = byte_len w in
    let g = else_some (ltb (length bytes) k) (from_be_bytes w (take k bytes), drop k bytes) x e in
    let long : k ≤ length bytes = ltb-false (length bytes) k g.0 in
    let whole : take k bytes ++ drop k bytes ≡ bytes = take-append-drop k bytes in
    let parts = bytes_apart (take k bytes) (drop k bytes) (subst (λ bs. IsTrue (are_bytes bs)) (sym whole) b) in
    let fits : (i : ℕ) → get_or (take k bytes) i 0 < 256 = byte_below (take k bytes) parts.0 in
    let front : to_be_bytes w (from_be_bytes w (take k bytes)) ≡ take k bytes =
    wide.back (take k bytes) (omega (arith, length-take k bytes)) fits in
    subst (Takes (to_be_bytes w) (λ n. nat_le n most) bytes) g.1 (
      sym whole
          ∙ ap (λ bs. bs ++ drop k bytes) (sym front),
      le-leb (from_be_bytes w (take k bytes)) most
          (wide.within (take k bytes) fits),
    )

number_again : (w : Width) (most : ℕ) → IsWide w most → (n : ℕ) (rest : List ℕ) → IsTrue (nat_le n most)
    → number_at w (to_be_bytes w n ++ rest) ≡ Some (n, rest)
number_again w most wide n rest h =
    let len : length (to_be_bytes w n) ≡ byte_len w = wide.len n in
    let long : ltb (length (to_be_bytes w n ++ rest)) (byte_len w) ≡ false =
    le-ltb _ _ (omega (arith, length-append (to_be_bytes w n) rest)) in
    rw (
      long,
      take_at (to_be_bytes w n) rest (byte_len w) len,
      drop_at (to_be_bytes w n) rest (byte_len w) len,
      wide.again n (leb-true n most h),
    ) refl

number_field : (w : Width) (most : ℕ) → IsWide w most → IsField (number_at w) (to_be_bytes w) (λ n. nat_le n most)
number_field w most wide = record { takes = number_takes w most wide; again = number_again w most wide }

pub field16 : IsField (number_at w16) (to_be_bytes w16) (λ n. nat_le n 65535)
field16 = number_field w16 65535 wide16

pub field32 : IsField (number_at w32) (to_be_bytes w32) (λ n. nat_le n 4294967295)
field32 = number_field w32 4294967295 wide32

pub field64 : IsField (number_at w64) (to_be_bytes w64) (λ n. nat_le n 18446744073709551615)
field64 = number_field w64 18446744073709551615 wide64
