-- When a list of parts is one that a cue can have, and when two lists are the same.
use Rattle.std.specs.Prelude.{ℕ, Bool, not, ◌&&◌, List, length, nat_eq, nat_le}
use Rattle.std.specs.Bool.{beq}
use Rattle.std.specs.Cmp.{IsEquivalence, and_equiv, on_equiv, nat_eq_equiv, bool_eq_equiv}
use Rattle.std.specs.Cmp.Lexicographic.{pointwise, nat_list_eq_equiv, lists_equiv}
use Rattle.std.specs.List.{list_any, list_all}
use Rattle.cue_show.specs.Bytes.{are_bytes}
use Rattle.cue_show.specs.DeviceNumber.{is_device}
use Rattle.cue_show.specs.Devices.{distinct, devices_in}
use Rattle.cue_show.specs.Number.{same_text}
use Rattle.cue_show.specs.declared.limits.TheConstants.{MAX_PARTS, MAX_PART_BYTES}
use Rattle.cue_show.specs.declared.part.Part.{Part}

-- a part has a device and at most 32 bytes
abbrev pub is_part : Part → Bool
is_part p = is_device p.device && (nat_le (length p.bytes) MAX_PART_BYTES && are_bytes p.bytes)

-- the cue is not carried out without the device
abbrev pub is_required_part : Part → Bool
is_required_part p = not p.optional

-- one of the parts is required
abbrev pub has_required_part : List Part → Bool
has_required_part parts = list_any is_required_part parts

-- a cue has up to 16 parts of distinct devices, and one of them at least is required
abbrev pub are_parts : List Part → Bool
are_parts parts =
    has_required_part parts && (nat_le (length parts) MAX_PARTS
    && (distinct (devices_in parts) && list_all is_part parts))

-- one of the parts is for the device
abbrev pub uses : ℕ → List Part → Bool
uses d parts = list_any (λ p. nat_eq p.device d) parts

-- the same device, required or optional alike, and the same bytes
abbrev pub same_part : Part → Part → Bool
same_part p q = nat_eq p.device q.device && (beq p.optional q.optional && same_text p.bytes q.bytes)

-- the same parts in the same order
abbrev pub same_parts : List Part → List Part → Bool
same_parts = pointwise same_part

-- which is an equivalence
pub same_parts_equiv : IsEquivalence same_parts
same_parts_equiv =
    lists_equiv (and_equiv (on_equiv (λ p. p.device) nat_eq_equiv)
    (and_equiv (on_equiv (λ p. p.optional) bool_eq_equiv) (on_equiv (λ p. p.bytes) nat_list_eq_equiv)))
