-- What a disk holds, and what a crash may leave of it.
use Rattle.std.specs.Prelude.{◌≡◌, ℕ, ◌+◌, ◌<◌, ◌≤◌, max, Bool, false, ◌&&◌, not, nat_le, nat_lt, List, [], ◌∷◌, ◌++◌, length, take, drop, slice_index, Option, None, Some, if◌then◌else◌, ⊤}
use Rattle.std.specs.List.{list_any}
use Rattle.disk.specs.declared.range.Range.{Range}

-- what a disk holds: what a read gives, the size at the last sync that succeeded, and the ranges written since, the last of them first
pub record Content : Type 0 where
  pub bytes : List ℕ
  pub stable : ℕ
  pub written : List Range

-- what is known of a disk at a moment: what it holds, where it tells it, how many calls have failed, and the moment, as a number that does not fall
pub record DiskState : Type 0 where
  pub content : Option Content
  pub faults : ℕ
  pub moment : ℕ

abbrev pub is_within : ℕ → Range → Bool
is_within i range = nat_le range.from i && nat_lt i range.to

-- whether a place lies in one of these ranges
abbrev pub is_in_doubt : List Range → ℕ → Bool
is_in_doubt ranges i = list_any (is_within i) ranges

-- the greatest of n and the ends of these ranges
abbrev pub farthest : ℕ → List Range → ℕ
farthest n [] = n
farthest n (range ∷ ranges) = max range.to (farthest n ranges)

-- A crash may leave these bytes: any in the written ranges and past the stable size, of which those past it may be missing
-- in whole or in part, and elsewhere those that a read gives.
pub record IsImage (held : Content) (image : List ℕ) : Type 0 where
  pub no_shorter : held.stable ≤ length image
  pub no_longer : length image ≤ farthest (length held.bytes) held.written
  pub same : (i : ℕ) → i < held.stable → is_in_doubt held.written i ≡ false → slice_index image i ≡ slice_index held.bytes i

-- a disk that tells nothing may leave anything
abbrev pub MayLeave : Option Content → List ℕ → Type 0
MayLeave None image = ⊤
MayLeave (Some held) image = IsImage held image

-- a disk of these bytes, all of them on it
abbrev pub stable : List ℕ → Content
stable bytes = record { bytes = bytes; stable = length bytes; written = [] }

-- these bytes at a place, over what is there and past the end
abbrev pub overwritten : ℕ → List ℕ → List ℕ → List ℕ
overwritten at bytes old = take at old ++ bytes ++ drop (at + length bytes) old

-- after a write that is done
abbrev pub with_written : ℕ → List ℕ → Content → Content
with_written at bytes held = record {
  bytes = overwritten at bytes held.bytes;
  stable = held.stable;
  written = record { from = at; to = at + length bytes } ∷ held.written;
}

-- after a sync that is done
abbrev pub with_synced : Content → Content
with_synced held = stable held.bytes

-- after a write of n bytes that failed: a read gives any bytes in the range, and past the old size as many of them as there may be
pub record BrokeOff (at n : ℕ) (old new : Content) : Type 0 where
  pub before : take at new.bytes ≡ take at old.bytes
  pub after : drop (at + n) new.bytes ≡ drop (at + n) old.bytes
  pub no_shorter : length old.bytes ≤ length new.bytes
  pub no_longer : length new.bytes ≤ max (length old.bytes) (at + n)
  pub stable : new.stable ≡ old.stable
  pub written : new.written ≡ record { from = at; to = at + n } ∷ old.written

-- whether a disk tells stays, and where it tells, the write broke off
pub record MayBreakOff (at n : ℕ) (old new : Option Content) : Type 0 where
  pub untold : old ≡ None → new ≡ None
  pub told : (held : Content) → old ≡ Some held → (left : Content) × (new ≡ Some left) × BrokeOff at n held left

-- whether a crash leaves the byte at a place: it is stable, and no write since has met it
abbrev pub is_clear : ℕ → List Range → ℕ → Bool
is_clear stable written i = nat_lt i stable && not (is_in_doubt written i)

-- bytes from a place on, with one byte for each that is in doubt
abbrev pub filled_from : ℕ → Content → ℕ → List ℕ → List ℕ
filled_from fill held i [] = []
filled_from fill held i (b ∷ bytes) = (if is_clear held.stable held.written i then b else fill) ∷ filled_from fill held (i + 1) bytes

-- the image of the present size whose bytes in doubt are all one
abbrev pub filled : ℕ → Content → List ℕ
filled fill held = filled_from fill held 0 held.bytes
