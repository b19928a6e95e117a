-- The numbers that are given next, after commands.
use Rattle.std.specs.Prelude.{◌≡◌, ℕ, ◌+◌, ◌-◌, ◌^◌, ◌||◌, ◌&&◌, ◌==◌, Bool, not, nat_le, nat_lt, if◌then◌else◌, List, [], ◌∷◌, length, bytes_eq}
use Rattle.array_spec.specs.Prelude.{Array, sectors_of, Command, Request, NextNumbers, after}
use Rattle.pur_base.specs.Plain.{is_snapshot}
use Rattle.pur_base.specs.declared.request.Request.TheVariants as request

-- how many addresses a request puts
abbrev pub put : Request → ℕ
put (request.Write n lba count) = count
put (request.Fill n lba count byte) = count
put (request.Zero n lba count) = count
put _ = 0

-- whether a copy freezes the medium that it copies from: that of another volume
abbrev pub freezes : Array → List ℕ → List ℕ → Bool
freezes a n m = not (is_snapshot a n) && not (bytes_eq n m)

-- how many ranges lead from what a copy leaves of a volume of this size: to what stands in front of the copy, to the copy, and to what stands behind it
abbrev pub ranges_beside : ℕ → ℕ → ℕ → ℕ
ranges_beside size to count = (if to == 0 then 0 else 1) + 1 + (if nat_lt (to + count) size then 1 else 0)

-- The numbers that are given next after a request that the array accepts. A snapshot, a clone or a copy of a volume freezes its medium:
-- the volume moves to a new one, which leads to it.
abbrev pub next_after : Array → NextNumbers → Request → NextNumbers
next_after a next (request.Create n size) = record next { object = next.object + 1; medium = next.medium + 1; sequence = next.sequence + 1 }
next_after a next (request.Snapshot n new) =
    if is_snapshot a n then record next { object = next.object + 1; sequence = next.sequence + 1 }
    else record next { object = next.object + 1; medium = next.medium + 1; sequence = next.sequence + 3 }
next_after a next (request.Clone n new) =
    if is_snapshot a n then record next { object = next.object + 1; medium = next.medium + 1; sequence = next.sequence + 2 }
    else record next { object = next.object + 1; medium = next.medium + 2; sequence = next.sequence + 4 }
next_after a next (request.Copy n lba m to count) =
    let numbers = 1 + ranges_beside (length (sectors_of a m)) to count in
    if freezes a n m then record next { medium = next.medium + 2; sequence = next.sequence + (2 + numbers) }
    else record next { medium = next.medium + 1; sequence = next.sequence + numbers }
next_after a next (request.Destroy n) = record next { sequence = next.sequence + 1 }
next_after a next r = record next { sequence = next.sequence + put r }

-- and after commands, one behind the other
abbrev pub next_after_all : Array → NextNumbers → List Command → NextNumbers
next_after_all a next [] = next
next_after_all a next (c ∷ commands) = next_after_all (after a c) (next_after a next c.request) commands

-- No ids of segments were given. Commands give none: what a checkpoint or a merge writes does.
pub record HasSameSegmentIds (was now : NextNumbers) : Type 0 where
  pub segment : now.segment ≡ was.segment
  pub patch_segment : now.patch_segment ≡ was.patch_segment

-- a number from which on too few are left
abbrev pub is_used_up : ℕ → Bool
is_used_up n = nat_le (2 ^ 48 - 2 ^ 24) n

-- whether one of them is
abbrev pub are_used_up : NextNumbers → Bool
are_used_up next = is_used_up next.object || is_used_up next.medium || is_used_up next.segment || is_used_up next.patch_segment || is_used_up next.sequence
