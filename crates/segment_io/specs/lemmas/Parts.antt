-- Parts of a device's bytes that are the same.
use Rattle.std.proofs.Common.{◌≡◌, ℕ, ◌+◌, ◌-◌, ◌<◌, ◌≤◌, min, List, length, drop, get_or, slice_index, sym, ◌∙◌, ap, arith}
use Rattle.std.proofs.lemmas.List.{ext_get_or, get_or-take, get_or-drop, length-take, length-drop}
use Rattle.world.specs.Prelude.{bytes_at, Disk, ChangesOnly}

pub part_length : (at n : ℕ) (a : List ℕ) → length (bytes_at at n a) ≡ min n (length a - at)
part_length at n a = length-take n (drop at a) ∙ ap (min n) (length-drop at a)

pub at_part : (at n : ℕ) (a : List ℕ) (i : ℕ) → i < n → slice_index (bytes_at at n a) i ≡ slice_index a (at + i)
at_part at n a i lt = get_or-take n (drop at a) i 0 lt ∙ get_or-drop at a i 0

-- bytes that are the same index by index are the same part
pub same_at : (a b : List ℕ) (at n : ℕ) → length a ≡ length b → ((i : ℕ) → at ≤ i → i < at + n → slice_index a i ≡ slice_index b i) → bytes_at at n a ≡ bytes_at at n b
same_at a b at n sizes same = ext_get_or 0 (bytes_at at n a) (bytes_at at n b) lengths each
  where
    lengths : length (bytes_at at n a) ≡ length (bytes_at at n b)
    lengths = part_length at n a ∙ ap (λ (l : ℕ). min n (l - at)) sizes ∙ sym (part_length at n b)

    each : (i : ℕ) → i < length (bytes_at at n a) → get_or (bytes_at at n a) i 0 ≡ get_or (bytes_at at n b) i 0
    each i lt =
        let below : i < n = omega (arith, lt, part_length at n a) in
        at_part at n a i below ∙ same (at + i) (omega arith) (omega (arith, below)) ∙ sym (at_part at n b i below)

-- a part in which nothing is written stays
pub part_stays : (W : ℕ → Type 0) (old new : Disk) (at n : ℕ) → ChangesOnly W old new → ((i : ℕ) → at ≤ i → i < at + n → W i → ⊥) → bytes_at at n new.bytes ≡ bytes_at at n old.bytes
part_stays W old new at n changes outside = same_at new.bytes old.bytes at n changes.size (λ i from to. changes.bytes i (outside i from to))
