-- What is told of both NVRAM devices, by what is told of each.
use Rattle.shelf_look.proofs.Prelude.{◌≡◌, ◌≢◌, inl, inr, ℕ, zero, suc, ◌≤◌, ◌-◌, ◌^◌, Bool, List, [], ◌∷◌, slice_index_or, false, Option, Some, None, ap, subst, sym, arith, Device, Drive, Nv, nvram, Shelved, Disk, Continues, IsShelf, IsNvram, rises_first, RecordSeen, AreSides, IsSide}
use Rattle.shelf_look.specs.declared.slots.SlotsSeen.{SlotsSeen}

number : Device → ℕ
number (Drive d) = d.0
number (Nv n) = n.0

pub nvrams_apart : nvram 0 ≢ nvram 1
unfolding number
nvrams_apart e = let same : 0 ≡ 1 = ap number e in omega (arith, same)

pub both_sides : (a b c : Shelved) (r : RecordSeen) (named : List Bool) (flushed : ℕ) (first second : Option SlotsSeen) → named ≡ r.members.nvrams → flushed ≡ r.flushed
    → b.disk (nvram 1) ≡ a.disk (nvram 1) → c.disk (nvram 0) ≡ b.disk (nvram 0)
    → IsSide (a.disk (nvram 0)) (b.disk (nvram 0)) (slice_index_or named 0 false) flushed first → IsSide (b.disk (nvram 1)) (c.disk (nvram 1)) (slice_index_or named 1 false) flushed second
    → AreSides a c (Some r) (first ∷ second ∷ [])
both_sides a b c r named flushed first second named_is flushed_is before after one two zero lt =
    subst (λ (l : List Bool). IsSide (a.disk (nvram 0)) (c.disk (nvram 0)) (slice_index_or l 0 false) r.flushed first) named_is
    (subst (λ (k : ℕ). IsSide (a.disk (nvram 0)) (c.disk (nvram 0)) (slice_index_or named 0 false) k first) flushed_is
    (subst (λ (d : Disk). IsSide (a.disk (nvram 0)) d (slice_index_or named 0 false) flushed first) (sym after) one))
both_sides a b c r named flushed first second named_is flushed_is before after one two (suc zero) lt =
    subst (λ (l : List Bool). IsSide (a.disk (nvram 1)) (c.disk (nvram 1)) (slice_index_or l 1 false) r.flushed second) named_is
    (subst (λ (k : ℕ). IsSide (a.disk (nvram 1)) (c.disk (nvram 1)) (slice_index_or named 1 false) k second) flushed_is
    (subst (λ (d : Disk). IsSide d (c.disk (nvram 1)) (slice_index_or named 1 false) flushed second) before two))
both_sides a b c r named flushed first second named_is flushed_is before after one two (suc (suc n)) lt = absurd (omega (arith, lt))

-- what is told of a device is told of it later
side_later : (old mid new : Disk) (named : Bool) (flushed : ℕ) (o : Option SlotsSeen) → mid.faults ≤ new.faults → new.faults ≤ 2 ^ 64 - 1 → IsSide old mid named flushed o → IsSide old new named flushed o
side_later old mid new named flushed (Some s) le most is = is
side_later old mid new named flushed None le most (inl out) = inl out
side_later old mid new named flushed None le most (inr up) = inr (rises_first old.faults mid.faults new.faults up le most)

-- and since a moment at which it was as then
pub sides_since : (a b c n : Shelved) (r : Option RecordSeen) (sides : List (Option SlotsSeen)) → ((k : ℕ) → b.disk (nvram k) ≡ a.disk (nvram k)) → Continues c n → IsShelf n → AreSides b c r sides → AreSides a n r sides
sides_since a b c n (Some r) sides stay on is are = λ k lt.
    let named = slice_index_or r.members.nvrams k false in
    let o = slice_index_or sides k None in
    side_later (a.disk (nvram k)) (c.disk (nvram k)) (n.disk (nvram k)) named r.flushed o (on.faults (nvram k)) (is.faults (nvram k))
    (subst (λ (d : Disk). IsSide d (c.disk (nvram k)) named r.flushed o) (stay k) (are k lt))
sides_since a b c n None sides stay on is are = are

pub on_nvram : (k : ℕ) (d : Device) → d ≡ nvram k → IsNvram d
on_nvram k d e = subst IsNvram (sym e) tt
