-- What a stop leaves of a device on which nothing is dirty.
use Rattle.std.proofs.Common.{◌≡◌, ℕ, List, [], subst}
use Rattle.std.proofs.lemmas.List.{ext_get_or}
use Rattle.world.specs.declared.shelf.Span.{Span}
use Rattle.world.specs.Shelf.{Disk, IsInSome, MayLeave}

pub none_dirty : (disk : Disk) → disk.dirty ≡ [] → (i : ℕ) → IsInSome disk.dirty i → ⊥
none_dirty disk clean i is = subst (λ (l : List Span). IsInSome l i) clean is

-- it holds what a read gives
pub as_read : (disk : Disk) (bytes : List ℕ) → disk.dirty ≡ [] → MayLeave disk bytes → bytes ≡ disk.bytes
as_read disk bytes clean may = ext_get_or 0 bytes disk.bytes may.size (λ i lt. may.clean i (none_dirty disk clean i))
