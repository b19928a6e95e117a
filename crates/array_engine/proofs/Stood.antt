-- The patches and the numbers of an array at a point at which it stands.
use Rattle.array_engine.proofs.Prelude.{◌≡◌, Bool, ap, Memory, Shelved, patches, Point, patches_at, Array, StandsAt}

module _ {told : Bool} {shelf : Shelved} {a : Array} {p : Point} (s : StandsAt told shelf a p) where
  pub patches_stood : patches_at p ≡ patches a.memory.memory.tables
  patches_stood = ap (λ (m : Memory). patches m.tables) s.memory

  pub next_stood : p.memory.next ≡ a.memory.memory.next
  next_stood = ap (λ (m : Memory). m.next) s.memory
