-- Memory behind a checkpoint: nothing is beside its patches.
use Rattle.array_engine.proofs.Prelude.{◌≡◌, ℕ, ◌≤◌, List, [], ◌∷◌, length, refl, subst, arith, Geometry, IsWhole, Kept, Array, Background, IsArrayOf, HasRoomFor, nothing_behind}

none_left : {A : Type 0} (xs : List A) → length xs ≤ 0 → xs ≡ []
none_left [] few = refl
none_left (x ∷ xs) few = absurd (omega (arith, few))

-- only what commands of the log left is unflushed or staged
whole_without : (k : Kept) → HasRoomFor k 0 nothing_behind → IsWhole k.memory
whole_without k room = record {
  staged = none_left k.memory.staged room.taken.staged;
  objects = none_left k.memory.tables.objects.unflushed room.taken.objects;
  mediums = none_left k.memory.tables.mediums.unflushed room.taken.mediums;
  addresses = none_left k.memory.tables.addresses.unflushed room.taken.addresses;
  segments = room.no_segments;
  elisions = none_left k.memory.tables.elisions.unflushed room.taken.elisions;
}

pub cleared_tables : (shelf : Geometry) (a : Array) → IsArrayOf shelf a → a.log.count ≡ 0 → a.background ≡ nothing_behind → IsWhole a.memory.memory
cleared_tables shelf a is none behind = whole_without a.memory (subst (λ (n : ℕ). HasRoomFor a.memory n nothing_behind) none (subst (λ (b : Background). HasRoomFor a.memory a.log.count b) behind is.room))
