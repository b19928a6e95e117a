-- Numbers are left for a logged request where an array isn't spent, and behind a checkpoint too.
use Rattle.array_engine.proofs.Prelude.{◌≡◌, ℕ, ◌+◌, ◌*◌, ◌-◌, ◌<◌, ◌^◌, Bool, true, false, length, refl, ap, arith, ◌||◌, leb-false, NextNumbers, are_used_up, is_used_up, Array, HasNumbers, is_spent, HasFlushed}

neither : (a b : Bool) → (a || b) ≡ false → (a ≡ false) × (b ≡ false)
neither true b e = absurd (cc e)
neither false b e = (refl, e)

low : (n : ℕ) → is_used_up n ≡ false → n < 2 ^ 48 - 2 ^ 24
low n e = leb-false (2 ^ 48 - 2 ^ 24) n e

-- what a logged request takes of an array that isn't spent
record IsLow (a : Array) : Type 0 where
  generation : a.register.record.generation < 2 ^ 48 - 2 ^ 24
  object : a.memory.memory.next.object < 2 ^ 48 - 2 ^ 24
  medium : a.memory.memory.next.medium < 2 ^ 48 - 2 ^ 24
  sequence : a.memory.memory.next.sequence < 2 ^ 48 - 2 ^ 24

is_low : (a : Array) → is_spent a ≡ false → IsLow a
is_low a e =
    let r = a.register.record in
    let n = a.memory.memory.next in
    let all = neither (is_used_up r.generation || is_used_up r.flushed) (are_used_up n) e in
    let five = neither (is_used_up n.object || is_used_up n.medium || is_used_up n.segment || is_used_up n.patch_segment) (is_used_up n.sequence) all.1 in
    let four = neither (is_used_up n.object || is_used_up n.medium || is_used_up n.segment) (is_used_up n.patch_segment) five.0 in
    let three = neither (is_used_up n.object || is_used_up n.medium) (is_used_up n.segment) four.0 in
    let two = neither (is_used_up n.object) (is_used_up n.medium) three.0 in
    record {
      generation = low r.generation (neither (is_used_up r.generation) (is_used_up r.flushed) all.0).0;
      object = low n.object two.0;
      medium = low n.medium two.1;
      sequence = low n.sequence five.1;
    }

pub numbers_left : (a : Array) → is_spent a ≡ false → HasNumbers a
numbers_left a e =
    let l = is_low a e in
    let generation = l.generation in
    let object = l.object in
    let medium = l.medium in
    let sequence = l.sequence in
    record {
      generation = omega (arith, generation);
      next = record { objects = omega (arith, object); mediums = omega (arith, medium); numbers = omega (arith, sequence) };
    }

pub numbers_behind : (a b : Array) → is_spent a ≡ false → HasFlushed a b → HasNumbers b
numbers_behind a b e h =
    let l = is_low a e in
    let generation = l.generation in
    let object = l.object in
    let medium = l.medium in
    let sequence = l.sequence in
    let few = h.few in
    let few_segments = h.few_data in
    let mediums = h.elides_mediums.few in
    let segments = h.elides.few in
    let same_object : b.memory.memory.next.object ≡ a.memory.memory.next.object = ap (λ (n : NextNumbers). n.object) h.next in
    let same_medium : b.memory.memory.next.medium ≡ a.memory.memory.next.medium = ap (λ (n : NextNumbers). n.medium) h.next in
    let next : b.memory.memory.next.sequence ≡ a.memory.memory.next.sequence + (2 * length h.elided.mediums.items + length h.elided.segments.items) + h.data_segments = ap (λ (n : NextNumbers). n.sequence) h.next in
    record {
      generation = omega (arith, generation, few);
      next = record { objects = omega (arith, object, same_object); mediums = omega (arith, medium, same_medium); numbers = omega (arith, sequence, next, few_segments, mediums, segments) };
    }
