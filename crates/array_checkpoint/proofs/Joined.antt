-- What holds behind a checkpoint of an array whose memory got room for it first.
use Rattle.array_checkpoint.proofs.Prelude.{◌≡◌, ℕ, ◌<◌, [], sym, ap, subst, IsCountedBy, IsShelf, LeavesOnly, Shelved, patch_segments, started, Register, Kept, Array, is_spent, by_faults, Goes, Halts, Holds, IsLike, HasFlushed}
use Rattle.pur_base.specs.Plain as plain
use Rattle.array_checkpoint.proofs.Like.{like_is, roomed, roomed_is_ready, roomed_reads}

-- ---- with room for patches as there

module _ (old new : Shelved) (a : Array) (k : Kept) where
  roomed_holds : (x : plain.Array) → Holds old a x → Holds old (roomed a k) x
  roomed_holds x holds = record { held = holds.held; ready = roomed_is_ready old a k holds.held holds.ready; is = holds.is }

  roomed_goes : (b : Array) → Goes by_faults old new (roomed a k) b [] → Goes by_faults old new a b []
  roomed_goes b g = record {
    ran = g.ran;
    is_of = g.is_of;
    hands_on = assumption g.hands_on;
    accepted = λ contents x reads. tt;
    reads = λ contents x reads. let y = g.reads contents x (roomed_reads a k contents x reads) in record { more = y.more; reads = y.reads; hold = y.hold };
    holds = λ h x holds. g.holds h x (roomed_holds x holds);
    any_moment = λ h x holds. g.any_moment h x (roomed_holds x holds);
  }

  roomed_halts : Halts by_faults old new (roomed a k) [] → Halts by_faults old new a []
  roomed_halts halts = record { ran = halts.ran; unborne = halts.unborne; any_moment = λ h x holds. halts.any_moment h x (roomed_holds x holds) }

flushed_roomed : (a : Array) (k : Kept) (now : Array) → HasFlushed (roomed a k) now → HasFlushed a now
flushed_roomed a k now h = record {
  none = h.none;
  background = h.background;
  rises = h.rises;
  few = h.few;
  rest = h.rest;
  data_segments = h.data_segments;
  new_segments = h.new_segments;
  elided = h.elided;
  lowest = record { unreached = h.lowest.unreached; unused = h.lowest.unused; made = h.lowest.made; elided = h.lowest.elided; room = h.lowest.room };
  elides_mediums = h.elides_mediums;
  elides = h.elides;
  few_data = h.few_data;
  few_new = h.few_new;
  next = h.next;
  placed = h.placed;
  patch_segments_are = h.patch_segments_are;
  one_more = h.one_more;
  go_on = h.go_on;
}

-- ---- the array with room is the same

module _ (was mid : Array) (like : IsLike was mid) where
  same : mid ≡ roomed was mid.memory
  same = like_is was mid like

  pub same_spent : is_spent mid ≡ is_spent was
  same_spent = ap (λ (a : Array). is_spent a) same

  pub same_objects : mid.memory.objects ≡ was.memory.objects
  same_objects = ap (λ (k : Kept). k.objects) like.memory

  pub same_few : (n : ℕ) → patch_segments was.register.record.patches < n → patch_segments mid.register.record.patches < n
  same_few n few = subst (λ (r : Register). patch_segments r.record.patches < n) (sym like.register) few

  -- what has become of it
  pub flushed_since : (now : Array) → HasFlushed mid now → HasFlushed was now
  flushed_since now h = flushed_roomed was mid.memory now (subst (λ (a : Array). HasFlushed a now) same h)

  pub goes_since : (old new : Shelved) (now : Array) → Goes by_faults old new mid now [] → Goes by_faults old new was now []
  goes_since old new now g = roomed_goes old new was mid.memory now (subst (λ (a : Array). Goes by_faults old new a now []) same g)

  pub halts_since : (old new : Shelved) → Halts by_faults old new mid [] → Halts by_faults old new was []
  halts_since old new halts = roomed_halts old new was mid.memory (subst (λ (a : Array). Halts by_faults old new a []) same halts)

-- ---- where nothing was written

pub counted_now : (shelf : Shelved) → IsShelf shelf → LeavesOnly shelf shelf (IsCountedBy shelf)
counted_now shelf is = started shelf (IsCountedBy shelf) is (λ stop may. may.counts)
