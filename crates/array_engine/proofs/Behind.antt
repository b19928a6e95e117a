-- The point behind a checkpoint, told of an array that stands at the point before it.
use Rattle.array_engine.proofs.Prelude.{◌<◌, ◌≤◌, ◌+◌, Bool, refl, sym, ap, subst, BootRecord, Shelved, geometry_of, Contents, ReadsAs, patches_read, Point, IsCheckpointed, told_of, Array, IsArrayOf, HasFlushed, StandsAt}
use Rattle.memory_spec.proofs.Records.{record_is_sound}
use Rattle.array_engine.proofs.Cleared.{cleared_tables}
use Rattle.array_engine.proofs.Stood.{next_stood, patches_stood}

-- the point with that array's record and its memory, and nothing in the log or beside it
abbrev pub between : Point → Array → Point
between from mid = record from { logged = 0; boot = mid.register.record; memory = told_of mid.memory.memory; background = 0 }

pub checkpointed : {told : Bool} {old : Shelved} {a : Array} {from : Point} → StandsAt told old a from → (mid : Array) → IsArrayOf (geometry_of old) mid → HasFlushed a mid
    → (contents : Contents) → ReadsAs contents mid.memory.memory from.array → IsCheckpointed (geometry_of old) from (between from mid)
checkpointed {told} {old} {a} {from} s mid is flushed contents reads =
    let whole = cleared_tables (geometry_of old) mid is flushed.none flushed.background in
    record {
      same = refl;
      rises = subst (λ (b : BootRecord). b.generation < mid.register.record.generation) (sym s.boot) flushed.rises;
      few = subst (λ (b : BootRecord). mid.register.record.generation ≤ b.generation + 9) (sym s.boot) flushed.few;
      boot = rw (s.boot, s.logged) flushed.rest;
      data_segments = flushed.data_segments;
      new_segments = flushed.new_segments;
      few_data = flushed.few_data;
      few_new = flushed.few_new;
      mediums = flushed.elided.mediums.items;
      elides_mediums = rw (patches_stood s, next_stood s) flushed.elides_mediums;
      elided = flushed.elided.segments.items;
      elides = rw (patches_stood s, next_stood s) flushed.elides;
      next = rw (next_stood s) flushed.next;
      placed = rw (next_stood s) flushed.placed;
      patch_segments_are = rw s.boot flushed.patch_segments_are;
      one_more = rw s.boot flushed.one_more;
      go_on = rw (patches_stood s) flushed.go_on;
      whole = record { staged = whole.staged; objects = whole.objects; mediums = whole.mediums; addresses = whole.addresses; segments = whole.segments; elisions = whole.elisions };
      named = is.named;
      sound = record_is_sound (geometry_of old) mid.register.record mid.memory.memory is.sound whole is.layered is.segments (ap (λ (b : BootRecord). b.next) flushed.rest) is.named;
      contents = contents;
      reads = patches_read contents mid.memory.memory from.array whole reads;
    }
