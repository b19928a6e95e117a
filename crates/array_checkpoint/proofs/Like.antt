-- An array that differs in room for patches alone.
use Rattle.array_checkpoint.proofs.Prelude.{◌≡◌, ◌≤◌, refl, subst, sym, arith, Geometry, Shelved, Contents, ReadsAs, Content, array_of, Kept, with_patch_rooms, Array, HasRoomFor, IsArrayOf, IsReady, IsLike}
use Rattle.pur_base.specs.Plain as plain
use Rattle.command_spec.proofs.SoundLemmas.{sound_as}

-- the array with room for patches as there
abbrev pub roomed : Array → Kept → Array
roomed a k = record a { memory = with_patch_rooms a.memory k }

pub like_is : (was now : Array) → IsLike was now → now ≡ roomed was now.memory
like_is was now is = λ k. record { register = is.register k; log = is.log k; memory = is.memory k; background = is.background k }

pub roomed_reads : (a : Array) (k : Kept) (contents : Contents) (x : plain.Array) → ReadsAs contents a.memory.memory x → ReadsAs contents (roomed a k).memory.memory x
roomed_reads a k contents x r = record { sound = sound_as a.memory.memory (with_patch_rooms a.memory k).memory refl refl refl r.sound; reads = r.reads }

pub roomed_is_of : (shelf : Geometry) (a : Array) (k : Kept) → a.memory.name_room ≤ k.name_room → IsArrayOf shelf a → IsArrayOf shelf (roomed a k)
roomed_is_of shelf a k names is =
    let r = is.room in
    let enough = r.names in
    let room : HasRoomFor (with_patch_rooms a.memory k) a.log.count a.background =
    record { capacity = r.capacity; names = omega (arith, enough, names); ranges = r.ranges; taken = r.taken; no_segments = r.no_segments; only_objects = r.only_objects } in
    assumption ((sound_as a.memory.memory (with_patch_rooms a.memory k).memory refl refl refl is.sound), room, is)

pub roomed_is_ready : (shelf : Shelved) (a : Array) (k : Kept) (held : Content) → IsReady shelf a held → IsReady shelf (roomed a k) held
roomed_is_ready shelf a k held ready = record {
  is_open = ready.is_open;
  held_log = ready.held_log;
  keeps = ready.keeps;
  flushed = ready.flushed;
  some = ready.some;
  patches_are = ready.patches_are;
  contents = ready.contents;
  reads = roomed_reads a k ready.contents (array_of held) ready.reads;
  hold = ready.hold;
}

-- ---- so it is the same array

pub like_is_of : (shelf : Geometry) (was now : Array) → IsLike was now → IsArrayOf shelf was → IsArrayOf shelf now
like_is_of shelf was now is of = subst (λ (a : Array). IsArrayOf shelf a) (sym (like_is was now is)) (roomed_is_of shelf was now.memory is.names of)

pub like_is_ready : (shelf : Shelved) (was now : Array) (held : Content) → IsLike was now → IsReady shelf was held → IsReady shelf now held
like_is_ready shelf was now held is ready = subst (λ (a : Array). IsReady shelf a held) (sym (like_is was now is)) (roomed_is_ready shelf was now.memory held ready)
