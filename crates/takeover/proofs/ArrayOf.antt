-- The array in memory, of a record that was found and its log: what is so of it whatever the devices did.
use Rattle.takeover.proofs.Prelude.{◌≡◌, ℕ, List, [], sym, ◌∙◌, ap, subst, arith, All, AllZip, Geometry, Facts, segment, AddressFact, AnyFact, BootRecord, NextNumbers, IsFact, AreSound, all_facts, in_patches, facts_of, Contents, IsSound, facts, patches, IsNamed, IsSome, Kept, IsArrayOf, nothing_behind, Register, IsLaterRecord, IsRegisterOf, HasReplayed, IsMemoryOf, OpenedLog}
use Rattle.table_plan.specs.Prelude.{AreStored}
use Rattle.array_core.specs.declared.array.Array.{Array}
use Rattle.array_core.proofs.Applied.{same_patches, segments_sound}

-- what was opened, with the register
abbrev pub array_with : OpenedLog → Register → Array
array_with o now = record { memory = o.memory; log = o.log; register = now; background = nothing_behind }

-- memory of the tables, and then of the log
module _ (shelf : Geometry) (boot : BootRecord) (first : Kept) (o : OpenedLog) (memory : IsMemoryOf shelf boot first) (done : HasReplayed first o) where
  pub patches_are : patches o.memory.memory.tables ≡ patches first.memory.tables
  patches_are = same_patches first.memory.tables o.memory.memory.tables done.patches

  pub tables_sound : AreSound shelf boot (patches o.memory.memory.tables)
  tables_sound = subst (λ (ps : List (List AnyFact)). AreSound shelf boot ps) (sym patches_are) memory.tables_sound

  pub facts_lawful : All IsFact (in_patches (patches o.memory.memory.tables))
  facts_lawful = subst (λ (ps : List (List AnyFact)). All IsFact (in_patches ps)) (sym patches_are) memory.lawful

  -- the same segments are visible
  pub segments_are : (id : ℕ) → segment (facts o.memory.memory.tables) id ≡ segment (all_facts (patches first.memory.tables)) id
  segments_are id = done.segments id ∙ ap (λ (f : Facts). segment f id) (sym memory.all)

  no_contents : Contents
  no_contents id index = []

  -- it reads as some array, whatever segments hold
  sound : IsSound o.memory.memory
  sound =
      let some = memory.some no_contents in
      (done.reads no_contents some.0 (memory.reads no_contents some.0 some.1)).1.sound

  pub array_of_shelf : (now : Register) → IsRegisterOf shelf now → IsLaterRecord boot now.record → o.log.flushed ≡ boot.flushed → IsSome o.log.members → IsArrayOf shelf (array_with o now)
  array_of_shelf now is_of later flushed some = record {
    of_shelf = is_of;
    flushed = flushed ∙ sym (ap (λ (r : BootRecord). r.flushed) later.rest);
    some = some;
    sound = sound;
    layered = done.layered;
    stored = subst (λ (ps : List (List AddressFact)). AreStored (facts_of ps)) (sym done.patches.addresses) memory.stored;
    named = subst (λ (r : BootRecord). AllZip IsNamed r.patches (patches o.memory.memory.tables)) (sym later.rest)
        (subst (λ (ps : List (List AnyFact)). AllZip IsNamed boot.patches ps) (sym patches_are) memory.named);
    segments = segments_sound shelf boot now.record (all_facts (patches first.memory.tables)) (facts o.memory.memory.tables) later segments_are memory.tables_sound.segments;
    room = done.room memory.room;
    rested = (omega arith, omega arith);
    segment_ids = done.segment_ids.segment ∙ ap (λ (n : NextNumbers). n.segment) memory.next ∙ sym (ap (λ (r : BootRecord). r.next.segment) later.rest);
    patch_ids = done.segment_ids.patch_segment ∙ ap (λ (n : NextNumbers). n.patch_segment) memory.next ∙ sym (ap (λ (r : BootRecord). r.next.patch_segment) later.rest);
  }
