-- The array once the tables of a checkpoint are its own.
use Rattle.array_checkpoint.proofs.Prelude.{◌≡◌, ◌∙◌, ℕ, ◌+◌, ◌≤◌, ◌<◌, List, length, sym, ap, subst, arith, false, AllZip, Geometry, Facts, segment, AnyFact, AreNext, ArePatches, IsBootRecord, patch_segments, Patch, BootRecord, NextNumbers, AreSegmentsSound, facts, patches, ContentsStand, IsNamed, IsRecordOfMemory, HaveOneMore, ElidingLeaves, after_plan, next_past, units_of, IsSameMemory, HasRoomAgain, IsLaterRecord, IsRegisterOf, with_tables, added_patches, by_tag, Array, nothing_behind, IsArrayOf, is_spent, HasRoomFor, IsCleared, Prepared, IsPreparedFor, HasFlushed, contents_after, facts_after, held_after}
use Rattle.table_planner.proofs.PlanLemmas.{facts_same, patches_same}
use Rattle.record_tables.proofs.Lawful.{next_patches_are_lawful}
use Rattle.pyramid.specs.Prelude.{ElidedRanges}
use Rattle.array_core.specs.declared.array.Background.{Background}
use Rattle.array_core.specs.declared.array.TheConstants.{BACKGROUND_FACTS, BACKGROUND_STAGED}
use Rattle.array_core.proofs.Applied.{room_again, segments_sound}
use Rattle.array_core.proofs.Written.{GoesWith}
use Rattle.array_checkpoint.proofs.After.{is_planned, reads_then, sound_after, sound_then, stored_then}
use Rattle.array_checkpoint.proofs.Elides.{patches_elided, patches_unreached}
use Rattle.array_checkpoint.proofs.Grown.{facts_go_on, one_more}
use Rattle.array_checkpoint.proofs.Placed.{patches_hold}
use Rattle.array_checkpoint.proofs.NextRecord.{ids_left, record_of_memory, tables_are}
use Rattle.array_checkpoint.proofs.PatchUnits.{lawful_places}
use Rattle.array_checkpoint.proofs.PreparedLemmas.{are_low}

module _ (shelf : Geometry) (was : Array) (p : Prepared) (is : IsArrayOf shelf was) (prep : IsPreparedFor was p) where
  abbrev Boot : BootRecord
  Boot = was.register.record

  abbrev First : ℕ
  First = was.memory.memory.next.patch_segment

  abbrev Next : List Patch
  Next = by_tag Boot.patches (added_patches prep.counts First prep.units)

  -- the tables of the next record are those of memory after the plan
  next_record : IsRecordOfMemory shelf (with_tables Boot p.tables) (after_plan was.memory.memory p.plan)
  next_record = record_of_memory shelf was p is prep

  next_lawful : AreNext p.tables.next
  next_lawful = subst (λ (n : NextNumbers). AreNext n) (sym prep.next) (sound_after was.memory.memory p.plan prep.plan.keeps prep.plan.plan).next

  -- ---- the next record

  module _ (few : patch_segments Boot.patches < 596) where
    room_for_new : patch_segments Boot.patches + length prep.units ≤ 600
    room_for_new = let five = prep.few_patches in omega (arith, few, five)

    next_patches : ArePatches Boot.slots Boot.units Next × (patch_segments Next ≡ patch_segments Boot.patches + length prep.units)
    next_patches = next_patches_are_lawful Boot.slots Boot.units Boot.patches prep.counts First prep.units is.of_shelf.lawful.lawful.patches prep.fit prep.wanted
        (lawful_places Boot (facts was.memory.memory.tables) (units_of p.plan) prep.units prep.free) (ids_left shelf was p is prep) room_for_new

    pub next_is_lawful : is_spent was ≡ false → was.log.count ≤ 64 → IsBootRecord (with_tables Boot p.tables)
    next_is_lawful unspent logged =
        let l = (are_low was unspent).flushed in
        let counted = prep.flushed in
        let lawful = is.of_shelf.lawful.lawful in
        record {
          slots = lawful.slots;
          units = lawful.units;
          generation = lawful.generation;
          members = lawful.members;
          next = next_lawful;
          flushed = omega (arith, l, counted, logged);
          patches = subst (λ (ps : List Patch). ArePatches Boot.slots Boot.units ps) (sym (tables_are shelf was p is prep)) next_patches.0;
        }

    segments_counted : patch_segments p.tables.patches ≡ patch_segments Boot.patches + length prep.units
    segments_counted = ap (λ (ps : List Patch). patch_segments ps) (tables_are shelf was p is prep) ∙ next_patches.1

    -- ---- once it is stored, and memory is what was planned

    module _ (now : Array) (later : IsLaterRecord (with_tables Boot p.tables) now.register.record) (same : IsSameMemory (after_plan was.memory.memory p.plan) now.memory.memory) (behind : now.background ≡ nothing_behind) where
      patches_are : now.register.record.patches ≡ p.tables.patches
      patches_are = ap (λ (b : BootRecord). b.patches) later.rest

      numbers_are : now.register.record.next ≡ now.memory.memory.next
      numbers_are = ap (λ (b : BootRecord). b.next) later.rest ∙ prep.next ∙ sym same.next

      named_then : AllZip IsNamed now.register.record.patches (patches now.memory.memory.tables)
      named_then =
          subst (λ (ps : List Patch). AllZip IsNamed ps (patches now.memory.memory.tables)) (sym patches_are)
          (subst (λ (fss : List (List AnyFact)). AllZip IsNamed p.tables.patches fss) (sym (patches_same (after_plan was.memory.memory p.plan) now.memory.memory same)) next_record.patches)

      segments_then : AreSegmentsSound shelf now.register.record (facts now.memory.memory.tables)
      segments_then =
          segments_sound shelf (with_tables Boot p.tables) now.register.record (facts (after_plan was.memory.memory p.plan).tables) (facts now.memory.memory.tables) later
          (λ id. ap (λ (f : Facts). segment f id) (facts_same (after_plan was.memory.memory p.plan) now.memory.memory same)) next_record.segments

      room_then : HasRoomAgain was.memory now.memory → now.memory.elided ≡ p.plan.eliding.elided → HasRoomFor now.memory 0 nothing_behind
      room_then again elided =
          let made = is_planned was.memory.memory p.plan prep.plan.keeps prep.plan.plan now.memory.memory same in
          let names = again.names in
          let more = prep.plan.room.names in
          let ranges = prep.plan.eliding.room in
          room_again was.memory now.memory was.log.count was.background is.room again (omega (arith, names, more)) (subst (λ (e : ElidedRanges). 64 ≤ e.object_room) (sym elided) ranges) made.staged made.objects.unflushed made.mediums.unflushed made.addresses.unflushed made.segments.unflushed made.elisions.unflushed

      -- it is an array that goes with them
      pub goes_with : IsRegisterOf shelf now.register → IsCleared now.register now.log → HasRoomAgain was.memory now.memory → now.memory.elided ≡ p.plan.eliding.elided
          → GoesWith shelf (held_after was.memory.memory p.plan) (contents_after was.memory.memory p.plan) (facts_after was.memory.memory p.plan) was now
      goes_with of_shelf cleared again elided = record {
        is_of = record {
          of_shelf = of_shelf;
          flushed = cleared.flushed;
          some = cleared.some;
          sound = sound_then was.memory.memory p.plan prep.plan.keeps prep.plan.plan now.memory.memory same;
          layered = (is_planned was.memory.memory p.plan prep.plan.keeps prep.plan.plan now.memory.memory same).layered;
          stored = stored_then was.memory.memory p.plan prep.plan.keeps prep.plan.plan now.memory.memory same;
          named = named_then;
          segments = segments_then;
          room = subst (λ (b : Background). HasRoomFor now.memory now.log.count b) (sym behind) (subst (λ (n : ℕ). HasRoomFor now.memory n nothing_behind) (sym cleared.none) (room_then again elided));
          rested = subst (λ (b : Background). (b.facts ≤ BACKGROUND_FACTS) × (b.staged ≤ BACKGROUND_STAGED)) (sym behind) (omega arith, omega arith);
          segment_ids = sym (ap (λ (n : NextNumbers). n.segment) numbers_are);
          patch_ids = sym (ap (λ (n : NextNumbers). n.patch_segment) numbers_are);
        };
        reads = reads_then was.memory.memory p.plan prep.plan.keeps prep.plan.plan now.memory.memory same;
        stand = λ contents members. subst (λ (f : Facts). ContentsStand contents members f) (sym (facts_same (after_plan was.memory.memory p.plan) now.memory.memory same));
        patches_are = λ held. sym (patches_same (after_plan was.memory.memory p.plan) now.memory.memory same);
        log = λ held keeps. cleared.keeps;
      }

      -- and this has become of it
      pub has_flushed : ElidingLeaves → now.log.count ≡ 0 → Boot.generation < now.register.record.generation → now.register.record.generation ≤ Boot.generation + 9 → HasFlushed was now
      has_flushed leaves none rises little = record {
        none = none;
        background = behind;
        rises = rises;
        few = little;
        rest = later.rest ∙ (λ k. record Boot {
          generation = now.register.record.generation;
          members = now.register.record.members;
          patches = sym patches_are k;
          next = (prep.next ∙ sym same.next) k;
          flushed = prep.flushed k;
        });
        elided = p.plan.eliding;
        lowest = prep.plan.eliding;
        elides_mediums = patches_unreached leaves was.memory p.plan prep.plan is.sound now.memory.memory same is.room.no_segments is.room.only_objects;
        elides = patches_elided leaves was.memory p.plan prep.plan is.sound now.memory.memory same is.room.no_segments is.room.only_objects;
        data_segments = length p.plan.segments.items;
        new_segments = length prep.units;
        few_data = prep.few_data;
        few_new = prep.few_patches;
        next = same.next ∙ prep.next_is ∙ ap (λ (n : ℕ). record (next_past (record was.memory.memory.next { sequence = was.memory.memory.next.sequence + n }) (length p.plan.segments.items)) { patch_segment = First + length prep.units })
            (leaves was.memory p.plan.eliding is.sound prep.plan.eliding).1;
        placed = patches_hold was.memory.memory p.plan prep.plan.keeps prep.plan.plan now.memory.memory same;
        patch_segments_are = ap (λ (ps : List Patch). patch_segments ps) patches_are ∙ segments_counted;
        one_more = subst (λ (ps : List Patch). HaveOneMore Boot.patches ps) (sym (patches_are ∙ tables_are shelf was p is prep)) (one_more Boot.patches prep.counts First prep.units prep.wanted);
        go_on = facts_go_on was.memory.memory p.plan now.memory.memory same;
      }
