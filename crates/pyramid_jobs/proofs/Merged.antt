-- The record with the tables of a prepared merge is lawful and names memory's patches, what was written holds it, and the array with them is one.
use Rattle.pyramid_jobs.proofs.Prelude.{◌≡◌, ◌∙◌, inr, ℕ, ◌+◌, ◌<◌, ◌≤◌, Bool, List, [], ◌∷◌, ◌++◌, map, length, refl, sym, ap, subst, arith, All, Contains, Option, Some, None, same_segment, IsMerged, Geometry, Shelved, IsShelf, Runs, geometry_of, View, Facts, table_tag, tag_of, segment, Table, AreNext, ArePatches, IsBootRecord, IsPatch, NUMBER_LIMIT, patch_segments, Patch, PatchSegment, BootRecord, NextNumbers, AreSegmentsSound, AreSound, BaseStands, TablesStand, PatchStands, PatchesStand, AreEnough, AreAmong, all_facts, all_append_right, Memory, facts, patches, patch_facts, patches_of, places_of_part, AreJoined, pair_segments, place_in, IsNamed, AnyFact, IsFact, in_patches, facts_of, all_contained, IsSound, flushed, of_all, of_each, contains_at, read_now, IsShrunk, HaveShrunk, IsMergedAt, merge_shrinks, in_patches_are, patches_are_flushed, shrinking_reads, shrunk_sound, all_append_left, memory_with, merged_facts, merged_patches, tables_with, table_of, AreStored, Merged, Content, IsLaterRecord, IsRegisterOf, with_tables, new_patch, Array, IsArrayOf, IsReady, HasRoomFor, HoldTables, OnUnused, WritesFree, HasMerged, at_array, held_after, IsOne, IsPreparedFor, OneMayBeWritten, OneStands}
use Rattle.std.specs.List.{AllByRecursion, AllZip, flat_map}
use Rattle.pur_base.specs.declared.facts.AnyFact.TheVariants as any
use Rattle.pur_base.specs.declared.request.Table.TheVariants as table
use Rattle.boot_region.specs.Prelude.{IsDrive}
use Rattle.free_space.specs.Laws.{AreUnitsToTake}
use Rattle.memory_spec.proofs.Holding.{merged_patches_hold}
use Rattle.memory_spec.proofs.MergedSound.{merged_patches_are_sound, merged_patches_shrink, still_layered}
use Rattle.table_plan.specs.declared.merged.Merged.TheVariants as merged
use Rattle.table_plan.proofs.MergeLemmas.{are_patch_facts, flushed_fact, is_merge}
use Rattle.register.proofs.Rounds.{same_shelf as same_size}
use Rattle.array_memory.specs.Prelude.{Kept, with_patch_rooms}
use Rattle.command_spec.proofs.SoundLemmas.{numbered_sound, sound_as}
use Rattle.segment_io.specs.Prelude.{bytes_of}
use Rattle.record_tables.proofs.Added.{flat_places, new_each, patch_segments_are, segments_places, the_patch}
use Rattle.record_tables.proofs.Pairs.{few_segments, joined_are_lawful, joined_are_named, joined_segments_are_sound, merged_is_named, zip_joined}
use Rattle.array_core.specs.declared.array.Background.{Background}
use Rattle.array_core.proofs.Written.{GoesWith}
use Rattle.array_checkpoint.proofs.Left.{AreLeft, old_tables, own_size, shown}
use Rattle.array_checkpoint.proofs.NewUnits.{tags_from}
use Rattle.array_checkpoint.proofs.PatchUnits.{headed, lawful_places, part_taken, patch_places}
use Rattle.array_checkpoint.proofs.PreparedLemmas.{same_shelf}
use Rattle.array_checkpoint.proofs.Stays.{may_stop_now}
use Rattle.pyramid_jobs.specs.declared.preparing.Prepared.{Prepared}

-- ---- lists of none or one

-- what holds of the patches where it stands holds of it
in_joined : {A : Type 0} {at : ℕ} {was joined now : List A} (P : A → Type 0) → AreJoined at was joined now → AllByRecursion P now → AllByRecursion P joined
in_joined {joined = joined} P j each = all_append_left P joined j.back (all_append_right P j.front (joined ++ j.back) (subst (λ xs. AllByRecursion P xs) j.now_is each))

module _ (R S : Patch → List AnyFact → Type 0) where
  zip_one : {F : Type 0} (c : F → AnyFact) (patch : Option (List F)) (ps : List Patch) → AllZip R ps (map (map c) (patches_of patch)) → ((p : Patch) → IsOne ps p → S p (map c (patch_facts patch)))
      → AllZip S ps (map (map c) (patches_of patch))
  zip_one c None [] z h = tt
  zip_one c None (p ∷ ps) z h = absurd z
  zip_one c (Some fs) [] z h = absurd z
  zip_one c (Some fs) (p ∷ []) z h = (h p refl, tt)
  zip_one c (Some fs) (p ∷ o ∷ ps) z h = absurd z.1

  -- what holds of the one patch and its facts holds of the lists
  zip_merged : (p : Merged) (ps : List Patch) → AllZip R ps (merged_patches p) → ((o : Patch) → IsOne ps o → S o (merged_facts p)) → AllZip S ps (merged_patches p)
  zip_merged (merged.Object patch) ps z h = zip_one any.Object patch ps z h
  zip_merged _ ps z h = zip_one _ _ ps z h

-- ---- facts of patches

-- those of sound memory may be written
facts_lawful : (m : Memory) → IsSound m → AreStored (facts_of m.tables.addresses.patches) → All IsFact (in_patches (patches m.tables))
facts_lawful m s stored =
    let fact = flushed_fact m s stored in
    all_contained IsFact (in_patches (patches m.tables)) (λ a c. of_all (flushed m.tables) IsFact (fact table.Object) (fact table.Medium) (fact table.Address) (fact table.Segment) (fact table.Elision) a (subst (λ l. Contains l a) (in_patches_are m.tables) c))

-- ---- beside the patches of the table

-- there is the same room for commands, and the same is unflushed
room_with : (was now : Kept) (i : ℕ) (p : Merged) (count logged : ℕ) (b : Background) → was.name_room ≡ now.name_room → HasRoomFor was logged b
    → HasRoomFor (with_patch_rooms (record was { memory = memory_with was.memory i p count }) now) logged b
room_with was now i (merged.Object patch) count logged b names room = let enough = room.names in record { capacity = room.capacity; names = omega (arith, enough, names); ranges = room.ranges; taken = room.taken; no_segments = room.no_segments; only_objects = room.only_objects }
room_with was now i _ count logged b names room = let enough = room.names in record { capacity = room.capacity; names = omega (arith, enough, names); ranges = room.ranges; taken = room.taken; no_segments = room.no_segments; only_objects = room.only_objects }

module _ (a : Shelved) (x : Array) (I : ℕ) (q : Prepared) (of : IsArrayOf (geometry_of a) x) (h : IsPreparedFor I x q) where
  abbrev Size : Geometry
  Size = geometry_of a

  abbrev Boot : BootRecord
  Boot = x.register.record

  abbrev M : Memory
  M = x.memory.memory

  abbrev T : Table
  T = table_of q.merged

  -- ---- memory with the patch in the place of the two

  abbrev Then : Memory
  Then = record M { tables = tables_with M.tables I q.merged }

  is_merged : IsMergedAt T I M Then
  is_merged = is_merge M I q.merged h.merged

  shrunk : IsShrunk M Then
  shrunk = merge_shrinks T I M Then of.sound of.layered is_merged

  same_facts : (id : ℕ) → segment (facts Then.tables) id ≡ segment (facts M.tables) id
  same_facts = shrunk.facts.same_segments

  -- the facts of patches say the same
  pub says : HaveShrunk (all_facts (patches M.tables)) (all_facts (patches Then.tables))
  says = merged_patches_shrink T I M Then of.sound of.layered is_merged

  -- and none of them names a staged sector
  stored : AreStored (facts_of Then.tables.addresses.patches)
  stored f at c e =
      of.stored f at (subst (λ l. Contains l f) (ap (λ (fs : Facts). fs.addresses) (patches_are_flushed M.tables))
      (says.addresses f (subst (λ l. Contains l f) (sym (ap (λ (fs : Facts). fs.addresses) (patches_are_flushed Then.tables))) c))) e

  -- ids are left for its segments
  pub ids_left : M.next.patch_segment + length h.units < NUMBER_LIMIT
  ids_left = let low = h.ids in let same = of.patch_ids in omega (arith, low, same)

  -- ---- the next record

  lawful : IsBootRecord Boot
  lawful = of.of_shelf.lawful.lawful

  joined : AreJoined (place_in T I Boot.patches) Boot.patches (new_patch (tag_of T) (length (merged_facts q.merged)) Boot.next.patch_segment h.units) q.tables.patches
  joined = subst (λ (ps : List Patch). AreJoined (place_in T I Boot.patches) Boot.patches ps q.tables.patches) h.added h.patches

  pub lawful_patches : ArePatches Boot.slots Boot.units q.tables.patches × (patch_segments q.tables.patches + pair_segments T I Boot.patches ≡ patch_segments Boot.patches + length h.units)
  lawful_patches = joined_are_lawful Boot.slots Boot.units Boot.patches q.tables.patches T I (length (merged_facts q.merged)) Boot.next.patch_segment h.units lawful.patches h.there joined h.fits h.wanted
      (lawful_places Boot (facts M.tables) [] h.units h.free) h.ids h.few

  next_lawful : AreNext q.tables.next
  next_lawful =
      let numbers = lawful.next in
      let some : 1 ≤ Boot.next.patch_segment + length h.units = (let one = numbers.patch_segment.0 in omega (arith, one)) in
      let low = h.ids in
      let all : AreNext (record Boot.next { patch_segment = Boot.next.patch_segment + length h.units }) = assumption (numbers, some, low) in
      subst (λ (n : NextNumbers). AreNext n) (sym h.next) all

  pub next_is_lawful : IsBootRecord (with_tables Boot q.tables)
  next_is_lawful = let flushed : q.tables.flushed < NUMBER_LIMIT = (let low = lawful.flushed in let same = h.flushed in omega (arith, low, same)) in assumption (lawful, flushed, next_lawful, lawful_patches.0)

  -- it names memory's patches
  pub added_named : AllZip IsNamed q.added (merged_patches q.merged)
  added_named = subst (λ (ps : List Patch). AllZip IsNamed ps (merged_patches q.merged)) (sym h.added) (merged_is_named q.merged Boot.next.patch_segment h.units h.some)

  pub joined_facts : AreJoined (place_in T I Boot.patches) (patches M.tables) (merged_patches q.merged) (patches Then.tables)
  joined_facts = (joined_are_named Boot.slots Boot.units Boot.patches M I q.merged lawful.patches of.named h.merged).0

  named : AllZip IsNamed q.tables.patches (patches Then.tables)
  named = (joined_are_named Boot.slots Boot.units Boot.patches M I q.merged lawful.patches of.named h.merged).1 q.added q.tables.patches added_named h.patches

  -- ---- with the generation and the members of a later one

  module _ (r : BootRecord) where
    abbrev Next : BootRecord
    Next = record (with_tables Boot q.tables) { generation = r.generation; members = r.members }

    segments : (fs : Facts) → ((id : ℕ) → segment fs id ≡ segment (facts M.tables) id) → AreSegmentsSound Size Next fs
    segments fs same =
        let all = subst (λ (g : Geometry). AreSegmentsSound g (with_tables Boot q.tables) fs) (same_shelf Size x of)
        (joined_segments_are_sound Boot (facts M.tables) fs T I (length (merged_facts q.merged)) Boot.next.patch_segment h.units q.tables.patches q.tables.next q.tables.flushed lawful
        (subst (λ (g : Geometry). AreSegmentsSound g Boot (facts M.tables)) (sym (same_shelf Size x of)) of.segments)
        same h.wanted h.free (omega arith) joined (ap (λ (n : NextNumbers). n.segment) h.next) (ap (λ (n : NextNumbers). n.patch_segment) h.next)) in
        assumption all

    -- where the patches were sound by the record, they are by that one: nothing but objects and addresses is unflushed beside them
    pub sound_by : AreSound Size Boot (patches M.tables) → AreSound Size Next (patches Then.tables)
    sound_by sound =
        let room = room_with x.memory x.memory I q.merged 0 x.log.count x.background refl of.room in
        merged_patches_are_sound Size Boot Next T I M Then of.layered is_merged sound (facts_lawful M of.sound of.stored) next_lawful
        (h.next ∙ ap (λ (n : ℕ). record Boot.next { patch_segment = n }) (sym (ap (λ (n : NextNumbers). n.patch_segment) h.next))) named
        (segments (all_facts (patches Then.tables)) (λ id. same_segment Then.tables room.no_segments room.only_objects id ∙ same_facts id))

  -- ---- the one patch

  own : flat_map patch_places q.added ≡ h.units
  own = subst (λ ps. flat_map patch_places ps ≡ h.units) (sym h.added) (flat_places (new_patch (tag_of T) (length (merged_facts q.merged)) Boot.next.patch_segment h.units)
      ∙ ap (λ l. map (λ (s : PatchSegment). s.places) l) (patch_segments_are (tag_of T) (length (merged_facts q.merged)) Boot.next.patch_segment h.units (sym h.wanted)) ∙ segments_places Boot.next.patch_segment h.units)

  -- the units of each of its segments were taken
  pub taken : (p : Patch) → Contains q.added p → (part : ℕ) → part < length p.segments → AreUnitsToTake Boot (facts M.tables) (places_of_part p part)
  taken = part_taken Boot (facts M.tables) [] h.units q.added own h.free

  -- and it may be written
  pub may_be_written : OneMayBeWritten a q.added (merged_facts q.merged)
  may_be_written = record {
    each = λ p at.
        let all = lawful_patches.0 in
        let few = h.few in
        let most = few_segments T I Boot.patches in
        let room = lawful.patches.room in
        let head = headed Boot (facts M.tables) [] h.units q.added own h.free a
        (subst (λ (g : Geometry). AllByRecursion (IsPatch g.slots g.units) q.added) (sym (own_size a x of)) (in_joined (IsPatch Boot.slots Boot.units) h.patches all.each))
        (in_joined (λ (o : Patch). 1 ≤ o.tag) h.patches (tags_from 1 q.tables.patches all.by_tag)) (omega (arith, few, most, room)) p (contains_at q.added 0 p at) in
        let is = of_each (λ o. o ≡ the_patch (tag_of T) (length (merged_facts q.merged)) Boot.next.patch_segment h.units) q.added p
        (rw h.added (new_each (λ o. o ≡ the_patch (tag_of T) (length (merged_facts q.merged)) Boot.next.patch_segment h.units) _ _ _ _ (λ some. refl))) (contains_at q.added 0 p at) in
        let right = are_patch_facts M I q.merged of.sound of.stored h.merged in (
          record {
            lawful = head.lawful;
            count = sym (ap (λ (o : Patch). o.facts) is);
            each = right.lawful;
            in_order = record { table = subst (λ (n : ℕ). AllByRecursion (λ f. table_tag f ≡ n) (merged_facts q.merged)) (sym (ap (λ (o : Patch). o.tag) is)) right.table; ascending = right.ascending };
            apart = head.apart;
          },
          head,
        );
  }

  -- Once it was written the next tables hold the same base, on drives that aren't lost.
  module _ (b : Shelved) (is : IsShelf a) (is_b : IsShelf b) (run : Runs IsDrive (OnUnused x) a b) (lost : List Bool) (honest : a.honest) (stands : OneStands b q.added lost (merged_facts q.merged)) (held : Content) (ready : IsReady a x held) (free : WritesFree x.register held a b) where
    holds : (left : List Bool) → AreLeft x.register lost left → (members : View) → AreAmong left (bytes_of b) members → AreEnough (geometry_of b) members
        → TablesStand (geometry_of b) members (Next Boot) (patches Then.tables) × BaseStands members (all_facts (patches Then.tables)) q.tables.next.object held.base
    holds left fewer members among enough =
        let size = same_size run.continues in
        let old = old_tables a b x of run lost left fewer members among enough is is_b honest held ready free in
        let new : PatchesStand members (Next Boot) (patches Then.tables) =
        zip_joined (PatchStands members) old.0.patches_stand h.patches joined_facts
        (zip_merged IsNamed (PatchStands members) q.merged q.added added_named
        (λ p at. stands.each p at (read_now b) members (may_stop_now b is_b (run.continues.honest honest))
        (λ part l. shown a b x of run lost left fewer members among enough (places_of_part p part) (taken p (contains_at q.added 0 p at) part l)))) in
        merged_patches_hold (geometry_of b) members Boot (Next Boot) (patches M.tables) (patches Then.tables) held.base old.0 old.1 says (ap (λ (n : NextNumbers). n.object) h.next)
        (subst (λ (s : Geometry). AreSound s (Next Boot) (patches Then.tables)) size (sound_by Boot (subst (λ (s : Geometry). AreSound s Boot (patches M.tables)) (sym size) old.0.sound))) new

    pub holds_merged : HoldTables b x.register lost q.tables held (held_after M I q held)
    holds_merged = record { stand = holds; keeps = inr (record { flushed = h.flushed; log = refl; base = refl }) }

  -- ---- the array with a later record of these tables, and with the patch in memory

  module _ (now : Array) (later : IsLaterRecord (with_tables Boot q.tables) now.register.record) (log : now.log ≡ x.log) (behind : now.background ≡ x.background)
      (same : now.memory ≡ with_patch_rooms (record x.memory { memory = memory_with M I q.merged q.segments }) now.memory) (names : x.memory.name_room ≡ now.memory.name_room) where
    abbrev With : Array
    With = record { memory = with_patch_rooms (record x.memory { memory = memory_with M I q.merged (length h.units) }) now.memory; log = x.log; register = record now.register { «record» = Next now.register.record }; background = x.background }

    given : now.memory ≡ With.memory
    given = same ∙ ap (λ (n : ℕ). with_patch_rooms (record x.memory { memory = memory_with M I q.merged n }) now.memory) h.count

    is_with : now ≡ With
    is_with = λ i. record { memory = given i; log = log i; register = record now.register { «record» = later.rest i }; background = behind i }

    sound : IsSound With.memory.memory
    sound = sound_as (memory_with M I q.merged (length h.units)) With.memory.memory refl refl refl (numbered_sound Then (length h.units) (shrunk_sound M Then of.sound shrunk) ids_left)

    pub goes_with : IsRegisterOf Size now.register → GoesWith Size (held_after M I q) (λ contents. contents) (facts M.tables) x now
    goes_with = subst (λ (b : Array). IsRegisterOf Size b.register → GoesWith Size (held_after M I q) (λ contents. contents) (facts M.tables) x b) (sym is_with) (λ of_shelf. record {
      is_of = record {
        of_shelf = of_shelf;
        flushed = of.flushed ∙ sym h.flushed;
        some = of.some;
        sound = sound;
        layered = (let layers = still_layered T I M Then is_merged of.layered in assumption layers);
        stored = stored;
        named = named;
        segments = segments now.register.record (facts Then.tables) same_facts;
        room = room_with x.memory now.memory I q.merged (length h.units) x.log.count x.background names of.room;
        rested = of.rested;
        segment_ids = of.segment_ids ∙ sym (ap (λ (n : NextNumbers). n.segment) h.next);
        patch_ids = (let before = of.patch_ids in let given = ap (λ (n : NextNumbers). n.patch_segment) h.next in omega (arith, before, given));
      };
      reads = λ contents y reads. record { sound = sound; reads = (shrinking_reads contents M Then y reads shrunk).reads };
      stand = λ contents members stand id index d said within. stand id index d (sym (same_facts id) ∙ said) within;
      patches_are = λ held. refl;
      log = λ held keeps. keeps;
    })

    -- and a session's point at it is that behind a merge
    pub has_merged : Boot.generation < now.register.record.generation → now.register.record.generation ≤ Boot.generation + 6 → HasMerged Size T I x now
    has_merged rises little = record {
      log = log;
      background = behind;
      merged = q.merged;
      table = refl;
      made = h.merged;
      new_segments = length h.units;
      memory = given;
      points = λ from. subst (λ (b : Array). IsMerged Size T I (at_array from x) (at_array from b)) (sym is_with) (record {
        same = refl;
        rises = rises;
        few = little;
        new_segments = length h.units;
        boot = λ i. record (Next now.register.record) { next = h.next i; flushed = h.flushed i };
        next = refl;
        joined = q.added;
        joined_named = h.patches;
        facts = merged_patches q.merged;
        joined_facts = joined_facts;
        few_new = h.few;
        patch_segments_are = lawful_patches.1;
        named = named;
        says = says;
        sound = sound_by now.register.record;
      });
    }
