-- What a command that memory has done leaves of what is known of the array.
use Rattle.array_core.proofs.Prelude.{nat_tests, ◌≡◌, ◌≢◌, ℕ, ◌+◌, ◌^◌, ◌≤◌, ◌<◌, List, [], ◌++◌, map, refl, sym, ◌∙◌, subst, arith, All, Option, Some, None, AllPairs, Contains, filter_map, AllByRecursion, Geometry, Facts, segment_key, never, key_of, segment, ids_below, is_elided, says, says_is, ElisionFact, SegmentFact, Request, BootRecord, AreSegmentsSound, AreApart, named_segments, used_places, LOG_SLOTS, facts, patches, each_by_recursion, of_each, IsLaterRecord, AtMost, HasRoomLeft, taken, Kept, IsKept, HasSamePatches, IsLawful, HasRoomAgain, Background, HasRoomFor, a_command, nothing_behind}
use Rattle.session_spec.specs.Prelude.{Tables}
use Rattle.pur_base.specs.declared.request.Table.TheVariants as table
use Rattle.pur_base.specs.declared.request.Request.TheVariants as request

-- ---- room

-- what a request takes is no more than a command may
small : (r : Request) → IsLawful r → AtMost (taken r) a_command
small (request.Create n size) l = record { objects = omega arith; mediums = omega arith; addresses = omega arith; elisions = omega arith; staged = omega arith; names = omega arith; ranges = omega arith }
small (request.Write n lba count) l = record { objects = omega arith; mediums = omega arith; addresses = l; elisions = omega arith; staged = l; names = omega arith; ranges = omega arith }
small (request.Fill n lba count byte) l = record { objects = omega arith; mediums = omega arith; addresses = l; elisions = omega arith; staged = l; names = omega arith; ranges = omega arith }
small (request.Zero n lba count) l = record { objects = omega arith; mediums = omega arith; addresses = l; elisions = omega arith; staged = omega arith; names = omega arith; ranges = omega arith }
small (request.Snapshot name new) l = record { objects = omega arith; mediums = omega arith; addresses = omega arith; elisions = omega arith; staged = omega arith; names = omega arith; ranges = omega arith }
small (request.Clone name new) l = record { objects = omega arith; mediums = omega arith; addresses = omega arith; elisions = omega arith; staged = omega arith; names = omega arith; ranges = omega arith }
small (request.Copy name lba other to count) l = record { objects = omega arith; mediums = omega arith; addresses = omega arith; elisions = omega arith; staged = omega arith; names = omega arith; ranges = omega arith }
small (request.Destroy name) l = record { objects = omega arith; mediums = omega arith; addresses = omega arith; elisions = omega arith; staged = omega arith; names = omega arith; ranges = omega arith }
small _ l = absurd l

-- and leaves room for the next ones
pub room_for_next : (was now : Kept) (logged later : ℕ) (r : Request) (b : Background) → HasRoomFor was logged b → later ≡ logged + 1 → IsLawful r → HasRoomLeft was now r → HasRoomFor now later b
room_for_next was now logged later r b room count lawful left =
    let most = small r lawful in
    record {
      capacity = grind (arith, nat_tests);
      names = grind (arith, nat_tests);
      ranges = grind (arith, nat_tests);
      taken = grind (arith, nat_tests);
      no_segments = left.segments ∙ room.no_segments;
      only_objects = left.elisions room.only_objects;
    }

-- what a checkpoint makes of the room
pub room_again : (was now : Kept) (logged : ℕ) (b : Background) → HasRoomFor was logged b → HasRoomAgain was now → LOG_SLOTS ≤ now.name_room → LOG_SLOTS ≤ now.elided.object_room → now.memory.staged ≡ []
    → now.memory.tables.objects.unflushed ≡ [] → now.memory.tables.mediums.unflushed ≡ [] → now.memory.tables.addresses.unflushed ≡ [] → now.memory.tables.segments.unflushed ≡ [] → now.memory.tables.elisions.unflushed ≡ []
    → HasRoomFor now 0 nothing_behind
room_again was now logged b room again names ranges staged objects mediums addresses segments elisions =
    record {
      capacity = grind (arith, nat_tests);
      names = omega (arith, names);
      ranges = omega (arith, ranges);
      taken = grind (arith, nat_tests);
      no_segments = segments;
      only_objects = subst (λ (l : List ElisionFact). All (λ e. e.table ≡ table.Object) l) (sym elisions) (λ i d less. absurd (omega (arith, less)));
    }

-- ---- segments

-- what is said of a segment, where the same ones are visible
same_said : (was now : Kept) → IsKept was → IsKept now → now.segments ≡ was.segments → (id : ℕ) (d : SegmentFact) → segment (facts was.memory.tables) id ≡ Some d → segment (facts now.memory.tables) id ≡ Some d
same_said was now kept kept_now same id d e =
    let is = says_is segment_key (λ g. g.seq.0) never (λ g. Contains (facts was.memory.tables).segments g) (facts was.memory.tables).segments (is_elided (facts was.memory.tables).elisions table.Segment) (key_of id 0) d
    (each_by_recursion (λ g. Contains (facts was.memory.tables).segments g) (facts was.memory.tables).segments (λ g c. c)) e in
    let low : d.segment.0 < was.memory.next.segment = of_each (λ (f : SegmentFact). f.segment.0 < was.memory.next.segment) (facts was.memory.tables).segments d kept.ids.segments is.0 in
    let next = kept.next.segment.1 in
    let key : segment_key d < 2 ^ 128 = omega (arith, low, next) in
    let there : Contains was.segments d = kept.segments.all d key
    (subst (λ k. says segment_key (λ g. g.seq.0) never (facts was.memory.tables).segments (is_elided (facts was.memory.tables).elisions table.Segment) k ≡ Some d) (sym is.1) e) in
    subst (λ k. says segment_key (λ g. g.seq.0) never (facts now.memory.tables).segments (is_elided (facts now.memory.tables).elisions table.Segment) k ≡ Some d) is.1
    (kept_now.segments.said d (subst (λ l. Contains l d) (sym same) there))

alike : {A : Type 0} (a b : Option A) → ((d : A) → a ≡ Some d → b ≡ Some d) → ((d : A) → b ≡ Some d → a ≡ Some d) → b ≡ a
alike (Some d) b to from = to d refl
alike None (Some d) to from = absurd (cc (from d refl))
alike None None to from = refl

pub same_segments : (was now : Kept) → IsKept was → IsKept now → now.segments ≡ was.segments → (id : ℕ) → segment (facts now.memory.tables) id ≡ segment (facts was.memory.tables) id
same_segments was now kept kept_now same id =
    alike (segment (facts was.memory.tables) id) (segment (facts now.memory.tables) id) (same_said was now kept kept_now same id) (same_said now was kept_now kept (sym same) id)

-- segments are sound by a later record of the same patches, where the same ones are visible
pub segments_sound : (shelf : Geometry) (boot later : BootRecord) (was now : Facts) → IsLaterRecord boot later → ((id : ℕ) → segment now id ≡ segment was id) → AreSegmentsSound shelf boot was → AreSegmentsSound shelf later now
segments_sound shelf boot later was now is same sound = record {
  places = λ id d e. sound.places id d (sym (same id) ∙ e);
  patch_ids = subst (λ (b : BootRecord). AllByRecursion (λ s. s.id < b.next.patch_segment) (named_segments b)) (sym is.rest) sound.patch_ids;
  distinct = subst (λ (b : BootRecord). AllPairs (λ s t. s.id ≢ t.id) (named_segments b)) (sym is.rest) sound.distinct;
  apart =
      let said : (λ (id : ℕ). segment now id) ≡ (λ (id : ℕ). segment was id) = λ k id. same id k in
      subst (λ (b : BootRecord). AllPairs AreApart (used_places b now)) (sym is.rest)
      (subst (λ (f : ℕ → Option SegmentFact). AllPairs AreApart (map (λ s. s.places) (named_segments boot) ++ map (λ d. d.places) (filter_map f (ids_below boot.next.segment)))) (sym said) sound.apart);
}

-- ---- patches

pub same_patches : (was now : Tables) → HasSamePatches was now → patches now ≡ patches was
same_patches was now h = grind (arith, nat_tests)
