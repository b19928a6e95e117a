-- What the drives hold of the tables that were found, as they showed it and as they are left.
use Rattle.takeover.proofs.Prelude.{nat_tests, ◌≡◌, ◌⊎◌, ℕ, ◌+◌, ◌<◌, ◌≤◌, true, List, [], refl, sym, ◌∙◌, subst, arith, Option, Some, None, slice_index_or, Command, after_all, AnyFact, Geometry, Image, View, drive, Array, BootRecord, set_count, BootSlot, IsRecordOf, names, of_members, DiffersOnlyIn, HoldsBase, all_facts, AreSomeOf, AreEnough, TablesHold, next_holds, Contents, FactsRead, ReadsAs, facts, patches, ContentsStand, showing, geometry_of, Shelved, IsShelf, Continues, read_now, Loaded, IsMember, slot_in, Kept, SegmentsHold, drives_view, Register, IsLaterRecord, IsRegisterOf, drives_of, own_slot, IsOpen, cut_in, in_cut, none_past, HasReplayed, IsSeenIn, HoldTables, IsMemoryOf, OpenedLog}
use Rattle.std.proofs.Common.{IsSome}
use Rattle.memory_spec.proofs.Held.{held_tables_read}
use Rattle.takeover.proofs.ArrayOf.{patches_are, segments_are}
use Rattle.takeover.proofs.Enough.{enough_shown, some_shown}
use Rattle.takeover.proofs.Loading.{may_read}
use Rattle.takeover.proofs.RecoveredLemmas.{content}
use Rattle.takeover.proofs.TablesHeld.{named_shows}
use Rattle.register.proofs.Rounds.{same_shelf}

-- ---- as it was shown

module _ (a b : Shelved) (x : Loaded) (on : Continues a b) (seen : IsSeenIn a b x) (lawful : IsRecordOf (geometry_of a) x.record)
    (named : (i : ℕ) → IsMember x.drives i → IsMember x.record.members.drives i) (enough : b.drives ≤ set_count x.drives + 2)
    (is_b : IsShelf b) (h_b : b.honest) (ps : List (List AnyFact)) (base : Array) (hold : HoldTables b x ps base) where
  abbrev slot : BootSlot
  slot = slot_in x.slot

  -- before the record was settled the drives had the same bodies, and the same in all but boot units
  only_boot : DiffersOnlyIn (λ i unit. unit < 3) (read_now b).image (read_now a).image
  only_boot = grind (arith, nat_tests, drive)

  held_then : TablesHold (geometry_of a) (read_now a).image slot x.record ps base
  held_then = next_holds (geometry_of a) (read_now b).image (read_now a).image slot slot x.record x.record ps base lawful refl
      (λ i is body. (is, seen.bodies slot i ∙ body)) only_boot
      (subst (λ (g : Geometry). TablesHold g (read_now b).image slot x.record ps base) (sym (same_shelf on)) (hold (read_now b) (may_read b is_b h_b)))

  past : (i : ℕ) → a.drives ≤ i → IsMember x.drives i → ⊥
  past i le m = none_past x.record.members.drives x.record.slots i lawful.lawful.members.within (omega (arith, le, lawful.slots)) (named i m)

  -- so the drives that were found hold the base
  pub base_shown : (view : View) → ((i : ℕ) → (view (drive i) ≡ Some (a.disk (drive i)).bytes) ⊎ (view (drive i) ≡ None)) → ((i : ℕ) → view (drive i) ≡ seen.view (drive i))
      → HoldsBase (geometry_of a) (of_members slot x.record view) x.record base
  base_shown view shown same =
      let there = held_then.each (of_members slot x.record view) (some_shown slot x.record (read_now a).image view shown) are_enough in
      record { patches = ps; tables = there.0; base_stands = there.1 }
    where
      of_seen : (i : ℕ) → of_members slot x.record view (drive i) ≡ of_members slot x.record seen.view (drive i)
      of_seen i = rw (same i) refl

      are_enough : AreEnough (geometry_of a) (of_members slot x.record view)
      are_enough = enough_shown (geometry_of a) x.drives (of_members slot x.record view) (omega (arith, enough, on.drives))
          (λ i lt m. subst (λ (o : Option (List ℕ)). IsSome o) (sym (of_seen i ∙ seen.held i m)) refl) past

-- ---- as it is left

module _ (shelf : Geometry) (boot : BootRecord) (first : Kept) (o : OpenedLog) (memory : IsMemoryOf shelf boot first) (done : HasReplayed first o)
    (s : Shelved) (is_s : IsShelf s) (h_s : s.honest) (now : Register) (later : IsLaterRecord boot now.record) (enough : now.record.slots ≤ set_count now.drives + 2)
    (base : Array) (log : List Command) (opened : IsOpen s now o.log.members (content (patches first.memory.tables) base log)) where
  abbrev ps : List (List AnyFact)
  ps = patches first.memory.tables

  abbrev image : Image
  image = (read_now s).image

  is_of : IsRegisterOf (geometry_of s) now
  is_of = opened.logged.is_of

  past_left : (i : ℕ) → s.drives ≤ i → IsMember now.drives i → ⊥
  past_left i le m = none_past now.record.members.drives now.record.slots i is_of.lawful.lawful.members.within (omega (arith, le, is_of.lawful.slots)) (is_of.named i m)

  is_left : (i : ℕ) → i < s.drives → IsMember now.drives i → IsMember (drives_of now) i
  is_left i lt m = cut_in now.drives now.record.slots i (omega (arith, lt, is_of.lawful.slots)) m

  left_named : (i : ℕ) → IsMember (drives_of now) i → names now.record (drive i) ≡ true
  left_named i m = is_of.named i (in_cut now.drives now.record.slots i m)

  -- each drive that is left shows the record
  showing_enough : AreEnough (geometry_of s) (showing (own_slot now.record) now.record image)
  showing_enough = enough_shown (geometry_of s) now.drives (showing (own_slot now.record) now.record image) (omega (arith, enough, is_of.lawful.slots))
      (λ i lt m. let left = is_left i lt m in subst (λ (o : Option (List ℕ)). IsSome o)
      (sym (named_shows (own_slot now.record) now.record (λ d. Some (image d)) i (image (drive i)) (left_named i left) (opened.logged.bodies i left) refl)) refl) past_left

  in_view : (i : ℕ) → IsMember (drives_of now) i → drives_view s now (drive i) ≡ Some (image (drive i))
  in_view i m = rw m refl

  left_some : AreSomeOf (own_slot now.record) now.record image (drives_view s now)
  left_some i = grind (arith, nat_tests, slice_index_or, drives_of, left_named, in_view)

  left_enough : AreEnough (geometry_of s) (drives_view s now)
  left_enough = enough_shown (geometry_of s) now.drives (drives_view s now) (omega (arith, enough, is_of.lawful.slots))
      (λ i lt m. subst (λ (o : Option (List ℕ)). IsSome o) (sym (in_view i (is_left i lt m))) refl) past_left

  -- the contents that each enough of them gives
  pub held_read : (contents : Contents) × ((members : View) → AreSomeOf (own_slot now.record) now.record image members → AreEnough (geometry_of s) members → ContentsStand contents members (all_facts ps))
      × FactsRead contents [] (all_facts ps) now.record.next.object base
  held_read = held_tables_read (geometry_of s) image (own_slot now.record) now.record ps base (opened.logged.tables (read_now s) (may_read s is_s h_s)) showing_enough

  abbrev pub contents : Contents
  contents = held_read.0

  pub hold : SegmentsHold contents s now (facts o.memory.memory.tables)
  hold id index d e lt = held_read.1 (drives_view s now) left_some left_enough id index d (sym (segments_are shelf boot first o memory done id) ∙ e) lt

  first_read : FactsRead contents [] (all_facts ps) boot.next.object base
  first_read = subst (λ (r : BootRecord). FactsRead held_read.0 [] (all_facts ps) r.next.object base) later.rest held_read.2

  pub tables_read : FactsRead contents [] (all_facts (patches o.memory.memory.tables)) boot.next.object base
  tables_read = subst (λ (p : List (List AnyFact)). FactsRead contents [] (all_facts p) boot.next.object base) (sym (patches_are shelf boot first o memory done)) first_read

  pub memory_reads : ReadsAs contents o.memory.memory (after_all base done.log)
  memory_reads = (done.reads contents base (memory.reads contents base first_read)).1
