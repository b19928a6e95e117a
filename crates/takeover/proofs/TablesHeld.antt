-- Where the record was found, its tables hold one array, whatever a stop leaves.
use Rattle.takeover.proofs.Prelude.{nat_tests, arith, ◌≡◌, ◌⊎◌, inl, inr, ℕ, Bool, true, false, List, refl, sym, ◌∙◌, ap, subst, Option, Some, None, ◌&&◌, nat_lt, if◌then◌else◌, ltb-true, lt-ltb, bytes_eq, cases_Bool, and_from, and_parts, bytes_eq-Decides, Geometry, Image, View, Conditions, is_sound, drive, Drive, Nv, Array, objects, segment, AnyFact, SegmentFact, BootRecord, BootSlot, IsRecordOf, body_in, names, of_members, spelling, BaseStands, HoldsBase, TablesStand, AllHold, Stands, IsReadBy, IsViewOf, MayBeGiven, PatchesStand, all_facts, patches_keep, patches_on, places_keep, base_moves, tables_kept, twice_other, AreSomeOf, AreEnough, TablesHold, enough_hold, one_base, one_patches, geometry_of, Shelved, Stop, IsShelf, MayStop, as_read, read_now, Loaded, slot_in, IsFoundOn, HoldTables}
use Rattle.session_spec.specs.Prelude.{Keeps}
use Rattle.std.proofs.Common.{IsSome}
use Rattle.boot_region.proofs.Composing.{as_it_is, is_sound_is}
use Rattle.register.proofs.Follows.{shows_itself}
use Rattle.takeover.proofs.Loading.{may_read}

-- a drive that the record names and that has its body is shown as it is
pub named_shows : (slot : BootSlot) (boot : BootRecord) (view : View) (i : ℕ) (bytes : List ℕ) → names boot (drive i) ≡ true → body_in slot bytes ≡ spelling boot → view (drive i) ≡ Some bytes → of_members slot boot view (drive i) ≡ Some bytes
named_shows slot boot view i bytes named body shown =
    let same : bytes_eq (body_in slot bytes) (spelling boot) ≡ true = (bytes_eq-Decides (body_in slot bytes) (spelling boot)).1 body in
    rw (named, shown, same) refl

-- what stands with all drives that show the record stands with all but two
module _ (shelf : Geometry) (image : Image) (slot : BootSlot) (boot : BootRecord) (lawful : IsRecordOf shelf boot) (base : Array)
    (h : HoldsBase shelf (of_members slot boot (λ d. Some (image d))) boot base) where
  abbrev full : View
  full = of_members slot boot (λ d. Some (image d))

  fewer_of : (members : View) → AreSomeOf slot boot image members → (i : ℕ) → (members (drive i) ≡ full (drive i)) ⊎ (members (drive i) ≡ None)
  fewer_of members some i = elim (some i) [
    | inl none ↦ inr none
    | inr is ↦ inl (is.2 ∙ sym (named_shows slot boot (λ d. Some (image d)) i (image (drive i)) is.0 is.1 refl))
  ]

  pub all_hold_tables : TablesHold shelf image slot boot h.patches base
  all_hold_tables = record {
    each = λ members some enough.
        let less = fewer_of members some in
        let stay : (id : ℕ) (d : SegmentFact) → segment (all_facts h.patches) id ≡ Some d → Keeps full members d.places =
        λ id d is. places_keep shelf full members less enough d.places (h.tables.sound.segments.places id d is) in (
          tables_kept full members shelf boot h.patches h.tables (patches_keep shelf full members less enough boot.patches (patches_on shelf boot lawful)) stay,
          base_moves full members (all_facts h.patches) stay (objects (all_facts h.patches) boot.next.object) base h.base_stands,
        );
  }

module _ (shelf : Shelved) (x : Loaded) (missing : Conditions) (arrays : List Array) (is : IsShelf shelf) (honest : shelf.honest) (found : IsFoundOn shelf x missing arrays) where
  abbrev geometry : Geometry
  geometry = geometry_of shelf

  abbrev slot : BootSlot
  slot = slot_in x.slot

  abbrev boot : BootRecord
  boot = x.record

  -- at one stop
  module _ (start : Stop) (may : MayStop shelf start) where
    stands : Stands geometry start.image missing arrays
    stands = found.stands start may

    pub given_then : MayBeGiven geometry start.image missing slot boot
    given_then = subst (λ (t : BootSlot). MayBeGiven geometry start.image missing t boot) (twice_other slot) (found.in_force.given start may)

    abbrev base_then : Array
    base_then = (stands.reads slot boot given_then).base

    as_it_stands : IsViewOf geometry start.image missing missing (λ d. Some (start.image d))
    as_it_stands = record { within = as_it_is missing; bearable = stands.bearable; shown = λ d. shows_itself (missing d) (start.image d) (may.device d).is_byte }

    reading : IsReadBy geometry missing (of_members slot boot (λ d. Some (start.image d))) slot boot base_then arrays
    reading = (stands.reads slot boot given_then).each missing (λ d. Some (start.image d)) as_it_stands

    patches_then : List (List AnyFact)
    patches_then = reading.holds.patches

    hold_then : TablesHold geometry start.image slot boot patches_then base_then
    unfolding patches_then
    hold_then = all_hold_tables geometry start.image slot boot found.in_force.lawful base_then reading.holds

  -- at each
  abbrev here : Stop
  here = read_now shelf

  may_here : MayStop shelf here
  may_here = may_read shelf is honest

  pick : Bool → Option (List ℕ) → Option (List ℕ)
  pick b o = if b then o else None

  -- the drives that aren't missing alone
  sound_members : View
  sound_members (Drive d) = pick (nat_lt d.0 shelf.drives && is_sound (missing (Drive d))) (of_members slot boot (λ e. Some (here.image e)) (Drive d))
  sound_members (Nv n) = of_members slot boot (λ e. Some (here.image e)) (Nv n)

  picked : (b : Bool) (o : Option (List ℕ)) → b ≡ true → pick b o ≡ o
  unfolding pick
  picked b o e = rw e refl

  unpicked : (b : Bool) (o : Option (List ℕ)) → b ≡ false → pick b o ≡ None
  unfolding pick
  unpicked b o e = rw e refl

  hold_sound : AllHold geometry missing sound_members
  unfolding sound_members
  hold_sound (Drive d) on sound =
      let some : IsSome (of_members slot boot (λ e. Some (here.image e)) (Drive d)) = (reading here may_here).all_hold (Drive d) on sound in
      subst (λ (o : Option (List ℕ)). IsSome o) (sym (picked (nat_lt d.0 shelf.drives && is_sound (missing (Drive d))) (of_members slot boot (λ e. Some (here.image e)) (Drive d))
      (and_from (nat_lt d.0 shelf.drives) (is_sound (missing (Drive d))) (lt-ltb d.0 shelf.drives on) (ap is_sound sound)))) some
  hold_sound (Nv n) on sound = (reading here may_here).all_hold (Nv n) on sound

  enough : AreEnough geometry sound_members
  enough = enough_hold geometry missing sound_members (stands here may_here).bearable hold_sound

  -- what the full view shows of a drive
  shown_full : (image : Image) (i : ℕ) → (of_members slot boot (λ e. Some (image e)) (drive i) ≡ None)
      ⊎ ((names boot (drive i) ≡ true) × (body_in slot (image (drive i)) ≡ spelling boot) × (of_members slot boot (λ e. Some (image e)) (drive i) ≡ Some (image (drive i))))
  shown_full image i = elim (cases_Bool (names boot (drive i))) [
    | inr none ↦ inl (rw none refl)
    | inl named ↦ elim (cases_Bool (bytes_eq (body_in slot (image (drive i))) (spelling boot))) [
      | inr other ↦ inl (rw (named, other) refl)
      | inl same ↦ inr (named, (bytes_eq-Decides (body_in slot (image (drive i))) (spelling boot)).0 same, rw (named, same) refl)
    ]
  ]

  -- at a stop they are as they are here
  some_then : (start : Stop) → MayStop shelf start → AreSomeOf slot boot start.image sound_members
  unfolding sound_members
  some_then start may i = grind (arith, nat_tests, cases_Bool, unpicked, and_parts, is_sound_is, ltb-true, as_read, picked, shown_full)

  pub held_patches : List (List AnyFact)
  held_patches = patches_then here may_here

  pub held_base : Array
  held_base = base_then here may_here

  -- so it's one array for all stops
  pub hold_tables : HoldTables shelf x held_patches held_base
  unfolding held_patches held_base
  hold_tables start may =
      let there = (hold_then start may).each sound_members (some_then start may) enough in
      let now = (hold_then here may_here).each sound_members (some_then here may_here) enough in
      let ps : patches_then start may ≡ patches_then here may_here = one_patches geometry sound_members boot (patches_then start may) (patches_then here may_here) there.0 now.0 in
      let b : base_then start may ≡ base_then here may_here = one_base geometry sound_members boot (base_then start may) (base_then here may_here)
      (record { patches = patches_then start may; tables = there.0; base_stands = there.1 }) (record { patches = patches_then here may_here; tables = now.0; base_stands = now.1 }) in
      subst (λ (a : Array). TablesHold geometry start.image slot boot (patches_then here may_here) a) b
      (subst (λ (p : List (List AnyFact)). TablesHold geometry start.image slot boot p (base_then start may)) ps (hold_then start may))

  -- and it stands there
  pub held_here : (members : View) × TablesStand geometry members boot held_patches × BaseStands members (all_facts held_patches) boot.next.object held_base
  unfolding held_patches held_base
  held_here =
      let now = (hold_then here may_here).each sound_members (some_then here may_here) enough in
      (sound_members, now.0, now.1)

  pub patches_stand_here : PatchesStand (of_members slot boot (λ d. Some (shelf.disk d).bytes)) boot held_patches
  unfolding held_patches patches_then
  patches_stand_here = (reading here may_here).holds.tables.patches_stand
