-- The next record of an array that stands in its log alone follows on from what may be given before it.
use Rattle.register.proofs.Prelude.{nat_tests, ◌≡◌, ◌⊎◌, inl, inr, ℕ, ◌+◌, ◌-◌, ◌^◌, ◌≤◌, ◌<◌, List, [], length, take, refl, sym, ◌∙◌, ap, subst, arith, Bool, true, false, Some, Contains, slice_index, slice_index_or, take_all, append-nil, cases_Bool, Device, View, Condition, Conditions, Sound, Missing, LeftOut, MayShowAs, IsBearable, IsWithin, IsOn, drive, nvram, Array, AllAccepted, after_all, BootRecord, spelling, BootSlot, IsRecordOf, IsDecided, votes, other_slot, body_in, shown_by, slot_of, generation_in, names, of_members, Yields, ShowsIn, Stands, MayBeGiven, IsViewOf, IsReadInto, FollowsOn, HasNoLog, LogLies, TablesHold, NamesNoneLeftOut, next_holds, record_is_read, read_holds, one_base, one_is_decided, sound_before, within_twice, more_may_go_missing, this_or_other, twice_other, spells_one, was_left_out, Shelved, Stop, MayStop, IsShelf, geometry_of, as_read, IsMember, StandsNow, OnlyBoot, IsInForceOn, MayFollow, next_record, Content, ShowsOn, array_of}
use Rattle.pur_base.specs.declared.device.Device.TheVariants as dev
use Rattle.boot_region.proofs.Composing.{all_decide, as_it_is}
use Rattle.nvram_log.specs.Members as nv
use Rattle.register.proofs.Splice.{at_splice, splice_stops, splice_bodies, splice_boot, only_boot_twice}
use Rattle.register.proofs.Numbers.{generation_spelled, next_other, yields_le, slots_differ}

-- a device may show itself
pub shows_itself : (c : Condition) (bytes : List ℕ) → ((i : ℕ) → Rattle.std.specs.Prelude.slice_index bytes i < 256) → MayShowAs c bytes (Some bytes)
shows_itself Sound bytes is = refl
shows_itself Missing bytes is = inl refl
shows_itself LeftOut bytes is = (refl, is)

module _ (shelf : Shelved) (is : IsShelf shelf) (boot : BootRecord) (members drives nvrams : List Bool) (missing : Conditions) (held : Content) (arrays : List Array)
    (lawful : IsRecordOf (geometry_of shelf) boot) (next_lawful : IsRecordOf (geometry_of shelf) (next_record boot drives nvrams)) (not_spent : boot.generation + 1 < 2 ^ 48 - 8)
    (bytes : (d : Device) (i : ℕ) → slice_index (shelf.disk d).bytes i < 256)
    (tables : (start : Stop) → MayStop shelf start → TablesHold (geometry_of shelf) start.image (slot_of boot.generation) boot held.patches held.base)
    (bodies : (i : ℕ) → IsMember drives i → (names boot (drive i) ≡ true) × (body_in (slot_of boot.generation) (shelf.disk (drive i)).bytes ≡ spelling boot)) (among : (i : ℕ) → IsMember members i → IsMember drives i) (some : nv.IsSome nvrams)
    (holds : ShowsOn shelf nvrams boot.flushed held.log) (accepted : AllAccepted held.base held.log)
    (force : IsInForceOn shelf members missing (other_slot (slot_of boot.generation)) boot) (stands : StandsNow shelf missing arrays) (one_of : Contains arrays (array_of held))
    (sound : (n : ℕ) → n < 2 → missing (nvram n) ≡ Sound → nv.IsMember nvrams n) (left_out : (n : ℕ) → missing (nvram n) ≡ LeftOut → nv.IsMember nvrams n → ⊥)
    (no_drive : (i : ℕ) → missing (drive i) ≡ LeftOut → names boot (drive i) ≡ false) where
  -- ---- it is read into the arrays
  module _ (later : Conditions) (start stop : Stop) (within : IsWithin missing later) (bearable : IsBearable (geometry_of shelf) later) (may : MayStop shelf start) (only : OnlyBoot start.image stop.image)
      (written : (i : ℕ) → i < shelf.drives → later (drive i) ≡ Sound → body_in (other_slot (slot_of boot.generation)) (stop.image (drive i)) ≡ spelling (next_record boot drives nvrams)) where
    was_sound : (d : Device) → later d ≡ Sound → missing d ≡ Sound
    was_sound d s = sound_before (missing d) (later d) (within d) s

    nvram_is : (n : ℕ) → n < 2 → nv.IsMember nvrams n → stop.image (nvram n) ≡ (shelf.disk (nvram n)).bytes
    nvram_is n lt m = only.nvram n ∙ as_read (shelf.disk (nvram n)) (start.image (nvram n)) (holds.clean n lt m) (may.device (nvram n))

    named : (d : Device) → IsOn (geometry_of shelf) d → later d ≡ Sound → names (next_record boot drives nvrams) d ≡ true
    named (dev.Drive d) on s = among d.0 (force.sound d.0 on (was_sound (dev.Drive d) s))
    named (dev.Nv n) on s = sound n.0 on (was_sound (dev.Nv n) s)

    one : (n : ℕ) × (n < 2) × nv.IsMember nvrams n
    one = elim some [ inl m ↦ (0, omega arith, m) | inr m ↦ (1, omega arith, m) ]

    unnamed : (n : ℕ) → later (nvram n) ≡ LeftOut → slice_index_or nvrams n false ≡ false
    unnamed n out = grind (arith, nat_tests, slice_index_or, was_left_out)

    lies : LogLies stop.image later (next_record boot drives nvrams) held.log held.log
    lies = record {
      front = ([], sym (append-nil held.log));
      room = (holds.log one.0 one.1 one.2).room;
      lawful = λ i c at. ((holds.log one.0 one.1 one.2).between.all i c at).spelled.lawful;
      all = λ n i c lt s at.
          let m = sound n lt (was_sound (nvram n) s) in
          subst (λ (b : List ℕ). ShowsIn b boot.flushed i c) (sym (nvram_is n lt m)) ((holds.log n lt m).between.all i c at);
      no_other = λ n i c lt m shown. (holds.log n lt m).between.no_other i c (subst (λ (b : List ℕ). ShowsIn b boot.flushed i c) (nvram_is n lt m) shown);
      left_out = λ n lt out. unnamed n out;
    }

    all_of_it : (n : ℕ) → length held.log ≤ n → n ≤ length held.log → Contains arrays (after_all held.base (take n held.log))
    all_of_it n low high = grind (arith, nat_tests, take_all, after_all)

    none_left_out : NamesNoneLeftOut later (next_record boot drives nvrams)
    none_left_out (dev.Drive d) out = elim (cases_Bool (slice_index_or drives d.0 false)) [
      | inl m ↦ absurd (cc ((bodies d.0 m).0, no_drive d.0 (was_left_out (missing (dev.Drive d)) (later (dev.Drive d)) (within (dev.Drive d)) out)))
      | inr not ↦ not
    ]
    none_left_out (dev.Nv n) out = unnamed n.0 out

    -- the boot units as they are read, and the others as the store finds them
    long : (i : ℕ) → length (shelf.disk (drive i)).bytes ≡ length (start.image (drive i))
    long i = sym (may.device (drive i)).size

    start_then : Stop
    start_then = at_splice shelf bytes start.image long (λ d. (may.device d).is_byte) (λ d i le not. (may.device (drive d)).clean i not) (λ n. may.device (nvram n))

    may_then : MayStop shelf start_then
    unfolding start_then
    may_then = splice_stops shelf bytes start.image long (λ d. (may.device d).is_byte) (λ d i le not. (may.device (drive d)).clean i not) (λ n. may.device (nvram n))

    only_then : OnlyBoot start_then.image stop.image
    unfolding start_then
    only_then = only_boot_twice _ start.image stop.image
        (splice_boot shelf bytes start.image long (λ d. (may.device d).is_byte) (λ d i le not. (may.device (drive d)).clean i not) (λ n. may.device (nvram n))) only

    showed : (i : ℕ) → names (next_record boot drives nvrams) (drive i) ≡ true → (names boot (drive i) ≡ true) × (body_in (slot_of boot.generation) (start_then.image (drive i)) ≡ spelling boot)
    unfolding start_then
    showed i m =
        let b = bodies i m in
        (b.0, splice_bodies shelf bytes start.image long (λ d. (may.device d).is_byte) (λ d i le not. (may.device (drive d)).clean i not) (λ n. may.device (nvram n)) (slot_of boot.generation) i ∙ b.1)

    held_next : TablesHold (geometry_of shelf) stop.image (other_slot (slot_of boot.generation)) (next_record boot drives nvrams) held.patches held.base
    held_next = next_holds (geometry_of shelf) start_then.image stop.image (slot_of boot.generation) (other_slot (slot_of boot.generation)) boot (next_record boot drives nvrams) held.patches held.base
        lawful refl (λ i named body. showed i named) only_then (tables start_then may_then)

    is_read : (r : IsReadInto (geometry_of shelf) stop.image later (other_slot (slot_of boot.generation)) (next_record boot drives nvrams) arrays) × (r.base ≡ held.base)
    is_read = record_is_read (geometry_of shelf) stop.image later (other_slot (slot_of boot.generation)) (next_record boot drives nvrams) held.patches held.base held.log held.log arrays
        next_lawful (record { in_its_slot = sym (next_other boot.generation); not_spent = not_spent }) (record { named = named; written = written }) none_left_out held_next accepted lies all_of_it

    -- ---- and it follows on
    module _ (s : Stands (geometry_of shelf) start.image missing arrays) (slot2 : BootSlot) (boot2 : BootRecord) (g : MayBeGiven (geometry_of shelf) start.image missing slot2 boot2) where
      given : MayBeGiven (geometry_of shelf) start.image missing (slot_of boot.generation) boot
      given = subst (λ (t : BootSlot). MayBeGiven (geometry_of shelf) start.image missing t boot) (twice_other (slot_of boot.generation)) (force.given start may)

      shows : (i : ℕ) → i < shelf.drives → missing (drive i) ≡ Sound → shown_by (slot_of boot.generation) (start.image (drive i)) ≡ Some (spelling boot)
      shows i lt so = grind (arith, nat_tests, as_read, twice_other)

      decided : IsDecided (votes (geometry_of shelf) g.view (slot_of boot.generation)) (spelling boot)
      decided = all_decide (geometry_of shelf) start.image missing g.more g.view (slot_of boot.generation) (spelling boot) is.drives.0 shows g.appears

      -- the other record is this one, or it is of the other slot and no older
      Either : Type 0
      Either = ((slot2 ≡ slot_of boot.generation) × (boot2 ≡ boot)) ⊎ ((slot2 ≡ other_slot (slot_of boot.generation)) × (boot.generation ≤ boot2.generation))

      same : slot2 ≡ slot_of boot.generation → boot2 ≡ boot
      same e =
          let mine : IsDecided (votes (geometry_of shelf) g.view (slot_of boot.generation)) (spelling boot2) = subst (λ (t : BootSlot). IsDecided (votes (geometry_of shelf) g.view t) (spelling boot2)) e g.effective.decided in
          spells_one (geometry_of shelf) boot2 boot g.lawful lawful (one_is_decided (votes (geometry_of shelf) g.view (slot_of boot.generation)) (spelling boot2) (spelling boot) mine decided)

      no_older : slot2 ≡ other_slot (slot_of boot.generation) → boot.generation ≤ boot2.generation
      no_older e =
          let back : slot_of boot.generation ≡ other_slot slot2 = sym (ap other_slot e ∙ twice_other (slot_of boot.generation)) in
          let yields : Yields slot2 (generation_in (spelling boot)) (generation_in (spelling boot2)) =
          g.effective.highest (spelling boot) (subst (λ (t : BootSlot). IsDecided (votes (geometry_of shelf) g.view t) (spelling boot)) back decided) in
          let le : generation_in (spelling boot) ≤ generation_in (spelling boot2) = yields_le slot2 (generation_in (spelling boot)) (generation_in (spelling boot2)) yields in
          subst (λ (a : ℕ). a ≤ boot2.generation) (generation_spelled boot lawful.lawful)
          (subst (λ (b : ℕ). generation_in (spelling boot) ≤ b) (generation_spelled boot2 g.lawful.lawful) le)

      either : ((slot2 ≡ slot_of boot.generation) × (boot2 ≡ boot)) ⊎ ((slot2 ≡ other_slot (slot_of boot.generation)) × (boot.generation ≤ boot2.generation))
      either = grind (arith, nat_tests, this_or_other, same, no_older)

      itself : IsViewOf (geometry_of shelf) start.image missing missing (λ d. Some (start.image d))
      itself = record { within = as_it_is missing; bearable = s.bearable; shown = λ d. shows_itself (missing d) (start.image d) (may.device d).is_byte }

      -- of the same generation it would be in the same slot
      same_generation : slot2 ≡ other_slot (slot_of boot.generation) → boot2.generation ≡ boot.generation → ⊥
      same_generation e eq =
          let own : slot2 ≡ slot_of boot2.generation = ((s.reads slot2 boot2 g).each missing (λ d. Some (start.image d)) itself).in_force.in_its_slot in
          slots_differ (slot_of boot.generation) (sym (ap slot_of eq) ∙ sym own ∙ e)

      mine : FollowsOn (geometry_of shelf) start.image missing (slot_of boot.generation) boot boot2 (s.reads (slot_of boot.generation) boot given).base (s.reads slot2 boot2 g).base
      mine = s.agree (slot_of boot.generation) slot2 boot boot2 given g

      its : FollowsOn (geometry_of shelf) start.image missing slot2 boot2 boot (s.reads slot2 boot2 g).base (s.reads (slot_of boot.generation) boot given).base
      its = s.agree slot2 (slot_of boot.generation) boot2 boot g given

      no_less : boot.flushed ≤ boot2.flushed
      no_less = grind (arith, nat_tests, either, its, same_generation)

      in_order : boot2.generation < boot.generation + 1 → boot2.flushed ≤ boot.flushed
      in_order lt = grind (arith, nat_tests, either, same_generation)

      base_is : (s.reads (slot_of boot.generation) boot given).base ≡ held.base
      base_is =
          let read = (s.reads (slot_of boot.generation) boot given).each missing (λ d. Some (start.image d)) itself in
          one_base (geometry_of shelf) (of_members (slot_of boot.generation) boot (λ d. Some (start.image d))) boot (s.reads (slot_of boot.generation) boot given).base held.base read.holds
          (read_holds (geometry_of shelf) start.image missing missing (slot_of boot.generation) boot held.patches held.base no_drive (tables start may) (λ d. Some (start.image d)) itself read.all_hold)

      -- a view of the stop shows of NVRAM what one of the start shows
      module _ (more : Conditions) (view : View) (v : IsViewOf (geometry_of shelf) stop.image later more view) where
        before : View
        before (dev.Drive d) = Some (start.image (dev.Drive d))
        before (dev.Nv n) = view (dev.Nv n)

        shown : (d : Device) → MayShowAs (more d) (start.image d) (before d)
        unfolding before
        shown (dev.Drive d) = shows_itself (more (dev.Drive d)) (start.image (dev.Drive d)) (may.device (dev.Drive d)).is_byte
        shown (dev.Nv n) = subst (λ (b : List ℕ). MayShowAs (more (dev.Nv n)) b (view (dev.Nv n))) (only.nvram n.0) (v.shown (dev.Nv n))

        no_log : boot.flushed < boot2.flushed → HasNoLog (of_members slot2 boot2 view) boot2.flushed
        unfolding before
        no_log lt device i c x =
            its.no_log lt more before (record { within = within_twice missing later more within v.within; bearable = v.bearable; shown = shown }) device i c
            (record { slot = x.slot; bytes = x.bytes; shown = x.shown; gate = x.gate; spelled = x.spelled })

      follows : (base : Array) → base ≡ held.base → FollowsOn (geometry_of shelf) stop.image later (other_slot (slot_of boot.generation)) (next_record boot drives nvrams) boot2 base (s.reads slot2 boot2 g).base
          × FollowsOn (geometry_of shelf) stop.image later slot2 boot2 (next_record boot drives nvrams) (s.reads slot2 boot2 g).base base
      follows base nothing = (
        record {
          in_order = in_order;
          same_base = λ e. nothing ∙ sym base_is ∙ mine.same_base e;
          no_log = λ lt more view v. absurd (past lt);
        },
        record {
          in_order = λ lt. no_less;
          same_base = λ e. its.same_base e ∙ base_is ∙ sym nothing;
          no_log = λ lt more view v. no_log more view v lt;
        },
      )
        where
          past : boot2.flushed < boot.flushed → ⊥
          past lt = omega (arith, lt, no_less)

  pub may_follow : MayFollow shelf missing (other_slot (slot_of boot.generation)) (next_record boot drives nvrams) arrays
  may_follow = record {
    lawful = next_lawful;
    stands = stands;
    reads = λ later start stop within bearable may only written s.
        let r = is_read later start stop within bearable may only written in
        (r.0, λ slot2 boot2 g. follows later start stop within bearable may only written s slot2 boot2 g r.0.base r.1);
  }

-- where nothing was written, more may go missing
pub stands_before : (shelf : Shelved) (missing later : Conditions) (arrays : List Array) (stop : Stop) → MayStop shelf stop → Stands (geometry_of shelf) stop.image missing arrays → IsWithin missing later → IsBearable (geometry_of shelf) later
    → Stands (geometry_of shelf) stop.image later arrays
stands_before shelf missing later arrays stop may stands within bearable = more_may_go_missing (geometry_of shelf) stop.image missing later arrays within bearable stands
