-- While gates are opened over the next record: the devices stand for the arrays by it and by the record in force, also where members are back that were missing.
use Rattle.register.proofs.Prelude.{nat_tests, ◌≡◌, ◌⊎◌, inl, inr, ℕ, zero, suc, ◌+◌, ◌*◌, ◌-◌, ◌^◌, ◌≤◌, ◌<◌, List, [], ◌∷◌, length, map, take, refl, sym, ◌∙◌, ap, subst, arith, Bool, true, false, Option, Some, None, Contains, slice_get, slice_index, slice_index_or, option_and_then, count_by, if◌then◌else◌, take_all, append-nil, range_with_len, bytes_eq, same_text, cases_Bool, get_or_past, Device, SLOTS_MIN, Geometry, Image, View, Condition, Conditions, Sound, LeftOut, MayBecome, MayShowAs, IsOn, is_sound, is_missing, without_missing, drive, nvram, Array, Command, after_all, BootRecord, IsBootRecord, spelling, BootSlot, Effective, IsRecordOf, IsDecided, body_in, shown_by, votes, is_vote, generation_in, names, of_members, Yields, ShowsIn, IsInSlot, LogFrom, IsInForce, AllHold, Stands, MayBeGiven, MayAppear, IsViewOf, IsReadInto, IsReadBy, LeadsInto, LogLies, this_or_other, twice_other, decided_or_not, spells_one, sound_shows, one_left, TablesHold, NamesNoneLeftOut, next_holds, record_is_read, read_holds, one_base, most_votes, not_missing, one_is_decided, sound_before, Shelved, Stop, IsShelf, MayLeave, LeavesBut, geometry_of, as_read, IsMember, OnSlot, IsOpening, shown_body, Register, drives_of, own_slot, next_slot, next_record, AllShow, Content, AreOfMembers, IsNextOf, MayStore, in_cut}
use Rattle.std.proofs.lemmas.List.FromFn.{length-map-range_with_len}
use Rattle.std.proofs.lemmas.Slice.Eq.{bytes_eq-Decides}
use Rattle.array_spec.specs.Prelude.{Shows as ShowsOn}
use Rattle.pur_base.specs.declared.device.Device.TheVariants as dev
use Rattle.boot_region.proofs.Composing.{all_decide, as_it_is}
use Rattle.nvram_log.specs.Members as nv
use Rattle.register.proofs.Follows.{shows_itself}
use Rattle.register.proofs.Splice.{at_members, members_stop, members_bodies, others_bodies, members_boot}
use Rattle.register.proofs.Numbers.{generation_spelled, lower_yields, next_other}

-- the next record is a next one
pub is_next_of : (r : Register) (nvrams : List Bool) → IsNextOf r nvrams (next_record r.record r.drives nvrams)
is_next_of r nvrams = grind (arith, nat_tests)

-- where each sound drive shows nothing or one body, no other is decided
only_decided : (shelf : Geometry) (image : Image) (missing more : Conditions) (view : View) (slot : BootSlot) (body other : List ℕ) → SLOTS_MIN ≤ shelf.slots
    → ((i : ℕ) → i < shelf.slots → missing (drive i) ≡ Sound → (shown_by slot (image (drive i)) ≡ None) ⊎ (shown_by slot (image (drive i)) ≡ Some body))
    → MayAppear shelf image missing more view → IsDecided (votes shelf view slot) other → body ≡ other
only_decided shelf image missing more view slot body other eleven shows a d = elim (cases_Bool (bytes_eq body other)) [
  | inl same ↦ same_text body other (sym same)
  | inr differs ↦
      let bound : count_by (is_vote other) (map vote (range_with_len 0 shelf.slots)) ≤ count_by missing_at (range_with_len 0 shelf.slots) + count_by missing_at (range_with_len 0 shelf.slots) =
      most_votes vote missing_at missing_at other 0 shelf.slots (λ i low high unmarked voted. absurd (cc (no_vote differs i (omega (arith, high)) unmarked, voted))) in
      let most : shelf.slots < 2 * count_by (is_vote other) (map vote (range_with_len 0 shelf.slots)) =
      subst (λ n. n < 2 * count_by (is_vote other) (map vote (range_with_len 0 shelf.slots))) (length-map-range_with_len vote 0 shelf.slots) d in
      absurd (omega (arith, bound, most, two, eleven))
]
  where
    missing_at : ℕ → Bool
    missing_at i = is_missing (more (drive i))

    vote : ℕ → Option (List ℕ)
    vote i = option_and_then (shown_by slot) (view (drive i))

    two : count_by missing_at (range_with_len 0 shelf.slots) ≤ 2
    two = a.bearable.drives

    no_vote : bytes_eq body other ≡ false → (i : ℕ) → i < shelf.slots → missing_at i ≡ false → is_vote other (vote i) ≡ false
    no_vote differs i lt unmarked =
        let sound : more (drive i) ≡ Sound = not_missing (more (drive i)) unmarked in
        let is : vote i ≡ shown_by slot (image (drive i)) = ap (option_and_then (shown_by slot)) (a.shown (drive i) sound) in
        elim (shows i lt (sound_before (missing (drive i)) (more (drive i)) (a.within (drive i)) sound)) [
          | inl none ↦ subst (λ (o : Option (List ℕ)). is_vote other o ≡ false) (sym (is ∙ none)) refl
          | inr one ↦ subst (λ (o : Option (List ℕ)). is_vote other o ≡ false) (sym (is ∙ one)) differs
        ]

-- ---- NVRAM devices

below_two : (P : ℕ → Type 0) → P 0 → P 1 → (n : ℕ) → n < 2 → P n
below_two P a b zero lt = a
below_two P a b (suc zero) lt = b
below_two P a b (suc (suc n)) lt = absurd (omega (arith, lt))

stays : (c l : Condition) → (c ≡ Sound → ⊥) → MayBecome c l → l ≡ c
stays Sound l no_sound h = absurd (no_sound refl)
stays _ l no_sound h = h

agree_other : (md me xd xe : Condition) → (md ≡ Sound → ⊥) → xd ≡ md → (md ≡ Sound) ⊎ (me ≡ Sound) → (xd ≡ Sound) ⊎ (xe ≡ Sound) → xe ≡ me
agree_other md me xd xe no_sound same (inl a) x = absurd (no_sound a)
agree_other md me xd xe no_sound same (inr a) (inl b) = absurd (no_sound (sym same ∙ b))
agree_other md me xd xe no_sound same (inr a) (inr b) = b ∙ sym a

swapped : {P Q : Type 0} → P ⊎ Q → Q ⊎ P
swapped (inl p) = inr p
swapped (inr q) = inl q

-- where one of the two devices isn't sound and is as it was, the other is too
agree : (missing more : Conditions) → (missing (nvram 0) ≡ Sound) ⊎ (missing (nvram 1) ≡ Sound) → (more (nvram 0) ≡ Sound) ⊎ (more (nvram 1) ≡ Sound)
    → (d : ℕ) → d < 2 → (missing (nvram d) ≡ Sound → ⊥) → more (nvram d) ≡ missing (nvram d) → (n : ℕ) → n < 2 → more (nvram n) ≡ missing (nvram n)
agree missing more a b zero lt no_sound same n below = below_two (λ n. more (nvram n) ≡ missing (nvram n)) same (agree_other (missing (nvram 0)) (missing (nvram 1)) (more (nvram 0)) (more (nvram 1)) no_sound same a b) n below
agree missing more a b (suc zero) lt no_sound same n below =
    below_two (λ n. more (nvram n) ≡ missing (nvram n)) (agree_other (missing (nvram 1)) (missing (nvram 0)) (more (nvram 1)) (more (nvram 0)) no_sound same (swapped a) (swapped b)) same n below
agree missing more a b (suc (suc d)) lt no_sound same n below = absurd (omega (arith, lt))

-- the log depends on what the NVRAM devices show alone
shows_move : (x y : View) → ((j : ℕ) → x (nvram j) ≡ y (nvram j)) → (which flushed i : ℕ) (c : Command) → ShowsOn x which flushed i c → ShowsOn y which flushed i c
shows_move x y same which flushed i c s = record { slot = s.slot; bytes = s.bytes; shown = sym (same which) ∙ s.shown; gate = s.gate; spelled = s.spelled }

slot_moves : (x y : View) → ((j : ℕ) → x (nvram j) ≡ y (nvram j)) → (flushed i : ℕ) (c : Command) → IsInSlot x flushed i c → IsInSlot y flushed i c
slot_moves x y same flushed i c (inl s) = inl (shows_move x y same 0 flushed i c s)
slot_moves x y same flushed i c (inr (nobody, s)) = inr (λ d t. nobody d (shows_move y x (λ j. sym (same j)) 0 flushed i d t), shows_move x y same 1 flushed i c s)

log_moves : (x y : View) → ((j : ℕ) → x (nvram j) ≡ y (nvram j)) → (flushed i : ℕ) (array : Array) (cs : List Command) → LogFrom x flushed i array cs → LogFrom y flushed i array cs
log_moves x y same flushed i array [] s = λ c t. s c (slot_moves y x (λ j. sym (same j)) flushed i c t)
log_moves x y same flushed i array (c ∷ cs) s = (slot_moves x y same flushed i c s.0, s.1, log_moves x y same flushed (suc i) _ cs s.2)

pick : ℕ → Option (List ℕ) → Option (List ℕ) → Option (List ℕ)
pick (suc (suc n)) a b = b
pick _ a b = a

both_none : (a b : Bool) (o : Option (List ℕ)) → o ≡ None → (if a then o else None) ≡ (if b then o else None)
both_none true true o e = refl
both_none true false o e = e
both_none false true o e = sym e
both_none false false o e = refl

module _ (old : Shelved) (is : IsShelf old) (r : Register) (nvrams : List Bool) (held : Content) (some : nv.IsSome nvrams)
    (lawful : IsBootRecord (next_record r.record r.drives nvrams)) (not_spent : r.record.generation + 1 < 2 ^ 48 - 8) (shows : AllShow old r) (bytes : (d : Device) (i : ℕ) → slice_index (old.disk d).bytes i < 256) (cut : (i : ℕ) → IsMember r.drives i → IsMember (drives_of r) i)
    (stop : Stop) (o : IsOpening old (drives_of r) (next_slot r.record) (spelling (next_record r.record r.drives nvrams)) stop) (left : LeavesBut (OnSlot (drives_of r) (next_slot r.record)) old stop)
    (missing : Conditions) (arrays : List Array) (may : MayStore old r nvrams missing held arrays) (back : Conditions) (m : AreOfMembers old r nvrams missing stop back) where
  abbrev next : BootRecord
  next = next_record r.record r.drives nvrams

  abbrev own : BootSlot
  own = own_slot r.record

  abbrev shelf : Geometry
  shelf = geometry_of old

  lawful_own : IsRecordOf shelf r.record
  lawful_own = may.logged.is_of.lawful

  lawful_next : IsRecordOf shelf next
  lawful_next = record { lawful = lawful; slots = may.logged.is_of.lawful.slots; units = may.logged.is_of.lawful.units }

  shown_own : (i : ℕ) → i < old.drives → back (drive i) ≡ Sound → shown_by own (stop.image (drive i)) ≡ Some (spelling r.record)
  shown_own i lt s = grind (arith, nat_tests, shown_by, drive, twice_other)

  shown_next : (i : ℕ) → i < old.drives → back (drive i) ≡ Sound → (shown_by (next_slot r.record) (stop.image (drive i)) ≡ None) ⊎ (shown_by (next_slot r.record) (stop.image (drive i)) ≡ Some (spelling next))
  shown_next i lt s = let d = m.on_drives i lt s in (o.written i d.0 d.1).1

  -- ---- what may be given

  decided_own : (more : Conditions) (view : View) → MayAppear shelf stop.image back more view → IsDecided (votes shelf view own) (spelling r.record)
  decided_own more view a = all_decide shelf stop.image back more view own (spelling r.record) is.drives.0 shown_own a

  only_next : (more : Conditions) (view : View) → MayAppear shelf stop.image back more view → (other : List ℕ) → IsDecided (votes shelf view (next_slot r.record)) other → spelling next ≡ other
  only_next more view a other d = only_decided shelf stop.image back more view (next_slot r.record) (spelling next) other is.drives.0 shown_next a d

  newer : Yields (next_slot r.record) (generation_in (spelling r.record)) (generation_in (spelling next))
  newer = grind (arith, nat_tests, generation_spelled, lawful_own, lower_yields, generation_in, spelling)

  gives : (more : Conditions) (view : View) → MayAppear shelf stop.image back more view → Effective shelf view
  gives more view a = elim (decided_or_not (votes shelf view (next_slot r.record)) (spelling next)) [
    | inl d ↦ record {
      slot = next_slot r.record;
      boot = next;
      lawful = lawful_next;
      effective = record {
        decided = d;
        highest = λ other dc.
            let mine : IsDecided (votes shelf view own) other = subst (λ (t : BootSlot). IsDecided (votes shelf view t) other) (twice_other own) dc in
            let same : spelling r.record ≡ other = one_is_decided (votes shelf view own) (spelling r.record) other (decided_own more view a) mine in
            subst (λ (b : List ℕ). Yields (next_slot r.record) (generation_in b) (generation_in (spelling next))) same newer;
      };
    }
    | inr n ↦ record {
      slot = own;
      boot = r.record;
      lawful = lawful_own;
      effective = record {
        decided = decided_own more view a;
        highest = λ other dc. absurd (n (subst (λ (b : List ℕ). IsDecided (votes shelf view (next_slot r.record)) b) (sym (only_next more view a other dc)) dc));
      };
    }
  ]

  either : (slot2 : BootSlot) (boot2 : BootRecord) → MayBeGiven shelf stop.image back slot2 boot2 → ((slot2 ≡ own) × (boot2 ≡ r.record)) ⊎ ((slot2 ≡ next_slot r.record) × (boot2 ≡ next))
  either slot2 boot2 g = elim (this_or_other slot2 own) [
    | inl e ↦
        let mine : IsDecided (votes shelf g.view own) (spelling boot2) = subst (λ (t : BootSlot). IsDecided (votes shelf g.view t) (spelling boot2)) e g.effective.decided in
        inl (e, spells_one shelf boot2 r.record g.lawful lawful_own (one_is_decided (votes shelf g.view own) (spelling boot2) (spelling r.record) mine (decided_own g.more g.view g.appears)))
    | inr e ↦
        let its : IsDecided (votes shelf g.view (next_slot r.record)) (spelling boot2) = subst (λ (t : BootSlot). IsDecided (votes shelf g.view t) (spelling boot2)) e g.effective.decided in
        inr (e, spells_one shelf boot2 next g.lawful lawful_next (sym (only_next g.more g.view g.appears (spelling boot2) its)))
  ]

  -- ---- the log

  nvram_is : (n : ℕ) → n < 2 → nv.IsMember nvrams n → stop.image (nvram n) ≡ (old.disk (nvram n)).bytes
  nvram_is n lt member = o.only_boot.nvram n ∙ as_read (old.disk (nvram n)) (o.start.image (nvram n)) (may.logged.holds.clean n lt member) (o.may.device (nvram n))

  one : (n : ℕ) × (n < 2) × nv.IsMember nvrams n
  one = elim some [ inl member ↦ (0, omega arith, member) | inr member ↦ (1, omega arith, member) ]

  shown_there : (n i : ℕ) (c : Command) → n < 2 → nv.IsMember nvrams n → slice_get held.log i ≡ Some c → ShowsIn (stop.image (nvram n)) r.record.flushed i c
  shown_there n i c lt member at = subst (λ (b : List ℕ). ShowsIn b r.record.flushed i c) (sym (nvram_is n lt member)) ((may.logged.holds.log n lt member).between.all i c at)

  no_other : (n i : ℕ) (c : Command) → n < 2 → nv.IsMember nvrams n → ShowsIn (stop.image (nvram n)) r.record.flushed i c → slice_get held.log i ≡ Some c
  no_other n i c lt member x = (may.logged.holds.log n lt member).between.no_other i c (subst (λ (b : List ℕ). ShowsIn b r.record.flushed i c) (nvram_is n lt member) x)

  all_of_it : (n : ℕ) → length held.log ≤ n → n ≤ length held.log → Contains arrays (after_all held.base (take n held.log))
  all_of_it n low high = subst (λ (l : List Command). Contains arrays (after_all held.base l)) (sym (take_all n held.log low)) may.one_of

  unnamed : (n : ℕ) → back (nvram n) ≡ LeftOut → slice_index_or nvrams n false ≡ false
  unnamed n out = grind (arith, nat_tests, slice_index_or)

  -- ---- the tables

  -- as the store found them, but that each member has its boot units as they were read
  log_then : (n : ℕ) → MayLeave (old.disk (nvram n)) (stop.image (nvram n))
  log_then n = subst (λ (b : List ℕ). MayLeave (old.disk (nvram n)) b) (sym (o.only_boot.nvram n)) (o.may.device (nvram n))

  tables_then : TablesHold shelf (at_members old bytes (drives_of r) (next_slot r.record) stop left log_then).image own r.record held.patches held.base
  tables_then = may.logged.tables (at_members old bytes (drives_of r) (next_slot r.record) stop left log_then) (members_stop old bytes (drives_of r) (next_slot r.record) stop left log_then)

  its_body : (i : ℕ) → IsMember (drives_of r) i → body_in own ((at_members old bytes (drives_of r) (next_slot r.record) stop left log_then).image (drive i)) ≡ spelling r.record
  its_body i member = members_bodies old bytes (drives_of r) (next_slot r.record) stop left log_then own i member ∙ may.logged.bodies i member

  held_own : TablesHold shelf stop.image own r.record held.patches held.base
  held_own = next_holds shelf (at_members old bytes (drives_of r) (next_slot r.record) stop left log_then).image stop.image own own r.record r.record held.patches held.base lawful_own refl
      (λ i named body. elim (cases_Bool (slice_index_or (drives_of r) i false)) [
        | inl member ↦ (named, its_body i member)
        | inr no_member ↦ (named, others_bodies old bytes (drives_of r) (next_slot r.record) stop left log_then own i no_member ∙ body)
      ])
      (members_boot old bytes (drives_of r) (next_slot r.record) stop left log_then) tables_then

  held_next : TablesHold shelf stop.image (next_slot r.record) next held.patches held.base
  held_next = next_holds shelf (at_members old bytes (drives_of r) (next_slot r.record) stop left log_then).image stop.image own (next_slot r.record) r.record next held.patches held.base lawful_own refl
      (λ i named body. (may.logged.is_of.named i named, its_body i (cut i named)))
      (members_boot old bytes (drives_of r) (next_slot r.record) stop left log_then) tables_then

  none_left_next : NamesNoneLeftOut back next
  none_left_next (dev.Drive d) out = elim (cases_Bool (slice_index_or r.drives d.0 false)) [
    | inl member ↦ absurd (cc (may.logged.is_of.named d.0 member, m.unnamed d.0 out))
    | inr not ↦ not
  ]
  none_left_next (dev.Nv n) out = unnamed n.0 out

  none_left_own : NamesNoneLeftOut back r.record
  none_left_own (dev.Drive d) out = m.unnamed d.0 out
  none_left_own (dev.Nv n) out = (m.left_out n.0 out).1

  -- ---- the next record is read

  named_next : (d : Device) → IsOn shelf d → back d ≡ Sound → names next d ≡ true
  named_next (dev.Drive d) on s = in_cut r.drives r.record.slots d.0 (m.on_drives d.0 on s).0
  named_next (dev.Nv n) on s = (m.on_nvram n.0 on s).0

  lies_next : LogLies stop.image back next held.log held.log
  lies_next = record {
    front = ([], sym (append-nil held.log));
    room = (may.logged.holds.log one.0 one.1 one.2).room;
    lawful = λ i c at. ((may.logged.holds.log one.0 one.1 one.2).between.all i c at).spelled.lawful;
    all = λ n i c lt s at. shown_there n i c lt (m.on_nvram n lt s).0 at;
    no_other = λ n i c lt named x. no_other n i c lt named x;
    left_out = λ n lt out. unnamed n out;
  }

  read_next : (x : IsReadInto shelf stop.image back (next_slot r.record) next arrays) × (x.base ≡ held.base)
  read_next = record_is_read shelf stop.image back (next_slot r.record) next held.patches held.base held.log held.log arrays lawful_next
      (record { in_its_slot = sym (next_other r.record.generation); not_spent = not_spent })
      (record { named = named_next; written = λ i lt s. let d = m.on_drives i lt s in (o.written i d.0 d.1).0 }) none_left_next held_next may.logged.accepted lies_next all_of_it

  -- ---- and so is the record in force

  in_force_own : IsInForce own r.record
  in_force_own = record { in_its_slot = refl; not_spent = omega (arith, not_spent) }

  named_own : (d : Device) → IsOn shelf d → back d ≡ Sound → names r.record d ≡ true
  named_own (dev.Drive d) on s = may.logged.is_of.named d.0 (in_cut r.drives r.record.slots d.0 (m.on_drives d.0 on s).0)
  named_own (dev.Nv n) on s = (m.on_nvram n.0 on s).1

  written_own : (i : ℕ) → i < old.drives → back (drive i) ≡ Sound → body_in own (stop.image (drive i)) ≡ spelling r.record
  written_own i lt s = shown_body own (stop.image (drive i)) (spelling r.record) (shown_own i lt s)

  -- each of its NVRAM devices holds the log
  read_whole : ((n : ℕ) → n < 2 → names r.record (nvram n) ≡ true → nv.IsMember nvrams n) → (x : IsReadInto shelf stop.image back own r.record arrays) × (x.base ≡ held.base)
  read_whole members = record_is_read shelf stop.image back own r.record held.patches held.base held.log held.log arrays lawful_own in_force_own
      (record { named = named_own; written = written_own }) none_left_own held_own may.logged.accepted
      (record {
        front = ([], sym (append-nil held.log));
        room = (may.logged.holds.log one.0 one.1 one.2).room;
        lawful = λ i c at. ((may.logged.holds.log one.0 one.1 one.2).between.all i c at).spelled.lawful;
        all = λ n i c lt s at. shown_there n i c lt (m.on_nvram n lt s).0 at;
        no_other = λ n i c lt named x. no_other n i c lt (members n lt named) x;
        left_out = λ n lt out. (m.left_out n out).1;
      }) all_of_it

  given_own : MayBeGiven shelf o.start.image missing own r.record
  given_own = subst (λ (t : BootSlot). MayBeGiven shelf o.start.image missing t r.record) (twice_other own) (may.in_force.given o.start o.may)

  stood : Stands shelf o.start.image missing arrays
  stood = may.stands o.start o.may

  -- one of them was dropped, and is as it was: then so is the other
  module _ (d : ℕ) (lt : d < 2) (named : names r.record (nvram d) ≡ true) (dropped : nv.IsMember nvrams d → ⊥) where
    unsound : missing (nvram d) ≡ Sound → ⊥
    unsound s = dropped (may.sound d lt s)

    module _ (more : Conditions) (view : View) (v : IsViewOf shelf stop.image back more view) where
      same : (n : ℕ) → n < 2 → more (nvram n) ≡ missing (nvram n)
      same =
          let was : back (nvram d) ≡ missing (nvram d) = m.dropped d lt named dropped in
          let here : more (nvram d) ≡ missing (nvram d) = stays (back (nvram d)) (more (nvram d)) (λ s. unsound (sym was ∙ s)) (v.within (nvram d)) ∙ was in
          agree missing more (one_left (missing (nvram 0)) (missing (nvram 1)) stood.bearable.nvrams) (one_left (more (nvram 0)) (more (nvram 1)) v.bearable.nvrams) d lt unsound here

      before : View
      before (dev.Drive k) = Some (o.start.image (dev.Drive k))
      before (dev.Nv n) = pick n.0 (view (dev.Nv n)) (Some (o.start.image (dev.Nv n)))

      nv_shown : (n : ℕ) → n < 2 → MayShowAs (missing (nvram n)) (o.start.image (nvram n)) (view (nvram n))
      nv_shown n below = subst (λ (c : Condition). MayShowAs c (o.start.image (nvram n)) (view (nvram n))) (same n below)
          (subst (λ (b : List ℕ). MayShowAs (more (nvram n)) b (view (nvram n))) (o.only_boot.nvram n) (v.shown (nvram n)))

      picked : (n : ℕ) → MayShowAs (missing (nvram n)) (o.start.image (nvram n)) (pick n (view (nvram n)) (Some (o.start.image (nvram n))))
      unfolding pick
      picked zero = nv_shown 0 (omega arith)
      picked (suc zero) = nv_shown 1 (omega arith)
      picked (suc (suc n)) = shows_itself (missing (nvram (suc (suc n)))) (o.start.image (nvram (suc (suc n)))) (o.may.device (nvram (suc (suc n)))).is_byte

      shown : (k : Device) → MayShowAs (missing k) (o.start.image k) (before k)
      unfolding before
      shown (dev.Drive k) = shows_itself (missing (dev.Drive k)) (o.start.image (dev.Drive k)) (o.may.device (dev.Drive k)).is_byte
      shown (dev.Nv n) = picked n.0

      is_view : IsViewOf shelf o.start.image missing missing before
      is_view = record { within = as_it_is missing; bearable = stood.bearable; shown = shown }

      none_past : (n : ℕ) → 2 ≤ n → names r.record (nvram n) ≡ false
      none_past n past = get_or_past r.record.members.nvrams n false (omega (arith, past, lawful_own.lawful.members.nvram_flags))

      same_members : (j : ℕ) → of_members own r.record before (nvram j) ≡ of_members own r.record view (nvram j)
      unfolding before pick
      same_members (suc (suc j)) = rw (none_past (suc (suc j)) (omega arith)) refl
      same_members _ = refl

      left_in : (j : ℕ) → without_missing missing (of_members own r.record view) (nvram j) ≡ without_missing more (of_members own r.record view) (nvram j)
      left_in zero = ap (λ (c : Condition). if is_sound c then of_members own r.record view (nvram 0) else None) (sym (same 0 (omega arith)))
      left_in (suc zero) = ap (λ (c : Condition). if is_sound c then of_members own r.record view (nvram 1) else None) (sym (same 1 (omega arith)))
      left_in (suc (suc j)) = both_none (is_sound (missing (nvram (suc (suc j))))) (is_sound (more (nvram (suc (suc j))))) (of_members own r.record view (nvram (suc (suc j))))
          (let none = none_past (suc (suc j)) (omega arith) in rw none refl)

      same_left : (j : ℕ) → without_missing missing (of_members own r.record before) (nvram j) ≡ without_missing more (of_members own r.record view) (nvram j)
      same_left j = ap (λ (x : Option (List ℕ)). if is_sound (missing (nvram j)) then x else None) (same_members j) ∙ left_in j

      was_read : IsReadBy shelf missing (of_members own r.record before) own r.record (stood.reads own r.record given_own).base arrays
      was_read = (stood.reads own r.record given_own).each missing before is_view

      base_is : (stood.reads own r.record given_own).base ≡ held.base
      base_is = one_base shelf (of_members own r.record before) r.record (stood.reads own r.record given_own).base held.base was_read.holds
          (read_holds shelf o.start.image missing missing own r.record held.patches held.base may.unnamed (may.logged.tables o.start o.may) before is_view was_read.all_hold)

      leads : LeadsInto more (of_members own r.record view) r.record.flushed held.base arrays
      leads =
          let l : LeadsInto missing (of_members own r.record before) r.record.flushed held.base arrays =
          subst (λ (b : Array). LeadsInto missing (of_members own r.record before) r.record.flushed b arrays) base_is was_read.leads in
          record {
            log = l.log;
            log_stands = log_moves (of_members own r.record before) (of_members own r.record view) same_members r.record.flushed 0 held.base l.log l.log_stands;
            devices_agree = λ i c e t u. l.devices_agree i c e
                (shows_move (of_members own r.record view) (of_members own r.record before) (λ j. sym (same_members j)) 0 r.record.flushed i c t)
                (shows_move (of_members own r.record view) (of_members own r.record before) (λ j. sym (same_members j)) 1 r.record.flushed i e u);
            least = l.least;
            least_stands = log_moves (without_missing missing (of_members own r.record before)) (without_missing more (of_members own r.record view)) same_left r.record.flushed 0 held.base l.least l.least_stands;
            enough = l.enough;
            fronts = l.fronts;
          }

      all_hold : AllHold shelf more (of_members own r.record view)
      all_hold (dev.Drive k) on s =
          let sound = sound_before (back (dev.Drive k)) (more (dev.Drive k)) (v.within (dev.Drive k)) s in
          let named_it : names r.record (dev.Drive k) ≡ true = named_own (dev.Drive k) on sound in
          let there : body_in own (stop.image (dev.Drive k)) ≡ spelling r.record = written_own k.0 on sound in
          let same_body : bytes_eq (body_in own (stop.image (dev.Drive k))) (spelling r.record) ≡ true = (bytes_eq-Decides _ _).1 there in
          rw (named_it, sound_shows (more (dev.Drive k)) (stop.image (dev.Drive k)) (view (dev.Drive k)) s (v.shown (dev.Drive k)), same_body) refl
      all_hold (dev.Nv n) on s =
          let named_it : names r.record (dev.Nv n) ≡ true = named_own (dev.Nv n) on (sound_before (back (dev.Nv n)) (more (dev.Nv n)) (v.within (dev.Nv n)) s) in
          rw (named_it, sound_shows (more (dev.Nv n)) (stop.image (dev.Nv n)) (view (dev.Nv n)) s (v.shown (dev.Nv n))) refl

      read_by : IsReadBy shelf more (of_members own r.record view) own r.record held.base arrays
      read_by = record {
        in_force = in_force_own;
        all_hold = all_hold;
        holds = read_holds shelf stop.image back more own r.record held.patches held.base m.unnamed held_own view v all_hold;
        leads = leads;
      }

    read_part : (x : IsReadInto shelf stop.image back own r.record arrays) × (x.base ≡ held.base)
    read_part = (record { base = held.base; each = read_by }, refl)

  one_or : (d : ℕ) → (names r.record (nvram d) ≡ true → nv.IsMember nvrams d) ⊎ ((names r.record (nvram d) ≡ true) × (nv.IsMember nvrams d → ⊥))
  one_or d = grind (arith, nat_tests, names, nvram, slice_index_or)

  read_own : (x : IsReadInto shelf stop.image back own r.record arrays) × (x.base ≡ held.base)
  read_own = elim (one_or 0) [
    | inr dropped ↦ read_part 0 (omega arith) dropped.0 dropped.1
    | inl first ↦ elim (one_or 1) [
      | inr dropped ↦ read_part 1 (omega arith) dropped.0 dropped.1
      | inl second ↦ read_whole (below_two (λ n. names r.record (nvram n) ≡ true → nv.IsMember nvrams n) first second)
    ]
  ]

  -- ---- the devices stand for the arrays

  reading : (slot2 : BootSlot) (boot2 : BootRecord) → MayBeGiven shelf stop.image back slot2 boot2 → (x : IsReadInto shelf stop.image back slot2 boot2 arrays) × (x.base ≡ held.base)
  reading slot2 boot2 g = elim (either slot2 boot2 g) [
    | inl e ↦ subst (λ (t : BootSlot). (x : IsReadInto shelf stop.image back t boot2 arrays) × (x.base ≡ held.base)) (sym e.0)
        (subst (λ (b : BootRecord). (x : IsReadInto shelf stop.image back own b arrays) × (x.base ≡ held.base)) (sym e.1) read_own)
    | inr e ↦ subst (λ (t : BootSlot). (x : IsReadInto shelf stop.image back t boot2 arrays) × (x.base ≡ held.base)) (sym e.0)
        (subst (λ (b : BootRecord). (x : IsReadInto shelf stop.image back (next_slot r.record) b arrays) × (x.base ≡ held.base)) (sym e.1) read_next)
  ]

  flushed_is : (slot2 : BootSlot) (boot2 : BootRecord) → MayBeGiven shelf stop.image back slot2 boot2 → boot2.flushed ≡ r.record.flushed
  flushed_is slot2 boot2 g = elim (either slot2 boot2 g) [
    | inl e ↦ ap (λ (b : BootRecord). b.flushed) e.1
    | inr e ↦ ap (λ (b : BootRecord). b.flushed) e.1
  ]

  stands : Stands shelf stop.image back arrays
  stands = record {
    bearable = m.bearable;
    some = stood.some;
    gives = gives;
    reads = λ slot2 boot2 g. (reading slot2 boot2 g).0;
    agree = λ slot1 slot2 boot1 boot2 g1 g2.
        let a = flushed_is slot1 boot1 g1 in
        let b = flushed_is slot2 boot2 g2 in
        record {
          in_order = λ lt. omega (arith, a, b);
          same_base = λ e. (reading slot1 boot1 g1).1 ∙ sym (reading slot2 boot2 g2).1;
          no_log = λ lt more view v. absurd (omega (arith, lt, a, b));
        };
  }

  pub stands_back : Stands shelf stop.image back arrays × ((slot2 : BootSlot) (boot2 : BootRecord) → MayBeGiven shelf stop.image back slot2 boot2 → (boot2 ≡ r.record) ⊎ IsNextOf r nvrams boot2)
  stands_back = (
    stands,
    λ slot2 boot2 g. elim (either slot2 boot2 g) [
      | inl e ↦ inl e.1
      | inr e ↦ inr (subst (λ (b : BootRecord). IsNextOf r nvrams b) (sym e.1) (is_next_of r nvrams))
    ],
  )
