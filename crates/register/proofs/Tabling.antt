-- A record with other tables is stored: at every moment the devices stand for the array of the log, and after it the record is in force.
use Rattle.register.proofs.Prelude.{nat_tests, ◌≡◌, ◌⊎◌, inl, inr, ℕ, ◌+◌, ◌-◌, ◌^◌, ◌≤◌, ◌<◌, List, [], ◌∷◌, length, take, refl, sym, ◌∙◌, ap, subst, arith, Bool, true, false, Some, Contains, IsTrue, slice_get, slice_index, slice_index_or, take_all, append-nil, cases_Bool, cases_lt, Device, Geometry, Conditions, Sound, IsBearable, IsWithin, IsOn, drive, nvram, Array, Command, AllAccepted, after_all, is_open, BootRecord, IsBootRecord, spelling, BootSlot, IsRecordOf, names, body_in, generation_in, Yields, ShowsIn, Stands, MayBeGiven, IsReadInto, FollowsOn, LogLies, NamesSound, sound_before, twice_other, TablesHold, NamesNoneLeftOut, ShowsNone, data_is_held, was_left_out, named_sound, Shelved, Disk, Stop, IsShelf, IsInSome, MayLeave, MayStop, IsCountedBy, Continues, LeavesOnly, geometry_of, weaker, as_read, IsMember, OnlyBoot, IsOlder, IsFirmOn, IsStored, MayFollow, StandsAgain, StandsBut, WasGiven, AccountsFor, shown_body, Register, IsRegisterOf, drives_of, next_record, next_slot, own_slot, Content, ShowsOn, IsNextOf, IsOpen, GivesOldOrNext, MayStore, MayStoreFirmly, StandsInLog, array_of, GivesOldOrTables, IsNextWith, FlushesAll, FlushesNone, IsPlanOf, KeepsArray, MayGoOn, StandsAsBefore, with_tables, in_cut, cut_length, members_sound}
use Rattle.std.proofs.lemmas.Option.{slice_get-get_or}
use Rattle.pur_base.specs.declared.device.Device.TheVariants as dev
use Rattle.array_spec.proofs.Follow.{checkpoint_follows, merge_follows}
use Rattle.nvram_log.specs.Members as nv
use Rattle.nvram_log.specs.Prelude.{IsLog}
use Rattle.nvram_log.proofs.Closing.{one_number}
use Rattle.register.specs.declared.tables.Tables.{Tables}
use Rattle.register.proofs.Again.{meanwhile, accounts, bearable_then, accounts_since}
use Rattle.register.proofs.Numbers.{generation_spelled, lower_yields, next_other}
use Rattle.register.proofs.Rounds.{Puts, other_body, cut_drives, same_shelf, long, same_behind, log_then}
use Rattle.register.proofs.Splice.{at_splice, splice_stops, splice_boot}
use Rattle.register.proofs.Opened.{is_left, is_named}

-- a device that holds a log shows none behind it
pub shows_no_more : (bytes : List ℕ) (flushed i : ℕ) (log : List Command) (c : Command) → IsLog bytes flushed log → ShowsIn bytes (flushed + length log) i c → ⊥
shows_no_more bytes flushed i [] c held shows =
    let e : flushed + 0 ≡ flushed = omega arith in
    absurd (cc (held.between.no_other i c (subst (λ (f : ℕ). ShowsIn bytes f i c) e shows)))
shows_no_more bytes flushed i (d ∷ log) c held shows = elim (cases_lt i (length (d ∷ log))) [
  | inl lt ↦
      let there : slice_get (d ∷ log) i ≡ Some (slice_index_or (d ∷ log) i d) = slice_get-get_or (d ∷ log) i d lt in
      let one = one_number _ (flushed + 1 + i) (flushed + length (d ∷ log) + 1 + i) (slice_index_or (d ∷ log) i d) c (held.between.all i (slice_index_or (d ∷ log) i d) there).spelled shows.spelled in
      omega (arith, one)
  | inr ge ↦ absurd (closed (is_open i bytes) (held.shut i ge shows.slot) shows.gate)
]
  where
    closed : (b : Bool) → b ≡ false → IsTrue b → ⊥
    closed b e t = absurd (cc (subst (λ (x : Bool). IsTrue x) e t))

-- the tables hold the same array with what they leave of the log
pub same_array : (r : Register) (tables : Tables) (held next : Content) → KeepsArray r tables held next → array_of next ≡ array_of held
same_array r tables held next (inl all) = ap (λ (l : List Command). after_all next.base l) all.log ∙ all.base
same_array r tables held next (inr none) = ap (λ (l : List Command). after_all next.base l) none.log ∙ ap (λ (b : Array). after_all b held.log) none.base

-- the record that is made is one of these tables
pub is_next_with : (r : Register) (tables : Tables) → IsNextWith r tables (next_record (with_tables r.record tables) r.drives r.record.members.nvrams)
is_next_with r tables = grind (arith, nat_tests)

-- and so is one that follows on such a one
next_with_after : (was mid : Register) (tables : Tables) → IsNextWith was tables mid.record → ((i : ℕ) → IsMember mid.drives i → IsMember was.drives i)
    → (b : BootRecord) → IsNextOf mid was.record.members.nvrams b → IsNextWith was tables b
next_with_after was mid tables first fewer b next = grind (arith, nat_tests)

module _ (old : Shelved) (is_old : IsShelf old) (h : old.honest) (was : Register) (tables : Tables) (is_of : IsRegisterOf (geometry_of old) was) (some : nv.IsSome was.record.members.nvrams)
    (lawful : IsBootRecord (next_record (with_tables was.record tables) was.drives was.record.members.nvrams)) (tabled : IsBootRecord (with_tables was.record tables))
    (held next : Content) (o : IsOpen old was was.record.members.nvrams held) (plan : IsPlanOf old was tables held next) where
  abbrev boot : BootRecord
  boot = next_record (with_tables was.record tables) was.drives was.record.members.nvrams

  abbrev own : BootSlot
  own = own_slot was.record

  abbrev slot : BootSlot
  slot = next_slot was.record

  lawful_of : IsRecordOf (geometry_of old) boot
  lawful_of = record { lawful = lawful; slots = is_of.lawful.slots; units = is_of.lawful.units }

  tabled_of : IsRecordOf (geometry_of old) (with_tables was.record tables)
  tabled_of = record { lawful = tabled; slots = is_of.lawful.slots; units = is_of.lawful.units }

  cut : (i : ℕ) → IsMember was.drives i → IsMember (drives_of was) i
  cut i m = cut_drives (geometry_of old) was is_of i m

  named_before : (d : Device) (later : Conditions) → IsWithin (named_sound was.record) later → later d ≡ Sound → names was.record d ≡ true
  named_before d later within s = is_named (names was.record d) (sound_before (named_sound was.record d) (later d) (within d) s)

  -- ---- the record that is stored follows on

  module _ (later : Conditions) (start stop : Stop) (within : IsWithin (named_sound was.record) later) (may : MayStop old start) (only : OnlyBoot start.image stop.image)
      (written : (i : ℕ) → i < old.drives → later (drive i) ≡ Sound → body_in slot (stop.image (drive i)) ≡ spelling boot) (low : was.record.generation + 1 < 2 ^ 48 - 8) where
    named_now : (d : Device) → IsOn (geometry_of old) d → later d ≡ Sound → names boot d ≡ true
    named_now (dev.Drive d) on s = in_cut was.drives was.record.slots d.0 (o.in_force.sound d.0 on (sound_before (named_sound was.record (dev.Drive d)) (later (dev.Drive d)) (within (dev.Drive d)) s))
    named_now (dev.Nv n) on s = named_before (dev.Nv n) later within s

    sound_now : NamesSound (geometry_of old) stop.image later slot boot
    sound_now = record { named = named_now; written = written }

    left_now : NamesNoneLeftOut later boot
    left_now (dev.Drive d) out = elim (cases_Bool (slice_index_or was.drives d.0 false)) [
      | inl m ↦ absurd (cc (is_of.named d.0 m, is_left (names was.record (dev.Drive d)) (was_left_out (named_sound was.record (dev.Drive d)) (later (dev.Drive d)) (within (dev.Drive d)) out)))
      | inr not ↦ not
    ]
    left_now (dev.Nv n) out = is_left (names was.record (dev.Nv n)) (was_left_out (named_sound was.record (dev.Nv n)) (later (dev.Nv n)) (within (dev.Nv n)) out)

    tables_now : TablesHold (geometry_of old) stop.image slot boot next.patches next.base
    tables_now = data_is_held (geometry_of old) (drives_of was) start.image stop.image slot (with_tables was.record tables) boot next.patches next.base tabled_of refl (λ i m. cut i m) only (plan.stand start may)

    nvram_is : (n : ℕ) → n < 2 → nv.IsMember was.record.members.nvrams n → stop.image (nvram n) ≡ (old.disk (nvram n)).bytes
    nvram_is n lt m = only.nvram n ∙ as_read (old.disk (nvram n)) (start.image (nvram n)) (plan.logged.clean n lt m) (may.device (nvram n))

    sound_start : NamesSound (geometry_of old) start.image (named_sound was.record) own was.record
    sound_start = grind (arith, nat_tests, is_named, names, as_read)

    left_start : NamesNoneLeftOut (named_sound was.record) was.record
    left_start d out = is_left (names was.record d) out

    abbrev Follows : Stands (geometry_of old) start.image (named_sound was.record) (array_of held ∷ []) → Type 0
    Follows s = (r : IsReadInto (geometry_of old) stop.image later slot boot (array_of held ∷ [])) × ((slot3 : BootSlot) (boot3 : BootRecord) (g : MayBeGiven (geometry_of old) start.image (named_sound was.record) slot3 boot3)
        → FollowsOn (geometry_of old) stop.image later slot boot boot3 r.base (s.reads slot3 boot3 g).base × FollowsOn (geometry_of old) stop.image later slot3 boot3 boot (s.reads slot3 boot3 g).base r.base)

    -- where all that is logged was flushed, no command is shown behind it
    none_now : FlushesAll was tables held next → ShowsNone stop.image boot
    none_now all n i c below named shows =
        shows_no_more (old.disk (nvram n)).bytes was.record.flushed i held.log c (plan.logged.log n below named)
        (subst (λ (f : ℕ). ShowsIn (old.disk (nvram n)).bytes f i c) all.flushed (subst (λ (b : List ℕ). ShowsIn b tables.flushed i c) (nvram_is n below named) shows))

    follows_all : FlushesAll was tables held next → (s : Stands (geometry_of old) start.image (named_sound was.record) (array_of held ∷ [])) → Follows s
    follows_all all s = checkpoint_follows (geometry_of old) start.image stop.image (named_sound was.record) later own slot was.record boot held.patches next.patches held.base next.base held.log (array_of held ∷ [])
        (record { flushed = all.flushed; generation = refl; result = all.base }) (0, omega arith, sym all.base)
        lawful_of (record { in_its_slot = sym (next_other was.record.generation); not_spent = low }) sound_now left_now tables_now (none_now all)
        sound_start left_start (o.logged.tables start may) (λ slot3 boot3 g. o.alone start slot3 boot3 may g) s

    -- where none was, the same log goes on
    lies_now : FlushesNone was tables held next → LogLies stop.image later boot held.log held.log
    lies_now none = subst (λ (f : ℕ). LogLies stop.image later (record boot { flushed = f }) held.log held.log) (sym none.flushed) (record {
      front = ([], sym (append-nil held.log));
      room = (plan.logged.log one.0 one.1 one.2).room;
      lawful = λ i c at. ((plan.logged.log one.0 one.1 one.2).between.all i c at).spelled.lawful;
      all = λ n i c lt s at.
          let m = named_before (nvram n) later within s in
          subst (λ (b : List ℕ). ShowsIn b was.record.flushed i c) (sym (nvram_is n lt m)) ((plan.logged.log n lt m).between.all i c at);
      no_other = λ n i c lt m shown. (plan.logged.log n lt m).between.no_other i c (subst (λ (b : List ℕ). ShowsIn b was.record.flushed i c) (nvram_is n lt m) shown);
      left_out = λ n lt out. left_now (nvram n) out;
    })
      where
        one : (n : ℕ) × (n < 2) × nv.IsMember was.record.members.nvrams n
        one = elim some [ inl m ↦ (0, omega arith, m) | inr m ↦ (1, omega arith, m) ]

    all_of_it : (n : ℕ) → length held.log ≤ n → n ≤ length held.log → Contains (array_of held ∷ []) (after_all held.base (take n held.log))
    all_of_it n from_there to_there = (0, omega arith, ap (after_all held.base) (sym (take_all n held.log from_there)))

    follows_none : FlushesNone was tables held next → (s : Stands (geometry_of old) start.image (named_sound was.record) (array_of held ∷ [])) → Follows s
    follows_none none s = merge_follows (geometry_of old) start.image stop.image (named_sound was.record) later own slot was.record boot held.patches next.patches held.base held.log held.log (array_of held ∷ [])
        (record { flushed = none.flushed; generation = refl })
        lawful_of (record { in_its_slot = sym (next_other was.record.generation); not_spent = low }) sound_now left_now
        (subst (λ (b : Array). TablesHold (geometry_of old) stop.image slot boot next.patches b) none.base tables_now) o.logged.accepted (lies_now none) all_of_it
        sound_start left_start (o.logged.tables start may) (λ slot3 boot3 g. o.alone start slot3 boot3 may g) s

    follows : (s : Stands (geometry_of old) start.image (named_sound was.record) (array_of held ∷ [])) → Follows s
    follows s = elim plan.keeps [ inl all ↦ follows_all all s | inr none ↦ follows_none none s ]

  follow : was.record.generation + 1 < 2 ^ 48 - 8 → MayFollow old (named_sound was.record) slot boot (array_of held ∷ [])
  follow low = record {
    lawful = lawful_of;
    stands = o.stands;
    reads = λ later start stop within bearable may only written s. follows later start stop within may only written low s;
  }

  -- ---- once it was stored

  module _ {ok : Type 0} (new : Shelved) (on : Continues old new) (now : Register) (kept : now.record ≡ boot)
      (its_register : IsRegisterOf (geometry_of new) now) (puts : Puts ok old new now (drives_of was) slot (spelling boot)) where
    nvram_same : (n : ℕ) → new.disk (nvram n) ≡ old.disk (nvram n)
    nvram_same n = puts.runs.others (nvram n) (λ x. x)

    -- its tables hold whatever a stop leaves
    module _ (start : Stop) (may : MayStop new start) where
      abbrev long_then : (i : ℕ) → length (old.disk (drive i)).bytes ≡ length (start.image (drive i))
      long_then = long old new h now (drives_of was) slot (spelling boot) puts start may

      abbrev same_then : (d i : ℕ) → 196608 ≤ i → (IsInSome (old.disk (drive d)).dirty i → ⊥) → slice_index (start.image (drive d)) i ≡ slice_index (old.disk (drive d)).bytes i
      same_then = same_behind old new h now (drives_of was) slot (spelling boot) puts start may

      abbrev nvram_then : (n : ℕ) → MayLeave (old.disk (nvram n)) (start.image (nvram n))
      nvram_then = log_then old new h now (drives_of was) slot (spelling boot) puts start may

      held_now : TablesHold (geometry_of new) start.image (own_slot boot) boot next.patches next.base
      held_now = subst (λ g. TablesHold g start.image (own_slot boot) boot next.patches next.base) (same_shelf on)
          (data_is_held (geometry_of old) (drives_of was) (at_splice old (is_old.bytes h) start.image long_then (λ d. (may.device d).is_byte) same_then nvram_then).image start.image (own_slot boot) (with_tables was.record tables) boot next.patches next.base tabled_of refl
          (λ i m. cut i m) (splice_boot old (is_old.bytes h) start.image long_then (λ d. (may.device d).is_byte) same_then nvram_then)
          (plan.stand (at_splice old (is_old.bytes h) start.image long_then (λ d. (may.device d).is_byte) same_then nvram_then) (splice_stops old (is_old.bytes h) start.image long_then (λ d. (may.device d).is_byte) same_then nvram_then)))

    body_now : ok → (i : ℕ) → IsMember (drives_of now) i → body_in slot (new.disk (drive i)).bytes ≡ spelling boot
    body_now stood i m = shown_body slot (new.disk (drive i)).bytes (spelling boot) (puts.shown stood h i m).shown

    shows_none : FlushesAll was tables held next → ShowsOn new was.record.members.nvrams tables.flushed []
    shows_none all = record {
      log = λ n lt m. record {
        room = omega arith;
        between = record {
          all = λ i c at. cc at;
          no_other = λ i c shows. absurd (shows_no_more (old.disk (nvram n)).bytes was.record.flushed i held.log c (plan.logged.log n lt m)
              (subst (λ (f : ℕ). ShowsIn (old.disk (nvram n)).bytes f i c) all.flushed (subst (λ (d : Disk). ShowsIn d.bytes tables.flushed i c) (nvram_same n) shows)));
        };
      };
      clean = λ n lt m. subst (λ (d : Disk). d.dirty ≡ []) (sym (nvram_same n)) (plan.logged.clean n lt m);
    }

    shows_still : ShowsOn new was.record.members.nvrams was.record.flushed held.log
    shows_still = grind (arith, nat_tests, nvram_same)

    shows_now : ShowsOn new was.record.members.nvrams tables.flushed next.log
    shows_now = grind (arith, nat_tests, shows_none, shows_still)

    accepted_now : AllAccepted next.base next.log
    accepted_now = grind (arith, nat_tests)

    pub logged_now : ok → StandsInLog new now was.record.members.nvrams next
    logged_now stood = grind (arith, nat_tests, held_now, next_other, body_now, shows_now, accepted_now)

    older_body : (i : ℕ) → IsMember (drives_of now) i → body_in own (new.disk (drive i)).bytes ≡ spelling was.record
    older_body i m =
        subst (λ (t : BootSlot). body_in t (new.disk (drive i)).bytes ≡ body_in t (old.disk (drive i)).bytes) (twice_other own)
        (other_body (drives_of was) slot i (old.disk (drive i)) (new.disk (drive i)) ((puts.runs.writes h).device (drive i)))
        ∙ o.logged.bodies i (puts.fewer i m)

    newer : (s : BootSlot) → Yields s (generation_in (spelling was.record)) (generation_in (spelling boot))
    newer s = grind (arith, nat_tests, generation_spelled, lower_yields)

    pub older_now : (i : ℕ) → IsMember (drives_of now) i → IsOlder new (next_slot now.record) (spelling now.record) i
    older_now i m = grind (arith, nat_tests, next_other, twice_other, older_body, newer)

    module _ (low : was.record.generation + 1 < 2 ^ 48 - 8) where
      pub moments_now : LeavesOnly old new (StandsBut old (drives_of was) (named_sound was.record) slot was.record (array_of held ∷ []))
      moments_now = weaker (λ stop at. at.stands (named_sound was.record) was.record boot (array_of held ∷ []) refl o.in_force (follow low)) (puts.moments h)

      pub gives_now : LeavesOnly old new (GivesOldOrTables old was tables)
      gives_now = weaker (λ stop at later account slot2 boot2 g. elim (at.gives (named_sound was.record) was.record boot (array_of held ∷ []) refl o.in_force (follow low) later account slot2 boot2 g) [
        | inl e ↦ inr (subst (λ (b : BootRecord). IsNextWith was tables b) (sym e.1) (is_next_with was tables))
        | inr given ↦ inl (o.alone given.start slot2 boot2 given.may given.given).1
      ]) (puts.moments h)

      -- where the record was stored in later conditions the next one may be stored
      may_store_now : ok → (later : Conditions) → IsWithin (named_sound was.record) later → IsStored new (drives_of now) slot boot (array_of held ∷ []) later → MayStore new now was.record.members.nvrams later next (array_of held ∷ [])
      may_store_now stood later within s = grind (arith, nat_tests, logged_now, next_other, same_array, named_before, is_left, names, was_left_out)

      -- in conditions that tell what failed meanwhile it may be stored again
      pub again_now : ok → (later : Conditions) → AccountsFor old (drives_of was) (named_sound was.record) slot (spelling was.record) (λ d. (new.disk d).faults) (λ d. (new.disk d).write_faults) later
          → MayStore new now was.record.members.nvrams later next (array_of held ∷ [])
      again_now stood later account =
          may_store_now stood later account.within (puts.stored stood h (named_sound was.record) was.record boot (array_of held ∷ []) refl (newer slot) o.in_force (follow low) later account)

      -- whatever fails
      firm_on : length was.drives ≡ 24 → IsFirmOn old (drives_of was) (named_sound was.record) slot was.record
      firm_on flags = record {
        in_force = o.in_force;
        as_many = cut_length was flags is_of;
        sound = members_sound was is_of;
        older = o.older;
      }

      pub outlasts_now : length was.drives ≡ 24 → LeavesOnly old new (StandsAgain old (named_sound was.record) (array_of held ∷ []))
      outlasts_now flags = puts.again h (named_sound was.record) was.record boot (array_of held ∷ []) refl (firm_on flags) (follow low)

      pub firmly_now : ok → length was.drives ≡ 24 → MayStoreFirmly old new now was.record.members.nvrams (named_sound was.record) next (array_of held ∷ [])
      firmly_now stood flags later within bearable sound all = (
        may_store_now stood later within (puts.stored_on stood h (named_sound was.record) was.record boot (array_of held ∷ []) refl (newer slot) (firm_on flags) (follow low) later within bearable sound),
        record {
          bearable = subst (λ g. IsBearable g later) (same_shelf on) bearable;
          sound = all;
          older = λ i m s. older_now i m;
        },
      )

-- a stop in a later round
pub later_round : (old new : Shelved) (on : Continues old new) (was now : Register) (held next : Content) → ((i : ℕ) → IsMember (drives_of now) i → IsMember (drives_of was) i)
    → ((i : ℕ) → IsMember (drives_of now) i → IsOlder new (next_slot now.record) (spelling now.record) i) → MayGoOn old new was now held next
    → (stop : Stop) → IsCountedBy new stop
    → ((missing : Conditions) (content : Content) (arrays : List Array) → MayStore new now was.record.members.nvrams missing content arrays → StandsBut new (drives_of now) missing (next_slot now.record) now.record arrays stop)
    → StandsAsBefore old was held stop
later_round old new on was now held next fewer older again stop counts stands later account =
    let told = accounts old new (drives_of was) (named_sound was.record) (next_slot was.record) was.record (bearable_then old new (drives_of was) (named_sound was.record) (next_slot was.record) was.record stop counts later account) in
    let since = accounts_since old new (drives_of was) (named_sound was.record) (next_slot was.record) was.record stop counts later account (drives_of now) (next_slot now.record) now.record on fewer older (sym (same_shelf on)) in
    subst (λ (g : Geometry). Stands g stop.image later (array_of held ∷ [])) (sym (same_shelf on))
    (stands (meanwhile old new (drives_of was) (named_sound was.record) (next_slot was.record) was.record) next (array_of held ∷ []) (again _ told) later since)

-- what may be given at a stop in a later round
pub later_gives : (old new : Shelved) (is_new : IsShelf new) (on : Continues old new) (was now : Register) (tables : Tables) (held next : Content) → IsNextWith was tables now.record
    → ((i : ℕ) → IsMember now.drives i → IsMember was.drives i) → ((i : ℕ) → IsMember (drives_of now) i → IsMember (drives_of was) i)
    → ((i : ℕ) → IsMember (drives_of now) i → IsOlder new (next_slot now.record) (spelling now.record) i) → MayGoOn old new was now held next → LeavesOnly old new (GivesOldOrTables old was tables)
    → (stop : Stop) → IsCountedBy new stop
    → ((missing : Conditions) (content : Content) (arrays : List Array) → MayStore new now was.record.members.nvrams missing content arrays → GivesOldOrNext new now was.record.members.nvrams missing stop)
    → GivesOldOrTables old was tables stop
later_gives old new is_new on was now tables held next is_next fewer fewer_cut older again first stop counts gives later account slot boot g =
    let between : Conditions = meanwhile old new (drives_of was) (named_sound was.record) (next_slot was.record) was.record in
    let told = accounts old new (drives_of was) (named_sound was.record) (next_slot was.record) was.record (bearable_then old new (drives_of was) (named_sound was.record) (next_slot was.record) was.record stop counts later account) in
    let since = accounts_since old new (drives_of was) (named_sound was.record) (next_slot was.record) was.record stop counts later account (drives_of now) (next_slot now.record) now.record on fewer_cut older (sym (same_shelf on)) in
    elim (gives between next (array_of held ∷ []) (again _ told) later since slot boot (subst (λ (k : Geometry). MayBeGiven k stop.image later slot boot) (same_shelf on) g)) [
      | inl given ↦ at_end between told given
      | inr n ↦ inr (next_with_after was now tables is_next fewer boot n)
    ]
  where
    -- what might be given when the first round had ended
    at_end : (between : Conditions) → AccountsFor old (drives_of was) (named_sound was.record) (next_slot was.record) (spelling was.record) (λ d. (new.disk d).faults) (λ d. (new.disk d).write_faults) between
        → WasGiven new between slot boot → (boot ≡ was.record) ⊎ IsNextWith was tables boot
    at_end between told given =
        let exact : Stop = record { image = given.start.image; faults = λ k. (new.disk k).faults; write_faults = λ k. (new.disk k).write_faults; output = new.output; taken = new.taken } in
        let here : MayStop new exact = record { counts = record { faults = λ k. omega arith; write_faults = λ k. omega arith }; output = refl; taken = refl; device = given.may.device } in
        (first.each exact (is_new.counts_now old.moment exact on.later here)).1 between told slot boot (subst (λ (k : Geometry). MayBeGiven k given.start.image between slot boot) (sym (same_shelf on)) given.given)
