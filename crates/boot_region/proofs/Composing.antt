-- The phases of a store, one after another: at every moment the devices stand for the arrays.
use Rattle.boot_region.proofs.Prelude.{nat_tests, ◌≡◌, ◌⊎◌, inl, inr, ℕ, ◌+◌, ◌*◌, ◌≤◌, ◌<◌, List, map, refl, sym, ◌∙◌, ap, subst, arith, Bool, true, false, Option, Some, None, IfSome, option_and_then, count_by, range_with_len, bytes_eq, same_text, cases_Bool, length-map-range_with_len, Device, SLOTS_MIN, Geometry, Image, View, Condition, Conditions, Sound, Missing, LeftOut, IsWithin, IsBearable, is_missing, is_sound, drive, Array, BootRecord, spelling, BootSlot, A, B, Effective, IsDecided, other_slot, body_in, shown_by, votes, is_vote, Yields, generation_in, Stands, MayBeGiven, MayAppear, OpensGatesOf, ClosesGatesOf, DiffersOnlyIn, IsOldOrNew, held_votes, most_votes, not_missing, sound_before, opening_gives, opening_still_gives, closing_gives_no_more, closing_still_gives, this_or_other, spells_one, store_keeps, boot_keeps, Shelved, Stop, MayStop, IsShelf, geometry_of, has_risen, IsLater, as_read, not_risen_before, SoundAreMembers, OnSound, OnlyBoot, IsOlder, AreOlder, Closes, Writes, Opens, IsInForceOn, MayFollow, StandsNow, AccountsFor, shown_body}
use Rattle.boot_region.proofs.StillGiven.{closing_keeps}

pub votes_not : (o : Option (List ℕ)) (other : List ℕ) → ((x : List ℕ) → o ≡ Some x → bytes_eq x other ≡ false) → is_vote other o ≡ false
votes_not None other all = refl
votes_not (Some x) other all = all x refl

-- a body that no sound drive shows isn't decided, whatever two more show
pub none_decided : (shelf : Geometry) (image : Image) (missing more : Conditions) (view : View) (slot : BootSlot) (body : List ℕ) → SLOTS_MIN ≤ shelf.slots
    → ((i : ℕ) → i < shelf.slots → missing (drive i) ≡ Sound → is_vote body (shown_by slot (image (drive i))) ≡ false)
    → MayAppear shelf image missing more view → IsDecided (votes shelf view slot) body → ⊥
none_decided shelf image missing more view slot body eleven none a d =
    let bound : count_by (is_vote body) (map vote (range_with_len 0 shelf.slots)) ≤ count_by missing_at (range_with_len 0 shelf.slots) + count_by missing_at (range_with_len 0 shelf.slots) =
    most_votes vote missing_at missing_at body 0 shelf.slots (λ i low high unmarked voted. absurd (cc (shows_none i (omega (arith, high)) unmarked voted))) in
    let most : shelf.slots < 2 * count_by (is_vote body) (map vote (range_with_len 0 shelf.slots)) =
    subst (λ n. n < 2 * count_by (is_vote body) (map vote (range_with_len 0 shelf.slots))) (length-map-range_with_len vote 0 shelf.slots) d in
    absurd (omega (arith, bound, most, two, eleven))
  where
    missing_at : ℕ → Bool
    missing_at i = is_missing (more (drive i))

    vote : ℕ → Option (List ℕ)
    vote i = option_and_then (shown_by slot) (view (drive i))

    two : count_by missing_at (range_with_len 0 shelf.slots) ≤ 2
    two = a.bearable.drives

    shows_none : (i : ℕ) → i < shelf.slots → missing_at i ≡ false → is_vote body (vote i) ≡ true → false ≡ true
    shows_none i lt unmarked voted = grind (arith, nat_tests, not_missing, sound_before)

-- what all sound drives show is decided
pub all_decide : (shelf : Geometry) (image : Image) (missing more : Conditions) (view : View) (slot : BootSlot) (body : List ℕ) → SLOTS_MIN ≤ shelf.slots
    → ((i : ℕ) → i < shelf.slots → missing (drive i) ≡ Sound → shown_by slot (image (drive i)) ≡ Some body)
    → MayAppear shelf image missing more view → IsDecided (votes shelf view slot) body
all_decide shelf image missing more view slot body eleven all a =
    let most : shelf.slots ≤ count_by (is_vote body) (map vote (range_with_len 0 shelf.slots)) + count_by missing_at (range_with_len 0 shelf.slots) =
    held_votes vote missing_at body 0 shelf.slots votes_for in
    rw (length-map-range_with_len vote 0 shelf.slots) (omega (arith, most, two, eleven))
  where
    missing_at : ℕ → Bool
    missing_at i = is_missing (more (drive i))

    vote : ℕ → Option (List ℕ)
    vote i = option_and_then (shown_by slot) (view (drive i))

    two : count_by missing_at (range_with_len 0 shelf.slots) ≤ 2
    two = a.bearable.drives

    votes_for : (i : ℕ) → 0 ≤ i → i < 0 + shelf.slots → missing_at i ≡ false → vote i ≡ Some body
    votes_for i low high unmarked = grind (arith, nat_tests, not_missing, sound_before)

pub differs_then : {unit : ℕ → ℕ → Type 0} {a b c : Image} → DiffersOnlyIn unit a b → DiffersOnlyIn unit b c → DiffersOnlyIn unit a c
differs_then {unit} {a} {b} {c} ab bc = grind (arith, nat_tests, drive)

pub as_it_is : (missing : Conditions) → IsWithin missing missing
as_it_is missing device = grind (arith, nat_tests)

pub is_sound_is : (c : Condition) → is_sound c ≡ true → c ≡ Sound
is_sound_is Sound e = refl
is_sound_is Missing e = cc
is_sound_is LeftOut e = cc

-- Conditions that are borne, in which what a failed read of its gate might let be shown on a member that is sound still loses against the record in force.
pub record IsBorneOn (shelf : Shelved) (members : List Bool) (missing : Conditions) (slot : BootSlot) (held : List ℕ) (faults : Device → ℕ) (later : Conditions) : Type 0 where
  pub within : IsWithin missing later
  pub bearable : IsBearable (geometry_of shelf) later
  pub reads : OnSound later members (λ i. IsOlder shelf slot held i ⊎ (has_risen (shelf.disk (drive i)).faults (faults (drive i)) ≡ false))

-- those that tell what has failed are
pub borne : {shelf : Shelved} {members : List Bool} {missing : Conditions} {slot : BootSlot} {held : List ℕ} {faults write_faults : Device → ℕ} {later : Conditions}
    → AccountsFor shelf members missing slot held faults write_faults later → IsBorneOn shelf members missing slot held faults later
borne {shelf} {members} {missing} {slot} {held} {faults} {write_faults} {later} a = record { within = a.within; bearable = a.bearable; reads = a.reads }

-- of two records one yields
pub yields_to_one : (slot : BootSlot) (a b : ℕ) → Yields slot a b → Yields (other_slot slot) b a → ⊥
yields_to_one A a b le lt = omega (arith, le, lt)
yields_to_one B a b lt le = omega (arith, le, lt)

-- at a moment of a store
module _ (shelf : Shelved) (members : List Bool) (missing : Conditions) (slot : BootSlot) (held : BootRecord)
    (is : IsShelf shelf) (force : IsInForceOn shelf members missing slot held)
    (start stop : Stop) (may : MayStop shelf start) (later : Conditions) (account : IsBorneOn shelf members missing slot (spelling held) stop.faults later) where
  sound_then : (i : ℕ) → later (drive i) ≡ Sound → missing (drive i) ≡ Sound
  sound_then i s = sound_before (missing (drive i)) (later (drive i)) (account.within (drive i)) s

  -- the record in force stands on each drive
  in_force : (image : Image) → ((i : ℕ) → later (drive i) ≡ Sound → shown_by (other_slot slot) (image (drive i)) ≡ shown_by (other_slot slot) (start.image (drive i)))
      → (i : ℕ) → i < shelf.drives → later (drive i) ≡ Sound → shown_by (other_slot slot) (image (drive i)) ≡ Some (spelling held)
  in_force image others i lt s = grind (arith, nat_tests, sound_then, shown_by, other_slot, as_read, drive)

  decided : (image : Image) → ((i : ℕ) → later (drive i) ≡ Sound → shown_by (other_slot slot) (image (drive i)) ≡ shown_by (other_slot slot) (start.image (drive i)))
      → (more : Conditions) (view : View) → MayAppear (geometry_of shelf) image later more view → IsDecided (votes (geometry_of shelf) view (other_slot slot)) (spelling held)
  decided image others more view a = all_decide (geometry_of shelf) image later more view (other_slot slot) (spelling held) is.drives.0 (in_force image others) a

  gives_no_more : (image : Image) → ClosesGatesOf start.image image later slot (spelling held) → (t : BootSlot) (b : BootRecord) → MayBeGiven (geometry_of shelf) image later t b → MayBeGiven (geometry_of shelf) start.image missing t b
  gives_no_more image closes t b g = closing_gives_no_more (geometry_of shelf) start.image image missing later slot t held b account.within (force.given start may) (decided image closes.others) closes g

  none_given : (image : Image) → ((i : ℕ) → i < shelf.drives → later (drive i) ≡ Sound → shown_by slot (image (drive i)) ≡ None) → (b : BootRecord)
      → MayBeGiven (geometry_of shelf) image later slot b → ⊥
  none_given image none b g = none_decided (geometry_of shelf) image later g.more g.view slot (spelling b) is.drives.0 (λ i lt s. ap (is_vote (spelling b)) (none i lt s)) g.appears g.effective.decided

  -- a drive that is sound shows what it held, where it's a member
  as_began : (i : ℕ) → i < shelf.drives → later (drive i) ≡ Sound → start.image (drive i) ≡ (shelf.disk (drive i)).bytes
  as_began i lt s = let sound = sound_then i s in as_read (shelf.disk (drive i)) (start.image (drive i)) (force.clean i (force.sound i lt sound) sound) (may.device (drive i))

  -- where what the slot holds is older no record in it may be given
  pub stale : AreOlder shelf later members slot (spelling held) → (b : BootRecord) → MayBeGiven (geometry_of shelf) start.image later slot b → ⊥
  stale older b g = none_decided (geometry_of shelf) start.image later g.more g.view slot (spelling b) is.drives.0 no_vote g.appears g.effective.decided
    where
      wins : Yields slot (generation_in (spelling held)) (generation_in (spelling b))
      wins = g.effective.highest (spelling held) (decided start.image (λ i s. refl) g.more g.view g.appears)

      differs : (x : List ℕ) → Yields (other_slot slot) (generation_in x) (generation_in (spelling held)) → bytes_eq x (spelling b) ≡ false
      differs x old = elim (cases_Bool (bytes_eq x (spelling b))) [
        | inr not ↦ not
        | inl same ↦ absurd (yields_to_one slot (generation_in (spelling held)) (generation_in (spelling b)) wins
            (subst (λ (y : List ℕ). Yields (other_slot slot) (generation_in y) (generation_in (spelling held))) (same_text x (spelling b) (sym same)) old))
      ]

      no_vote : (i : ℕ) → i < shelf.drives → later (drive i) ≡ Sound → is_vote (spelling b) (shown_by slot (start.image (drive i))) ≡ false
      no_vote i lt s = grind (arith, nat_tests, votes_not, differs, as_began, shown_body, sound_then)

  -- what the first phase does to the drives that are sound still
  closes_of : (mid : Stop) → IsLater mid stop → Closes shelf members missing slot (spelling held) start mid → ClosesGatesOf start.image mid.image later slot (spelling held)
  closes_of mid on c = record {
    others = λ i s. c.others i;
    closes = λ i s. c.closes i (sound_then i s) (λ m. elim (account.reads i m s) [
      | inl older ↦ inl older
      | inr none ↦ inr (not_risen_before (shelf.disk (drive i)).faults (mid.faults (drive i)) (stop.faults (drive i)) (on.faults (drive i)) none)
    ]);
  }

  -- and then the second one
  closes_then : (first second : Stop) (now : List Bool) → ClosesGatesOf start.image first.image later slot (spelling held) → Writes missing now slot first second → ClosesGatesOf start.image second.image later slot (spelling held)
  closes_then first second now c w = record {
    others = λ i s. w.others i ∙ c.others i s;
    closes = λ i s. elim (w.shut i (sound_then i s)) [
      | inl none ↦ inr (subst (λ (o : Option (List ℕ)). IfSome o (λ body. Yields (other_slot slot) (generation_in body) (generation_in (spelling held)))) (sym none) tt)
      | inr same ↦ grind (arith, nat_tests)
    ];
  }

  -- what may be given in each phase
  pub gives_while_closing : Closes shelf members missing slot (spelling held) start stop → (t : BootSlot) (b : BootRecord) → MayBeGiven (geometry_of shelf) stop.image later t b → MayBeGiven (geometry_of shelf) start.image missing t b
  gives_while_closing c = gives_no_more stop.image (closes_of stop (record { faults = λ d. omega arith; write_faults = λ d. omega arith }) c)

  pub gives_while_writing : (mid : Stop) (now : List Bool) → IsLater mid stop → Closes shelf members missing slot (spelling held) start mid → Writes missing now slot mid stop
      → (t : BootSlot) (b : BootRecord) → MayBeGiven (geometry_of shelf) stop.image later t b → MayBeGiven (geometry_of shelf) start.image missing t b
  gives_while_writing mid now on c w = gives_no_more stop.image (closes_then mid stop now (closes_of mid on c) w)

  -- the record in force may be given still, where it might be then
  pub still_while_closing : Closes shelf members missing slot (spelling held) start stop → MayBeGiven (geometry_of shelf) start.image later (other_slot slot) held → MayBeGiven (geometry_of shelf) stop.image later (other_slot slot) held
  still_while_closing c =
      let closes = closes_of stop (record { faults = λ d. omega arith; write_faults = λ d. omega arith }) c in
      closing_keeps (geometry_of shelf) start.image stop.image later slot held closes (decided stop.image closes.others)

  pub still_while_writing : (mid : Stop) (now : List Bool) → IsLater mid stop → Closes shelf members missing slot (spelling held) start mid → Writes missing now slot mid stop
      → MayBeGiven (geometry_of shelf) start.image later (other_slot slot) held → MayBeGiven (geometry_of shelf) stop.image later (other_slot slot) held
  still_while_writing mid now on c w =
      let closes = closes_then mid stop now (closes_of mid on c) w in
      closing_keeps (geometry_of shelf) start.image stop.image later slot held closes (decided stop.image closes.others)

  -- the arrays for which the devices stood
  module _ (arrays : List Array) (stand : StandsNow shelf missing arrays) where
    still_gives : (image : Image) → ClosesGatesOf start.image image later slot (spelling held) → (more : Conditions) (view : View) → MayAppear (geometry_of shelf) image later more view → Effective (geometry_of shelf) view
    still_gives image closes = closing_still_gives (geometry_of shelf) start.image image missing later slot held account.within force.lawful (decided image closes.others) closes (stand start may).gives

    -- the first phase
    pub while_closing : Closes shelf members missing slot (spelling held) start stop → Stands (geometry_of shelf) stop.image later arrays
    while_closing c =
        let closes = closes_of stop (record { faults = λ d. omega arith; write_faults = λ d. omega arith }) c in
        boot_keeps (geometry_of shelf) start.image stop.image missing later arrays account.within account.bearable c.only_boot (still_gives stop.image closes)
        (λ t b g. (gives_no_more stop.image closes t b g, λ i. c.bodies t i)) (stand start may)

    -- the second phase, in which no record of the slot may be given
    while_writing_behind : (mid : Stop) (now : List Bool) → IsLater mid stop → ((b : BootRecord) → MayBeGiven (geometry_of shelf) stop.image later slot b → ⊥)
        → Closes shelf members missing slot (spelling held) start mid → Writes missing now slot mid stop → Stands (geometry_of shelf) stop.image later arrays
    while_writing_behind mid now on none c w =
        let closes = closes_then mid stop now (closes_of mid on c) w in
        boot_keeps (geometry_of shelf) start.image stop.image missing later arrays account.within account.bearable (differs_then c.only_boot w.only_boot) (still_gives stop.image closes)
        (λ t b g. (
          gives_no_more stop.image closes t b g,
          λ i. elim (this_or_other t slot) [
            | inl this ↦ absurd (none b (subst (λ x. MayBeGiven (geometry_of shelf) stop.image later x b) this g))
            | inr other ↦ subst (λ x. body_in x (stop.image (drive i)) ≡ body_in x (start.image (drive i))) (sym other) (w.bodies i ∙ c.bodies (other_slot slot) i)
          ],
        )) (stand start may)

    -- since no sound drive shows one
    pub while_writing : (mid : Stop) (now : List Bool) → IsLater mid stop → SoundAreMembers shelf later now → Closes shelf members missing slot (spelling held) start mid → Writes missing now slot mid stop
        → Stands (geometry_of shelf) stop.image later arrays
    while_writing mid now on sound c w = while_writing_behind mid now on (none_given stop.image (λ k lt s. w.none k (sound k lt s) (sound_then k s))) c w

    -- or since those that are shown are older
    pub while_writing_over : (mid : Stop) (now : List Bool) → IsLater mid stop → missing ≡ later → AreOlder shelf later members slot (spelling held) → Closes shelf members missing slot (spelling held) start mid → Writes missing now slot mid stop
        → Stands (geometry_of shelf) stop.image later arrays
    while_writing_over mid now on same older c w = while_writing_behind mid now on
        (λ b g. stale older b (subst (λ x. MayBeGiven (geometry_of shelf) start.image x slot b) same (gives_while_writing mid now on c w slot b g))) c w

  -- and where another record follows on
  module _ (boot : BootRecord) (arrays : List Array) (follow : MayFollow shelf missing slot boot arrays) where
    pub gives_while_opening : (first second : Stop) (now last : List Bool) → IsLater first stop
        → Closes shelf members missing slot (spelling held) start first → Writes missing now slot first second → Opens missing last slot (spelling boot) second stop
        → (t : BootSlot) (b : BootRecord) → MayBeGiven (geometry_of shelf) stop.image later t b → ((t ≡ slot) × (b ≡ boot)) ⊎ MayBeGiven (geometry_of shelf) start.image missing t b
    gives_while_opening first second now last on c w o t b g =
        let opens : OpensGatesOf second.image stop.image later slot (spelling boot) = record { others = λ i k. o.others i; opens = λ i k. o.opens i (sound_then i k) } in
        elim (opening_gives (geometry_of shelf) second.image stop.image later later slot t boot b (as_it_is later) opens g) [
          | inl new_one ↦ inl (new_one.0, spells_one (geometry_of shelf) b boot g.lawful follow.lawful (sym new_one.1))
          | inr before ↦ inr (gives_no_more second.image (closes_then first second now (closes_of first on c) w) t b before)
        ]

    -- the third phase
    pub while_opening : (first second : Stop) (now last : List Bool) → IsLater first stop → SoundAreMembers shelf later last
        → Closes shelf members missing slot (spelling held) start first → Writes missing now slot first second → Opens missing last slot (spelling boot) second stop
        → Stands (geometry_of shelf) stop.image later arrays
    while_opening first second now last on sound c w o =
        let closes = closes_then first second now (closes_of first on c) w in
        let only_boot : OnlyBoot start.image stop.image = differs_then (differs_then c.only_boot w.only_boot) o.only_boot in
        let s = follow.stands start may in
        let reads = follow.reads later start stop account.within account.bearable may only_boot (λ i lt k. o.stands i (sound i lt k) (sound_then i k)) s in
        let opens : OpensGatesOf second.image stop.image later slot (spelling boot) = record { others = λ i k. o.others i; opens = λ i k. o.opens i (sound_then i k) } in
        let old_or_new : IsOldOrNew (geometry_of shelf) start.image stop.image missing later slot boot = record {
          within = account.within;
          bearable = account.bearable;
          only_boot = only_boot;
          gives = opening_still_gives (geometry_of shelf) second.image stop.image later later slot boot (as_it_is later) follow.lawful opens (still_gives arrays follow.stands second.image closes);
          old_or_new = λ t b g. elim (opening_gives (geometry_of shelf) second.image stop.image later later slot t boot b (as_it_is later) opens g) [
            | inl new_one ↦ inl (new_one.0, spells_one (geometry_of shelf) b boot g.lawful follow.lawful (sym new_one.1))
            | inr before ↦ elim (this_or_other t slot) [
              | inl this ↦ absurd (none_given second.image (λ k lt s2. o.shut k (sound k lt s2) (sound_then k s2)) b (subst (λ x. MayBeGiven (geometry_of shelf) second.image later x b) this before))
              | inr other ↦ inr (
                gives_no_more second.image closes t b before,
                λ i. subst (λ x. body_in x (stop.image (drive i)) ≡ body_in x (start.image (drive i))) (sym other)
                    (o.bodies (other_slot slot) i ∙ w.bodies i ∙ c.bodies (other_slot slot) i),
              )
            ]
          ];
        } in
        store_keeps (geometry_of shelf) start.image stop.image missing later slot boot arrays old_or_new s reads.0 reads.1
