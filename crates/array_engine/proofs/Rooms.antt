-- Room at a point at which an array stands.
use Rattle.array_engine.proofs.Prelude.{◌≡◌, inl, inr, ℕ, ◌<◌, Bool, true, false, refl, ap, subst, ◌∙◌, arith, nat_lt, le-leb, le-ltb, lt-ltb, cases_lt, lt-leb, Refusal, Request, Answer, LOG_SLOTS, patch_segments, patches, BootRecord, Shelved, Point, IsRefused, HasGroups, Where, WithRoom, WithRoomFor, has_segments, patches_at, is_removal, ADDING_GROUPS, CHECKPOINT_GROUPS, LIMITED_SEGMENTS, SEGMENTS_END, Array, is_spent, IsDoFault, IsFull, IsRemovalFault, IsRoomFaultOf, MayAdd, MayDo, MayRemove, MayTake, StandsAt}
use Rattle.pur_base.specs.declared.reply.Refusal.TheVariants as refusals
use Rattle.session_spec.specs.Faring as faring
use Rattle.array_engine.proofs.Stood.{next_stood, patches_stood}

-- the one case or the other
pub where_so : (b : Bool) {one : Type 0} (other : Type 0) → b ≡ true → one → Where b one other
where_so true other e h = h
where_so false other e h = absurd (cc e)

pub where_not : (b : Bool) (one : Type 0) {other : Type 0} → b ≡ false → other → Where b one other
where_not true one e h = absurd (cc e)
where_not false one e h = h

-- at a point at which an array stands there is the same room
module _ {told : Bool} {shelf : Shelved} {a : Array} {p : Point} (s : StandsAt told shelf a p) where
  limited_same : patch_segments p.boot.patches ≡ patch_segments a.register.record.patches
  limited_same = ap (λ (b : BootRecord). patch_segments b.patches) s.boot

  pub spent_same : faring.is_spent p ≡ is_spent a
  spent_same = rw (s.boot, next_stood s) refl

  pub groups_same : (groups : ℕ) → HasGroups a.register.record (patches a.memory.memory.tables) groups → HasGroups p.boot (patches_at p) groups
  groups_same groups h = rw (s.boot, patches_stood s) h

  unlimited_same : (limit : ℕ) → patch_segments a.register.record.patches < limit → has_segments limit p ≡ false
  unlimited_same limit few = lt-leb limit (patch_segments p.boot.patches) (omega (arith, few, limited_same))

  may_take_at : (limit floor : ℕ) → MayTake limit floor a → faring.MayTake limit floor p
  may_take_at limit floor m = record {
    unlimited = unlimited_same limit m.unlimited;
    unspent = spent_same ∙ m.unspent;
    groups = m.groups;
    left = groups_same m.groups m.left;
    enough = m.enough;
  }

  pub full_is : IsFull a → faring.is_full p ≡ true
  full_is full = le-leb LOG_SLOTS p.logged (omega (arith, s.logged, full))

  pub free_is : ¬ (IsFull a) → faring.is_full p ≡ false
  free_is not = elim (cases_lt a.log.count LOG_SLOTS) [
    | inl lt ↦ lt-leb LOG_SLOTS p.logged (omega (arith, s.logged, lt))
    | inr le ↦ absurd (not (omega (arith, le, a.log.room)))
  ]

  full_at : faring.is_full p ≡ true → IsFull a
  full_at h = elim (cases_lt a.log.count LOG_SLOTS) [
    | inl lt ↦ absurd (cc (h, lt-leb LOG_SLOTS p.logged (omega (arith, s.logged, lt))))
    | inr le ↦ omega (arith, le, a.log.room)
  ]

  pub may_do_at : (r : Request) → MayDo r a → faring.MayDo r p
  may_do_at r m = may_do (is_removal r) m
    where
      may_do : (b : Bool) → Where b (MayRemove a) (MayAdd a) → Where b (faring.MayRemove p) (faring.MayTake LIMITED_SEGMENTS ADDING_GROUPS p)
      may_do true m = record { unspent = spent_same ∙ m.unspent; behind = λ full. may_take_at SEGMENTS_END CHECKPOINT_GROUPS (m.behind (full_at full)) }
      may_do false m = may_take_at LIMITED_SEGMENTS ADDING_GROUPS m

  module _ (limit floor : ℕ) (q : Answer) (to : Point) (some : Type 0) where
    pub with_room : MayTake limit floor a → some → WithRoom limit floor p q to some
    with_room m h = where_not (has_segments limit p) _ (unlimited_same limit m.unlimited) (where_not (faring.is_spent p) _ (spent_same ∙ m.unspent)
        (m.groups, groups_same m.groups m.left, where_not (nat_lt m.groups floor) _ (le-ltb m.groups floor m.enough) h))

    -- and without it the answer says so
    pub without_room : (lack : Refusal) → IsRoomFaultOf limit floor a lack → IsRefused lack p q to → WithRoom limit floor p q to some
    without_room refusals.Limit w h = where_so (has_segments limit p) _ (le-leb limit (patch_segments p.boot.patches) (omega (arith, w, limited_same))) h
    without_room refusals.Spent w h = where_not (has_segments limit p) _ (unlimited_same limit w.0) (where_so (faring.is_spent p) _ (spent_same ∙ w.1) h)
    without_room refusals.Space w h = where_not (has_segments limit p) _ (unlimited_same limit w.0) (where_not (faring.is_spent p) _ (spent_same ∙ w.1)
        (w.2.0, groups_same w.2.0 w.2.1, where_so (nat_lt w.2.0 floor) _ (lt-ltb w.2.0 floor w.2.2) h))
    without_room _ w h = absurd w

  -- the same of a logged request
  module _ (r : Request) (q : Answer) (to : Point) (some : Type 0) where
    pub with_room_for : MayDo r a → some → WithRoomFor r p q to some
    with_room_for m h = with_it (is_removal r) m
      where
        behind : MayRemove a → Where (faring.is_full p) (WithRoom SEGMENTS_END CHECKPOINT_GROUPS p q to some) (Where (faring.is_spent p) (IsRefused refusals.Spent p q to) some)
        behind m = elim (cases_lt a.log.count LOG_SLOTS) [
          | inl lt ↦ where_not (faring.is_full p) _ (free_is (λ full. omega (arith, full, lt))) (where_not (faring.is_spent p) _ (spent_same ∙ m.unspent) h)
          | inr le ↦ let full : IsFull a = omega (arith, le, a.log.room) in where_so (faring.is_full p) _ (full_is full) (with_room SEGMENTS_END CHECKPOINT_GROUPS q to some (m.behind full) h)
        ]

        with_it : (b : Bool) → Where b (MayRemove a) (MayAdd a)
            → Where b (Where (faring.is_full p) (WithRoom SEGMENTS_END CHECKPOINT_GROUPS p q to some) (Where (faring.is_spent p) (IsRefused refusals.Spent p q to) some)) (WithRoom LIMITED_SEGMENTS ADDING_GROUPS p q to some)
        with_it true m = behind m
        with_it false m = with_room LIMITED_SEGMENTS ADDING_GROUPS q to some m h

    pub without_room_for : (lack : Refusal) → IsDoFault r a lack → IsRefused lack p q to → WithRoomFor r p q to some
    without_room_for lack w h = without_it (is_removal r) w
      where
        none_behind : IsRemovalFault a lack → Where (faring.is_full p) (WithRoom SEGMENTS_END CHECKPOINT_GROUPS p q to some) (Where (faring.is_spent p) (IsRefused refusals.Spent p q to) some)
        none_behind (inl (full, w)) = where_so (faring.is_full p) _ (full_is full) (without_room SEGMENTS_END CHECKPOINT_GROUPS q to some lack w h)
        none_behind (inr (free, is, spent)) =
            where_not (faring.is_full p) _ (free_is free) (where_so (faring.is_spent p) _ (spent_same ∙ spent) (subst (λ (why : Refusal). IsRefused why p q to) is h))

        without_it : (b : Bool) → Where b (IsRemovalFault a lack) (IsRoomFaultOf LIMITED_SEGMENTS ADDING_GROUPS a lack)
            → Where b (Where (faring.is_full p) (WithRoom SEGMENTS_END CHECKPOINT_GROUPS p q to some) (Where (faring.is_spent p) (IsRefused refusals.Spent p q to) some)) (WithRoom LIMITED_SEGMENTS ADDING_GROUPS p q to some)
        without_it true w = none_behind w
        without_it false w = without_room LIMITED_SEGMENTS ADDING_GROUPS q to some lack w h
