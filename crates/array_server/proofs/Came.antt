-- What an answer makes of the array: the same, the item is done, or more failed than is borne.
use Rattle.array_server.proofs.Prelude.{arith, Option, Some, None, ◌+◌, not, nat_lt, ◌≡◌, ◌⊎◌, inl, inr, ℕ, List, [], ◌∷◌, refl, ◌∙◌, ap, subst, Bool, true, false, ltb-false, nat_tests, Device, Request, Table, Refusal, Geometry, IsBearable, named_sound, refusal, done, Item, Asked, IsLogged, Answer, losing, has_pair, pair_segments, Point, Answers, AnswersRequest, AnswersAccepted, IsCheckpointed, IsRefused, IsDone, IsFailed, IsFlattening, IsFlushing, IsMerging, MayDo, MayRemove, MayTake, Where, WithPair, WithRoom, WithRoomFor, has_segments, is_full, is_spent, IsAfter, IsNext, is_removal, ADDING_GROUPS, CHECKPOINT_GROUPS, FLATTEN_GROUPS, LIMITED_SEGMENTS, MERGE_GROUPS, SEGMENTS_END, flattened_array}
use Rattle.pur_base.specs.declared.request.Request.TheVariants as request
use Rattle.pur_base.specs.declared.reply.Refusal.TheVariants as refusals
use Rattle.session_spec.specs.Faring as faring

where_not : (b : Bool) {one other P : Type 0} → (one → P) → (b ≡ false → other → P) → Where b one other → P
where_not true f g h = f h
where_not false f g h = g refl h

-- in both cases
in_both : (b : Bool) {one other P : Type 0} → (one → P) → (other → P) → Where b one other → P
in_both true f g h = f h
in_both false f g h = g h

where_both : (b : Bool) {one other P : Type 0} → (b ≡ true → one → P) → (b ≡ false → other → P) → Where b one other → P
where_both true f g h = f refl h
where_both false f g h = g refl h

in_room : (limit floor : ℕ) (from to : Point) (q : Answer) {some P : Type 0} → ((why : Refusal) → IsRefused why from q to → P) → (MayTake limit floor from → some → P) → WithRoom limit floor from q to some → P
in_room limit floor from to q f g h =
    where_not (has_segments limit from) (f refusals.Limit) (λ unlimited. where_not (is_spent from) (f refusals.Spent) (λ unspent w. where_not (nat_lt w.0 floor) (f refusals.Space) (λ enough.
    g (record { unlimited = unlimited; unspent = unspent; groups = w.0; left = w.1; enough = ltb-false w.0 floor enough })) w.2)) h

in_room_for : (r : Request) (from to : Point) (q : Answer) {some P : Type 0} → ((why : Refusal) → IsRefused why from q to → P) → (MayDo r from → some → P) → WithRoomFor r from q to some → P
in_room_for r from to q {some} {P} f g h = by_kind (is_removal r) g h
  where
    by_kind : (b : Bool) → (Where b (MayRemove from) (MayTake LIMITED_SEGMENTS ADDING_GROUPS from) → some → P)
        → Where b (Where (is_full from) (WithRoom SEGMENTS_END CHECKPOINT_GROUPS from q to some) (Where (is_spent from) (IsRefused refusals.Spent from q to) some)) (WithRoom LIMITED_SEGMENTS ADDING_GROUPS from q to some) → P
    by_kind true g h = where_both (is_full from)
        (λ full. in_room SEGMENTS_END CHECKPOINT_GROUPS from to q f (λ room. g (record { unspent = room.unspent; behind = λ same. room })))
        (λ free. where_not (is_spent from) (f refusals.Spent) (λ unspent. g (record { unspent = unspent; behind = λ full. absurd (cc (full, free)) }))) h
    by_kind false g h = in_room LIMITED_SEGMENTS ADDING_GROUPS from to q f g h

-- with room or without, where the room itself matters to nobody
in_any_room : (limit floor : ℕ) (from to : Point) (q : Answer) {some P : Type 0} → ((why : Refusal) → IsRefused why from q to → P) → (some → P) → WithRoom limit floor from q to some → P
in_any_room limit floor from to q f g h = in_both (has_segments limit from) (f refusals.Limit) (in_both (is_spent from) (f refusals.Spent) (λ w. in_both (nat_lt w.0 floor) (f refusals.Space) g w.2)) h

-- with a pair that is merged or without, where the room itself matters to nobody
in_any_pair : (t : Table) (i : ℕ) (from to : Point) (q : Answer) {some P : Type 0} → ((why : Refusal) → IsRefused why from q to → P) → (some → P) → WithPair t i from q to some → P
in_any_pair t i from to q f g h =
    in_both (is_spent from) (f refusals.Spent) (in_both (not (has_pair t i from.boot.patches)) (f refusals.NothingThere) (λ w. in_both (nat_lt w.0 (MERGE_GROUPS + pair_segments t i from.boot.patches)) (f refusals.Space) g w.2)) h

-- how an item may come out: with the array as it was, with it done, or with too much lost
abbrev pub ComesTo : Geometry → (Device → Bool) → Point → List Item → Point → Type 0
ComesTo shelf lost from rest to = ((to.array ≡ from.array) × (to.halted ≡ from.halted)) ⊎ (IsNext from rest to.array × (to.halted ≡ from.halted)) ⊎ ((to.array ≡ from.array) × ¬ (IsBearable shelf (losing lost (named_sound from.boot))))

module _ (told : Bool) (shelf : Geometry) (failed lost : Device → Bool) (from to : Point) (q : Answer) (more : List Item) (sectors : List (List ℕ)) (awake : from.halted ≡ false) where
  Came : Request → Type 0
  Came r = ComesTo shelf lost from (Asked r sectors ∷ more) to

  refused_came : (why : Refusal) (r : Request) → IsRefused why from q to → Came r
  unfolding Came
  refused_came why r h = inl (h.stays.array, h.halted)

  same_came : (r : Request) → to.array ≡ from.array → to.halted ≡ from.halted → Came r
  unfolding Came
  same_came r e f = inl (e, f)

  failed_came : (r : Request) → IsFailed shelf lost from q to → Came r
  unfolding Came
  failed_came r h = inr (inr (h.stays.array, h.unborne))

  done_came : (r : Request) → IsLogged r → refusal from.array r ≡ None → MayDo r from → to.array ≡ done from.array r sectors → to.halted ≡ from.halted → Came r
  unfolding Came
  done_came r logged none room is stays = grind (arith, nat_tests, done)

  -- a checkpoint changes neither the array nor whether it is halted
  behind_came : (r : Request) → IsLogged r → refusal from.array r ≡ None → MayDo r from → (mid : Point) → IsCheckpointed shelf from mid → IsDone lost mid r sectors q to → Came r
  behind_came r logged none room mid made is =
      done_came r logged none room (is.array ∙ ap (λ (p : Point). done p.array r sectors) made.same) (is.halted ∙ ap (λ (p : Point). p.halted) made.same)

  logged_came : (r : Request) → IsLogged r → refusal from.array r ≡ None → faring.IsLogged shelf lost from r sectors q to → Came r
  logged_came r logs none h = in_room_for r from to q (λ why. refused_came why r) (λ room. in_both (is_full from)
      (λ behind. elim behind [
        | inl made ↦ behind_came r logs none room made.0 made.1 made.3
        | inr (inl wanted) ↦ refused_came refusals.Memory r wanted
        | inr (inr failed) ↦ failed_came r failed
      ])
      (λ there. elim there [
        | inl is ↦ done_came r logs none room is.array is.halted
        | inr failed ↦ failed_came r failed
      ])) h

  -- a checkpoint that was asked for
  flushing_came : IsFlushing shelf lost from q to → Came request.Checkpoint
  flushing_came h = grind (arith, nat_tests, in_any_room, refused_came, same_came, failed_came)

  -- a merge that was asked for
  merging_came : (t : Table) (i : ℕ) → IsMerging shelf lost from t i q to → Came (request.Merge t i)
  merging_came t i h = grind (arith, nat_tests, in_any_pair, refused_came, same_came, failed_came)

  -- a flattening that was asked for
  flattening_came : (n : List ℕ) → IsFlattening shelf lost from n q to → Came (request.Flatten n)
  flattening_came n h = in_any_room LIMITED_SEGMENTS FLATTEN_GROUPS from to q (λ why. refused_came why (request.Flatten n)) (λ w. elim w [
    | inl done ↦ same_came (request.Flatten n) (flattened_array done) done.halted
    | inr (must, inl wanted) ↦ refused_came refusals.Memory (request.Flatten n) wanted
    | inr (must, inr failed) ↦ failed_came (request.Flatten n) failed
  ]) h

  accepted_came : (r : Request) → refusal from.array r ≡ None → AnswersAccepted told shelf failed lost from r sectors q to → Came r
  accepted_came (request.Create n size) none h = logged_came (request.Create n size) tt none h
  accepted_came (request.Write n lba count) none h = logged_came (request.Write n lba count) tt none h
  accepted_came (request.Fill n lba count byte) none h = logged_came (request.Fill n lba count byte) tt none h
  accepted_came (request.Zero n lba count) none h = logged_came (request.Zero n lba count) tt none h
  accepted_came (request.Snapshot n new) none h = logged_came (request.Snapshot n new) tt none h
  accepted_came (request.Clone n new) none h = logged_came (request.Clone n new) tt none h
  accepted_came (request.Copy n lba m at count) none h = logged_came (request.Copy n lba m at count) tt none h
  accepted_came (request.Destroy n) none h = logged_came (request.Destroy n) tt none h
  accepted_came (request.Read n lba count) none h = elim h [
    | inl read ↦ same_came (request.Read n lba count) read.stays.array read.halted
    | inr lost ↦ same_came (request.Read n lba count) lost.refused_so.stays.array lost.refused_so.halted
  ]
  accepted_came request.List none h = same_came request.List h.stays.array h.halted
  accepted_came request.Status none h = same_came request.Status h.stays.array h.halted
  accepted_came request.Checkpoint none h = flushing_came h
  accepted_came (request.Merge t i) none h = merging_came t i h
  accepted_came (request.Flatten n) none h = flattening_came n h
  accepted_came _ none h = absurd h

  request_came : (why : Option Refusal) (r : Request) → refusal from.array r ≡ why → AnswersRequest false why told shelf failed lost from r sectors q to → Came r
  request_came (Some why) r is h = refused_came why r h
  request_came None r is h = accepted_came r is h

  asked_came : (r : Request) → Answers told shelf failed lost from (Asked r sectors) q to → ComesTo shelf lost from (Asked r sectors ∷ more) to
  unfolding Came
  asked_came r h = request_came (refusal from.array r) r refl (subst (λ (b : Bool). AnswersRequest b (refusal from.array r) told shelf failed lost from r sectors q to) awake h)

pub comes_to : (told : Bool) (shelf : Geometry) (failed lost : Device → Bool) (from to : Point) (item : Item) (q : Answer) (more : List Item) → from.halted ≡ false → Answers told shelf failed lost from item q to → ComesTo shelf lost from (item ∷ more) to
comes_to told shelf failed lost from to (Asked r sectors) q more awake h = asked_came told shelf failed lost from to q more sectors awake r h
comes_to told shelf failed lost from to _ q more awake h = inl (h.stays.array, h.halted)

-- the array after an item is that before it, or has done it
pub answered_after : (told : Bool) (shelf : Geometry) (failed lost : Device → Bool) (from to : Point) (item : Item) (q : Answer) (more : List Item) → from.halted ≡ false → Answers told shelf failed lost from item q to → IsAfter from (item ∷ more) to.array
answered_after told shelf failed lost from to item q more awake h = elim (comes_to told shelf failed lost from to item q more awake h) [
  | inl same ↦ inl same.0
  | inr (inl next) ↦ inr next.0
  | inr (inr failed) ↦ inl failed.0
]

-- an array that isn't halted comes to be so only where more is lost than is borne
pub stays_awake : (told : Bool) (shelf : Geometry) (failed lost : Device → Bool) (from to : Point) (item : Item) (q : Answer) → from.halted ≡ false → Answers told shelf failed lost from item q to → IsBearable shelf (losing lost (named_sound from.boot)) → to.halted ≡ false
stays_awake told shelf failed lost from to item q awake h bears = elim (comes_to told shelf failed lost from to item q [] awake h) [
  | inl same ↦ same.1 ∙ awake
  | inr (inl next) ↦ next.1 ∙ awake
  | inr (inr failed) ↦ absurd (failed.1 bears)
]
