-- Answers where more calls have failed, and more devices have lost writes.
use Rattle.array_server.proofs.Prelude.{arith, Option, nat_lt, ◌≡◌, inl, inr, ⊎_elim, ℕ, List, Bool, true, false, nat_tests, Device, BootRecord, Request, Table, Refusal, Geometry, Condition, MayBecome, drive, refusal, Item, Asked, Answer, missing_if, losing, has_pair, pair_segments, Point, Answers, AnswersRequest, AnswersAccepted, IsAppended, IsAppendedBehind, IsDone, IsFailed, IsGone, IsLost, IsFlattened, IsFlattening, IsFlushing, IsMerging, Where, WithRoom, has_segments, is_full, is_spent, borne_before, DropsOnlyLost, named_sound, is_removal, ADDING_GROUPS, CHECKPOINT_GROUPS, FLATTEN_GROUPS, LIMITED_SEGMENTS, SEGMENTS_END}
use Rattle.pur_base.specs.declared.request.Request.TheVariants as request
use Rattle.session_spec.specs.Faring as faring

pub goes_more : (c : Condition) (p q : Bool) → (p ≡ true → q ≡ true) → MayBecome (missing_if p c) (missing_if q c)
goes_more c p q h = grind (arith, nat_tests)

-- so it is in both cases
both_more : (is : Bool) (one ones some others : Type 0) → (one → ones) → (some → others) → Where is one some → Where is ones others
both_more true one ones some others f g h = f h
both_more false one ones some others f g h = g h

where_more : (is : Bool) (one some others : Type 0) → (some → others) → Where is one some → Where is one others
where_more true one some others f h = h
where_more false one some others f h = f h

module _ (told : Bool) (shelf : Geometry) (failed others lost more : Device → Bool) (f : (d : Device) → failed d ≡ true → others d ≡ true) (g : (d : Device) → lost d ≡ true → more d ≡ true) (from to : Point) (q : Answer) where
  drops_more : {before now : BootRecord} → DropsOnlyLost lost before now → DropsOnlyLost more before now
  drops_more h = record { leaves = λ d e. ⊎_elim (λ named. inl named) (λ is. inr (g d is)) (h.leaves d e); joins = h.joins }

  done_more : (at : Point) (r : Request) (sectors : List (List ℕ)) → IsDone lost at r sectors q to → IsDone more at r sectors q to
  done_more at r sectors h = grind (arith, nat_tests, drops_more)

  failed_more : IsFailed shelf lost from q to → IsFailed shelf more from q to
  failed_more h = record {
    unborne = λ b. h.unborne (borne_before shelf (losing lost (named_sound from.boot)) (losing more (named_sound from.boot)) (λ d. goes_more (named_sound from.boot d) (lost d) (more d) (g d)) b);
    reply = h.reply;
    stays = h.stays;
    halted = h.halted;
  }

  gone_more : (i : ℕ) → IsGone failed from i → IsGone others from i
  gone_more i h = ⊎_elim (λ missing. inl missing) (λ is. inr (f (drive i) is)) h

  lost_more : IsLost shelf failed from q to → IsLost shelf others from q to
  lost_more h = grind (arith, nat_tests, gone_more)

  -- with a slot that is free, or behind a checkpoint
  appended_more : (r : Request) (sectors : List (List ℕ)) → IsAppended shelf lost from r sectors q to → IsAppended shelf more from r sectors q to
  appended_more r sectors h = ⊎_elim (λ is. inl (done_more from r sectors is)) (λ x. inr (failed_more x)) h

  behind_more : (r : Request) (sectors : List (List ℕ)) → IsAppendedBehind shelf lost from r sectors q to → IsAppendedBehind shelf more from r sectors q to
  behind_more r sectors h = ⊎_elim (λ made. inl (made.0, made.1, drops_more made.2, done_more made.0 r sectors made.3)) (λ other. inr (⊎_elim (λ wanted. inl wanted) (λ x. inr (failed_more x)) other)) h

  room_more : (limit floor : ℕ) {one other : Type 0} → (one → other) → WithRoom limit floor from q to one → WithRoom limit floor from q to other
  room_more limit floor f h = where_more (has_segments limit from) _ _ _ (λ unlimited. where_more (is_spent from) _ _ _ (λ w. (w.0, w.1, where_more (nat_lt w.0 floor) _ _ _ f w.2)) unlimited) h

  logged_more : (r : Request) (sectors : List (List ℕ)) → faring.IsLogged shelf lost from r sectors q to → faring.IsLogged shelf more from r sectors q to
  logged_more r sectors h =
      let some : Where (is_full from) (IsAppendedBehind shelf lost from r sectors q to) (IsAppended shelf lost from r sectors q to) → Where (is_full from) (IsAppendedBehind shelf more from r sectors q to) (IsAppended shelf more from r sectors q to) =
      both_more (is_full from) _ _ _ _ (behind_more r sectors) (appended_more r sectors) in
      both_more (is_removal r) _ _ _ _ (both_more (is_full from) _ _ _ _ (room_more SEGMENTS_END CHECKPOINT_GROUPS some) (where_more (is_spent from) _ _ _ some)) (room_more LIMITED_SEGMENTS ADDING_GROUPS some) h

  -- a checkpoint that was asked for
  flushing_more : IsFlushing shelf lost from q to → IsFlushing shelf more from q to
  flushing_more h = grind (arith, nat_tests, where_more, has_segments, is_spent, nat_lt, drops_more, failed_more)

  -- a merge that was asked for
  merging_more : (t : Table) (i : ℕ) → IsMerging shelf lost from t i q to → IsMerging shelf more from t i q to
  merging_more t i h = grind (arith, nat_tests, where_more, is_spent, has_pair, nat_lt, pair_segments, drops_more, failed_more)

  -- a flattening that was asked for
  flattened_more : (n : List ℕ) → IsFlattened shelf lost n from q to → IsFlattened shelf more n from q to
  flattened_more n h = grind (arith, nat_tests, drops_more)

  flattening_more : (n : List ℕ) → IsFlattening shelf lost from n q to → IsFlattening shelf more from n q to
  flattening_more n h = room_more LIMITED_SEGMENTS FLATTEN_GROUPS (λ w. ⊎_elim (λ is. inl (flattened_more n is)) (λ other. inr (other.0, ⊎_elim (λ wanted. inl wanted) (λ x. inr (failed_more x)) other.1)) w) h

  accepted_more : (r : Request) (sectors : List (List ℕ)) → AnswersAccepted told shelf failed lost from r sectors q to → AnswersAccepted told shelf others more from r sectors q to
  accepted_more (request.Create n size) sectors h = logged_more (request.Create n size) sectors h
  accepted_more (request.Write n lba count) sectors h = logged_more (request.Write n lba count) sectors h
  accepted_more (request.Fill n lba count byte) sectors h = logged_more (request.Fill n lba count byte) sectors h
  accepted_more (request.Zero n lba count) sectors h = logged_more (request.Zero n lba count) sectors h
  accepted_more (request.Snapshot n new) sectors h = logged_more (request.Snapshot n new) sectors h
  accepted_more (request.Clone n new) sectors h = logged_more (request.Clone n new) sectors h
  accepted_more (request.Copy n lba m at count) sectors h = logged_more (request.Copy n lba m at count) sectors h
  accepted_more (request.Destroy n) sectors h = logged_more (request.Destroy n) sectors h
  accepted_more (request.Read n lba count) sectors h = ⊎_elim (λ is. inl is) (λ is. inr (lost_more is)) h
  accepted_more request.List sectors h = h
  accepted_more request.Status sectors h = h
  accepted_more request.Checkpoint sectors h = flushing_more h
  accepted_more (request.Merge t i) sectors h = merging_more t i h
  accepted_more (request.Flatten n) sectors h = flattening_more n h
  accepted_more _ sectors h = absurd h

  request_more : (halted : Bool) (why : Option Refusal) (r : Request) (sectors : List (List ℕ)) → AnswersRequest halted why told shelf failed lost from r sectors q to → AnswersRequest halted why told shelf others more from r sectors q to
  request_more halted why r sectors h = grind (arith, nat_tests, accepted_more)

-- the same answer where more have failed
pub answers_more : (told : Bool) (shelf : Geometry) (failed others lost more : Device → Bool) → ((d : Device) → failed d ≡ true → others d ≡ true) → ((d : Device) → lost d ≡ true → more d ≡ true) → (from : Point) (item : Item) (q : Answer) (to : Point)
    → Answers told shelf failed lost from item q to → Answers told shelf others more from item q to
answers_more told shelf failed others lost more f g from (Asked r sectors) q to h = request_more told shelf failed others lost more f g from to q from.halted (refusal from.array r) r sectors h
answers_more told shelf failed others lost more f g from _ q to h = h
