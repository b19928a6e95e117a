-- What is true of a run of replies.
use Rattle.session_spec.proofs.Prelude.{nat_tests, ◌≡◌, ◌≢◌, ◌⊎◌, inl, inr, ℕ, List, [], ◌∷◌, refl, sym, ◌∙◌, ap, subst, arith, Bool, true, false, Option, Some, None, nat_lt, if◌then◌else◌, Device, Request, Table, Refusal, Geometry, Sound, LeftOut, IsBearable, BootRecord, names, refusal, done, Item, Asked, Syntax, Cut, Answer, given, answer_unless, after_unless, Step, IsModelled, IsPhysical, IsBarred, AnyFact, ElisionFact, all_facts, is_elided, has_pair, pair_segments, is_missing, named_sound, Memory, patches, is_removal, Reply, Line, IsOther, IsStepReply, any_append_left, elides, Stop, has_failed, has_lost_writes, losing, missing_if, IsLater, rose_before, rose_since, DropsOnlyLost, Point, now_missing, Fares, Answers, AnswersRequest, AnswersAccepted, IsAppended, IsAppendedBehind, IsCheckpointed, IsDone, IsLogged, IsRefused, IsClearedFor, IsFailed, IsFlattened, IsFlattening, IsFlushing, IsMerged, IsMergeDone, IsMerging, IsFlushed, MustClear, StayElided, Where, WithPair, WithRoom, WithRoomFor, has_segments, is_full, is_spent, patches_at, AwakeIsBorne, FaresRun, ElidedStays, ClaimsHaveCauses, HaltsHaveCauses, borne_on}
use Rattle.std.proofs.lemmas.Bool.{cases_Bool}
use Rattle.pur_base.specs.declared.request.Request.TheVariants as request
use Rattle.pur_base.specs.declared.reply.Refusal.TheVariants as refusals
use Rattle.pur_base.specs.declared.reply.Reply.TheVariants as reply
use Rattle.command_spec.specs.Prelude.{FlattensTo}
use Rattle.session_spec.specs.declared.limits.TheConstants.{ADDING_GROUPS, CHECKPOINT_GROUPS, FLATTEN_GROUPS, LIMITED_SEGMENTS, SEGMENTS_END}

-- ---- lawful replies

none_isn't : (why : Refusal) → None ≢ Some why
none_isn't why e = cc e

barred : (from to : Point) (why : Refusal) (r : Request) (sectors : List (List ℕ)) (q : Answer) → IsBarred why → IsRefused why from q to → Step from.array (Asked r sectors) q to.array
barred from to why r sectors q is h = rw h.reply (inr (inl is, h.stays.array))

physical : (from to : Point) (why : Refusal) (r : Request) (sectors : List (List ℕ)) (q : Answer) → refusal from.array r ≡ None → IsPhysical why → IsRefused why from q to → Step from.array (Asked r sectors) q to.array
physical from to why r sectors q none is h = rw h.reply (inr (inr (none, is), h.stays.array))

failed : (shelf : Geometry) (lost : Device → Bool) (from to : Point) (r : Request) (sectors : List (List ℕ)) (q : Answer) → refusal from.array r ≡ None → IsFailed shelf lost from q to → Step from.array (Asked r sectors) q to.array
failed shelf lost from to r sectors q none h = rw h.reply (inr (inr (none, tt), h.stays.array))

-- the model's own answer, with its effect
modelled : (from to : Point) (r : Request) (sectors : List (List ℕ)) (q : Answer) → refusal from.array r ≡ None → IsModelled r → q ≡ given from.array r → to.array ≡ done from.array r sectors → Step from.array (Asked r sectors) q to.array
modelled from to r sectors q none is reply array = grind (arith, nat_tests, answer_unless, given, after_unless, done)

by_model : (from to : Point) (why : Refusal) (r : Request) (sectors : List (List ℕ)) (q : Answer) → refusal from.array r ≡ Some why → IsRefused why from q to → Step from.array (Asked r sectors) q to.array
by_model from to why r sectors q is h = grind (arith, nat_tests, none_isn't, answer_unless, given, after_unless, done)

either : (is : Bool) {one other : Type 0} {P : Type 0} → (one → P) → (other → P) → Where is one other → P
either true f g h = f h
either false f g h = g h

-- with room or without
in_room : (limit floor : ℕ) (from to : Point) (q : Answer) {some : Type 0} {P : Type 0} → (IsRefused refusals.Limit from q to → P) → (IsRefused refusals.Spent from q to → P) → (IsRefused refusals.Space from q to → P) → (some → P)
    → WithRoom limit floor from q to some → P
in_room limit floor from to q f g h k w = either (has_segments limit from) f (either (is_spent from) g (λ (groups, left, s). either (nat_lt groups floor) h k s)) w

-- with room for a logged request, or without
room_for : (r : Request) (from to : Point) (q : Answer) {some : Type 0} {P : Type 0} → (IsRefused refusals.Limit from q to → P) → (IsRefused refusals.Spent from q to → P) → (IsRefused refusals.Space from q to → P) → (some → P) → WithRoomFor r from q to some → P
room_for r from to q f g h k w =
    either (is_removal r) (either (is_full from) (in_room SEGMENTS_END CHECKPOINT_GROUPS from to q f g h k) (either (is_spent from) g k)) (in_room LIMITED_SEGMENTS ADDING_GROUPS from to q f g h k) w

-- with a pair that is merged, or without
in_pair : (t : Table) (i : ℕ) (from to : Point) (q : Answer) {some : Type 0} {P : Type 0} → (IsRefused refusals.Spent from q to → P) → (IsRefused refusals.NothingThere from q to → P) → (IsRefused refusals.Space from q to → P) → (some → P)
    → WithPair t i from q to some → P
in_pair t i from to q f g h k w = grind (arith, nat_tests, either, has_pair, nat_lt, pair_segments)

-- the array is the same behind a checkpoint
same_array : {shelf : Geometry} {from mid : Point} → IsCheckpointed shelf from mid → mid.array ≡ from.array
same_array c = ap (λ (p : Point). p.array) c.same

same_halted : {shelf : Geometry} {from mid : Point} → IsCheckpointed shelf from mid → mid.halted ≡ from.halted
same_halted c = ap (λ (p : Point). p.halted) c.same

-- with a free slot, and without
module _ (shelf : Geometry) (lost : Device → Bool) (from to : Point) (r : Request) (sectors : List (List ℕ)) (q : Answer) where
  appended : {P : Type 0} → (IsDone lost from r sectors q to → P) → (IsFailed shelf lost from q to → P) → IsAppended shelf lost from r sectors q to → P
  appended f g (inl d) = f d
  appended f g (inr x) = g x

  appended_behind : {P : Type 0} → ((mid : Point) → IsCheckpointed shelf from mid → DropsOnlyLost lost from.boot mid.boot → IsDone lost mid r sectors q to → P) → (IsRefused refusals.Memory from q to → P) → (IsFailed shelf lost from q to → P)
      → IsAppendedBehind shelf lost from r sectors q to → P
  appended_behind f g h (inl (mid, c, drops, d)) = f mid c drops d
  appended_behind f g h (inr (inl m)) = g m
  appended_behind f g h (inr (inr x)) = h x

-- how a checkpoint or a merge ends that there was room for
step_ends : (shelf : Geometry) (lost : Device → Bool) (from to : Point) (q : Answer) {made P : Type 0} → (made → P) → (IsRefused refusals.Memory from q to → P) → (IsFailed shelf lost from q to → P)
    → (made ⊎ IsRefused refusals.Memory from q to ⊎ IsFailed shelf lost from q to) → P
step_ends shelf lost from to q f g h (inl d) = f d
step_ends shelf lost from to q f g h (inr (inl m)) = g m
step_ends shelf lost from to q f g h (inr (inr x)) = h x

-- a flattening
flattening_ends : (shelf : Geometry) (lost : Device → Bool) (n : List ℕ) (from to : Point) (q : Answer) {P : Type 0} → (IsFlattened shelf lost n from q to → P) → (IsRefused refusals.Memory from q to → P) → (IsFailed shelf lost from q to → P)
    → IsFlattened shelf lost n from q to ⊎ (MustClear n from × (IsRefused refusals.Memory from q to ⊎ IsFailed shelf lost from q to)) → P
flattening_ends shelf lost n from to q f g h (inl d) = f d
flattening_ends shelf lost n from to q f g h (inr (must, inl m)) = g m
flattening_ends shelf lost n from to q f g h (inr (must, inr x)) = h x

-- a logged request
module _ (shelf : Geometry) (lost : Device → Bool) (from to : Point) (r : Request) (sectors : List (List ℕ)) (q : Answer) (none : refusal from.array r ≡ None) (is : IsModelled r) where
  done_behind : (mid : Point) → IsCheckpointed shelf from mid → DropsOnlyLost lost from.boot mid.boot → IsDone lost mid r sectors q to → Step from.array (Asked r sectors) q to.array
  done_behind mid c drops d = grind (arith, nat_tests, same_array, modelled, given, done)

  logged : IsLogged shelf lost from r sectors q to → Step from.array (Asked r sectors) q to.array
  logged h =
      room_for r from to q (physical from to refusals.Limit r sectors q none tt) (physical from to refusals.Spent r sectors q none tt) (physical from to refusals.Space r sectors q none tt)
      (either (is_full from)
      (appended_behind shelf lost from to r sectors q done_behind (physical from to refusals.Memory r sectors q none tt) (failed shelf lost from to r sectors q none))
      (appended shelf lost from to r sectors q (λ d. modelled from to r sectors q none is d.reply d.array) (failed shelf lost from to r sectors q none))) h

-- a checkpoint leaves the array
flushed_at : (shelf : Geometry) (lost : Device → Bool) (from to : Point) (sectors : List (List ℕ)) (q : Answer) → refusal from.array request.Checkpoint ≡ None → IsFlushed shelf lost from q to → Step from.array (Asked request.Checkpoint sectors) q to.array
flushed_at shelf lost from to sectors q none h = rw h.reply (inr ((none, tt), h.stays.array ∙ same_array h.made))

flushing : (shelf : Geometry) (lost : Device → Bool) (from to : Point) (sectors : List (List ℕ)) (q : Answer) → refusal from.array request.Checkpoint ≡ None → IsFlushing shelf lost from q to → Step from.array (Asked request.Checkpoint sectors) q to.array
flushing shelf lost from to sectors q none h = grind (arith, nat_tests, in_room, physical, step_ends, flushed_at, failed)

-- and so does a merge
merged_at : (shelf : Geometry) (lost : Device → Bool) (t : Table) (i : ℕ) (from to : Point) (sectors : List (List ℕ)) (q : Answer) → refusal from.array (request.Merge t i) ≡ None → IsMergeDone shelf lost t i from q to → Step from.array (Asked (request.Merge t i) sectors) q to.array
merged_at shelf lost t i from to sectors q none h = rw h.reply (inr ((none, tt), h.stays.array ∙ ap (λ (p : Point). p.array) h.made.same))

merging : (shelf : Geometry) (lost : Device → Bool) (t : Table) (i : ℕ) (from to : Point) (sectors : List (List ℕ)) (q : Answer) → refusal from.array (request.Merge t i) ≡ None → IsMerging shelf lost from t i q to
    → Step from.array (Asked (request.Merge t i) sectors) q to.array
merging shelf lost t i from to sectors q none h = grind (arith, nat_tests, in_pair, physical, step_ends, merged_at, failed)

-- a flattening leaves it, whether a checkpoint came first or not
cleared_array : (shelf : Geometry) (medium : ℕ) (from mid : Point) → IsClearedFor shelf medium from mid → mid.array ≡ from.array
cleared_array shelf medium from mid (inl (fits, is)) = ap (λ (p : Point). p.array) is
cleared_array shelf medium from mid (inr (passes, made)) = same_array made

pub flattened_array : {shelf : Geometry} {lost : Device → Bool} {n : List ℕ} {from to : Point} {q : Answer} → IsFlattened shelf lost n from q to → to.array ≡ from.array
flattened_array {shelf} {lost} {n} {from} h = h.stays.array ∙ ap (λ (p : Point). p.array) h.same ∙ cleared_array shelf h.medium from h.cleared h.first

flat_reply : (n : List ℕ) (said : Reply) (medium : ℕ) (was now : Memory) (before after : ℕ) → FlattensTo said medium was now before after → IsStepReply (request.Flatten n) said
flat_reply n reply.Done medium was now before after h = tt
flat_reply n reply.Left medium was now before after h = tt
flat_reply n reply.Idle medium was now before after h = tt
flat_reply n _ medium was now before after h = absurd h.1

flattened_at : (shelf : Geometry) (lost : Device → Bool) (n : List ℕ) (from to : Point) (sectors : List (List ℕ)) (q : Answer) → refusal from.array (request.Flatten n) ≡ None → IsFlattened shelf lost n from q to
    → Step from.array (Asked (request.Flatten n) sectors) q to.array
flattened_at shelf lost n from to sectors q none h = rw h.reply (inr (other h.said (flat_reply n h.said h.medium h.cleared.memory h.mid.memory h.cleared.background h.mid.background h.flat), flattened_array h))
  where
    other : (said : Reply) → IsStepReply (request.Flatten n) said → IsOther from.array (Asked (request.Flatten n) sectors) (Line said)
    other reply.Done is = (none, is)
    other reply.Left is = (none, is)
    other reply.Idle is = (none, is)
    other _ is = absurd is

flattening : (shelf : Geometry) (lost : Device → Bool) (n : List ℕ) (from to : Point) (sectors : List (List ℕ)) (q : Answer) → refusal from.array (request.Flatten n) ≡ None → IsFlattening shelf lost from n q to
    → Step from.array (Asked (request.Flatten n) sectors) q to.array
flattening shelf lost n from to sectors q none h =
    let r = request.Flatten n in
    in_room LIMITED_SEGMENTS FLATTEN_GROUPS from to q (physical from to refusals.Limit r sectors q none tt) (physical from to refusals.Spent r sectors q none tt) (physical from to refusals.Space r sectors q none tt)
    (flattening_ends shelf lost n from to q (flattened_at shelf lost n from to sectors q none) (physical from to refusals.Memory r sectors q none tt) (failed shelf lost from to r sectors q none)) h

accepted : (shelf : Geometry) (fails lost : Device → Bool) (from to : Point) (r : Request) (sectors : List (List ℕ)) (q : Answer) → refusal from.array r ≡ None
    → AnswersAccepted true shelf fails lost from r sectors q to → Step from.array (Asked r sectors) q to.array
accepted shelf fails lost from to (request.Create n size) sectors q none h = logged shelf lost from to (request.Create n size) sectors q none tt h
accepted shelf fails lost from to (request.Write n lba count) sectors q none h = logged shelf lost from to (request.Write n lba count) sectors q none tt h
accepted shelf fails lost from to (request.Fill n lba count byte) sectors q none h = logged shelf lost from to (request.Fill n lba count byte) sectors q none tt h
accepted shelf fails lost from to (request.Zero n lba count) sectors q none h = logged shelf lost from to (request.Zero n lba count) sectors q none tt h
accepted shelf fails lost from to (request.Snapshot n new) sectors q none h = logged shelf lost from to (request.Snapshot n new) sectors q none tt h
accepted shelf fails lost from to (request.Clone n new) sectors q none h = logged shelf lost from to (request.Clone n new) sectors q none tt h
accepted shelf fails lost from to (request.Copy n lba m at count) sectors q none h = logged shelf lost from to (request.Copy n lba m at count) sectors q none tt h
accepted shelf fails lost from to (request.Destroy n) sectors q none h = logged shelf lost from to (request.Destroy n) sectors q none tt h
accepted shelf fails lost from to (request.Read n lba count) sectors q none (inl d) = modelled from to (request.Read n lba count) sectors q none tt (d.known refl) d.stays.array
accepted shelf fails lost from to (request.Read n lba count) sectors q none (inr gone) = physical from to refusals.Device (request.Read n lba count) sectors q none tt gone.refused_so
accepted shelf fails lost from to request.List sectors q none h = modelled from to request.List sectors q none tt h.reply h.stays.array
accepted shelf fails lost from to request.Status sectors q none h = rw h.reply (inr ((none, refl), h.stays.array))
accepted shelf fails lost from to request.Checkpoint sectors q none h = flushing shelf lost from to sectors q none h
accepted shelf fails lost from to (request.Merge t i) sectors q none h = merging shelf lost t i from to sectors q none h
accepted shelf fails lost from to (request.Flatten n) sectors q none h = flattening shelf lost n from to sectors q none h
accepted shelf fails lost from to _ sectors q none h = absurd h

requested : (halted : Bool) (why : Option Refusal) (shelf : Geometry) (fails lost : Device → Bool) (from to : Point) (r : Request) (sectors : List (List ℕ)) (q : Answer)
    → refusal from.array r ≡ why → AnswersRequest halted why true shelf fails lost from r sectors q to → Step from.array (Asked r sectors) q to.array
requested true why shelf fails lost from to r sectors q is h = barred from to refusals.Halted r sectors q tt h
requested false (Some why) shelf fails lost from to r sectors q is h = by_model from to why r sectors q is h
requested false None shelf fails lost from to r sectors q is h = accepted shelf fails lost from to r sectors q is h

lawful : (shelf : Geometry) (fails lost : Device → Bool) (from to : Point) (item : Item) (q : Answer) → Answers true shelf fails lost from item q to → Step from.array item q to.array
lawful shelf fails lost from to (Asked r sectors) q h = requested from.halted (refusal from.array r) shelf fails lost from to r sectors q refl h
lawful shelf fails lost from to _ q h = inl (tt, h.reply, h.stays.array)

module _ (left : Stop → Type 0) where
  pub fares_run : FaresRun left
  fares_run shelf from to items [] run = ap (λ (p : Point). p.array) run
  fares_run shelf from to [] (q ∷ qs) run = absurd run
  fares_run shelf from to (item ∷ items) (q ∷ qs) run =
      (run.0.array, lawful shelf (has_failed from.stop run.0.stop) (has_lost_writes from.stop run.0.stop) from run.0 item q run.1.answers, fares_run shelf run.0 to items qs run.2)

-- ---- counts

later_then : {a b c : Stop} → IsLater a b → IsLater b c → IsLater a c
later_then {a} {b} {c} f g = record { faults = λ d. omega (arith, f.faults d, g.faults d); write_faults = λ d. omega (arith, f.write_faults d, g.write_faults d) }

-- ---- members

module _ (left : Stop → Type 0) where
  fares_later : (told : Bool) (shelf : Geometry) (from to : Point) (items : List Item) (qs : List Answer) → Fares told shelf left from items qs to → IsLater from.stop to.stop
  fares_later told shelf from to items [] run = record { faults = λ d. omega (arith, ap (λ (p : Point). p.stop.faults d) run); write_faults = λ d. omega (arith, ap (λ (p : Point). p.stop.write_faults d) run) }
  fares_later told shelf from to [] (q ∷ qs) run = absurd run
  fares_later told shelf from to (item ∷ items) (q ∷ qs) run = later_then run.1.later (fares_later told shelf run.0 to items qs run.2)

same_members : {lost : Device → Bool} {before now : BootRecord} → now ≡ before → DropsOnlyLost lost before now
same_members e = record { leaves = λ d h. inl (subst (λ (b : BootRecord). names b d ≡ true) (sym e) h); joins = λ d h. subst (λ (b : BootRecord). names b d ≡ true) e h }

-- one record after another
drops_then : {first second both : Device → Bool} {before mid now : BootRecord} → ((d : Device) → first d ≡ true → both d ≡ true) → ((d : Device) → second d ≡ true → both d ≡ true)
    → DropsOnlyLost first before mid → DropsOnlyLost second mid now → DropsOnlyLost both before now
drops_then {first} {second} {both} f g one two = grind (arith, nat_tests)

-- the same patches elide the same
same_elided : {was now : List (List AnyFact)} → now ≡ was → (t : Table) (id : ℕ) → is_elided (all_facts was).elisions t id ≡ true → is_elided (all_facts now).elisions t id ≡ true
same_elided e t id h = subst (λ (ps : List (List AnyFact)). is_elided (all_facts ps).elisions t id ≡ true) (sym e) h

elided_by : {was now : Memory} → now ≡ was → (t : Table) (id : ℕ) → is_elided (all_facts (patches was.tables)).elisions t id ≡ true → is_elided (all_facts (patches now.tables)).elisions t id ≡ true
elided_by e t id h = same_elided (ap (λ (m : Memory). patches m.tables) e) t id h

-- and no fact goes by a checkpoint, or none that elides by a merge
flushed_elided : {shelf : Geometry} {from mid : Point} → IsCheckpointed shelf from mid → StayElided from mid
flushed_elided {shelf} {from} {mid} c t id h =
    subst (λ (es : List ElisionFact). is_elided es t id ≡ true) (sym c.go_on.elisions.1) (any_append_left (elides t id) (all_facts (patches_at from)).elisions c.go_on.elisions.0 h)

merged_elided : {shelf : Geometry} {t : Table} {i : ℕ} {from mid : Point} → IsMerged shelf t i from mid → StayElided from mid
merged_elided m t id h = m.says.same_elided t id ∙ h

-- halted now, and by what; who left the record, and what it elides
record Came (shelf : Geometry) (lost : Device → Bool) (from to : Point) : Type 0 where
  elided : StayElided from to
  members : DropsOnlyLost lost from.boot to.boot
  halted : (to.halted ≡ from.halted) ⊎ (¬ (IsBearable shelf (losing lost (named_sound from.boot))))

refused_came : {shelf : Geometry} {lost : Device → Bool} {why : Refusal} {from to : Point} {q : Answer} → IsRefused why from q to → Came shelf lost from to
refused_came s = record { elided = elided_by s.stays.memory; members = same_members s.stays.boot; halted = inl s.halted }

failed_came : {shelf : Geometry} {lost : Device → Bool} {from to : Point} {q : Answer} → IsFailed shelf lost from q to → Came shelf lost from to
failed_came f = record { elided = elided_by f.stays.memory; members = same_members f.stays.boot; halted = inr f.unborne }

logged_came : (shelf : Geometry) (lost : Device → Bool) (from to : Point) (r : Request) (sectors : List (List ℕ)) (q : Answer) → IsLogged shelf lost from r sectors q to → Came shelf lost from to
logged_came shelf lost from to r sectors q h =
    room_for r from to q refused_came refused_came refused_came
    (either (is_full from)
    (appended_behind shelf lost from to r sectors q (λ mid c drops d. record { elided = λ t id e. same_elided d.patches t id (flushed_elided c t id e); members = drops_then (λ x y. y) (λ x y. y) drops d.members; halted = inl (d.halted ∙ same_halted c) }) refused_came failed_came)
    (appended shelf lost from to r sectors q (λ d. record { elided = same_elided d.patches; members = d.members; halted = inl d.halted }) failed_came)) h

flushing_came : (shelf : Geometry) (lost : Device → Bool) (from to : Point) (q : Answer) → IsFlushing shelf lost from q to → Came shelf lost from to
flushing_came shelf lost from to q h =
    in_room SEGMENTS_END CHECKPOINT_GROUPS from to q refused_came refused_came refused_came
    (step_ends shelf lost from to q (λ f. record { elided = λ t id e. elided_by f.stays.memory t id (flushed_elided f.made t id e); members = drops_then (λ x y. y) (λ x y. y) f.members (same_members f.stays.boot); halted = inl f.halted }) refused_came failed_came) h

merging_came : (shelf : Geometry) (lost : Device → Bool) (t : Table) (i : ℕ) (from to : Point) (q : Answer) → IsMerging shelf lost from t i q to → Came shelf lost from to
merging_came shelf lost t i from to q h =
    in_pair t i from to q refused_came refused_came refused_came
    (step_ends shelf lost from to q (λ f. record { elided = λ s id e. elided_by f.stays.memory s id (merged_elided f.made s id e); members = drops_then (λ x y. y) (λ x y. y) f.members (same_members f.stays.boot); halted = inl f.halted }) refused_came failed_came) h

-- nor where one comes before a flattening
cleared_elided : (shelf : Geometry) (medium : ℕ) (from mid : Point) → IsClearedFor shelf medium from mid → StayElided from mid
cleared_elided shelf medium from mid (inl (fits, is)) t id h = elided_by (ap (λ (p : Point). p.memory) is) t id h
cleared_elided shelf medium from mid (inr (passes, made)) t id h = flushed_elided made t id h

flattening_came : (shelf : Geometry) (lost : Device → Bool) (n : List ℕ) (from to : Point) (q : Answer) → IsFlattening shelf lost from n q to → Came shelf lost from to
flattening_came shelf lost n from to q h =
    in_room LIMITED_SEGMENTS FLATTEN_GROUPS from to q refused_came refused_came refused_came
    (flattening_ends shelf lost n from to q (λ f. record {
      elided = λ t id e. elided_by f.stays.memory t id (same_elided f.patches t id (cleared_elided shelf f.medium from f.cleared f.first t id e));
      members = drops_then (λ x y. y) (λ x y. y) f.members (same_members f.stays.boot);
      halted = inl f.halted;
    }) refused_came failed_came) h

accepted_came : (told : Bool) (shelf : Geometry) (fails lost : Device → Bool) (from to : Point) (r : Request) (sectors : List (List ℕ)) (q : Answer) → AnswersAccepted told shelf fails lost from r sectors q to → Came shelf lost from to
accepted_came told shelf fails lost from to (request.Create n size) sectors q h = logged_came shelf lost from to (request.Create n size) sectors q h
accepted_came told shelf fails lost from to (request.Write n lba count) sectors q h = logged_came shelf lost from to (request.Write n lba count) sectors q h
accepted_came told shelf fails lost from to (request.Fill n lba count byte) sectors q h = logged_came shelf lost from to (request.Fill n lba count byte) sectors q h
accepted_came told shelf fails lost from to (request.Zero n lba count) sectors q h = logged_came shelf lost from to (request.Zero n lba count) sectors q h
accepted_came told shelf fails lost from to (request.Snapshot n new) sectors q h = logged_came shelf lost from to (request.Snapshot n new) sectors q h
accepted_came told shelf fails lost from to (request.Clone n new) sectors q h = logged_came shelf lost from to (request.Clone n new) sectors q h
accepted_came told shelf fails lost from to (request.Copy n lba m at count) sectors q h = logged_came shelf lost from to (request.Copy n lba m at count) sectors q h
accepted_came told shelf fails lost from to (request.Destroy n) sectors q h = logged_came shelf lost from to (request.Destroy n) sectors q h
accepted_came told shelf fails lost from to (request.Read n lba count) sectors q (inl d) = record { elided = elided_by d.stays.memory; members = same_members d.stays.boot; halted = inl d.halted }
accepted_came told shelf fails lost from to (request.Read n lba count) sectors q (inr gone) = refused_came gone.refused_so
accepted_came told shelf fails lost from to request.Checkpoint sectors q h = flushing_came shelf lost from to q h
accepted_came told shelf fails lost from to (request.Merge t i) sectors q h = merging_came shelf lost t i from to q h
accepted_came told shelf fails lost from to (request.Flatten n) sectors q h = flattening_came shelf lost n from to q h
accepted_came told shelf fails lost from to request.List sectors q h = record { elided = elided_by h.stays.memory; members = same_members h.stays.boot; halted = inl h.halted }
accepted_came told shelf fails lost from to request.Status sectors q h = record { elided = elided_by h.stays.memory; members = same_members h.stays.boot; halted = inl h.halted }
accepted_came told shelf fails lost from to _ sectors q h = absurd h

request_came : (halted : Bool) (why : Option Refusal) (told : Bool) (shelf : Geometry) (fails lost : Device → Bool) (from to : Point) (r : Request) (sectors : List (List ℕ)) (q : Answer)
    → AnswersRequest halted why told shelf fails lost from r sectors q to → Came shelf lost from to
request_came true why told shelf fails lost from to r sectors q h = refused_came h
request_came false (Some why) told shelf fails lost from to r sectors q h = refused_came h
request_came false None told shelf fails lost from to r sectors q h = accepted_came told shelf fails lost from to r sectors q h

came : (told : Bool) (shelf : Geometry) (fails lost : Device → Bool) (from to : Point) (item : Item) (q : Answer) → Answers told shelf fails lost from item q to → Came shelf lost from to
came told shelf fails lost from to (Asked r sectors) q h = request_came from.halted (refusal from.array r) told shelf fails lost from to r sectors q h
came told shelf fails lost from to _ q h = refused_came h

-- the record drops none but devices that lost a write, and takes none in
pub members_kept : (told : Bool) (shelf : Geometry) (fails lost : Device → Bool) (from to : Point) (item : Item) (q : Answer) → Answers told shelf fails lost from item q to → DropsOnlyLost lost from.boot to.boot
members_kept told shelf fails lost from to item q h = (came told shelf fails lost from to item q h).members

-- a halted array stays so
pub asleep : (told : Bool) (shelf : Geometry) (fails lost : Device → Bool) (from to : Point) (item : Item) (q : Answer) → from.halted ≡ true → Answers told shelf fails lost from item q to → to.halted ≡ from.halted
asleep told shelf fails lost from to (Asked r sectors) q is h = (subst (λ (b : Bool). AnswersRequest b (refusal from.array r) told shelf fails lost from r sectors q to) is h).halted
asleep told shelf fails lost from to _ q is h = h.halted

-- ---- a run

-- a device by what the record names and what was lost
abbrev is_gone : Bool → Bool → Bool
is_gone named lost = is_missing (missing_if lost (if named then Sound else LeftOut))

-- what is missing by fewer that were lost is missing by more
more_lost : (less more named : Bool) → (less ≡ true → more ≡ true) → is_gone named less ≡ true → is_gone named more ≡ true
more_lost less more false f h = refl
more_lost false more true f h = absurd (cc h)
more_lost true more true f h = rw (f refl) refl

-- and what is missing by a later record was so before, or was lost
gone_before : (first second both was now : Bool) → (was ≡ true → (now ≡ true) ⊎ (first ≡ true)) → (first ≡ true → both ≡ true) → (second ≡ true → both ≡ true) → is_gone now second ≡ true → is_gone was both ≡ true
gone_before first second both false now leaves f g h = refl
gone_before first false both true true leaves f g h = absurd (cc h)
gone_before first true both true true leaves f g h = rw (g refl) refl
gone_before first second both true false leaves f g h = elim (leaves refl) [ inl e ↦ absurd (cc e) | inr lost ↦ rw (f lost) refl ]

module _ (left : Stop → Type 0) where
  pub elided_stays : ElidedStays left
  elided_stays told shelf from to items [] run t id h = subst (λ (p : Point). is_elided (all_facts (patches_at p)).elisions t id ≡ true) (sym run) h
  elided_stays told shelf from to [] (q ∷ qs) run t id h = absurd run
  elided_stays told shelf from to (item ∷ items) (q ∷ qs) run t id h =
      let mid = run.0 in
      elided_stays told shelf mid to items qs run.2 t id ((came told shelf (has_failed from.stop mid.stop) (has_lost_writes from.stop mid.stop) from mid item q run.1.answers).elided t id h)

  pub claims_have_causes : ClaimsHaveCauses left
  claims_have_causes told shelf from to items [] run = same_members (ap (λ (p : Point). p.boot) run)
  claims_have_causes told shelf from to [] (q ∷ qs) run = absurd run
  claims_have_causes told shelf from to (item ∷ items) (q ∷ qs) run =
      let mid = run.0 in
      let on = fares_later left told shelf mid to items qs run.2 in
      drops_then (λ d. rose_before _ _ _ (on.write_faults d)) (λ d. rose_since _ _ _ (run.1.later.write_faults d) (on.write_faults d))
      (came told shelf (has_failed from.stop mid.stop) (has_lost_writes from.stop mid.stop) from mid item q run.1.answers).members (claims_have_causes told shelf mid to items qs run.2)

  -- an array that isn't halted wasn't
  was_awake : (told : Bool) (shelf : Geometry) (from to : Point) (items : List Item) (qs : List Answer) → Fares told shelf left from items qs to → to.halted ≡ false → from.halted ≡ false
  was_awake told shelf from to items [] run awake = ap (λ (p : Point). p.halted) (sym run) ∙ awake
  was_awake told shelf from to [] (q ∷ qs) run awake = absurd run
  was_awake told shelf from to (item ∷ items) (q ∷ qs) run awake =
      let mid = run.0 in
      elim (cases_Bool from.halted) [
        | inl is ↦ absurd (cc (asleep told shelf _ _ from mid item q is run.1.answers, is, was_awake told shelf mid to items qs run.2 awake))
        | inr isn't ↦ isn't
      ]

  pub awake_is_borne : AwakeIsBorne left
  awake_is_borne told shelf from to items [] run borne awake = record {
    named = λ d h. ap (λ (p : Point). p.stop.write_faults d) run;
    borne = subst (λ (p : Point). IsBearable shelf (named_sound p.boot)) (sym run) borne;
  }
  awake_is_borne told shelf from to [] (q ∷ qs) run borne awake = absurd run
  awake_is_borne told shelf from to (item ∷ items) (q ∷ qs) run borne awake =
      let mid = run.0 in
      let before = run.1.kept (was_awake told shelf mid to items qs run.2 awake) in
      let behind = awake_is_borne told shelf mid to items qs run.2 before.borne awake in
      record {
        named = λ d h. behind.named d h ∙ before.named d ((claims_have_causes told shelf mid to items qs run.2).joins d h);
        borne = behind.borne;
      }

  pub halts_have_causes : HaltsHaveCauses left
  halts_have_causes told shelf from to items [] run awake asleep bearable = cc (ap (λ (p : Point). p.halted) run, awake, asleep)
  halts_have_causes told shelf from to [] (q ∷ qs) run awake asleep bearable = absurd run
  halts_have_causes told shelf from to (item ∷ items) (q ∷ qs) run awake asleep bearable =
      let mid = run.0 in
      let first = has_lost_writes from.stop mid.stop in
      let both = has_lost_writes from.stop to.stop in
      let on = fares_later left told shelf mid to items qs run.2 in
      let sooner = λ (d : Device). rose_before _ _ _ (on.write_faults d) in
      let later = λ (d : Device). rose_since _ _ _ (run.1.later.write_faults d) (on.write_faults d) in
      let c = came told shelf (has_failed from.stop mid.stop) first from mid item q run.1.answers in
      elim c.halted [
        | inl e ↦ halts_have_causes told shelf mid to items qs run.2 (e ∙ awake) asleep
            (borne_on shelf (now_missing mid to.stop) (now_missing from to.stop) (λ d is. gone_before (first d) (has_lost_writes mid.stop to.stop d) (both d) (names from.boot d) (names mid.boot d) (c.members.leaves d) (sooner d) (later d)) bearable)
        | inr unborne ↦ unborne (borne_on shelf (losing first (named_sound from.boot)) (now_missing from to.stop) (λ d is. more_lost (first d) (both d) (names from.boot d) (sooner d)) bearable)
      ]
