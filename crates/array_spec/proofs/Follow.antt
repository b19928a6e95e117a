-- The record that a checkpoint stores is read into the array of the log, and follows on from the record in force.
use Rattle.array_spec.proofs.Prelude.{nat_tests, ◌≡◌, ℕ, zero, suc, ◌≤◌, List, [], ◌∷◌, length, take, refl, sym, ap, subst, ◌∙◌, arith, inl, Option, Some, None, Contains, Geometry, Image, View, Condition, Conditions, Sound, Missing, LeftOut, MayBecome, MayShowAs, IsBearable, Array, Command, after_all, AnyFact, BootSlot, IsRecordOf, of_members, BootRecord, HoldsBase, IsInForce, Stands, MayBeGiven, IsReadInto, IsViewOf, FollowsOn, HasNoLog, between, CheckpointFollows, IsCheckpointOf, IsMergeOf, MergeFollows, ShowsNone, held_in, record_is_read, one_base}
use Rattle.array_spec.specs.Unflushed.{LogLies, NamesSound}
use Rattle.array_spec.specs.Held.{TablesHold, NamesNoneLeftOut}

-- a device left out shows nothing, and the others what they have
show_as : Condition → List ℕ → Option (List ℕ)
show_as Sound bytes = Some bytes
show_as Missing bytes = Some bytes
show_as LeftOut bytes = None

may_show_as : (c : Condition) (bytes : List ℕ) → MayShowAs c bytes (show_as c bytes)
unfolding show_as
may_show_as Sound bytes = refl
may_show_as Missing bytes = inl refl
may_show_as LeftOut bytes = tt

stays : (c : Condition) → MayBecome c c
stays Sound = inl refl
stays Missing = refl
stays LeftOut = refl

as_they_are : Image → Conditions → View
as_they_are image missing d = show_as (missing d) (image d)

is_view : (shelf : Geometry) (image : Image) (missing : Conditions) → IsBearable shelf missing → IsViewOf shelf image missing missing (as_they_are image missing)
unfolding as_they_are
is_view shelf image missing bearable = record { within = λ d. stays (missing d); bearable = bearable; shown = λ d. may_show_as (missing d) (image d) }

-- no command is none
none_left : (log : List Command) → length log ≡ 0 → log ≡ []
none_left [] e = refl
none_left (c ∷ cs) e = absurd (omega (arith, e))

-- ---- the record that alone may be given

module _ (shelf : Geometry) (old : Image) (missing : Conditions) (slot : BootSlot) (boot : BootRecord) (patches : List (List AnyFact)) (base : Array) (arrays : List Array)
    (sound : NamesSound shelf old missing slot boot) (left : NamesNoneLeftOut missing boot) (tables : TablesHold shelf old slot boot patches base)
    (alone : (slot3 : BootSlot) (boot3 : BootRecord) → MayBeGiven shelf old missing slot3 boot3 → (slot3 ≡ slot) × (boot3 ≡ boot)) (s : Stands shelf old missing arrays)
    (slot3 : BootSlot) (boot3 : BootRecord) (g : MayBeGiven shelf old missing slot3 boot3) where
  it_is : (slot3 ≡ slot) × (boot3 ≡ boot)
  it_is = alone slot3 boot3 g

  given_flushed : boot3.flushed ≡ boot.flushed
  given_flushed = ap (λ (b : BootRecord). b.flushed) it_is.1

  given_generation : boot3.generation ≡ boot.generation
  given_generation = ap (λ (b : BootRecord). b.generation) it_is.1

  given_base : (s.reads slot3 boot3 g).base ≡ base
  given_base =
      let v = is_view shelf old missing s.bearable in
      let there : HoldsBase shelf (of_members slot3 boot3 (as_they_are old missing)) boot3 (s.reads slot3 boot3 g).base = ((s.reads slot3 boot3 g).each missing (as_they_are old missing) v).holds in
      let here : HoldsBase shelf (of_members slot boot (as_they_are old missing)) boot (s.reads slot3 boot3 g).base =
      subst (λ (b : BootRecord). HoldsBase shelf (of_members slot b (as_they_are old missing)) b (s.reads slot3 boot3 g).base) it_is.1
      (subst (λ (t : BootSlot). HoldsBase shelf (of_members t boot3 (as_they_are old missing)) boot3 (s.reads slot3 boot3 g).base) it_is.0 there) in
      one_base shelf (of_members slot boot (as_they_are old missing)) boot (s.reads slot3 boot3 g).base base here (held_in shelf old missing slot boot patches base sound left tables missing (as_they_are old missing) v)

-- ---- a checkpoint

module _ (shelf : Geometry) (old new : Image) (missing later : Conditions) (slot slot2 : BootSlot) (boot next : BootRecord) (patches patches2 : List (List AnyFact)) (base after_it : Array) (log : List Command) (arrays : List Array)
    (is : IsCheckpointOf boot next base log after_it) (one_of : Contains arrays after_it)
    (lawful : IsRecordOf shelf next) (in_force : IsInForce slot2 next) (sound2 : NamesSound shelf new later slot2 next) (left2 : NamesNoneLeftOut later next) (tables2 : TablesHold shelf new slot2 next patches2 after_it)
    (none : ShowsNone new next)
    (sound : NamesSound shelf old missing slot boot) (left : NamesNoneLeftOut missing boot) (tables : TablesHold shelf old slot boot patches base)
    (alone : (slot3 : BootSlot) (boot3 : BootRecord) → MayBeGiven shelf old missing slot3 boot3 → (slot3 ≡ slot) × (boot3 ≡ boot)) (s : Stands shelf old missing arrays) where
  lies : LogLies new later next [] []
  lies = record {
    front = ([], refl);
    room = omega arith;
    lawful = λ i c at. cc at;
    all = λ n i c below shown at. cc at;
    no_other = λ n i c below named shown. absurd (none n i c below named shown);
    left_out = λ n below out. left2 _ out;
  }

  only : (n : ℕ) → 0 ≤ n → n ≤ 0 → Contains arrays (after_all after_it (take n []))
  only zero low high = one_of
  only (suc n) low high = absurd (omega (arith, high))

  read : (r : IsReadInto shelf new later slot2 next arrays) × (r.base ≡ after_it)
  read = record_is_read shelf new later slot2 next patches2 after_it [] [] arrays lawful in_force sound2 left2 tables2 tt lies only

  no_log : (more : Conditions) (view : View) → IsViewOf shelf new later more view → HasNoLog (of_members slot2 next view) next.flushed
  no_log more view v device i c shown =
      absurd (cc ((between shelf new later slot2 next [] [] lawful sound2 lies more view v).no_other device i c shown))

  module _ (slot3 : BootSlot) (boot3 : BootRecord) (g : MayBeGiven shelf old missing slot3 boot3) where
    flushed : boot3.flushed ≡ boot.flushed
    flushed = given_flushed shelf old missing slot boot patches base arrays sound left tables alone s slot3 boot3 g

    generation : boot3.generation ≡ boot.generation
    generation = given_generation shelf old missing slot boot patches base arrays sound left tables alone s slot3 boot3 g

    its_base : (s.reads slot3 boot3 g).base ≡ base
    its_base = given_base shelf old missing slot boot patches base arrays sound left tables alone s slot3 boot3 g

    -- where nothing was logged the array is the base
    same : length log ≡ 0 → after_it ≡ base
    same e = is.result ∙ ap (after_all base) (none_left log e)

    follows : FollowsOn shelf new later slot2 next boot3 read.0.base (s.reads slot3 boot3 g).base × FollowsOn shelf new later slot3 boot3 next (s.reads slot3 boot3 g).base read.0.base
    follows = (
      record {
        in_order = λ lt. omega (arith, flushed, is.flushed);
        same_base = λ e. read.1 ∙ same (omega (arith, e, flushed, is.flushed)) ∙ sym its_base;
        no_log = λ lt more view v. no_log more view v;
      },
      record {
        in_order = λ lt. absurd (omega (arith, lt, generation, is.generation));
        same_base = λ e. its_base ∙ sym (same (omega (arith, e, flushed, is.flushed))) ∙ sym read.1;
        no_log = λ lt more view v. absurd (omega (arith, lt, flushed, is.flushed));
      },
    )

pub checkpoint_follows : CheckpointFollows
checkpoint_follows shelf old new missing later slot slot2 boot next patches patches2 base after_it log arrays is one_of lawful in_force sound2 left2 tables2 none sound left tables alone s = (
  (read shelf old new missing later slot slot2 boot next patches patches2 base after_it log arrays is one_of lawful in_force sound2 left2 tables2 none sound left tables alone s).0,
  λ slot3 boot3 g. follows shelf old new missing later slot slot2 boot next patches patches2 base after_it log arrays is one_of lawful in_force sound2 left2 tables2 none sound left tables alone s slot3 boot3 g,
)

-- ---- a merge

module _ (shelf : Geometry) (old new : Image) (missing later : Conditions) (slot slot2 : BootSlot) (boot next : BootRecord) (patches patches2 : List (List AnyFact)) (base : Array) (arrays : List Array) (is : IsMergeOf boot next)
    (read : (r : IsReadInto shelf new later slot2 next arrays) × (r.base ≡ base))
    (sound : NamesSound shelf old missing slot boot) (left : NamesNoneLeftOut missing boot) (tables : TablesHold shelf old slot boot patches base)
    (alone : (slot3 : BootSlot) (boot3 : BootRecord) → MayBeGiven shelf old missing slot3 boot3 → (slot3 ≡ slot) × (boot3 ≡ boot)) (s : Stands shelf old missing arrays)
    (slot3 : BootSlot) (boot3 : BootRecord) (g : MayBeGiven shelf old missing slot3 boot3) where
  same_flushed : boot3.flushed ≡ next.flushed
  same_flushed = given_flushed shelf old missing slot boot patches base arrays sound left tables alone s slot3 boot3 g ∙ sym is.flushed

  same_base : read.0.base ≡ (s.reads slot3 boot3 g).base
  same_base = read.1 ∙ sym (given_base shelf old missing slot boot patches base arrays sound left tables alone s slot3 boot3 g)

  merge_goes_on : FollowsOn shelf new later slot2 next boot3 read.0.base (s.reads slot3 boot3 g).base × FollowsOn shelf new later slot3 boot3 next (s.reads slot3 boot3 g).base read.0.base
  merge_goes_on = grind (arith, nat_tests, given_generation, same_flushed, same_base, no_log)

pub merge_follows : MergeFollows
merge_follows shelf old new missing later slot slot2 boot next patches patches2 base least most arrays is lawful in_force sound2 left2 tables2 accepted lies fronts sound left tables alone s =
    let read = record_is_read shelf new later slot2 next patches2 base least most arrays lawful in_force sound2 left2 tables2 accepted lies fronts in
    (read.0, λ slot3 boot3 g. merge_goes_on shelf old new missing later slot slot2 boot next patches patches2 base arrays is read sound left tables alone s slot3 boot3 g)
