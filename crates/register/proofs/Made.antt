-- Which drives a store leaves, and which record it made, round after round.
use Rattle.register.proofs.Prelude.{nat_tests, ◌≡◌, inl, inr, ℕ, ◌+◌, ◌^◌, ◌<◌, ◌≤◌, List, ◌++◌, Bool, drop, length, take, refl, sym, ◌∙◌, ap, subst, arith, Result, Ok, Err, length-append, length-drop, RECORD_BYTES, BootRecord, set_count, IsRecordOf, Geometry, geometry_of, Shelved, Continues, IsMember, DroppedFailed, LosesOnlyFailed, StoreFault, Register, IsLaterRecord, IsRegisterOf, drives_of, next_record, DropsOnlyFailed, HasStored, HasStoredOnce, in_cut, put_back, at_most_slots, fewer_left, on_err, on_ok}
use Rattle.std.proofs.Math.Nat.{ℕ_set}
use Rattle.boot_region.proofs.Stored.{dropped_then, for_ok}
use Rattle.register.proofs.Rounds.{cut_left, same_shelf}

-- what is known of the room of its body is the same in each register
pub same_but_room : (r : Register) (room : length r.body.items ≡ RECORD_BYTES) → r ≡ record r { room = room }
same_but_room r room = λ k. record r { room = ℕ_set (length r.body.items) RECORD_BYTES r.room room k }

-- ---- the drives that are left

-- where no record was made
pub drops_none : {shelf : Shelved} {was now : Register} → now ≡ was → IsRegisterOf (geometry_of shelf) was → DropsOnlyFailed shelf shelf was now
drops_none {shelf} {was} {now} same is_of =
    subst (λ (r : Register). DropsOnlyFailed shelf shelf was r) (sym same) (record { fewer = λ i m. m; dropped = λ i m. inl m; unlost = λ i m. refl; flags = refl; is_of = is_of })

-- of those of the shelf these are left, and all other flags are as they were
pub drops_put : {old new : Shelved} {was now : Register} (members : List Bool) → Continues old new → IsRegisterOf (geometry_of old) was → now.record ≡ was.record → now.drives ≡ members ++ drop was.record.slots was.drives
    → length members ≡ was.record.slots → length was.drives ≡ 24 → LosesOnlyFailed old new (drives_of was) members → DropsOnlyFailed old new was now
drops_put {old} {new} {was} {now} members on is_of kept drives all flags loses =
    let few = is_of.lawful.lawful.slots.1 in
    let rest = length-drop was.record.slots was.drives in
    let both = length-append members (drop was.record.slots was.drives) in
    let cut : drives_of now ≡ members = ap (λ (b : BootRecord). take b.slots now.drives) kept ∙ ap (take was.record.slots) drives ∙ put_back was.record.slots members (drop was.record.slots was.drives) all in
    let among : (i : ℕ) → IsMember now.drives i → IsMember members i = λ i m. cut_left is_of members i all (subst (λ (l : List Bool). IsMember l i) drives m) in
    let fewer : (i : ℕ) → IsMember now.drives i → IsMember was.drives i = λ i m. in_cut was.drives was.record.slots i (loses.fewer i (among i m)) in
    record {
      fewer = fewer;
      dropped = subst (λ (l : List Bool). DroppedFailed old new (drives_of was) l) (sym cut) loses.dropped;
      unlost = λ i m. loses.unlost i (among i m);
      flags = ap length drives ∙ omega (arith, few, rest, both, all, flags);
      is_of = record {
        lawful = subst (λ (b : BootRecord). IsRecordOf (geometry_of new) b) (sym kept) (subst (λ (k : Geometry). IsRecordOf k was.record) (same_shelf on) is_of.lawful);
        named = λ i m. subst (λ (b : BootRecord). IsMember b.members.drives i) (sym kept) (is_of.named i (fewer i m));
      };
    }

-- one after another
pub drops_then : {a b c : Shelved} (r0 r1 r2 : Register) → Continues a b → Continues b c → DropsOnlyFailed a b r0 r1 → DropsOnlyFailed b c r1 r2 → DropsOnlyFailed a c r0 r2
drops_then {a} {b} {c} r0 r1 r2 ab bc first next = grind (arith, nat_tests, dropped_then)

-- ---- the record of one round

-- ---- the record of a store

later_by : (r : Result (Unit {0}) StoreFault) (nvrams : List Bool) (was now : Register) → HasStored r was.record nvrams was now → IsLaterRecord was.record now.record
later_by (Ok x) nvrams was now made = made.stored
later_by (Err e) nvrams was now made = elim made.kept [
  | inl same ↦ subst (λ (b : BootRecord). IsLaterRecord was.record b) (sym same.0) (record { generation = omega arith; rest = refl })
  | inr later ↦ later
]

-- with no other tables it is a later one, whatever is answered
pub store_later : {r : Result (Unit {0}) StoreFault} {nvrams : List Bool} {was now : Register} → HasStored r was.record nvrams was now → IsLaterRecord was.record now.record
store_later {r} {nvrams} {was} {now} made = later_by r nvrams was now made

module _ (base : BootRecord) (nvrams : List Bool) (was : Register) (numbered : base.generation ≡ was.record.generation) (slots : base.slots ≡ was.record.slots) where
  module _ (mid : Register) (is : mid.record ≡ next_record base was.drives nvrams) where
    generation : mid.record.generation ≡ was.record.generation + 1
    generation = let e : mid.record.generation ≡ base.generation + 1 = ap (λ (b : BootRecord). b.generation) is in omega (arith, e, numbered)

    size : mid.record.slots ≡ was.record.slots
    size = ap (λ (b : BootRecord). b.slots) is ∙ slots

    later_base : IsLaterRecord base mid.record
    later_base = subst (λ (b : BootRecord). IsLaterRecord base b) (sym is) (record { generation = omega arith; rest = refl })

  -- the first round failed

  -- after the first round it is on all drives that it names
  pub first_is_on_all : (u v : Unit {0}) (now : Register) → HasStoredOnce (Ok u) base nvrams was now → now.drives ≡ now.record.members.drives → now.record.generation < 2 ^ 48 → HasStored (Ok v) base nvrams was now
  first_is_on_all u v now once same low = grind (arith, nat_tests, set_count)

  module _ {a b : Shelved} (mid : Register) (u : Unit {0}) (once : HasStoredOnce (Ok u) base nvrams was mid) (left : DropsOnlyFailed a b was mid)
      (differs : mid.drives ≡ mid.record.members.drives → ⊥) where
    -- a drive was lost
    pub smaller : set_count mid.drives < set_count was.drives
    smaller = fewer_left was.drives mid.drives mid.record.members.drives left.flags left.fewer (ap (λ (b : BootRecord). b.members.drives) once.next) differs

    -- and the next ones went on from it
    pub then_stored : {shelf : Geometry} → IsRegisterOf shelf was → (r : Result (Unit {0}) StoreFault) (now : Register) → HasStored r mid.record nvrams mid now → HasStored r base nvrams was now
    then_stored {shelf} is_of r now made =
        let g = generation mid once.next in
        let s = size mid once.next in
        let less = smaller in
        let most = at_most_slots was is_of in
        let next : IsLaterRecord (next_record base was.drives nvrams) now.record = subst (λ (x : BootRecord). IsLaterRecord x now.record) once.next (store_later made) in
        let later : IsLaterRecord base now.record = record { generation = let le = next.generation in omega (arith, le); rest = next.rest } in
        record {
          stored = for_ok r later;
          kept = on_err r (λ _. inr later) made.kept;
          generation = on_ok r (λ both. (omega (arith, g, both.0), both.1)) made.generation;
          few = elim made.rounds [
            | inl same ↦ omega (arith, g, same)
            | inr le ↦ omega (arith, g, le, s, less, most)
          ];
          rounds = elim made.rounds [
            | inl same ↦ inr (omega (arith, g, same, once.enough))
            | inr le ↦ inr (omega (arith, g, le, s, less))
          ];
          members = made.members;
          enough = made.enough;
          stores = on_ok r (λ le. omega (arith, le, less, g)) made.stores;
          lost = on_err r (λ le. omega (arith, le, less, g)) made.lost;
          fault = made.fault;
        }

-- ---- the log
