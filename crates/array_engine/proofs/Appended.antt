-- A logged request is done at once, or behind a checkpoint, and room stays known.
use Rattle.array_engine.proofs.Prelude.{◌≡◌, inl, inr, ℕ, ◌≤◌, Bool, true, false, [], ◌∷◌, Result, Ok, Err, OnOk, refl, sym, subst, arith, Command, Request, Geometry, BootRecord, Continues, Shelved, HasGroups, MayRise, Where, geometry_of, patches, is_removal, Array, IsArrayOf, by_faults, Goes, HasLogged, is_spent, risen_more, Room, HasFlushed, IsFull, IsLike, IsRoomOf, MayAdd, MayDo, MayFlush, MayRemove, IsRegisterOf, IsAppended, lost_in}
use Rattle.array_checkpoint.proofs.Like.{like_is}
use Rattle.array_engine.proofs.Named.{drops_none, drops_only_lost, risen_around, risen_itself}
use Rattle.register.proofs.Rounds.{same_shelf}

-- an array that differs in room in memory alone leaves the same room
pub like_room : (a b : Array) (r : Room) → IsLike a b → IsRoomOf a r → IsRoomOf b r
like_room a b r like is = subst (λ (x : Array). IsRoomOf x r) (sym (like_is a b like)) (record { segments = is.segments; groups = is.groups })

-- what is asked of a logged request leaves numbers, and room for a checkpoint where the log is full
pub unspent_of : (a : Array) (r : Request) → MayDo r a → is_spent a ≡ false
unspent_of a r m = of (is_removal r) m
  where
    of : (b : Bool) → Where b (MayRemove a) (MayAdd a) → is_spent a ≡ false
    of true m = m.unspent
    of false m = m.unspent

pub flush_of : (a : Array) (r : Request) → MayDo r a → IsFull a → MayFlush a
flush_of a r m full = of (is_removal r) m
  where
    of : (b : Bool) → Where b (MayRemove a) (MayAdd a) → MayFlush a
    of true m = m.behind full
    of false m =
        let few = m.unlimited in
        let many = m.enough in
        record { unlimited = omega (arith, few); unspent = m.unspent; groups = m.groups; left = m.left; enough = omega (arith, many) }

pub groups_of : (a : Array) → MayFlush a → (g : ℕ) → HasGroups a.register.record (patches a.memory.memory.tables) g → 12 ≤ g
groups_of a m g is =
    let most = is.greatest m.groups m.left.enough in
    let many = m.enough in
    omega (arith, most, many)

pub both_ok : {T E A B C : Type 0} (result : Result T E) → (A → B → C) → OnOk result A → OnOk result B → OnOk result C
both_ok (Ok x) f a b = f a b
both_ok (Err e) f a b = tt

module _ (old new : Shelved) (a b : Array) (c : Command) (room : MayDo c.request a) (is_of : IsRegisterOf (geometry_of old) a.register) where
  pub at_once : ¬ (IsFull a) → Goes by_faults old new a b (c ∷ []) → HasLogged old new a b c.request → IsAppended old new a b c
  at_once free goes logged = record {
    room = room;
    mid = a;
    cleared = inl (free, refl);
    before = λ contents x reads. (contents, reads);
    drops_before = λ before. drops_none (lost_in old new) a;
    drops = λ before. drops_only_lost (lost_in old new) old new a b (geometry_of old) (geometry_of new) is_of goes.is_of.of_shelf goes.hands_on before (λ d rose. risen_itself (old.disk d).write_faults (new.disk d).write_faults rose);
    logged = logged;
  }

  -- behind a checkpoint
  module _ (mid : Shelved) (m : Array) (on : Continues old mid) (after_it : Continues mid new) where
    rise_since : (before now : BootRecord) → MayRise (lost_in mid new) before now → MayRise (lost_in old new) before now
    rise_since before now (inl same) = inl same
    rise_since before now (inr (d, lost, rises, few, is)) =
        inr (d, risen_more (old.disk d).write_faults (mid.disk d).write_faults (new.disk d).write_faults (on.write_faults d) (after_it.write_faults d) lost, rises, few, is)

    pub behind : IsFull a → Goes by_faults old mid a m [] → HasFlushed a m → Goes by_faults mid new m b (c ∷ []) → HasLogged mid new m b c.request → IsAppended old new a b c
    behind full goes flushed goes_on logged = record {
      room = room;
      mid = m;
      cleared = inr (full, subst (λ (g : Geometry). IsArrayOf g m) (sym (same_shelf on)) goes.is_of, flushed);
      before = λ contents x reads. let now = goes.reads contents x reads in (now.more, now.reads);
      drops_before = λ before. drops_only_lost (lost_in old new) old mid a m (geometry_of old) (geometry_of mid) is_of goes.is_of.of_shelf goes.hands_on before
          (λ d rose. risen_around (old.disk d).write_faults (old.disk d).write_faults (mid.disk d).write_faults (new.disk d).write_faults (omega arith) (after_it.write_faults d) rose);
      drops = λ before. drops_only_lost (lost_in old new) mid new m b (geometry_of mid) (geometry_of new) goes.is_of.of_shelf goes_on.is_of.of_shelf goes_on.hands_on (goes.hands_on.names_holders before)
          (λ d rose. risen_around (old.disk d).write_faults (mid.disk d).write_faults (new.disk d).write_faults (new.disk d).write_faults (on.write_faults d) (omega arith) rose);
      logged = record { count = logged.count; next = logged.next; patches = logged.patches; background = logged.background; boot = rise_since m.register.record b.register.record logged.boot };
    }
