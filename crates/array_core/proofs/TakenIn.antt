-- An array that took something into memory without a command goes on, and so does one that nothing was done to.
use Rattle.array_core.proofs.Prelude.{nat_tests, ◌≡◌, ◌∙◌, inl, ℕ, List, [], ◌∷◌, zero, suc, Contains, refl, sym, subst, arith, AllZip, Device, Command, AddressFact, AnyFact, MayLeave, MayStop, has_risen, geometry_of, Shelved, IsShelf, Stop, LeavesOnly, started, left_out_once, facts_of, facts, patches, IsNamed, continues_refl, Content, array_of, AreStored, AtMost, Kept, TakesOnly, with_more, Amounts, Background, IsArrayOf, IsReady, HasRoomFor, taken_behind, Calls, GoesOnAt, IsOnWay, by_faults, Goes, GoesOnMeanwhile, Holds, lost_by, sound_since}
use Rattle.pur_base.specs.Plain as plain
use Rattle.array_core.specs.declared.array.Array.{Array}
use Rattle.array_core.specs.TakingIn.{TakesIn}
use Rattle.array_core.proofs.Applied.{segments_sound, same_patches}
use Rattle.array_core.proofs.ReadyStands.{ready_stands_in}

-- ---- nothing is done

only_one : (x z y : plain.Array) (commands : List Command) → x ≡ z → Contains (z ∷ []) y → IsOnWay x commands y
only_one x z y commands is (zero, lt, e) = record { front = []; rest = commands; whole = refl; is = sym e ∙ sym is }
only_one x z y commands is (suc k, lt, e) = absurd (omega (arith, lt))

-- at a stop at which each device is as it was, but for what is dirty
module _ (old : Shelved) (a : Array) (x : plain.Array) (commands : List Command) (holds : Holds old a x) (stop : Stop) (device : (d : Device) → MayLeave (old.disk d) (stop.image d)) where
  abbrev as_now : Stop
  as_now = record { image = stop.image; faults = λ d. (old.disk d).faults; write_faults = λ d. (old.disk d).write_faults; output = old.output; taken = old.taken }

  may_now : MayStop old as_now
  may_now = record { device = device; counts = record { faults = λ d. omega arith; write_faults = λ d. omega arith }; output = refl; taken = refl }

  pub still_goes_on : GoesOnAt by_faults old a.register.record x commands stop
  still_goes_on now agrees borne = record {
    arrays = array_of holds.held ∷ [];
    each = λ y has. only_one x (array_of holds.held) y commands holds.is has;
    standing = ready_stands_in old a holds.held holds.ready (lost_by old stop now) (record {
      sound = λ d e. (agrees.sound d (sound_since (has_risen (old.disk d).write_faults (stop.write_faults d)) (now d) e).0).0;
      left_out = λ d e. (agrees.left_out d (left_out_once (has_risen (old.disk d).write_faults (stop.write_faults d)) (now d) e)).0;
    }) borne as_now may_now;
  }

-- while nothing is done
pub nothing_meanwhile : (old new : Shelved) → new ≡ old → IsShelf old → (a : Array) (commands : List Command) → GoesOnMeanwhile by_faults old new a commands
nothing_meanwhile old new same is a commands h x holds = subst (λ (s : Shelved). LeavesOnly old s (GoesOnAt by_faults old a.register.record x commands)) (sym same)
    (started old (GoesOnAt by_faults old a.register.record x commands) is (λ stop may. still_goes_on old a x commands holds stop may.device))

-- ---- something is taken in

-- room for commands is left as it was
room_behind : (was now : Kept) (logged : ℕ) (b c : Background) (amounts : Amounts) → HasRoomFor was logged b → TakesOnly was now amounts → AtMost (with_more (taken_behind b) amounts) (taken_behind c) → HasRoomFor now logged c
room_behind was now logged b c amounts room takes counted = record {
  capacity = grind (arith, nat_tests);
  names = grind (arith, nat_tests);
  ranges = grind (arith, nat_tests);
  taken = grind (arith, nat_tests);
  no_segments = takes.segments ∙ room.no_segments;
  only_objects = takes.elisions room.only_objects;
}

module _ (shelf : Shelved) (is : IsShelf shelf) (was now : Array) (of : IsArrayOf (geometry_of shelf) was) (t : TakesIn was now) where
  abbrev b : Array
  b = record was { memory = now.memory; background = now.background }

  same_tables : patches now.memory.memory.tables ≡ patches was.memory.memory.tables
  same_tables = same_patches was.memory.memory.tables now.memory.memory.tables t.patches

  still_of : IsArrayOf (geometry_of shelf) b
  still_of = record {
    of_shelf = of.of_shelf;
    flushed = of.flushed;
    some = of.some;
    sound = t.sound;
    layered = t.layered;
    stored = subst (λ (ps : List (List AddressFact)). AreStored (facts_of ps)) (sym t.patches.addresses) of.stored;
    named = subst (λ (ps : List (List AnyFact)). AllZip IsNamed was.register.record.patches ps) (sym same_tables) of.named;
    segments = segments_sound (geometry_of shelf) was.register.record was.register.record (facts was.memory.memory.tables) (facts now.memory.memory.tables) (record { generation = omega arith; rest = refl }) t.segments of.segments;
    room = room_behind was.memory now.memory was.log.count was.background now.background t.amounts of.room t.takes t.counted;
    rested = t.rested;
    segment_ids = t.segment_ids.segment ∙ of.segment_ids;
    patch_ids = t.segment_ids.patch_segment ∙ of.patch_ids;
  }

  still_ready : (held : Content) → IsReady shelf was held → IsReady shelf b held
  still_ready held ready = record {
    is_open = ready.is_open;
    held_log = ready.held_log;
    keeps = ready.keeps;
    flushed = ready.flushed;
    some = ready.some;
    patches_are = ready.patches_are ∙ sym same_tables;
    contents = ready.contents;
    reads = t.reads ready.contents (array_of held) ready.reads;
    hold = λ id index d there placed. ready.hold id index d (sym (t.segments id) ∙ there) placed;
  }

  calls_none : Calls shelf shelf
  calls_none = record { continues = continues_refl shelf; counted = λ h. started shelf _ is (λ stop may. may.counts) }

  goes_as : Goes by_faults shelf shelf was b []
  goes_as = record {
    ran = calls_none;
    is_of = still_of;
    hands_on = record {
      leaves = λ d holds. inl holds;
      holders = λ d holds. inl holds;
      named = λ d named. inl named;
      names_holders = λ h. h;
      unlost = λ d holds. inl refl;
      enough = λ h. h;
    };
    accepted = λ contents x reads. tt;
    reads = λ contents x reads. record {
      more = contents;
      reads = t.reads contents x reads;
      hold = λ h hold id index d there placed. hold id index d (sym (t.segments id) ∙ there) placed;
    };
    holds = λ h x holds. record { held = holds.held; ready = still_ready holds.held holds.ready; is = holds.is };
    any_moment = nothing_meanwhile shelf shelf refl is was [];
  }

  pub taken_in_goes : Goes by_faults shelf shelf was now []
  taken_in_goes = subst (λ (x : Array). Goes by_faults shelf shelf was x []) (sym t.rest) goes_as
