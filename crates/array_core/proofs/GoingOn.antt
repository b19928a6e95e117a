-- An array that goes on goes on from there.
use Rattle.array_core.proofs.Prelude.{nat_tests, ◌≡◌, false, List, ◌++◌, sym, subst, arith, Device, Conditions, Geometry, Sound, IsBearable, Command, after_all, geometry_of, has_risen, Shelved, Stop, IsCountedBy, Continues, LeavesOnly, continues_trans, then_run, weaker, Contents, ReadsAs, IsStanding, not_risen, IsHolder, lost_by, lost_since, lost_twice, lost_twice_by, sound_since, Calls, Causes, GoesOnAt, Goes, GoesOnMeanwhile, Halts, Holds, ReadsOn}
use Rattle.pur_base.specs.Plain as plain
use Rattle.array_core.specs.declared.array.Array.{Array}
use Rattle.array_core.proofs.OnWay.{accepted_more, after_more, on_first, on_second}
use Rattle.array_core.proofs.HandingOn.{agrees_then, hands_on_then}
use Rattle.nvram_log.proofs.SettledEach.{both_leave}
use Rattle.register.proofs.Rounds.{same_shelf}

-- ---- the frame

counts_since : (old mid : Shelved) → Continues old mid → (stop : Stop) → IsCountedBy mid stop → IsCountedBy old stop
counts_since old mid on stop counts = grind (arith, nat_tests)

pub calls_then : {old mid new : Shelved} → Calls old mid → Calls mid new → Calls old new
calls_then {old} {mid} {new} first next = record {
  continues = continues_trans first.continues next.continues;
  counted = λ h. then_run first.continues (first.counted h) (weaker (λ stop c. counts_since old mid first.continues stop c) (next.counted (first.continues.honest h)));
}

-- ---- at every moment

module _ (why : Causes) (old mid new : Shelved) (a b : Array) (cs ds : List Command) (first : Goes why old mid a b cs) where
  abbrev on : Continues old mid
  on = first.ran.continues

  module _ (h : old.honest) (x : plain.Array) (holds : Holds old a x) where
    abbrev there : Holds mid b (after_all x cs)
    there = first.holds h x holds

    at_first : (stop : Stop) → GoesOnAt why old a.register.record x cs stop → GoesOnAt why old a.register.record x (cs ++ ds) stop
    at_first stop at now agrees borne =
        let here = at now agrees borne in
        record { arrays = here.arrays; each = λ y has. on_first x cs ds y (here.each y has); standing = here.standing }

    -- what the second part says of its own beginning, it says of the first one's
    at_second : (stop : Stop) → IsCountedBy mid stop → GoesOnAt why mid b.register.record (after_all x cs) ds stop → GoesOnAt why old a.register.record x (cs ++ ds) stop
    at_second stop counts at now agrees borne =
        let same : lost_by mid stop (lost_since old mid now) ≡ lost_by old stop now = lost_twice_by now on counts in
        let shelf : geometry_of old ≡ geometry_of mid = same_shelf on in
        let here = at (lost_since old mid now) (agrees_then why old mid a b holds.held there.held holds.ready there.ready first.hands_on now agrees)
        (subst (λ (c : Conditions). IsBearable (geometry_of mid) c) (sym same) (subst (λ (g : Geometry). IsBearable g (lost_by old stop now)) shelf borne)) in
        record {
          arrays = here.arrays;
          each = λ y has. on_second x cs ds y (here.each y has);
          standing = subst (λ (g : Geometry). IsStanding g stop.image (lost_by old stop now) here.arrays) (sym shelf)
              (subst (λ (c : Conditions). IsStanding (geometry_of mid) stop.image c here.arrays) same here.standing);
        }

    moments : Calls mid new → GoesOnMeanwhile why mid new b ds → LeavesOnly old new (GoesOnAt why old a.register.record x (cs ++ ds))
    moments ran next = then_run on (weaker at_first (first.any_moment h x holds))
        (weaker (λ stop both_are. at_second stop both_are.1 both_are.0) (both_leave (next (on.honest h) (after_all x cs) there) (ran.counted (on.honest h))))

  pub meanwhile : Calls mid new → GoesOnMeanwhile why mid new b ds → GoesOnMeanwhile why old new a (cs ++ ds)
  meanwhile ran next h x holds = moments h x holds ran next

-- ---- it goes on

module _ (why : Causes) (old mid new : Shelved) (a b c : Array) (cs ds : List Command) (first : Goes why old mid a b cs) (next : Goes why mid new b c ds) where
  reads_on : (contents : Contents) (x : plain.Array) → ReadsAs contents a.memory.memory x → ReadsOn old new a c contents (after_all x (cs ++ ds))
  reads_on contents x reads =
      let one = first.reads contents x reads in
      let two = next.reads one.more (after_all x cs) one.reads in
      record {
        more = two.more;
        reads = subst (λ (y : plain.Array). ReadsAs two.more c.memory.memory y) (sym (after_more x cs ds)) two.reads;
        hold = λ h was. two.hold (first.ran.continues.honest h) (one.hold h was);
      }

  holds_on : old.honest → (x : plain.Array) → Holds old a x → Holds new c (after_all x (cs ++ ds))
  holds_on h x holds = subst (λ (y : plain.Array). Holds new c y) (sym (after_more x cs ds)) (next.holds (first.ran.continues.honest h) (after_all x cs) (first.holds h x holds))

  pub goes_then : Goes why old new a c (cs ++ ds)
  goes_then = record {
    ran = calls_then first.ran next.ran;
    is_of = next.is_of;
    hands_on = hands_on_then why old mid new a b c first.ran.continues next.ran.continues first.hands_on next.hands_on;
    accepted = λ contents x reads. let one = first.reads contents x reads in accepted_more x cs ds (first.accepted contents x reads) (next.accepted one.more (after_all x cs) one.reads);
    reads = reads_on;
    holds = holds_on;
    any_moment = meanwhile why old mid new a b cs ds first next.ran next.any_moment;
  }

-- ---- it halts on the way

module _ (why : Causes) (old mid new : Shelved) (a b : Array) (cs ds : List Command) (first : Goes why old mid a b cs) (next : Halts why mid new b ds) where
  still_holds : (now : Conditions) → ((d : Device) → now d ≡ Sound → IsHolder a d × (why.gone d ≡ false)) → (d : Device) → lost_since old mid now d ≡ Sound → IsHolder b d × (why.gone d ≡ false)
  still_holds now holders d e = grind (arith, nat_tests, sound_since, has_risen, not_risen)

  pub goes_and_halts : Halts why old new a (cs ++ ds)
  goes_and_halts = record {
    ran = calls_then first.ran next.ran;
    unborne = λ now holders bears. next.unborne (lost_since old mid now) (still_holds now holders)
        (subst (λ (x : Conditions). IsBearable (geometry_of mid) x) (sym (lost_twice now first.ran.continues next.ran.continues))
        (subst (λ (g : Geometry). IsBearable g (lost_since old new now)) (same_shelf first.ran.continues) bears));
    any_moment = meanwhile why old mid new a b cs ds first next.ran next.any_moment;
  }

-- commands that weren't begun
pub halts_for_more : (why : Causes) (old new : Shelved) (a : Array) (cs ds : List Command) → Halts why old new a cs → Halts why old new a (cs ++ ds)
halts_for_more why old new a cs ds halts = record {
  ran = halts.ran;
  unborne = halts.unborne;
  any_moment = λ h x holds. weaker (λ stop at now agrees borne.
      let here = at now agrees borne in
      record { arrays = here.arrays; each = λ y has. on_first x cs ds y (here.each y has); standing = here.standing }) (halts.any_moment h x holds);
}
