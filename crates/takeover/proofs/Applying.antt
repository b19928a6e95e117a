-- Commands that are applied one after another, and the sectors that they bring.
use Rattle.takeover.proofs.Prelude.{nat_tests, ◌≡◌, inl, inr, ◌≤◌, ℕ, zero, suc, ◌+◌, ◌*◌, ◌<◌, List, [], ◌∷◌, ◌++◌, length, take, drop, get_or, refl, sym, ◌∙◌, ap, subst, arith, false, Option, Some, None, is_some, slice_get, take_at, drop_at, drop-drop, AllByRecursion, concat, slice_get_within, slice_get_cases, IsBytesOf, bytes_at, Command, Accepts, AllAccepted, after, after_all, Array, segment, Request, IsCommand, NextNumbers, Contents, ReadsAs, HasSameSegmentIds, next_after, next_after_all, Tables, facts, command_of, HasRoomLeft, Kept, IsKept, HasNoLessRoom, HasSamePatches, with_rooms, IsLawful, HasRoomFor, nothing_behind, NvLog, HasRead, IsApplied, IsDone, IsReplayed}
use Rattle.array_core.proofs.Applied.{room_for_next, same_segments}

-- one of the sectors that stand one behind another
pub part_of : (sectors : List (List ℕ)) (k : ℕ) → k < length sectors → AllByRecursion (IsBytesOf 512) sectors → bytes_at (512 * k) 512 (concat sectors) ≡ get_or sectors k []
part_of [] k lt each = absurd (omega (arith, lt))
part_of (s ∷ ss) zero lt each = take_at s (concat ss) 512 each.0.0
part_of (s ∷ ss) (suc k) lt each =
    let e : 512 * suc k ≡ 512 + 512 * k = omega arith in
    let behind : drop (512 * suc k) (s ++ concat ss) ≡ drop (512 * k) (concat ss) =
    ap (λ (n : ℕ). drop n (s ++ concat ss)) e ∙ sym (drop-drop (512 * k) 512 (s ++ concat ss)) ∙ ap (drop (512 * k)) (drop_at s (concat ss) 512 each.0.0) in
    ap (take 512) behind ∙ part_of ss k (omega (arith, lt)) each.1

pub accept_more : (a : Array) (cs : List Command) (i : ℕ) (c : Command) → slice_get cs i ≡ Some c → AllAccepted a (take i cs) → Accepts (after_all a (take i cs)) c → AllAccepted a (take (suc i) cs)
accept_more a [] i c at all fine = absurd (cc at)
accept_more a (d ∷ ds) zero c at all fine = let same : c ≡ d = cc at in (subst (λ (x : Command). Accepts a x) same fine, tt)
accept_more a (d ∷ ds) (suc i) c at all fine = (all.0, accept_more (after a d) ds i c at all.1 fine)

pub after_more : (a : Array) (cs : List Command) (i : ℕ) (c : Command) → slice_get cs i ≡ Some c → after_all a (take (suc i) cs) ≡ after (after_all a (take i cs)) c
after_more a [] i c at = absurd (cc at)
after_more a (d ∷ ds) zero c at = let same : d ≡ c = cc at in ap (after a) same
after_more a (d ∷ ds) (suc i) c at = after_more (after a d) ds i c at

-- ---- in memory

-- a command that has a spelling is one that memory does
pub is_lawful : (r : Request) → IsCommand r → IsLawful r
is_lawful r h = grind (arith, nat_tests)

-- what isn't there
pub none_is : {A : Type 0} (o : Option A) → is_some o ≡ false → o ≡ None
none_is (Some x) e = absurd (cc e)
none_is None e = refl

-- no less room is enough for as many commands
pub room_stays : (was now : Kept) → HasNoLessRoom was now → now ≡ with_rooms was now → (logged : ℕ) → HasRoomFor was logged nothing_behind → HasRoomFor now logged nothing_behind
room_stays was now more same logged room = grind (arith, nat_tests)

-- A command was prepared and then done.
pub done_by : (was mid now : Kept) (c : Command) (r : Request) (sectors : List (List ℕ)) → IsKept was → IsKept now → HasNoLessRoom was mid → mid ≡ with_rooms was mid
    → ((contents : Contents) (a : Array) → ReadsAs contents was.memory a → Accepts a c)
    → ((contents : Contents) (a : Array) → ReadsAs contents was.memory a → ReadsAs contents mid.memory a)
    → ((contents : Contents) (a : Array) → ReadsAs contents mid.memory a → Accepts a (command_of r sectors) → ReadsAs contents now.memory (after a (command_of r sectors)))
    → HasSamePatches mid.memory.tables now.memory.tables → now.segments ≡ mid.segments
    → ((contents : Contents) (a : Array) → ReadsAs contents mid.memory a → now.memory.next ≡ next_after a mid.memory.next r) → HasSameSegmentIds mid.memory.next now.memory.next
    → HasRoomLeft mid now r → IsLawful r → command_of r sectors ≡ c → IsDone was c now
done_by was mid now c r sectors kept kept_now more same accepts before reads patches segments next segment_ids left lawful is = record {
  reads = λ contents a read. (
    accepts contents a read,
    subst (λ (d : Command). ReadsAs contents now.memory (after a d)) is
        (reads contents a (before contents a read) (subst (λ (d : Command). Accepts a d) (sym is) (accepts contents a read))),
  );
  patches =
      let p : HasSamePatches (with_rooms was mid).memory.tables now.memory.tables = subst (λ (k : Kept). HasSamePatches k.memory.tables now.memory.tables) same patches in
      record { objects = p.objects; mediums = p.mediums; addresses = p.addresses; segments = p.segments; elisions = p.elisions };
  segments = same_segments was now kept kept_now (segments ∙ ap (λ (k : Kept). k.segments) same);
  next = λ contents a read.
      next contents a (before contents a read) ∙ ap (λ (k : Kept). next_after a k.memory.next r) same ∙ ap (λ (d : Command). next_after a was.memory.next d.request) is;
  segment_ids = subst (λ (k : Kept). HasSameSegmentIds k.memory.next now.memory.next) same segment_ids;
  room = λ logged room. room_for_next mid now logged (logged + 1) r nothing_behind (room_stays was mid more same logged room) refl lawful left;
}

-- ---- in a run

-- so many of the commands were done
pub record AreDone (was : Kept) (cs : List Command) (count : ℕ) (now : Kept) : Type 0 where
  pub reads : (contents : Contents) (a : Array) → ReadsAs contents was.memory a → AllAccepted a (take count cs) × ReadsAs contents now.memory (after_all a (take count cs))
  pub patches : HasSamePatches was.memory.tables now.memory.tables
  pub segments : (id : ℕ) → segment (facts now.memory.tables) id ≡ segment (facts was.memory.tables) id
  pub next : (contents : Contents) (a : Array) → ReadsAs contents was.memory a → now.memory.next ≡ next_after_all a was.memory.next (take count cs)
  pub segment_ids : HasSameSegmentIds was.memory.next now.memory.next
  pub room : (logged : ℕ) → HasRoomFor was logged nothing_behind → HasRoomFor now (logged + count) nothing_behind

pub none_done : (k : Kept) (cs : List Command) → AreDone k cs 0 k
none_done k cs = grind (arith, nat_tests)

next_more : (a : Array) (n : NextNumbers) (cs : List Command) (i : ℕ) (c : Command) → slice_get cs i ≡ Some c
    → next_after_all a n (take (suc i) cs) ≡ next_after (after_all a (take i cs)) (next_after_all a n (take i cs)) c.request
next_more a n [] i c at = absurd (cc at)
next_more a n (d ∷ ds) zero c at = let same : d ≡ c = cc at in ap (λ (x : Command). next_after a n x.request) same
next_more a n (d ∷ ds) (suc i) c at = next_more (after a d) (next_after a n d.request) ds i c at

same_ids_twice : (a b c : NextNumbers) → HasSameSegmentIds a b → HasSameSegmentIds b c → HasSameSegmentIds a c
same_ids_twice a b c p q = record { segment = q.segment ∙ p.segment; patch_segment = q.patch_segment ∙ p.patch_segment }

same_twice : (a b c : Tables) → HasSamePatches a b → HasSamePatches b c → HasSamePatches a c
same_twice a b c p q = grind (arith, nat_tests)

-- one more was done
pub one_more : (was mid now : Kept) (cs : List Command) (i : ℕ) (c : Command) → slice_get cs i ≡ Some c → AreDone was cs i mid → IsDone mid c now → AreDone was cs (i + 1) now
one_more was mid now cs i c at all is = record {
  reads = λ contents a read.
      let before = all.reads contents a read in
      let here = is.reads contents (after_all a (take i cs)) before.1 in (
        subst (λ (n : ℕ). AllAccepted a (take n cs)) e (accept_more a cs i c at before.0 here.0),
        subst (λ (n : ℕ). ReadsAs contents now.memory (after_all a (take n cs))) e (subst (λ (b : Array). ReadsAs contents now.memory b) (sym (after_more a cs i c at)) here.1),
      );
  patches = same_twice was.memory.tables mid.memory.tables now.memory.tables all.patches is.patches;
  segments = λ id. is.segments id ∙ all.segments id;
  next = λ contents a read.
      is.next contents (after_all a (take i cs)) (all.reads contents a read).1 ∙ ap (λ (n : NextNumbers). next_after (after_all a (take i cs)) n c.request) (all.next contents a read)
      ∙ sym (next_more a was.memory.next cs i c at) ∙ ap (λ (n : ℕ). next_after_all a was.memory.next (take n cs)) e;
  segment_ids = same_ids_twice was.memory.next mid.memory.next now.memory.next all.segment_ids is.segment_ids;
  room = λ logged room. let f : logged + i + 1 ≡ logged + (i + 1) = omega arith in subst (λ (n : ℕ). HasRoomFor now n nothing_behind) f (is.room (logged + i) (all.room logged room));
}
  where
    e : suc i ≡ i + 1
    e = omega arith

replayed_of : (was now : Kept) (cs : List Command) (count : ℕ) → AreDone was cs count now
    → ((contents : Contents) (a : Array) → ReadsAs contents was.memory a → (c : Command) → slice_get cs count ≡ Some c → ¬ (Accepts (after_all a (take count cs)) c)) → IsReplayed was cs count now
replayed_of was now cs count all refused = grind (arith, nat_tests)

-- the next one was refused
pub stopped : (was mid now : Kept) (cs : List Command) (i : ℕ) (c : Command) → slice_get cs i ≡ Some c → AreDone was cs i mid → IsApplied mid c false now → IsReplayed was cs i now
stopped was mid now cs i c at all is =
    subst (λ (k : Kept). IsReplayed was cs i k) (sym is.1) (replayed_of was mid cs i all (λ contents a read d there fine.
    let same : d ≡ c = cc (at, there) in
    is.0 contents (after_all a (take i cs)) (all.reads contents a read).1 (subst (λ (x : Command). Accepts (after_all a (take i cs)) x) same fine)))

-- or there was none
pub ended : (was now : Kept) (cs : List Command) (count : ℕ) → length cs ≤ count → AreDone was cs count now → IsReplayed was cs count now
ended was now cs count past all = replayed_of was now cs count all (λ contents a read d there fine. absurd (omega (arith, past, slice_get_within cs count d there)))
