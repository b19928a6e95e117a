-- A session so far, at the top of its loop: what was answered, where the engine stands, and what the devices hold.
use Rattle.array_server.proofs.Prelude.{◌≡◌, inl, inr, ℕ, ◌<◌, List, [], ◌∷◌, ◌++◌, length, drop, refl, sym, ◌∙◌, ap, subst, arith, append_assoc, length-append, Bool, true, false, ◌||◌, drop_at, ◌+◌, append-nil, list_any, cases_Bool, Device, Geometry, IsBearable, BootRecord, names, named_sound, Item, requests, first_item, Answer, text, texts, requests-step, geometry_of, has_failed, has_lost_writes, has_risen, losing, Shelved, Stop, Disk, IsShelf, Continues, TakenOnly, OutputOnly, LeavesOnly, IsCountedBy, continues_trans, weaker, leaves_weaker, read_now, is_cut, Point, Answers, now_missing, StandsAmong, IsAfter, IsLeftAfter, borne_before, IsBorneSince, ReadsAt, INPUT_BYTES, Status, is_whole, Ends, IsOutput, ends_in_write, in_hand, rose_before, Content, array_of, IsReady, Engine, failed_in, lost_in, IsAt, IsAnsweredAt, IsKeptBy, point_after, asleep, IsServedFrom, BeginsAt, IsHeldAt, end_of, nat_tests, Unfinished}
use Rattle.session_spec.specs.Prelude.{IsAnswered}
use Rattle.pur_base.specs.declared.reply.Status.TheVariants as status
use Rattle.array_engine.specs.declared.said.Said.{Said}
use Rattle.array_server.proofs.Came.{stays_awake}
use Rattle.array_server.proofs.ItemsRead.{Behind, item-behind}
use Rattle.array_server.proofs.Kept.{kept_stands, ready_stands_on, in_hand_stands, in_hand_left, left_after}
use Rattle.array_server.proofs.StillReady.{ready_still, segments_still}
use Rattle.array_server.proofs.Along.{Along}
use Rattle.array_server.proofs.Answered.{goes_more}
use Rattle.array_engine.proofs.Told.{stood_reads}
use Rattle.array_server.proofs.Steps.{HoldsNow, Broken, begun, taken, called, given, broken}
use Rattle.nvram_log.proofs.SettledEach.{both_leave}
use Rattle.register.proofs.Rounds.{same_shelf}

-- nothing is asked of the devices
abbrev pub Nothing : Point → List Item → Stop → Type 0
Nothing last rest stop = Unit {0}

-- unless it's halted they stand on for the array where the last reply was given, or for one item more
abbrev pub StandsFor : Geometry → Point → List Item → Stop → Type 0
StandsFor shelf last rest stop = last.halted ≡ false → IsBearable shelf (now_missing last stop) → StandsAmong shelf stop.image (now_missing last stop) (IsAfter last rest)

-- the devices hold the array of the point
abbrev pub HoldsPoint : Shelved → Engine → Point → Type 0
HoldsPoint now e last = (held : Content) × IsReady now e.array held × (last.array ≡ array_of held)

-- The items in front of what is unread are answered. Where the devices held the array they do so still, unless it's halted.
pub record SoFar (told : Bool) (start now : Shelved) (e0 e : Engine) (input unread : List ℕ) (first : Point) (cut : Bool) : Type 0 where
  pub replies : List Answer
  pub front : List Item
  pub last : Point
  pub run : Along told start now first (requests input) Nothing replies last
  pub standing : IsHeldAt start e0 first → Along told start now first (requests input) (StandsFor (geometry_of start)) replies last
  pub taken : List ℕ
  pub whole : input ≡ taken ++ unread
  pub items : requests input ≡ front ++ requests unread
  pub count : length replies ≡ length front
  pub cuts : list_any is_cut front ≡ cut
  pub at : IsAt told now e last
  -- no call has failed since the last reply
  pub same_faults : (d : Device) → last.stop.faults d ≡ (now.disk d).faults
  pub same : (d : Device) → last.stop.write_faults d ≡ (now.disk d).write_faults
  pub ready : IsHeldAt start e0 first → last.halted ≡ false → HoldsPoint now e last

-- where the array is ready it stands wherever a stop now leaves
stands_now : (told : Bool) (start there now : Shelved) (e : Engine) (last : Point) (rest : List Item) → geometry_of start ≡ geometry_of now → IsAt told there e last
    → (last.halted ≡ false → HoldsPoint now e last) → HoldsNow now (StandsFor (geometry_of start) last rest)
stands_now told start there now e last rest same at ready stop device counts awake bears =
    let r = ready awake in
    ready_stands_on told (geometry_of start) there now (sym same) e last at (sym at.halted ∙ awake) r.0 r.1 r.2 rest stop device bears

-- the engine stands where it stood while no device is called
at_still : (told : Bool) (was now : Shelved) (e : Engine) (p : Point) → Continues was now → ((d : Device) → now.disk d ≡ was.disk d) → IsAt told was e p → IsAt told now e p
at_still told was now e p continues disk at = record {
  halted = at.halted;
  stands = λ awake. let s = at.stands awake in record {
    logged = s.logged;
    boot = s.boot;
    memory = s.memory;
    background = s.background;
    contents = s.contents;
    reads = s.reads;
    hold = λ t. segments_still was now e.array s.contents disk (s.hold t);
    names_holders = s.names_holders;
    enough = s.enough;
    borne = subst (λ (g : Geometry). IsBearable g (named_sound e.array.register.record)) (same_shelf continues) s.borne;
  };
}

-- ---- the start

pub begun_so_far : (told : Bool) (start : Shelved) (e0 : Engine) (input : List ℕ) (first : Point) → IsShelf start → start.honest → BeginsAt told start e0 first → SoFar told start start e0 e0 input input first false
begun_so_far told start e0 input first is honest b = record {
  replies = [];
  front = [];
  taken = [];
  whole = refl;
  last = first;
  run = begun told start first (requests input) Nothing is honest b.stop (λ stop device counts. tt);
  standing = λ held. begun told start first (requests input) (StandsFor (geometry_of start)) is honest b.stop (stands_now told start start start e0 first (requests input) refl b.at (λ awake. held));
  items = refl;
  count = refl;
  cuts = refl;
  at = b.at;
  same_faults = λ d. ap (λ (s : Stop). s.faults d) b.stop;
  same = λ d. ap (λ (s : Stop). s.write_faults d) b.stop;
  ready = λ held awake. held;
}

-- ---- input is taken

pub taken_so_far : (told : Bool) (start now mid : Shelved) (e0 e : Engine) (input unread : List ℕ) (first : Point) (cut : Bool) → SoFar told start now e0 e input unread first cut → TakenOnly now mid → (mid.lapsed → ⊥) → SoFar told start mid e0 e input unread first cut
taken_so_far told start now mid e0 e input unread first cut s takes unlapsed =
    let run = taken told start now mid first s.last (requests input) Nothing s.replies s.run takes unlapsed (λ stop device counts. tt) in
    record {
      replies = s.replies;
      front = s.front;
      taken = s.taken;
      whole = s.whole;
      last = s.last;
      run = run;
      standing = λ held. taken told start now mid first s.last (requests input) (StandsFor (geometry_of start)) s.replies (s.standing held) takes unlapsed
          (stands_now told start now now e s.last (drop (length s.replies) (requests input)) (same_shelf s.run.continues) s.at (s.ready held));
      items = s.items;
      count = s.count;
      cuts = s.cuts;
      at = at_still told now mid e s.last takes.continues takes.disk s.at;
      same_faults = λ d. s.same_faults d ∙ ap (λ (x : Disk). x.faults) (sym (takes.disk d));
      same = λ d. s.same d ∙ ap (λ (x : Disk). x.write_faults) (sym (takes.disk d));
      ready = λ held awake.
          let was = s.ready held awake in
          (was.0, ready_still now mid e.array was.0 takes.continues.drives takes.continues.units takes.disk was.1, was.2);
    }

-- ---- an item is answered

any_more : (xs : List Item) (item : Item) (b : Bool) → list_any is_cut xs ≡ false → is_cut item ≡ b → list_any is_cut (xs ++ item ∷ []) ≡ b
any_more [] item b e f = last (is_cut item) b f
  where
    last : (c d : Bool) → c ≡ d → (c || false) ≡ d
    last true d f = f
    last false d f = f
any_more (x ∷ xs) item b e f = first (is_cut x) (list_any is_cut xs) (list_any is_cut (xs ++ item ∷ [])) e (λ h. any_more xs item b h f)
  where
    first : (c d g : Bool) → (c || d) ≡ false → (d ≡ false → g ≡ b) → (c || g) ≡ b
    first true d g e h = absurd cc
    first false d g e h = h e

-- The engine has answered an item, and its reply isn't given yet: mid and between are the devices before and after.
module _ (told : Bool) (start mid between : Shelved) (e0 e e' : Engine) (input unread unread' : List ℕ) (first : Point) (item : Item) (said : Said) (s : SoFar told start mid e0 e input unread first false)
    (some : 0 < length unread) (is : first_item unread ≡ (item, unread')) (on : Continues mid between) (calls : LeavesOnly mid between (IsCountedBy mid)) (tells : mid.honest)
    (x : IsAnsweredAt told mid between e e' item said s.last)
    (kept : e.halted ≡ false → (held : Content) → IsReady mid e.array held → LeavesOnly mid between (IsKeptBy mid e.array (array_of held) item)) (unlapsed : between.lapsed → ⊥) where
  abbrev shelf : Geometry
  shelf = geometry_of start

  abbrev items : List Item
  items = requests input

  abbrev q : Answer
  q = x.reply

  abbrev to : Stop → Point
  to stop = point_after e' x.array stop s.last

  same_mid : shelf ≡ geometry_of mid
  same_mid = same_shelf s.run.continues

  next : requests unread ≡ item ∷ requests unread'
  next = requests-step unread item unread' some is

  pub rest : drop (length s.replies) items ≡ item ∷ requests unread'
  unfolding next
  rest = ap (λ (l : List Item). drop (length s.replies) l) s.items ∙ drop_at s.front (requests unread) (length s.replies) (sym s.count) ∙ next

  -- the bytes of the item
  own : Behind unread unread'
  own = item-behind unread unread' item is

  whole_more : input ≡ (s.taken ++ own.0) ++ unread'
  whole_more = s.whole ∙ ap (λ (l : List ℕ). s.taken ++ l) own.1 ∙ sym (append_assoc s.taken own.0 unread')

  pub items_more : items ≡ (s.front ++ item ∷ []) ++ requests unread'
  items_more = s.items ∙ ap (λ (l : List Item). s.front ++ l) next ∙ sym (append_assoc s.front (item ∷ []) (requests unread'))

  pub count_more : length (s.replies ++ q ∷ []) ≡ length (s.front ++ item ∷ [])
  count_more = omega (arith, s.count, length-append s.replies (q ∷ []), length-append s.front (item ∷ []))

  -- at a stop while the item is answered
  kept_now : IsHeldAt start e0 first → LeavesOnly mid between (λ stop. IsCountedBy mid stop × StandsFor shelf s.last (drop (length s.replies) items) stop)
  kept_now held = elim (cases_Bool s.last.halted) [
    | inl halted ↦ weaker (λ stop counts. (counts, λ awake now. absurd (cc (halted, awake)))) calls
    | inr awake ↦
        let ready = s.ready held awake in
        let goes_on : e.halted ≡ false = sym s.at.halted ∙ awake in
        weaker (λ stop both. (
          both.0,
          λ still now. subst (λ (l : List Item). StandsAmong shelf stop.image (now_missing s.last stop) (IsAfter s.last l)) (sym rest)
              (kept_stands told shelf mid (sym same_mid) e s.last s.at goes_on s.same ready.0 ready.2 item (requests unread') stop both.1 now),
        )) (both_leave calls (kept goes_on ready.0 ready.1))
  ]

  -- what was given so far, after it
  pub run_called : Along told start between first items Nothing s.replies s.last
  run_called = called told start mid between first s.last items Nothing s.replies s.run on unlapsed (weaker (λ stop counts. (counts, tt)) calls)

  pub standing_called : IsHeldAt start e0 first → Along told start between first items (StandsFor shelf) s.replies s.last
  unfolding kept_now
  standing_called held = called told start mid between first s.last items (StandsFor shelf) s.replies (s.standing held) on unlapsed (kept_now held)

  answers_here : (stop : Stop) → Answers told shelf (failed_in mid between) (lost_in mid between) s.last item q (to stop)
  answers_here stop = subst (λ (g : Geometry). Answers told g (failed_in mid between) (lost_in mid between) s.last item q (to stop)) (sym same_mid) (x.answers stop)

  -- an array that isn't halted behind it wasn't before it
  was_awake : e'.halted ≡ false → s.last.halted ≡ false
  was_awake awake = elim (cases_Bool s.last.halted) [
    | inl halted ↦ absurd (cc (asleep told shelf (failed_in mid between) (lost_in mid between) s.last (to s.last.stop) item q halted (answers_here s.last.stop), halted, awake))
    | inr fine ↦ fine
  ]

  -- and is ready
  pub went_on : IsHeldAt start e0 first → e'.halted ≡ false → (more : Content) × IsReady between e'.array more × (x.array ≡ array_of more)
  went_on held awake = let before = s.ready held (was_awake awake) in x.ready tells awake before.0 before.1 before.2

  -- where what was lost is borne it isn't halted
  still_awake : s.last.halted ≡ false → IsBearable shelf (losing (lost_in mid between) (named_sound s.last.boot)) → e'.halted ≡ false
  still_awake awake bears = stays_awake told shelf (failed_in mid between) (lost_in mid between) s.last (to s.last.stop) item q awake (answers_here s.last.stop) bears

  -- what is missing at a stop since then was lost by then
  lost_before : (stop : Stop) → IsCountedBy between stop → IsBearable shelf (now_missing s.last stop) → IsBearable shelf (losing (lost_in mid between) (named_sound s.last.boot))
  lost_before stop counts bears = borne_before shelf (losing (lost_in mid between) (named_sound s.last.boot)) (now_missing s.last stop)
      (λ d. goes_more (named_sound s.last.boot d) (lost_in mid between d) (has_lost_writes s.last.stop stop d)
      (λ lost. rose_before (s.last.stop.write_faults d) (between.disk d).write_faults (stop.write_faults d) (counts.write_faults d)
      (subst (λ (n : ℕ). has_risen n (between.disk d).write_faults ≡ true) (sym (s.same d)) lost))) bears

  same_between : shelf ≡ geometry_of between
  same_between = same_shelf (continues_trans s.run.continues on)

  -- while the reply is given
  pub held_in_hand : IsHeldAt start e0 first → HoldsNow between (StandsFor shelf s.last (item ∷ requests unread'))
  held_in_hand held stop device counts awake bears =
      let fine = still_awake awake (lost_before stop counts bears) in
      let went = went_on held fine in
      in_hand_stands told shelf mid between between (sym same_between) e' x.array s.last s.last.stop (x.at s.last.stop) fine s.same (λ d. omega arith) awake went.0 went.1 went.2
      item (requests unread') q (answers_here s.last.stop) stop device counts bears

  -- The reply is given, whole or in part: after is then.
  module _ (after : Shelved) (gives : OutputOnly between after) (unlapsed_then : after.lapsed → ⊥) where
    abbrev pub new : Point
    new = to (read_now after)

    lost_is_at : (d : Device) → lost_in mid between d ≡ has_lost_writes s.last.stop (read_now after) d
    lost_is_at d = ap (λ (n : ℕ). has_risen n (between.disk d).write_faults) (sym (s.same d)) ∙ ap (λ (y : Disk). has_risen (s.last.stop.write_faults d) y.write_faults) (sym (gives.disk d))

    lost_is : lost_in mid between ≡ has_lost_writes s.last.stop (read_now after)
    lost_is = λ k d. lost_is_at d k

    failed_is_at : (d : Device) → failed_in mid between d ≡ has_failed s.last.stop (read_now after) d
    failed_is_at d = ap (λ (n : ℕ). has_risen n (between.disk d).faults) (sym (s.same_faults d)) ∙ ap (λ (y : Disk). has_risen (s.last.stop.faults d) y.faults) (sym (gives.disk d))

    failed_is : failed_in mid between ≡ has_failed s.last.stop (read_now after)
    failed_is = λ k d. failed_is_at d k

    pub answers_now : Answers told shelf (has_failed s.last.stop (read_now after)) (has_lost_writes s.last.stop (read_now after)) s.last item q new
    answers_now = subst (λ (lost : Device → Bool). Answers told shelf (has_failed s.last.stop (read_now after)) lost s.last item q new) lost_is
        (subst (λ (failed : Device → Bool). Answers told shelf failed (lost_in mid between) s.last item q new) failed_is (answers_here (read_now after)))

    pub ready_after : IsHeldAt start e0 first → e'.halted ≡ false → (more : Content) × IsReady after e'.array more × (x.array ≡ array_of more)
    ready_after held awake =
        let went = went_on held awake in
        (went.0, ready_still between after e'.array went.0 gives.continues.drives gives.continues.units gives.disk went.1, went.2)

    -- where the sink failed
    module _ (begins : first.stop ≡ read_now start) (part missing : List ℕ) (gave : after.output ≡ between.output ++ part) (spelled : text q ≡ part ++ missing) (lacks : 0 < length missing) where
      counted_then : IsCountedBy between (read_now after)
      counted_then = record { faults = gives.continues.faults; write_faults = gives.continues.write_faults }

      told_part : Broken told start after first items Nothing s.replies s.last
      told_part = broken told start between after first s.last new items (requests unread') item Nothing s.replies q run_called gives unlapsed_then rest x.whole answers_now (λ stop device counts. tt) part missing gave spelled lacks

      standing_part : IsHeldAt start e0 first → Broken told start after first items (StandsFor shelf) s.replies s.last
      standing_part held =
          broken told start between after first s.last new items (requests unread') item (StandsFor shelf) s.replies q (standing_called held) gives unlapsed_then rest x.whole answers_now (held_in_hand held) part missing gave spelled lacks

      same_after : shelf ≡ geometry_of after
      same_after = same_shelf (continues_trans (continues_trans s.run.continues on) gives.continues)

      left_in_hand : IsHeldAt start e0 first → s.last.halted ≡ false → IsBearable shelf (now_missing s.last (read_now after)) → IsLeftAfter after s.last (item ∷ requests unread')
      unfolding counted_then
      left_in_hand held awake bears =
          let fine = still_awake awake (lost_before (read_now after) counted_then bears) in
          let now = ready_after held fine in
          in_hand_left told shelf mid between after (sym same_after) e' x.array s.last s.last.stop (x.at s.last.stop) fine s.same gives.continues.write_faults awake now.0 now.1 now.2
          item (requests unread') q (answers_here s.last.stop) bears

      pub sank : (left : List ℕ) → IsServedFrom told start after e0 input left status.Sink first
      sank left = record {
        reached = told_part.reached;
        replies = s.replies;
        last = s.last;
        run = told_part.run;
        output = (told_part.part, told_part.is_part, told_part.output ∙ ap (λ (there : Stop). there.output ++ texts s.replies ++ told_part.part) begins);
        ends = omega (arith, s.count, ap (λ (l : List Item). length l) items_more, length-append (s.front ++ item ∷ []) (requests unread'), length-append s.front (item ∷ []));
        replied = leaves_weaker (λ stop tells. (tells.later, tells.at)) told_part.moments;
        stands = λ held. leaves_weaker (λ stop tells. (tells.later, tells.at, tells.holds)) (standing_part held).moments;
        at_end = λ held awake bears. subst (λ (l : List Item). IsLeftAfter after s.last l) (sym rest) (left_in_hand held awake bears);
      }

    -- where it was given whole
    module _ (gave : after.output ≡ between.output ++ text q) (is_shelf : IsShelf after) (honest : after.honest) where
      at_after : IsAt told after e' new
      at_after = at_still told between after e' new gives.continues gives.disk (x.at (read_now after))

      -- unless it's halted, what is missing is borne, and no write failed on what its record names
      stays_borne : new.halted ≡ false → IsBorneSince shelf s.last.stop new
      stays_borne awake =
          let stands = at_after.stands (sym at_after.halted ∙ awake) in
          record {
            named = λ d named. ap (λ (y : Disk). y.write_faults) (gives.disk d) ∙ x.unlost awake d (subst (λ (b : BootRecord). names b d ≡ true) stands.boot named) ∙ sym (s.same d);
            borne = subst (λ (b : BootRecord). IsBearable shelf (named_sound b)) (sym stands.boot)
                (subst (λ (g : Geometry). IsBearable g (named_sound e'.array.register.record)) (sym (same_shelf (continues_trans (continues_trans s.run.continues on) gives.continues))) stands.borne);
          }

      -- and memory reads as the array
      stays_read : new.halted ≡ false → ReadsAt new
      stays_read awake = stood_reads (at_after.stands (sym at_after.halted ∙ awake))

      pub run_given : Along told start after first items Nothing (s.replies ++ q ∷ []) new
      run_given = given told start between after first s.last new items (requests unread') item Nothing s.replies q run_called gives unlapsed_then rest x.whole answers_now (λ stop device counts. tt) gave is_shelf honest refl (λ awake. (stays_borne awake, stays_read awake)) (λ stop device counts. tt)

      pub answered : (cut : Bool) → is_cut item ≡ cut → SoFar told start after e0 e' input unread' first cut
      unfolding run_given
      answered cut cuts = record {
        replies = s.replies ++ q ∷ [];
        front = s.front ++ item ∷ [];
        taken = s.taken ++ own.0;
        whole = whole_more;
        last = new;
        run = run_given;
        standing = λ held. given told start between after first s.last new items (requests unread') item (StandsFor shelf) s.replies q (standing_called held) gives unlapsed_then rest x.whole answers_now (held_in_hand held)
            gave is_shelf honest refl (λ awake. (stays_borne awake, stays_read awake)) (stands_now told start between between e' new (requests unread') same_between (x.at (read_now after)) (went_on held));
        items = items_more;
        count = count_more;
        cuts = any_more s.front item cut s.cuts cuts;
        at = at_after;
        same_faults = λ d. refl;
        same = λ d. refl;
        ready = ready_after;
      }

-- ---- how it ends

module _ (told : Bool) (start new : Shelved) (e0 e : Engine) (input unread left : List ℕ) (first : Point) (cut : Bool) (s : SoFar told start new e0 e input unread first cut) (begins : first.stop ≡ read_now start) where
  ended : (how : Status) → IsOutput how told (geometry_of start) s.last (read_now new) (drop (length s.replies) (requests input)) start.output new.output s.replies → Ends how s.last.halted input s.replies left
      → IsServedFrom told start new e0 input left how first
  ended how output ends = record {
    reached = s.run.reached;
    replies = s.replies;
    last = s.last;
    run = s.run.run;
    output = output;
    ends = ends;
    replied = leaves_weaker (λ stop tells. (tells.later, tells.at)) s.run.moments;
    stands = λ held. leaves_weaker (λ stop tells. (tells.later, tells.at, tells.holds)) (s.standing held).moments;
    at_end = λ held awake bears.
        let ready = s.ready held awake in
        left_after told (geometry_of start) new new (sym (same_shelf s.run.continues)) e s.last s.at (sym s.at.halted ∙ awake) ready.0 ready.1 ready.2 (in_hand how (drop (length s.replies) (requests input))) bears;
  }

  all_given : new.output ≡ start.output ++ texts s.replies
  all_given = s.run.output ∙ ap (λ (there : Stop). there.output ++ texts s.replies) begins

  -- the source failed
  pub stopped_source : Unfinished unread left (λ rest. is_whole rest ≡ false) → IsServedFrom told start new e0 input left status.Source first
  stopped_source u = grind (arith, nat_tests, ended, all_given, requests)

  -- at the limit
  pub stopped_limit : (rest : List ℕ) (byte : ℕ) → unread ≡ rest ++ byte ∷ left → is_whole rest ≡ false → length input ≡ INPUT_BYTES + 1 + length left → IsServedFrom told start new e0 input left status.InputLimit first
  stopped_limit rest byte split part taken = grind (arith, nat_tests, ended, all_given, requests)

  -- the input is answered
  module _ (none : unread ≡ []) (no_more : left ≡ []) (within : length input < INPUT_BYTES + 1) where
    all : requests input ≡ s.front
    all = s.items ∙ ap (λ (u : List ℕ). s.front ++ requests u) none ∙ append-nil s.front

    is_answered : IsAnswered input s.replies left
    is_answered = record { count = s.count ∙ ap (λ (l : List Item). length l) (sym all); none = no_more; within = within }

    in_write : ends_in_write input ≡ cut
    in_write = ap (λ (l : List Item). list_any is_cut l) all ∙ s.cuts

    well : (halted : Bool) → e.halted ≡ halted → cut ≡ false → IsServedFrom told start new e0 input left (end_of halted) first
    unfolding ended all_given is_answered in_write
    well true is whole = ended status.Halted all_given (s.at.halted ∙ is, in_write ∙ whole, is_answered)
    well false is whole = ended status.Done all_given (s.at.halted ∙ is, in_write ∙ whole, is_answered)

    pub stopped_done : cut ≡ false → IsServedFrom told start new e0 input left (end_of e.halted) first
    stopped_done whole = well e.halted refl whole

    pub stopped_cut : cut ≡ true → IsServedFrom told start new e0 input left status.Cut first
    stopped_cut is = ended status.Cut all_given (in_write ∙ is, is_answered)
