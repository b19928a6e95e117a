-- One step more of a session: input is taken, devices are called, or a reply is given.
use Rattle.array_server.proofs.Prelude.{nat_tests, false, ◌≡◌, inl, inr, ℕ, ◌<◌, List, [], ◌∷◌, ◌++◌, length, drop, refl, sym, ◌∙◌, ap, subst, arith, append_assoc, length-append, Bool, append-nil, AllByRecursion, Device, Item, Answer, text, texts, IsAnswer, acked, geometry_of, has_failed, has_lost_writes, IsLater, Shelved, Stop, Disk, IsShelf, Continues, TakenOnly, OutputOnly, MayLeave, MayStop, MayStopTaking, MayStopGiving, LeavesOnly, Leaves, IsCountedBy, IsQuietBy, continues_refl, continues_trans, leaves_start, Point, IsReached, NoMore, Fares, Serves, Answers, IsPartOfNext, read_now, IsBorneSince, ReadsAt, rose_before, counts-replies, cut-is-none}
use Rattle.std.proofs.lemmas.List.{append_cancel_left}
use Rattle.std.proofs.lemmas.Grind.{flat_map-append}
use Rattle.session_spec.proofs.Reached.{output_is_bounded, output_counts}
use Rattle.array_server.proofs.Going.{IsUpTo, fares_more, later_than, rest_more}
use Rattle.array_server.proofs.Along.{Along, HasReplied, Adds, first_up_to, reached_on, run_on, moments_on, still_along, told_part, count_of}
use Rattle.array_server.proofs.Answered.{answers_more}

-- it is so of each stop that leaves what a stop now may leave of the devices
abbrev pub HoldsNow : Shelved → (Stop → Type 0) → Type 0
HoldsNow now R = (stop : Stop) → ((d : Device) → MayLeave (now.disk d) (stop.image d)) → IsCountedBy now stop → R stop

-- ---- the start

may_stop_now : (s : Shelved) → IsShelf s → s.honest → MayStop s (read_now s)
may_stop_now s is honest = record {
  device = λ d. record { size = refl; is_byte = λ i. is.bytes honest d i; clean = λ i out. refl };
  counts = record { faults = λ d. omega arith; write_faults = λ d. omega arith };
  output = refl;
  taken = refl;
}

pub begun : (told : Bool) (start : Shelved) (first : Point) (items : List Item) (R : Point → List Item → Stop → Type 0) → IsShelf start → start.honest → first.stop ≡ read_now start → HoldsNow start (R first items) → Along told start start first items R [] first
begun told start first items R is honest at holds =
    let said : first.stop.output ≡ start.output = ap (λ (s : Stop). s.output) at in
    let up_to : IsUpTo start first.stop = record { faults = λ d. omega (arith, ap (λ (s : Stop). s.faults d) at); write_faults = λ d. omega (arith, ap (λ (s : Stop). s.write_faults d) at) } in
    record {
      continues = continues_refl start;
      reached = record {
        may = subst (λ (s : Stop). start.left_since start.moment s) (sym at) (is.counts_now start.moment (read_now start) (omega arith) (may_stop_now start is honest));
        first = λ stop left long.
            let counts = (is.only_now stop left).counts in
            record {
              faults = λ d. omega (arith, counts.faults d, ap (λ (s : Stop). s.faults d) at);
              write_faults = λ d. omega (arith, counts.write_faults d, ap (λ (s : Stop). s.write_faults d) at);
            };
      };
      run = refl;
      whole = tt;
      output = sym said ∙ sym (append-nil first.stop.output);
      said = said;
      up_to = up_to;
      bounded = λ stop left. omega (arith, ap (λ (l : List ℕ). length l) (is.only_now stop left).output);
      moments = leaves_start start (HasReplied told start start first items R) is (λ stop may.
          let output : stop.output ≡ first.stop.output ++ texts [] ++ [] = may.output ∙ sym said ∙ sym (append-nil first.stop.output) ∙ sym (append-nil (first.stop.output ++ [])) in
          record {
            at = record {
              replies = [];
              point = first;
              run = refl;
              part = [];
              is_part = inl refl;
              output = output;
              count = count_of first.stop.output stop.output [] [] tt refl output;
            };
            up_to = up_to;
            later = later_than up_to may.counts;
            holds = holds stop may.device may.counts;
          });
    }

-- ---- input is taken

pub taken : (told : Bool) (start a b : Shelved) (first last : Point) (items : List Item) (R : Point → List Item → Stop → Type 0) (replies : List Answer) → Along told start a first items R replies last
    → TakenOnly a b → (b.lapsed → ⊥) → HoldsNow a (R last (drop (length replies) items)) → Along told start b first items R replies last
taken told start a b first last items R replies so takes unlapsed holds =
    still_along told start a b first last items R replies (MayStopTaking a b) so takes.continues unlapsed (λ t stop le left. takes.nothing_else t stop le left) (λ stop now. now.counts)
    takes.output ((output_is_bounded a b start.moment so.continues.later so.bounded).2 takes) (λ stop now. (now.output, holds stop now.device now.counts))

-- ---- devices are called

pub called : (told : Bool) (start a b : Shelved) (first last : Point) (items : List Item) (R : Point → List Item → Stop → Type 0) (replies : List Answer) → Along told start a first items R replies last
    → Continues a b → (b.lapsed → ⊥) → LeavesOnly a b (λ stop. IsCountedBy a stop × R last (drop (length replies) items) stop) → Along told start b first items R replies last
called told start a b first last items R replies so on unlapsed calls =
    still_along told start a b first last items R replies (λ stop. IsQuietBy a stop × (IsCountedBy a stop × R last (drop (length replies) items) stop)) so on unlapsed (λ t stop le left. calls.before t stop le left) (λ stop now. now.1.0)
    calls.quiet.output bounded (λ stop now. (now.0.output, now.1.1))
  where
    bounded : NoMore start.moment b
    bounded stop left = elim (calls.before start.moment stop so.continues.later left) [
      | inl was ↦ omega (arith, so.bounded stop was, ap (λ (l : List ℕ). length l) calls.quiet.output)
      | inr now ↦ omega (arith, ap (λ (l : List ℕ). length l) now.0.output, ap (λ (l : List ℕ). length l) calls.quiet.output)
    ]

-- ---- a reply is given

texts_more : (qs : List Answer) (q : Answer) → texts (qs ++ q ∷ []) ≡ texts qs ++ text q
texts_more qs q = flat_map-append text qs (q ∷ []) ∙ ap (λ (t : List ℕ). texts qs ++ t) (append-nil (text q))

all_more : (qs : List Answer) (q : Answer) → AllByRecursion IsAnswer qs → IsAnswer q → AllByRecursion IsAnswer (qs ++ q ∷ [])
all_more [] q all is = (is, tt)
all_more (x ∷ qs) q all is = (all.0, all_more qs q all.1 is)

-- a whole reply has bytes
text_some : (q : Answer) → IsAnswer q → 0 < length (text q)
text_some q is = grind (arith, nat_tests, text, acked, texts, counts-replies)

-- Where a reply was given in part.
pub record Broken (told : Bool) (start now : Shelved) (first : Point) (items : List Item) (R : Point → List Item → Stop → Type 0) (replies : List Answer) (last : Point) : Type 0 where
  pub continues : Continues start now
  pub reached : IsReached (now.left_since start.moment) first
  pub run : Fares told (geometry_of start) (now.left_since start.moment) first items replies last
  pub part : List ℕ
  pub is_part : IsPartOfNext told (geometry_of start) last (read_now now) (drop (length replies) items) part
  pub output : now.output ≡ first.stop.output ++ texts replies ++ part
  pub moments : Leaves start now (HasReplied told start now first items R)

-- Of the reply to the next item a part is given, or all.
module _ (told : Bool) (start a b : Shelved) (first last new : Point) (items more : List Item) (item : Item) (R : Point → List Item → Stop → Type 0) (replies : List Answer) (q : Answer)
    (so : Along told start a first items R replies last) (gives : OutputOnly a b) (unlapsed : b.lapsed → ⊥) (rest : drop (length replies) items ≡ item ∷ more) (is_answer : IsAnswer q)
    (answers : Answers told (geometry_of start) (has_failed last.stop (read_now b)) (has_lost_writes last.stop (read_now b)) last item q new) (in_hand : HoldsNow a (R last (item ∷ more))) where
  adds : Adds a b (MayStopGiving a b)
  adds t stop le left = gives.nothing_else t stop le left

  counted : (stop : Stop) → MayStopGiving a b stop → IsCountedBy a stop
  counted stop now = now.counts

  run_still : Fares told (geometry_of start) (b.left_since start.moment) first items replies last
  unfolding adds counted
  run_still = run_on told start a b first last items R replies (MayStopGiving a b) so gives.continues unlapsed adds counted

  still_reached : IsReached (b.left_since start.moment) first
  unfolding adds counted
  still_reached = reached_on told start a b first last items R replies (MayStopGiving a b) so gives.continues unlapsed adds counted

  same_counts : (d : Device) → (b.disk d).write_faults ≡ (a.disk d).write_faults
  same_counts d = ap (λ (x : Disk). x.write_faults) (gives.disk d)

  same_faults : (d : Device) → (b.disk d).faults ≡ (a.disk d).faults
  same_faults d = ap (λ (x : Disk). x.faults) (gives.disk d)

  -- a part of it
  is_next : (stop : Stop) (part missing : List ℕ) → IsCountedBy a stop → text q ≡ part ++ missing → 0 < length missing → IsPartOfNext told (geometry_of start) last stop (drop (length replies) items) part
  is_next stop part missing counts spelled some = record {
    item = item;
    items = more;
    next = rest;
    reply = q;
    to = new;
    answers = answers_more told (geometry_of start) (has_failed last.stop (read_now b)) (has_failed last.stop stop) (has_lost_writes last.stop (read_now b)) (has_lost_writes last.stop stop)
        (λ d is. rose_before (last.stop.faults d) (b.disk d).faults (stop.faults d) (omega (arith, same_faults d, counts.faults d)) is)
        (λ d is. rose_before (last.stop.write_faults d) (b.disk d).write_faults (stop.write_faults d) (omega (arith, same_counts d, counts.write_faults d)) is) last item q new answers;
    missing = missing;
    spelled = spelled;
    some = some;
  }

  told_cut : (stop : Stop) (part missing : List ℕ) → MayStopGiving a b stop → stop.output ≡ a.output ++ part → text q ≡ part ++ missing → 0 < length missing → HasReplied told start b first items R stop
  told_cut stop part missing now output spelled some =
      told_part told start a b first last items R replies (MayStopGiving a b) so gives.continues unlapsed adds counted stop part now (cut-is-none q part missing is_answer spelled some)
      (inr (is_next stop part missing now.counts spelled some)) output (subst (λ (l : List Item). R last l stop) (sym rest) (in_hand stop now.device now.counts))

  -- where some of it is missing
  module _ (part missing : List ℕ) (gave : b.output ≡ a.output ++ part) (spelled : text q ≡ part ++ missing) (some : 0 < length missing) where
    told_broken : (stop : Stop) (front back : List ℕ) → MayStopGiving a b stop → stop.output ≡ a.output ++ front → b.output ≡ stop.output ++ back → HasReplied told start b first items R stop
    told_broken stop front back now from to =
        let whole : part ≡ front ++ back = append_cancel_left a.output part (front ++ back) (sym gave ∙ to ∙ ap (λ (l : List ℕ). l ++ back) from ∙ append_assoc a.output front back) in
        told_cut stop front (back ++ missing) now from (spelled ∙ ap (λ (l : List ℕ). l ++ missing) whole ∙ append_assoc front back missing) (omega (arith, some, length-append back missing))

    pub broken : Broken told start b first items R replies last
    broken = record {
      continues = continues_trans so.continues gives.continues;
      reached = still_reached;
      run = run_still;
      part = part;
      is_part = is_next (read_now b) part missing (record { faults = gives.continues.faults; write_faults = gives.continues.write_faults }) spelled some;
      output = gave ∙ ap (λ (l : List ℕ). l ++ part) so.output;
      moments = moments_on told start a b first last items R replies (MayStopGiving a b) so gives.continues unlapsed adds counted (λ stop now. told_broken stop now.from.0 now.to.0 now now.from.1 now.to.1);
    }

  -- where it was given whole
  module _ (gave : b.output ≡ a.output ++ text q) (is : IsShelf b) (honest : b.honest) (at : new.stop ≡ read_now b) (kept : new.halted ≡ false → IsBorneSince (geometry_of start) last.stop new × ReadsAt new) (next : HoldsNow a (R new more)) where
    longer : length a.output < length b.output
    longer = omega (arith, ap (λ (l : List ℕ). length l) gave, length-append a.output (text q), text_some q is_answer)

    reaches : IsReached (b.left_since start.moment) new
    reaches = record {
      may = subst (λ (s : Stop). b.left_since start.moment s) (sym at) (is.counts_now start.moment (read_now b) (omega (arith, so.continues.later, gives.continues.later)) (may_stop_now b is honest));
      first = λ stop left long.
          let counts = output_counts a b start.moment so.continues.later so.bounded gives longer stop left (omega (arith, long, ap (λ (s : Stop). length s.output) at)) in
          record {
            faults = λ d. omega (arith, counts.faults d, ap (λ (s : Stop). s.faults d) at);
            write_faults = λ d. omega (arith, counts.write_faults d, ap (λ (s : Stop). s.write_faults d) at);
          };
    }

    later : IsLater last.stop new.stop
    later = record {
      faults = λ d. omega (arith, so.up_to.faults d, ap (λ (x : Disk). x.faults) (gives.disk d), ap (λ (s : Stop). s.faults d) at);
      write_faults = λ d. omega (arith, so.up_to.write_faults d, ap (λ (x : Disk). x.write_faults) (gives.disk d), ap (λ (s : Stop). s.write_faults d) at);
    }

    serves : Serves told (geometry_of start) (b.left_since start.moment) last item q new
    unfolding reaches later
    serves = record {
      answers = subst (λ (s : Stop). Answers told (geometry_of start) (has_failed last.stop s) (has_lost_writes last.stop s) last item q new) (sym at) answers;
      reached = reaches;
      output = ap (λ (s : Stop). s.output) at ∙ gave ∙ ap (λ (l : List ℕ). l ++ text q) (sym so.said);
      later = later;
      kept = λ awake. (kept awake).0;
      reads = λ awake. (kept awake).1;
    }

    run_more : Fares told (geometry_of start) (b.left_since start.moment) first items (replies ++ q ∷ []) new
    run_more = fares_more told (geometry_of start) (b.left_since start.moment) first last new items more item replies q run_still rest serves

    up_to_new : IsUpTo b new.stop
    up_to_new = record { faults = λ d. omega (arith, ap (λ (s : Stop). s.faults d) at); write_faults = λ d. omega (arith, ap (λ (s : Stop). s.write_faults d) at) }

    output_more : b.output ≡ first.stop.output ++ texts (replies ++ q ∷ [])
    output_more = gave ∙ ap (λ (l : List ℕ). l ++ text q) so.output ∙ append_assoc first.stop.output (texts replies) (text q) ∙ ap (λ (l : List ℕ). first.stop.output ++ l) (sym (texts_more replies q))

    told_whole : (stop : Stop) → MayStopGiving a b stop → stop.output ≡ b.output → HasReplied told start b first items R stop
    told_whole stop now same =
        let output : stop.output ≡ first.stop.output ++ texts (replies ++ q ∷ []) ++ [] = same ∙ output_more ∙ sym (append-nil (first.stop.output ++ texts (replies ++ q ∷ []))) in
        record {
          at = record {
            replies = replies ++ q ∷ [];
            point = new;
            run = run_more;
            part = [];
            is_part = inl refl;
            output = output;
            count = count_of first.stop.output stop.output (replies ++ q ∷ []) [] (all_more replies q so.whole is_answer) refl output;
          };
          up_to = up_to_new;
          later = later_than (first_up_to told start a b first last items R replies (MayStopGiving a b) so gives.continues unlapsed adds counted) now.counts;
          holds = subst (λ (l : List Item). R new l stop) (sym (rest_more items more item replies q rest)) (next stop now.device now.counts);
        }

    -- what was given by the stop, and what is missing of it
    told_given : (stop : Stop) (part missing : List ℕ) → MayStopGiving a b stop → stop.output ≡ a.output ++ part → b.output ≡ stop.output ++ missing → HasReplied told start b first items R stop
    told_given stop part [] now from to = told_whole stop now (sym (to ∙ append-nil stop.output))
    told_given stop part (x ∷ missing) now from to =
        let spelled : text q ≡ part ++ x ∷ missing =
        append_cancel_left a.output (text q) (part ++ x ∷ missing) (sym gave ∙ to ∙ ap (λ (l : List ℕ). l ++ x ∷ missing) from ∙ append_assoc a.output part (x ∷ missing)) in
        told_cut stop part (x ∷ missing) now from spelled (omega arith)

    pub given : Along told start b first items R (replies ++ q ∷ []) new
    given = record {
      continues = continues_trans so.continues gives.continues;
      reached = still_reached;
      run = run_more;
      whole = all_more replies q so.whole is_answer;
      output = output_more;
      said = ap (λ (s : Stop). s.output) at;
      up_to = up_to_new;
      bounded = (output_is_bounded a b start.moment so.continues.later so.bounded).1 gives;
      moments = moments_on told start a b first last items R replies (MayStopGiving a b) so gives.continues unlapsed adds counted (λ stop now. told_given stop now.from.0 now.to.0 now now.from.1 now.to.1);
    }
