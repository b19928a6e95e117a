-- A session so far: the replies that were given, and what each stop since its start leaves, whatever is called next.
use Rattle.array_server.proofs.Prelude.{nat_tests, ◌≡◌, ◌⊎◌, inl, inr, ⊎_elim, ℕ, ◌≤◌, List, [], ◌++◌, length, drop, refl, sym, ◌∙◌, ap, arith, append_assoc, None, Bool, append-nil, drop_at, AllByRecursion, Item, Answer, texts, IsAnswer, acked, after_reply, geometry_of, IsLater, Shelved, Stop, Continues, Leaves, IsCountedBy, continues_trans, Point, IsReached, Fares, IsPartOfNext, Replied, NoMore, counts-replies}
use Rattle.array_server.proofs.Going.{IsUpTo, later_than, up_to_before, fares_later, fares_on, replied_on}

-- At a stop these replies were whole, and R is so of it.
pub record HasReplied (told : Bool) (start now : Shelved) (first : Point) (items : List Item) (R : Point → List Item → Stop → Type 0) (stop : Stop) : Type 0 where
  pub at : Replied told (geometry_of start) (now.left_since start.moment) first items stop
  pub up_to : IsUpTo now at.point.stop
  -- no less had failed by then than at the start
  pub later : IsLater first.stop stop
  pub holds : R at.point (drop (length at.replies) items) stop

-- These replies were given, and no more.
pub record Along (told : Bool) (start now : Shelved) (first : Point) (items : List Item) (R : Point → List Item → Stop → Type 0) (replies : List Answer) (last : Point) : Type 0 where
  pub continues : Continues start now
  pub reached : IsReached (now.left_since start.moment) first
  pub run : Fares told (geometry_of start) (now.left_since start.moment) first items replies last
  pub whole : AllByRecursion IsAnswer replies
  pub output : now.output ≡ first.stop.output ++ texts replies
  pub said : last.stop.output ≡ now.output
  pub up_to : IsUpTo now last.stop
  pub bounded : NoMore start.moment now
  pub moments : Leaves start now (HasReplied told start now first items R)

-- what a stop may leave after some calls: what it might before, or what has Q
abbrev pub Adds : Shelved → Shelved → (Stop → Type 0) → Type 0
Adds a b Q = (t : ℕ) (stop : Stop) → t ≤ a.moment → b.left_since t stop → a.left_since t stop ⊎ Q stop

pub up_to_then : {a b : Shelved} {stop : Stop} → Continues a b → IsUpTo a stop → IsUpTo b stop
up_to_then {a} {b} {stop} on up = record { faults = λ d. omega (arith, up.faults d, on.faults d); write_faults = λ d. omega (arith, up.write_faults d, on.write_faults d) }

-- so many replies are whole in what was given, where they are, and a part of the next is not
pub count_of : (before out : List ℕ) (replies : List Answer) (part : List ℕ) → AllByRecursion IsAnswer replies → after_reply part ≡ None → out ≡ before ++ texts replies ++ part → length replies ≡ acked (drop (length before) out)
count_of before out replies part whole none is = grind (arith, nat_tests, texts, append_assoc, drop_at, acked, counts-replies)

-- Some calls later, where each new stop has counts that are no lower.
module _ (told : Bool) (start a b : Shelved) (first last : Point) (items : List Item) (R : Point → List Item → Stop → Type 0) (replies : List Answer) (Q : Stop → Type 0)
    (so : Along told start a first items R replies last) (on : Continues a b) (unlapsed : b.lapsed → ⊥) (adds : Adds a b Q) (counted : (stop : Stop) → Q stop → IsCountedBy a stop) where
  grows : (stop : Stop) → a.left_since start.moment stop → b.left_since start.moment stop
  grows stop left = on.keeps unlapsed start.moment stop so.continues.later left

  back : (point : Stop) → IsUpTo a point → (stop : Stop) → b.left_since start.moment stop → a.left_since start.moment stop ⊎ IsLater point stop
  back point up stop left = ⊎_elim (λ was. inl was) (λ now. inr (later_than up (counted stop now))) (adds start.moment stop so.continues.later left)

  pub first_up_to : IsUpTo a first.stop
  first_up_to = up_to_before (fares_later told (a.left_since start.moment) (geometry_of start) first last items replies so.run) so.up_to

  pub run_on : Fares told (geometry_of start) (b.left_since start.moment) first items replies last
  run_on = fares_on told (geometry_of start) (a.left_since start.moment) (b.left_since start.moment) grows first last items replies (back last.stop so.up_to) so.run

  pub reached_on : IsReached (b.left_since start.moment) first
  reached_on = grind (arith, nat_tests, grows, back, first_up_to)

  told_on : (stop : Stop) → HasReplied told start a first items R stop → HasReplied told start b first items R stop
  told_on stop was = record {
    at = replied_on told (geometry_of start) (a.left_since start.moment) (b.left_since start.moment) grows first items stop was.at (back was.at.point.stop was.up_to);
    up_to = up_to_then on was.up_to;
    later = was.later;
    holds = was.holds;
  }

  pub moments_on : ((stop : Stop) → Q stop → HasReplied told start b first items R stop) → Leaves start b (HasReplied told start b first items R)
  moments_on here = record {
    each = λ stop left. ⊎_elim (λ was. told_on stop (so.moments.each stop was)) (λ now. here stop now) (adds start.moment stop so.continues.later left);
    before = λ t stop le left.
        let le_a : t ≤ a.moment = omega (arith, le, so.continues.later) in
        ⊎_elim (λ was. ⊎_elim (λ older. inl older) (λ t. inr (told_on stop t)) (so.moments.before t stop le was)) (λ now. inr (here stop now)) (adds t stop le_a left);
  }

  -- a stop that leaves the same replies, and a part of the next
  pub told_part : (stop : Stop) (part : List ℕ) → Q stop → after_reply part ≡ None → (part ≡ []) ⊎ IsPartOfNext told (geometry_of start) last stop (drop (length replies) items) part → stop.output ≡ a.output ++ part
      → R last (drop (length replies) items) stop → HasReplied told start b first items R stop
  told_part stop part now none is_part output holds =
      let whole : stop.output ≡ first.stop.output ++ texts replies ++ part = output ∙ ap (λ (l : List ℕ). l ++ part) so.output in
      record {
        at = record {
          replies = replies;
          point = last;
          run = run_on;
          part = part;
          is_part = is_part;
          output = whole;
          count = count_of first.stop.output stop.output replies part so.whole none whole;
        };
        up_to = up_to_then on so.up_to;
        later = later_than first_up_to (counted stop now);
        holds = holds;
      }

  -- nothing is given meanwhile
  pub still_along : b.output ≡ a.output → NoMore start.moment b → ((stop : Stop) → Q stop → (stop.output ≡ a.output) × R last (drop (length replies) items) stop) → Along told start b first items R replies last
  still_along same bounded here = record {
    continues = continues_trans so.continues on;
    reached = reached_on;
    run = run_on;
    whole = so.whole;
    output = same ∙ so.output;
    said = so.said ∙ sym same;
    up_to = up_to_then on so.up_to;
    bounded = bounded;
    moments = moments_on (λ stop now. told_part stop [] now refl (inl refl) ((here stop now).0 ∙ sym (append-nil a.output)) (here stop now).1);
  }
