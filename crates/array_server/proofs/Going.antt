-- How a run of replies goes on: what was reached stays reached over later calls.
use Rattle.array_server.proofs.Prelude.{◌≡◌, ◌⊎◌, ⊎_elim, ◌≤◌, List, [], ◌∷◌, ◌++◌, length, drop, refl, sym, ap, subst, arith, Bool, Device, Geometry, Item, Answer, IsLater, Shelved, Stop, IsCountedBy, Point, Fares, Serves, Replied}

-- no more calls had failed by the stop than by now
pub record IsUpTo (s : Shelved) (stop : Stop) : Type 0 where
  pub faults : (d : Device) → stop.faults d ≤ (s.disk d).faults
  pub write_faults : (d : Device) → stop.write_faults d ≤ (s.disk d).write_faults

pub later_then : {a b c : Stop} → IsLater a b → IsLater b c → IsLater a c
later_then {a} {b} {c} f g = record { faults = λ d. omega (arith, f.faults d, g.faults d); write_faults = λ d. omega (arith, f.write_faults d, g.write_faults d) }

pub later_than : {s : Shelved} {a b : Stop} → IsUpTo s a → IsCountedBy s b → IsLater a b
later_than {s} {a} {b} f g = record { faults = λ d. omega (arith, f.faults d, g.faults d); write_faults = λ d. omega (arith, f.write_faults d, g.write_faults d) }

pub up_to_before : {s : Shelved} {a b : Stop} → IsLater a b → IsUpTo s b → IsUpTo s a
up_to_before {s} {a} {b} f g = record { faults = λ d. omega (arith, f.faults d, g.faults d); write_faults = λ d. omega (arith, f.write_faults d, g.write_faults d) }

later_same : {a b : Point} → b ≡ a → IsLater a.stop b.stop
later_same {a} {b} e = record { faults = λ d. omega (arith, ap (λ (p : Point). p.stop.faults d) e); write_faults = λ d. omega (arith, ap (λ (p : Point). p.stop.write_faults d) e) }

-- the counts at each reply are no higher than those at the last
pub fares_later : (told : Bool) (left : Stop → Type 0) (shelf : Geometry) (from to : Point) (items : List Item) (qs : List Answer) → Fares told shelf left from items qs to → IsLater from.stop to.stop
fares_later told left shelf from to items [] run = later_same run
fares_later told left shelf from to [] (q ∷ qs) run = absurd run
fares_later told left shelf from to (item ∷ items) (q ∷ qs) run = later_then run.1.later (fares_later told left shelf run.0 to items qs run.2)

-- More stops are possible, and each of those has counts that are no lower: then the same replies were given.
module _ (told : Bool) (shelf : Geometry) (was now : Stop → Type 0) (grows : (stop : Stop) → was stop → now stop) where
  pub fares_on : (from to : Point) (items : List Item) (qs : List Answer) → ((stop : Stop) → now stop → was stop ⊎ IsLater to.stop stop) → Fares told shelf was from items qs to → Fares told shelf now from items qs to
  fares_on from to items [] back run = run
  fares_on from to [] (q ∷ qs) back run = absurd run
  fares_on from to (item ∷ items) (q ∷ qs) back run =
      let mid = run.0 in
      let s = run.1 in (
        mid,
        record {
          answers = s.answers;
          reached = record {
            may = grows mid.stop s.reached.may;
            first = λ stop left more. ⊎_elim (λ before. s.reached.first stop before more) (λ later. later_then (fares_later told was shelf mid to items qs run.2) later) (back stop left);
          };
          output = s.output;
          later = s.later;
          kept = s.kept;
          reads = s.reads;
        },
        fares_on mid to items qs back run.2,
      )

  abbrev pub replied_on : (first : Point) (items : List Item) (stop : Stop) (at : Replied told shelf was first items stop) → ((stop : Stop) → now stop → was stop ⊎ IsLater at.point.stop stop) → Replied told shelf now first items stop
  replied_on first items stop at back = record {
    replies = at.replies;
    point = at.point;
    run = fares_on first at.point items at.replies back at.run;
    part = at.part;
    is_part = at.is_part;
    output = at.output;
    count = at.count;
  }

-- one item more
module _ (told : Bool) (shelf : Geometry) (left : Stop → Type 0) where
  pub fares_more : (from mid to : Point) (items more : List Item) (item : Item) (qs : List Answer) (q : Answer) → Fares told shelf left from items qs mid → drop (length qs) items ≡ item ∷ more → Serves told shelf left mid item q to → Fares told shelf left from items (qs ++ q ∷ []) to
  fares_more from mid to [] more item [] q run rest s = absurd (cc rest)
  fares_more from mid to (i ∷ items) more item [] q run rest s =
      let same : i ≡ item = cc in
      (to, subst (λ (p : Point). Serves told shelf left p i q to) run (subst (λ (x : Item). Serves told shelf left mid x q to) (sym same) s), refl)
  fares_more from mid to [] more item (r ∷ qs) q run rest s = absurd run
  fares_more from mid to (i ∷ items) more item (r ∷ qs) q run rest s = (run.0, run.1, fares_more run.0 mid to items more item qs q run.2 rest s)

-- what is left of the items then
pub rest_more : (items more : List Item) (item : Item) (qs : List Answer) (q : Answer) → drop (length qs) items ≡ item ∷ more → drop (length (qs ++ q ∷ [])) items ≡ more
rest_more [] more item [] q e = absurd (cc e)
rest_more (i ∷ items) more item [] q e = cc
rest_more [] more item (r ∷ qs) q e = absurd (cc e)
rest_more (i ∷ items) more item (r ∷ qs) q e = rest_more items more item qs q e
