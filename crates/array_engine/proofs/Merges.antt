-- The point behind a merge that was asked for.
use Rattle.array_engine.proofs.Prelude.{◌≡◌, inl, inr, ℕ, ◌+◌, Bool, true, false, List, [], Result, Ok, Err, OnOk, IfErr, refl, sym, ap, subst, ◌∙◌, not, nat_lt, le-ltb, lt-ltb, Table, Refusal, Asked, Answer, Line, Shelved, Stop, geometry_of, patches, has_pair, pair_segments, Point, HasGroups, IsMergeDone, IsMerging, IsRefused, Where, WithPair, patches_at, MERGE_GROUPS, Array, Background, is_spent, by_faults, Goes, IsLike, Engine, lost_in, IsAt, StandsAt, IsAnsweredAt, point_after, said_of, ends_lost, IsRegisterOf}
use Rattle.pur_base.specs.declared.request.Request.TheVariants as request
use Rattle.pur_base.specs.declared.reply.Refusal.TheVariants as refusals
use Rattle.pur_base.specs.declared.reply.Reply.TheVariants as reply
use Rattle.session_spec.specs.Faring as faring
use Rattle.pyramid_jobs.specs.Made.{HasMerged, IsCheckFault, IsFaultOf, MayMerge, at_array}
use Rattle.array_engine.proofs.Stood.{next_stood, patches_stood}
use Rattle.array_engine.proofs.Faults.{merge_leaves}
use Rattle.array_engine.proofs.Rooms.{where_not, where_so}
use Rattle.array_engine.proofs.Steps.{IsEnd, step_done, step_members, step_refused, step_stays}

-- ---- the pair

-- at a point at which an array stands
module _ {told : Bool} {shelf : Shelved} {a : Array} {p : Point} (s : StandsAt told shelf a p) (t : Table) (i : ℕ) where
  abbrev least : ℕ
  least = MERGE_GROUPS + pair_segments t i a.register.record.patches

  abbrev lacks : Bool
  lacks = not (has_pair t i a.register.record.patches)

  -- the same of both
  pair_at : (spent nothing space some : Type 0) → Where (is_spent a) spent (Where lacks nothing ((groups : ℕ) × HasGroups a.register.record (patches a.memory.memory.tables) groups × Where (nat_lt groups least) space some))
      → Where (faring.is_spent p) spent (Where (not (has_pair t i p.boot.patches)) nothing ((groups : ℕ) × HasGroups p.boot (patches_at p) groups × Where (nat_lt groups (MERGE_GROUPS + pair_segments t i p.boot.patches)) space some))
  pair_at spent nothing space some h = rw (s.boot, patches_stood s, next_stood s) h

  module _ (q : Answer) (to : Point) (some : Type 0) where
    -- it may be merged
    with_pair : MayMerge t i a → some → WithPair t i p q to some
    with_pair m h = pair_at _ _ _ _ (where_not (is_spent a) _ m.unspent (where_not lacks _ (ap not m.there) (m.groups, m.left, where_not (nat_lt m.groups least) _ (le-ltb m.groups least m.enough) h)))

    -- or not
    without_pair : (why : Refusal) → IsCheckFault t i a why → IsRefused why p q to → WithPair t i p q to some
    without_pair refusals.Spent w h = pair_at _ _ _ _ (where_so (is_spent a) _ w h)
    without_pair refusals.NothingThere w h = pair_at _ _ _ _ (where_not (is_spent a) _ w.0 (where_so lacks _ (ap not w.1) h))
    without_pair refusals.Space w h = pair_at _ _ _ _ (where_not (is_spent a) _ w.0 (where_not lacks _ (ap not w.1) (w.2.0, w.2.1, where_so (nat_lt w.2.0 least) _ (lt-ltb w.2.0 least w.2.2) h)))
    without_pair _ w h = absurd w

-- What a merge that is asked for makes of the engine, which wasn't halted.
module _ (told : Bool) (old new : Shelved) (e f : Engine) (t : Table) (i : ℕ) (sectors : List (List ℕ)) (stays : Type 0) (from : Point) (honest : told ≡ true → old.honest)
    (at : IsAt told old e from) (awake : e.halted ≡ false) (same : stays → IsLike e.array f.array × (f.room ≡ e.room) × (new ≡ old)) (is_of : IsRegisterOf (geometry_of old) e.array.register) where
  abbrev stood : StandsAt told old e.array from
  stood = at.stands awake

  abbrev to : Stop → Point
  to stop = point_after f from.array stop from

  -- it was made
  done_at : Goes by_faults old new e.array f.array [] → HasMerged (geometry_of old) t i e.array f.array → f.halted ≡ false → (stop : Stop) → IsMergeDone (geometry_of old) (lost_in old new) t i from (Line reply.Done) (to stop)
  done_at goes merged halted stop = record {
    reply = refl;
    mid = at_array from f.array;
    made = subst (λ (p : Point). faring.IsMerged (geometry_of old) t i p (at_array from f.array)) (λ k. record from { boot = sym stood.boot k; memory = sym stood.memory k }) (merged.points from);
    members = step_members told old new e f [] from honest at awake is_of goes;
    stays = step_stays told old new e f [] from honest at awake is_of halted from.logged from.background (ap (λ l. l.count) merged.log ∙ sym stood.logged) (ap (λ (b : Background). b.facts) merged.background ∙ sym stood.background) stop;
    halted = halted ∙ sym (at.halted ∙ awake);
  }

  -- it wasn't
  ends : (why : Refusal) → IsFaultOf t i old new e.array stays why → (q : Answer) (p : Point) → IsEnd (geometry_of old) (lost_in old new) why from q p → IsMerging (geometry_of old) (lost_in old new) from t i q p
  ends refusals.Memory w q p h = with_pair stood t i q p _ w.0 (inr (inl h))
  ends refusals.Device w q p h = with_pair stood t i q p _ w.0 (inr (inr h))
  ends why w q p h = without_pair stood t i q p _ why w.0 h

  pub merge_answered : (ended : Result Unit Refusal) → OnOk ended (Goes by_faults old new e.array f.array []) → OnOk ended (MayMerge t i e.array × HasMerged (geometry_of old) t i e.array f.array)
      → IfErr ended (λ x. IsFaultOf t i old new e.array stays x) → f.halted ≡ ends_lost ended → IsAnsweredAt told old new e f (Asked (request.Merge t i) sectors) (said_of ended) from
  merge_answered (Ok u) goes made none halted = step_done told old new e f [] from honest at awake is_of (request.Merge t i) sectors refl goes halted
      (λ stop. with_pair stood t i (Line reply.Done) (to stop) _ made.0 (inl (done_at goes made.1 halted stop)))
  merge_answered (Err why) goes made w halted = step_refused told old new e f [] from honest at awake is_of (request.Merge t i) sectors refl stays same why (merge_leaves old new e.array stays t i why w) halted (ends why w)
