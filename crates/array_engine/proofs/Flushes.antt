-- The point behind a checkpoint that was asked for.
use Rattle.array_engine.proofs.Prelude.{◌≡◌, inl, inr, ℕ, Bool, true, false, List, [], Result, Ok, Err, OnOk, IfErr, refl, sym, ap, subst, ◌∙◌, Refusal, Geometry, Asked, Answer, Line, Shelved, Stop, geometry_of, Point, IsFlushed, IsFlushing, CHECKPOINT_GROUPS, SEGMENTS_END, Background, IsArrayOf, by_faults, Goes, HasFlushed, IsLike, MayFlush, Engine, IsFlushFault, lost_in, IsAt, StandsAt, IsAnsweredAt, point_after, said_of, ends_lost, IsRegisterOf}
use Rattle.pur_base.specs.declared.request.Request.TheVariants as request
use Rattle.pur_base.specs.declared.reply.Refusal.TheVariants as refusals
use Rattle.pur_base.specs.declared.reply.Reply.TheVariants as reply
use Rattle.array_engine.proofs.Behind.{between, checkpointed}
use Rattle.array_engine.proofs.Faults.{flush_leaves}
use Rattle.array_engine.proofs.Rooms.{with_room, without_room}
use Rattle.array_engine.proofs.Steps.{IsEnd, step_done, step_members, step_refused, step_stays}
use Rattle.register.proofs.Rounds.{same_shelf}

-- What a checkpoint that is asked for makes of the engine, which wasn't halted.
module _ (told : Bool) (old new : Shelved) (e f : Engine) (sectors : List (List ℕ)) (stays : Type 0) (from : Point) (honest : told ≡ true → old.honest)
    (at : IsAt told old e from) (awake : e.halted ≡ false) (same : stays → IsLike e.array f.array × (f.room ≡ e.room) × (new ≡ old)) (is_of : IsRegisterOf (geometry_of old) e.array.register) where
  abbrev stood : StandsAt told old e.array from
  stood = at.stands awake

  abbrev to : Stop → Point
  to stop = point_after f from.array stop from

  -- it was made
  made_at : Goes by_faults old new e.array f.array [] → HasFlushed e.array f.array → f.halted ≡ false → (stop : Stop) → IsFlushed (geometry_of old) (lost_in old new) from (Line reply.Done) (to stop)
  made_at goes flushed halted stop =
      let on = goes.reads stood.contents from.array stood.reads in
      record {
        reply = refl;
        mid = between from f.array;
        made = checkpointed stood f.array (subst (λ (g : Geometry). IsArrayOf g f.array) (sym (same_shelf goes.ran.continues)) goes.is_of) flushed on.more on.reads;
        members = step_members told old new e f [] from honest at awake is_of goes;
        stays = step_stays told old new e f [] from honest at awake is_of halted 0 0 flushed.none (ap (λ (b : Background). b.facts) flushed.background) stop;
        halted = halted ∙ sym (at.halted ∙ awake);
      }

  -- it wasn't
  ends : (why : Refusal) → IsFlushFault old new e.array stays why → (q : Answer) (p : Point) → IsEnd (geometry_of old) (lost_in old new) why from q p → IsFlushing (geometry_of old) (lost_in old new) from q p
  ends refusals.Memory w q p h = with_room stood SEGMENTS_END CHECKPOINT_GROUPS q p _ w.0 (inr (inl h))
  ends refusals.Device w q p h = with_room stood SEGMENTS_END CHECKPOINT_GROUPS q p _ w.0 (inr (inr h))
  ends why w q p h = without_room stood SEGMENTS_END CHECKPOINT_GROUPS q p _ why w.0 h

  pub flush_answered : (ended : Result Unit Refusal) → OnOk ended (Goes by_faults old new e.array f.array []) → OnOk ended (MayFlush e.array × HasFlushed e.array f.array) → IfErr ended (λ x. IsFlushFault old new e.array stays x)
      → f.halted ≡ ends_lost ended → IsAnsweredAt told old new e f (Asked request.Checkpoint sectors) (said_of ended) from
  flush_answered (Ok u) goes made none halted = step_done told old new e f [] from honest at awake is_of request.Checkpoint sectors refl goes halted
      (λ stop. with_room stood SEGMENTS_END CHECKPOINT_GROUPS (Line reply.Done) (to stop) _ made.0 (inl (made_at goes made.1 halted stop)))
  flush_answered (Err why) goes made w halted = step_refused told old new e f [] from honest at awake is_of request.Checkpoint sectors refl stays same why (flush_leaves old new e.array stays why w) halted (ends why w)
