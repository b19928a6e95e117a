-- What a step that ended makes of the engine, which wasn't halted: a logged request, a checkpoint or a merge.
use Rattle.array_engine.proofs.Prelude.{◌≡◌, ℕ, Bool, true, false, List, Option, None, Result, Ok, Err, OnOk, IfErr, refl, sym, subst, ◌∙◌, cond-false, Device, Request, Refusal, Command, Geometry, Asked, refusal, after_all, Answer, IsAnswer, Line, refused, Shelved, IsShelf, Stop, geometry_of, Point, Answers, AnswersRequest, AnswersAccepted, IsAsBefore, IsFailed, IsRefused, DropsOnlyLost, told_of, IsRegisterOf, Array, IsArrayOf, by_faults, Goes, GoesOnMeanwhile, Room, IsLike, IsRoomOf, Engine, Said, failed_in, lost_in, IsAt, IsAnsweredAt, point_after, said_of, ends_lost, HasReply, Says}
use Rattle.pur_base.specs.declared.reply.Refusal.TheVariants as refusals
use Rattle.pur_base.specs.declared.reply.Reply.TheVariants as reply
use Rattle.array_checkpoint.proofs.Like.{like_is_of}
use Rattle.array_engine.specs.declared.said.Said.TheVariants as said
use Rattle.array_engine.proofs.Appended.{like_room}
use Rattle.array_engine.proofs.AtPoint.{goes_answered, halts_answered, stays_answered}
use Rattle.array_engine.proofs.Faults.{Leaves}
use Rattle.array_core.proofs.TakenIn.{nothing_meanwhile}
use Rattle.array_engine.proofs.Named.{drops_at, drops_only_lost, risen_itself}

-- how a step is answered that ended for that cause
abbrev pub IsEnd : Geometry → (Device → Bool) → Refusal → Point → Answer → Point → Type 0
IsEnd shelf lost refusals.Device from q to = IsFailed shelf lost from q to
IsEnd shelf lost why from q to = IsRefused why from q to

-- no sectors are given
pub step_there : (bytes : List ℕ) (start : ℕ) (ended : Result Unit Refusal) → HasReply bytes start (said_of ended)
step_there bytes start (Ok u) = tt
step_there bytes start (Err why) = tt

module _ (old new : Shelved) (a b : Array) (room left : Room) (commands : List Command) (stays : Type 0) (same : stays → IsLike a b × (left ≡ room) × (new ≡ old)) where
  -- an array with its room, unless it is to halt
  pub step_leaves : {T : Type 0} → IsArrayOf (geometry_of old) a → IsRoomOf a room → (ended : Result T Refusal) → OnOk ended (Goes by_faults old new a b commands) → OnOk ended (IsRoomOf b left)
      → IfErr ended (λ why. Leaves old new a stays commands why) → (halted : Bool) → halted ≡ ends_lost ended → halted ≡ false → IsArrayOf (geometry_of new) b × IsRoomOf b left
  step_leaves of room_of (Ok u) goes counted w halted lost awake = (goes.is_of, counted)
  step_leaves of room_of (Err refusals.Device) goes counted w halted lost awake = absurd (cc (lost, awake))
  step_leaves of room_of (Err _) goes counted w halted lost awake = let is = same w in (
    subst (λ (s : Shelved). IsArrayOf (geometry_of s) b) (sym is.2) (like_is_of (geometry_of old) a b is.0 of),
    subst (λ (r : Room). IsRoomOf b r) (sym is.1) (like_room a b room is.0 room_of),
  )

  -- at every moment a session can go on
  pub step_meanwhile : {T : Type 0} → IsShelf old → (ended : Result T Refusal) → OnOk ended (Goes by_faults old new a b commands) → IfErr ended (λ why. Leaves old new a stays commands why) → GoesOnMeanwhile by_faults old new a commands
  step_meanwhile is (Ok u) goes w = goes.any_moment
  step_meanwhile is (Err refusals.Device) goes w = w.any_moment
  step_meanwhile is (Err _) goes w = nothing_meanwhile old new (same w).2 is a commands

module _ (told : Bool) (old new : Shelved) (e f : Engine) (commands : List Command) (from : Point) (honest : told ≡ true → old.honest) (at : IsAt told old e from)
    (awake : e.halted ≡ false) (is_of : IsRegisterOf (geometry_of old) e.array.register) where
  -- ---- the point behind a step that adds no command

  pub step_members : Goes by_faults old new e.array f.array commands → DropsOnlyLost (lost_in old new) from.boot f.array.register.record
  step_members goes = drops_at (at.stands awake) (drops_only_lost (lost_in old new) old new e.array f.array (geometry_of old) (geometry_of new) is_of goes.is_of.of_shelf goes.hands_on (at.stands awake).names_holders
      (λ d rose. risen_itself (old.disk d).write_faults (new.disk d).write_faults rose))

  pub step_stays : f.halted ≡ false → (logged background : ℕ) → f.array.log.count ≡ logged → f.array.background.facts ≡ background → (stop : Stop)
      → IsAsBefore (record from { logged = logged; boot = f.array.register.record; memory = told_of f.array.memory.memory; background = background }) (point_after f from.array stop from)
  step_stays halted logged background count behind stop = record {
    array = refl;
    logged = cond-false f.halted from.logged f.array.log.count halted ∙ count;
    boot = cond-false f.halted from.boot f.array.register.record halted;
    memory = cond-false f.halted from.memory (told_of f.array.memory.memory) halted;
    background = cond-false f.halted from.background f.array.background.facts halted ∙ behind;
  }

  -- ---- its answer, where the array accepts the request

  module _ (r : Request) (sectors : List (List ℕ)) (accepted : refusal from.array r ≡ None) where
    abbrev IsAccepted : Answer → Point → Type 0
    IsAccepted q to = AnswersAccepted told (geometry_of old) (failed_in old new) (lost_in old new) from r sectors q to

    by_accepted : (q : Answer) (to : Point) → IsAccepted q to → Answers told (geometry_of old) (failed_in old new) (lost_in old new) from (Asked r sectors) q to
    by_accepted q to h = subst (λ (b : Bool). AnswersRequest b (refusal from.array r) told (geometry_of old) (failed_in old new) (lost_in old new) from r sectors q to) (sym (at.halted ∙ awake))
        (subst (λ (o : Option Refusal). AnswersRequest false o told (geometry_of old) (failed_in old new) (lost_in old new) from r sectors q to) (sym accepted) h)

    -- by this answer
    pub step_said : (s : Said) (q : Answer) → Says f.array.memory.memory f.buffers.reply.items s q → IsAnswer q → Goes by_faults old new e.array f.array commands → f.halted ≡ false
        → ((stop : Stop) → IsAccepted q (point_after f (after_all from.array commands) stop from)) → IsAnsweredAt told old new e f (Asked r sectors) s from
    step_said s q says whole goes halted done = goes_answered told old new e f commands from honest at awake goes halted is_of (Asked r sectors) s q says whole
        (λ stop. by_accepted q (point_after f (after_all from.array commands) stop from) (done stop))

    pub step_done : Goes by_faults old new e.array f.array commands → f.halted ≡ false
        → ((stop : Stop) → IsAccepted (Line reply.Done) (point_after f (after_all from.array commands) stop from)) → IsAnsweredAt told old new e f (Asked r sectors) said.Done from
    step_done goes halted done = step_said said.Done (Line reply.Done) refl tt goes halted done

    pub step_refused : (stays : Type 0) → (stays → IsLike e.array f.array × (f.room ≡ e.room) × (new ≡ old)) → (why : Refusal) → Leaves old new e.array stays commands why → f.halted ≡ ends_lost {T = Unit {0}} (Err why)
        → ((q : Answer) (to : Point) → IsEnd (geometry_of old) (lost_in old new) why from q to → IsAccepted q to) → IsAnsweredAt told old new e f (Asked r sectors) (said.Refused why) from
    step_refused stays same refusals.Device halts halted cause = halts_answered told old new e f from at awake is_of commands halts halted (Asked r sectors)
        (λ stop h. by_accepted (refused refusals.Device) (point_after f from.array stop from) (cause (refused refusals.Device) (point_after f from.array stop from) h))
    step_refused stays same why is halted cause = stays_answered told old new e f from at awake halted (same is).0 (same is).2 (Asked r sectors) why
        (λ stop h. by_accepted (refused why) (point_after f from.array stop from) (cause (refused why) (point_after f from.array stop from) h))
