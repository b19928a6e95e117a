-- What a session needs of an array that goes on, stays or is to halt: where it stands then, and what a stop leaves.
use Rattle.array_engine.proofs.Prelude.{◌≡◌, ◌⊎◌, inl, inr, Bool, true, false, List, [], ◌∷◌, ◌++◌, None, refl, sym, ap, subst, ◌∙◌, cond-false, cond-true, Device, Item, Asked, refusal, Answer, refused, Refusal, IsAnswer, Command, IsLogged, after, after_all, names, geometry_of, Shelved, Stop, LeavesOnly, weaker, facts, Point, Answers, IsFailed, IsRefused, named_sound, told_of, IsRegisterOf, Content, array_of, Array, HasEnough, named_enough, SegmentsHold, IsReady, by_faults, AgreesFor, GoesOnAt, IsOnWay, Goes, GoesOnMeanwhile, Halts, ReadsOn, IsLike, MayDo, Engine, Said, Says, failed_in, lost_in, IsAnsweredAt, IsAt, IsKeptBy, MayBeDone, StandsAt, point_after}
use Rattle.pur_base.specs.Plain as plain
use Rattle.pur_base.specs.declared.reply.Refusal.TheVariants as refusals
use Rattle.array_core.proofs.ReadyStands.{agrees_named}
use Rattle.array_engine.specs.declared.said.Said.TheVariants as said
use Rattle.array_engine.proofs.Named.{named_at, named_holds}
use Rattle.register.proofs.Opened.{is_named}
use Rattle.array_engine.proofs.Points.{KeepsReady, KeepsSegments, answered_refused}

-- ---- it goes on

module _ (told : Bool) (old new : Shelved) (e f : Engine) (commands : List Command) (from : Point) (honest : told ≡ true → old.honest) (at : IsAt told old e from) (awake : e.halted ≡ false)
    (goes : Goes by_faults old new e.array f.array commands) (halted : f.halted ≡ false) (is_of : IsRegisterOf (geometry_of old) e.array.register) where
  abbrev s : StandsAt told old e.array from
  s = at.stands awake

  abbrev to : Stop → Point
  to stop = point_after f (after_all from.array commands) stop from

  abbrev on : ReadsOn old new e.array f.array s.contents (after_all from.array commands)
  on = goes.reads s.contents from.array s.reads

  enough : HasEnough f.array.register
  enough = goes.hands_on.enough s.enough

  -- what its record names holds the array, and so lost no write
  unlost : (d : Device) → names f.array.register.record d ≡ true → (new.disk d).write_faults ≡ (old.disk d).write_faults
  unlost d named = elim (goes.hands_on.unlost d (named_holds (geometry_of new) f.array goes.is_of.of_shelf (goes.hands_on.names_holders s.names_holders) d named)) [
    | inl same ↦ same
    | inr joined ↦ absurd (cc joined)
  ]

  -- the engine stands at the point behind it
  at_behind : (stop : Stop) → IsAt told new f (to stop)
  at_behind stop = record {
    halted = refl;
    stands = λ awake_then. record {
      logged = cond-false f.halted from.logged f.array.log.count halted;
      boot = cond-false f.halted from.boot f.array.register.record halted;
      memory = cond-false f.halted from.memory (told_of f.array.memory.memory) halted;
      background = cond-false f.halted from.background f.array.background.facts halted;
      contents = on.more;
      reads = on.reads;
      hold = λ t. on.hold (honest t) (s.hold t);
      names_holders = goes.hands_on.names_holders s.names_holders;
      enough = enough;
      borne = named_enough (geometry_of new) f.array.register goes.is_of.of_shelf (goes.hands_on.names_holders s.names_holders).0 enough;
    };
  }

  -- and honest devices hold its array
  ready_behind : old.honest → (held : Content) → IsReady old e.array held → from.array ≡ array_of held → (more : Content) × IsReady new f.array more × (after_all from.array commands ≡ array_of more)
  ready_behind h held ready is = let next = goes.holds h from.array (record { held = held; ready = ready; is = is }) in (next.held, next.ready, next.is)

  -- so the item is answered, once its answer has its cause
  pub goes_answered : (item : Item) (said : Said) (q : Answer) → Says f.array.memory.memory f.buffers.reply.items said q → IsAnswer q
      → ((stop : Stop) → Answers told (geometry_of old) (failed_in old new) (lost_in old new) from item q (to stop)) → IsAnsweredAt told old new e f item said from
  goes_answered item said q says whole answers = record {
    reply = q;
    says = says;
    whole = whole;
    array = after_all from.array commands;
    answers = answers;
    at = at_behind;
    unlost = λ awake_then. unlost;
    ready = λ h awake_then held ready is. ready_behind h held ready is;
  }

-- ---- it is to halt, or stays

module _ (told : Bool) (old new : Shelved) (e f : Engine) (from : Point) (at : IsAt told old e from) (awake : e.halted ≡ false) where
  abbrev here : Stop → Point
  here stop = point_after f from.array stop from

  pub halts_answered : IsRegisterOf (geometry_of old) e.array.register → (commands : List Command) → Halts by_faults old new e.array commands → f.halted ≡ true → (item : Item) → ((stop : Stop) → IsFailed (geometry_of old) (lost_in old new) from (refused refusals.Device) (here stop)
      → Answers told (geometry_of old) (failed_in old new) (lost_in old new) from item (refused refusals.Device) (here stop)) → IsAnsweredAt told old new e f item (said.Refused refusals.Device) from
  halts_answered is_of commands halts halted item cause = record {
    reply = refused refusals.Device;
    says = refl;
    whole = tt;
    array = from.array;
    answers = λ stop. cause stop (record {
      unborne = halts.unborne (named_sound from.boot) (λ d sound. (named_at told old e.array from is_of (at.stands awake) d (is_named (names from.boot d) sound), refl));
      reply = refl;
      stays = record {
        array = refl;
        logged = cond-true f.halted from.logged f.array.log.count halted;
        boot = cond-true f.halted from.boot f.array.register.record halted;
        memory = cond-true f.halted from.memory (told_of f.array.memory.memory) halted;
        background = cond-true f.halted from.background f.array.background.facts halted;
      };
      halted = halted;
    });
    at = λ stop. record { halted = refl; stands = λ still. absurd (cc (still, halted)) };
    unlost = λ still. absurd (cc (still, halted));
    ready = λ h still held ready is. absurd (cc (still, halted));
  }

  -- nothing has changed but room in memory
  module _ (halted : f.halted ≡ false) (like : IsLike e.array f.array) (same : new ≡ old) where
    keeps_segments : KeepsSegments told old new f.array
    keeps_segments = record {
      hold = λ t contents h. subst (λ (x : Shelved). SegmentsHold contents x f.array.register (facts f.array.memory.memory.tables)) (sym same) h;
      write_faults = λ d. ap (λ (x : Shelved). (x.disk d).write_faults) same;
      size = ap geometry_of (sym same);
    }

    keeps_ready : KeepsReady old new f.array
    keeps_ready honest held h = subst (λ (x : Shelved). IsReady x f.array held) (sym same) h

    pub stays_answered : (item : Item) (why : Refusal) → ((stop : Stop) → IsRefused why from (refused why) (here stop) → Answers told (geometry_of old) (failed_in old new) (lost_in old new) from item (refused why) (here stop))
        → IsAnsweredAt told old new e f item (said.Refused why) from
    unfolding keeps_segments keeps_ready
    stays_answered item why cause = answered_refused told old new e f like (halted ∙ sym awake) keeps_segments from at keeps_ready item why cause

-- ---- at a stop

module _ (old : Shelved) (a : Array) (x : plain.Array) (item : Item) where
  agrees : AgreesFor by_faults a.register.record (named_sound a.register.record)
  agrees = let named = agrees_named a.register.record in record { sound = λ d e. (named.sound d e, refl); left_out = λ d e. (named.left_out d e, refl) }

  -- the arrays on the way are those that the item may leave
  kept_at : (commands : List Command) → ((y : plain.Array) → IsOnWay x commands y → (y ≡ x) ⊎ MayBeDone a x item y) → (stop : Stop) → GoesOnAt by_faults old a.register.record x commands stop → IsKeptBy old a x item stop
  kept_at commands each stop at borne =
      let here = at (named_sound a.register.record) agrees borne in
      (here.arrays, λ y has. each y (here.each y has), here.standing)

no_command : (x y : plain.Array) → IsOnWay x [] y → y ≡ x
no_command x y on = none on.front on.rest on.whole on.is
  where
    none : (front rest : List Command) → [] ≡ front ++ rest → y ≡ after_all x front → y ≡ x
    none [] rest whole is = is
    none (d ∷ ds) rest whole is = absurd (cc whole)

one_command : (x : plain.Array) (c : Command) (y : plain.Array) → IsOnWay x (c ∷ []) y → (y ≡ x) ⊎ (y ≡ after x c)
one_command x c y on = one on.front on.rest on.whole on.is
  where
    one : (front rest : List Command) → c ∷ [] ≡ front ++ rest → y ≡ after_all x front → (y ≡ x) ⊎ (y ≡ after x c)
    one [] rest whole is = inl is
    one (d ∷ []) rest whole is = let same : c ≡ d = cc whole in inr (is ∙ ap (λ (k : Command). after x k) (sym same))
    one (d ∷ k ∷ ds) rest whole is = absurd (cc whole)

-- the same array, whatever is asked
pub kept_same : (old : Shelved) (a : Array) (x : plain.Array) (item : Item) (stop : Stop) → GoesOnAt by_faults old a.register.record x [] stop → IsKeptBy old a x item stop
kept_same old a x item stop at = kept_at old a x item [] (λ y on. inl (no_command x y on)) stop at

module _ (old new : Shelved) (a : Array) (h : old.honest) (held : Content) (ready : IsReady old a held) where
  pub keeps_same : GoesOnMeanwhile by_faults old new a [] → (item : Item) → LeavesOnly old new (IsKeptBy old a (array_of held) item)
  keeps_same moments item = weaker (λ stop at. kept_same old a (array_of held) item stop at) (moments h (array_of held) (record { held = held; ready = ready; is = refl }))

  -- a command that is accepted, with room for it
  pub keeps_command : (c : Command) → GoesOnMeanwhile by_faults old new a (c ∷ []) → IsLogged c.request → refusal (array_of held) c.request ≡ None → MayDo c.request a → LeavesOnly old new (IsKeptBy old a (array_of held) (Asked c.request c.sectors))
  keeps_command c moments logs accepted room = weaker (λ stop at. kept_at old a (array_of held) (Asked c.request c.sectors) (c ∷ []) (λ y on. elim (one_command (array_of held) c y on) [
    | inl without ↦ inl without
    | inr with ↦ inr (record { accepts = (logs, accepted, with); room = room })
  ]) stop at) (moments h (array_of held) (record { held = held; ready = ready; is = refl }))
