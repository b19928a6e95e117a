-- The point behind a logged request.
use Rattle.array_engine.proofs.Prelude.{◌≡◌, inl, inr, ℕ, ◌+◌, Bool, true, false, List, [], ◌∷◌, Option, Some, None, Result, Ok, Err, OnOk, IfErr, refl, sym, ap, subst, ◌∙◌, cond-false, Device, Request, Refusal, Command, IsLogged, after, Geometry, Asked, refusal, done, Answer, Line, given, after_unless, BootRecord, Shelved, IsShelf, LeavesOnly, Stop, geometry_of, next_after, Memory, patches, told_of, Point, AnswersAccepted, IsAppendedBehind, IsDone, MayRise, Where, DropsOnlyLost, Array, Background, IsReady, by_faults, Goes, IsLike, Engine, IsAppended, IsAppendFault, IsCleared, failed_in, lost_in, IsAt, IsKeptBy, StandsAt, IsAnsweredAt, point_after, said_of, ends_lost, Content, IsRegisterOf, array_of}
use Rattle.session_spec.specs.Prelude.{IsAppended as IsAppendedAt}
use Rattle.pur_base.specs.declared.request.Request.TheVariants as request
use Rattle.pur_base.specs.declared.reply.Refusal.TheVariants as refusals
use Rattle.pur_base.specs.declared.reply.Reply.TheVariants as reply
use Rattle.pur_base.specs.Plain as plain
use Rattle.session_spec.specs.Faring as faring
use Rattle.array_core.proofs.Applied.{same_patches}
use Rattle.array_engine.proofs.Named.{drops_at}
use Rattle.array_engine.proofs.AtPoint.{keeps_command, keeps_same}
use Rattle.array_engine.proofs.Faults.{append_leaves}
use Rattle.array_core.proofs.TakenIn.{nothing_meanwhile}
use Rattle.array_engine.proofs.Steps.{IsEnd, step_done, step_refused}
use Rattle.array_engine.proofs.Rooms.{where_not, where_so, full_is, free_is, with_room_for, without_room_for}
use Rattle.array_engine.proofs.Behind.{between, checkpointed}

-- ---- slots of the log

where_either : (b : Bool) {one other : Type 0} → one → other → Where b one other
where_either true h k = h
where_either false h k = k

-- ---- what is answered

-- how a logged request is answered
accepted_logged : (told : Bool) (shelf : Geometry) (failed lost : Device → Bool) (from : Point) (sectors : List (List ℕ)) (q : Answer) (to : Point) (r : Request) → IsLogged r
    → faring.IsLogged shelf lost from r sectors q to → AnswersAccepted told shelf failed lost from r sectors q to
accepted_logged told shelf failed lost from sectors q to (request.Create n size) logs h = h
accepted_logged told shelf failed lost from sectors q to (request.Write n lba count) logs h = h
accepted_logged told shelf failed lost from sectors q to (request.Fill n lba count byte) logs h = h
accepted_logged told shelf failed lost from sectors q to (request.Zero n lba count) logs h = h
accepted_logged told shelf failed lost from sectors q to (request.Snapshot n new) logs h = h
accepted_logged told shelf failed lost from sectors q to (request.Clone n new) logs h = h
accepted_logged told shelf failed lost from sectors q to (request.Copy n lba m at count) logs h = h
accepted_logged told shelf failed lost from sectors q to (request.Destroy n) logs h = h
accepted_logged told shelf failed lost from sectors q to _ logs h = absurd logs

-- what is answered to a logged request that isn't refused
given_logged : (a : plain.Array) (r : Request) → IsLogged r → Line reply.Done ≡ given a r
given_logged a (request.Read n lba count) logs = absurd logs
given_logged a request.List logs = absurd logs
given_logged a _ logs = refl

-- what a request that isn't refused leaves
after_accepted : (o : Option Refusal) (a b : plain.Array) → o ≡ None → after_unless o a b ≡ b
after_accepted None a b e = refl
after_accepted (Some why) a b e = absurd cc

-- What a logged request makes of the engine, which wasn't halted and whose array accepts it.
module _ (told : Bool) (old new : Shelved) (e f : Engine) (r : Request) (sectors : List (List ℕ)) (stays : Type 0) (from : Point) (honest : told ≡ true → old.honest)
    (at : IsAt told old e from) (awake : e.halted ≡ false) (logs : IsLogged r) (accepted : refusal from.array r ≡ None) (same : stays → IsLike e.array f.array × (f.room ≡ e.room) × (new ≡ old)) (is_of : IsRegisterOf (geometry_of old) e.array.register) where
  abbrev c : Command
  c = record { request = r; sectors = sectors }

  abbrev s : StandsAt told old e.array from
  s = at.stands awake

  was_awake : from.halted ≡ false
  was_awake = at.halted ∙ awake

  by_logged : (q : Answer) (to : Point) → faring.IsLogged (geometry_of old) (lost_in old new) from r sectors q to → AnswersAccepted told (geometry_of old) (failed_in old new) (lost_in old new) from r sectors q to
  by_logged q to h = accepted_logged told (geometry_of old) (failed_in old new) (lost_in old new) from sectors q to r logs h

  -- it was done
  module _ (p : IsAppended old new e.array f.array c) (halted : f.halted ≡ false) where
    module _ (stop : Stop) where
      abbrev to : Point
      to = point_after f (after from.array c) stop from

      done_at : (m : Point) → m.array ≡ from.array → m.logged ≡ p.mid.log.count → m.boot ≡ p.mid.register.record → m.memory ≡ told_of p.mid.memory.memory → m.background ≡ f.array.background.facts → m.halted ≡ from.halted
          → DropsOnlyLost (lost_in old new) p.mid.register.record f.array.register.record → IsDone (lost_in old new) m r sectors (Line reply.Done) to
      done_at m array logged boot memory behind halts drops = record {
        reply = given_logged m.array r logs;
        array = after_accepted (refusal from.array r) from.array (done from.array r sectors) accepted ∙ ap (λ (x : plain.Array). done x r sectors) (sym array);
        logged = cond-false f.halted from.logged f.array.log.count halted ∙ p.logged.count ∙ ap (λ (n : ℕ). n + 1) (sym logged);
        boot = subst (λ (b : BootRecord). MayRise (lost_in old new) b to.boot) (sym boot)
            (subst (λ (b : BootRecord). MayRise (lost_in old new) p.mid.register.record b) (sym (cond-false f.halted from.boot f.array.register.record halted)) p.logged.boot);
        members = subst (λ (b : BootRecord). DropsOnlyLost (lost_in old new) b to.boot) (sym boot)
            (subst (λ (b : BootRecord). DropsOnlyLost (lost_in old new) p.mid.register.record b) (sym (cond-false f.halted from.boot f.array.register.record halted)) drops);
        patches = ap (λ (k : Memory). patches k.tables) (cond-false f.halted from.memory (told_of f.array.memory.memory) halted) ∙ same_patches p.mid.memory.memory.tables f.array.memory.memory.tables p.logged.patches ∙ ap (λ (k : Memory). patches k.tables) (sym memory);
        next =
            let before = p.before s.contents from.array s.reads in
            ap (λ (k : Memory). k.next) (cond-false f.halted from.memory (told_of f.array.memory.memory) halted) ∙ p.logged.next before.0 from.array before.1 ∙ ap (λ (k : Memory). next_after from.array k.next r) (sym memory) ∙ ap (λ (x : plain.Array). next_after x m.memory.next r) (sym array);
        background = cond-false f.halted from.background f.array.background.facts halted ∙ sym behind;
        halted = halted ∙ sym was_awake ∙ sym halts;
      }

      done_behind : IsCleared old e.array p.mid
          → Where (faring.is_full from) (IsAppendedBehind (geometry_of old) (lost_in old new) from r sectors (Line reply.Done) to) (IsAppendedAt (geometry_of old) (lost_in old new) from r sectors (Line reply.Done) to)
      done_behind (inl (free, is)) = where_not (faring.is_full from) _ (free_is s free) (inl (done_at from refl
          (s.logged ∙ ap (λ (x : Array). x.log.count) (sym is))
          (s.boot ∙ ap (λ (x : Array). x.register.record) (sym is))
          (s.memory ∙ ap (λ (x : Array). told_of x.memory.memory) (sym is))
          (s.background ∙ ap (λ (x : Array). x.background.facts) (sym is) ∙ sym (ap (λ (b : Background). b.facts) p.logged.background))
          refl (p.drops s.names_holders)))
      done_behind (inr (full, is, flushed)) =
          let before = p.before s.contents from.array s.reads in
          where_so (faring.is_full from) _ (full_is s full) (inl (between from p.mid, checkpointed s p.mid is flushed before.0 before.1, drops_at s (p.drops_before s.names_holders), done_at (between from p.mid) refl (sym flushed.none) refl refl (sym (ap (λ (b : Background). b.facts) (p.logged.background ∙ flushed.background))) refl (p.drops s.names_holders)))

  -- it wasn't
  ends : (why : Refusal) → IsAppendFault old new e.array stays c why → (q : Answer) (to : Point) → IsEnd (geometry_of old) (lost_in old new) why from q to → faring.IsLogged (geometry_of old) (lost_in old new) from r sectors q to
  ends refusals.Memory w q to h = with_room_for s r q to _ w.0 (where_so (faring.is_full from) _ (full_is s w.1) (inr (inl h)))
  ends refusals.Device w q to h = with_room_for s r q to _ w.0 (where_either (faring.is_full from) (inr (inr h)) (inr h))
  ends why w q to h = without_room_for s r q to _ why w.0 h

  pub command_answered : (ended : Result Unit Refusal) → OnOk ended (Goes by_faults old new e.array f.array (c ∷ [])) → OnOk ended (IsAppended old new e.array f.array c) → IfErr ended (λ x. IsAppendFault old new e.array stays c x)
      → f.halted ≡ ends_lost ended → IsAnsweredAt told old new e f (Asked r sectors) (said_of ended) from
  command_answered (Ok u) goes p none halted = step_done told old new e f (c ∷ []) from honest at awake is_of r sectors accepted goes halted (λ stop.
      by_logged (Line reply.Done) (point_after f (after from.array c) stop from) (with_room_for s r (Line reply.Done) (point_after f (after from.array c) stop from) _ p.room (done_behind p halted stop p.cleared)))
  command_answered (Err why) goes p w halted = step_refused told old new e f (c ∷ []) from honest at awake is_of r sectors accepted stays same why (append_leaves old new e.array stays c why w) halted (λ q to h. by_logged q to (ends why w q to h))

-- At every moment a session can go on, with the array without it, or with it where there is room for it.
module _ (old new : Shelved) (a b : Array) (r : Request) (sectors : List (List ℕ)) (stays : Type 0) (is : IsShelf old) (honest : old.honest)
    (held : Content) (ready : IsReady old a held) (logs : IsLogged r) (accepted : refusal (array_of held) r ≡ None) (same : stays → new ≡ old) where
  abbrev command : Command
  command = record { request = r; sectors = sectors }

  pub command_kept : (ended : Result Unit Refusal) → OnOk ended (Goes by_faults old new a b (command ∷ [])) → OnOk ended (IsAppended old new a b command) → IfErr ended (λ x. IsAppendFault old new a stays command x)
      → LeavesOnly old new (IsKeptBy old a (array_of held) (Asked r sectors))
  command_kept (Ok u) goes p w = keeps_command old new a honest held ready command goes.any_moment logs accepted p.room
  command_kept (Err refusals.Device) goes p w = keeps_command old new a honest held ready command w.1.any_moment logs accepted w.0
  command_kept (Err why) goes p w = keeps_same old new a honest held ready (nothing_meanwhile old new (same (append_leaves old new a stays command why w)) is a []) (Asked r sectors)
