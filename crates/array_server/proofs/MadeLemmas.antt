-- What is said of an array that was made.
use Rattle.register.proofs.Rounds.{same_shelf}
use Rattle.array_server.proofs.Prelude.{arith, append-nil, ◌≡◌, ◌↔◌, inl, inr, ℕ, List, [], ◌∷◌, ◌++◌, Err, refl, sym, ap, subst, ◌∙◌, nat_tests, Device, Status, line_text, sectors_text, Geometry, IsBearable, Stands, geometry_of, Shelved, Disk, Stop, MayStop, MayLeave, OutputOnly, Continues, IsSame, IsShelf, LeavesOnly, LeavesBut, WritesOnly, Streamed, SameStream, RisesIf, is_sink, LeftOutAreNamedByNone, HasRoom, IsStanding, none_missing, AreClean, GivesBody, IsBlank, IsInMaking, IsMade, IsNoneOrEmpty, Makes, MakesBy, NoneFailed, Gave, InitsOn, IsCountedEnd, IsInitEnd, IsJudgedEnd, IsMadeOutput, IsMadeEnd, IsInitStatus}
use Rattle.pur_base.specs.declared.reply.Reply.TheVariants as reply
use Rattle.pur_base.specs.declared.reply.Status.TheVariants as status
use Rattle.shelf_init.specs.Laws.{StayBlank}

pub said : (before after : List ℕ) → after ≡ before ++ (line_text reply.Done ++ sectors_text []) → IsMadeOutput status.Done before after
said before after e = e ∙ ap (λ (x : List ℕ). before ++ x) (append-nil (line_text reply.Done))

pub said-in-part : {E : Type 0} (e : E) (before after : List ℕ) → Gave {E = E} (Err e) before after (line_text reply.Done ++ sectors_text []) → IsMadeOutput status.Sink before after
said-in-part e before after g = (g.0, g.1, g.2, sym (append-nil (line_text reply.Done)) ∙ g.3, g.4)

-- what follows from how it ended
pub made-is-init : (s : Status) → IsMadeEnd s → IsInitStatus s
made-is-init s h = grind (arith, nat_tests)

pub made-counts : (s : Status) (old new : Shelved) → IsMadeEnd s → NoneFailed old new → IsCountedEnd s old new
made-counts s old new h k = grind (arith, nat_tests)

pub made-judged : (s : Status) (old new : Shelved) → IsMadeEnd s → IsBlank old → IsJudgedEnd s old new
made-judged s old new h k = grind (arith, nat_tests)

pub made-not-memory : (s : Status) → IsMadeEnd s → s ≡ status.Memory → ⊥
made-not-memory s is e = subst IsMadeEnd e is

-- a stream that stays tells as it told
pub same-honest : {a b : Streamed} → SameStream a b → a.honest ↔ b.honest
same-honest same = (same.honest, same.honest_before)

-- ---- at a stop

-- where no byte may be written each device holds what it held
kept-at : (old : Shelved) (stop : Stop) → LeavesBut (λ d i. ⊥) old stop → (d : Device) → MayLeave (old.disk d) (stop.image d)
kept-at old stop left d = let may = left.bytes d in record { size = may.size; is_byte = may.is_byte; clean = λ i clean. may.same i clean (λ none. none) }

-- before any call
pub before-making : (s : Shelved) → IsShelf s → StayBlank s → AreClean s → (stop : Stop) → s.left_since s.moment stop → IsInMaking s stop
before-making s is stay clean stop left =
    let may = is.only_now stop left in
    record {
      untaken = may.taken;
      kept = λ gives d. may.device d;
      blank = λ none. stay clean none stop may;
      told = inl may.output;
    }

-- while the devices are called nothing is given
pub while-making : {W : Device → ℕ → Type 0} (old mid : Shelved) → WritesOnly W old mid → (GivesBody old → WritesOnly (λ d i. ⊥) old mid)
    → (IsBlank old → LeavesOnly old mid (λ stop. IsNoneOrEmpty (geometry_of old) stop.image)) → (stop : Stop) → mid.left_since old.moment stop → IsInMaking old stop
while-making old mid writes kept blank stop left =
    let quiet = (writes.any_moment.each stop left).0 in
    record {
      untaken = quiet.taken;
      kept = λ gives. kept-at old stop ((kept gives).any_moment.each stop left).1;
      blank = λ none. ((blank none).each stop left).1;
      told = inl quiet.output;
    }

-- nothing was made
pub unmade : {W : Device → ℕ → Type 0} (s : Status) (old mid : Shelved) → (IsMadeEnd s → ⊥) → IsJudgedEnd s old mid → WritesOnly W old mid → (GivesBody old → WritesOnly (λ d i. ⊥) old mid)
    → (AreClean old → IsBlank old → LeavesOnly old mid (λ stop. IsNoneOrEmpty (geometry_of old) stop.image)) → InitsOn s old mid
unmade s old mid none judged writes kept blank = record { judged = judged; made = λ clean is. absurd (none is); each = λ clean. while-making old mid writes kept (blank clean) }

pub same-disk : {was now : Disk} → now ≡ was → IsSame was now
same-disk e = record { bytes = ap (λ (x : Disk). x.bytes) e; dirty = ap (λ (x : Disk). x.dirty) e }

-- ---- an array that was made stays so while output is given

module _ (a b : Shelved) (only : OutputOnly a b) where
  -- what may be left now might have been left before, with the output and the input of then
  stop-on : (stop : Stop) → MayStop b stop → MayStop a (record stop { output = a.output; taken = a.taken })
  stop-on stop may = grind (arith, nat_tests)

  abbrev before-it : Stop → Stop
  before-it stop = record stop { output = a.output; taken = a.taken }

  pub made-on : IsMade a → IsMade b
  made-on m = record {
    enters = record {
      bearable = subst (λ (g : Geometry). IsBearable g none_missing) (same_shelf only.continues) m.enters.bearable;
      stands = λ stop may. subst (λ (g : Geometry). Stands g stop.image none_missing ([] ∷ [])) (same_shelf only.continues) (m.enters.stands (before-it stop) (stop-on stop may));
      clean = λ d sound. ap (λ (x : Disk). x.dirty) (only.disk d) ∙ m.enters.clean d sound;
      left_out = λ stop may. subst (λ (g : Geometry). LeftOutAreNamedByNone g stop.image none_missing) (same_shelf only.continues) (m.enters.left_out (before-it stop) (stop-on stop may));
      room = λ stop may. subst (λ (g : Geometry). HasRoom g stop.image none_missing) (same_shelf only.continues) (m.enters.room (before-it stop) (stop-on stop may));
    };
    first = λ stop may. subst (λ (g : Geometry). IsNoneOrEmpty g stop.image) (same_shelf only.continues) (m.first (before-it stop) (stop-on stop may));
  }

  -- once the reply is begun the array stands
  pub told-at : (old : Shelved) → Continues old a → (a.taken ≡ old.taken) → IsBlank old → IsMade a → ((stop : Stop) → a.left_since old.moment stop → IsInMaking old stop)
      → (stop : Stop) → b.left_since old.moment stop → IsInMaking old stop
  told-at old on untaken blank made before stop left = elim (only.nothing_else old.moment stop on.later left) [
    | inl was ↦ before stop was
    | inr giving ↦
        let may : MayStop a (before-it stop) = record { device = giving.device; counts = record { faults = giving.counts.faults; write_faults = giving.counts.write_faults }; output = refl; taken = refl } in
        let same : geometry_of a ≡ geometry_of old = sym (same_shelf on) in
        let standing : IsStanding (geometry_of a) stop.image none_missing ([] ∷ []) = record { stands = made.enters.stands (before-it stop) may; left_out = made.enters.left_out (before-it stop) may } in
        record {
          untaken = giving.taken ∙ untaken;
          kept = λ gives. absurd (blank gives);
          blank = λ none. subst (λ (g : Geometry). IsNoneOrEmpty g stop.image) same (made.first (before-it stop) may);
          told = inr (blank, subst (λ (g : Geometry). IsStanding g stop.image none_missing ([] ∷ [])) same standing);
        }
  ]

  pub none-failed-on : (old : Shelved) → NoneFailed old a → NoneFailed old b
  none-failed-on old none d is = subst (λ (x : Disk). (x.faults ≡ (old.disk d).faults) × (x.write_faults ≡ (old.disk d).write_faults)) (sym (only.disk d)) (none d is)

-- ---- the whole

makes-by : (s : Status) (old new : Shelved) → IsInitStatus s → IsCountedEnd s old new → IsJudgedEnd s old new → (IsMadeEnd s → IsMade new) → IsMadeOutput s old.output new.output → MakesBy s old new
makes-by s old new h k l m n = grind (arith, nat_tests)

pub makes : (s : Status) (old new : Shelved) (sink given : Streamed) → RisesIf (is_sink s) sink.faults given.faults → IsInitEnd s old new → InitsOn s old new
    → (old.output ≡ sink.bytes) → (new.output ≡ given.bytes) → IsMadeOutput s sink.bytes given.bytes → Makes old new sink given s
makes s old new sink given counts ended on before after gave = grind (arith, nat_tests, makes-by)
