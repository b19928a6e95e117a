-- The point behind a flattening that was asked for.
use Rattle.array_engine.proofs.Prelude.{◌≡◌, inl, inr, ℕ, Bool, true, false, List, [], None, Result, Ok, Err, OnOk, IfOk, IfErr, refl, sym, ap, subst, ◌∙◌, cond-false, Reply, Refusal, Asked, refusal, Answer, IsAnswer, Line, BootRecord, Geometry, Memory, Shelved, Stop, geometry_of, patches, DropsOnlyLost, Point, IsFlattening, told_of, FLATTEN_GROUPS, LIMITED_SEGMENTS, FrontPasses, IsMediumOf, IsRegisterOf, Array, by_faults, Goes, IsLike, Engine, Said, lost_in, IsAt, StandsAt, IsAnsweredAt, point_after, said_of_flattening, ends_lost, HasReply, Says}
use Rattle.pur_base.specs.declared.request.Request.TheVariants as request
use Rattle.pur_base.specs.declared.reply.Refusal.TheVariants as refusals
use Rattle.session_spec.specs.Faring as faring
use Rattle.array_core.proofs.Applied.{same_patches}
use Rattle.medium_flattener.specs.declared.flattening.Flattened.{Flattened}
use Rattle.medium_flattener.specs.declared.flattening.Flattened.TheVariants as flattened
use Rattle.medium_flattener.specs.Made.{HasRoom, IsFaultOf, IsFlat, IsFlatOf, MustClear, reply_of}
use Rattle.array_engine.specs.declared.said.Said.TheVariants as said
use Rattle.array_engine.proofs.Behind.{between, checkpointed}
use Rattle.array_engine.proofs.Faults.{flatten_leaves}
use Rattle.array_engine.proofs.Rooms.{with_room, without_room}
use Rattle.array_engine.proofs.Steps.{IsEnd, step_members, step_refused, step_said}
use Rattle.array_engine.proofs.Told.{told_fits, told_flattens, told_medium, told_passes}

-- no sectors are given
pub flattening_there : (bytes : List ℕ) (start : ℕ) (ended : Result Flattened Refusal) → HasReply bytes start (said_of_flattening ended)
flattening_there bytes start (Ok flattened.Done) = tt
flattening_there bytes start (Ok flattened.Left) = tt
flattening_there bytes start (Ok flattened.Idle) = tt
flattening_there bytes start (Err why) = tt

-- a point at which the array stands that takes the front in
record IsCleared (shelf : Geometry) (medium : ℕ) (from : Point) (mid : Array) (p : Point) : Type 0 where
  first : faring.IsClearedFor shelf medium from p
  array : p.array ≡ from.array
  logged : p.logged ≡ mid.log.count
  boot : p.boot ≡ mid.register.record
  memory : p.memory ≡ told_of mid.memory.memory
  background : p.background ≡ mid.background.facts
  halted : p.halted ≡ from.halted

-- What a flattening makes of the engine, which wasn't halted.
module _ (told : Bool) (old new : Shelved) (e f : Engine) (n : List ℕ) (sectors : List (List ℕ)) (stays : Type 0) (from : Point) (honest : told ≡ true → old.honest)
    (at : IsAt told old e from) (awake : e.halted ≡ false) (same : stays → IsLike e.array f.array × (f.room ≡ e.room) × (new ≡ old)) (is_of : IsRegisterOf (geometry_of old) e.array.register)
    (accepted : refusal from.array (request.Flatten n) ≡ None) where
  abbrev stood : StandsAt told old e.array from
  stood = at.stands awake

  abbrev to : Stop → Point
  to stop = point_after f from.array stop from

  medium_at : (medium : ℕ) → IsMediumOf e.array.memory.memory n medium → IsMediumOf from.memory n medium
  medium_at medium is = subst (λ (m : Memory). IsMediumOf m n medium) (sym stood.memory) (told_medium e.array.memory.memory n medium is)

  passes_at : (medium : ℕ) → FrontPasses medium e.array.memory.memory e.array.background.facts → FrontPasses medium from.memory from.background
  passes_at medium passes = rw (stood.memory, stood.background) (told_passes e.array.memory.memory medium e.array.background.facts passes)

  -- where the front is taken in
  cleared_at : (medium : ℕ) (reply : Reply) (flat : IsFlat (geometry_of old) medium reply e.array f.array) → (p : Point) × IsCleared (geometry_of old) medium from flat.cleared p
  cleared_at medium reply flat = elim flat.first [
    | inl here ↦ (
      from,
      record {
        first = inl (rw (stood.memory, stood.background) (told_fits e.array.memory.memory medium e.array.background.facts here.0), refl);
        array = refl;
        logged = stood.logged ∙ ap (λ (x : Array). x.log.count) (sym here.1);
        boot = stood.boot ∙ ap (λ (x : Array). x.register.record) (sym here.1);
        memory = stood.memory ∙ ap (λ (x : Array). told_of x.memory.memory) (sym here.1);
        background = stood.background ∙ ap (λ (x : Array). x.background.facts) (sym here.1);
        halted = refl;
      },
    )
    | inr behind ↦ (
        let before = flat.before stood.contents from.array stood.reads in (
          between from flat.cleared,
          record {
            first = inr (passes_at medium behind.0, checkpointed stood flat.cleared behind.1 behind.2 before.0 before.1);
            array = refl;
            logged = sym behind.2.none;
            boot = refl;
            memory = refl;
            background = sym (ap (λ b. b.facts) behind.2.background);
            halted = refl;
          },
        ))
  ]

  -- it was made
  done_at : Goes by_faults old new e.array f.array [] → (reply : Reply) → IsFlatOf (geometry_of old) n reply e.array f.array → f.halted ≡ false → (stop : Stop) → faring.IsFlattened (geometry_of old) (lost_in old new) n from (Line reply) (to stop)
  done_at goes reply (medium, of_name, flat) halted stop =
      let mid = flat.cleared in
      let (p, c) = cleared_at medium reply flat in
      let rest = flat.rest in
      let boot : f.array.register.record ≡ p.boot = ap (λ (x : Array). x.register.record) rest ∙ sym c.boot in
      record {
        medium = medium;
        of_name = medium_at medium of_name;
        cleared = p;
        first = c.first;
        said = reply;
        reply = refl;
        mid = record p { memory = told_of f.array.memory.memory; background = f.array.background.facts };
        flat = rw (c.memory, c.background) (told_flattens mid.memory.memory medium f.array.memory.memory mid.background.facts f.array.background.facts reply flat.flat);
        patches = same_patches mid.memory.memory.tables f.array.memory.memory.tables flat.patches ∙ ap (λ (m : Memory). patches m.tables) (sym c.memory);
        same = refl;
        members = subst (λ (b : BootRecord). DropsOnlyLost (lost_in old new) from.boot b) boot (step_members told old new e f [] from honest at awake is_of goes);
        stays = record {
          array = sym c.array;
          logged = cond-false f.halted from.logged f.array.log.count halted ∙ ap (λ (x : Array). x.log.count) rest ∙ sym c.logged;
          boot = cond-false f.halted from.boot f.array.register.record halted ∙ boot;
          memory = cond-false f.halted from.memory (told_of f.array.memory.memory) halted;
          background = cond-false f.halted from.background f.array.background.facts halted;
        };
        halted = halted ∙ sym (at.halted ∙ awake);
      }

  -- it wasn't
  must_at : MustClear n e.array → faring.MustClear n from
  must_at (medium, of_name, passes) = (medium, medium_at medium of_name, passes_at medium passes)

  ends : (why : Refusal) → IsFaultOf n old new e.array stays why → (q : Answer) (p : Point) → IsEnd (geometry_of old) (lost_in old new) why from q p → IsFlattening (geometry_of old) (lost_in old new) from n q p
  ends refusals.Memory w q p h = with_room stood LIMITED_SEGMENTS FLATTEN_GROUPS q p _ w.0 (inr (must_at w.1, inl h))
  ends refusals.Device w q p h = with_room stood LIMITED_SEGMENTS FLATTEN_GROUPS q p _ w.0 (inr (must_at w.1, inr h))
  ends why w q p h = without_room stood LIMITED_SEGMENTS FLATTEN_GROUPS q p _ why w.0 h

  -- with this answer
  said_so : (done : Flattened) (s : Said) → Says f.array.memory.memory f.buffers.reply.items s (Line (reply_of done)) → IsAnswer (Line (reply_of done)) → Goes by_faults old new e.array f.array []
      → HasRoom e.array × IsFlatOf (geometry_of old) n (reply_of done) e.array f.array → f.halted ≡ false → IsAnsweredAt told old new e f (Asked (request.Flatten n) sectors) s from
  said_so done s says whole goes made halted = step_said told old new e f [] from honest at awake is_of (request.Flatten n) sectors accepted s (Line (reply_of done)) says whole goes halted
      (λ stop. with_room stood LIMITED_SEGMENTS FLATTEN_GROUPS (Line (reply_of done)) (to stop) _ made.0 (inl (done_at goes (reply_of done) made.1 halted stop)))

  pub flatten_answered : (ended : Result Flattened Refusal) → OnOk ended (Goes by_faults old new e.array f.array []) → IfOk ended (λ done. HasRoom e.array × IsFlatOf (geometry_of old) n (reply_of done) e.array f.array)
      → IfErr ended (λ x. IsFaultOf n old new e.array stays x) → f.halted ≡ ends_lost ended → IsAnsweredAt told old new e f (Asked (request.Flatten n) sectors) (said_of_flattening ended) from
  flatten_answered (Ok flattened.Done) goes made none halted = said_so flattened.Done said.Done refl tt goes made halted
  flatten_answered (Ok flattened.Left) goes made none halted = said_so flattened.Left said.Left refl tt goes made halted
  flatten_answered (Ok flattened.Idle) goes made none halted = said_so flattened.Idle said.Idle refl tt goes made halted
  flatten_answered (Err why) goes made w halted = step_refused told old new e f [] from honest at awake is_of (request.Flatten n) sectors accepted stays same why (flatten_leaves old new e.array stays n why w) halted (ends why w)
