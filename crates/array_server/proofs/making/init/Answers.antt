use Rattle.array_server.proofs.Prelude.{◌≡◌, ℕ, List, Err, refl, subst, Device, continues_trans, RisesIf, is_sink, stream_then, both, InitsOn, IsInitEnd, IsMadeOutput}
use Rattle.pur_base.specs.declared.reply.Status.TheVariants as status
use Rattle.shelf_init.specs.declared.making.InitFault.{InitFault}
use Rattle.shelf_init.specs.Answers.{IsCounted, IsJudged, IsUntouched}
use Rattle.array_server.proofs.MadeLemmas.{same-honest, made-is-init, made-counts, made-judged, made-not-memory, made-on, none-failed-on, makes, told-at, while-making, before-making, unmade, same-disk}
use Rattle.array_server.proofs.making.init.Goals as goal

pub returns-in-Ok-init : goal.returns-in-Ok-init
returns-in-Ok-init g c =
    let old = g.W.Shelf.shelf c.args.world.now in
    let mid = g.W.Shelf.shelf c.init.new.shelf in
    let new = g.W.Shelf.shelf c.say_made.new.world in
    let source = g.met.W.World.shelf_keeps_source c.args.world.now c.init.new.shelf c.in-Ok-init.ensures.ran.rest in
    let sink = g.met.W.World.shelf_keeps_sink c.args.world.now c.init.new.shelf c.in-Ok-init.ensures.ran.rest in
    let init = c.in-Ok-init.ensures in
    let said = c.say_made.ensures in
    let how = c.say_made.result in
    let given = g.W.Sink.sink c.say_made.new.world in
    let counts : RisesIf (is_sink how) (g.W.Sink.sink c.args.world.now).faults given.faults = subst (λ (n : ℕ). RisesIf (is_sink how) n given.faults) sink.faults said.sink in
    let ended : IsInitEnd how old new = record {
      is_end = made-is-init how said.status;
      counted = made-counts how old new said.status (none-failed-on mid new said.output_only old init.device);
      memory = λ e. absurd (made-not-memory how said.status e);
    } in
    let inits : old.honest → InitsOn how old new = λ h. record {
      judged = made-judged how old new said.status (init.not_blank h);
      made = λ clean is. made-on mid new said.output_only (init.made h clean).made;
      each = λ clean. told-at mid new said.output_only old init.ran.on.continues (init.ran.on.writes h).any_moment.quiet.taken (init.not_blank h) (init.made h clean).made
          (while-making old mid (init.ran.on.writes h) (init.kept h) (init.any_moment h clean));
    } in
    record {
      ended = ended;
      output = λ h. subst (λ (x : List ℕ). IsMadeOutput how x given.bytes) sink.bytes (said.output (sink.honest h));
      source = stream_then source said.source;
      sink = counts;
      honest_sink = both (same-honest sink) said.honest_sink;
      continues = continues_trans init.ran.on.continues said.output_only.continues;
      inits = inits;
      makes = λ h k. makes how old new (g.W.Sink.sink c.args.world.now) given counts ended (inits h)
          (g.met.W.World.one_clock c.args.world.now k) (g.met.W.World.one_clock c.say_made.new.world (said.honest_sink.0 (sink.honest k)))
          (subst (λ (x : List ℕ). IsMadeOutput how x given.bytes) sink.bytes (said.output (sink.honest k)));
    }

-- there was no memory for the reply
pub returns-in_default-clause-inits : goal.returns-in_default-clause-inits
returns-in_default-clause-inits g c h = record {
  judged = λ d. same-disk refl;
  made = λ clean is. absurd is;
  each = before-making (g.W.Shelf.shelf c.args.world.now) (g.met.W.Shelf.is_shelf c.args.world.now) c.blank_stay_blank.ensures;
}

pub returns-in_default-clause-makes : goal.returns-in_default-clause-makes
returns-in_default-clause-makes g c h k =
    let old = g.W.Shelf.shelf c.args.world.now in
    let clock = g.met.W.World.one_clock c.args.world.now k in
    let ended : IsInitEnd status.Memory old old = record { is_end = tt; counted = λ d there. (refl, refl); memory = λ e d. refl } in
    makes status.Memory old old (g.W.Sink.sink c.args.world.now) (g.W.Sink.sink c.args.world.now) refl ended (returns-in_default-clause-inits g c h) clock clock refl

-- nor for the making
pub returns-in-Err-Memory-clause-inits : goal.returns-in-Err-Memory-clause-inits
returns-in-Err-Memory-clause-inits g c h =
    let old = g.W.Shelf.shelf c.args.world.now in
    let mid = g.W.Shelf.shelf c.init.new.shelf in
    let init = c.in-Err-Memory.ensures in
    let untouched : (d : Device) → mid.disk d ≡ old.disk d = subst (λ (e : InitFault). IsUntouched (Err e) old mid) c.in-Err-Memory.field-0-is init.memory in
    unmade status.Memory old mid (λ is. is) (λ d. same-disk (untouched d)) (init.ran.on.writes h) (init.kept h) (init.any_moment h)

pub returns-in-Err-Memory-clause-makes : goal.returns-in-Err-Memory-clause-makes
returns-in-Err-Memory-clause-makes g c h k =
    let old = g.W.Shelf.shelf c.args.world.now in
    let mid = g.W.Shelf.shelf c.init.new.shelf in
    let init = c.in-Err-Memory.ensures in
    let sink = g.met.W.World.shelf_keeps_sink c.args.world.now c.init.new.shelf init.ran.rest in
    let ended : IsInitEnd status.Memory old mid = record {
      is_end = tt;
      counted = subst (λ (e : InitFault). IsCounted (Err e) old mid) c.in-Err-Memory.field-0-is init.device;
      memory = λ e. subst (λ (e : InitFault). IsUntouched (Err e) old mid) c.in-Err-Memory.field-0-is init.memory;
    } in
    makes status.Memory old mid (g.W.Sink.sink c.args.world.now) (g.W.Sink.sink c.init.new.shelf) sink.faults ended (returns-in-Err-Memory-clause-inits g c h)
    (g.met.W.World.one_clock c.args.world.now k) (g.met.W.World.one_clock c.init.new.shelf (sink.honest k)) sink.bytes

pub returns-in-Err-Device-clause-inits : goal.returns-in-Err-Device-clause-inits
returns-in-Err-Device-clause-inits g c h =
    let init = c.in-Err-Device.ensures in
    unmade status.Halted (g.W.Shelf.shelf c.args.world.now) (g.W.Shelf.shelf c.init.new.shelf) (λ is. is) tt (init.ran.on.writes h) (init.kept h) (init.any_moment h)

pub returns-in-Err-Device-clause-makes : goal.returns-in-Err-Device-clause-makes
returns-in-Err-Device-clause-makes g c h k =
    let old = g.W.Shelf.shelf c.args.world.now in
    let mid = g.W.Shelf.shelf c.init.new.shelf in
    let init = c.in-Err-Device.ensures in
    let sink = g.met.W.World.shelf_keeps_sink c.args.world.now c.init.new.shelf init.ran.rest in
    let ended : IsInitEnd status.Halted old mid = record { is_end = tt; counted = subst (λ (e : InitFault). IsCounted (Err e) old mid) c.in-Err-Device.field-0-is init.device; memory = λ e. absurd (cc e) } in
    makes status.Halted old mid (g.W.Sink.sink c.args.world.now) (g.W.Sink.sink c.init.new.shelf) sink.faults ended (returns-in-Err-Device-clause-inits g c h)
    (g.met.W.World.one_clock c.args.world.now k) (g.met.W.World.one_clock c.init.new.shelf (sink.honest k)) sink.bytes

-- a record is in force
pub returns-clause-inits : goal.returns-clause-inits
returns-clause-inits g c h =
    let old = g.W.Shelf.shelf c.args.world.now in
    let mid = g.W.Shelf.shelf c.init.new.shelf in
    let init = c.in-Err-NotBlank.ensures in
    unmade status.NotBlank old mid (λ is. is) (subst (λ (e : InitFault). IsJudged (Err e) old mid) c.in-Err-NotBlank.field-0-is (init.not_blank h)) (init.ran.on.writes h) (init.kept h) (init.any_moment h)

pub returns-clause-makes : goal.returns-clause-makes
returns-clause-makes g c h k =
    let old = g.W.Shelf.shelf c.args.world.now in
    let mid = g.W.Shelf.shelf c.init.new.shelf in
    let init = c.in-Err-NotBlank.ensures in
    let sink = g.met.W.World.shelf_keeps_sink c.args.world.now c.init.new.shelf init.ran.rest in
    let ended : IsInitEnd status.NotBlank old mid = record { is_end = tt; counted = subst (λ (e : InitFault). IsCounted (Err e) old mid) c.in-Err-NotBlank.field-0-is init.device; memory = λ e. absurd (cc e) } in
    makes status.NotBlank old mid (g.W.Sink.sink c.args.world.now) (g.W.Sink.sink c.init.new.shelf) sink.faults ended (returns-clause-inits g c h)
    (g.met.W.World.one_clock c.args.world.now k) (g.met.W.World.one_clock c.init.new.shelf (sink.honest k)) sink.bytes
