use Rattle.pyramid_jobs.proofs.Prelude.{◌≡◌, refl, sym, subst, arith, Geometry, Refusal, Table, geometry_of, continues_trans, runs_moments, IsRegisterOf, Array, HasMerged, IsFaultOf, held_after}
use Rattle.boot_region.proofs.LoadingLemmas.{if_err}
use Rattle.register.proofs.Rounds.{same_shelf}
use Rattle.array_core.proofs.GoingOn.{calls_then}
use Rattle.array_core.proofs.Written.{calls_of, then_goes, then_halts}
use Rattle.array_checkpoint.proofs.Joined.{counted_now}
use Rattle.array_checkpoint.proofs.PreparedLemmas.{are_low}
use Rattle.pyramid_jobs.proofs.Merged.{goes_with, has_merged, ids_left, next_is_lawful}
use Rattle.pyramid_jobs.proofs.merging.merge.Goals as goal

-- ---- once it was written

pub switch_tables-requires-clause-is_of : goal.switch_tables-requires-clause-is_of
switch_tables-requires-clause-is_of g c = subst (λ (s : Geometry). IsRegisterOf s c.args.array.now.register) (same_shelf c.write_prepared.ensures.ran.on.continues) c.requires.is_of.of_shelf

pub switch_tables-requires-clause-lawful : goal.switch_tables-requires-clause-lawful
switch_tables-requires-clause-lawful g c = next_is_lawful (g.S.Shelf.shelf c.args.shelf.now) c.args.array.now c.args.index c.in_ok-prepared.prepared c.requires.is_of c.in_ok-prepared.ensures.prepared

pub switch_tables-requires-clause-not_spent : goal.switch_tables-requires-clause-not_spent
switch_tables-requires-clause-not_spent g c = (are_low c.args.array.now c.in_ok-pair.ensures.may.unspent).generation

pub put_merged-requires-clause-left : goal.put_merged-requires-clause-left
put_merged-requires-clause-left g c =
    let left = ids_left (g.S.Shelf.shelf c.args.shelf.now) c.args.array.now c.args.index c.in_ok-prepared.prepared c.requires.is_of c.in_ok-prepared.ensures.prepared in
    omega (arith, left, c.in_ok-prepared.ensures.prepared.count)

-- ---- once the tables are stored

pub of-requires : goal.of-requires
of-requires g c =
    let a = g.S.Shelf.shelf c.args.shelf.now in
    let now : Array = record { memory = c.put_merged.new.self; log = c.args.array.now.log; register = c.switch_tables.new.register; background = c.args.array.now.background } in (
      geometry_of a,
      (goes_with a c.args.array.now c.args.index c.in_ok-prepared.prepared c.requires.is_of c.in_ok-prepared.ensures.prepared now c.in_ok-switch_tables.ensures.record.changed.later refl refl c.put_merged.ensures.memory (sym c.put_merged.ensures.name_room)
          (subst (λ (s : Geometry). IsRegisterOf s now.register) (sym (same_shelf (continues_trans c.write_prepared.ensures.ran.on.continues c.switch_tables.ensures.ran.on.continues))) c.switch_tables.ensures.left.of_shelf)).is_of,
    )

pub returns-clause-continues : goal.returns-clause-continues
returns-clause-continues g c = continues_trans c.write_prepared.ensures.ran.on.continues c.switch_tables.ensures.ran.on.continues

pub returns-clause-rest : goal.returns-clause-rest
returns-clause-rest g c = g.met.S.Shelf.shelf_rest_stays.transitive _ _ _ c.write_prepared.ensures.ran.rest c.switch_tables.ensures.ran.rest

pub returns-clause-moments : goal.returns-clause-moments
returns-clause-moments g c = (calls_then (calls_of c.write_prepared.ensures.ran.on) (calls_of c.switch_tables.ensures.ran.on)).counted

pub returns-clause-goes : goal.returns-clause-goes
returns-clause-goes g c =
    let a = g.S.Shelf.shelf c.args.shelf.now in
    let was = c.args.array.now in
    let q = c.in_ok-prepared.prepared in
    let h = c.in_ok-prepared.ensures.prepared in
    let now : Array = record { memory = c.put_merged.new.self; log = was.log; register = c.switch_tables.new.register; background = was.background } in
    let x = c.in_ok-switch_tables.ensures.record.changed in
    then_goes _ was now (g.met.S.Shelf.is_shelf c.args.shelf.now) (calls_of c.write_prepared.ensures.ran.on) (calls_of c.switch_tables.ensures.ran.on) (c.in_ok-lost.ensures.wrote c.args.index h)
    (c.in_ok-switch_tables.ensures.faults c.args.shelf.now) (λ honest held. c.in_ok-switch_tables.ensures.stays honest c.args.shelf.now held (held_after was.memory.memory c.args.index q held)) (λ P p. p) x
    (goes_with a was c.args.index q c.requires.is_of h now x.later refl refl c.put_merged.ensures.memory (sym c.put_merged.ensures.name_room)
    (subst (λ (s : Geometry). IsRegisterOf s now.register) (sym (same_shelf (continues_trans c.write_prepared.ensures.ran.on.continues c.switch_tables.ensures.ran.on.continues))) c.switch_tables.ensures.left.of_shelf))

pub returns-clause-made : goal.returns-clause-made
returns-clause-made g c =
    let a = g.S.Shelf.shelf c.args.shelf.now in
    let was = c.args.array.now in
    let now : Array = record { memory = c.put_merged.new.self; log = was.log; register = c.switch_tables.new.register; background = was.background } in
    let x = c.in_ok-switch_tables.ensures.record.changed in (
      c.in_ok-pair.ensures.may,
      subst (λ (t : Table). HasMerged (geometry_of a) t c.args.index was now) c.in_ok-prepared.ensures.asked
          (has_merged a was c.args.index c.in_ok-prepared.prepared c.requires.is_of c.in_ok-prepared.ensures.prepared now x.later refl refl c.put_merged.ensures.memory (sym c.put_merged.ensures.name_room) x.rises c.switch_tables.ensures.left.few),
    )

-- ---- where they could not be stored

pub returns-in_err-switch_tables-clause-continues : goal.returns-in_err-switch_tables-clause-continues
returns-in_err-switch_tables-clause-continues g c = continues_trans c.write_prepared.ensures.ran.on.continues c.switch_tables.ensures.ran.on.continues

pub returns-in_err-switch_tables-clause-rest : goal.returns-in_err-switch_tables-clause-rest
returns-in_err-switch_tables-clause-rest g c = g.met.S.Shelf.shelf_rest_stays.transitive _ _ _ c.write_prepared.ensures.ran.rest c.switch_tables.ensures.ran.rest

pub returns-in_err-switch_tables-clause-moments : goal.returns-in_err-switch_tables-clause-moments
returns-in_err-switch_tables-clause-moments g c = (calls_then (calls_of c.write_prepared.ensures.ran.on) (calls_of c.switch_tables.ensures.ran.on)).counted

pub returns-in_err-switch_tables-clause-fault : goal.returns-in_err-switch_tables-clause-fault
returns-in_err-switch_tables-clause-fault g c =
    let was = c.args.array.now in
    let now : Array = record was { register = c.switch_tables.new.register } in
    if_err c.from_residual-in_err-switch_tables.result _ _ c.from_residual-in_err-switch_tables.ensures.1 (λ e is. subst (λ (f : Refusal). IsFaultOf c.args.table c.args.index (g.S.Shelf.shelf c.args.shelf.now) (g.S.Shelf.shelf c.switch_tables.new.shelf) was ((now ≡ was) × (c.args.room.now ≡ c.args.room.now) × (c.switch_tables.new.shelf ≡ c.args.shelf.now)) f) (sym is) (
      c.in_ok-pair.ensures.may,
      then_halts _ was now (g.met.S.Shelf.is_shelf c.args.shelf.now) (calls_of c.write_prepared.ensures.ran.on) (calls_of c.switch_tables.ensures.ran.on) (c.in_ok-lost.ensures.wrote c.args.index c.in_ok-prepared.ensures.prepared)
          (c.in_err-switch_tables.ensures.faults c.args.shelf.now) (λ honest held. c.in_err-switch_tables.ensures.stays honest c.args.shelf.now held (held_after was.memory.memory c.args.index c.in_ok-prepared.prepared held)) c.requires.is_of,
    ))

-- ---- where memory was wanted, or they may not be merged

pub returns-in_err-lost-clause-moments : goal.returns-in_err-lost-clause-moments
returns-in_err-lost-clause-moments g c h = runs_moments c.write_prepared.ensures.ran.on h

pub returns-in_err-prepared-clause-moments : goal.returns-in_err-prepared-clause-moments
returns-in_err-prepared-clause-moments g c h = counted_now (g.S.Shelf.shelf c.args.shelf.now) (g.met.S.Shelf.is_shelf c.args.shelf.now)

pub returns-in_err-pair-clause-moments : goal.returns-in_err-pair-clause-moments
returns-in_err-pair-clause-moments g c h = counted_now (g.S.Shelf.shelf c.args.shelf.now) (g.met.S.Shelf.is_shelf c.args.shelf.now)
