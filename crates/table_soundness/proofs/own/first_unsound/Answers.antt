use Rattle.table_soundness.proofs.Prelude.{IfNone, IfSome, Geometry, Table, facts_in, IsFirst, IsTableSound}
use Rattle.table_soundness.proofs.FaultLemmas.{first_is}
use Rattle.table_soundness.proofs.own.first_unsound.Goals.{After-first_false}
use Rattle.table_soundness.proofs.own.first_unsound.Goals as goal

pub are_elisions_sound-requires : goal.are_elisions_sound-requires
are_elisions_sound-requires c = rw c.deref.ensures.value c.requires.facts.elisions

abbrev shelf : After-first_false → Geometry
shelf c = record { slots = c.args.slots; units = c.args.units }

found : (c : After-first_false)
    → IfNone c.first_false.result ((t : Table) → IsTableSound (shelf c) c.args.boot.now (facts_in c.args.tables.now) t) × IfSome c.first_false.result (IsFirst (IsTableSound (shelf c) c.args.boot.now (facts_in c.args.tables.now)))
found c =
    rw c.first_false.ensures (first_is (IsTableSound (shelf c) c.args.boot.now (facts_in c.args.tables.now)) c.in_ok-objects.objects c.in_ok-mediums.mediums c.addresses_hold-addresses.result c.in_ok-segments.segments c.in_ok-elisions.elisions
    c.in_ok-objects.ensures c.in_ok-mediums.ensures c.addresses_hold-addresses.ensures c.in_ok-segments.ensures (rw c.deref.ensures.value at c.in_ok-elisions.ensures))

pub returns-clause-none : goal.returns-clause-none
returns-clause-none c = (found c).0

pub returns-clause-some : goal.returns-clause-some
returns-clause-some c = (found c).1
