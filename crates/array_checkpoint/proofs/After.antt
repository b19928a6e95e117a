-- Memory once it is what a plan says.
use Rattle.array_checkpoint.proofs.Prelude.{◌≡◌, ℕ, Bool, List, [], sym, subst, Table, is_elided, AddressFact, facts_of, patch_facts, Contents, IsSound, Memory, ReadsAs, IsEliding, IsWhole, facts, checkpoint_reads, flagged_from, extended, sectors_at, AreStored, IsPlanned, Plan, eliding_by, after_plan, units_of, IsPlanFor, IsSameMemory, contents_after}
use Rattle.session_spec.specs.Prelude.{Array}
use Rattle.table_plan.proofs.Planned.{elided_is_checkpointed, planned_elided, planned_sound, still_stored}
use Rattle.array_memory.proofs.PlanLemmas.{planned, planned_same}

-- of no segment anything is told
pub nothing : Contents
nothing id index = []

module _ (m : Memory) (p : Plan) (keeps : IsEliding m (eliding_by m p.eliding) p.eliding.facts.items) (plan : IsPlanFor (eliding_by m p.eliding) p) where
  abbrev Elided : Memory
  Elided = eliding_by m p.eliding

  pub sound_after : IsSound (after_plan m p)
  sound_after = planned_sound nothing Elided (after_plan m p) p.placing.flags.items (patch_facts p.placing.newest) (units_of p) plan.sound plan.stored (planned Elided p plan)

  -- memory as it is planned, but for room
  module _ (n : Memory) (same : IsSameMemory (after_plan m p) n) where
    abbrev Flags : List Bool
    Flags = p.placing.flags.items

    abbrev Newest : List AddressFact
    Newest = patch_facts p.placing.newest

    pub is_planned : IsPlanned Elided n Flags Newest (units_of p)
    is_planned = planned_same Elided (after_plan m p) n Flags Newest (units_of p) same (planned Elided p plan)

    -- nothing is beside the patches then
    pub whole_then : IsWhole n
    whole_then = record {
      staged = is_planned.staged;
      objects = is_planned.objects.unflushed;
      mediums = is_planned.mediums.unflushed;
      addresses = is_planned.addresses.unflushed;
      segments = is_planned.segments.unflushed;
      elisions = is_planned.elisions.unflushed;
    }

    pub sound_then : IsSound n
    sound_then = planned_sound nothing Elided n Flags Newest (units_of p) plan.sound plan.stored is_planned

    -- what is elided is what was to be
    pub elided_then : (t : Table) (id : ℕ) → is_elided (facts n.tables).elisions t id ≡ is_elided (facts Elided.tables).elisions t id
    elided_then = planned_elided nothing Elided n Flags Newest (units_of p) plan.sound plan.stored is_planned

    pub stored_then : AreStored (facts_of n.tables.addresses.patches)
    stored_then = still_stored nothing Elided n Flags Newest (units_of p) plan.sound plan.stored is_planned

    -- it reads as the same array, where the new segments hold the sectors that were placed
    pub reads_then : (contents : Contents) (array : Array) → ReadsAs contents m array → ReadsAs (contents_after m p contents) n array
    reads_then contents array r =
        let placed : p.placing.order.items ≡ flagged_from 0 Flags = plan.placing.order in
        subst (λ (order : List ℕ). ReadsAs (extended contents m.next.segment (sectors_at order m.staged)) n array) (sym placed)
        (checkpoint_reads contents (extended contents m.next.segment (sectors_at (flagged_from 0 Flags) m.staged)) m n array r
        (elided_is_checkpointed contents m n p.eliding.facts.items Flags Newest (units_of p) array r plan.stored keeps is_planned).0).1
