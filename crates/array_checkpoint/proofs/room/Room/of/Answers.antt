use Rattle.array_checkpoint.proofs.Prelude.{◌≡◌, ◌∙◌, ℕ, sym, ap, subst, patches_show, segments, BootRecord, patch_segments, free_of_members, all_facts, facts, patches}
use Rattle.session_spec.specs.Prelude.{IsGroups}
use Rattle.array_checkpoint.proofs.room.Room.of.Goals as goal

pub returns : goal.returns
returns c =
    let a = c.args.array.now in
    let t = a.memory.memory.tables in
    let boot = c.record-record.result.now in
    let is = c.requires.1 in
    let next : boot.next.segment ≡ a.memory.memory.next.segment = ap (λ (b : BootRecord). b.next.segment) c.record-record.ensures ∙ sym is.segment_ids in
    let shown = patches_show t boot.next.segment is.room.no_segments is.room.only_objects ∙ ap (λ (n : ℕ). segments (facts t) n) next ∙ c.segments.ensures.said in
    record {
      segments = c.segments_of.ensures ∙ ap (λ (b : BootRecord). patch_segments b.patches) c.record-record.ensures;
      groups = subst (λ (b : BootRecord). IsGroups (free_of_members b (all_facts (patches t))) c.groups_left.result) c.record-record.ensures (c.groups_left.ensures (all_facts (patches t)) shown);
    }
