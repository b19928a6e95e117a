use Rattle.array_checkpoint.proofs.Prelude.{◌≡◌, ℕ, ◌+◌, List, length, refl, sym, ap, subst, ◌∙◌, arith, Place, BootRecord, facts, Eliding, Plan, eliding_by, units_of, IsPlanFor, added_patches, by_tag, segments_of}
use Rattle.array_checkpoint.proofs.PreparedLemmas.{all_prepared, fit_counts, low_ids, many_groups, map_of_facts, room_for_patches}
use Rattle.array_checkpoint.proofs.preparing.prepare.Goals as goal

pub plan-requires-clause-groups : goal.plan-requires-clause-groups
plan-requires-clause-groups c =
    let a = c.args.array.now in
    let s = c.requires.is_of.0 in
    let is = c.requires.is_of.1 in
    λ g groups. let many = many_groups s a is c.segments.result.now c.segments.ensures.said c.record-record.result.now c.record-record.ensures c.in_ok-map.map c.in_ok-map.ensures c.requires.groups g groups in omega (arith, many)

pub plan-requires-clause-of : goal.plan-requires-clause-of
plan-requires-clause-of c =
    let a = c.args.array.now in
    let s = c.requires.is_of.0 in
    let is = c.requires.is_of.1 in
    (a.register.record, facts a.memory.memory.tables, is.of_shelf.lawful.lawful, map_of_facts s a is c.segments.result.now c.segments.ensures.said c.record-record.result.now c.record-record.ensures c.in_ok-map.map c.in_ok-map.ensures)

pub take_units-requires : goal.take_units-requires
take_units-requires c = record {
  enough = λ h groups.
      let a = c.args.array.now in
      let s = c.requires.is_of.0 in
      let is = c.requires.is_of.1 in
      let p = c.in_ok-plan.plan in
      let most = room_for_patches s a is c.requires.unspent a.log.room c.plan.new.memory c.plan.ensures.rest p c.in_ok-plan.ensures.plan c.in_ok-plan.ensures.few c.in_ok-plan.ensures.next c.counts-counts.result c.counts-counts.ensures
      c.in_ok-map.map c.plan.new.map (many_groups s a is c.segments.result.now c.segments.ensures.said c.record-record.result.now c.record-record.ensures c.in_ok-map.map c.in_ok-map.ensures c.requires.groups) c.in_ok-plan.ensures.left h groups in
      let same : c.segments_of.result ≡ segments_of c.counts-counts.result = c.segments_of.ensures in
      omega (arith, most, same);
}

pub next_patches-requires-clause-counts : goal.next_patches-requires-clause-counts
next_patches-requires-clause-counts c =
    let a = c.args.array.now in
    let s = c.requires.is_of.0 in
    let is = c.requires.is_of.1 in
    let p = c.in_ok-plan.plan in
    let fit = fit_counts s a is c.requires.unspent a.log.room c.plan.new.memory c.plan.ensures.rest p c.in_ok-plan.ensures.plan c.in_ok-plan.ensures.few c.in_ok-plan.ensures.next c.counts-counts.result c.counts-counts.ensures in
    fit.1

pub number_patches-requires : goal.number_patches-requires
number_patches-requires c =
    let a = c.args.array.now in
    let s = c.requires.is_of.0 in
    let is = c.requires.is_of.1 in
    let p = c.in_ok-plan.plan in
    let count : length c.in_ok-units.units.items ≡ segments_of c.counts-counts.result = c.in_ok-units.ensures.count ∙ c.segments_of.ensures in
    let low = low_ids s a is c.requires.unspent a.log.room c.plan.new.memory c.plan.ensures.rest p c.in_ok-plan.ensures.plan c.in_ok-plan.ensures.few c.in_ok-plan.ensures.next c.counts-counts.result c.counts-counts.ensures
    (length c.in_ok-units.units.items) count in
    let long : c.len.result ≡ length c.in_ok-units.units.items = omega (arith, c.len.ensures, c.in_ok-units.units.ok.0) in
    omega (arith, low, long)

pub returns-clause-prepared : goal.returns-clause-prepared
returns-clause-prepared c =
    let a = c.args.array.now in
    let s = c.requires.is_of.0 in
    let is = c.requires.is_of.1 in
    let p = c.in_ok-plan.plan in
    let units = c.in_ok-units.units in
    let boot = a.register.record in
    let map = map_of_facts s a is c.segments.result.now c.segments.ensures.said c.record-record.result.now c.record-record.ensures c.in_ok-map.map c.in_ok-map.ensures in
    let after = c.in_ok-units.ensures.more boot (facts a.memory.memory.tables) (units_of p) (c.in_ok-plan.ensures.units boot (facts a.memory.memory.tables) map) in
    let count : segments_of c.counts-counts.result ≡ length units.items = sym (c.in_ok-units.ensures.count ∙ c.segments_of.ensures) in
    let long : c.len.result ≡ length units.items = omega (arith, c.len.ensures, units.ok.0) in
    all_prepared s a is c.requires.unspent a.log.room c.plan.new.memory c.plan.ensures.rest p c.in_ok-plan.ensures.plan c.in_ok-plan.ensures.few c.in_ok-plan.ensures.next c.counts-counts.result c.counts-counts.ensures
    c.number_patches.new.self units.items
    (record {
      plan = c.number_patches.new.self;
      added = c.in_ok-patches.patches.added;
      tables = record { patches = c.in_ok-patches.patches.all; next = c.number_patches.new.self.next; flushed = c.record-record.result.now.flushed + c.count.result };
    })
    c.patches_have_facts.ensures count after.new
    c.number_patches.ensures.rest
    (c.number_patches.ensures.next ∙ ap (λ (n : ℕ). record p.next { patch_segment = p.next.patch_segment + n }) long)
    (subst (λ (e : Eliding). IsPlanFor (eliding_by c.plan.new.memory.memory e) c.number_patches.new.self) (sym (ap (λ (x : Plan). x.eliding) c.number_patches.ensures.rest))
    (c.number_patches.ensures.plan (eliding_by c.plan.new.memory.memory p.eliding) c.in_ok-plan.ensures.plan.plan))
    refl
    (c.in_ok-patches.ensures.added ∙ ap (λ (us : List (List Place)). added_patches c.counts-counts.result p.next.patch_segment us) c.deref.ensures.value)
    (c.in_ok-patches.ensures.all ∙ ap (λ (b : BootRecord). by_tag b.patches c.in_ok-patches.patches.added) c.record-record.ensures)
    refl
    (omega (arith, ap (λ (b : BootRecord). b.flushed) c.record-record.ensures, c.count.ensures))
