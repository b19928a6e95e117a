use Rattle.array_memory.proofs.Prelude.{◌≡◌, ℕ, ◌+◌, ◌++◌, refl, ap, subst, Facts, facts, facts_of, Segments, Merged, tables_with, IsMergedOf, Inside, Kept, IsKept}
use Rattle.object_table.specs.Objects.{Objects}
use Rattle.table_plan.specs.declared.merged.Merged.TheVariants as merged
use Rattle.array_memory.proofs.Seen.{seen}
use Rattle.array_memory.proofs.MergingLemmas.{merge_kept, Put}
use Rattle.array_memory.proofs.memory.Memory.put_merged.Goals as goal
use Rattle.array_memory.proofs.memory.Memory.put_merged.Goals.{in-Object, in-Medium, in-Address, in-Segment, in-Elision}

pub put_merged-requires-clause-source : goal.put_merged-requires-clause-source
put_merged-requires-clause-source c = let made = rw (← c.self.view_is, c.in-Object.is) at c.requires.merged in made.1.source

pub put_merged-requires-in-Medium-clause-source : goal.put_merged-requires-in-Medium-clause-source
put_merged-requires-in-Medium-clause-source c = let made = rw (← c.self.view_is, c.in-Medium.is) at c.requires.merged in made.1.source

pub put_merged-requires-in-Address-clause-source : goal.put_merged-requires-in-Address-clause-source
put_merged-requires-in-Address-clause-source c = let made = rw (← c.self.view_is, c.in-Address.is) at c.requires.merged in made.1.source

pub put_merged-requires-in-Segment-clause-source : goal.put_merged-requires-in-Segment-clause-source
put_merged-requires-in-Segment-clause-source c = let made = rw (← c.self.view_is, c.in-Segment.is) at c.requires.merged in made.1.source

pub put_merged-requires-in-Elision-clause-source : goal.put_merged-requires-in-Elision-clause-source
put_merged-requires-in-Elision-clause-source c = let made = rw (← c.self.view_is, c.in-Elision.is) at c.requires.merged in made.1.source

-- where so many ids were given
abbrev after : Inside → ℕ → Kept
after m count = record (seen m) { memory = record (seen m).memory { next = record m.next { patch_segment = m.next.patch_segment + count } } }

abbrev Was : goal.After-self-1 → Facts
Was c = facts (seen c.self.inside).memory.tables

kept : (c : goal.After-self-1) (p : Merged) → c.args.merged ≡ p → (m : Inside) → facts (seen m).memory.tables ≡ facts (tables_with (seen c.self.inside).memory.tables c.args.index p)
    → after m c.args.segments ≡ Put (seen c.self.inside) (after m c.args.segments) c.args.index c.args.segments p → IsKept (after m c.args.segments)
kept c p is m same rest =
    let r = rw (← c.self.view_is) at c.requires in
    let l = rw (← c.self.view_is) at c.layered.ensures in
    merge_kept (seen c.self.inside) (after m c.args.segments) c.args.index c.args.segments p c.self.invariant r.sound (record { objects = l.objects; mediums = l.mediums; addresses = l.addresses; segments = l.segments; elisions = l.elisions })
    (subst (λ p. IsMergedOf (seen c.self.inside).memory c.args.index p) is r.merged) r.left same rest

pub invariant_of-self : goal.invariant_of-self
invariant_of-self c = elim c.match-merged.branch [
  | in-Object w ↦
      let p = w.put_merged.ensures in
      let m : Inside = record c.self.inside { objects = w.put_merged.new.self } in
      rw w.self-inside-is (kept c (merged.Object w.in-Object.patch) w.in-Object.is m (λ i. record (Was c) { objects = facts_of (p.patches i) ++ p.unflushed i }) (ap (λ (o : Objects). record (after m c.args.segments) { objects = o.visible }) p.rest))
  | in-Medium w ↦
      let p = w.put_merged-in-Medium.ensures in
      let m : Inside = record c.self.inside { mediums = record c.self.inside.mediums { facts = w.put_merged-in-Medium.new.self } } in
      rw w.self-inside-is (kept c (merged.Medium w.in-Medium.patch) w.in-Medium.is m (λ i. record (Was c) { mediums = facts_of (p.patches i) ++ p.unflushed i }) refl)
  | in-Address w ↦
      let p = w.put_merged-in-Address.ensures in
      let m : Inside = record c.self.inside { addresses = record c.self.inside.addresses { facts = w.put_merged-in-Address.new.self } } in
      rw w.self-inside-is (kept c (merged.Address w.in-Address.patch) w.in-Address.is m (λ i. record (Was c) { addresses = facts_of (p.patches i) ++ p.unflushed i }) refl)
  | in-Segment w ↦
      let p = w.put_merged-in-Segment.ensures in
      let m : Inside = record c.self.inside { segments = w.put_merged-in-Segment.new.self } in
      rw w.self-inside-is (kept c (merged.Segment w.in-Segment.patch) w.in-Segment.is m (λ i. record (Was c) { segments = facts_of (p.patches i) ++ p.unflushed i }) (ap (λ (s : Segments). record (after m c.args.segments) { segments = s.visible }) p.rest))
  | in-Elision w ↦
      let p = w.put_merged-in-Elision.ensures in
      let m : Inside = record c.self.inside { elisions = w.put_merged-in-Elision.new.self } in
      rw w.self-inside-is (kept c (merged.Elision w.in-Elision.patch) w.in-Elision.is m (λ i. record (Was c) { elisions = facts_of (p.patches i) ++ p.unflushed i }) refl)
]
