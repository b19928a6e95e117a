use Rattle.table_plan.proofs.Prelude.{◌≡◌, ◌≢◌, take, All, segment_items}
use Rattle.pur_base.specs.declared.request.Table.TheVariants as table
use Rattle.table_plan.proofs.eliding.segment_items.Given as goal

abbrev pub invariant-loop-id : goal.invariant-loop-id
invariant-loop-id l = record {
  items : l.items.items ≡ segment_items (take l.id-index l.ids);
  tables : All (λ item. item.0 ≢ table.Elision) l.items.items;
}
