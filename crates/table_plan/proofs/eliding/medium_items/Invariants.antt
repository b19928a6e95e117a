use Rattle.table_plan.proofs.Prelude.{◌≡◌, ◌≢◌, take, All, medium_items}
use Rattle.pur_base.specs.declared.request.Table.TheVariants as table
use Rattle.table_plan.proofs.eliding.medium_items.Given as goal

abbrev pub invariant-loop-id : goal.invariant-loop-id
invariant-loop-id l = record {
  items : l.items.items ≡ medium_items (take l.id-index l.ids);
  tables : All (λ item. item.0 ≢ table.Elision) l.items.items;
}
