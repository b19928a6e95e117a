use Rattle.pur_base.specs.declared.request.Table.TheVariants as table
use Rattle.pyramid.specs.Prelude.{is_elided}
use Rattle.object_table.proofs.ObjectLemmas.{by_ids}
use Rattle.object_table.proofs.laws.laws_of_objects.Goals as goal

pub returns : goal.returns
returns c = λ facts next t same small below visible.
    by_ids facts.objects (is_elided facts.elisions table.Object) next t.visible small below (rw same visible)
