use Rattle.shelf_init.proofs.Prelude.{slot_in}
use Rattle.shelf_init.proofs.making.gives_body.Goals as goal

pub returns-in-Some-clause-some : goal.returns-in-Some-clause-some
returns-in-Some-clause-some c is shelf many = record {
  slot = slot_in c.in-Some.field-0.0;
  body = c.in-Some.field-0.1.now;
  effective = c.in-Some.ensures.some shelf many;
}
