use Rattle.shelf_init.proofs.InitLemmas.{now_blank}
use Rattle.shelf_init.proofs.laws.blank_stay_blank.Goals as goal

pub returns : goal.returns
returns g c clean blank = now_blank (g.S.Shelf.shelf c.args._shelf.now) clean blank
