use Rattle.record_tables.proofs.Lawful.{next_patches_are_lawful}
use Rattle.record_tables.proofs.laws.next_patches_are_lawful.Goals as goal

pub returns : goal.returns
returns c = next_patches_are_lawful
