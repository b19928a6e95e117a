use Rattle.record_tables.proofs.Named.{next_patches_are_named}
use Rattle.record_tables.proofs.laws.next_patches_are_named.Goals as goal

pub returns : goal.returns
returns c = next_patches_are_named
