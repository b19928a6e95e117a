use Rattle.array_spec.proofs.Prelude.{one_patches, one_base}
use Rattle.array_spec.proofs.stored.one_array_is_held.Goals as goal

pub returns-clause-patches : goal.returns-clause-patches
returns-clause-patches c = one_patches

pub returns-clause-base : goal.returns-clause-base
returns-clause-base c = one_base
