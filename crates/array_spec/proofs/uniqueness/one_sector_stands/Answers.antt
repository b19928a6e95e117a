use Rattle.array_spec.specs.lemmas.OneSector.{one_sector}
use Rattle.array_spec.proofs.uniqueness.one_sector_stands.Goals as goal

pub returns : goal.returns
returns c = one_sector
