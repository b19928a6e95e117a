use Rattle.address_table.proofs.AddressLemmas.{same_addresses}
use Rattle.address_table.proofs.laws.laws_of_addresses.Goals as goal

pub returns : goal.returns
returns c = same_addresses
