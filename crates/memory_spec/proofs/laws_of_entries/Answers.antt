use Rattle.memory_spec.specs.lemmas.Entries.{entries_read, sectors_read, reads_as_one}
use Rattle.memory_spec.proofs.laws_of_entries.Goals as goal

pub returns : goal.returns
returns c = record {
  entries = entries_read;
  sectors = sectors_read;
  one = reads_as_one;
}
