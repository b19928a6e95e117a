use Rattle.medium_table.proofs.RangeLemmas.{same_ranges, same_over}
use Rattle.medium_table.proofs.laws.laws_of_ranges.Goals as goal

pub returns-clause-ranges : goal.returns-clause-ranges
returns-clause-ranges c = same_ranges

pub returns-clause-over : goal.returns-clause-over
returns-clause-over c = same_over
