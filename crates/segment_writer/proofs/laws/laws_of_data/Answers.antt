use Rattle.segment_writer.proofs.DataShown.{data_shown}
use Rattle.segment_writer.proofs.laws.laws_of_data.Goals as goal

pub returns : goal.returns
returns c = data_shown
