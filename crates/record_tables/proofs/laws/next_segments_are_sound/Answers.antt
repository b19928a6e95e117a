use Rattle.record_tables.proofs.Sound.{next_segments_are_sound}
use Rattle.record_tables.proofs.laws.next_segments_are_sound.Goals as goal

pub returns : goal.returns
returns c = next_segments_are_sound
