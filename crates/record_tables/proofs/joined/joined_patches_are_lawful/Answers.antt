use Rattle.record_tables.proofs.Pairs.{joined_are_lawful, joined_are_named, joined_segments_are_sound, merged_is_named, pairs_are_named}
use Rattle.record_tables.proofs.joined.joined_patches_are_lawful.Goals as goal

pub returns : goal.returns
returns c = record { lawful = joined_are_lawful; pairs = pairs_are_named; named = joined_are_named; merged = merged_is_named; sound = joined_segments_are_sound }
