use Rattle.segment_writer.proofs.PatchShown.{patch_shown}
use Rattle.segment_writer.proofs.laws.laws_of_patches.Goals as goal

pub returns : goal.returns
returns c image slots units p lost facts view lawful count order holds shows = patch_shown image slots units p lost facts view lawful count holds shows order
