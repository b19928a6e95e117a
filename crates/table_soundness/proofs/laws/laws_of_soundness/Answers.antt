use Rattle.table_soundness.proofs.SoundLemmas.{not_at_fault, parts_from_sound, sound_from_parts}
use Rattle.table_soundness.proofs.laws.laws_of_soundness.Goals as goal

pub returns-clause-parts : goal.returns-clause-parts
returns-clause-parts c = λ shelf boot tables named. (
  λ h. parts_from_sound boot tables named shelf h,
  λ h. sound_from_parts boot tables named shelf h.0 h.1,
)

pub returns-clause-fault : goal.returns-clause-fault
returns-clause-fault c = λ shelf boot tables t named fault sound. not_at_fault boot tables named shelf t fault sound
