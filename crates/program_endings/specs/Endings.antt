-- How the program ends.
use Rattle.std.specs.Prelude.{ℕ, List, codes}
use Rattle.pur_base.specs.declared.reply.Status.{Status}
use Rattle.pur_base.specs.declared.reply.Status.TheVariants as status

-- the number that a status ends the program with
abbrev pub exit_code : Status → ℕ
exit_code status.Done = 0
exit_code status.Words = 1
exit_code status.NoArray = 2
exit_code status.Halted = 3
exit_code status.Source = 4
exit_code status.Sink = 5
exit_code status.Memory = 6
exit_code status.Cut = 7
exit_code status.InputLimit = 8
exit_code status.NotBlank = 9

-- what is said on standard error; nothing is at the first
abbrev pub exit_text : Status → List ℕ
exit_text status.Done = codes "done"
exit_text status.Words = codes "words"
exit_text status.NoArray = codes "no array"
exit_text status.Halted = codes "halted"
exit_text status.Source = codes "source"
exit_text status.Sink = codes "sink"
exit_text status.Memory = codes "memory"
exit_text status.Cut = codes "cut"
exit_text status.InputLimit = codes "input limit"
exit_text status.NotBlank = codes "not blank"
