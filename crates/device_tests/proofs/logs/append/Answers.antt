use Rattle.std.proofs.Common.{sym, ◌∙◌}
use Rattle.device_tests.proofs.logs.append.Goals as goal

pub append-requires-clause-lawful : goal.append-requires-clause-lawful
append-requires-clause-lawful c = record {
  command = c.is_command.ensures.0 c.if-not-is_command.false;
  count = sym c.if-data_sectors-ne0.false ∙ c.data_sectors.ensures;
}
