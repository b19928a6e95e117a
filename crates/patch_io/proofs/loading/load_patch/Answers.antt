use Rattle.patch_io.proofs.loading.load_patch.Goals as goal

pub returns-clause-decoded : goal.returns-clause-decoded
returns-clause-decoded g c = c.in_ok-read_parts.ensures.decoded

pub returns-clause-ok : goal.returns-clause-ok
returns-clause-ok g c = c.in_ok-read_parts.ensures.facts

pub returns-clause-shown : goal.returns-clause-shown
returns-clause-shown g c = c.in_ok-read_parts.ensures.shown
