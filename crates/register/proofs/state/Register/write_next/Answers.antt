use Rattle.register.proofs.Prelude.{rules, ◌≡◌, length}
use Rattle.register.proofs.Rounds.{next_lawful}
use Rattle.register.proofs.state.Register.write_next.Goals as goal

pub write_record-requires-clause-lawful : goal.write_record-requires-clause-lawful
write_record-requires-clause-lawful c =
    let all : length c.args.self.now.drives ≡ 24 = search rules in
    let two : length c.args.nvrams ≡ 2 = search rules in
    next_lawful c.args.self.now.record c.args.self.now.drives c.args.nvrams c.requires.lawful all two c.requires.named c.requires.enough c.requires.nvrams c.requires.low

pub returns-clause-lawful : goal.returns-clause-lawful
returns-clause-lawful c =
    let all : length c.args.self.now.drives ≡ 24 = search rules in
    let two : length c.args.nvrams ≡ 2 = search rules in
    next_lawful c.args.self.now.record c.args.self.now.drives c.args.nvrams c.requires.lawful all two c.requires.named c.requires.enough c.requires.nvrams c.requires.low
