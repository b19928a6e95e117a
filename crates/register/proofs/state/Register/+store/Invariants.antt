use Rattle.register.proofs.Prelude.{set_count}
use Rattle.register.proofs.state.Register.+store.Given as goal

abbrev pub decreases-store : goal.decreases-store
decreases-store g l = set_count l.self.now.drives
