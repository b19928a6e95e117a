use Rattle.register.proofs.Prelude.{rules, ◌≡◌, ◌↔◌, List, Bool, length, subst, IsMember, other_flags, same_flags}
use Rattle.register.proofs.Left.{in_left}
use Rattle.register.proofs.state.Register.lose.Goals as goal

pub returns-then-eq-clause-left : goal.returns-then-eq-clause-left
returns-then-eq-clause-left c i =
    let all : length c.left_of-left.result ≡ 24 = search rules in
    let all_before : length c.args.self.now.drives ≡ 24 = search rules in
    let same : c.left_of-left.result ≡ c.args.self.now.drives = same_flags c.left_of-left.result c.args.self.now.drives c.if-eq.ensures in
    subst (λ (l : List Bool). IsMember l i ↔ (IsMember c.args.self.now.drives i × ¬ (IsMember c.args.lost.now i))) same
    (in_left c.args.self.now.drives c.args.lost.now c.left_of-left.result all all_before c.left_of-left.ensures i)

pub returns-clause-some : goal.returns-clause-some
returns-clause-some c is same = other_flags c.left_of-left.result c.args.self.now.drives c.if-eq.ensures same
