-- Lists of commands, and one more.
use Rattle.array_core.proofs.Prelude.{◌≡◌, List, [], ◌∷◌, ◌++◌, refl, Array, Command, Accepts, AllAccepted, after, after_all}

-- one more accepted command
pub accept_last : (a : Array) (cmds : List Command) (c : Command) → AllAccepted a cmds → Accepts (after_all a cmds) c → AllAccepted a (cmds ++ c ∷ [])
accept_last a [] c all fine = (fine, tt)
accept_last a (d ∷ ds) c all fine = (all.0, accept_last (after a d) ds c all.1 fine)

pub after_last : (a : Array) (cmds : List Command) (c : Command) → after_all a (cmds ++ c ∷ []) ≡ after (after_all a cmds) c
after_last a [] c = refl
after_last a (d ∷ ds) c = after_last (after a d) ds c
