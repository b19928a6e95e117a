use Rattle.world_clients.proofs.Prelude.{◌≡◌, ℕ, ◌<◌, ◌≤◌, length, slice_index_or, false, Continues, WritesOnly, drive, IsMember, OnMembers, Outcome}
use Rattle.world_clients.proofs.members.write_members.Given as goal

abbrev pub invariant-loop-slot : goal.invariant-loop-slot
invariant-loop-slot g l =
    let a = g.S.Shelf.shelf l.initial.shelf in
    let b = g.S.Shelf.shelf l.shelf in
    record {
      continues : Continues a b;
      rest : g.S.Shelf.shelf_rest l.initial.shelf l.shelf;
      writes : a.honest → WritesOnly (OnMembers l.initial.members l.at (length l.from)) a b;
      passed : (d : ℕ) → d < l.slot → Outcome a.honest (IsMember l.initial.members d) (IsMember l.members d) l.at l.from (a.disk (drive d)) (b.disk (drive d));
      same_ahead : (d : ℕ) → l.slot ≤ d → slice_index_or l.members d false ≡ slice_index_or l.initial.members d false;
      disk_ahead : (d : ℕ) → l.slot ≤ d → b.disk (drive d) ≡ a.disk (drive d);
    }
