use Rattle.boot_region.proofs.Prelude.{◌≡◌, ◌≤◌, map, count_by, range_with_len, is_vote, slot_in, vote_of}
use Rattle.boot_region.proofs.regions.Regions.votes_for.Given as goal

abbrev pub invariant-loop-drive : goal.invariant-loop-drive
invariant-loop-drive l = record {
  count : l.count ≡ count_by (is_vote l.body) (map (vote_of l.self.bytes.items l.self.answered.items (slot_in l.slot)) (range_with_len 0 l.drive));
  bound : l.count ≤ l.drive;
}
