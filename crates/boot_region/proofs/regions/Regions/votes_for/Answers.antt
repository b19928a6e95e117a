use Rattle.boot_region.proofs.Prelude.{rules, ◌≡◌, arith, true, false, sym, ◌∙◌, length, is_vote, slot_in, vote_of, all_votes}
use Rattle.boot_region.proofs.RegionLemmas.{counts_next}
use Rattle.boot_region.proofs.regions.Regions.votes_for.Goals.{then-shows, else-shows}
use Rattle.boot_region.proofs.regions.Regions.votes_for.Goals as goal

pub loop-drive-preserved : goal.loop-drive-preserved
loop-drive-preserved c = elim c.if-shows.branch [
  | then-shows w ↦
      let next = counts_next (is_vote c.args.body.now) (vote_of c.args.self.now.bytes.items c.args.self.now.answered.items (slot_in c.args.slot)) c.loop-drive.drive true (sym w.if-shows.true ∙ c.shows.ensures) in
      record { count = omega (arith, next, w.count-is, c.loop-drive.invariant.count); bound = omega (arith, w.count-is, c.loop-drive.invariant.bound) }
  | else-shows w ↦
      let next = counts_next (is_vote c.args.body.now) (vote_of c.args.self.now.bytes.items c.args.self.now.answered.items (slot_in c.args.slot)) c.loop-drive.drive false (sym w.if-shows.false ∙ c.shows.ensures) in
      record { count = omega (arith, next, w.count-is, c.loop-drive.invariant.count); bound = omega (arith, w.count-is, c.loop-drive.invariant.bound) }
]

pub returns-clause-count : goal.returns-clause-count
unfolding all_votes
returns-clause-count c =
    let drives : c.len-drive-end.result ≡ length c.args.self.now.answered.items = search rules in
    let all : length c.args.self.now.answered.items ≡ c.loop-drive.drive = omega (arith, drives, c.loop-drive-test.false, c.loop-drive.auto.drive-end) in
    rw all c.loop-drive.invariant.count
