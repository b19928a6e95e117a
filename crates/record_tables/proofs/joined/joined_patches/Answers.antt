use Rattle.record_tables.proofs.Prelude.{[], refl, sym, arith, append-nil, append_assoc, take_all}
use Rattle.record_tables.proofs.Added.{one_at_most}
use Rattle.record_tables.proofs.Pairs.{joined_in, no_patch}
use Rattle.record_tables.proofs.joined.joined_patches.Goals as goal

pub returns-clause-all : goal.returns-clause-all
returns-clause-all c =
    let was = c.args.was.now in
    joined_in [] was [] c.push_new.new.patches no_patch c.args.place c.requires.there
    (rw (c.in_ok-push_new.ensures, c.new-added.ensures) (one_at_most c.tag.result c.args.facts c.args.first c.args.units.now)) (omega arith) (sym (append-nil was))
    (simp (c.in_ok-push_range-3.ensures, c.in_ok-push_range-2.ensures, c.in_ok-push_range.ensures, c.new-all.ensures, take_all c.len.result c.push_new.new.patches (omega arith), take_all c.len-2.result was (omega arith), append_assoc, append-nil) refl)
