use Rattle.table_loading.proofs.Prelude.{◌≡◌, ◌<◌, ◌∷◌, [], ◌++◌, length, map, take, arith, err_from_is_err_and, IsLoaded, of_tag}
use Rattle.std.proofs.lemmas.Grind.{common_steps}
use Rattle.table_loading.proofs.Reading.{reads_none, reads_then, loaded_within, all_within, fault_before}
use Rattle.table_loading.proofs.Tags.{named_at, table_more, table_same}
use Rattle.table_loading.proofs.patches.load_table.Goals as goal
use Rattle.table_loading.proofs.patches.load_table.Goals.{then-patch-tag+in_ok-facts+else-is_err, else-patch-tag}

pub loop-index-preserved : goal.loop-index-preserved
loop-index-preserved g c =
    let a = g.S.Shelf.shelf c.args.shelf.now in
    let b = g.S.Shelf.shelf c.loop-index.shelf in
    let any = g.F.TableFact.any in
    let missing = c.args.missing.now in
    let ps = c.args.patches.now in
    let index = c.loop-index.index in
    let p = c.at-patch.result in
    let inv = c.loop-index.invariant in
    let lt : index < length ps = omega (arith, c.loop-index-test.true, c.len-index-end.ensures) in
    elim c.if-patch-tag.branch [
      | then-patch-tag+in_ok-facts+else-is_err w ↦
          let facts = w.in_ok-facts.facts in
          let n = g.S.Shelf.shelf w.load_one.new.shelf in
          let still = reads_none a (g.met.S.Shelf.is_shelf c.args.shelf.now) in
          let done = reads_none n (g.met.S.Shelf.is_shelf w.load_one.new.shelf) in
          let pushed : w.push.new.self.items ≡ c.loop-index.loaded.items ++ facts ∷ [] = grind (arith, common_steps) in
          rw (w.shelf-is, w.loaded-is) (record {
            reads = reads_then inv.reads w.load_one.ensures.reads;
            loaded = table_more c.args.tag ps index p lt c.at-patch.ensures any (IsLoaded a n missing) c.loop-index.loaded.items w.push.new.self.items facts w.if-patch-tag.true pushed
                (all_within a a b n missing (of_tag c.args.tag (take index ps)) (map (map any) c.loop-index.loaded.items) still inv.reads w.load_one.ensures.reads inv.loaded) (loaded_within a b n n missing p _ inv.reads w.load_one.ensures.reads done w.in_ok-facts.ensures.loaded);
            rest = g.met.S.Shelf.shelf_rest_stays.transitive _ _ _ inv.rest w.load_one.ensures.rest;
          })
      | else-patch-tag w ↦
          rw (w.shelf-is, w.loaded-is, table_same c.args.tag ps index p lt c.at-patch.ensures w.if-patch-tag.false) inv
    ]

pub returns-in_err-facts-clause-reads : goal.returns-in_err-facts-clause-reads
returns-in_err-facts-clause-reads g c = reads_then c.loop-index.invariant.reads c.load_one.ensures.reads

pub returns-in_err-facts-clause-fault : goal.returns-in_err-facts-clause-fault
returns-in_err-facts-clause-fault g c =
    let r = err_from_is_err_and c.from_residual.result c.from_residual.ensures.1 in
    let a = g.S.Shelf.shelf c.args.shelf.now in
    let ps = c.args.patches.now in
    let p = c.at-patch.result in
    let lt : c.loop-index.index < length ps = omega (arith, c.loop-index-test.true, c.len-index-end.ensures) in
    rw (r.1, r.2) (fault_before a (g.S.Shelf.shelf c.loop-index.shelf) (g.S.Shelf.shelf c.load_one.new.shelf) c.args.missing.now ps _ c.loop-index.invariant.reads
    (c.in_err-facts.ensures.fault ps (named_at ps c.loop-index.index p lt c.at-patch.ensures)))

pub returns-then-is_err-clause-reads : goal.returns-then-is_err-clause-reads
returns-then-is_err-clause-reads g c = reads_then c.loop-index.invariant.reads c.load_one.ensures.reads
