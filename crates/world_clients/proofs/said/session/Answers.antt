use Rattle.world_clients.proofs.Prelude.{Nv, continues_trans, ◌≡◌, ◌∙◌, true, ap, drop, ℕ, List, arith, rules, drop-drop}
use Rattle.world_clients.proofs.Sessions.{leaves_on, one_more}
use Rattle.world_clients.proofs.said.session.Goals as goal

pub returns-in_err-acknowledge-clause-said : goal.returns-in_err-acknowledge-clause-said
returns-in_err-acknowledge-clause-said g c told clean =
    let inv = c.loop-i.invariant in
    let s = inv.so_far told clean in
    leaves_on _ (g.W.Shelf.shelf c.loop-i.world) (Nv c.args.nvram) c.args.at c.loop-i.i _ _ s.left s.stored s.clean s.output inv.continues s.leaves (c.acknowledge.ensures.said (inv.told told))

pub returns-then-not-branch-clause-said : goal.returns-then-not-branch-clause-said
returns-then-not-branch-clause-said g c told clean =
    let inv = c.loop-i.invariant in
    let s = inv.so_far told clean in
    leaves_on _ (g.W.Shelf.shelf c.loop-i.world) (Nv c.args.nvram) c.args.at c.loop-i.i _ _ s.left s.stored s.clean s.output inv.continues s.leaves (c.acknowledge.ensures.said (inv.told told))

pub loop-i-preserved : goal.loop-i-preserved
loop-i-preserved g c =
    let inv = c.loop-i.invariant in
    let more : c.in_ok-acknowledge.field-0 ≡ true = search rules in
    record {
      continues = continues_trans inv.continues c.acknowledge.ensures.continues;
      told = λ told. c.acknowledge.ensures.honest (inv.told told);
      source_faults = c.in_ok-acknowledge.ensures.counts.0 ∙ inv.source_faults;
      write_faults = c.in_ok-acknowledge.ensures.counts.1 ∙ inv.write_faults;
      sink_faults = c.in_ok-acknowledge.ensures.counts.2 ∙ inv.sink_faults;
      so_far = λ told clean.
          let s = inv.so_far told clean in
          let now = c.in_ok-acknowledge.ensures.stored (inv.told told) more in
          record {
            leaves = leaves_on _ (g.W.Shelf.shelf c.loop-i.world) (Nv c.args.nvram) c.args.at c.loop-i.i _ _ s.left s.stored s.clean s.output inv.continues s.leaves (c.acknowledge.ensures.said (inv.told told));
            left = now.1 ∙ ap (λ (l : List ℕ). drop 1 l) s.left ∙ drop-drop 1 c.loop-i.i _;
            stored = one_more (g.W.Shelf.shelf c.args.world.now) (g.W.Shelf.shelf c.loop-i.world) (Nv c.args.nvram) c.args.at c.loop-i.i _ _ s.left s.stored s.clean s.output _ (c.acknowledge.ensures.writes (inv.told told).shelf_is (Nv c.args.nvram)) now.0;
            clean = now.0.clean;
            output = omega (arith, now.2, s.output);
          };
    }
