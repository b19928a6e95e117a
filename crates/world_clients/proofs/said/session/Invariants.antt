use Rattle.world_clients.proofs.Prelude.{Nv, Continues, Leaves, ◌≡◌, ℕ, ◌+◌, ◌<◌, [], length, drop, slice_index, IsToldBy, EachIsStoredWhenSaid}
use Rattle.world_clients.proofs.said.session.Given as goal

abbrev pub invariant-loop-i : goal.invariant-loop-i
invariant-loop-i g l =
    let a = g.W.Shelf.shelf l.initial.world in
    let b = g.W.Shelf.shelf l.world in
    let input = (g.W.Source.source l.initial.world).bytes in
    record {
      continues : Continues a b;
      told : IsToldBy a (g.W.Source.source l.initial.world) (g.W.Sink.sink l.initial.world) → IsToldBy b (g.W.Source.source l.world) (g.W.Sink.sink l.world);
      source_faults : (g.W.Source.source l.world).faults ≡ (g.W.Source.source l.initial.world).faults;
      write_faults : (b.disk (Nv l.fn.nvram)).write_faults ≡ (a.disk (Nv l.fn.nvram)).write_faults;
      sink_faults : (g.W.Sink.sink l.world).faults ≡ (g.W.Sink.sink l.initial.world).faults;
      so_far : IsToldBy a (g.W.Source.source l.initial.world) (g.W.Sink.sink l.initial.world) → (a.disk (Nv l.fn.nvram)).dirty ≡ [] → record {
        leaves : Leaves a b (EachIsStoredWhenSaid a (Nv l.fn.nvram) l.at input);
        left : (g.W.Source.source l.world).bytes ≡ drop l.i input;
        stored : (k : ℕ) → k < l.i → slice_index (b.disk (Nv l.fn.nvram)).bytes (l.at + k) ≡ slice_index input k;
        clean : (b.disk (Nv l.fn.nvram)).dirty ≡ [];
        output : length b.output ≡ length a.output + l.i;
      };
    }
