use Rattle.array_server.proofs.Prelude.{◌≡◌, ◌+◌, ◌≤◌, ◌↔◌, ◌++◌, [], false, length, Bool, INPUT_BYTES, geometry_of, Continues, Point, Tells, budget, IsOf, BeginsAt}
use Rattle.array_server.proofs.SoFar.{SoFar}
use Rattle.array_server.proofs.answering.answer_all.Given as goal

abbrev pub invariant-items : goal.invariant-items
invariant-items g l =
    let shelf = g.W.Shelf.shelf in
    let source = g.W.Source.source in
    let sink = g.W.Sink.sink in
    record {
      is_of : IsOf (geometry_of (shelf l.world)) l.engine;
      continues : Continues (shelf l.fn.world) (shelf l.world);
      tells : (source l.fn.world).honest → Tells l.reader.ahead (source l.world);
      so_far : (shelf l.fn.world).honest → (source l.fn.world).honest → (sink l.fn.world).honest → ¬ (shelf l.world).lapsed
          → (told : Bool) (first : Point) → BeginsAt told (shelf l.fn.world) l.initial.engine first
          → SoFar told (shelf l.fn.world) (shelf l.world) l.initial.engine l.engine (source l.fn.world).bytes (l.reader.ahead.pending ++ (source l.world).bytes) first false;
      total : (source l.fn.world).honest → l.reader.ahead.taken + length (source l.world).bytes ≡ length (source l.fn.world).bytes;
      limited : l.reader.ahead.taken ≤ INPUT_BYTES;
      empty : l.writer ≡ [];
      source_faults : (source l.world).faults ≡ (source l.fn.world).faults;
      sink_faults : (sink l.world).faults ≡ (sink l.fn.world).faults;
      source_honest : (source l.fn.world).honest ↔ (source l.world).honest;
      sink_honest : (sink l.fn.world).honest ↔ (sink l.world).honest;
    }

abbrev pub decreases-items : goal.decreases-items
decreases-items g l = budget l.reader.ahead
