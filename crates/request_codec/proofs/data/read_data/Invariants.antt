use Rattle.request_codec.proofs.Prelude.{◌≡◌, ◌+◌, ◌*◌, ◌≤◌, ◌++◌, length, drop, vec_capacity, SECTOR_BYTES, sectors_in, Tells, budget, well, Asks}
use Rattle.request_codec.proofs.data.read_data.Given as goal

abbrev pub invariant-loop : goal.invariant-loop
invariant-loop g l =
    let source = g.S.Source.source in
    let unread = l.fn.input.pending ++ (source l.fn.source).bytes in
    record {
      count : length l.sectors.items ≡ l.counter;
      capacity : vec_capacity l.sectors ≡ vec_capacity l.fn.sectors;
      told : Tells l.fn.input (source l.fn.source) → Tells l.input (source l.source) × (SECTOR_BYTES * l.counter ≤ length unread)
          × (l.sectors.items ≡ sectors_in l.counter unread)
          × (l.input.pending ++ (source l.source).bytes ≡ drop (SECTOR_BYTES * l.counter) unread);
      spent : budget l.input ≤ budget l.fn.input;
      total : Tells l.fn.input (source l.fn.source) → l.input.taken + length (source l.source).bytes ≡ l.fn.input.taken + length (source l.fn.source).bytes;
      asks : Asks source g.S.Source.source_rest well l.fn.input l.input l.fn.source l.source;
    }
