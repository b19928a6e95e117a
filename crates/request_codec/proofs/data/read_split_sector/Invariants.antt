use Rattle.request_codec.proofs.Prelude.{◌≡◌, ◌+◌, ◌-◌, ◌≤◌, ◌++◌, length, SECTOR_BYTES, Tells, budget, well, Asks}
use Rattle.request_codec.proofs.data.read_split_sector.Given as goal

abbrev pub invariant-pieces : goal.invariant-pieces
invariant-pieces g l =
    let source = g.S.Source.source in
    record {
      room : length l.body.items ≤ SECTOR_BYTES;
      told : Tells l.fn.input (source l.fn.source) → Tells l.input (source l.source)
          × (l.fn.input.pending ++ (source l.fn.source).bytes ≡ l.body.items ++ (l.input.pending ++ (source l.source).bytes));
      spent : budget l.input ≤ budget l.fn.input;
      total : Tells l.fn.input (source l.fn.source) → l.input.taken + length (source l.source).bytes ≡ l.fn.input.taken + length (source l.fn.source).bytes;
      asks : Asks source g.S.Source.source_rest well l.fn.input l.input l.fn.source l.source;
    }

abbrev pub decreases-pieces : goal.decreases-pieces
decreases-pieces g l = SECTOR_BYTES - length l.body.items
