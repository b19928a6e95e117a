use Rattle.std.proofs.Common.{◌≡◌, ◌+◌, ◌≤◌, ◌++◌, ℕ, List, length}
use Rattle.world.specs.Prelude.{IsOpen}
use Rattle.line_input.specs.Ahead.{Tells, budget}
use Rattle.line_input.specs.Calls.{well}
use Rattle.line_input.specs.Asking.{Asks}
use Rattle.line_input.specs.Lines.{Holds}
use Rattle.line_input.proofs.line.read_line.Given as goal

abbrev pub invariant-pieces : goal.invariant-pieces
invariant-pieces g l =
    let source = g.S.Source.source in
    record {
      read : (got : List ℕ) × Holds l.line got × (budget l.input + length got ≤ budget l.fn.input)
          × (Tells l.fn.input (source l.fn.source) → Tells l.input (source l.source) × IsOpen got
          × (l.fn.input.pending ++ (source l.fn.source).bytes ≡ got ++ (l.input.pending ++ (source l.source).bytes)));
      total : Tells l.fn.input (source l.fn.source) → l.input.taken + length (source l.source).bytes ≡ l.fn.input.taken + length (source l.fn.source).bytes;
      asks : Asks source g.S.Source.source_rest well l.fn.input l.input l.fn.source l.source;
    }

abbrev pub decreases-pieces : goal.decreases-pieces
decreases-pieces g l = budget l.input
