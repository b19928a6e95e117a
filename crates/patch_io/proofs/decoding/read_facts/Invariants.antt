use Rattle.patch_io.proofs.Prelude.{◌≡◌, map, Extends}
use Rattle.patch_io.proofs.Spelling.{last_key}
use Rattle.patch_io.proofs.decoding.read_facts.Given as goal

abbrev pub invariant-loop-text : goal.invariant-loop-text
invariant-loop-text g l =
    record {
      read : Extends g.F.TableFact.tag l.bytes l.text-index (map g.F.TableFact.any l.fn.facts.items) (map g.F.TableFact.any l.facts.items);
      last : l.last ≡ last_key g.F.Fact.key l.facts.items;
    }
