-- Nothing and reads behind reads are reads alone.
use Rattle.std.proofs.Common.{◌∙◌, refl}
use Rattle.session_spec.specs.Prelude.{Shelved, IsShelf, IsPreorder, continues_refl, continues_trans, nothing_written, writes_then}
use Rattle.shelf_look.specs.Reads.{AreOnlyRead, IsOnlyRead}

pub none_read : (a : Shelved) → IsShelf a → AreOnlyRead a a
none_read a is = record {
  continues = continues_refl a;
  same = λ h d. record { bytes = refl; dirty = refl };
  writes = λ h. nothing_written a is;
  write_faults = λ d. refl;
}

pub read_then : {a b c : Shelved} → AreOnlyRead a b → AreOnlyRead b c → AreOnlyRead a c
read_then {a} {b} {c} first next = record {
  continues = continues_trans first.continues next.continues;
  same = λ h d.
      let one = first.same h d in
      let two = next.same (first.continues.honest h) d in
      record { bytes = two.bytes ∙ one.bytes; dirty = two.dirty ∙ one.dirty };
  writes = λ h. writes_then first.continues (first.writes h) (next.writes (first.continues.honest h));
  write_faults = λ d. next.write_faults d ∙ first.write_faults d;
}

pub only_read_stays : {X Y : Type 0} (shelf : X → Shelved) (same_rest : X → X → Type 0) → ((x : X) → IsShelf (shelf x)) → IsPreorder same_rest → (inner : Y → X)
    → IsPreorder (λ a b. IsOnlyRead shelf same_rest (inner a) (inner b))
only_read_stays {X} {Y} shelf same_rest is stays inner = record {
  reflexive = λ y. record { on = none_read (shelf (inner y)) (is (inner y)); rest = stays.reflexive (inner y) };
  transitive = λ a b c ab bc. record { on = read_then ab.on bc.on; rest = stays.transitive (inner a) (inner b) (inner c) ab.rest bc.rest };
}
