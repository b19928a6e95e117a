-- The rests of a world are preorders.
use Rattle.std.proofs.lemmas.Bool.Decides.{nat_tests}
use Rattle.std.proofs.Common.{◌≡◌, ap, inl, inr, ⊎_elim, refl, ◌∙◌, subst, arith}
use Rattle.world.specs.Shelf.{Shelved, Stop, Disk, MayLeave, OutputOnly, MayStopGiving, TakenOnly, IsCountedBy}
use Rattle.world.specs.Streams.{Streamed, SameStream}
use Rattle.world.specs.lemmas.Moments.{continues_refl, continues_trans, front_trans}

pub same_stream : (s : Streamed) → SameStream s s
same_stream s = record { honest = λ h. h; honest_before = λ h. h; bytes = refl; faults = refl }

pub stream_then : {a b c : Streamed} → SameStream a b → SameStream b c → SameStream a c
stream_then {a} {b} {c} ab bc = record { honest = λ h. bc.honest (ab.honest h); honest_before = λ h. ab.honest_before (bc.honest_before h); bytes = bc.bytes ∙ ab.bytes; faults = bc.faults ∙ ab.faults }

same_counts : (a b : Shelved) (stop : Stop) → ((d : _) → b.disk d ≡ a.disk d) → IsCountedBy b stop → IsCountedBy a stop
same_counts a b stop same counts = record { faults = λ d. omega (arith, counts.faults d, ap (λ (x : Disk). x.faults) (same d)); write_faults = λ d. omega (arith, counts.write_faults d, ap (λ (x : Disk). x.write_faults) (same d)) }

pub no_output : (s : Shelved) → OutputOnly s s
no_output s = record { continues = continues_refl s; disk = λ d. refl; taken = refl; nothing_else = λ t stop le left. inl left }

pub output_then : {a b c : Shelved} → OutputOnly a b → OutputOnly b c → OutputOnly a c
output_then {a} {b} {c} ab bc = record {
  continues = continues_trans ab.continues bc.continues;
  disk = λ d. bc.disk d ∙ ab.disk d;
  taken = bc.taken ∙ ab.taken;
  nothing_else = λ t stop le left. ⊎_elim (λ was. ⊎_elim (λ first. inl first) (λ now. inr (earlier stop now)) (ab.nothing_else t stop le was)) (λ now. inr (later stop now)) (bc.nothing_else t stop (omega (arith, le, ab.continues.later)) left);
}
  where
    earlier : (stop : Stop) → MayStopGiving a b stop → MayStopGiving a c stop
    earlier stop may = record { counts = may.counts; from = may.from; to = front_trans stop.output b.output c.output may.to bc.continues.output; taken = may.taken; device = may.device }

    later : (stop : Stop) → MayStopGiving b c stop → MayStopGiving a c stop
    later stop may = record {
      counts = same_counts a b stop ab.disk may.counts;
      from = front_trans a.output b.output stop.output ab.continues.output may.from;
      to = may.to;
      taken = may.taken ∙ ab.taken;
      device = λ d. subst (λ (x : Disk). MayLeave x (stop.image d)) (ab.disk d) (may.device d);
    }

pub nothing_taken : (s : Shelved) → TakenOnly s s
nothing_taken s = record { continues = continues_refl s; disk = λ d. refl; output = refl; nothing_else = λ t stop le left. inl left }

pub taken_then : {a b c : Shelved} → TakenOnly a b → TakenOnly b c → TakenOnly a c
taken_then {a} {b} {c} ab bc = grind (arith, nat_tests, continues_trans, same_counts)
