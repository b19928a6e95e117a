-- After a session that was stopped the next one enters.
use Rattle.session_spec.proofs.Prelude.{inl, inr, ℕ, List, true, Array, Status, Conditions, requests, Shelved, Stop, geometry_of, Opening, IsInOpening, Keeps, Replied, StandsOn, GoesOnFrom, GoesOnFromOpening, ServedFollows, UnopenedFollows}
use Rattle.session_spec.proofs.Resumed.{stops_chain}

from_opening : (old next : Shelved) (o : Opening old) (missing : Conditions) (arrays : List Array) (stop : Stop) → IsInOpening old o missing arrays stop → GoesOnFromOpening old next missing arrays stop
from_opening old next o missing arrays stop h = record {
  quiet = h.quiet;
  enters = λ borne later r. stops_chain next (geometry_of old) stop _ later arrays (h.stands.standing borne) r;
}

from_reply : (old new next : Shelved) (input left : List ℕ) (ended : Status) (o : Opening old) (missing : Conditions) (arrays : List Array) (stop : Stop) (k : Keeps old new input left ended o missing arrays)
    (at : Replied true (geometry_of old) (new.left_since o.moment) k.s.first (requests input) stop) → StandsOn true (geometry_of old) (new.left_since o.moment) k.s.first (requests input) stop at → GoesOnFrom old new next input left ended o stop
from_reply old new next input left ended o missing arrays stop k at stands = record {
  s = k.s;
  at = at;
  enters = λ awake bearable later r.
      let among = stands awake bearable in
      record {
        arrays = among.arrays;
        each = among.each;
        enters = stops_chain next (geometry_of old) stop _ later among.arrays among.standing r;
      };
}

pub served_follows : (old new next : Shelved) → ServedFollows old new next
served_follows old new next input left ended s missing arrays e stop since =
    let lasts = s.outlasts missing arrays e in
    elim (lasts.each stop since) [
      | inl h ↦ inl (from_opening old next s.opening missing arrays stop h)
      | inr after ↦ inr (after.0, λ borne. from_reply old new next input left ended s.opening missing arrays stop (lasts.keeps borne) (after.1 borne).0 (after.1 borne).1)
    ]

pub unopened_follows : (old new next : Shelved) → UnopenedFollows old new next
unopened_follows old new next input left ended u missing arrays e stop since borne later r =
    stops_chain next (geometry_of old) stop _ later arrays (((u.shut missing arrays e).each stop since).standing borne) r
