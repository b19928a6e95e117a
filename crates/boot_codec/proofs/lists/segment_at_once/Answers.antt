use Rattle.boot_codec.proofs.Prelude.{◌≡◌, ℕ, List, drop, Ok, ap, sym, ◌∙◌, drop-drop, places_from, segment}
use Rattle.boot_codec.proofs.lists.segment_at_once.Goals as goal

pub returns : goal.returns
unfolding segment
returns c = λ is.
    let bytes = c.args.bytes.now in
    let places = c.places_at_once.new.into in
    let after : drop 27 (drop 8 bytes) ≡ drop 35 bytes = drop-drop 27 8 bytes in
    let read : places_from c.args.slots c.args.units 0 9 (drop 8 bytes) ≡ Ok (places, drop 35 bytes) =
    ap (places_from c.args.slots c.args.units 0 9) (sym c.u64_at-id.ensures.rest) ∙ c.places_at_once.ensures is ∙ ap (λ (rest : List ℕ). Ok (places, drop 27 rest)) c.u64_at-id.ensures.rest ∙ ap (λ (rest : List ℕ). Ok (places, rest)) after in
    rw read (ap (λ (n : ℕ). Ok (record { id = n; places = places }, drop 35 bytes)) (sym c.u64_at-id.ensures.number))
