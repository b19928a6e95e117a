use Rattle.boot_codec.proofs.Prelude.{◌≡◌, ℕ, ◌+◌, ◌*◌, drop, get_or, Ok, refl, ap, sym, ◌∙◌, arith, length-set, Place, place_from}
use Rattle.boot_codec.proofs.LoopLemmas.{places_go_on, places_done}
use Rattle.boot_codec.proofs.FieldLemmas.{both_true}
use Rattle.boot_codec.proofs.PlaceLemmas.{place_here}
use Rattle.boot_codec.proofs.lists.places_at_once.Goals as goal

pub loop-shard-preserved : goal.loop-shard-preserved
loop-shard-preserved c =
    let bytes = c.args.bytes.now in
    let at = 3 * c.loop-shard.shard in
    let place : Place = record { slot = get_or bytes at 0; unit = c.from_be_bytes-unit.result } in
    let next : at + 3 ≡ 3 * (c.loop-shard.shard + 1) = omega arith in (
      length-set c.loop-shard.into c.loop-shard.shard place ∙ c.loop-shard.invariant.0,
      λ lawful.
          let both = both_true c.loop-shard.lawful c.is_place_from-lawful.result lawful in
          let here = place_here c.args.slots c.args.units c.loop-shard.least bytes at place (omega arith) refl c.from_be_bytes-unit.ensures (sym c.is_place_from-lawful.ensures ∙ both.1) in
          let read : place_from c.args.slots c.args.units c.loop-shard.least (drop at bytes) ≡ Ok (place, drop (3 * (c.loop-shard.shard + 1)) bytes) = here ∙ ap (λ (n : ℕ). Ok (place, drop n bytes)) next in
          places_go_on c.args.slots c.args.units c.loop-shard.least c.loop-shard.into 9 c.loop-shard.shard (drop at bytes) place (drop (3 * (c.loop-shard.shard + 1)) bytes) _ c.loop-shard.invariant.0 c.loop-shard-test.true read (c.loop-shard.invariant.1 both.0),
    )

pub returns : goal.returns
returns c lawful =
    let bytes = c.args.bytes.now in
    let end : 3 * c.loop-shard.shard ≡ 27 = omega arith in
    places_done c.args.slots c.args.units c.loop-shard.least c.loop-shard.into 9 c.loop-shard.shard (drop (3 * c.loop-shard.shard) bytes) _ c.loop-shard.invariant.0 (omega arith) (c.loop-shard.invariant.1 lawful) ∙ ap (λ (n : ℕ). Ok (c.loop-shard.into, drop n bytes)) end
