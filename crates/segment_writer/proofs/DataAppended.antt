-- What the data of a stripe holds its shards hold.
use Rattle.segment_writer.proofs.Prelude.{nat_tests, ◌≡◌, ℕ, List, length, arith, length-append, get_or_append_left, IsStripeOf, HoldsSectors}

pub stripe_holds : (staged : List (List ℕ)) (order : List ℕ) (stripe : ℕ) (stripe_data shards : List (List ℕ)) → IsStripeOf stripe_data shards → length shards ≡ 9 → HoldsSectors staged order stripe stripe_data → HoldsSectors staged order stripe shards
stripe_holds staged order stripe stripe_data shards (p, q, is) nine filled k lt = grind (arith, nat_tests, length-append, get_or_append_left)
