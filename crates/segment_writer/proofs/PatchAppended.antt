-- What the data of a stripe holds its shards hold.
use Rattle.segment_writer.proofs.Prelude.{nat_tests, ◌≡◌, ℕ, List, length, arith, length-append, get_or_append_left, AnyFact, IsStripeOf, fact_text, HoldsFacts}

pub stripe_holds : (facts : List AnyFact) (stripe : ℕ) (stripe_data shards : List (List ℕ)) → IsStripeOf stripe_data shards → length shards ≡ 9 → HoldsFacts facts stripe stripe_data → HoldsFacts facts stripe shards
stripe_holds facts stripe stripe_data shards (p, q, is) nine filled k lt = grind (arith, nat_tests, length-append, get_or_append_left, fact_text)
