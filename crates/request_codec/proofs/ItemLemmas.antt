-- The first item of an input, by its line and its data.
use Rattle.request_codec.proofs.Prelude.{◌≡◌, ℕ, ◌*◌, ◌<◌, ◌≤◌, List, [], length, drop, Some, refl, lt-ltb, le-ltb, before_first, after_first, Request, Asked, Cut, sectors_in, line_request, line_item, first_item, is_line_end, data_count}

pub item-cut : (xs : List ℕ) (r : Request) (behind after : List ℕ)
    → line_request (before_first is_line_end xs) ≡ Some r → behind ≡ after_first is_line_end xs
    → length behind < 512 * data_count r → after ≡ []
    → first_item xs ≡ (Cut, after)
item-cut xs r behind after is behind-is short none =
    let cut = lt-ltb (length behind) (512 * data_count r) short in
    let whole : line_item (Some r) behind ≡ (Cut, []) = rw cut refl in
    rw (is, ← behind-is, whole, none) refl

pub item-whole : (xs : List ℕ) (r : Request) (behind after : List ℕ) (sectors : List (List ℕ))
    → line_request (before_first is_line_end xs) ≡ Some r → behind ≡ after_first is_line_end xs
    → 512 * data_count r ≤ length behind → sectors ≡ sectors_in (data_count r) behind → after ≡ drop (512 * data_count r) behind
    → first_item xs ≡ (Asked r sectors, after)
item-whole xs r behind after sectors is behind-is long items rest =
    let uncut = le-ltb (length behind) (512 * data_count r) long in
    let whole : line_item (Some r) behind ≡ (Asked r (sectors_in (data_count r) behind), drop (512 * data_count r) behind) = rw uncut refl in
    rw (is, ← behind-is, whole, items, rest) refl
