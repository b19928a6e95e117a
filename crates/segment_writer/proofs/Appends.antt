-- The stripes of one segment after another are appended.
use Rattle.segment_writer.proofs.Prelude.{nat_tests, ◌≡◌, ◌≢◌, ℕ, ◌+◌, ◌<◌, ◌≤◌, Bool, true, List, [], ◌∷◌, ◌++◌, length, take, subst, arith, below_more, get_or-take, length-take, Image, Place, Header, Ran, Shelved, WritesOnly, ran_more, Open, is_in, LosesOnly, OnUnits, IsOnPlace, bytes_of, stripe_in, HoldsStripe, IsStripeOf, Layout, units_of, AreApart, HaveStripes, IsOnSome, OnSome, HoldsSegment, IsOpenOf, AreOpenOf}
use Rattle.patch_io.proofs.Lists.{get_pushed}
use Rattle.segment_writer.proofs.Apart.{AreDisjoint, stripe_kept, segment_kept}

-- ---- one segment

-- a run of stripes from the first one on is a run on the segment
pub fresh_ran : {X : Type 0} {shelf : X → Shelved} {same_rest : X → X → Type 0} {a b : X} (places : List Place) (units : List Place) (n count : ℕ) → places ≡ units → n ≡ 1 → count ≤ 15 → Ran shelf same_rest (IsOnPlace places) (OnUnits places n count) a b
    → Ran shelf same_rest (IsOnPlace units) (OnUnits units 1 15) a b
fresh_ran {shelf = shelf} {same_rest = same_rest} {a = a} {b = b} places units n count same first few ran =
    subst (λ (ps : List Place). Ran shelf same_rest (IsOnPlace ps) (OnUnits ps 1 15) a b) same
    (ran_more (λ d on. on) (λ d i (shard, lt, (is, range)). (shard, lt, (is, (omega (arith, range.0, first), omega (arith, range.1, first, few))))) ran)

-- a run of the first stripes of a buffer holds what these do
pub run_holds : (image : Image) (places units : List Place) (lost : List Bool) (from count : ℕ) (buffer : List (List (List ℕ))) (Holds : ℕ → List (List ℕ) → Type 0) → places ≡ units → from ≡ 0 → count ≤ length buffer
    → ((stripe : ℕ) (shards : List (List ℕ)) → stripe < count → IsStripeOf (stripe_in buffer stripe) shards → length shards ≡ 9 → Holds stripe shards)
    → ((number : ℕ) → number < length (take count buffer) → (shards : List (List ℕ)) × IsStripeOf (stripe_in (take count buffer) number) shards × HoldsStripe image places lost (from + number) shards)
    → HoldsSegment image units lost count Holds
run_holds image places units lost from count buffer Holds same first long filled stand stripe lt =
    let within : stripe < length (take count buffer) = omega (arith, length-take count buffer, lt, long) in
    let x = stand stripe within in
    let e : from + stripe ≡ stripe = omega (arith, first) in
    let holds = subst (λ (n : ℕ). HoldsStripe image places lost n x.0) e x.2 in
    let here : stripe_in (take count buffer) stripe ≡ stripe_in buffer stripe = get_or-take count buffer stripe [] lt in (
      x.0,
      subst (λ (ps : List Place). HoldsStripe image ps lost stripe x.0) same holds,
      filled stripe x.0 lt (subst (λ (d : List (List ℕ)). IsStripeOf d x.0) here x.1) holds.codeword.count,
    )

-- ---- from segment to segment

pub disjoint : (l : Layout) (number other : ℕ) → AreApart l.count (units_of l) → number ≢ other → number < l.count → other < l.count → AreDisjoint (units_of l number) (units_of l other)
disjoint l number other apart ne within within_too j k j_lt k_lt = apart number other j k ne within within_too j_lt k_lt

-- a run on one is a run on some
pub on_some : {X : Type 0} {shelf : X → Shelved} {same_rest : X → X → Type 0} {a b : X} (count : ℕ) (units : ℕ → List Place) (number n many : ℕ) → number < count → Ran shelf same_rest (IsOnPlace (units number)) (OnUnits (units number) n many) a b
    → Ran shelf same_rest (IsOnSome count units) (OnSome count units n many) a b
on_some count units number n many within ran = ran_more (λ d (shard, lt, is). (number, shard, within, lt, is)) (λ d i on. (number, within, on)) ran

-- the first segments hold what they are to hold
abbrev pub HoldUpto : Shelved → Layout → List Bool → (ℕ → ℕ) → (ℕ → ℕ → List (List ℕ) → Type 0) → ℕ → Type 0
HoldUpto b l lost stripes Holds upto = (number : ℕ) → number < upto → HoldsSegment (bytes_of b) (units_of l number) lost (stripes number) (Holds number)

-- they do so after the next one is written
pub hold_more : (b c : Shelved) (l : Layout) (was now : List Bool) (stripes : ℕ → ℕ) (Holds : ℕ → ℕ → List (List ℕ) → Type 0) (number : ℕ) → AreApart l.count (units_of l) → HaveStripes l stripes → number < l.count → LosesOnly b c was now → WritesOnly (OnUnits (units_of l number) 1 15) b c
    → HoldUpto b l was stripes Holds number → HoldsSegment (bytes_of c) (units_of l number) now (stripes number) (Holds number) → HoldUpto c l now stripes Holds (number + 1)
hold_more b c l was now stripes Holds number apart some within loses writes before here =
    below_more (λ k. HoldsSegment (bytes_of c) (units_of l k) now (stripes k) (Holds k)) number
    (λ k less. segment_kept (bytes_of b) (bytes_of c) (units_of l k) was now (stripes k) (Holds k) (some k (omega (arith, less, within))).1
    (λ stripe shards low. stripe_kept b c (units_of l k) (units_of l number) 1 15 stripe was now shards
    (disjoint l k number apart (λ (e : k ≡ number). omega (arith, e, less)) (omega (arith, less, within)) within) low (omega arith) loses writes)
    (before k less))
    here

-- while more drives are lost
pub still_open : (header : Header) (was now : List Bool) (segment : Open) → ((slot : ℕ) → is_in was slot ≡ true → is_in now slot ≡ true) → IsOpenOf header was segment → IsOpenOf header now segment
still_open header was now segment stays x = record { id = x.id; kind = x.kind; places = x.places; some = x.some; known = λ slot gone. stays slot (x.known slot gone) }

-- one more segment is open
pub open_more : (l : Layout) (was now : List Bool) (opened : List Open) (next : Open) (number : ℕ) → length opened ≡ number → ((slot : ℕ) → is_in was slot ≡ true → is_in now slot ≡ true) → IsOpenOf (l.header number) now next → AreOpenOf l was opened
    → AreOpenOf l now (opened ++ next ∷ [])
open_more l was now opened next number size stays one before k segment is = grind (arith, nat_tests, get_pushed, still_open)
