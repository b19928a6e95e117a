-- A text that is given in parts, and texts one behind another.
use Rattle.request_codec.proofs.Prelude.{◌≤◌, ◌≡◌, ℕ, ◌+◌, ◌-◌, ◌<◌, List, [], ◌∷◌, ◌++◌, length, take, drop, get_or, subst, Result, Ok, Err, sym, ap, ◌∙◌, arith, append_assoc, length-append, take-append-drop, append-nil, take-add, take_rest, drop_more, take_more, append_cancel_left, sectors_text, Goes, Extends}
use Rattle.std.proofs.lemmas.Grind.{flat_map-append}

-- one piece more
pub give-more : (out0 out1 out2 bytes : List ℕ) (given count : ℕ) → out1 ≡ out0 ++ take given bytes → out2 ≡ out1 ++ take count (take (length bytes - given) (drop given bytes))
    → out2 ≡ out0 ++ take (given + count) bytes
give-more out0 out1 out2 bytes given count first second =
    second ∙ ap (λ (t : List ℕ). out1 ++ take count t) (take_rest bytes given) ∙ ap (λ (t : List ℕ). t ++ take count (drop given bytes)) first
    ∙ append_assoc out0 (take given bytes) (take count (drop given bytes)) ∙ ap (λ (t : List ℕ). out0 ++ t) (sym (take-add given count bytes))

-- for callers: what was given stays, once and twice
pub extends-on : (a b c : List ℕ) → Extends a b → Extends b c → Extends a c
extends-on a b c e f = (e.0 ++ f.0, f.1 ∙ ap (λ (t : List ℕ). t ++ f.0) e.1 ∙ append_assoc a e.0 f.0)

-- an error in the first part is one in the whole
pub goes-first : {E : Type 0} (e : E) (given pending first second given_after pending_after : List ℕ)
    → Goes {E = E} (Err e) given pending first given_after pending_after → Goes {E = E} (Err e) given pending (first ++ second) given_after pending_after
goes-first e given pending first second given_after pending_after g = (
  g.0,
  g.1 ++ second,
  omega (arith, g.2, length-append g.1 second),
  sym (append_assoc pending first second) ∙ ap (λ (t : List ℕ). t ++ second) g.3 ∙ append_assoc g.0 g.1 second,
  g.4,
  g.5,
)

-- the first part went, and then the second as it did
pub goes-then : {E : Type 0} (r : Result Unit E) (given pending first second given_between pending_between given_after pending_after : List ℕ)
    → given_between ++ pending_between ≡ given ++ pending ++ first → Extends given given_between
    → Goes r given_between pending_between second given_after pending_after → Goes r given pending (first ++ second) given_after pending_after
goes-then (Ok u) given pending first second given_between pending_between given_after pending_after went more g =
    g ∙ ap (λ (t : List ℕ). t ++ second) went ∙ append_assoc (given ++ pending) first second
goes-then (Err e) given pending first second given_between pending_between given_after pending_after went more g =
    let between : more.0 ++ pending_between ≡ pending ++ first =
    append_cancel_left given (more.0 ++ pending_between) (pending ++ first)
    (sym (append_assoc given more.0 pending_between) ∙ ap (λ (t : List ℕ). t ++ pending_between) (sym more.1) ∙ went ∙ append_assoc given pending first) in (
      more.0 ++ g.0,
      g.1,
      g.2,
      sym (append_assoc pending first second) ∙ ap (λ (t : List ℕ). t ++ second) (sym between) ∙ append_assoc more.0 pending_between second
          ∙ ap (λ (t : List ℕ). more.0 ++ t) g.3 ∙ sym (append_assoc more.0 g.0 g.1),
      g.4 ∙ ap (λ (t : List ℕ). t ++ g.0) more.1 ∙ append_assoc given more.0 g.0,
      g.5,
    )

-- the front of a text was appended, and what was pending then wasn't given whole
pub goes-front : {E : Type 0} (e : E) (given pending pending_between text given_after pending_after : List ℕ) (n : ℕ) → pending_between ≡ pending ++ take n text
    → Goes {E = E} (Err e) given pending_between [] given_after pending_after → Goes {E = E} (Err e) given pending text given_after pending_after
goes-front {E} e given pending pending_between text given_after pending_after n is g =
    let whole : Goes {E = E} (Err e) given pending (take n text ++ drop n text) given_after pending_after = (
      g.0,
      g.1 ++ drop n text,
      omega (arith, g.2, length-append g.1 (drop n text)),
      sym (append_assoc pending (take n text) (drop n text)) ∙ ap (λ (t : List ℕ). t ++ drop n text) (sym is ∙ sym (append-nil pending_between) ∙ g.3) ∙ append_assoc g.0 g.1 (drop n text),
      g.4,
      g.5,
    ) in
    subst (λ (t : List ℕ). Goes {E = E} (Err e) given pending t given_after pending_after) (take-append-drop n text) whole

-- one sector more
pub texts-more : (sectors : List (List ℕ)) (i : ℕ) (s : List ℕ) → i < length sectors → s ≡ get_or sectors i s → sectors_text (take (i + 1) sectors) ≡ sectors_text (take i sectors) ++ s
texts-more sectors i s lt is =
    ap sectors_text (take_more sectors i s lt ∙ ap (λ (x : List ℕ). take i sectors ++ x ∷ []) (sym is)) ∙ flat_map-append (λ (x : List ℕ). x) (take i sectors) (s ∷ [])
    ∙ ap (λ (t : List ℕ). sectors_text (take i sectors) ++ t) (append-nil s)

texts-split : (sectors : List (List ℕ)) (i : ℕ) (s : List ℕ) → i < length sectors → s ≡ get_or sectors i s
    → sectors_text sectors ≡ sectors_text (take i sectors) ++ (s ++ sectors_text (drop (i + 1) sectors))
texts-split sectors i s lt is =
    let split : sectors ≡ take i sectors ++ s ∷ drop (i + 1) sectors =
    sym (take-append-drop i sectors) ∙ ap (λ (r : List (List ℕ)). take i sectors ++ r) (drop_more sectors i s lt ∙ ap (λ (x : List ℕ). x ∷ drop (i + 1) sectors) (sym is)) in
    ap sectors_text split ∙ flat_map-append (λ (x : List ℕ). x) (take i sectors) (s ∷ drop (i + 1) sectors)

-- a sector fits where all do
pub sector-fits : (pending between : List ℕ) (sectors : List (List ℕ)) (i : ℕ) (s : List ℕ) (room : ℕ) → i < length sectors → s ≡ get_or sectors i s
    → length pending + length (sectors_text sectors) ≤ room → between ≡ pending ++ sectors_text (take i sectors) → length between + length s ≤ room
sector-fits pending between sectors i s room lt is fits between-is =
    let front = sectors_text (take i sectors) in
    let back = sectors_text (drop (i + 1) sectors) in
    omega (arith, fits, ap length (texts-split sectors i s lt is), length-append front (s ++ back), length-append s back, ap length between-is, length-append pending front)

-- sectors, of which one went in part
pub goes-sector : {E : Type 0} (e : E) (given pending given_between pending_between given_after pending_after : List ℕ) (sectors : List (List ℕ)) (i : ℕ) (s : List ℕ)
    → i < length sectors → s ≡ get_or sectors i s → given_between ++ pending_between ≡ given ++ pending ++ sectors_text (take i sectors) → Extends given given_between
    → Goes {E = E} (Err e) given_between pending_between s given_after pending_after → Goes {E = E} (Err e) given pending (sectors_text sectors) given_after pending_after
goes-sector {E} e given pending given_between pending_between given_after pending_after sectors i s lt is went more cut =
    let parts = texts-split sectors i s lt is in
    let whole : Goes {E = E} (Err e) given pending (sectors_text (take i sectors) ++ (s ++ sectors_text (drop (i + 1) sectors))) given_after pending_after =
    goes-then {E = E} (Err e) given pending (sectors_text (take i sectors)) (s ++ sectors_text (drop (i + 1) sectors)) given_between pending_between given_after pending_after went more
    (goes-first {E = E} e given_between pending_between s (sectors_text (drop (i + 1) sectors)) given_after pending_after cut) in
    subst (λ (x : List ℕ). Goes {E = E} (Err e) given pending x given_after pending_after) (sym parts) whole
