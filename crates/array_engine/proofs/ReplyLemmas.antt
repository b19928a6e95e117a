-- Replies that are given in parts.
use Rattle.array_engine.proofs.Prelude.{◌≡◌, ℕ, zero, suc, ◌+◌, ◌<◌, List, [], ◌∷◌, ◌++◌, length, take, drop, append_assoc, take-append-drop, None, Some, arith, Result, Ok, Err, sym, ap, subst, ◌∙◌, option_map, slice_get, append-nil, take-add, Entry, Entries, line_text, sectors_text, entry_text, entries_text, text, line_of, Gave, Extends}
use Rattle.std.proofs.lemmas.Grind.{flat_map-append}
use Rattle.session_spec.specs.Prelude.{Array}
use Rattle.pur_base.specs.declared.reply.Reply.TheVariants as reply
use Rattle.volume_ops.specs.declared.listing.ObjectEntry.{ObjectEntry}
use Rattle.request_codec.specs.Prelude.{Goes}
use Rattle.request_codec.proofs.WritingLemmas.{goes-first, goes-then}

-- where nothing was pending and nothing is, the text was given
pub gave-of-goes : {E : Type 0} (r : Result Unit E) (given text given_after pending_after : List ℕ) → Goes r given [] text given_after pending_after → pending_after ≡ [] → Gave r given given_after text
gave-of-goes (Ok u) given text given_after pending_after g none =
    sym (append-nil given_after) ∙ ap (λ (p : List ℕ). given_after ++ p) (sym none) ∙ g ∙ ap (λ (x : List ℕ). x ++ text) (append-nil given)
gave-of-goes (Err e) given text given_after pending_after g none = (g.0, g.1, g.2, g.3, g.4)

-- a text went behind what was given, and what was pending then was flushed
pub gave-flushed : {E : Type 0} (r : Result Unit E) (given text given_between pending_between given_after pending_after : List ℕ) → given_between ++ pending_between ≡ given ++ [] ++ text → Extends given given_between
    → Goes r given_between pending_between [] given_after pending_after → pending_after ≡ [] → Gave r given given_after text
gave-flushed {E} r given text given_between pending_between given_after pending_after went more g none =
    subst (λ (t : List ℕ). Gave {E = E} r given given_after t) (append-nil text)
    (gave-of-goes {E = E} r given (text ++ []) given_after pending_after (goes-then {E = E} r given [] text [] given_between pending_between given_after pending_after went more g) none)

-- the text of one entry
pub entry-at : (a : Array) (i : ℕ) (line : ObjectEntry) → Some line ≡ option_map line_of (slice_get a i) → entries_text (take 1 (drop i a)) ≡ entry_text line.name line.snapshot line.sectors
entry-at [] i line h = absurd cc
entry-at (e ∷ a) zero line h =
    let f : line ≡ line_of e = cc in
    append-nil (entry_text e.name e.snapshot (length e.sectors)) ∙ ap (λ (l : ObjectEntry). entry_text l.name l.snapshot l.sectors) (sym f)
entry-at (e ∷ a) (suc i) line h = entry-at a i line h

-- there is none past the last
pub none-past : (a : Array) (i : ℕ) → None ≡ option_map line_of (slice_get a i) → i < length a → ⊥
none-past [] i h lt = omega (arith, lt)
none-past (e ∷ a) zero h lt = absurd cc
none-past (e ∷ a) (suc i) h lt = none-past a i h (omega (arith, lt))

-- one entry more
pub entries-more : (a : Array) (i : ℕ) → entries_text (take (i + 1) a) ≡ entries_text (take i a) ++ entries_text (take 1 (drop i a))
entries-more a i = ap entries_text (take-add i 1 a) ∙ flat_map-append (λ (e : Entry). entry_text e.name e.snapshot (length e.sectors)) (take i a) (take 1 (drop i a))

-- entries, of which one went in part
pub entries-cut : {E : Type 0} (e : E) (given pending given_between pending_between given_after pending_after : List ℕ) (a : Array) (i : ℕ)
    → given_between ++ pending_between ≡ given ++ pending ++ entries_text (take i a) → Extends given given_between
    → Goes {E = E} (Err e) given_between pending_between (entries_text (take 1 (drop i a))) given_after pending_after → Goes {E = E} (Err e) given pending (entries_text a) given_after pending_after
entries-cut {E} e given pending given_between pending_between given_after pending_after a i went more cut =
    let tail = entries_text (drop (i + 1) a) in
    let parts : entries_text (take (i + 1) a) ++ tail ≡ entries_text a =
    sym (flat_map-append (λ (e : Entry). entry_text e.name e.snapshot (length e.sectors)) (take (i + 1) a) (drop (i + 1) a)) ∙ ap entries_text (take-append-drop (i + 1) a) in
    let front : Goes {E = E} (Err e) given pending (entries_text (take (i + 1) a)) given_after pending_after =
    subst (λ (t : List ℕ). Goes {E = E} (Err e) given pending t given_after pending_after) (sym (entries-more a i))
    (goes-then {E = E} (Err e) given pending (entries_text (take i a)) (entries_text (take 1 (drop i a))) given_between pending_between given_after pending_after went more cut) in
    subst (λ (t : List ℕ). Goes {E = E} (Err e) given pending t given_after pending_after) parts
    (goes-first {E = E} e given pending (entries_text (take (i + 1) a)) tail given_after pending_after front)

-- entries that all went
pub entry-went : (given pending given_between pending_between given_after pending_after : List ℕ) (a : Array) (i : ℕ) → given_between ++ pending_between ≡ given ++ pending ++ entries_text (take i a)
    → given_after ++ pending_after ≡ given_between ++ pending_between ++ entries_text (take 1 (drop i a)) → given_after ++ pending_after ≡ given ++ pending ++ entries_text (take (i + 1) a)
entry-went given pending given_between pending_between given_after pending_after a i went one =
    one ∙ ap (λ (t : List ℕ). t ++ entries_text (take 1 (drop i a))) went ∙ append_assoc (given ++ pending) (entries_text (take i a)) (entries_text (take 1 (drop i a)))
    ∙ ap (λ (t : List ℕ). given ++ pending ++ t) (sym (entries-more a i))

-- the line of a list of names was given in part
pub names-cut : {E : Type 0} (e : E) (given pending given_after pending_after : List ℕ) (a : Array) → Goes {E = E} (Err e) given pending (line_text (reply.Names (length a)) ++ sectors_text []) given_after pending_after
    → Goes {E = E} (Err e) given pending (text (Entries a)) given_after pending_after
names-cut {E} e given pending given_after pending_after a g =
    goes-first {E = E} e given pending (line_text (reply.Names (length a))) (entries_text a) given_after pending_after
    (subst (λ (t : List ℕ). Goes {E = E} (Err e) given pending t given_after pending_after) (append-nil (line_text (reply.Names (length a)))) g)

-- the line went, and so much of the entries
pub names-then : {E : Type 0} (r : Result Unit E) (given pending given_between pending_between given_after pending_after : List ℕ) (a : Array)
    → given_between ++ pending_between ≡ given ++ pending ++ (line_text (reply.Names (length a)) ++ sectors_text []) → Extends given given_between
    → Goes r given_between pending_between (entries_text a) given_after pending_after → Goes r given pending (text (Entries a)) given_after pending_after
names-then {E} r given pending given_between pending_between given_after pending_after a went more g =
    goes-then {E = E} r given pending (line_text (reply.Names (length a))) (entries_text a) given_between pending_between given_after pending_after
    (went ∙ ap (λ (t : List ℕ). given ++ pending ++ t) (append-nil (line_text (reply.Names (length a))))) more g
