-- What the reader gave, as an item of the grammar.
use Rattle.array_server.proofs.Prelude.{nat_tests, arith, ◌≡◌, ℕ, ◌<◌, ◌+◌, ◌*◌, Bool, true, false, cond, ltb, List, [], ◌++◌, length, take, drop, Option, Some, None, refl, sym, ap, subst, append_assoc, ◌∙◌, append-nil, take-append-drop, before_first, after_first, position_or_len, SECTOR_BYTES, Request, Item, Asked, Cut, first_item, line_item, line_request, data_count, sectors_in, is_line_end, is_cut, Reads, IsServed, item_read, IsAnswered}
use Rattle.request_codec.specs.declared.reader.Item as read
use Rattle.request_codec.specs.declared.reader.Item.TheVariants as reads

pub reads_item : (i : read.Item) (sectors : List (List ℕ)) (xs ys : List ℕ) → (i ≡ reads.End → ⊥) → (i ≡ reads.Limit → ⊥) → Reads i sectors xs ys
    → (0 < length xs) × (first_item xs ≡ (item_read i sectors, ys))
reads_item i sectors xs ys h k l = grind (arith, nat_tests)

-- only a cut write is one in the grammar
pub uncut : (i : read.Item) (sectors : List (List ℕ)) → (i ≡ reads.Cut → ⊥) → is_cut (item_read i sectors) ≡ false
uncut reads.Cut sectors c = absurd (c refl)
uncut _ sectors c = refl

pub is_answered : (i : read.Item) → (i ≡ reads.End → ⊥) → (i ≡ reads.Limit → ⊥) → IsServed i → IsAnswered i
is_answered i h k l = grind (arith, nat_tests)

-- a cut write is none that was stopped by the limit
pub cut_is_no_limit : reads.Cut ≡ reads.Limit → ⊥
cut_is_no_limit e = cc

-- nor is the end of the input
pub end_is_no_limit : reads.End ≡ reads.Limit → ⊥
end_is_no_limit e = cc

-- ---- the bytes of an item

-- one list stands behind others in another one
abbrev pub Behind : List ℕ → List ℕ → Type 0
Behind xs ys = (front : List ℕ) × (xs ≡ front ++ ys)

either-behind : (b : Bool) (p q : Item × List ℕ) (xs : List ℕ) → Behind xs p.1 → Behind xs q.1 → Behind xs (cond {A = Item × List ℕ} b p q).1
either-behind true p q xs h k = h
either-behind false p q xs h k = k

data-behind : (o : Option Request) (xs : List ℕ) → Behind xs (line_item o xs).1
data-behind None xs = ([], refl)
data-behind (Some r) xs =
    let n = SECTOR_BYTES * data_count r in
    either-behind (ltb (length xs) n) (Cut, []) (Asked r (sectors_in (data_count r) xs), drop n xs) xs (xs, sym (append-nil xs)) (take n xs, sym (take-append-drop n xs))

-- what follows an item stands behind its bytes
pub item-behind : (xs ys : List ℕ) (item : Item) → first_item xs ≡ (item, ys) → Behind xs ys
item-behind xs ys item is =
    let n = position_or_len is_line_end xs + 1 in
    let own = data-behind (line_request (before_first is_line_end xs)) (after_first is_line_end xs) in
    let rest : List ℕ = (first_item xs).1 in
    let whole : Behind xs rest = (take n xs ++ own.0, sym (take-append-drop n xs) ∙ ap (λ (l : List ℕ). take n xs ++ l) own.1 ∙ sym (append_assoc (take n xs) own.0 rest)) in
    subst (λ (p : Item × List ℕ). Behind xs p.1) is whole
