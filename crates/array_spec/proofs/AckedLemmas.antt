-- Replies delimit themselves.
use Rattle.array_spec.proofs.Prelude.{nat_tests, ◌≡◌, ◌≢◌, ℕ, zero, suc, ◌+◌, ◌*◌, ◌-◌, ◌^◌, ◌<◌, ◌≤◌, Bool, true, false, cond, not, ltb, ◌&&◌, ◌||◌, List, [], ◌∷◌, ◌++◌, length, Option, Some, None, refl, sym, ap, ◌∙◌, arith, append_assoc, length-append, codes, decimal, fold, nat_eq, le-ltb, ltb-false, ne_eqb, append-nil, drop_at, false≢true, drop-append-le, is_name_byte, Refusal, Reply, Entry, digits_number, is_line_end, Answer, Line, Sectors, Entries, text, texts, line_text, sectors_text, entries_text, entry_text, numbers_text, kind_text, IsOpen, open-nil, open-append, before-past, after-past, before-in, after-in}
use Rattle.std.specs.List.{AllByRecursion, list_any, list_all, position_or_len, before_first, after_first}
use Rattle.std.specs.Str.Parse.{AllDigits}
use Rattle.std.proofs.lemmas.Fmt.{decimal_is_IsNumeral, digits_value-decimal}
use Rattle.std.proofs.lemmas.Str.Parse.{digit_from_value, IsNumeralModel, numerals_by_fold, tells_digits}
use Rattle.pur_base.specs.declared.reply.Refusal.TheVariants as refusals
use Rattle.pur_base.specs.declared.reply.Reply.TheVariants as reply
use Rattle.array_spec.specs.Acked.{acked_within, after_reply, skip_reply, skip, skip_lines, IsLine, IsEntry, IsAnswer, CountsReplies, CutIsNone}

-- ---- a line and what follows it

any-past : (line rest : List ℕ) → list_any is_line_end (line ++ 10 ∷ rest) ≡ true
any-past [] rest = refl
any-past (b ∷ line) rest = any-of (is_line_end b) (list_any is_line_end (line ++ 10 ∷ rest)) (any-past line rest)
  where
    any-of : (c d : Bool) → d ≡ true → (c || d) ≡ true
    any-of true d e = refl
    any-of false d e = e

after-line : (line rest : List ℕ) → IsOpen line → after_reply (line ++ 10 ∷ rest) ≡ skip_reply line rest
after-line line rest is = grind (arith, nat_tests, is_line_end, before-past, append-nil, any-past, after-past)

-- ---- digits

open-cons : (b : ℕ) (bs : List ℕ) → b ≢ 10 → IsOpen bs → IsOpen (b ∷ bs)
open-cons b bs ne is = let e = ne_eqb b 10 ne in record { none = rw e (omega (arith, is.none)) }

open-digits : (ds : List ℕ) → AllDigits 10 ds → IsOpen ds
open-digits [] h = open-nil
open-digits (d ∷ ds) h =
    let range = digit_from_value d h.0 in
    open-cons d ds (λ e. absurd (omega (arith, e, range.0))) (open-digits ds h.1)

own : IsNumeralModel (AllDigits 10) digits_number
own = numerals_by_fold (AllDigits 10) tells_digits (λ n ds. fold (λ (m c : ℕ). m * 10 + (c - 48)) n ds) (record { empty = λ n. refl; more = λ n c cs h. refl })

open-decimal : (n : ℕ) → n < 2 ^ 64 → IsOpen (decimal n)
open-decimal n lt = open-digits (decimal n) ((decimal_is_IsNumeral n lt).0.1)

number-again : (n : ℕ) → n < 2 ^ 64 → digits_number (decimal n) ≡ n
number-again n lt = digits_value-decimal own n lt

-- ---- replies of one line

line-whole : (line rest : List ℕ) → IsOpen line → skip_reply line rest ≡ Some rest → after_reply ((line ++ 10 ∷ []) ++ rest) ≡ Some rest
line-whole line rest is whole = ap after_reply (append_assoc line (10 ∷ []) rest) ∙ after-line line rest is ∙ whole

refused-whole : (why : Refusal) (rest : List ℕ) → after_reply (line_text (reply.Refused why) ++ rest) ≡ Some rest
refused-whole refusals.Cut rest = refl
refused-whole refusals.Syntax rest = refl
refused-whole refusals.Halted rest = refl
refused-whole refusals.Unknown rest = refl
refused-whole refusals.Taken rest = refl
refused-whole refusals.ReadOnly rest = refl
refused-whole refusals.Range rest = refl
refused-whole refusals.Limit rest = refl
refused-whole refusals.Spent rest = refl
refused-whole refusals.NothingThere rest = refl
refused-whole refusals.Member rest = refl
refused-whole refusals.Missing rest = refl
refused-whole refusals.TooFew rest = refl
refused-whole refusals.Space rest = refl
refused-whole refusals.Memory rest = refl
refused-whole refusals.Device rest = refl

open-numbers : (ns : List ℕ) → AllByRecursion (λ n. n < 2 ^ 64) ns → IsOpen (numbers_text ns)
open-numbers [] h = open-nil
open-numbers (n ∷ ns) h = open-append (32 ∷ decimal n) (numbers_text ns) (open-cons 32 (decimal n) (λ e. absurd (omega (arith, e))) (open-decimal n h.0)) (open-numbers ns h.1)

line-reply : (r : Reply) (rest : List ℕ) → IsLine r → after_reply (line_text r ++ rest) ≡ Some rest
line-reply reply.Done rest h = refl
line-reply (reply.Data count) rest h = absurd h
line-reply (reply.Names count) rest h = absurd h
line-reply (reply.Controller number) rest h =
    line-whole (codes "ok controller " ++ decimal number) rest (open-append (codes "ok controller ") (decimal number) (record { none = refl }) (open-decimal number h)) refl
line-reply (reply.Numbers numbers) rest h =
    line-whole (codes "status" ++ numbers_text numbers) rest (open-append (codes "status") (numbers_text numbers) (record { none = refl }) (open-numbers numbers h)) refl
line-reply reply.Idle rest h = refl
line-reply reply.Left rest h = refl
line-reply reply.Member rest h = refl
line-reply (reply.Refused why) rest h = refused-whole why rest

-- ---- data

length-sectors : (ss : List (List ℕ)) → AllByRecursion (λ s. length s ≡ 512) ss → length (sectors_text ss) ≡ 512 * length ss
length-sectors [] h = refl
length-sectors (s ∷ ss) h = omega (arith, h.0, length-sectors ss h.1, length-append s (sectors_text ss))

skip-exact : (n : ℕ) (bytes rest : List ℕ) → length bytes ≡ n → skip n (bytes ++ rest) ≡ Some rest
skip-exact n bytes rest is = grind (arith, nat_tests, ltb, le-ltb, length-append, drop_at)

data-reply : (ss : List (List ℕ)) (rest : List ℕ) → IsAnswer (Sectors ss) → after_reply (text (Sectors ss) ++ rest) ≡ Some rest
data-reply ss rest h =
    let line = codes "data " ++ decimal (length ss) in
    let is : IsOpen line = open-append (codes "data ") (decimal (length ss)) (record { none = refl }) (open-decimal (length ss) h.0) in
    let shape : text (Sectors ss) ++ rest ≡ line ++ 10 ∷ (sectors_text ss ++ rest) =
    append_assoc (line ++ 10 ∷ []) (sectors_text ss) rest ∙ append_assoc line (10 ∷ []) (sectors_text ss ++ rest) in
    let count : skip_reply line (sectors_text ss ++ rest) ≡ skip (512 * digits_number (decimal (length ss))) (sectors_text ss ++ rest) = refl in
    ap after_reply shape ∙ after-line line (sectors_text ss ++ rest) is ∙ count
    ∙ ap (λ (n : ℕ). skip (512 * n) (sectors_text ss ++ rest)) (number-again (length ss) h.0)
    ∙ skip-exact (512 * length ss) (sectors_text ss) rest (length-sectors ss h.1)

-- ---- names

and-left : (b c : Bool) → (b && c) ≡ true → b ≡ true
and-left true c e = refl
and-left false c e = e

and-right : (b c : Bool) → (b && c) ≡ true → c ≡ true
and-right true c e = e
and-right false c e = absurd (false≢true e)

name-open : (name : List ℕ) → list_all is_name_byte name ≡ true → IsOpen name
name-open [] h = open-nil
name-open (b ∷ bs) h =
    let first : is_name_byte b ≡ true = and-left (is_name_byte b) (list_all is_name_byte bs) h in
    open-cons b bs (λ e. let f : is_name_byte 10 ≡ true = ap is_name_byte (sym e) ∙ first in absurd (false≢true f)) (name-open bs (and-right (is_name_byte b) (list_all is_name_byte bs) h))

kind-open : (snapshot : Bool) → IsOpen (kind_text snapshot)
kind-open true = record { none = refl }
kind-open false = record { none = refl }

entry-skipped : (e : Entry) (rest : List ℕ) → IsEntry e → (n : ℕ) → skip_lines (suc n) (entry_text e.name e.snapshot (length e.sectors) ++ rest) ≡ skip_lines n rest
entry-skipped e rest h n = grind (arith, nat_tests, and-right, open-append, name-open, kind-open, open-decimal, append_assoc, any-past, after-past)

names-skipped : (es : List Entry) (rest : List ℕ) → AllByRecursion IsEntry es → skip_lines (length es) (entries_text es ++ rest) ≡ Some rest
names-skipped [] rest h = refl
names-skipped (e ∷ es) rest h =
    ap (skip_lines (suc (length es))) (append_assoc (entry_text e.name e.snapshot (length e.sectors)) (entries_text es) rest)
    ∙ entry-skipped e (entries_text es ++ rest) h.0 (length es) ∙ names-skipped es rest h.1

names-reply : (es : List Entry) (rest : List ℕ) → IsAnswer (Entries es) → after_reply (text (Entries es) ++ rest) ≡ Some rest
names-reply es rest h =
    let line = codes "names " ++ decimal (length es) in
    let is : IsOpen line = open-append (codes "names ") (decimal (length es)) (record { none = refl }) (open-decimal (length es) h.0) in
    let shape : text (Entries es) ++ rest ≡ line ++ 10 ∷ (entries_text es ++ rest) =
    append_assoc (line ++ 10 ∷ []) (entries_text es) rest ∙ append_assoc line (10 ∷ []) (entries_text es ++ rest) in
    let count : skip_reply line (entries_text es ++ rest) ≡ skip_lines (digits_number (decimal (length es))) (entries_text es ++ rest) = refl in
    ap after_reply shape ∙ after-line line (entries_text es ++ rest) is ∙ count
    ∙ ap (λ (n : ℕ). skip_lines n (entries_text es ++ rest)) (number-again (length es) h.0)
    ∙ names-skipped es rest h.1

reply-whole : (q : Answer) (rest : List ℕ) → IsAnswer q → after_reply (text q ++ rest) ≡ Some rest
reply-whole (Line r) rest h = line-reply r rest h
reply-whole (Sectors ss) rest h = data-reply ss rest h
reply-whole (Entries es) rest h = names-reply es rest h

-- ---- many replies

counted : (n : ℕ) (qs : List Answer) (cut : List ℕ) → AllByRecursion IsAnswer qs → after_reply cut ≡ None → length qs ≤ n → acked_within n (after_reply (texts qs ++ cut)) ≡ length qs
counted zero [] cut h none le = refl
counted zero (q ∷ qs) cut h none le = absurd (omega (arith, le))
counted (suc n) [] cut h none le = rw none refl
counted (suc n) (q ∷ qs) cut h none le =
    let first : after_reply (texts (q ∷ qs) ++ cut) ≡ Some (texts qs ++ cut) = ap after_reply (append_assoc (text q) (texts qs) cut) ∙ reply-whole q (texts qs ++ cut) h.0 in
    rw first (ap suc (counted n qs cut h.1 none (omega (arith, le))))

text-some : (t : List ℕ) → after_reply (t ++ []) ≡ Some [] → 0 < length t
text-some [] e = absurd cc
text-some (x ∷ t) e = omega arith

texts-long : (qs : List Answer) → AllByRecursion IsAnswer qs → length qs ≤ length (texts qs)
texts-long [] h = omega arith
texts-long (q ∷ qs) h = omega (arith, text-some (text q) (reply-whole q [] h.0), texts-long qs h.1, length-append (text q) (texts qs))

pub counts-replies : CountsReplies
counts-replies qs cut h none = counted (length (texts qs ++ cut)) qs cut h none (omega (arith, texts-long qs h, length-append (texts qs) cut))

-- ---- more bytes behind

place-of : (c d : Bool) (n m : ℕ) → (c || d) ≡ true → (d ≡ true → n < m) → cond (not c) (1 + n) 0 < suc m
place-of true d n m f h = omega arith
place-of false d n m f h = let k : n < m = h f in omega arith

any-place : (xs : List ℕ) → list_any is_line_end xs ≡ true → position_or_len is_line_end xs < length xs
any-place [] e = absurd (false≢true e)
any-place (b ∷ xs) e = place-of (is_line_end b) (list_any is_line_end xs) (position_or_len is_line_end xs) (length xs) e (any-place xs)

more-of-any : (c d f : Bool) → (c || d) ≡ true → (d ≡ true → f ≡ true) → (c || f) ≡ true
more-of-any true d f e h = refl
more-of-any false d f e h = h e

any-more : (xs ys : List ℕ) → list_any is_line_end xs ≡ true → list_any is_line_end (xs ++ ys) ≡ true
any-more [] ys e = absurd (false≢true e)
any-more (b ∷ xs) ys e = more-of-any (is_line_end b) (list_any is_line_end xs) (list_any is_line_end (xs ++ ys)) e (any-more xs ys)

some-of : {A : Type 0} (c : Bool) (x : Option A) (y : A) → cond c x None ≡ Some y → (c ≡ true) × (x ≡ Some y)
some-of true x y e = (refl, e)
some-of false x y e = absurd cc

some-is : (x y : List ℕ) → (let o : Option (List ℕ) = Some x in o) ≡ Some y → x ≡ y
some-is x y e = cc

skip-of : (c : Bool) (x y : List ℕ) → cond c None (Some x) ≡ Some y → (c ≡ false) × (x ≡ y)
skip-of true x y e = absurd cc
skip-of false x y e = (refl, cc)

skip-more : (n : ℕ) (xs ys rest : List ℕ) → skip n xs ≡ Some rest → skip n (xs ++ ys) ≡ Some (rest ++ ys)
skip-more n xs ys rest e = grind (arith, nat_tests, skip-of, ltb, ltb-false, le-ltb, length-append, drop-append-le)

lines-more : (n : ℕ) (xs ys rest : List ℕ) → skip_lines n xs ≡ Some rest → skip_lines n (xs ++ ys) ≡ Some (rest ++ ys)
lines-more zero xs ys rest e = let f : xs ≡ rest = cc in rw f refl
lines-more (suc n) xs ys rest e =
    let s = some-of (list_any is_line_end xs) (skip_lines n (after_first is_line_end xs)) rest e in
    rw (any-more xs ys s.0, after-in xs ys (any-place xs s.0)) (lines-more n (after_first is_line_end xs) ys rest s.1)

reply-more : (line xs ys rest : List ℕ) → skip_reply line xs ≡ Some rest → skip_reply line (xs ++ ys) ≡ Some (rest ++ ys)
reply-more line xs ys rest e = grind (arith, nat_tests, nat_eq, codes, cond, digits_number, skip-more, lines-more)

whole-more : (xs ys rest : List ℕ) → after_reply xs ≡ Some rest → after_reply (xs ++ ys) ≡ Some (rest ++ ys)
whole-more xs ys rest e =
    let s = some-of (list_any is_line_end xs) (skip_reply (before_first is_line_end xs) (after_first is_line_end xs)) rest e in
    let place = any-place xs s.0 in
    rw (any-more xs ys s.0, before-in xs ys place, after-in xs ys place) (reply-more (before_first is_line_end xs) (after_first is_line_end xs) ys rest s.1)

pub cut-is-none : CutIsNone
cut-is-none q cut missing h is some = none-of (after_reply cut) refl
  where
    none-of : (o : Option (List ℕ)) → after_reply cut ≡ o → after_reply cut ≡ None
    none-of None e = e
    none-of (Some rest) e =
        let whole : after_reply (cut ++ missing) ≡ Some [] = ap after_reply (sym is ∙ sym (append-nil (text q))) ∙ reply-whole q [] h in
        let more = whole-more cut missing rest e in
        let same : rest ++ missing ≡ [] = some-is (rest ++ missing) [] (sym more ∙ whole) in
        absurd (omega (arith, ap length same, length-append rest missing))
