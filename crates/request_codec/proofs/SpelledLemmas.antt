-- What words spell is within its bounds.
use Rattle.request_codec.proofs.Prelude.{◌≡◌, ℕ, ◌+◌, ◌-◌, ◌*◌, ◌<◌, ◌≤◌, ◌^◌, Bool, true, false, cond, leb, List, [], ◌∷◌, length, Option, Some, None, refl, sym, ap, ◌∙◌, arith, IfSome, bytes_eq, codes, fold, ◌&&◌, leb-true, pow-suc, mul-le-mul_right, mul_assoc, mul_comm, list_all, pow-le-pow_right, is_name, Request, ◌>>=◌, when, name_of, number_of, is_number, digits_number, count_of, byte_of, table_of, number_in, create_form, span_form, fill_form, new_form, copy_form, name_form, number_form, merge_form, bare_form, step_of, request_of, IsSpelledRequest, IsSpelledSpan}
use Rattle.std.specs.Char.{is_ascii_digit}
use Rattle.std.proofs.lemmas.Bool.{and_parts}
use Rattle.pur_base.specs.declared.request.Request.TheVariants as request

-- ---- numbers

digits-below : (ds : List ℕ) (n : ℕ) → list_all is_ascii_digit ds ≡ true → fold (λ n c. n * 10 + (c - 48)) n ds < (n + 1) * 10 ^ length ds
digits-below [] n h = omega arith
digits-below (d ∷ ds) n h =
    let p = 10 ^ length ds in
    let parts = and_parts _ _ h in
    let small : d ≤ 57 = leb-true _ _ (and_parts _ _ parts.0).1 in
    let rest : fold (λ n c. n * 10 + (c - 48)) (n * 10 + (d - 48)) ds < (n * 10 + (d - 48) + 1) * p = digits-below ds (n * 10 + (d - 48)) parts.1 in
    let step : (n * 10 + (d - 48) + 1) * p ≤ (n * 10 + 10) * p = mul-le-mul_right p (omega (arith, small)) in
    let ten : (n + 1) * 10 ≡ n * 10 + 10 = omega arith in
    let same : (n * 10 + 10) * p ≡ (n + 1) * 10 ^ length (d ∷ ds) =
    ap (λ (x : ℕ). x * p) (sym ten) ∙ mul_assoc (n + 1) 10 p ∙ ap (λ (x : ℕ). (n + 1) * x) (mul_comm 10 p ∙ sym (pow-suc 10 (length ds))) in
    omega (arith, rest, step, same)

number-below : (word : List ℕ) → is_number word ≡ true → digits_number word < 10 ^ 15
number-below word h =
    let all = and_parts _ _ h in
    let digits = and_parts _ _ all.0 in
    let some = and_parts _ _ digits.0 in
    let long : length word ≤ 15 = leb-true _ _ some.1 in
    let few : 10 ^ length word ≤ 10 ^ 15 = pow-le-pow_right {n = 10} (omega arith) {i = length word} {j = 15} long in
    omega (arith, digits-below word 0 digits.1, few)

-- ---- steps

-- what is there is spelled
abbrev Is : Option Request → Type 0
Is o = IfSome o IsSpelledRequest

spelled-if : (b : Bool) (x y : Option Request) → Is x → Is y → Is (cond b x y)
spelled-if true x y h k = h
spelled-if false x y h k = k

spelled-bind : {A : Type 0} (o : Option A) (f : A → Option Request) → ((x : A) → Is (f x)) → Is (o >>= f)
spelled-bind None f h = tt
spelled-bind (Some x) f h = h x

spelled-when : {A : Type 0} (b : Bool) (x : A) (f : A → Option Request) → (b ≡ true → Is (f x)) → Is (when b x >>= f)
spelled-when true x f h = h refl
spelled-when false x f h = tt

spelled-name : (word : List ℕ) (f : List ℕ → Option Request) → (is_name word ≡ true → Is (f word)) → Is (name_of word >>= f)
spelled-name word f h = spelled-when (is_name word) word f h

spelled-number : (word : List ℕ) (f : ℕ → Option Request) → ((n : ℕ) → n < 10 ^ 15 → Is (f n)) → Is (number_of word >>= f)
spelled-number word f h = spelled-when (is_number word) (digits_number word) f (λ e. h (digits_number word) (number-below word e))

spelled-within : (low high : ℕ) (o : Option ℕ) (f : ℕ → Option Request) → ((n : ℕ) → low ≤ n → n ≤ high → Is (f n))
    → Is ((o >>= λ n. when (leb low n && leb n high) n) >>= f)
spelled-within low high None f h = tt
spelled-within low high (Some n) f h =
    spelled-when (leb low n && leb n high) n f (λ e. let parts = and_parts (leb low n) (leb n high) e in h n (leb-true low n parts.0) (leb-true n high parts.1))

spelled-in : (low high : ℕ) (word : List ℕ) (f : ℕ → Option Request) → ((n : ℕ) → low ≤ n → n ≤ high → Is (f n)) → Is (number_in low high word >>= f)
spelled-in low high word f h = spelled-within low high (number_of word) f h

-- ---- forms

create-spelled : (rest : List (List ℕ)) → Is (create_form rest)
create-spelled [] = tt
create-spelled (n ∷ []) = tt
create-spelled (n ∷ s ∷ []) =
    spelled-name n (λ name. number_of s >>= λ size. Some (request.Create name size)) (λ e. spelled-number s (λ size. Some (request.Create n size)) (λ size lt. (e, lt)))
create-spelled (n ∷ s ∷ x ∷ rest) = tt

span-spelled : (make : List ℕ → ℕ → ℕ → Request) → ((n : List ℕ) (lba count : ℕ) → IsSpelledSpan n lba count → IsSpelledRequest (make n lba count)) → (rest : List (List ℕ)) → Is (span_form make rest)
span-spelled make h [] = tt
span-spelled make h (n ∷ []) = tt
span-spelled make h (n ∷ at ∷ []) = tt
span-spelled make h (n ∷ at ∷ many ∷ []) =
    spelled-name n (λ name. number_of at >>= λ lba. count_of many >>= λ count. Some (make name lba count))
    (λ e. spelled-number at (λ lba. count_of many >>= λ count. Some (make n lba count))
    (λ lba lt. spelled-in 1 64 many (λ count. Some (make n lba count)) (λ count some few. h n lba count (record { named = e; number = lt; some = some; few = few }))))
span-spelled make h (n ∷ at ∷ many ∷ x ∷ rest) = tt

fill-spelled : (rest : List (List ℕ)) → Is (fill_form rest)
fill-spelled [] = tt
fill-spelled (n ∷ []) = tt
fill-spelled (n ∷ at ∷ []) = tt
fill-spelled (n ∷ at ∷ many ∷ []) = tt
fill-spelled (n ∷ at ∷ many ∷ value ∷ []) =
    spelled-name n (λ name. number_of at >>= λ lba. count_of many >>= λ count. byte_of value >>= λ byte. Some (request.Fill name lba count byte))
    (λ e. spelled-number at (λ lba. count_of many >>= λ count. byte_of value >>= λ byte. Some (request.Fill n lba count byte))
    (λ lba lt. spelled-in 1 64 many (λ count. byte_of value >>= λ byte. Some (request.Fill n lba count byte))
    (λ count some few. spelled-in 0 255 value (λ byte. Some (request.Fill n lba count byte))
    (λ byte low high. (record { named = e; number = lt; some = some; few = few }, omega (arith, high))))))
fill-spelled (n ∷ at ∷ many ∷ value ∷ x ∷ rest) = tt

new-spelled : (make : List ℕ → List ℕ → Request) → ((n m : List ℕ) → is_name n ≡ true → is_name m ≡ true → IsSpelledRequest (make n m)) → (rest : List (List ℕ)) → Is (new_form make rest)
new-spelled make h [] = tt
new-spelled make h (n ∷ []) = tt
new-spelled make h (n ∷ m ∷ []) =
    spelled-name n (λ name. name_of m >>= λ new. Some (make name new)) (λ e. spelled-name m (λ new. Some (make n new)) (λ f. h n m e f))
new-spelled make h (n ∷ m ∷ x ∷ rest) = tt

copy-spelled : (rest : List (List ℕ)) → Is (copy_form rest)
copy-spelled [] = tt
copy-spelled (n ∷ []) = tt
copy-spelled (n ∷ at ∷ []) = tt
copy-spelled (n ∷ at ∷ m ∷ []) = tt
copy-spelled (n ∷ at ∷ m ∷ to ∷ []) = tt
copy-spelled (n ∷ at ∷ m ∷ to ∷ many ∷ []) =
    spelled-name n (λ name. number_of at >>= λ lba. name_of m >>= λ other. number_of to >>= λ to_lba. number_in 1 (10 ^ 15) many >>= λ count. Some (request.Copy name lba other to_lba count))
    (λ e. spelled-number at (λ lba. name_of m >>= λ other. number_of to >>= λ to_lba. number_in 1 (10 ^ 15) many >>= λ count. Some (request.Copy n lba other to_lba count))
    (λ lba lt. spelled-name m (λ other. number_of to >>= λ to_lba. number_in 1 (10 ^ 15) many >>= λ count. Some (request.Copy n lba other to_lba count))
    (λ f. spelled-number to (λ to_lba. number_in 1 (10 ^ 15) many >>= λ count. Some (request.Copy n lba m to_lba count))
    (λ to_lba lt2. spelled-in 1 (10 ^ 15) many (λ count. Some (request.Copy n lba m to_lba count))
    (λ count some few. record { named = e; number = lt; other_named = f; to_number = lt2; some = some })))))
copy-spelled (n ∷ at ∷ m ∷ to ∷ many ∷ x ∷ rest) = tt

name-spelled : (make : List ℕ → Request) → ((n : List ℕ) → is_name n ≡ true → IsSpelledRequest (make n)) → (rest : List (List ℕ)) → Is (name_form make rest)
name-spelled make h [] = tt
name-spelled make h (n ∷ []) = spelled-name n (λ name. Some (make name)) (λ e. h n e)
name-spelled make h (n ∷ x ∷ rest) = tt

number-spelled : (make : ℕ → Request) → ((n : ℕ) → IsSpelledRequest (make n)) → (rest : List (List ℕ)) → Is (number_form make rest)
number-spelled make h [] = tt
number-spelled make h (n ∷ []) = spelled-bind (number_of n) (λ number. Some (make number)) (λ number. h number)
number-spelled make h (n ∷ x ∷ rest) = tt

merge-spelled : (rest : List (List ℕ)) → Is (merge_form rest)
merge-spelled [] = tt
merge-spelled (t ∷ []) = tt
merge-spelled (t ∷ n ∷ []) =
    spelled-bind (table_of t) (λ tag. number_of n >>= λ number. Some (request.Merge tag number)) (λ tag. spelled-bind (number_of n) (λ number. Some (request.Merge tag number)) (λ number. tt))
merge-spelled (t ∷ n ∷ x ∷ rest) = tt

bare-spelled : (r : Request) → IsSpelledRequest r → (rest : List (List ℕ)) → Is (bare_form r rest)
bare-spelled r h [] = h
bare-spelled r h (x ∷ rest) = tt

step-spelled : (word : List ℕ) (rest : List (List ℕ)) → Is (step_of word rest)
step-spelled word rest =
    spelled-if (bytes_eq word (codes "status")) _ _ (bare-spelled request.Status tt rest) (
    spelled-if (bytes_eq word (codes "checkpoint")) _ _ (bare-spelled request.Checkpoint tt rest) (
    spelled-if (bytes_eq word (codes "merge")) _ _ (merge-spelled rest) (
    spelled-if (bytes_eq word (codes "flatten")) _ _ (name-spelled request.Flatten (λ n e. tt) rest) (
    spelled-if (bytes_eq word (codes "clean")) _ _ (number-spelled request.Clean (λ n. tt) rest) (
    spelled-if (bytes_eq word (codes "reclaim")) _ _ (bare-spelled request.Reclaim tt rest) (
    spelled-if (bytes_eq word (codes "evict")) _ _ (number-spelled request.Evict (λ n. tt) rest) (
    spelled-if (bytes_eq word (codes "admit")) _ _ (number-spelled request.Admit (λ n. tt) rest) (
    spelled-if (bytes_eq word (codes "rebuild")) _ _ (number-spelled request.Rebuild (λ n. tt) rest) (
    spelled-if (bytes_eq word (codes "takeover")) _ _ (bare-spelled request.Takeover tt rest) tt)))))))))

pub request-spelled : (words : List (List ℕ)) → IfSome (request_of words) IsSpelledRequest
request-spelled [] = tt
request-spelled (word ∷ rest) =
    spelled-if (bytes_eq word (codes "create")) _ _ (create-spelled rest) (
    spelled-if (bytes_eq word (codes "write")) _ _ (span-spelled request.Write (λ n lba count h. h) rest) (
    spelled-if (bytes_eq word (codes "fill")) _ _ (fill-spelled rest) (
    spelled-if (bytes_eq word (codes "zero")) _ _ (span-spelled request.Zero (λ n lba count h. h) rest) (
    spelled-if (bytes_eq word (codes "read")) _ _ (span-spelled request.Read (λ n lba count h. h) rest) (
    spelled-if (bytes_eq word (codes "snapshot")) _ _ (new-spelled request.Snapshot (λ n m e f. (e, f)) rest) (
    spelled-if (bytes_eq word (codes "clone")) _ _ (new-spelled request.Clone (λ n m e f. (e, f)) rest) (
    spelled-if (bytes_eq word (codes "copy")) _ _ (copy-spelled rest) (
    spelled-if (bytes_eq word (codes "destroy")) _ _ (name-spelled request.Destroy (λ n e. e) rest) (
    spelled-if (bytes_eq word (codes "list")) _ _ (bare-spelled request.List tt rest) (step-spelled word rest))))))))))
