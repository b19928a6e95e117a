-- A field that is read is the field that was written, and what was written is read again.
use Rattle.boot_codec.proofs.Prelude.{◌≡◌, ℕ, ◌+◌, ◌^◌, ◌<◌, ◌≤◌, Bool, true, false, ◌&&◌, cond, eqb, leb, ltb, List, [], ◌∷◌, ◌++◌, length, get_or, take, drop, Result, Ok, Err, refl, sym, ap, subst, ◌∙◌, append_assoc, arith, length-append, eqb-true, ltb-true, leb-true, lt-ltb, le-leb, take-append-drop, length-take, get_or-drop, Width, w8, w16, w32, w64, byte_len, from_be_bytes, to_be_bytes, be_bytes_2, be_bytes_4, be_bytes_8, from_be_bytes-to_be_bytes_2, from_be_bytes-to_be_bytes_4, from_be_bytes-to_be_bytes_8, BadRecord, IsNext, Reading, then_read, fault_at, number, these, next_number, flushed_number, nat_tests, u8, u64}

abbrev pub IsBytes : List ℕ → Type 0
IsBytes bytes = (i : ℕ) → get_or bytes i 0 < 256

IsBytes-drop : (n : ℕ) (bytes : List ℕ) → IsBytes bytes → IsBytes (drop n bytes)
IsBytes-drop n bytes h i = rw get_or-drop (h (n + i))

-- the value of a step that did not fail
pub bind_ok : {A B : Type 0} (read : Result (A × List ℕ) BadRecord) (f : A → Reading B) (y : B × List ℕ) → then_read f read ≡ Ok y → (x : A × List ℕ) × (read ≡ Ok x) × (f x.0 x.1 ≡ Ok y)
bind_ok (Ok x) f y e = (x, refl, e)
bind_ok (Err d) f y e = absurd cc

-- a test that did not fail
guard_ok : {A : Type 0} (b : Bool) (d : BadRecord) (x y : A) → cond b (Ok x) (Err d) ≡ Ok y → (b ≡ true) × (x ≡ y)
guard_ok true d x y e = (refl, cc)
guard_ok false d x y e = absurd cc

pub both_true : (a b : Bool) → (a && b) ≡ true → (a ≡ true) × (b ≡ true)
both_true true b e = (refl, e)
both_true false b e = absurd cc

abbrev done : {A : Type 0} → A → Result A BadRecord
done x = Ok x

pub ok_is : {A : Type 0} (x y : A) → done x ≡ done y → x ≡ y
ok_is x y e = cc

-- what a reader took from the front
pub record Takes (bytes text rest : List ℕ) : Type 0 where
  pub parts : bytes ≡ text ++ rest
  pub rest_fits : IsBytes rest

pub Takes-then : (a x b y c : List ℕ) → Takes a x b → Takes b y c → Takes a (x ++ y) c
Takes-then a x b y c p q = record { parts = p.parts ∙ ap (λ (t : List ℕ). x ++ t) q.parts ∙ sym (append_assoc x y c); rest_fits = q.rest_fits }

-- how many bytes are left
pub Takes-length : (a x b : List ℕ) → Takes a x b → length a ≡ length x + length b
Takes-length a x b h = ap length h.parts ∙ length-append x b

-- A reading of at least so many bytes takes those that spell its value, of which P holds.
pub record Reads {A : Type 0} (read : Reading A) (least : ℕ) (text : A → List ℕ) (P : A → Type 0) : Type 0 where
  pub take : (bytes : List ℕ) (x : A × List ℕ) → IsBytes bytes → least ≤ length bytes → read bytes ≡ Ok x → Takes bytes (text x.0) x.1 × P x.0

-- what one reading more took behind a front
pub record Step {A B : Type 0} (f : A → Reading B) (bytes front : List ℕ) (text : A → List ℕ) (P : A → Type 0) (y : B × List ℕ) : Type 0 where
  pub value : A
  pub rest : List ℕ
  pub takes : Takes bytes (front ++ text value) rest
  pub holds : P value
  pub after : f value rest ≡ Ok y

pub step : {A B : Type 0} {read : Reading A} {least : ℕ} {text : A → List ℕ} {P : A → Type 0} {bytes front rest : List ℕ} {f : A → Reading B} {y : B × List ℕ}
    → Reads read least text P → Takes bytes front rest → length front + least ≤ length bytes → then_read f (read rest) ≡ Ok y → Step f bytes front text P y
step {A} {B} {read} {least} {text} {P} {bytes} {front} {rest} {f} {y} r t long e =
    let a = bind_ok (read rest) f y e in
    let took = r.take rest a.0 t.rest_fits (omega (arith, long, Takes-length bytes front rest t)) a.1 in
    record { value = a.0.0; rest = a.0.1; takes = Takes-then bytes front rest (text a.0.0) a.0.1 t took.0; holds = took.1; after = a.2 }

-- nothing is taken yet
pub at_start : {bytes : List ℕ} → IsBytes bytes → Takes bytes [] bytes
at_start fits = record { parts = refl; rest_fits = fits }

-- ---- numbers

pub record IsWide (w : Width) (limit : ℕ) : Type 0 where
  pub len : (n : ℕ) → length (to_be_bytes w n) ≡ byte_len w
  pub back : (bytes : List ℕ) → byte_len w ≤ length bytes → IsBytes bytes → to_be_bytes w (from_be_bytes w bytes) ≡ take (byte_len w) bytes
  pub again : (n : ℕ) (rest : List ℕ) → n < limit → from_be_bytes w (to_be_bytes w n ++ rest) ≡ n
  pub after : (n : ℕ) (rest : List ℕ) → drop (byte_len w) (to_be_bytes w n ++ rest) ≡ rest
  pub below : (bytes : List ℕ) → IsBytes bytes → from_be_bytes w bytes < limit

pub front16 : (bytes : List ℕ) → 2 ≤ length bytes → from_be_bytes w16 bytes ≡ from_be_bytes w16 (take 2 bytes)
front16 [] h = absurd (omega arith)
front16 (a ∷ []) h = absurd (omega arith)
front16 (a ∷ b ∷ rest) h = refl

pub front32 : (bytes : List ℕ) → 4 ≤ length bytes → from_be_bytes w32 bytes ≡ from_be_bytes w32 (take 4 bytes)
front32 [] h = absurd (omega arith)
front32 (a ∷ []) h = absurd (omega arith)
front32 (a ∷ b ∷ []) h = absurd (omega arith)
front32 (a ∷ b ∷ c ∷ []) h = absurd (omega arith)
front32 (a ∷ b ∷ c ∷ d ∷ rest) h = refl

pub front64 : (bytes : List ℕ) → 8 ≤ length bytes → from_be_bytes w64 bytes ≡ from_be_bytes w64 (take 8 bytes)
front64 [] h = absurd (omega arith)
front64 (a ∷ []) h = absurd (omega arith)
front64 (a ∷ b ∷ []) h = absurd (omega arith)
front64 (a ∷ b ∷ c ∷ []) h = absurd (omega arith)
front64 (a ∷ b ∷ c ∷ d ∷ []) h = absurd (omega arith)
front64 (a ∷ b ∷ c ∷ d ∷ e ∷ []) h = absurd (omega arith)
front64 (a ∷ b ∷ c ∷ d ∷ e ∷ f ∷ []) h = absurd (omega arith)
front64 (a ∷ b ∷ c ∷ d ∷ e ∷ f ∷ g ∷ []) h = absurd (omega arith)
front64 (a ∷ b ∷ c ∷ d ∷ e ∷ f ∷ g ∷ i ∷ rest) h = refl

pub wide16 : IsWide w16 (2 ^ 16)
wide16 = grind (arith, nat_tests, be_bytes_2, length-take, front16, from_be_bytes-to_be_bytes_2)

pub wide32 : IsWide w32 (2 ^ 32)
wide32 = grind (arith, nat_tests, be_bytes_4, length-take, front32, from_be_bytes-to_be_bytes_4)

pub wide64 : IsWide w64 (2 ^ 64)
wide64 = grind (arith, nat_tests, be_bytes_8, length-take, front64, from_be_bytes-to_be_bytes_8)

-- a number that was read is what follows from its test
pub number_reads : (w : Width) (limit : ℕ) (wide : IsWide w limit) (test : ℕ → Bool) {P : ℕ → Type 0} → ((n : ℕ) → n < limit → test n ≡ true → P n) → Reads (number w test) (byte_len w) (to_be_bytes w) P
number_reads w limit wide test {P} passed = record {
  take = λ bytes x fits long e.
      let n = from_be_bytes w bytes in
      let g = guard_ok (test n) (fault_at bytes) (n, drop (byte_len w) bytes) x e in
      let parts = sym (ap (λ (t : List ℕ). t ++ drop (byte_len w) bytes) (wide.back bytes long fits) ∙ take-append-drop (byte_len w) bytes) in
      subst (λ (y : ℕ × List ℕ). Takes bytes (to_be_bytes w y.0) y.1 × P y.0) g.1 (record { parts = parts; rest_fits = IsBytes-drop (byte_len w) bytes fits }, passed n (wide.below bytes fits) g.0);
}

pub number_again : (w : Width) (limit : ℕ) (wide : IsWide w limit) (test : ℕ → Bool) (n : ℕ) (rest : List ℕ)
    → n < limit → test n ≡ true → number w test (to_be_bytes w n ++ rest) ≡ Ok (n, rest)
number_again w limit wide test n rest lt passes = grind (arith, nat_tests)

-- ---- bytes

byte_parts : (bytes : List ℕ) → 1 ≤ length bytes → bytes ≡ get_or bytes 0 0 ∷ drop 1 bytes
byte_parts [] h = absurd (omega arith)
byte_parts (b ∷ bytes) h = refl

pub byte_reads : (test : ℕ → Bool) {P : ℕ → Type 0} → ((n : ℕ) → test n ≡ true → P n) → Reads (number w8 test) 1 u8 P
byte_reads test {P} passed = record {
  take = λ bytes x fits long e.
      let g = guard_ok (test (get_or bytes 0 0)) (fault_at bytes) (get_or bytes 0 0, drop 1 bytes) x e in
      subst (λ (y : ℕ × List ℕ). Takes bytes (u8 y.0) y.1 × P y.0) g.1 (record { parts = byte_parts bytes long; rest_fits = IsBytes-drop 1 bytes fits }, passed _ g.0);
}

pub byte_again : (test : ℕ → Bool) (n : ℕ) (rest : List ℕ) → test n ≡ true → number w8 test (n ∷ rest) ≡ Ok (n, rest)
byte_again test n rest passes = rw passes refl

-- a reading whose value is told takes what spells that value
pub told : {A : Type 0} {read : Reading A} {least : ℕ} {text : A → List ℕ} {value : A} → Reads read least text (λ x. x ≡ value) → Reads read least (λ _. text value) (λ _. Unit {0})
told {A} {read} {least} {text} r = record { take = λ bytes x fits long e. let t = r.take bytes x fits long e in (subst (λ v. Takes bytes (text v) x.1) t.1 t.0, tt) }

pub these_reads : (text : List ℕ) → Reads (these text) (length text) (λ _. text) (λ _. Unit {0})
unfolding these
these_reads [] = record { take = λ bytes x fits long e. (subst (λ (y : Unit {0} × List ℕ). Takes bytes [] y.1) (ok_is (tt, bytes) x e) (at_start fits), tt) }
these_reads (b ∷ bs) = record {
  take = λ bytes x fits long e.
      let a = step (told (byte_reads (λ n. eqb n b) (λ n passes. eqb-true n b passes))) (at_start fits) (omega arith) e in
      let others = (these_reads bs).take a.rest x a.takes.rest_fits (omega (arith, Takes-length _ _ _ a.takes)) a.after in
      (Takes-then bytes (b ∷ []) a.rest bs x.1 a.takes others.0, tt);
}

pub eqb_same : (n : ℕ) → eqb n n ≡ true
eqb_same n = grind (arith, nat_tests)

pub these_again : (text rest : List ℕ) → these text (text ++ rest) ≡ Ok (tt, rest)
unfolding these
these_again [] rest = refl
these_again (b ∷ bs) rest = rw (eqb_same b) (these_again bs rest)

-- ---- numbers of a record

pub next_reads : Reads next_number 8 u64 IsNext
unfolding next_number
next_reads = number_reads w64 (2 ^ 64) wide64 (λ n. leb 1 n && ltb n 281474976710656) (λ n _ passes. let p = both_true _ _ passes in (leb-true _ _ p.0, ltb-true _ _ p.1))

pub next_again : (n : ℕ) (rest : List ℕ) → IsNext n → next_number (to_be_bytes w64 n ++ rest) ≡ Ok (n, rest)
unfolding next_number
next_again n rest h = number_again w64 (2 ^ 64) wide64 (λ n. leb 1 n && ltb n 281474976710656) n rest (omega arith) (rw (le-leb 1 n h.0, lt-ltb n 281474976710656 h.1) refl)

pub flushed_reads : Reads flushed_number 8 u64 (λ n. n < 281474976710656)
unfolding flushed_number
flushed_reads = number_reads w64 (2 ^ 64) wide64 (λ n. ltb n 281474976710656) (λ n _ passes. ltb-true _ _ passes)

pub flushed_again : (n : ℕ) (rest : List ℕ) → n < 281474976710656 → flushed_number (to_be_bytes w64 n ++ rest) ≡ Ok (n, rest)
unfolding flushed_number
flushed_again n rest h = number_again w64 (2 ^ 64) wide64 (λ n. ltb n 281474976710656) n rest (omega arith) (lt-ltb n 281474976710656 h)
