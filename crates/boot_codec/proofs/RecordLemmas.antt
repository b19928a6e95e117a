-- The two laws: what is read is lawful and spelled so, and what a lawful record spells is read.
use Rattle.boot_codec.proofs.Prelude.{nat_tests, ◌≡◌, ℕ, ◌+◌, ◌-◌, List, [], ◌++◌, length, Result, Ok, Err, refl, sym, ap, subst, ◌∙◌, append_assoc, arith, length-append, IfOk, append-nil, nil_from_length, length-replicate, u64, zeros, BadRecord, ReadError, BootRecord, IsBootRecord, opening_bytes, members_bytes, next_bytes, counts_bytes, header_bytes, patches_bytes, record_bytes, spelling, Gives, lists, padding, boot_record, value_of, read_record}
use Rattle.boot_codec.proofs.SpellingLemmas.{length-header_bytes, length-patches_bytes}
use Rattle.boot_codec.proofs.PaddingLemmas.{padding-zeros}
use Rattle.boot_codec.proofs.FieldLemmas.{IsBytes, bind_ok, ok_is, Takes-then, Takes-length, step, at_start, these_reads, next_reads, next_again, flushed_reads, flushed_again}
use Rattle.boot_codec.proofs.HeaderLemmas.{opening_reads, opening_again, members_reads, members_again, next_numbers_reads, next_numbers_again}
use Rattle.boot_codec.proofs.ListLemmas.{lists_text, lists_take, lists_again}

length-zeros : (n : ℕ) → length (zeros n) ≡ n
length-zeros n = simp length-replicate

padding_takes : (bytes : List ℕ) (x : Unit {0} × List ℕ) → IsBytes bytes → padding bytes ≡ Ok x → bytes ≡ zeros (length bytes)
unfolding padding
padding_takes bytes x fits e =
    let len = length-zeros (length bytes) in
    let t = ((these_reads (zeros (length bytes))).take bytes x fits (omega (arith, len)) e).0 in
    let l = Takes-length _ _ _ t in
    let nothing : x.1 ≡ [] = nil_from_length x.1 (omega (arith, l, len)) in
    t.parts ∙ ap (λ (rest : List ℕ). zeros (length bytes) ++ rest) nothing ∙ append-nil (zeros (length bytes))

-- what was read from the bytes
record IsFound (slots units : ℕ) (bytes : List ℕ) (r : BootRecord) : Type 0 where
  lawful : IsBootRecord r
  same_slots : r.slots ≡ slots
  same_units : r.units ≡ units
  spelled : bytes ≡ spelling r

left_over : (total taken rest text : ℕ) → total ≡ 65536 → total ≡ taken + rest → taken ≡ text → rest ≡ 65536 - text
left_over total taken rest text a b c = omega arith

boot_takes : (slots units : ℕ) (bytes : List ℕ) (x : BootRecord × List ℕ) → IsBytes bytes → length bytes ≡ 65536 → boot_record slots units bytes ≡ Ok x → IsFound slots units bytes x.0
unfolding boot_record record_bytes header_bytes opening_bytes members_bytes next_bytes
boot_takes slots units bytes x fits long e =
    let a = step (opening_reads slots units) (at_start fits) (omega arith) e in
    let b = step next_reads a.takes (omega arith) a.after in
    let c = step (members_reads slots a.holds.slots_fit.1) b.takes (omega arith) b.after in
    let d = step next_numbers_reads c.takes (omega arith) c.after in
    let f = step flushed_reads d.takes (omega arith) d.after in
    let g = bind_ok (lists slots units f.rest) _ x f.after in
    let h = bind_ok (padding g.0.1) _ x g.2 in
    let tg = lists_take slots units f.rest g.0 f.takes.rest_fits (omega (arith, Takes-length _ _ _ f.takes)) g.1 in
    let front = opening_bytes slots units ++ u64 b.value ++ members_bytes c.value ++ next_bytes d.value ++ u64 f.value in
    let all = Takes-then bytes front f.rest (lists_text g.0.0) g.0.1 f.takes tg.0 in
    let made : BootRecord = record { slots = slots; units = units; generation = b.value; members = c.value; next = d.value; flushed = f.value; patches = g.0.0 } in
    let text : front ++ lists_text g.0.0 ≡ record_bytes made = sym (append_assoc front (counts_bytes (length g.0.0) (88 + length (patches_bytes g.0.0))) (patches_bytes g.0.0)) in
    let pad = padding_takes g.0.1 h.0 tg.0.rest_fits h.1 in
    let size : length g.0.1 ≡ 65536 - length (record_bytes made) = left_over _ _ _ _ long (Takes-length _ _ _ all) (ap length text) in
    let spelled : bytes ≡ spelling made = all.parts ∙ ap (λ (t : List ℕ). t ++ g.0.1) text ∙ ap (λ (t : List ℕ). record_bytes made ++ t) (pad ∙ ap zeros size) in
    let lawful : IsBootRecord made = record { slots = a.holds.slots_fit; units = a.holds.units_fit; generation = b.holds; members = c.holds; next = d.holds; flushed = f.holds; patches = tg.1 } in
    subst (λ (y : BootRecord × List ℕ). IsFound slots units bytes y.0) (ok_is (made, h.0.1) x h.2) (record { lawful = lawful; same_slots = refl; same_units = refl; spelled = spelled })

value_ok : {A : Type 0} (read : Result (A × List ℕ) BadRecord) (y : A) → value_of read ≡ Ok y → (x : A × List ℕ) × (read ≡ Ok x) × (x.0 ≡ y)
value_ok (Ok x) y e = (x, refl, ok_is x.0 y e)
value_ok (Err d) y e = absurd cc

pub record_found : (slots units : ℕ) (bytes : List ℕ) (r : Result BootRecord ReadError) → IsBytes bytes → length bytes ≡ 65536 → Gives (λ x. x) r (read_record slots units bytes)
    → IfOk r (λ x. IsBootRecord x) × IfOk r (λ x. (x.slots ≡ slots) × (x.units ≡ units)) × IfOk r (λ x. bytes ≡ spelling x)
unfolding read_record
record_found slots units bytes (Ok r) fits long given =
    let v = value_ok (boot_record slots units bytes) r given in
    let found : IsFound slots units bytes r = subst (λ (y : BootRecord). IsFound slots units bytes y) v.2 (boot_takes slots units bytes v.0 fits long v.1) in
    (found.lawful, (found.same_slots, found.same_units), found.spelled)
record_found slots units bytes (Err e) fits long given = (tt, tt, tt)

regroup : (a b c d e f g z : List ℕ) → ((((((a ++ b) ++ c) ++ d) ++ e) ++ f) ++ g) ++ z ≡ a ++ (b ++ (c ++ (d ++ (e ++ ((f ++ g) ++ z)))))
regroup a b c d e f g z = simp append_assoc

own_again : (r : BootRecord) → IsBootRecord r → read_record r.slots r.units (spelling r) ≡ Ok r
unfolding read_record boot_record record_bytes header_bytes
own_again r h = grind (arith, nat_tests, regroup, length-patches_bytes, length-append, length-header_bytes, length-zeros, opening_again, next_again, members_again, next_numbers_again, flushed_again, lists_again, padding-zeros)

pub record_again : (slots units : ℕ) (r : BootRecord) (bytes : List ℕ) → IsBootRecord r → r.slots ≡ slots → r.units ≡ units → bytes ≡ spelling r → read_record slots units bytes ≡ Ok r
record_again slots units r bytes h same_slots same_units spelled = rw (spelled, ← same_slots, ← same_units) (own_again r h)
