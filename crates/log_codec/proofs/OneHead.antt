-- A text begins with one head at most, and a slot spells one command.
use Rattle.std.proofs.lemmas.Bool.Decides.{nat_tests}
use Rattle.std.proofs.Common.{◌≡◌, ℕ, ◌-◌, List, [], ◌∷◌, ◌++◌, length, refl, ap, sym, ◌∙◌, append_assoc, arith, codes}
use Rattle.std.specs.List.{AllByRecursion, concat}
use Rattle.pur_base.specs.Prelude.{IsBytesOf, u8, u32, u64, zeros, padded, data_count, Command, same_front, same_u8, same_u32, same_u64}
use Rattle.pur_base.specs.declared.limits.TheConstants.{SECTOR_BYTES, NAME_BYTES}
use Rattle.pur_base.specs.declared.request.Request.{Request}
use Rattle.pur_base.specs.declared.request.Request.TheVariants as request
use Rattle.log_codec.specs.declared.head.Head.{Head}
use Rattle.log_codec.specs.Head.{kind_code, first_name, second_name, fill_byte, sector_count, first_lba, second_lba, head_bytes, IsCommand, IsHead}
use Rattle.log_codec.specs.Log.{Spells}
use Rattle.log_codec.proofs.FieldLemmas.{fits, behind, spelled, length-padded}

-- the parts of two commands are the same
record SameParts (r s : Request) : Type 0 where
  kind : kind_code r ≡ kind_code s
  first : first_name r ≡ first_name s
  second : second_name r ≡ second_name s
  byte : fill_byte r ≡ fill_byte s
  count : sector_count r ≡ sector_count s
  lba : first_lba r ≡ first_lba s
  second_lba : second_lba r ≡ second_lba s

-- ---- commands of the same parts

create_is : (n : List ℕ) (sectors : ℕ) (s : Request) → SameParts (request.Create n sectors) s → request.Create n sectors ≡ s
create_is n sectors (request.Create m other) p = λ i. request.Create (p.first i) (p.count i)
create_is n sectors _ p = absurd (cc p.kind)

write_is : (n : List ℕ) (lba count : ℕ) (s : Request) → SameParts (request.Write n lba count) s → request.Write n lba count ≡ s
write_is n lba count (request.Write m lba2 other) p = λ i. request.Write (p.first i) (p.lba i) (p.count i)
write_is n lba count _ p = absurd (cc p.kind)

fill_is : (n : List ℕ) (lba count byte : ℕ) (s : Request) → SameParts (request.Fill n lba count byte) s → request.Fill n lba count byte ≡ s
fill_is n lba count byte (request.Fill m lba2 other b) p = λ i. request.Fill (p.first i) (p.lba i) (p.count i) (p.byte i)
fill_is n lba count byte _ p = absurd (cc p.kind)

zero_is : (n : List ℕ) (lba count : ℕ) (s : Request) → SameParts (request.Zero n lba count) s → request.Zero n lba count ≡ s
zero_is n lba count (request.Zero m lba2 other) p = λ i. request.Zero (p.first i) (p.lba i) (p.count i)
zero_is n lba count _ p = absurd (cc p.kind)

snapshot_is : (n new : List ℕ) (s : Request) → SameParts (request.Snapshot n new) s → request.Snapshot n new ≡ s
snapshot_is n new (request.Snapshot m other) p = λ i. request.Snapshot (p.first i) (p.second i)
snapshot_is n new _ p = absurd (cc p.kind)

clone_is : (n new : List ℕ) (s : Request) → SameParts (request.Clone n new) s → request.Clone n new ≡ s
clone_is n new (request.Clone m other) p = λ i. request.Clone (p.first i) (p.second i)
clone_is n new _ p = absurd (cc p.kind)

copy_is : (n : List ℕ) (lba : ℕ) (m : List ℕ) (to count : ℕ) (s : Request) → SameParts (request.Copy n lba m to count) s → request.Copy n lba m to count ≡ s
copy_is n lba m to count (request.Copy n2 lba2 m2 to2 count2) p = λ i. request.Copy (p.first i) (p.lba i) (p.second i) (p.second_lba i) (p.count i)
copy_is n lba m to count _ p = absurd (cc p.kind)

destroy_is : (n : List ℕ) (s : Request) → SameParts (request.Destroy n) s → request.Destroy n ≡ s
destroy_is n (request.Destroy m) p = λ i. request.Destroy (p.first i)
destroy_is n _ p = absurd (cc p.kind)

same_command : (r s : Request) → IsCommand r → SameParts r s → r ≡ s
same_command (request.Create n sectors) s is p = create_is n sectors s p
same_command (request.Write n lba count) s is p = write_is n lba count s p
same_command (request.Fill n lba count byte) s is p = fill_is n lba count byte s p
same_command (request.Zero n lba count) s is p = zero_is n lba count s p
same_command (request.Snapshot n new) s is p = snapshot_is n new s p
same_command (request.Clone n new) s is p = clone_is n new s p
same_command (request.Copy n lba m to count) s is p = copy_is n lba m to count s p
same_command (request.Destroy n) s is p = destroy_is n s p
same_command _ s is p = absurd is

-- ---- heads

-- a text of one length at most 24, and zeros up to 24
unpadded : (a b : List ℕ) → length a ≡ length b → padded NAME_BYTES a ≡ padded NAME_BYTES b → a ≡ b
unpadded a b len e = (same_front a b (zeros (NAME_BYTES - length a)) (zeros (NAME_BYTES - length b)) len e).0

-- the names, and what stands behind them
from_names : Head → List ℕ → List ℕ
from_names h t = padded NAME_BYTES (first_name h.command) ++ (padded NAME_BYTES (second_name h.command) ++ (behind h ++ t))

-- the other fields in front of them
fields_before : Head → List ℕ → List ℕ
fields_before h t =
    codes "PURNVLOG" ++ (u64 h.number ++ (u8 (kind_code h.command)
    ++ (u8 (length (first_name h.command)) ++ (u8 (length (second_name h.command)) ++ (u8 (fill_byte h.command)
    ++ (u32 (sector_count h.command) ++ (u64 (first_lba h.command) ++ (u64 (second_lba h.command) ++ t))))))))

text : (h : Head) (t : List ℕ) → head_bytes h ++ t ≡ fields_before h (from_names h t)
unfolding fields_before from_names
text h t =
    let first = padded NAME_BYTES (first_name h.command) in
    let second = padded NAME_BYTES (second_name h.command) in
    ap (λ (x : List ℕ). x ++ t) (spelled h)
    ∙ ap (fields_before h) (append_assoc first (second ++ behind h) t ∙ ap (λ (x : List ℕ). first ++ x) (append_assoc second (behind h) t))

-- heads of the same parts
same_head : (a b : Head) → IsHead a → a.number ≡ b.number → SameParts a.command b.command → a ≡ b
same_head a b is n p = grind (arith, nat_tests, same_command)

-- what a head's fields, one behind another, say of it
record FrontsAgree (a b : Head) (t u : List ℕ) : Type 0 where
  number : a.number ≡ b.number
  kind : kind_code a.command ≡ kind_code b.command
  first : length (first_name a.command) ≡ length (first_name b.command)
  second : length (second_name a.command) ≡ length (second_name b.command)
  byte : fill_byte a.command ≡ fill_byte b.command
  count : sector_count a.command ≡ sector_count b.command
  lba : first_lba a.command ≡ first_lba b.command
  second_lba : second_lba a.command ≡ second_lba b.command
  rest : t ≡ u

fronts_agree : (a b : Head) (t u : List ℕ) → IsHead a → IsHead b → fields_before a t ≡ fields_before b u → FrontsAgree a b t u
unfolding fields_before
fronts_agree a b t u is is2 e =
    let fit = fits a.command is.command in
    let fit2 = fits b.command is2.command in
    let t1 = u64 (second_lba a.command) ++ t in
    let u1 = u64 (second_lba b.command) ++ u in
    let t2 = u64 (first_lba a.command) ++ t1 in
    let u2 = u64 (first_lba b.command) ++ u1 in
    let t3 = u32 (sector_count a.command) ++ t2 in
    let u3 = u32 (sector_count b.command) ++ u2 in
    let t4 = u8 (fill_byte a.command) ++ t3 in
    let u4 = u8 (fill_byte b.command) ++ u3 in
    let t5 = u8 (length (second_name a.command)) ++ t4 in
    let u5 = u8 (length (second_name b.command)) ++ u4 in
    let t6 = u8 (length (first_name a.command)) ++ t5 in
    let u6 = u8 (length (first_name b.command)) ++ u5 in
    let t7 = u8 (kind_code a.command) ++ t6 in
    let u7 = u8 (kind_code b.command) ++ u6 in
    let word = same_front (codes "PURNVLOG") (codes "PURNVLOG") (u64 a.number ++ t7) (u64 b.number ++ u7) refl e in
    let number = same_u64 a.number b.number t7 u7 is.number is2.number word.1 in
    let kind = same_u8 (kind_code a.command) (kind_code b.command) t6 u6 number.1 in
    let first = same_u8 (length (first_name a.command)) (length (first_name b.command)) t5 u5 kind.1 in
    let second = same_u8 (length (second_name a.command)) (length (second_name b.command)) t4 u4 first.1 in
    let byte = same_u8 (fill_byte a.command) (fill_byte b.command) t3 u3 second.1 in
    let count = same_u32 (sector_count a.command) (sector_count b.command) t2 u2 fit.count fit2.count byte.1 in
    let lba = same_u64 (first_lba a.command) (first_lba b.command) t1 u1 fit.lba fit2.lba count.1 in
    let second_lba = same_u64 (second_lba a.command) (second_lba b.command) t u fit.second_lba fit2.second_lba lba.1 in
    record {
      number = number.0;
      kind = kind.0;
      first = first.0;
      second = second.0;
      byte = byte.0;
      count = count.0;
      lba = lba.0;
      second_lba = second_lba.0;
      rest = second_lba.1;
    }

-- a text begins with one head at most
pub same_heads : (a b : Head) (r s : List ℕ) → IsHead a → IsHead b → head_bytes a ++ r ≡ head_bytes b ++ s → (a ≡ b) × (r ≡ s)
unfolding from_names
same_heads a b r s is is2 e =
    let fit = fits a.command is.command in
    let fit2 = fits b.command is2.command in
    let f = fronts_agree a b (from_names a r) (from_names b s) is is2 (sym (text a r) ∙ e ∙ text b s) in
    let first = same_front (padded NAME_BYTES (first_name a.command)) (padded NAME_BYTES (first_name b.command))
    (padded NAME_BYTES (second_name a.command) ++ (behind a ++ r)) (padded NAME_BYTES (second_name b.command) ++ (behind b ++ s))
    (length-padded (first_name a.command) fit.first ∙ sym (length-padded (first_name b.command) fit2.first)) f.rest in
    let second = same_front (padded NAME_BYTES (second_name a.command)) (padded NAME_BYTES (second_name b.command)) (behind a ++ r) (behind b ++ s)
    (length-padded (second_name a.command) fit.second ∙ sym (length-padded (second_name b.command) fit2.second)) first.1 in
    let same = same_head a b is f.number (record {
      kind = f.kind;
      first = unpadded (first_name a.command) (first_name b.command) f.first first.0;
      second = unpadded (second_name a.command) (second_name b.command) f.second second.0;
      byte = f.byte;
      count = f.count;
      lba = f.lba;
      second_lba = f.second_lba;
    }) in
    (same, (same_front (behind a) (behind b) r s (ap (λ h. length (behind h)) same) second.1).1)

-- ---- commands

-- as many sectors, one behind another
same_sectors : (xs ys : List (List ℕ)) (r s : List ℕ) → length xs ≡ length ys → AllByRecursion (IsBytesOf SECTOR_BYTES) xs → AllByRecursion (IsBytesOf SECTOR_BYTES) ys
    → concat xs ++ r ≡ concat ys ++ s → xs ≡ ys
same_sectors [] [] r s len all all2 e = refl
same_sectors [] (y ∷ ys) r s len all all2 e = absurd cc
same_sectors (x ∷ xs) [] r s len all all2 e = absurd cc
same_sectors (x ∷ xs) (y ∷ ys) r s len all all2 e =
    let split : (z : List ℕ) (zs : List (List ℕ)) (t : List ℕ) → concat (z ∷ zs) ++ t ≡ z ++ (concat zs ++ t) = λ z zs t. append_assoc z (concat zs) t in
    let first = same_front x y (concat xs ++ r) (concat ys ++ s) (all.0.0 ∙ sym all2.0.0) (sym (split x xs r) ∙ e ∙ split y ys s) in
    let lens : length xs ≡ length ys = omega arith in
    cc (first.0, same_sectors xs ys r s lens all.1 all2.1 first.1)

-- a slot spells one command under a number
pub one_command : (bytes : List ℕ) (number : ℕ) (c d : Command) → Spells bytes number c → Spells bytes number d → c ≡ d
one_command bytes number c d first second = grind (arith, nat_tests, same_heads, behind, fits, append_assoc, text, data_count, same_sectors)
