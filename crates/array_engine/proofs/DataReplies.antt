-- A reply of sectors, as it stands in its buffer.
use Rattle.array_engine.proofs.Prelude.{◌≡◌, ℕ, zero, suc, ◌+◌, ◌-◌, ◌*◌, ◌≤◌, List, ◌++◌, length, take, drop, refl, sym, ap, ◌∙◌, arith, length-take, length-drop, AllByRecursion, Sectors, line_text, sectors_text, text, read_in, HasLine, IsDataReply, LINE_ROOM}
use Rattle.session_spec.specs.Prelude.{sectors_in}
use Rattle.std.proofs.Math.Seq.{take-add, take-append_seam}
use Rattle.std.proofs.lemmas.List.{drop_at, drop-append-le, drop-take, length-take-le, take-append-le}
use borrow.Rule.Slice.PartMut.{put_mid}
use Rattle.pur_base.specs.declared.reply.Reply.TheVariants as reply

pub length-sectors_in : (count : ℕ) (bytes : List ℕ) → length (sectors_in count bytes) ≡ count
length-sectors_in zero bytes = refl
length-sectors_in (suc count) bytes = ap suc (length-sectors_in count (drop 512 bytes))

are_whole : (count : ℕ) (bytes : List ℕ) → 512 * count ≤ length bytes → AllByRecursion (λ sector. length sector ≡ 512) (sectors_in count bytes)
are_whole zero bytes fits = tt
are_whole (suc count) bytes fits = (omega (arith, length-take 512 bytes, fits), are_whole count (drop 512 bytes) (omega (arith, length-drop 512 bytes, fits)))

pub whole_sectors : (bytes : List ℕ) (start count : ℕ) → IsDataReply bytes start count → AllByRecursion (λ sector. length sector ≡ 512) (read_in count bytes)
whole_sectors bytes start count there = are_whole count (drop LINE_ROOM bytes) (omega (arith, length-drop LINE_ROOM bytes, there.room, there.few))

sectors_joined : (count : ℕ) (bytes : List ℕ) → sectors_text (sectors_in count bytes) ≡ take (512 * count) bytes
sectors_joined zero bytes = refl
sectors_joined (suc count) bytes =
    let next : 512 + 512 * count ≡ 512 * suc count = omega arith in
    ap (λ (t : List ℕ). take 512 bytes ++ t) (sectors_joined count (drop 512 bytes)) ∙ sym (take-add 512 (512 * count) bytes) ∙ ap (λ (n : ℕ). take n bytes) next

-- the bytes from the line's begin to the last sector's end are the reply's text
pub data_text : (bytes : List ℕ) (start count : ℕ) → IsDataReply bytes start count → take (LINE_ROOM + 512 * count - start) (drop start bytes) ≡ text (Sectors (read_in count bytes))
data_text bytes start count there =
    let size = LINE_ROOM + 512 * count - start in
    let all : start + size ≡ LINE_ROOM + 512 * count = omega (arith, there.line.within) in
    let behind = drop LINE_ROOM bytes in
    let front : length (take LINE_ROOM bytes) ≡ LINE_ROOM = length-take-le LINE_ROOM bytes (omega (arith, there.room)) in
    sym (drop-take start size bytes) ∙ ap (λ (n : ℕ). drop start (take n bytes)) all ∙ ap (drop start) (take-add LINE_ROOM (512 * count) bytes) ∙ drop-append-le start (take LINE_ROOM bytes) (take (512 * count) behind) (omega (arith, front, there.line.within))
    ∙ ap (λ (t : List ℕ). t ++ take (512 * count) behind) (there.line.line ∙ ap (λ (n : ℕ). line_text (reply.Data n)) (sym (length-sectors_in count behind)))
    ∙ ap (λ (t : List ℕ). line_text (reply.Data (length (sectors_in count behind))) ++ t) (sym (sectors_joined count behind))

-- ---- the line in front, and the sectors behind it

pub line_put : (room behind : List ℕ) (start count : ℕ) → length room ≡ LINE_ROOM → start ≤ length room → drop start room ≡ line_text (reply.Data count) → HasLine (room ++ behind) start count
line_put room behind start count size within is = record {
  within = omega (arith, size, within);
  line = ap (λ (n : ℕ). drop start (take n (room ++ behind))) (sym size) ∙ ap (drop start) (take-append_seam room behind) ∙ is;
}

front_sectors : (count : ℕ) (bytes more : List ℕ) → 512 * count ≤ length bytes → sectors_in count (bytes ++ more) ≡ sectors_in count bytes
front_sectors zero bytes more fits = refl
front_sectors (suc count) bytes more fits =
    let first : take 512 (bytes ++ more) ≡ take 512 bytes = take-append-le 512 bytes more (omega (arith, fits)) in
    let rest : sectors_in count (drop 512 (bytes ++ more)) ≡ sectors_in count (drop 512 bytes) =
    ap (sectors_in count) (drop-append-le 512 bytes more (omega (arith, fits))) ∙ front_sectors count (drop 512 bytes) more (omega (arith, fits, length-drop 512 bytes)) in
    rw (first, rest) refl

pub sectors_put : (k count : ℕ) (bytes part : List ℕ) → LINE_ROOM ≤ length bytes → 512 * count ≤ length part → read_in count (put_mid LINE_ROOM k bytes part) ≡ sectors_in count part
sectors_put k count bytes part fits long =
    let more = drop k (drop LINE_ROOM bytes) in
    ap (sectors_in count) (drop_at (take LINE_ROOM bytes) (part ++ more) LINE_ROOM (length-take-le LINE_ROOM bytes fits)) ∙ front_sectors count part more long

-- what a vector holds, once all of it was written
pub all_written : (bytes old : List ℕ) (len : ℕ) → len ≡ length bytes → take len (bytes ++ old) ≡ bytes
all_written bytes old len size = ap (λ (n : ℕ). take n (bytes ++ old)) size ∙ take-append_seam bytes old
