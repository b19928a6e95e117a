-- A field that is put behind the bytes so far leaves zeros behind itself.
use Rattle.std.proofs.Common.{◌≡◌, ℕ, ◌+◌, ◌-◌, ◌≤◌, List, ◌++◌, length, take, drop, ap, sym, ◌∙◌, arith, length-append, length-take, length-drop, drop-drop}
use Rattle.std.proofs.lemmas.List.{drop-replicate}
use Rattle.std.proofs.lemmas.Slice.{drop-put_mid}
use borrow.Rule.Slice.PartMut.{put_mid}
use Rattle.pur_base.specs.Bytes.{zeros}
use Rattle.pur_base.specs.FrontFields.{IsPadded}

pub padded_by : (n : ℕ) (bytes field : List ℕ) (len : ℕ) → IsPadded n bytes len → len + length field ≤ n → IsPadded n (put_mid len (len + length field - len) bytes field) (len + length field)
padded_by n bytes field len h fits =
    let room = len + length field - len in
    let is : length field ≡ room = omega arith in
    record {
      size = omega (arith, h.size, is, length-append (take len bytes) (field ++ drop room (drop len bytes)), length-append field (drop room (drop len bytes)), length-take len bytes, length-drop room (drop len bytes), length-drop len bytes);
      within = omega arith;
      zeros =
          drop-put_mid len room bytes field (len + length field) (omega arith) (omega (arith, h.size, h.within)) is
          ∙ sym (drop-drop (length field) len bytes) ∙ ap (drop (length field)) h.zeros ∙ drop-replicate (length field) (n - len) 0
          ∙ ap zeros (omega arith);
    }
