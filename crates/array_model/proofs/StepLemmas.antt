-- Accepted requests at their places.
use Rattle.array_model.proofs.Prelude.{◌≡◌, ℕ, List, [], length, None, refl, sym, ap, ◌∙◌, replicate, filled, Array, span, with_span, sectors_of, with_sectors, replaced, first_cause, overwrite_causes, read_causes, Sectors, refusal, Held, IsOf, sectors_at, with_sectors_at}
use Rattle.pur_base.specs.declared.request.Request.TheVariants as request
use Rattle.array_model.specs.declared.step.PlainReply.TheVariants as plain
use Rattle.array_model.specs.Step.{Meets}
use Rattle.array_model.proofs.PlaceLemmas.{sectors-of, with-at}

read : (a : Array) (name : List ℕ) (lba count : ℕ) (place : Held) → IsOf a name lba count place → span place.lba place.count (sectors_at a place.object) ≡ span lba count (sectors_of a name)
read a name lba count place h =
    ap (λ (at : ℕ). span at place.count (sectors_at a place.object)) h.lba
    ∙ ap (λ (n : ℕ). span lba n (sectors_at a place.object)) h.count
    ∙ ap (span lba count) (sym (sectors-of name a place.object h.named))

overwritten : (a : Array) (name : List ℕ) (lba count : ℕ) (place : Held) (body : List (List ℕ)) → IsOf a name lba count place
    → with_sectors_at a place.object (with_span place.lba body (sectors_at a place.object)) ≡ replaced a name lba body
overwritten a name lba count place body h =
    with-at name a place.object _ h.named
    ∙ ap (λ (s : List (List ℕ)). with_sectors a name (with_span place.lba body s)) (sym (sectors-of name a place.object h.named))
    ∙ ap (λ (at : ℕ). replaced a name at body) h.lba

pub write-meets : (a b : Array) (name : List ℕ) (lba : ℕ) (body : List (List ℕ)) (place : Held) → (first_cause (overwrite_causes a name lba (length body)) ≡ None) × IsOf a name lba (length body) place
    → b ≡ with_sectors_at a place.object (with_span place.lba body (sectors_at a place.object)) → Meets a (request.Write name lba (length body)) body plain.Done b
write-meets a b name lba body place h is = record { there = tt; reply = rw h.0 refl; array = rw h.0 (is ∙ overwritten a name lba (length body) place body h.1) }

pub fill-meets : (a b : Array) (name : List ℕ) (lba count byte : ℕ) (place : Held) → (first_cause (overwrite_causes a name lba count) ≡ None) × IsOf a name lba count place
    → b ≡ with_sectors_at a place.object (with_span place.lba (replicate place.count (filled byte)) (sectors_at a place.object)) → Meets a (request.Fill name lba count byte) [] plain.Done b
fill-meets a b name lba count byte place h is = record {
  there = tt;
  reply = rw h.0 refl;
  array = rw h.0 (is ∙ ap (λ (n : ℕ). with_sectors_at a place.object (with_span place.lba (replicate n (filled byte)) (sectors_at a place.object))) h.1.count
      ∙ overwritten a name lba count place (replicate count (filled byte)) h.1);
}

pub read-meets : (a : Array) (name : List ℕ) (lba count : ℕ) (place : Held) → (first_cause (read_causes a name lba count) ≡ None) × IsOf a name lba count place
    → Meets a (request.Read name lba count) [] (plain.Data place) a
read-meets a name lba count place h =
    record {
      there = h.1.held;
      reply = rw h.0 (ap (λ (s : List (List ℕ)). Sectors s) (read a name lba count place h.1));
      array = rw h.0 refl;
    }

pub copy-meets : (a b : Array) (n m : List ℕ) (lba to count : ℕ) (from place : Held) → (refusal a (request.Copy n lba m to count) ≡ None) × IsOf a n lba count from × IsOf a m to count place
    → b ≡ with_sectors_at a place.object (with_span place.lba (span from.lba from.count (sectors_at a from.object)) (sectors_at a place.object)) → Meets a (request.Copy n lba m to count) [] plain.Done b
copy-meets a b n m lba to count from place h is =
    record {
      there = tt;
      reply = rw h.0 refl;
      array = rw h.0 (is ∙ ap (λ (s : List (List ℕ)). with_sectors_at a place.object (with_span place.lba s (sectors_at a place.object))) (read a n lba count from h.1)
          ∙ overwritten a m to count place (span lba count (sectors_of a n)) h.2);
    }
