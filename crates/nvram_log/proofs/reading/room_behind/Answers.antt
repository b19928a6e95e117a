use Rattle.nvram_log.proofs.Prelude.{◌≡◌, ◌∙◌, ◌++◌, ◌≤◌, ◌*◌, ◌+◌, List, ℕ, [], length, take, ap, arith, take_at}
use Rattle.std.proofs.Common.{take_all}
use Rattle.nvram_log.proofs.reading.room_behind.Goals as goal

-- the first bytes stay in front
in_front : (first got filled rest : List ℕ) (n : ℕ) → length first ≡ 512 → 512 ≤ n → got ≡ [] ++ first → filled ≡ take n got ++ rest → take 512 filled ≡ first
in_front first got filled rest n long le got_is filled_is =
    ap (take 512) (filled_is ∙ ap (λ (l : List ℕ). take n l ++ rest) got_is ∙ ap (λ (l : List ℕ). l ++ rest) (take_all n first (omega (arith, long, le)))) ∙ take_at first rest 512 long

pub returns-clause-first : goal.returns-clause-first
returns-clause-first c =
    in_front c.as_bytes.result.now c.extend_from_slice.new.self.items c.resize.new.self.items _ (512 * (1 + c.args.count)) (ap (length {A = ℕ}) c.as_bytes.ensures.bytes ∙ c.as_bytes.ensures.len) (omega arith)
    (c.in_ok-extend_from_slice.ensures.items ∙ ap (λ (l : List ℕ). l ++ c.as_bytes.result.now) c.in_ok-bytes.ensures.items) c.in_ok-resize.ensures.items
    ∙ c.as_bytes.ensures.bytes
