use Rattle.nvram_log.proofs.Prelude.{◌≡◌, ◌*◌, ◌++◌, List, ℕ, length, drop, ◌∙◌, ap, sym, append_assoc, arith, concat, Head, head_bytes}
use Rattle.nvram_log.specs.lemmas.Heads.{few_data}
use Rattle.nvram_log.proofs.staging.stage.Goals as goal

pub put_sectors-requires : goal.put_sectors-requires
put_sectors-requires c = omega (arith, few_data c.args.logged.now.request.now c.requires.lawful.command, c.requires.lawful.count, c.split_at_mut-front.ensures.back_len, c.requires.size)

pub returns : goal.returns
returns c =
    let h : Head = record { number = c.args.number; command = c.args.logged.now.request.now } in
    let sectors = c.args.logged.now.sectors.now in
    let back = c.split_at_mut-front.result.1.now in
    let front : c.copy_from_slice.new.self ≡ head_bytes h = c.copy_from_slice.ensures.after ∙ c.as_bytes.ensures.bytes ∙ c.write_head-head.ensures.bytes in
    record {
      lawful = record { fits = c.ranges.number.fits; command = c.requires.lawful.command; count = c.requires.lawful.count; sectors = c.put_sectors.ensures.sectors };
      behind = drop (512 * length sectors) back;
      text = ap (λ (l : List ℕ). l ++ c.put_sectors.new.into) front ∙ ap (λ (l : List ℕ). head_bytes h ++ l) c.put_sectors.ensures.bytes
          ∙ sym (append_assoc (head_bytes h) (concat sectors) (drop (512 * length sectors) back));
    }
