use Rattle.chain_reads.proofs.Prelude.{◌≡◌, ◌∙◌, ◌+◌, ◌<◌, List, Option, None, Some, length, get_or, inl, inr, arith, ap, sym, option_map, address, is_within, ranges_of, AddressFact, Target}
use Rattle.std.proofs.Common.{take, replicate, length-take}
use Rattle.std.proofs.lemmas.List.{length-replicate}
use Rattle.std.proofs.lemmas.Option.{slice_get_cases}
use Rattle.std.specs.Prelude.{slice_get}
use Rattle.pur_base.specs.Mediums.{here}
use Rattle.pur_base.specs.declared.request.Table.TheVariants as table
use Rattle.pur_base.specs.lemmas.Unwritten.{reads_or_zero}
use Rattle.address_table.specs.Addresses.{visible}
use Rattle.address_table.proofs.AddressLemmas.{same_addresses}
use Rattle.chain_reads.proofs.run.translate.Goals as goal

pub returns-in-Some : goal.returns-in-Some
returns-in-Some c = λ f chains i l.
    let run = c.in-Some.run'.now in
    let shown = c.in-Some.ensures.some in
    let at : (a : AddressFact) × (slice_get run i ≡ Some a) = elim (slice_get_cases run i).1 [ inl there ↦ (there.0, there.2) | inr past ↦ absurd (omega (arith, l, shown.long, past.0, c.put_targets.auto.out)) ] in
    let a = at.0 in
    let m = c.args.medium.0 in
    let x = c.args.first + i in
    let ranges = ranges_of c.args.elided.now table.Address in
    let said : visible f.addresses (is_within ranges) m x ≡ Some a = rw (← chains.tables.of_addresses, ← c.ranges-2.ensures.value) (shown.visible i (omega (arith, l, c.put_targets.auto.out)) ∙ at.1) in
    let stands : address f m x ≡ Some a.target = sym (same_addresses f ranges m x chains.tables.elided_addresses) ∙ ap (option_map (λ (b : AddressFact). b.target)) said in
    rw (c.put_targets.ensures i a at.1) (here stands)

pub returns-in-None : goal.returns-in-None
returns-in-None c = λ f chains i l.
    let unread : List (Option Target) = replicate 64 None in
    let long : length c.resolve.new.out ≡ length (take (length c.args.out.now) unread) = c.resolve.auto.out in
    let within : i < length c.resolve.new.out = omega (arith, l, c.put_read.auto.out, long, c.requires.few, length-take (length c.args.out.now) unread, length-replicate {A = Option Target} 64 None) in
    rw (c.put_read.ensures i l) (reads_or_zero f c.args.medium.0 (c.args.first + i) (get_or c.resolve.new.out i None) (c.resolve.ensures f chains i within))
