use Rattle.nvram_log.proofs.Prelude.{◌<◌, ℕ, List, length, inl, inr, refl, arith, get_or, get_or_past, cases_lt, IsBytes}
use Rattle.nvram_log.specs.lemmas.Heads.{few_data, text_of}
use Rattle.nvram_log.proofs.reading.logged_of.Goals as goal

are_bytes : (l : List ℕ) → ((i d : ℕ) → i < length l → get_or l i d < 256) → IsBytes l
are_bytes l each i = elim (cases_lt i (length l)) [
  | inl lt ↦ each i 0 lt
  | inr ge ↦ omega (arith, get_or_past l i 0 ge)
]

pub invariant_of-result : goal.invariant_of-result
invariant_of-result c = record {
  has_head = omega (arith, c.requires.size);
  fits = omega (arith, c.requires.size, few_data c.args.head.command c.requires.head.head.command);
}

pub returns-clause-logged : goal.returns-clause-logged
returns-clause-logged c =
    let text = text_of c.args.bytes.items c.args.head c.requires.size (are_bytes c.args.bytes.items c.items_fit) c.requires.head in
    record { lawful = text.0; read = record { number_is = refl; request = refl; text = text.1 } }
