use Rattle.array_memory.proofs.Prelude.{◌≡◌, ◌∙◌, ℕ, ◌+◌, ◌-◌, ◌<◌, List, length, get_or, subst, sym, arith, inl, inr, AddressFact}
use Rattle.std.proofs.lemmas.Bool.{cases_lt, false≢true}
use Rattle.std.proofs.lemmas.Option.{get_or_from_slice_get, slice_get-get_or, slice_get_within}
use Rattle.array_memory.specs.Saying.{HasBehind, IsBehind}
use Rattle.array_memory.proofs.said.run_length.Goals as goal

here : (medium first n : ℕ) (facts : List AddressFact) (d : AddressFact) → n < length facts → IsBehind medium first n (get_or facts n d) → HasBehind medium first facts n
here medium first n facts d l is = (get_or facts n d, slice_get-get_or facts n d l, is)

there : (medium first n : ℕ) (facts : List AddressFact) (d : AddressFact) → HasBehind medium first facts n → IsBehind medium first n (get_or facts n d)
there medium first n facts d (f, at, is) = subst (IsBehind medium first n) (sym (get_or_from_slice_get facts n f d at)) is

pub loop-n-preserved : goal.loop-n-preserved
loop-n-preserved c = record {
  fits = (let fits = c.follows.ensures.fits c.if-not-follows.false in omega (arith, fits));
  follow = λ j l. elim (cases_lt j c.loop-n.n) [
    | inl before ↦ c.loop-n.invariant.follow j before
    | inr last ↦
        let same : c.loop-n.n ≡ j = omega (arith, l, last) in
        subst (HasBehind c.args.medium.0 c.args.first c.args.behind.now) same (here c.args.medium.0 c.args.first c.loop-n.n c.args.behind.now _ (omega (arith, c.loop-n-test.true, c.min-most.ensures)) (c.follows.ensures.behind.0 c.if-not-follows.false))
  ];
}

pub returns-then-not-follows-clause-follow : goal.returns-then-not-follows-clause-follow
returns-then-not-follows-clause-follow c = λ j l. c.loop-n.invariant.follow j (omega (arith, l))

pub returns-then-not-follows-clause-longest : goal.returns-then-not-follows-clause-longest
returns-then-not-follows-clause-longest c = λ l f.
    let back : c.loop-n.n + 1 - 1 ≡ c.loop-n.n = omega arith in
    let yes = c.follows.ensures.behind.1 (there c.args.medium.0 c.args.first c.loop-n.n c.args.behind.now _ (subst (HasBehind c.args.medium.0 c.args.first c.args.behind.now) back f)) in
    false≢true (sym c.if-not-follows.true ∙ yes)

pub returns-clause-follow : goal.returns-clause-follow
returns-clause-follow c = λ j l. c.loop-n.invariant.follow j (omega (arith, l, c.loop-n-test.false))

pub returns-clause-longest : goal.returns-clause-longest
returns-clause-longest c = λ l f. (let lt = slice_get_within c.args.behind.now _ f.0 f.1 in omega (arith, l, lt, c.min-most.ensures))
