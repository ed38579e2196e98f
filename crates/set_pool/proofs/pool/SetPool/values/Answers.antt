use Rattle.std.proofs.Common.{◌≡◌, ◌≤◌, ◌++◌, length, reverse, sym, ◌∙◌, ap, subst}
use Rattle.std.specs.List.{slice_range}
use Rattle.std.proofs.lemmas.List.{reverse-reverse}
use Rattle.set_pool.specs.Sets.{Pool, set_at}
use Rattle.set_pool.proofs.pool.SetPool.values.Goals as goal

pub push_values-requires-clause-within : goal.push_values-requires-clause-within
push_values-requires-clause-within c = subst (λ (v : Pool). c.args.to ≤ length (set_at v.sets c.args.set)) (sym c.self.view_is) c.requires.within

pub returns : goal.returns
returns c =
    rw (← c.self.view_is)
    (c.reverse.ensures.items ∙ ap reverse (c.in_ok-push_values.ensures ∙ ap (λ xs. xs ++ reverse (slice_range (set_at c.self.inside.lists.lists c.args.set) c.args.from c.args.to)) c.new-values.ensures.items)
    ∙ reverse-reverse (slice_range (set_at c.self.inside.lists.lists c.args.set) c.args.from c.args.to))
