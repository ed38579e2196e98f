use Rattle.std.proofs.Common.{◌<◌, subst}
use Rattle.std.proofs.lemmas.Bool.Decides.{Decides-ltb}
use Rattle.flow_rules.proofs.rules.Lists.has_arg.Goals as goal

pub returns-in-Some : goal.returns-in-Some
returns-in-Some c =
    let less = Decides-ltb c.args.index c.in-Some.site.args in
    (λ e. (c.in-Some.site, c.in-Some.ensures.some, less.0 e), λ h. less.1 (subst (λ s. c.args.index < s.args) (c.in-Some.ensures.only h.0 h.1) h.2))
