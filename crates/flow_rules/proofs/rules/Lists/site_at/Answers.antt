use Rattle.std.proofs.Common.{◌≡◌, rules, of_calls, get_or, subst}
use Rattle.std.proofs.lemmas.Fn.{always_returns_same}
use Rattle.js_scopes.specs.declared.site.SiteInfo.{SiteInfo}
use Rattle.js_scopes.specs.Scopes.{site_order}
use Rattle.flow_rules.specs.Rules.{HasSite, IsSiteAt}
use Rattle.flow_rules.proofs.RuleLemmas.{found_site, is_searchable, not_missed, only_site, probe, site_tied, site_total}
use Rattle.flow_rules.proofs.rules.Lists.site_at.Goals as goal

pub returns-in-Ok-clause-some : goal.returns-in-Ok-clause-some
returns-in-Ok-clause-some c =
    let site = get_or c.self.inside.sites.now c.in-Ok.place (probe 0 0) in
    subst (λ m. IsSiteAt m c.args.offset c.args.part site) c.self.view_is
    (found_site c.self.inside.sites.now c.args.offset c.args.part c.in-Ok.place (probe 0 0) c.in-Ok.ensures.bound
    (c.in-Ok.ensures.position (λ s. site_order s (probe c.args.offset c.args.part)) (always_returns_same _ _ _ (λ a r f k. search (rules, of_calls)))))

pub returns-in-Ok-clause-only : goal.returns-in-Ok-clause-only
returns-in-Ok-clause-only c =
    let xs = c.self.inside.sites.now in
    let site = get_or xs c.in-Ok.place (probe 0 0) in
    let found = found_site xs c.args.offset c.args.part c.in-Ok.place (probe 0 0) c.in-Ok.ensures.bound
    (c.in-Ok.ensures.position (λ s. site_order s (probe c.args.offset c.args.part)) (always_returns_same _ _ _ (λ a r f k. search (rules, of_calls)))) in
    subst (λ m. (t : SiteInfo) → IsSiteAt m c.args.offset c.args.part t → t ≡ site) c.self.view_is
    (λ t h. only_site xs c.args.offset c.args.part site t c.self.invariant.sites found h)

pub returns-in-Err-clause-none : goal.returns-in-Err-clause-none
returns-in-Err-clause-none c =
    let xs = c.self.inside.sites.now in
    let asked = probe c.args.offset c.args.part in
    subst (λ m. HasSite m c.args.offset c.args.part → ⊥) c.self.view_is
    (λ h. not_missed site_order site_total xs asked h.0 c.in-Err.field-0 h.1.0 (site_tied h.0 asked h.1.1 h.1.2)
    (c.in-Err.ensures.position (λ s. site_order s asked) (always_returns_same _ _ _ (λ a r f k. search (rules, of_calls))) (is_searchable site_order site_total xs asked c.self.invariant.sites)))
