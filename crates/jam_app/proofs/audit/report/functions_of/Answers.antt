use Rattle.std.proofs.Common.{◌≡◌, ◌+◌, ◌++◌, ◌∷◌, [], List, map, take, length, ap, subst, sym, ◌∙◌}
use Rattle.std.specs.Prelude.{All}
use Rattle.std.proofs.lemmas.List.{map-append, map_more, take_all}
use Rattle.std.proofs.lemmas.List.Elements.{All-push}
use Rattle.flow_rules.specs.Constraints.{ModuleConstraints}
use Rattle.flow_rules.specs.Rules.{KeepsRules}
use Rattle.composer.specs.Parts.{lists_of}
use Rattle.composer.specs.declared.application.Part.{Part}
use Rattle.jam_app.specs.Showing.{function_counts}
use Rattle.jam_app.proofs.audit.report.functions_of.Goals as goal

pub loop-part-preserved : goal.loop-part-preserved
loop-part-preserved c =
    let parts = c.args.parts.now in
    let i = c.loop-part.part-index in
    let part = c.part-item.result in
    let lists = part.summary.lists in
    let more : lists_of (take (i + 1) parts) ≡ lists_of (take i parts) ++ lists ∷ [] =
    map_more (λ (p : Part). p.summary.lists) parts i part c.loop-part-test.true ∙ ap (λ (p : Part). lists_of (take i parts) ++ p.summary.lists ∷ []) (sym c.part-item.is) in
    let count : length c.functions.result.now ≡ length lists.functions = cc (c.functions.ensures.functions, c.part-item.is) in
    record {
      counts = c.in_ok-push.ensures.items ∙ (λ j. c.loop-part.invariant.counts j ++ count j ∷ [])
          ∙ sym (ap function_counts more ∙ map-append (λ (m : ModuleConstraints). length m.functions) (lists_of (take i parts)) (lists ∷ []));
      rules = subst (All KeepsRules) (sym more) (All-push KeepsRules (lists_of (take i parts)) lists c.loop-part.invariant.rules c.functions.ensures.keeps.rules);
    }
