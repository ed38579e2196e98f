use Rattle.std.proofs.Common.{◌≡◌, ◌++◌, ◌∷◌, [], map, arith, ap, subst, sym, ◌∙◌}
use Rattle.std.specs.Prelude.{All}
use Rattle.std.specs.Option.{IfSome}
use Rattle.std.proofs.lemmas.List.{append_assoc, map-append}
use Rattle.std.proofs.lemmas.List.Elements.{All-push}
use Rattle.js_tree.specs.Spells.{SpellsSome}
use Rattle.jam_app.specs.declared.loading.loaded.Loaded.{Loaded}
use Rattle.jam_app.specs.declared.loading.module.Parsed.{Parsed}
use Rattle.jam_app.specs.Loading.{IsAnalysed}
use Rattle.jam_app.specs.Reading.{IsResolved, parsed_of}
use Rattle.jam_app.proofs.Bad.{all_at}
use Rattle.jam_app.proofs.Causes.{any_files, both_told, counts_on, handed_on, told}
use Rattle.jam_app.proofs.Ends.{no_more}
use Rattle.jam_app.proofs.loading.module.resolved_round.Goals as goal

pub module_with-requires : goal.module_with-requires
module_with-requires g c =
    let parts : c.args.round.items ≡ c.loop-parsed.yielded ++ c.in-Some.parsed ∷ c.next.new.self.rest.items =
    c.loop-parsed.invariant.parts ∙ ap (λ left. c.loop-parsed.yielded ++ left) c.in-Some.ensures.steps.0 in
    all_at (λ p. SpellsSome p.tree) c.args.round.items c.loop-parsed.yielded c.in-Some.parsed c.next.new.self.rest.items parts c.requires

pub loop-parsed-preserved : goal.loop-parsed-preserved
loop-parsed-preserved g c =
    let inv = c.loop-parsed.invariant in
    let files = g.F.Folder.files c.args.folder.now in
    let module_ = c.in_ok-module.module in
    let step : IfSome files (λ m. (parsed_of module_ ≡ c.in-Some.parsed) × IsResolved m module_)
    = subst (λ fs. IfSome fs (λ m. (parsed_of module_ ≡ c.in-Some.parsed) × IsResolved m module_)) inv.same c.in_ok-module.ensures.gives in
    record {
      can = tt;
      finite = tt;
      parts = inv.parts ∙ ap (λ left. c.loop-parsed.yielded ++ left) c.in-Some.ensures.steps.0 ∙ sym (append_assoc c.loop-parsed.yielded (c.in-Some.parsed ∷ []) c.next.new.self.rest.items);
      read = both_told files inv.read step (λ m r s. (
        ap (map parsed_of) c.in_ok-push.ensures.items ∙ map-append parsed_of c.loop-parsed.modules.items (module_ ∷ []) ∙ (λ i. r.0 i ++ s.0 i ∷ []),
        subst (All (IsResolved m)) (sym c.in_ok-push.ensures.items) (All-push (IsResolved m) c.loop-parsed.modules.items module_ r.1 s.1),
      ));
      paths = ap (map (λ (l : Loaded). l.path)) c.in_ok-push.ensures.items ∙ map-append (λ (l : Loaded). l.path) c.loop-parsed.modules.items (module_ ∷ []) ∙ (λ i. inv.paths i ++ c.in_ok-module.ensures.path i ∷ [])
          ∙ sym (map-append (λ (p : Parsed). p.source.path) c.loop-parsed.yielded (c.in-Some.parsed ∷ []));
      analysed = subst (All IsAnalysed) (sym c.in_ok-push.ensures.items) (All-push IsAnalysed c.loop-parsed.modules.items module_ inv.analysed c.in_ok-module.ensures.analysed);
      same = c.in_ok-module.ensures.same ∙ inv.same;
      quiet = c.in_ok-module.ensures.counts.done ∙ inv.quiet;
    }

pub returns-in_err-module-clause-gives : goal.returns-in_err-module-clause-gives
returns-in_err-module-clause-gives g c =
    let inv = c.loop-parsed.invariant in
    let files = g.F.Folder.files c.args.folder.now in
    handed_on _ (λ m owed. ⊥) _ files _ _ _ _ c.in_err-module.field-0.0 c.from_residual.result
    c.from_residual.ensures.1 inv.same (omega (arith, inv.quiet)) (any_files files (λ m owed never. never)) c.in_err-module.ensures.gives

pub returns-clause-gives : goal.returns-clause-gives
returns-clause-gives g c =
    let inv = c.loop-parsed.invariant in
    let all : c.args.round.items ≡ c.loop-parsed.yielded = inv.parts ∙ no_more c.loop-parsed.yielded c.loop-parsed.parsed-iterator.rest.items _ c.loop-parsed.parsed-iterator.rest.ok.0 c.in-None.ensures.steps.0 in
    told (g.F.Folder.files c.args.folder.now) inv.read (λ m r. (r.0 ∙ sym all, r.1))

pub returns-clause-paths : goal.returns-clause-paths
returns-clause-paths g c =
    let inv = c.loop-parsed.invariant in
    let all : c.args.round.items ≡ c.loop-parsed.yielded = inv.parts ∙ no_more c.loop-parsed.yielded c.loop-parsed.parsed-iterator.rest.items _ c.loop-parsed.parsed-iterator.rest.ok.0 c.in-None.ensures.steps.0 in
    inv.paths ∙ ap (map (λ (p : Parsed). p.source.path)) (sym all)

pub returns-in_err-module-clause-counts : goal.returns-in_err-module-clause-counts
returns-in_err-module-clause-counts g c = counts_on _ _ _ c.in_err-module.field-0.0 c.from_residual.result c.from_residual.ensures.1 c.loop-parsed.invariant.quiet c.in_err-module.ensures.counts
