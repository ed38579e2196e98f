use Rattle.std.proofs.Common.{◌≡◌, ◌+◌, ◌++◌, ◌∷◌, [], ℕ, List, length, map, length-append, arith, ap, subst, sym, ◌∙◌}
use Rattle.std.proofs.lemmas.List.{append_assoc, map-append}
use Rattle.std.specs.Option.{IfSome}
use Rattle.jam_app.specs.declared.loading.source.Source.{Source}
use Rattle.jam_app.specs.Reading.{IsExcess, file_at, file_of, size_of}
use Rattle.jam_app.proofs.Causes.{both_told, counts_on, handed_on, told}
use Rattle.jam_app.proofs.Ends.{no_more}
use Rattle.jam_app.proofs.Sizes.{excess_in, taken_more}
use Rattle.jam_app.proofs.loading.source.read_round.Goals as goal

pub loop-path-preserved : goal.loop-path-preserved
loop-path-preserved g c =
    let inv = c.loop-path.invariant in
    let files = g.F.Folder.files c.args.folder.now in
    let step : IfSome files (λ m. (file_of c.in_ok-source.source ≡ file_at m c.in-Some.path) × ((earlier : List (List ℕ)) → c.loop-path.size ≡ size_of m earlier → c.read_next.new.size ≡ size_of m (earlier ++ c.in-Some.path ∷ [])))
    = subst (λ fs. IfSome fs (λ m. (file_of c.in_ok-source.source ≡ file_at m c.in-Some.path) × ((earlier : List (List ℕ)) → c.loop-path.size ≡ size_of m earlier → c.read_next.new.size ≡ size_of m (earlier ++ c.in-Some.path ∷ [])))) inv.same c.in_ok-source.ensures.gives in
    record {
      can = tt;
      finite = tt;
      parts = inv.parts ∙ ap (λ left. c.loop-path.yielded ++ left) c.in-Some.ensures.steps.0 ∙ sym (append_assoc c.loop-path.yielded (c.in-Some.path ∷ []) c.next.new.self.rest.items);
      taken = both_told files inv.taken step (λ m t s. taken_more m c.args.size.now c.loop-path.size c.read_next.new.size c.loop-path.sources.items c.push.new.self.items c.in_ok-source.source c.loop-path.yielded c.in-Some.path t s c.in_ok-push.ensures.items);
      paths = ap (map (λ (s : Source). s.path)) c.in_ok-push.ensures.items ∙ map-append (λ (s : Source). s.path) c.loop-path.sources.items (c.in_ok-source.source ∷ []) ∙ (λ i. inv.paths i ++ c.in_ok-source.ensures.path i ∷ []);
      counted = omega (arith, c.in_ok-source.ensures.counted, inv.counted, length-append c.loop-path.yielded (c.in-Some.path ∷ []));
      modules = c.in_ok-source.ensures.modules;
      bytes = c.in_ok-source.ensures.bytes;
      same = c.in_ok-source.ensures.same ∙ inv.same;
      quiet = c.in_ok-source.ensures.counts.done ∙ inv.quiet;
    }

pub returns-in_err-source-clause-gives : goal.returns-in_err-source-clause-gives
returns-in_err-source-clause-gives g c =
    let inv = c.loop-path.invariant in
    let files = g.F.Folder.files c.args.folder.now in
    let parts : c.args.round.items ≡ c.loop-path.yielded ++ c.in-Some.path ∷ c.next.new.self.rest.items = inv.parts ∙ ap (λ left. c.loop-path.yielded ++ left) c.in-Some.ensures.steps.0 in
    handed_on _ (λ m owed. (earlier : List (List ℕ)) → c.loop-path.size ≡ size_of m earlier → IsExcess m earlier c.in-Some.path owed) _ files _ _ _ _ c.in_err-source.field-0.0 c.from_residual.result
    c.from_residual.ensures.1 inv.same (omega (arith, inv.quiet))
    (told files inv.taken (λ m t owed excess. excess_in m c.args.size.now c.loop-path.size c.loop-path.sources.items c.args.round.items c.loop-path.yielded c.in-Some.path c.next.new.self.rest.items owed t parts excess))
    c.in_err-source.ensures.gives

pub returns-clause-gives : goal.returns-clause-gives
returns-clause-gives g c =
    let inv = c.loop-path.invariant in
    let all : c.args.round.items ≡ c.loop-path.yielded = inv.parts ∙ no_more c.loop-path.yielded c.loop-path.path-iterator.rest.items _ c.loop-path.path-iterator.rest.ok.0 c.in-None.ensures.steps.0 in
    told (g.F.Folder.files c.args.folder.now) inv.taken (λ m t. (
      t.files ∙ ap (map (file_at m)) (sym all),
      λ earlier is. t.sizes earlier is ∙ ap (λ done. size_of m (earlier ++ done)) (sym all),
    ))

pub returns-clause-counted : goal.returns-clause-counted
returns-clause-counted g c =
    let inv = c.loop-path.invariant in
    let all : c.args.round.items ≡ c.loop-path.yielded = inv.parts ∙ no_more c.loop-path.yielded c.loop-path.path-iterator.rest.items _ c.loop-path.path-iterator.rest.ok.0 c.in-None.ensures.steps.0 in
    inv.counted ∙ ap (λ (done : List (List ℕ)). c.args.size.now.modules + length done) (sym all)

pub returns-clause-paths : goal.returns-clause-paths
returns-clause-paths g c =
    let inv = c.loop-path.invariant in
    inv.paths ∙ sym (inv.parts ∙ no_more c.loop-path.yielded c.loop-path.path-iterator.rest.items _ c.loop-path.path-iterator.rest.ok.0 c.in-None.ensures.steps.0)

pub returns-in_err-source-clause-counts : goal.returns-in_err-source-clause-counts
returns-in_err-source-clause-counts g c = counts_on _ _ _ c.in_err-source.field-0.0 c.from_residual.result c.from_residual.ensures.1 c.loop-path.invariant.quiet c.in_err-source.ensures.counts
