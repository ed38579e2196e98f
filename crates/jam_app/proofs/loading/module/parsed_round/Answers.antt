use Rattle.std.proofs.Common.{◌≡◌, ◌++◌, ◌∷◌, [], ℕ, Option, map, ap, subst, sym, ◌∙◌}
use Rattle.std.specs.Prelude.{All}
use Rattle.std.proofs.lemmas.List.{append_assoc, map-append}
use Rattle.std.proofs.lemmas.List.Elements.{All-push}
use Rattle.jam_base.specs.Files.{Files}
use Rattle.jam_app.specs.declared.loading.module.Parsed.{Parsed}
use Rattle.jam_app.specs.declared.loading.source.Source.{Source}
use Rattle.jam_app.specs.Reading.{HasBad, IsParsed}
use Rattle.jam_app.specs.Stops.{HasStopCause}
use Rattle.jam_app.proofs.Bad.{bad_in}
use Rattle.jam_app.proofs.Causes.{stop_handed}
use Rattle.jam_app.proofs.Ends.{no_more}
use Rattle.jam_app.proofs.loading.module.parsed_round.Goals as goal

abbrev source : Parsed → Source
source p = p.source

pub loop-source-preserved : goal.loop-source-preserved
loop-source-preserved g c =
    let inv = c.loop-source.invariant in
    let made = c.in_ok-parsed_file.field-0 in
    record {
      can = tt;
      finite = tt;
      parts = inv.parts ∙ ap (λ left. c.loop-source.yielded ++ left) c.in-Some.ensures.steps.0 ∙ sym (append_assoc c.loop-source.yielded (c.in-Some.source ∷ []) c.next.new.self.rest.items);
      are = ap (map source) c.in_ok-push.ensures.items ∙ map-append source c.loop-source.made.items (made ∷ []) ∙ (λ i. inv.are i ++ c.in_ok-parsed_file.ensures.ok.0 i ∷ []);
      parsed = subst (All (IsParsed c.args.skip)) (sym c.in_ok-push.ensures.items) (All-push (IsParsed c.args.skip) c.loop-source.made.items made inv.parsed c.in_ok-parsed_file.ensures.ok.1);
    }

pub returns-in_err-parsed_file-clause-err : goal.returns-in_err-parsed_file-clause-err
returns-in_err-parsed_file-clause-err g c =
    let inv = c.loop-source.invariant in
    let parts : c.args.sources.items ≡ c.loop-source.yielded ++ c.in-Some.source ∷ c.next.new.self.rest.items = inv.parts ∙ ap (λ left. c.loop-source.yielded ++ left) c.in-Some.ensures.steps.0 in
    stop_handed (λ stop. (files : Option Files) (before now : ℕ) → HasStopCause (λ m owed. HasBad c.args.skip c.args.sources.items owed) files before now stop)
    c.in_err-parsed_file.field-0.0 c.from_residual.result c.from_residual.ensures.1
    (bad_in c.args.skip c.loop-source.made.items c.args.sources.items c.loop-source.yielded c.in-Some.source c.next.new.self.rest.items inv.are inv.parsed parts c.in_err-parsed_file.field-0.0 c.in_err-parsed_file.ensures.err)

pub returns-clause-ok : goal.returns-clause-ok
returns-clause-ok g c =
    let inv = c.loop-source.invariant in
    let all : c.args.sources.items ≡ c.loop-source.yielded = inv.parts ∙ no_more c.loop-source.yielded c.loop-source.source-iterator.rest.items _ c.loop-source.source-iterator.rest.ok.0 c.in-None.ensures.steps.0 in
    (inv.are ∙ sym all, inv.parsed)
