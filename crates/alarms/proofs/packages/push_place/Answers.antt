use Rattle.std.proofs.Common.{◌≡◌, ◌++◌, ◌∷◌, [], ℕ, List, ap, sym, ◌∙◌}
use Rattle.std.proofs.lemmas.Result.{on_ok_weaker}
use Rattle.alarms.proofs.PackageLemmas.{one_kept}
use Rattle.alarms.proofs.packages.push_place.Goals as goal

pub returns : goal.returns
returns c =
    on_ok_weaker c.put.result
    (λ kept name. one_kept c.args.places.now c.taken-here.new.places c.put.new.places name c.args.key.now c.of.result c.args.place
    (c.of.ensures ∙ c.in_ok-push.ensures.items ∙ ap (λ (xs : List ℕ). xs ++ c.args.place ∷ []) c.taken-here.ensures.here) (c.taken-here.ensures.left name) (kept name)) c.put.ensures
