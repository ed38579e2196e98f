use Rattle.std.proofs.Common.{◌++◌, ◌∷◌, [], ap, ◌∙◌}
use Rattle.serde_json.specs.Written.{compact_text, has_float}
use Rattle.report_text.proofs.FloatLemmas.{report_whole}
use Rattle.report_text.proofs.values.json.Goals as goal

pub returns : goal.returns
unfolding lib.Utf8.encode
returns c =
    let whole = ap has_float c.in_ok-value.ensures ∙ report_whole c.args.report.now in
    c.from_string.ensures ∙ c.in_ok-push.ensures.bytes ∙ ap (λ t. t ++ 10 ∷ []) (c.in_ok-out.ensures.text whole ∙ ap compact_text c.in_ok-value.ensures)
