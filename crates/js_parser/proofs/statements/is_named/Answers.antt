use Rattle.std.proofs.Common.{sym, ap, ◌∙◌, is_some}
use borrow.Enum.Total.{values_d, values_d_at}
use Rattle.js_tree.specs.contracts.tree.Function.{enum}
use Rattle.js_parser.proofs.FunctionLemmas.{IsKeyword, function_kind, name_seen}
use Rattle.js_parser.proofs.statements.is_named.Goals as goal

pub returns : goal.returns
returns c = elim (function_kind c.args.function.now) [
  | IsKeyword word name params body e ↦
      c.is_some.ensures ∙ ap (λ v. is_some v.1.0) (ap (values_d enum 0 _) e ∙ values_d_at enum 0 _ (word, (name, (params, (body, tt)))))
      ∙ sym (name_seen c.args.function.now word name params body e)
]
