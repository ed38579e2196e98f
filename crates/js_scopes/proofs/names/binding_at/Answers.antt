use Rattle.std.proofs.Common.{nat_lt, ap, sym, ◌∙◌}
use Rattle.std.specs.List.{count_by}
use Rattle.std.specs.Option.{option_map}
use Rattle.js_tree.specs.declared.token.Token.{Token}
use Rattle.js_scopes.specs.declared.binding.Binding.TheVariants as binding
use Rattle.js_scopes.specs.Names.{local_number, undeclared, declarer}
use Rattle.js_scopes.specs.Walks.{scopes_of}
use Rattle.js_scopes.proofs.Around.{found_local, found_none}
use Rattle.js_scopes.proofs.names.binding_at.Goals as goal

pub returns-in-Some : goal.returns-in-Some
returns-in-Some c n same =
    found_local (λ d. binding.Local (local_number n d)) _ (declarer c.args.token.now.text (scopes_of c.args.around.scopes.now)) c.in-Some.start _
    (sym c.in-Some.is ∙ c.declarer.ensures ∙ ap (λ name. option_map (λ (t : Token). t.start) (declarer name (scopes_of c.args.around.scopes.now))) c.as_str.ensures)
    (λ t e. ap binding.Local (c.local_number.ensures ∙ ap (λ s. count_by (λ k. nat_lt k s) c.args.numbers.starts.now) e ∙ sym (same.locals t)))

pub returns-in-None : goal.returns-in-None
returns-in-None c n same =
    c.undeclared.ensures ∙ ap (λ name. undeclared name c.args.around.holder) c.as_str-in-None.ensures
    ∙ found_none (λ d. binding.Local (local_number n d)) _ (declarer c.args.token.now.text (scopes_of c.args.around.scopes.now))
    (sym c.in-None.is ∙ c.declarer.ensures ∙ ap (λ name. option_map (λ (t : Token). t.start) (declarer name (scopes_of c.args.around.scopes.now))) c.as_str.ensures)
