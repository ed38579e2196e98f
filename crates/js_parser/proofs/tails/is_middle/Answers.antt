use Rattle.js_parser.proofs.TemplateLemmas.{no_middle}
use Rattle.js_parser.proofs.tails.is_middle.Goals as goal

pub returns-in_default : goal.returns-in_default
returns-in_default c = no_middle c.args.token.now.class c.args.token.now.text c.in_default.not-TemplateMiddle
