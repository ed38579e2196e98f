use Rattle.jam_app.proofs.PrintLemmas.{text_of_large, text_of_small}
use Rattle.jam_app.proofs.answers.edges.place_text.Goals as goal

pub returns-then-text-gt-TEXT_LIMIT : goal.returns-then-text-gt-TEXT_LIMIT
returns-then-text-gt-TEXT_LIMIT c = text_of_large c.args.text.now c.if-text-gt-TEXT_LIMIT.true

pub returns-else-text-gt-TEXT_LIMIT : goal.returns-else-text-gt-TEXT_LIMIT
returns-else-text-gt-TEXT_LIMIT c = text_of_small c.args.text.now c.if-text-gt-TEXT_LIMIT.false
