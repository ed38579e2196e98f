use Rattle.std.proofs.Common.{◌≡◌, refl, [], ◌∷◌}
use Rattle.js_tokens.proofs.HeldLemmas.{taken_at, taken_only, none_only}
use Rattle.js_tokens.proofs.reader.TokenReader.take.Goals as goal

pub returns-in_default-clause-only : goal.returns-in_default-clause-only
returns-in_default-clause-only c = none_only c.args.goal c.args.self.now c.refusal.result c.in_default.ensures.none

pub returns-clause-found : goal.returns-clause-found
returns-clause-found c =
    let at : c.self.inside.lexer ≡ c.args.self.now = c.self.view_is in
    let t = taken_at c.args.goal c.self.inside.lexer c.args.self.now c.behind-lexer.result c.in-Some.next c.in_ok-text.text at c.in-Some.ensures.found c.in_ok-text.ensures c.behind-lexer.ensures in
    (t.next, t.read)

pub returns-clause-only : goal.returns-clause-only
returns-clause-only c =
    let at : c.self.inside.lexer ≡ c.args.self.now = c.self.view_is in
    taken_only c.args.goal c.args.self.now c.behind-lexer.result (record { text = c.in_ok-text.text; start = c.in-Some.next.raw.start; class = c.in-Some.next.raw.class; nl_before = c.in-Some.next.raw.nl_before })
    (taken_at c.args.goal c.self.inside.lexer c.args.self.now c.behind-lexer.result c.in-Some.next c.in_ok-text.text at c.in-Some.ensures.found c.in_ok-text.ensures c.behind-lexer.ensures)

pub returns-clause-moves : goal.returns-clause-moves
returns-clause-moves c =
    let at : c.self.inside.lexer ≡ c.args.self.now = c.self.view_is in
    let t = taken_at c.args.goal c.self.inside.lexer c.args.self.now c.behind-lexer.result c.in-Some.next c.in_ok-text.text at c.in-Some.ensures.found c.in_ok-text.ensures c.behind-lexer.ensures in
    ((record { text = c.in_ok-text.text; start = c.in-Some.next.raw.start; class = c.in-Some.next.raw.class; nl_before = c.in-Some.next.raw.nl_before }) ∷ [], (c.behind-lexer.result, t.next, refl))

pub returns-clause-shorter : goal.returns-clause-shorter
returns-clause-shorter c =
    let at : c.self.inside.lexer ≡ c.args.self.now = c.self.view_is in
    (taken_at c.args.goal c.self.inside.lexer c.args.self.now c.behind-lexer.result c.in-Some.next c.in_ok-text.text at c.in-Some.ensures.found c.in_ok-text.ensures c.behind-lexer.ensures).shorter
