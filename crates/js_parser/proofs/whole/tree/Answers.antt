use Rattle.std.proofs.Common.{◌≤◌, ℕ, arith, sym, subst, refl, List, Ok, Err, true≢false}
use Rattle.js_tree.specs.Lexical.{IsTrivia}
use Rattle.js_tree.specs.Lexing.{Place}
use Rattle.js_tree.specs.Spelling.{stmts_height}
use Rattle.js_tree.specs.declared.tree.Stmt.{Stmt}
use Rattle.js_tree.specs.declared.tree.Tree.{Tree}
use Rattle.js_tokens.proofs.PieceLemmas.{exit}
use Rattle.js_tokens.specs.Pieces.{Gives, Passes}
use Rattle.js_parser.proofs.PlaceLemmas.{refuses_on}
use Rattle.js_parser.proofs.WholeLemmas.{spelled, only_body}
use Rattle.js_parser.specs.declared.tall.Tall.{Tall}
use Rattle.js_parser.proofs.whole.tree.Goals as goal

abbrev body_of : Tree → Tall (List Stmt)
body_of tree = record { node = tree.body; height = stmts_height tree.body }

pub returns-in_err-body-clause-only : goal.returns-in_err-body-clause-only
returns-in_err-body-clause-only c tree s =
    exit {X = Tall (List Stmt)} _ c.in_err-body.field-0.0 (body_of tree) tree (IsTrivia c.stmts.new.reader.at c.stmts.new.reader.left) _ c.from_residual.ensures.1
    (only_body c.args.text.now _ c.stmts.new.reader tree _ (Err c.in_err-body.field-0.0) c.new-reader.ensures (omega arith) s c.in_err-body.ensures.reads.only)

pub returns-then-is_at_end-clause-found : goal.returns-then-is_at_end-clause-found
returns-then-is_at_end-clause-found c =
    let w = c.in_ok-body.ensures.reads.found.1 in
    spelled _ _ _ _ _ c.new-reader.ensures c.requires c.in_ok-body.ensures.reads.found.0 (subst (λ (n : ℕ). n ≤ _) w.height w.fits) (omega arith) (c.if-is_at_end.ensures.0 refl)

pub returns-then-is_at_end-clause-only : goal.returns-then-is_at_end-clause-only
returns-then-is_at_end-clause-only c tree s =
    let g0 : Gives {X = Tall (List Stmt)} (Ok c.in_ok-body.field-0) (body_of tree) (IsTrivia c.stmts.new.reader.at c.stmts.new.reader.left) =
    only_body c.args.text.now _ c.stmts.new.reader tree _ (Ok c.in_ok-body.field-0) c.new-reader.ensures (omega arith) s c.in_ok-body.ensures.reads.only in
    (λ i. record { body = (g0.0 i).node }, tt)

pub returns-else-is_at_end-clause-only : goal.returns-else-is_at_end-clause-only
returns-else-is_at_end-clause-only c tree s =
    let g0 : Gives {X = Tall (List Stmt)} (Ok c.in_ok-body.field-0) (body_of tree) (IsTrivia c.stmts.new.reader.at c.stmts.new.reader.left) =
    only_body c.args.text.now _ c.stmts.new.reader tree _ (Ok c.in_ok-body.field-0) c.new-reader.ensures (omega arith) s c.in_ok-body.ensures.reads.only in
    absurd (true≢false (sym (c.if-is_at_end.ensures.1 g0.1)))

pub returns-else-is_at_end-clause-placed : goal.returns-else-is_at_end-clause-placed
returns-else-is_at_end-clause-placed c =
    refuses_on _ _ c.refusal.result (subst (λ (p : Place). Passes p c.stmts.new.reader) c.new-reader.ensures c.in_ok-body.ensures.reads.moves) c.refusal.ensures
