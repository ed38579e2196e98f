use Rattle.js_parser.proofs.knot.+knot.Given as goal

abbrev pub decreases-expr : goal.decreases-expr
decreases-expr l = l.room

abbrev pub decreases-stmts : goal.decreases-stmts
decreases-stmts l = l.room
