use Rattle.js_parser.proofs.patterns.+pattern_of.Given as goal

abbrev pub decreases-pattern_of : goal.decreases-pattern_of
decreases-pattern_of l = l.height
