use Rattle.composer.specs.Solution.{Has}
use Rattle.composer.proofs.LeastSolution.{solution_closed, least}
use Rattle.composer.proofs.law.least_solution.Goals as goal

pub returns-clause-closed : goal.returns-clause-closed
returns-clause-closed g c = solution_closed

pub returns-clause-least : goal.returns-clause-least
returns-clause-least g c a has closed t v h = least a (Has has) closed h.0 t v h.1
