use Rattle.flow_rules.proofs.Order.{by_parts}
use Rattle.flow_rules.proofs.vertex.Vertex.order.Goals as goal

pub returns : goal.returns
returns c = cc (by_parts c.args.self.now c.args.other.now)
