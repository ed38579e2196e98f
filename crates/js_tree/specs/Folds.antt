-- Folds that make one type of each type of node, and what is seen of the nodes in a layer.
use Rattle.js_tree.specs.declared.tree.Expr.{Expr, fold-Expr, map-Expr}
use Rattle.js_tree.specs.declared.tree.Expr.TheOpen.{Expr-F, Function-F, Pattern-F, Stmt-F, Slot-F}
use Rattle.js_tree.specs.declared.tree.Function.{Function, fold-Function, map-Function}
use Rattle.js_tree.specs.declared.tree.Pattern.{Pattern, fold-Pattern, map-Pattern}
use Rattle.js_tree.specs.declared.tree.Slot.{Slot, fold-Slot, map-Slot}
use Rattle.js_tree.specs.declared.tree.Stmt.{Stmt, fold-Stmt, map-Stmt}

-- what is made of a layer of each type, from what is made of the nodes in it
pub record Steps (A : Type 0) : Type 0 where
  pub expr : Expr-F A A A A A → A
  pub function : Function-F A A A A A → A
  pub pattern : Pattern-F A A A A A → A
  pub stmt : Stmt-F A A A A A → A
  pub slot : Slot-F A A A A A → A

-- what is made of a node of each type
abbrev pub fold_expr : {A : Type 0} → Steps A → Expr → A
fold_expr {A} s = fold-Expr A A A A A s.expr s.function s.pattern s.stmt s.slot

abbrev pub fold_function : {A : Type 0} → Steps A → Function → A
fold_function {A} s = fold-Function A A A A A s.expr s.function s.pattern s.stmt s.slot

abbrev pub fold_pattern : {A : Type 0} → Steps A → Pattern → A
fold_pattern {A} s = fold-Pattern A A A A A s.expr s.function s.pattern s.stmt s.slot

abbrev pub fold_stmt : {A : Type 0} → Steps A → Stmt → A
fold_stmt {A} s = fold-Stmt A A A A A s.expr s.function s.pattern s.stmt s.slot

abbrev pub fold_slot : {A : Type 0} → Steps A → Slot → A
fold_slot {A} s = fold-Slot A A A A A s.expr s.function s.pattern s.stmt s.slot

-- one layer of an expression, of a function, of a pattern, of a statement, of a slot
abbrev pub ExprLayer : Type 0
ExprLayer = Expr-F Expr Function Pattern Stmt Slot

abbrev pub FunctionLayer : Type 0
FunctionLayer = Function-F Expr Function Pattern Stmt Slot

abbrev pub PatternLayer : Type 0
PatternLayer = Pattern-F Expr Function Pattern Stmt Slot

abbrev pub StmtLayer : Type 0
StmtLayer = Stmt-F Expr Function Pattern Stmt Slot

abbrev pub SlotLayer : Type 0
SlotLayer = Slot-F Expr Function Pattern Stmt Slot

-- how the nodes of each type are seen
pub record Views (A : Type 0) : Type 0 where
  pub expr : Expr → A
  pub function : Function → A
  pub pattern : Pattern → A
  pub stmt : Stmt → A
  pub slot : Slot → A

-- a layer with what is seen of the nodes in it
abbrev pub seen_expr : {A : Type 0} → Views A → ExprLayer → Expr-F A A A A A
seen_expr {A} v = map-Expr Expr Function Pattern Stmt Slot A A A A A v.expr v.function v.pattern v.stmt v.slot

abbrev pub seen_function : {A : Type 0} → Views A → FunctionLayer → Function-F A A A A A
seen_function {A} v = map-Function Expr Function Pattern Stmt Slot A A A A A v.expr v.function v.pattern v.stmt v.slot

abbrev pub seen_pattern : {A : Type 0} → Views A → PatternLayer → Pattern-F A A A A A
seen_pattern {A} v = map-Pattern Expr Function Pattern Stmt Slot A A A A A v.expr v.function v.pattern v.stmt v.slot

abbrev pub seen_stmt : {A : Type 0} → Views A → StmtLayer → Stmt-F A A A A A
seen_stmt {A} v = map-Stmt Expr Function Pattern Stmt Slot A A A A A v.expr v.function v.pattern v.stmt v.slot

abbrev pub seen_slot : {A : Type 0} → Views A → SlotLayer → Slot-F A A A A A
seen_slot {A} v = map-Slot Expr Function Pattern Stmt Slot A A A A A v.expr v.function v.pattern v.stmt v.slot
