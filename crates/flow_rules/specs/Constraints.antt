-- What a module says of its values.
use Rattle.std.specs.Prelude.{List}
use Rattle.js_scopes.specs.declared.function.FunctionInfo.{FunctionInfo}
use Rattle.js_scopes.specs.declared.site.SiteInfo.{SiteInfo}
use Rattle.flow_rules.specs.declared.module.Flow.{Flow}
use Rattle.flow_rules.specs.declared.module.ModuleNote.{ModuleNote}
use Rattle.flow_rules.specs.declared.module.Require.{Require}

-- the functions of a module, its sites, requires and notes, and the flows between its vertices
pub record ModuleConstraints : Type 0 where
  pub functions : List FunctionInfo
  pub sites : List SiteInfo
  pub requires_ : List Require
  pub notes : List ModuleNote
  pub flows : List Flow
