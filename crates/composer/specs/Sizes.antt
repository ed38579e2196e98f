-- How large modules are for their composition: no less than the number of their vertices, functions and sites.
use Rattle.std.specs.Prelude.{ℕ, ◌+◌, ◌*◌, List, length}
use Rattle.std.specs.List.{sum_by}
use Rattle.js_scopes.specs.declared.function.FunctionInfo.{FunctionInfo}
use Rattle.js_scopes.specs.declared.site.SiteInfo.{SiteInfo}
use Rattle.flow_rules.specs.Constraints.{ModuleConstraints}
use Rattle.composer.specs.declared.application.Part.{Part}

-- a function, and its parameters
abbrev pub function_size : FunctionInfo → ℕ
function_size f = 3 + f.params

-- a site, and its arguments
abbrev pub site_size : SiteInfo → ℕ
site_size s = 4 + s.args

-- a module with so many flows: itself, its requires, the ends of its flows, its functions and its sites
abbrev pub module_size : ℕ → ModuleConstraints → ℕ
module_size flows c = 1 + length c.requires_ + 2 * flows + sum_by function_size c.functions + sum_by site_size c.sites

-- modules with the flows that they have, and what all applications have
abbrev pub size_of : List ModuleConstraints → ℕ
size_of modules = 100 + sum_by (λ c. module_size (length c.flows) c) modules

-- the parts of an application, with the flows that the texts of their modules give
abbrev pub made_size : List Part → ℕ
made_size parts = 100 + sum_by (λ (p : Part). module_size p.summary.made p.summary.lists) parts

-- the size from which on parts aren't composed
abbrev pub size_limit : ℕ
size_limit = 4294967295
