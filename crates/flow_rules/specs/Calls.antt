-- The flows of calls, of `new` and of templates.
use Rattle.std.specs.Prelude.{ℕ, ◌+◌, Bool, false, ◌||◌, List, [], ◌∷◌, ◌++◌, map, Option, Some, None, is_some, if◌then◌else◌, codes}
use Rattle.std.specs.List.{flat_map}
use Rattle.std.specs.Str.{bytes_eq}
use Rattle.js_tree.specs.declared.lists.Element.{Element}
use Rattle.js_tree.specs.declared.lists.Tail.{Tail}
use Rattle.js_tree.specs.declared.lists.Tail.TheVariants as tail
use Rattle.js_tree.specs.declared.lists.Template.{Template}
use Rattle.js_tree.specs.declared.tree.Expr.{Expr}
use Rattle.js_tree.specs.Spelling.Chains.{is_member}
use Rattle.js_scopes.specs.Brackets.{elements, last_of}
use Rattle.js_scopes.specs.Calls.{is_reflected, is_required, last_member}
use Rattle.flow_rules.specs.declared.arguments.Argument.{Argument}
use Rattle.flow_rules.specs.declared.arguments.Argument.TheVariants as argument
use Rattle.flow_rules.specs.declared.module.Flow.{Flow}
use Rattle.flow_rules.specs.declared.vertex.Vertex.{Vertex}
use Rattle.flow_rules.specs.declared.vertex.Vertex.TheVariants as vertex
use Rattle.flow_rules.specs.Values.{Facts, object_value, takes_out, value, value_up_to}
use Rattle.flow_rules.specs.Vertices.{vertex_key}

-- a flow, where both ends are there and differ
abbrev pub flow : Option Vertex → Option Vertex → List Flow
flow None to = []
flow (Some u) None = []
flow (Some u) (Some v) = if bytes_eq (vertex_key u) (vertex_key v) then [] else record { from = u; to = v } ∷ []

-- ARGUMENTS

-- an argument, by where its values stand
abbrev pub argument_of : Facts → Element Expr → Argument
argument_of facts e = if is_some e.dots then argument.Spread else argument.Plain (value facts e.value)

-- those of a template behind a tag: the strings, which have no values, and its substitutions (ECMA-262, 12.3.7)
abbrev pub tagged_with : Facts → Template Expr → List Argument
tagged_with facts t = argument.Plain None ∷ map (λ x. argument.Plain (value facts x.item)) t.parts

-- where the values stand that an argument hands over: a spread hands over elements
abbrev pub handed_over : Argument → Option Vertex
handed_over (argument.Plain v) = v
handed_over argument.Spread = Some vertex.Elem

-- the same of a plain argument alone
abbrev pub plain : Argument → Option Vertex
plain (argument.Plain v) = v
plain argument.Spread = None

-- arguments without places go to a site's `More`
abbrev pub more_flows : ℕ → ℕ → List Argument → List Flow
more_flows offset part = flat_map (λ a. flow (handed_over a) (Some (vertex.More offset part)))

-- plain arguments go to a site's arguments, from place i on; behind the first spread there are no places
abbrev pub argument_flows : ℕ → ℕ → ℕ → List Argument → List Flow
argument_flows offset part i [] = []
argument_flows offset part i (argument.Plain v ∷ args) = flow v (Some (vertex.Arg offset part i)) ++ argument_flows offset part (i + 1) args
argument_flows offset part i (argument.Spread ∷ args) = more_flows offset part (argument.Spread ∷ args)

-- MEMBERS

-- of the call that is passed on a plain first argument is the receiver
abbrev pub receiver_flows : ℕ → List Argument → List Flow
receiver_flows offset [] = []
receiver_flows offset (a ∷ args) = flow (plain a) (Some (vertex.Recv offset 1))

-- and what stands behind it are the arguments
abbrev pub behind_receiver : List Argument → List Argument
behind_receiver (argument.Plain v ∷ args) = args
behind_receiver args = args

-- the receiver and the arguments that a member of this name passes on; of `apply` any element may be an argument
abbrev pub passed_flows : ℕ → List Argument → List ℕ → List Flow
passed_flows offset args name =
    receiver_flows offset args
    ++ (if bytes_eq name (codes "apply") then flow (Some vertex.Elem) (Some (vertex.More offset 1)) else argument_flows offset 1 0 (behind_receiver args))

-- `bind` also gives the function itself, as expression number k
abbrev pub bound_flows : ℕ → Option Vertex → List ℕ → List Flow
bound_flows k object name = if bytes_eq name (codes "bind") then flow object (Some (vertex.Exp k)) else []

-- what a call of a member of this name passes on to the object, where its value is expression number k
abbrev pub reflected_flows : ℕ → ℕ → Option Vertex → List Argument → List ℕ → List Flow
reflected_flows offset k object args name =
    if is_reflected name then
    flow object (Some (vertex.Callee offset 1))
    ++ passed_flows offset args name
    ++ flow (Some (vertex.Res offset 0)) (Some (vertex.Exp k))
    ++ flow (Some (vertex.Res offset 1)) (Some (vertex.Exp k))
    ++ bound_flows k object name
    else []

-- what it takes out
abbrev pub taken_flows : ℕ → ℕ → List ℕ → List Flow
taken_flows offset k name = if takes_out name then flow (Some (vertex.Res offset 0)) (Some (vertex.Exp k)) ++ flow (Some vertex.Elem) (Some (vertex.Exp k)) else []

-- the member puts its plain arguments in
abbrev pub puts_in : List ℕ → Bool
puts_in name = bytes_eq name (codes "push") || bytes_eq name (codes "unshift")

abbrev pub put_flows : List Argument → List ℕ → List Flow
put_flows args name = if puts_in name then flat_map (λ a. flow (plain a) (Some vertex.Elem)) args else []

-- the same of a member of this name or none
abbrev pub any_put_flows : List Argument → Option (List ℕ) → List Flow
any_put_flows args None = []
any_put_flows args (Some name) = put_flows args name

-- what a call of a member of this name or none adds besides
abbrev pub member_flows : ℕ → ℕ → Option Vertex → List Argument → Option (List ℕ) → List Flow
member_flows offset k object args None = []
member_flows offset k object args (Some name) = reflected_flows offset k object args name ++ taken_flows offset k name

-- CALLS

-- a chain with these tails is a member
abbrev pub ends_in_member : List (Tail Expr) → Bool
ends_in_member tails = elim (last_of tails) [ None ↦ false | Some t ↦ is_member t ]

-- what is called behind these tails goes to the callee, and the object of a member that is called is the receiver
abbrev pub callee_flows : Facts → Expr → List (Tail Expr) → ℕ → List Flow
callee_flows facts head before offset =
    flow (value_up_to facts head before) (Some (vertex.Callee offset 0))
    ++ (if ends_in_member before then flow (object_value facts head before) (Some (vertex.Recv offset 0)) else [])

-- the flows that calls and templates behind a tag have in common
abbrev pub handing_flows : Facts → Expr → List (Tail Expr) → ℕ → List Argument → List Flow
handing_flows facts head before offset args =
    callee_flows facts head before offset ++ argument_flows offset 0 0 args ++ any_put_flows args (last_member before)

-- the flows of a call; a require has none
abbrev pub call_flows : Facts → Expr → List (Tail Expr) → ℕ → List Argument → List Flow
call_flows facts head before offset args =
    handing_flows facts head before offset args ++ member_flows offset (facts.number offset) (object_value facts head before) args (last_member before)

abbrev pub unrequired_flows : Bool → Facts → Expr → List (Tail Expr) → ℕ → List Argument → List Flow
unrequired_flows required facts head before offset args = if required then [] else call_flows facts head before offset args

-- the flows of a tail behind its head and the tails before it
abbrev pub tail_flows : Facts → Expr → List (Tail Expr) → Tail Expr → List Flow
tail_flows facts head before (tail.Call a) =
    unrequired_flows (is_required facts.known head before (elements a)) facts head before a.open.start (map (argument_of facts) (elements a))
tail_flows facts head before (tail.Template t) = handing_flows facts head before t.head.start (tagged_with facts t)
tail_flows facts head before _ = []

-- those of `new` at an offset: it has no receiver
abbrev pub made_flows : Facts → Expr → List (Tail Expr) → ℕ → List (Element Expr) → List Flow
made_flows facts head tails offset arguments =
    flow (value_up_to facts head tails) (Some (vertex.Callee offset 0)) ++ argument_flows offset 0 0 (map (argument_of facts) arguments)
