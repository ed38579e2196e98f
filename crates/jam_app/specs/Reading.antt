-- What reading a round finds: its texts, their trees, where their requires lead, and the refusals for them.
use Rattle.std.specs.Prelude.{◌≡◌, ◌↔◌, ◌<◌, ℕ, Contains, Bool, false, List, [], map, All, Some, None, ◌+◌, ◌≤◌, ◌∷◌, ◌++◌, length, Option}
use Rattle.std.specs.List.{filter_map}
use Rattle.jam_app.specs.declared.loading.ends.Ends.{Ends}
use Rattle.jam_app.specs.declared.loading.loaded.Led.{Led}
use Rattle.jam_app.specs.declared.loading.loaded.Loaded.{Loaded}
use Rattle.jam_app.specs.Rounds.{text_at, total_bytes, Fits}
use Rattle.jam_app.specs.Texts.{IsBad, IsTheTree}
use Rattle.js_tree.specs.Spells.{limit}
use Rattle.jam_base.specs.Files.{Files}
use Rattle.flow_rules.specs.declared.module.Require.{Require}
use Rattle.node_resolve.specs.Targets.{target_of}
use Rattle.jam_app.specs.declared.loading.module.Parsed.{Parsed}
use Rattle.jam_app.specs.declared.answers.refusal.Refusal.{Refusal}
use Rattle.jam_app.specs.declared.answers.refusal.Refusal.TheVariants as refusal
use Rattle.jam_app.specs.declared.loading.size.Size.{Size}
use Rattle.jam_app.specs.declared.loading.source.Source.{Source}
use Rattle.jam_app.specs.Entries.{module_path}
use Rattle.js_parser.specs.declared.fault.Construct.{Construct}
use Rattle.jam_app.specs.Refusals.{IsConstructAt, IsRefusedAt, counted_bytes}
use Rattle.flow_rules.specs.Flows.{requires_of}
use Rattle.jam_app.specs.Loading.{IsSummaryOf, Leads, missing_by}

-- how many modules these are, and how many bytes their texts have together
abbrev pub size_of : Files → List (List ℕ) → Size
size_of files paths = record { modules = length paths; bytes = total_bytes files paths }

-- a path, and the text of the file there
abbrev pub file_at : Files → List ℕ → List ℕ × List ℕ
file_at files path = (path, text_at files path)

abbrev pub file_of : Source → List ℕ × List ℕ
file_of source = (source.path, source.text)

-- the refusal for the module at the path, which is one too many behind the earlier ones
pub record IsExcess (files : Files) (earlier : List (List ℕ)) (path : List ℕ) (owed : Refusal) : Type 0 where
  pub fit : Fits files earlier
  pub over : Fits files (earlier ++ path ∷ []) → ⊥
  pub is : owed ≡ refusal.TooMany (length earlier + 1) (counted_bytes files earlier path)

-- the refusal for the first of the paths, behind the earlier modules, that is one too many
pub record HasExcess (files : Files) (earlier paths : List (List ℕ)) (owed : Refusal) : Type 0 where
  pub front : List (List ℕ)
  pub path : List ℕ
  pub behind : List (List ℕ)
  pub parts : paths ≡ front ++ path ∷ behind
  pub excess : IsExcess files (earlier ++ front) path owed

-- the refusal for a module that has no tree
pub data IsRefusedFor (path text : List ℕ) : Refusal → Type 0 where
  too_large : limit < length text → IsRefusedFor path text (refusal.TooLarge path (length text))
  construct : (at : ℕ) (what : Construct) → IsBad text → length text ≤ limit → IsConstructAt text at what → IsRefusedFor path text (refusal.Construct path at what)
  not_in_profile : (at : ℕ) → IsBad text → length text ≤ limit → IsRefusedAt text at → IsRefusedFor path text (refusal.NotInProfile path at)

-- the refusal for the first of the modules that has no tree, where such modules aren't skipped
pub record HasBad (skip : Bool) (sources : List Source) (owed : Refusal) : Type 0 where
  pub unskipped : skip ≡ false
  pub front : List Source
  pub source : Source
  pub behind : List Source
  pub parts : sources ≡ front ++ source ∷ behind
  pub none_bad : All (λ s. IsBad s.text → ⊥) front
  pub refused : IsRefusedFor source.path source.text owed

-- the tree is the one that is worked with
abbrev pub IsParsed : Bool → Parsed → Type 0
IsParsed skip p = IsTheTree skip p.source.text p.tree p.skipped

-- where a require leads, if to a module
abbrev pub led_to : ℕ → Option (List ℕ) → Option Led
led_to offset None = None
led_to offset (Some path) = Some (record { offset = offset; path = path })

abbrev pub led_by : Files → List ℕ → Require → Option Led
led_by files from require = led_to require.offset (module_path (target_of files from require.spec))

-- where requires lead that lead to modules, and those that lead nowhere
pub record AreEnds (files : Files) (from : List ℕ) (requires_ : List Require) (ends : Ends) : Type 0 where
  pub targets : ends.targets.items ≡ filter_map (led_by files from) requires_
  pub missing : ends.missing.items ≡ filter_map (missing_by files from) requires_

-- the file of a loaded module
abbrev pub source_of : Loaded → Source
source_of l = record { path = l.path; text = l.text }

-- a loaded module as it was before its requires were resolved
abbrev pub parsed_of : Loaded → Parsed
parsed_of l = record { source = source_of l; tree = l.tree; skipped = l.skipped }

-- what is kept of a module beside its tree: the summary, where its requires lead that lead to modules, and those that lead nowhere
pub record IsResolved (files : Files) (l : Loaded) : Type 0 where
  pub summary : IsSummaryOf l.tree l.summary
  pub targets : (led : Led) → Contains l.targets.items led ↔ Leads files l led
  pub missing : l.missing.items ≡ filter_map (missing_by files l.path) (requires_of l.tree)

-- the paths of the modules that these require, in order
abbrev pub led_from : Loaded → List (List ℕ)
led_from l = map (λ t. t.path) l.targets.items
