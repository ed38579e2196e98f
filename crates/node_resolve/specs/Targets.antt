-- What the text of a require leads to (the Node.js manual, "Modules: CommonJS modules"), over the files of the application folder.
use Rattle.std.specs.Prelude.{ℕ, zero, suc, Bool, false, List, [], ◌∷◌, length, ◌++◌, ◌==◌, Option, Some, None, if◌then◌else◌, codes}
use Rattle.std.specs.Option.{option_and_then, option_map, option_or, unwrap_or}
use Rattle.std.specs.Str.{bytes_eq}
use Rattle.serde_json.specs.Data.{Data}
use Rattle.jam_base.specs.Files.{Files}
use Rattle.jam_base.specs.Path.{join_of, parent_of}
use Rattle.node_resolve.specs.Shapes.{Bare, bare_of, is_core, is_directory_like, is_relative, is_unsearched, last_part}
use Rattle.node_resolve.specs.Manifests.{exports_in, manifest_at, name_in}
use Rattle.node_resolve.specs.Exports.{export_pick}
use Rattle.node_resolve.specs.Finding.{file_at, found_at, target_at}
use Rattle.node_resolve.specs.declared.pick.Pick.{Pick}
use Rattle.node_resolve.specs.declared.pick.Pick.TheVariants.{Path, Nothing, Refused}
use Rattle.node_resolve.specs.declared.target.Target.{Target}
use Rattle.node_resolve.specs.declared.target.Target.TheVariants.{Core, Missing}

-- the target where one was found
abbrev pub or_missing : Option Target → Target
or_missing None = Missing
or_missing (Some target) = target

-- ---- exports

-- what the exports of the package in a folder give: the file at the path, or nothing that is there
abbrev pub picked_target : Files → List ℕ → Pick → Target
picked_target files folder (Path text) = target_at (file_at files (join_of folder text))
picked_target files folder Nothing = Missing
picked_target files folder Refused = Missing

-- the target of a bare text in the package of a folder with this package.json; none where it has no exports
unfoldable pub exported_target : Files → Bare → List ℕ → Data → Option Target
exported_target files bare folder manifest = option_map (λ e. picked_target files folder (export_pick e bare.subpath)) (exports_in manifest)

-- ---- the folders above a module

-- the folder above a folder; the application folder has none
abbrev pub folder_above : List ℕ → Option (List ℕ)
folder_above folder = if length folder == 0 then None else Some (parent_of folder)

-- a folder and the folders above it up to the application folder, innermost first; at most `most` above it are told
abbrev pub upward_within : ℕ → List ℕ → List (List ℕ)
upward_within zero folder = folder ∷ []
upward_within (suc most) folder = if length folder == 0 then folder ∷ [] else folder ∷ upward_within most (parent_of folder)

-- all of them: there are no more than the path has bytes
unfoldable pub upward : List ℕ → List (List ℕ)
upward folder = upward_within (length folder) folder

-- the folder's name is `node_modules`
abbrev pub is_modules : List ℕ → Bool
is_modules folder = bytes_eq (last_part folder) (codes "node_modules")

-- ---- a package's own name (the Node.js manual, "Self-referencing a package using its name")

abbrev pub scope_with : List ℕ → Option Data → Option (List ℕ × Data) → Option (List ℕ × Data)
scope_with folder None above = above
scope_with folder (Some manifest) above = Some (folder, manifest)

-- the first of the folders with a package.json, and that; none behind a folder `node_modules`
unfoldable pub scope_of : Files → List (List ℕ) → Option (List ℕ × Data)
scope_of files [] = None
scope_of files (folder ∷ above) = if is_modules folder then None else scope_with folder (manifest_at files folder) (scope_of files above)

abbrev pub is_text : Option (List ℕ) → List ℕ → Bool
is_text None text = false
is_text (Some other) text = bytes_eq other text

abbrev pub own_target : Files → Bare → Option (List ℕ × Data) → Option Target
own_target files bare None = None
own_target files bare (Some scope) = if is_text (name_in scope.1) bare.name then exported_target files bare scope.0 scope.1 else None

-- the target of a text that begins with the name of the package that the folder belongs to, where that has exports
unfoldable pub self_target : Files → Bare → List ℕ → Option Target
self_target files bare folder = if bare.is_valid then own_target files bare (scope_of files (upward folder)) else None

-- ---- installed packages (the Node.js manual, "Loading from `node_modules` folders")

-- the target by the exports of the package in a folder
abbrev pub package_target : Files → Bare → List ℕ → Option Target
package_target files bare folder = option_and_then (exported_target files bare folder) (manifest_at files folder)

-- the target by the exports of the package of that name in a folder of packages
unfoldable pub by_exports : Files → Bare → List ℕ → Option Target
by_exports files bare modules = if bare.is_valid then option_and_then (package_target files bare) (join_of modules bare.name) else None

-- the target by the path from a folder of packages
abbrev pub by_path : Files → Bare → List ℕ → Option Target
by_path files bare modules = option_and_then (found_at files (is_directory_like bare.text)) (join_of modules bare.text)

-- the target below a folder of packages: by the exports of the package, else by the path
unfoldable pub below_modules : Files → Bare → List ℕ → Option Target
below_modules files bare modules = option_or (by_exports files bare modules) (by_path files bare modules)

-- the target among the packages that are installed in a folder
unfoldable pub installed_in : Files → Bare → List ℕ → Option Target
installed_in files bare folder = if is_modules folder then None else option_and_then (below_modules files bare) (join_of folder (codes "node_modules"))

-- the first that is found in these folders
unfoldable pub installed_target : Files → Bare → List (List ℕ) → Option Target
installed_target files bare [] = None
installed_target files bare (folder ∷ above) = option_or (installed_in files bare folder) (installed_target files bare above)

-- ---- all texts

-- the target of a bare text in a module of a folder
unfoldable pub bare_target : Files → Bare → List ℕ → Target
bare_target files bare folder = or_missing (option_or (self_target files bare folder) (installed_target files bare (upward folder)))

-- the target of a relative text whose path is this; none is above the application folder
unfoldable pub relative_target : Files → List ℕ → Option (List ℕ) → Target
relative_target files spec path = or_missing (option_and_then (found_at files (is_directory_like spec)) path)

-- the target of a text in the module at the path `from`
unfoldable pub target_of : Files → List ℕ → List ℕ → Target
target_of files from spec =
    if is_core spec then Core
    else if is_unsearched spec then Missing
    else if is_relative spec then relative_target files spec (join_of (parent_of from) spec)
    else bare_target files (bare_of spec) (parent_of from)

-- the target that an entry has: of `./` and its text, in a module that stands in the application folder
abbrev pub entry_target : Files → Option (List ℕ) → Target
entry_target files entry = target_of files [] (codes "./" ++ unwrap_or entry [])
