-- What a package.json says (the Node.js manual, "Modules: Packages"; the npm manual, "package.json").
use Rattle.std.specs.Prelude.{ℕ, List, [], ◌∷◌, Option, Some, None, if◌then◌else◌, codes}
use Rattle.std.specs.Option.{option_and_then, is_some}
use Rattle.std.specs.FinMap as map
use Rattle.serde_json.specs.Data.{Data}
use Rattle.serde_json.specs.Find.{as_null, as_object, as_str, get}
use Rattle.json_value.specs.Bytes.{json_of}
use Rattle.jam_base.specs.Files.{Files}
use Rattle.jam_base.specs.Path.{join_of}

-- a JSON value that is an object
abbrev pub object_of : Data → Option Data
object_of d = if is_some (as_object d) then Some d else None

-- the bytes of the file at a path, where there is one
abbrev pub bytes_at : Files → Option (List ℕ) → Option (List ℕ)
bytes_at files None = None
bytes_at files (Some path) = map.get files path

-- the package.json of a folder; one that is no JSON object counts as absent
unfoldable pub manifest_at : Files → List ℕ → Option Data
manifest_at files folder = option_and_then object_of (option_and_then json_of (bytes_at files (join_of folder (codes "package.json"))))

-- a text that isn't empty
abbrev pub not_empty : List ℕ → Option (List ℕ)
not_empty [] = None
not_empty (b ∷ text) = Some (b ∷ text)

-- a value that isn't null
abbrev pub not_null : Data → Option Data
not_null d = if is_some (as_null d) then None else Some d

-- the `main` of a package.json, where it is a text that isn't empty
abbrev pub main_in : Data → Option (List ℕ)
main_in d = option_and_then not_empty (option_and_then as_str (get (codes "main") d))

-- the `exports` of a package.json, where it is there and not null
abbrev pub exports_in : Data → Option Data
exports_in d = option_and_then not_null (get (codes "exports") d)

-- the `name` of a package.json, where it is a text
abbrev pub name_in : Data → Option (List ℕ)
name_in d = option_and_then as_str (get (codes "name") d)
