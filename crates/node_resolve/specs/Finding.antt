-- Which file a path leads to, over the files of the application folder (the Node.js manual, "Modules: CommonJS modules", on
-- LOAD_AS_FILE, LOAD_INDEX and LOAD_AS_DIRECTORY).
use Rattle.std.specs.Prelude.{ℕ, Bool, List, [], ◌∷◌, length, ◌++◌, ◌==◌, Option, Some, None, if◌then◌else◌, codes}
use Rattle.std.specs.Option.{option_and_then, option_map, option_or}
use Rattle.std.specs.FinMap as map
use Rattle.jam_base.specs.Files.{Files}
use Rattle.jam_base.specs.Path.{path_of, join_of}
use Rattle.node_resolve.specs.Shapes.{is_no_code}
use Rattle.node_resolve.specs.Manifests.{main_in, manifest_at}
use Rattle.node_resolve.specs.declared.target.Target.{Target}
use Rattle.node_resolve.specs.declared.target.Target.TheVariants.{Module, NotCode, Missing}

-- the file at a path, where there is one
abbrev pub file_at : Files → Option (List ℕ) → Option (List ℕ)
file_at files None = None
file_at files (Some path) = if map.contains_key files path then Some path else None

-- the first file among the texts that a path with each of these ends behind it is
abbrev pub first_file : Files → List ℕ → List (List ℕ) → Option (List ℕ)
first_file files path [] = None
first_file files path (end ∷ ends) = option_or (file_at files (path_of (codes "./" ++ path ++ end))) (first_file files path ends)

-- the file that a path is, as it stands or with an extension behind it
unfoldable pub with_extension : Files → List ℕ → Option (List ℕ)
with_extension files path = first_file files path ([] ∷ codes ".js" ∷ codes ".json" ∷ codes ".node" ∷ [])

-- the same, where the application folder itself is no file
unfoldable pub file_of : Files → List ℕ → Option (List ℕ)
file_of files path = if length path == 0 then None else with_extension files path

-- the index of the folder that a path is
unfoldable pub index_of : Files → List ℕ → Option (List ℕ)
index_of files path = first_file files path (codes "/index.js" ∷ codes "/index.json" ∷ codes "/index.node" ∷ [])

-- a file as a target
abbrev pub file_target : List ℕ → Target
file_target path = if is_no_code path then NotCode path else Module path

-- a file as a target, where one was found
abbrev pub target_at : Option (List ℕ) → Target
target_at None = Missing
target_at (Some path) = file_target path

-- the main path of the folder that a path is: that of the `main` in its package.json, unless it leads above the application folder
unfoldable pub main_path : Files → List ℕ → Option (List ℕ)
main_path files path = option_and_then (join_of path) (option_and_then main_in (manifest_at files path))

-- what a main path of a folder leads to; where it leads nowhere the search ends
unfoldable pub main_target : Files → List ℕ → List ℕ → Target
main_target files folder main = target_at (option_or (file_of files main) (option_or (index_of files main) (index_of files folder)))

abbrev pub directory_with : Files → List ℕ → Option (List ℕ) → Option Target
directory_with files folder None = option_map file_target (index_of files folder)
directory_with files folder (Some main) = Some (main_target files folder main)

-- what the folder that a path is leads to; none where the search goes on
unfoldable pub directory_of : Files → List ℕ → Option Target
directory_of files path = directory_with files path (main_path files path)

-- what a path leads to: where it isn't written as a folder the file that it is, else what it leads to as a folder
unfoldable pub found_at : Files → Bool → List ℕ → Option Target
found_at files like path = option_or (if like then None else option_map file_target (file_of files path)) (directory_of files path)
