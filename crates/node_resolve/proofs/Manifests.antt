-- The package.json of a folder.
use Rattle.std.proofs.Common.{◌≡◌, List, ℕ, Option, Some, None, ap, ◌∙◌}
use Rattle.std.specs.Option.{option_and_then, IfSome}
use Rattle.serde_json.specs.Data.{Data}
use Rattle.json_value.specs.Bytes.{json_of}
use Rattle.jam_base.specs.Files.{Files}
use Rattle.jam_base.specs.Path.{join_of}
use Rattle.node_resolve.specs.Manifests.{bytes_at, manifest_at, object_of}
use Rattle.std.proofs.Common.{codes}

-- the object that the bytes at its path are
pub manifest_read : (files : Option Files) (folder : List ℕ) (path bytes : Option (List ℕ)) (found : Option Data)
    → path ≡ join_of folder (codes "package.json") → IfSome files (λ m. bytes ≡ bytes_at m path)
    → found ≡ option_and_then object_of (option_and_then json_of bytes) → IfSome files (λ m. found ≡ manifest_at m folder)
unfolding manifest_at
manifest_read None folder path bytes found named told made = tt
manifest_read (Some m) folder path bytes found named told made =
    made ∙ ap (λ (b : Option (List ℕ)). option_and_then object_of (option_and_then json_of b)) (told ∙ ap (bytes_at m) named)
