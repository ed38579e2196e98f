-- The functions of the runtime that call what they are given.
use Rattle.std.specs.Prelude.{ℕ, List, [], ◌∷◌, codes}

-- the names of such functions of ECMAScript's globals and of Node.js's modules: a property or a global of such a name is native
unfoldable pub native_names : List (List ℕ)
native_names =
    codes "Promise" ∷ codes "addListener" ∷ codes "catch" ∷ codes "createServer" ∷ codes "every" ∷ codes "exec"
    ∷ codes "execFile" ∷ codes "filter" ∷ codes "finally" ∷ codes "find" ∷ codes "findIndex" ∷ codes "flatMap"
    ∷ codes "forEach" ∷ codes "map" ∷ codes "mkdir" ∷ codes "nextTick" ∷ codes "on" ∷ codes "once"
    ∷ codes "queueMicrotask" ∷ codes "readFile" ∷ codes "readdir" ∷ codes "reduce" ∷ codes "reduceRight"
    ∷ codes "replace" ∷ codes "request" ∷ codes "setImmediate" ∷ codes "setInterval" ∷ codes "setTimeout"
    ∷ codes "some" ∷ codes "sort" ∷ codes "stat" ∷ codes "then" ∷ codes "unlink" ∷ codes "writeFile" ∷ []
