-- What the text of a require is by its characters alone (the Node.js manual, "Modules: CommonJS modules").
use Rattle.std.specs.Prelude.{ℕ, Bool, false, not, List, [], ◌∷◌, length, take, drop, ◌==◌, ◌&&◌, ◌||◌, nat_eq, nat_le, codes}
use Rattle.std.specs.List.{starts_with, ends_with, after_last, join_by}
use Rattle.std.specs.Str.{bytes_eq}
use Rattle.jam_base.specs.Path.{parts, is_stay, is_up, name_length}

-- the text is `.` or `..`, or begins `./` or `../`
abbrev pub is_relative : List ℕ → Bool
is_relative text = bytes_eq text (codes ".") || bytes_eq text (codes "..") || starts_with nat_eq text (codes "./") || starts_with nat_eq text (codes "../")

-- the last part of a text: what stands behind its last slash
abbrev pub last_part : List ℕ → List ℕ
last_part text = after_last (λ b. b == 47) text

-- the text ends with a slash, or its last part is `.` or `..`
abbrev pub is_directory_like : List ℕ → Bool
is_directory_like text = is_stay (last_part text) || is_up (last_part text)

-- a text that no folder of packages is searched for: the empty one, one that begins `/`, and one that begins `#`, which is a
-- name inside a package (the Node.js manual, "Subpath imports")
abbrev pub is_unsearched : List ℕ → Bool
is_unsearched text = bytes_eq text [] || starts_with nat_eq text (codes "/") || starts_with nat_eq text (codes "#")

-- a file that is no code: its path ends `.json` or `.node`
abbrev pub is_no_code : List ℕ → Bool
is_no_code path = ends_with nat_eq path (codes ".json") || ends_with nat_eq path (codes ".node")

-- the text is one of these names
abbrev pub is_among : List (List ℕ) → List ℕ → Bool
is_among [] text = false
is_among (name ∷ names) text = bytes_eq name text || is_among names text

-- the modules that Node itself has (the Node.js manual, "Modules: CommonJS modules", on built-in modules)
unfoldable pub core_names : List (List ℕ)
core_names =
    codes "assert" ∷ codes "assert/strict" ∷ codes "async_hooks" ∷ codes "buffer" ∷ codes "child_process" ∷ codes "cluster"
    ∷ codes "console" ∷ codes "constants" ∷ codes "crypto" ∷ codes "dgram" ∷ codes "diagnostics_channel" ∷ codes "dns"
    ∷ codes "dns/promises" ∷ codes "domain" ∷ codes "events" ∷ codes "fs" ∷ codes "fs/promises" ∷ codes "http" ∷ codes "http2"
    ∷ codes "https" ∷ codes "inspector" ∷ codes "module" ∷ codes "net" ∷ codes "os" ∷ codes "path" ∷ codes "path/posix"
    ∷ codes "path/win32" ∷ codes "perf_hooks" ∷ codes "process" ∷ codes "punycode" ∷ codes "querystring" ∷ codes "readline"
    ∷ codes "readline/promises" ∷ codes "repl" ∷ codes "stream" ∷ codes "stream/consumers" ∷ codes "stream/promises"
    ∷ codes "stream/web" ∷ codes "string_decoder" ∷ codes "sys" ∷ codes "timers" ∷ codes "timers/promises" ∷ codes "tls"
    ∷ codes "trace_events" ∷ codes "tty" ∷ codes "url" ∷ codes "util" ∷ codes "util/types" ∷ codes "v8" ∷ codes "vm"
    ∷ codes "wasi" ∷ codes "worker_threads" ∷ codes "zlib" ∷ []

-- a module that Node itself has: one of these names, or any that begins `node:`
abbrev pub is_core : List ℕ → Bool
is_core text = is_among core_names text || starts_with nat_eq text (codes "node:")

-- ---- bare texts: a package's name and what stands behind it

-- the parts of a bare text that are the name of a package: the first, or the first two where it begins with `@`
abbrev pub name_parts : List ℕ → List (List ℕ)
name_parts text = take (name_length (parts text)) (parts text)

-- the name of the package: its parts with a slash between them
abbrev pub package_name : List ℕ → List ℕ
package_name text = join_by (λ part. part) (codes "/") (name_parts text)

-- the path inside the package: `.` and what stands behind the name
abbrev pub subpath : List ℕ → List ℕ
subpath text = join_by (λ part. part) (codes "/") (codes "." ∷ drop (name_length (parts text)) (parts text))

-- one of the texts is empty
abbrev pub has_empty : List (List ℕ) → Bool
has_empty names = is_among names []

-- the name can be that of a package: all its parts are there, none is empty, and it doesn't begin with `.`
abbrev pub has_valid_name : List ℕ → Bool
has_valid_name text =
    nat_le (name_length (parts text)) (length (parts text)) && not (has_empty (name_parts text)) && not (starts_with nat_eq (package_name text) (codes "."))

-- a bare text, with the name of its package, the path inside it, and whether the name can be that of a package
pub record Bare : Type 0 where
  pub text : List ℕ
  pub name : List ℕ
  pub subpath : List ℕ
  pub is_valid : Bool

unfoldable pub bare_of : List ℕ → Bare
bare_of text = record { text = text; name = package_name text; subpath = subpath text; is_valid = has_valid_name text }
