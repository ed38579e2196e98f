-- What the `exports` of a package give for a path inside it (the Node.js manual, "Modules: Packages", "Package entry points",
-- and the functions PACKAGE_EXPORTS_RESOLVE and PACKAGE_TARGET_RESOLVE of "Modules: ECMAScript modules").
use Rattle.std.specs.Prelude.{ℕ, ◌-◌, Bool, true, false, not, List, [], ◌∷◌, length, take, drop, ◌&&◌, ◌||◌, ◌==◌, nat_eq, nat_lt, Option, Some, None, if◌then◌else◌, codes}
use Rattle.std.specs.List.{starts_with, ends_with, slice_split, join_by}
use Rattle.std.specs.Option.{option_and_then, option_map, option_or, unwrap_or}
use Rattle.std.specs.Str.{bytes_eq}
use Rattle.std.specs.Ordering.{nat_cmp, match_ordering}
use Rattle.std.specs.Cmp.Lexicographic.{slice_cmp}
use Rattle.serde_json.specs.Data.{Data, null, boolean, number, string, array, object, Items, no_items, item, Members, no_members, member}
use Rattle.serde_json.specs.Find.{as_object, get}
use Rattle.jam_base.specs.Path.{parts}
use Rattle.node_resolve.specs.Shapes.{is_among}
use Rattle.node_resolve.specs.Manifests.{not_empty}
use Rattle.node_resolve.specs.declared.pick.Pick.{Pick}
use Rattle.node_resolve.specs.declared.pick.Pick.TheVariants.{Path, Nothing, Refused}

-- ---- which member is for a path inside the package

-- what stands between the stars of a text
abbrev pub between_stars : List ℕ → List (List ℕ)
between_stars text = slice_split (λ b. b == 42) text

-- a text without this front, or without this end
abbrev pub without_front : List ℕ → List ℕ → Option (List ℕ)
without_front front text = if starts_with nat_eq text front then Some (drop (length front) text) else None

abbrev pub without_end : List ℕ → List ℕ → Option (List ℕ)
without_end end text = if ends_with nat_eq text end then Some (take (length text - length end) text) else None

-- what stands between a front and an end of a text, where that isn't empty
abbrev pub between : List ℕ → List ℕ → List ℕ → Option (List ℕ)
between front end text = option_and_then not_empty (option_and_then (without_end end) (without_front front text))

-- a member whose key is a pattern of a path: how many bytes stand before its `*`, how many bytes the key has, the member's value,
-- and what the `*` stands for
pub record Match : Type 0 where
  pub front : ℕ
  pub size : ℕ
  pub target : Data
  pub star : List ℕ

-- the member as a pattern of the path: its key has one `*`, and the path is the key with some text in place of it
abbrev pub match_with : List (List ℕ) → ℕ → Data → List ℕ → Option Match
match_with [] size d path = None
match_with (front ∷ []) size d path = None
match_with (front ∷ end ∷ []) size d path = option_map (λ star. record { front = length front; size = size; target = d; star = star }) (between front end path)
match_with (front ∷ end ∷ more ∷ others) size d path = None

unfoldable pub match_of : List ℕ → Data → List ℕ → Option Match
match_of key d path = match_with (between_stars key) (length key) d path

-- the first has the longer part before its `*`, or parts of one length and the longer key
abbrev pub is_better : Match → Match → Bool
is_better a b = nat_lt b.front a.front || (b.front == a.front && nat_lt b.size a.size)

abbrev pub better : Option Match → Option Match → Option Match
better None other = other
better (Some a) None = Some a
better (Some a) (Some b) = if is_better b a then Some b else Some a

-- the best of the members that are patterns of the path
unfoldable pub best_match : Members → List ℕ → Option Match
best_match no_members path = None
best_match (member key d ms) path = better (match_of key d path) (best_match ms path)

-- the text has a `*`
abbrev pub has_star : List ℕ → Bool
has_star text = nat_lt 1 (length (between_stars text))

-- the value of the member with this very key, where the key has no `*` and doesn't end with a slash; its target keeps its stars
unfoldable pub exact_member : Data → List ℕ → Option (Data × Option (List ℕ))
exact_member e path = if has_star path || ends_with nat_eq path (codes "/") then None else option_map (λ d. (d, None)) (get path e)

-- the value for a path among members whose keys are paths, and what a `*` in it stands for: the path's own, else that of the best pattern
unfoldable pub member_for : Members → Data → List ℕ → Option (Data × Option (List ℕ))
member_for ms e path = option_or (exact_member e path) (option_map (λ m. (m.target, Some m.star)) (best_match ms path))

-- exports without paths are for the package itself alone
abbrev pub whole_for : Data → List ℕ → Option (Data × Option (List ℕ))
whole_for e path = if bytes_eq path (codes ".") then Some (e, None) else None

-- a key begins with `.`: it is a path and no condition
abbrev pub is_path_key : List ℕ → Bool
is_path_key key = starts_with nat_eq key (codes ".")

abbrev pub all_paths : Members → Bool
all_paths no_members = true
all_paths (member key d ms) = is_path_key key && all_paths ms

abbrev pub no_paths : Members → Bool
no_paths no_members = true
no_paths (member key d ms) = not (is_path_key key) && no_paths ms

-- the value of the exports for a path inside the package, and what a `*` in it stands for; keys that are paths and keys that
-- are conditions don't go together
abbrev pub value_with : Option Members → Data → List ℕ → Option (Data × Option (List ℕ))
value_with None e path = whole_for e path
value_with (Some ms) e path = if all_paths ms then member_for ms e path else if no_paths ms then whole_for e path else None

unfoldable pub value_for : Data → List ℕ → Option (Data × Option (List ℕ))
value_for e path = value_with (as_object e) e path

-- ---- what a value gives

-- one of the parts is `.`, `..` or `node_modules`
abbrev pub has_odd_part : List (List ℕ) → Bool
has_odd_part [] = false
has_odd_part (part ∷ more) = is_among (codes "." ∷ codes ".." ∷ codes "node_modules" ∷ []) part || has_odd_part more

abbrev pub is_odd_star : Option (List ℕ) → Bool
is_odd_star None = false
is_odd_star (Some star) = has_odd_part (parts star)

-- the text with what the `*` stands for in place of each `*`
abbrev pub replaced : Option (List ℕ) → List ℕ → List ℕ
replaced None text = text
replaced (Some star) text = join_by (λ part. part) star (between_stars text)

-- a text is a path in the package, and leads neither out of it nor into packages inside it
unfoldable pub text_pick : Option (List ℕ) → List ℕ → Pick
text_pick star text =
    if not (starts_with nat_eq text (codes "./")) then Refused
    else if has_odd_part (drop 1 (parts text)) || is_odd_star star then Refused
    else Path (replaced star text)

-- what a condition gives decides, unless it is nothing
abbrev pub decided : Pick → Option Pick
decided Nothing = None
decided (Path text) = Some (Path text)
decided Refused = Some Refused

-- what the first condition gives that is there and decides
abbrev pub first_decided : List (Option Pick) → Pick
first_decided [] = Nothing
first_decided (pick ∷ picks) = unwrap_or (option_and_then decided pick) (first_decided picks)

abbrev pub path_in : Pick → Option (List ℕ)
path_in (Path text) = Some text
path_in Nothing = None
path_in Refused = None

abbrev pub is_refused : Pick → Bool
is_refused (Path text) = false
is_refused Nothing = false
is_refused Refused = true

-- the first path of some
abbrev pub first_path : List Pick → Option (List ℕ)
first_path [] = None
first_path (pick ∷ picks) = option_or (path_in pick) (first_path picks)

abbrev pub any_refused : List Pick → Bool
any_refused [] = false
any_refused (pick ∷ picks) = is_refused pick || any_refused picks

abbrev pub without_path : Bool → Pick
without_path refused = if refused then Refused else Nothing

abbrev pub path_or : Option (List ℕ) → Pick → Pick
path_or None other = other
path_or (Some text) other = Path text

-- the first path of some; without one it is refused where there is none at all or one is refused, and else nothing
abbrev pub list_pick : List Pick → Pick
list_pick picks = path_or (first_path picks) (without_path (length picks == 0 || any_refused picks))

-- the conditions that hold for a require, in the order in which they are tried
abbrev pub conditions : List (List ℕ)
conditions = codes "node" ∷ codes "require" ∷ codes "default" ∷ []

-- what a value gives, with what the `*` stands for: a text a path; an object what the first of its members `node`, `require` and
-- `default` gives that is there and doesn't give nothing; an array what its first item gives that gives a path
unfoldable mutual
  pub pick_of : Option (List ℕ) → Data → Pick
  pick_of star null = Refused
  pick_of star (boolean b) = Refused
  pick_of star (number n) = Refused
  pick_of star (string text) = text_pick star text
  pick_of star (array ds) = list_pick (item_picks star ds)
  pick_of star (object ms) =
      first_decided (member_pick star (codes "node") ms ∷ member_pick star (codes "require") ms ∷ member_pick star (codes "default") ms ∷ [])

  pub item_picks : Option (List ℕ) → Items → List Pick
  item_picks star no_items = []
  item_picks star (item d ds) = pick_of star d ∷ item_picks star ds

  pub member_pick : Option (List ℕ) → List ℕ → Members → Option Pick
  member_pick star name no_members = None
  member_pick star name (member key d ms) = match_ordering (slice_cmp nat_cmp name key) (member_pick star name ms) (Some (pick_of star d)) (member_pick star name ms)

-- what a member of a value gives, where it is there and decides
abbrev pub condition_pick : Option (List ℕ) → Data → List ℕ → Option Pick
condition_pick star d name = option_and_then decided (option_map (pick_of star) (get name d))

-- what the first of these members of a value gives that is there and decides
abbrev pub conditions_pick : Option (List ℕ) → Data → List (List ℕ) → Pick
conditions_pick star d [] = Nothing
conditions_pick star d (name ∷ names) = unwrap_or (condition_pick star d name) (conditions_pick star d names)

-- what the exports give for a path inside the package; where they have no value for it, they refuse it
abbrev pub pick_for : Option (Data × Option (List ℕ)) → Pick
pick_for None = Refused
pick_for (Some value) = pick_of value.1 value.0

unfoldable pub export_pick : Data → List ℕ → Pick
export_pick e path = pick_for (value_for e path)
