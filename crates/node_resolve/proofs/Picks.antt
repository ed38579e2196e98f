-- What the values of `exports` give, level by level.
use Rattle.std.proofs.Common.{◌≡◌, Ordering, Less, Equal, Greater, ℕ, zero, suc, ◌+◌, ◌<◌, ◌≤◌, max, Bool, true, false, List, [], ◌∷◌, Option, Some, None, length, get_or, refl, ap, sym, ◌∙◌, arith, codes, Bor, drop, drop-cons, add-one}
use Rattle.std.proofs.lemmas.List.{drop_all}
use Rattle.std.specs.Prelude.{◌||◌, ◌==◌}
use Rattle.std.specs.Option.{option_map, unwrap_or, is_some}
use Rattle.std.specs.Ordering.{nat_cmp, match_ordering}
use Rattle.std.specs.Cmp.Lexicographic.{slice_cmp}
use Rattle.serde_json.specs.Data.{Data, null, boolean, number, string, array, object, Items, Members, no_members, member, depth, items_depth, members_depth}
use Rattle.serde_json.specs.Find.{as_array, as_object, as_str, get, get_member}
use Rattle.serde_json.specs.View.{items_view, view}
use Rattle.serde_json.specs.declared.value.Value.{Value}
use Rattle.node_resolve.specs.Exports.{any_refused, condition_pick, conditions, conditions_pick, first_path, is_refused, item_picks, list_pick, member_pick, path_in, path_or, pick_of, text_pick, without_path}
use Rattle.node_resolve.specs.declared.pick.Pick.{Pick}
use Rattle.node_resolve.specs.declared.pick.Pick.TheVariants.{Path, Nothing, Refused}

same_item : {A : Type 0} (x y : A) → Some x ≡ Some y → x ≡ y
same_item x y e = ap (λ o. unwrap_or o x) e

-- ---- one level

pub pick_text : (star : Option (List ℕ)) (d : Data) (text : List ℕ) → as_str d ≡ Some text → text_pick star text ≡ pick_of star d
unfolding pick_of
pick_text star null text e = cc
pick_text star (boolean b) text e = cc
pick_text star (number n) text e = cc
pick_text star (string s) text e = ap (text_pick star) (sym (same_item _ _ e))
pick_text star (array ds) text e = cc
pick_text star (object ms) text e = cc

pub pick_items : (star : Option (List ℕ)) (d : Data) (ds : Items) → as_array d ≡ Some ds → list_pick (item_picks star ds) ≡ pick_of star d
unfolding pick_of item_picks
pick_items star null ds e = cc
pick_items star (boolean b) ds e = cc
pick_items star (number n) ds e = cc
pick_items star (string s) ds e = cc
pick_items star (array xs) ds e = ap (λ v. list_pick (item_picks star v)) (sym (same_item _ _ e))
pick_items star (object ms) ds e = cc

by_order : (star : Option (List ℕ)) (o : Ordering) (d : Data) (pick : Option Pick) (found : Option Data) → pick ≡ option_map (pick_of star) found
    → match_ordering o pick (Some (pick_of star d)) pick ≡ option_map (pick_of star) (match_ordering o found (Some d) found)
by_order star Less d pick found e = e
by_order star Equal d pick found e = refl
by_order star Greater d pick found e = e

member_picked : (star : Option (List ℕ)) (name : List ℕ) (ms : Members) → member_pick star name ms ≡ option_map (pick_of star) (get_member name ms)
unfolding member_pick
member_picked star name no_members = refl
member_picked star name (member key d ms) = by_order star (slice_cmp nat_cmp name key) d _ _ (member_picked star name ms)

pub pick_object : (star : Option (List ℕ)) (d : Data) → is_some (as_object d) ≡ true
    → conditions_pick star d conditions ≡ pick_of star d
unfolding pick_of member_pick
pick_object star null e = cc
pick_object star (boolean b) e = cc
pick_object star (number n) e = cc
pick_object star (string s) e = cc
pick_object star (array ds) e = cc
pick_object star (object ms) e = rw (member_picked star (codes "node") ms, member_picked star (codes "require") ms, member_picked star (codes "default") ms) refl

pub pick_other : (star : Option (List ℕ)) (d : Data) → as_str d ≡ None → as_array d ≡ None → is_some (as_object d) ≡ false → Refused ≡ pick_of star d
unfolding pick_of
pick_other star null s a o = refl
pick_other star (boolean b) s a o = refl
pick_other star (number n) s a o = refl
pick_other star (string text) s a o = cc
pick_other star (array ds) s a o = cc
pick_other star (object ms) s a o = cc

-- ---- depths

lower_by : (o : Ordering) (d v : Data) (found : Option Data) (n : ℕ) → match_ordering o found (Some d) found ≡ Some v → (found ≡ Some v → depth v ≤ n) → depth v ≤ max (depth d) n
lower_by Less d v found n e h = omega (arith, h e)
lower_by Equal d v found n e h = omega (arith, ap depth (same_item _ _ e))
lower_by Greater d v found n e h = omega (arith, h e)

member_lower : (name : List ℕ) (ms : Members) (v : Data) → get_member name ms ≡ Some v → depth v ≤ members_depth ms
member_lower name no_members v e = cc
member_lower name (member key d ms) v e = lower_by (slice_cmp nat_cmp name key) d v (get_member name ms) (members_depth ms) e (member_lower name ms v)

-- a member is lower than its object
pub get_lower : (name : List ℕ) (d v : Data) → get name d ≡ Some v → depth v < depth d
get_lower name null v e = cc
get_lower name (boolean b) v e = cc
get_lower name (number n) v e = cc
get_lower name (string s) v e = cc
get_lower name (array ds) v e = cc
get_lower name (object ms) v e = omega (arith, member_lower name ms v e)

-- items are lower than their array
pub items_lower : (d : Data) (ds : Items) → as_array d ≡ Some ds → items_depth ds < depth d
items_lower null ds e = cc
items_lower (boolean b) ds e = cc
items_lower (number n) ds e = cc
items_lower (string s) ds e = cc
items_lower (array xs) ds e = omega (arith, ap items_depth (same_item _ _ e))
items_lower (object ms) ds e = cc

abbrev pub IsWithin : Value → List Value → Type 0
IsWithin x xs = depth (view x) ≤ items_depth (items_view xs)

pub item_lower : (xs : List Value) (i : ℕ) (x : Value) → i < length xs → IsWithin (get_or xs i x) xs
item_lower [] i x h = absurd (omega arith)
item_lower (y ∷ xs) zero x h = omega arith
item_lower (y ∷ xs) (suc i) x h = omega (arith, item_lower xs i x (omega arith))

-- ---- loops

abbrev pub star_of : Option (Bor (List ℕ)) → Option (List ℕ)
star_of star = option_map (λ (s : Bor (List ℕ)). s.now) star

-- what the picks that are left give, where one was refused before or none was
abbrev pub rest_pick : Bool → List Pick → Pick
rest_pick refused picks = path_or (first_path picks) (without_path (refused || any_refused picks))

-- a path is the answer
pub path_found : (refused : Bool) (pick : Pick) (picks : List Pick) (text : List ℕ) → path_in pick ≡ Some text → rest_pick refused (pick ∷ picks) ≡ Path text
path_found refused pick picks text e = rw e refl

-- without one the rest decides
pub path_later : (refused : Bool) (pick : Pick) (picks : List Pick) → path_in pick ≡ None → rest_pick refused (pick ∷ picks) ≡ rest_pick (refused || is_refused pick) picks
path_later refused (Path text) picks e = cc
path_later true Nothing picks e = refl
path_later false Nothing picks e = refl
path_later true Refused picks e = refl
path_later false Refused picks e = refl

-- the condition that decides is the answer
pub condition_found : (star : Option (List ℕ)) (d : Data) (all left rest : List (List ℕ)) (name : List ℕ) (found : Option Pick) (pick : Pick) → left ≡ name ∷ rest
    → conditions_pick star d all ≡ conditions_pick star d left → found ≡ condition_pick star d name → found ≡ Some pick → pick ≡ conditions_pick star d all
condition_found star d all left rest name found pick front was here is =
    sym (was ∙ ap (conditions_pick star d) front ∙ ap (λ (o : Option Pick). unwrap_or o (conditions_pick star d rest)) (sym here ∙ is))

-- without it the conditions behind it decide
pub condition_later : (star : Option (List ℕ)) (d : Data) (all left rest : List (List ℕ)) (name : List ℕ) (found : Option Pick) → left ≡ name ∷ rest
    → conditions_pick star d all ≡ conditions_pick star d left → found ≡ condition_pick star d name → found ≡ None → conditions_pick star d all ≡ conditions_pick star d rest
condition_later star d all left rest name found front was here is =
    was ∙ ap (conditions_pick star d) front ∙ ap (λ (o : Option Pick). unwrap_or o (conditions_pick star d rest)) (sym here ∙ is)

abbrev pub picks_in : Option (List ℕ) → List Value → List Pick
picks_in star xs = item_picks star (items_view xs)

next_item : (star : Option (List ℕ)) (xs : List Value) (i : ℕ) (x : Value) (pick : Pick) → i < length xs → x ≡ get_or xs i x → pick ≡ pick_of star (view x)
    → picks_in star (drop i xs) ≡ pick ∷ picks_in star (drop (i + 1) xs)
unfolding item_picks
next_item star xs i x pick h is gives =
    let front : drop i xs ≡ x ∷ drop (i + 1) xs = rw add-one (drop-cons xs i x h ∙ ap (λ (y : Value). y ∷ drop (suc i) xs) (sym is)) in
    ap (picks_in star) front ∙ ap (λ (p : Pick). p ∷ picks_in star (drop (i + 1) xs)) (sym gives)

-- an item that gives a path is the answer
pub item_found : (star : Option (List ℕ)) (xs : List Value) (i : ℕ) (x : Value) (refused : Bool) (pick : Pick) (text : List ℕ) → i < length xs → x ≡ get_or xs i x
    → list_pick (picks_in star xs) ≡ rest_pick refused (picks_in star (drop i xs)) → pick ≡ pick_of star (view x) → path_in pick ≡ Some text → Path text ≡ list_pick (picks_in star xs)
item_found star xs i x refused pick text h is was gives path =
    sym (was ∙ ap (rest_pick refused) (next_item star xs i x pick h is gives) ∙ path_found refused pick (picks_in star (drop (i + 1) xs)) text path)

-- without one the items behind it decide
pub item_later : (star : Option (List ℕ)) (xs : List Value) (i : ℕ) (x : Value) (refused after : Bool) (pick : Pick) → i < length xs → x ≡ get_or xs i x
    → list_pick (picks_in star xs) ≡ rest_pick refused (picks_in star (drop i xs)) → pick ≡ pick_of star (view x) → path_in pick ≡ None → after ≡ (refused || is_refused pick)
    → list_pick (picks_in star xs) ≡ rest_pick after (picks_in star (drop (i + 1) xs))
item_later star xs i x refused after pick h is was gives path then =
    was ∙ ap (rest_pick refused) (next_item star xs i x pick h is gives) ∙ path_later refused pick (picks_in star (drop (i + 1) xs)) path
    ∙ ap (λ (b : Bool). rest_pick b (picks_in star (drop (i + 1) xs))) (sym then)

counted : (star : Option (List ℕ)) (xs : List Value) → length (picks_in star xs) ≡ length xs
unfolding item_picks
counted star [] = refl
counted star (x ∷ xs) = ap suc (counted star xs)

pub items_begun : (star : Option (List ℕ)) (xs : List Value) (refused : Bool) → refused ≡ (length xs == 0) → list_pick (picks_in star xs) ≡ rest_pick refused (picks_in star (drop 0 xs))
items_begun star xs refused is =
    ap (λ (n : ℕ). path_or (first_path (picks_in star xs)) (without_path (n == 0 || any_refused (picks_in star xs)))) (counted star xs)
    ∙ ap (λ (b : Bool). rest_pick b (picks_in star xs)) (sym is)

no_more : (refused : Bool) → without_path refused ≡ without_path (refused || false)
no_more true = refl
no_more false = refl

pub items_ended : (star : Option (List ℕ)) (xs : List Value) (i : ℕ) (refused : Bool) → length xs ≤ i → list_pick (picks_in star xs) ≡ rest_pick refused (picks_in star (drop i xs))
    → without_path refused ≡ list_pick (picks_in star xs)
unfolding item_picks
items_ended star xs i refused h was =
    let none : drop i xs ≡ [] = drop_all i xs h in
    no_more refused ∙ sym (was ∙ ap (λ (ys : List Value). rest_pick refused (picks_in star ys)) none)
