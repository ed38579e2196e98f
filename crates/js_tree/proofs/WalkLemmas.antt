-- What is left to do on a walk.
use Rattle.std.proofs.Common.{◌≡◌, ℕ, ◌+◌, List, [], ◌∷◌, ◌++◌, map, sum, reverse, refl, sym, ap, ◌∙◌, append_assoc, append-nil, arith, subst, Option, Some, ◌<◌}
use Rattle.std.specs.List.{AllByRecursion, flat_map, sum_by}
use Rattle.std.proofs.lemmas.List.{reverse-append}
use Rattle.std.proofs.lemmas.List.Sums.{sum-map, sum_by-cons, sum_by_push}
use Rattle.std.proofs.lemmas.List.Folds.{flat_map-map}
use Rattle.js_tree.specs.Parts.{Node, parts, count, gathered, left_in}
use Rattle.js_tree.proofs.GatherLemmas.{each_both}
use Rattle.js_tree.proofs.PartLemmas.{map_again, all_gathered, gathered_is, count_is}

pub left_last : {X B : Type 0} (give : X → List B) (xs : List X) (x : X) → left_in give (xs ++ x ∷ []) ≡ give x ++ left_in give xs
left_last give [] x = sym (append-nil (give x))
left_last give (y ∷ xs) x = ap (λ zs. zs ++ give y) (left_last give xs x) ∙ append_assoc (give x) (left_in give xs) (give y)

-- what is put on top is done first
pub left_more : {X B : Type 0} (give : X → List B) (xs ys : List X) → left_in give (xs ++ reverse ys) ≡ flat_map give ys ++ left_in give xs
left_more give xs [] = ap (left_in give) (append-nil xs)
left_more give xs (y ∷ ys) =
    ap (λ zs. left_in give (xs ++ zs)) (reverse-append (y ∷ []) ys) ∙ ap (left_in give) (sym (append_assoc xs (reverse ys) (y ∷ [])))
    ∙ left_last give (xs ++ reverse ys) y ∙ ap (λ zs. give y ++ zs) (left_more give xs ys) ∙ sym (append_assoc (give y) (flat_map give ys) (left_in give xs))

-- a sum over what is put on top
pub sum_more : {X : Type 0} (f : X → ℕ) (xs ys : List X) → sum_by f (xs ++ reverse ys) ≡ sum_by f ys + sum_by f xs
sum_more f xs [] = let e = ap (sum_by f) (append-nil xs) in omega (arith, e)
sum_more f xs (y ∷ ys) =
    let e = ap (λ zs. sum_by f (xs ++ zs)) (reverse-append (y ∷ []) ys) ∙ ap (sum_by f) (sym (append_assoc xs (reverse ys) (y ∷ []))) ∙ sum_by_push f (xs ++ reverse ys) y in
    let r = sum_more f xs ys in
    let o = sum_by-cons f y ys in
    omega (arith, e, r, o)

pub sum_mapped : {X Y : Type 0} (f : Y → ℕ) (g : X → Y) (xs : List X) → sum_by f (map g xs) ≡ sum_by (λ x. f (g x)) xs
sum_mapped f g xs = sym (sum-map f (map g xs)) ∙ ap sum (sym (map_again f g xs)) ∙ sum-map (λ x. f (g x)) xs

-- a node is done and its parts are put on top
pub visited : {C B X Y : Type 0} (own : Node → C → List B) (inside : Node → C → Option C) (n : Node) (c d : C) (old new : List B) (give : X → List B) (before after : List X) (pend : Y → X) (node : Y → Node) (ys : List Y)
    → new ≡ old ++ own n c → inside n c ≡ Some d → map node ys ≡ parts n → after ≡ before ++ reverse (map pend ys) → flat_map give (map pend ys) ≡ flat_map (λ y. gathered own inside (node y) d) ys
    → new ++ left_in give after ≡ old ++ gathered own inside n c ++ left_in give before
visited own inside n c d old new give before after pend node ys gave through same put each =
    let all = all_gathered own inside (parts n) d in
    let rest = left_in give before in
    let inner : flat_map give (map pend ys) ≡ all = each ∙ sym (flat_map-map (λ m. gathered own inside m d) node ys) ∙ ap (λ ns. all_gathered own inside ns d) same in
    (λ i. gave i ++ left_in give (put i))
    ∙ ap (λ zs. (old ++ own n c) ++ zs) (left_more give before (map pend ys) ∙ ap (λ zs. zs ++ rest) inner)
    ∙ sym (append_assoc (old ++ own n c) all rest)
    ∙ ap (λ zs. zs ++ rest) (append_assoc old (own n c) all ∙ ap (λ zs. old ++ zs) (sym (gathered_is own inside n c d through)))

-- the parts are fewer nodes
pub fewer_left : {X Y : Type 0} (n : Node) (size : X → ℕ) (before after : List X) (pend : Y → X) (node : Y → Node) (ys : List Y)
    → map node ys ≡ parts n → after ≡ before ++ reverse (map pend ys) → sum_by size (map pend ys) ≡ sum_by (λ y. count (node y)) ys → sum_by size after < count n + sum_by size before
fewer_left n size before after pend node ys same put each =
    let a = ap (sum_by size) put ∙ sum_more size before (map pend ys) in
    let b = sum_mapped count node ys in
    let d = ap (sum_by count) same in
    let e = sum-map count (parts n) in
    let k = count_is n in
    omega (arith, a, b, d, e, k, each)

-- what each item has that is put on top, each has that is left to do
pub each_put : {X Y : Type 0} (P : X → Type 0) (pend : Y → X) (before : List X) (ys : List Y) → AllByRecursion P before → AllByRecursion (λ y. P (pend y)) ys → AllByRecursion P (before ++ reverse (map pend ys))
each_put P pend before [] a b = subst (AllByRecursion P) (sym (append-nil before)) a
each_put P pend before (y ∷ ys) a b =
    let zs = map pend ys in
    let e : reverse (pend y ∷ zs) ≡ reverse zs ++ pend y ∷ [] = reverse-append (pend y ∷ []) zs in
    subst (AllByRecursion P) (append_assoc before (reverse zs) (pend y ∷ []) ∙ ap (λ us. before ++ us) (sym e)) (each_both P (before ++ reverse zs) (pend y ∷ []) (each_put P pend before ys a b.1) (b.0, tt))

pub each_seen : {X Y : Type 0} (P : X → Type 0) (f : Y → X) (ys : List Y) → AllByRecursion P (map f ys) → AllByRecursion (λ y. P (f y)) ys
each_seen P f [] a = tt
each_seen P f (y ∷ ys) a = (a.0, each_seen P f ys a.1)

-- what is added to nothing
pub from_nothing : {A B : Type 0} (f : A → B) (old new : List A) (xs : List B) → old ≡ [] → map f new ≡ map f old ++ xs → map f new ≡ xs
from_nothing f old new xs empty added = added ∙ ap (λ os. map f os ++ xs) empty

unmapped : {A : Type 0} (xs : List A) → map (λ x. x) xs ≡ xs
unmapped [] = refl
unmapped (x ∷ xs) = ap (λ ys. x ∷ ys) (unmapped xs)

-- the same of items that are seen as they are
pub items_from_nothing : {A : Type 0} (old new xs : List A) → old ≡ [] → map (λ x. x) new ≡ map (λ x. x) old ++ xs → new ≡ xs
items_from_nothing old new xs empty added = sym (unmapped new) ∙ from_nothing (λ x. x) old new xs empty added
