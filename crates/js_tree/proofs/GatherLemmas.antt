-- What holds of each node if it holds of its parts, and what is gathered.
use Rattle.std.proofs.Common.{◌≡◌, ℕ, zero, suc, ◌<◌, ◌≤◌, max, List, [], ◌∷◌, ◌++◌, map, refl, sym, ap, ◌∙◌, arith, Option, Some, None}
use Rattle.std.specs.List.{AllByRecursion, flat_map}
use Rattle.std.proofs.lemmas.Grind.{flat_map-append}
use Rattle.std.proofs.lemmas.List.Folds.{flat_map-map}
use Rattle.js_tree.specs.declared.node.Node.{Node as Given}
use Rattle.js_tree.specs.Spelling.{tallest_of}
use Rattle.js_tree.specs.Parts.{Node, node_of, parts, height, gathered}
use Rattle.js_tree.proofs.PartLemmas.{all_gathered, gathered_is, gathered_passed, highest, parts_below}

-- INDUCTION

module _ (P : Node → Type 0) (step : (n : Node) → AllByRecursion P (parts n) → P n) where
  all_below : (k : ℕ) → ((m : Node) → height m ≤ k → P m) → (ns : List Node) → highest ns ≤ k → AllByRecursion P ns
  all_below k each [] h = tt
  all_below k each (m ∷ ms) h = let p : height m ≤ k = omega (arith, h) in let q : highest ms ≤ k = omega (arith, h) in (each m p, all_below k each ms q)

  to_height : (k : ℕ) (n : Node) → height n ≤ k → P n
  to_height zero n h = let e = parts_below n in absurd (omega (arith, e, h))
  to_height (suc k) n h = let e = parts_below n in let p : highest (parts n) ≤ k = omega (arith, e, h) in step n (all_below k (λ m q. to_height k m q) (parts n) p)

  -- what holds of each node where it holds of its parts holds of all
  pub along_parts : (n : Node) → P n
  along_parts n = let h : height n ≤ height n = omega arith in to_height (height n) n h

-- WHAT IS GATHERED

pub each_both : {X : Type 0} (P : X → Type 0) (xs ys : List X) → AllByRecursion P xs → AllByRecursion P ys → AllByRecursion P (xs ++ ys)
each_both P [] ys a b = b
each_both P (x ∷ xs) ys a b = (a.0, each_both P xs ys a.1 b)

pub each_front : {X : Type 0} (P : X → Type 0) (xs ys : List X) → AllByRecursion P (xs ++ ys) → AllByRecursion P xs
each_front P [] ys a = tt
each_front P (x ∷ xs) ys a = (a.0, each_front P xs ys a.1)

pub each_back : {X : Type 0} (P : X → Type 0) (xs ys : List X) → AllByRecursion P (xs ++ ys) → AllByRecursion P ys
each_back P [] ys a = a
each_back P (x ∷ xs) ys a = each_back P xs ys a.1

-- what is made of each item that is gathered is what is gathered of what is made
module _ {C B D : Type 0} (f : B → List D) (own : Node → C → List B) (inside : Node → C → Option C) where
  abbrev made : Node → C → List D
  made n c = flat_map f (own n c)

  abbrev IsMade : Node → Type 0
  IsMade n = (c : C) → flat_map f (gathered own inside n c) ≡ gathered made inside n c

  all_made : (ns : List Node) (d : C) → AllByRecursion IsMade ns → flat_map f (all_gathered own inside ns d) ≡ all_gathered made inside ns d
  all_made [] d each = refl
  all_made (m ∷ ms) d each = flat_map-append f (gathered own inside m d) (all_gathered own inside ms d) ∙ (λ i. each.0 d i ++ all_made ms d each.1 i)

  made_by : (n : Node) (c : C) → AllByRecursion IsMade (parts n) → (o : Option C) → inside n c ≡ o → flat_map f (gathered own inside n c) ≡ gathered made inside n c
  made_by n c each None e = ap (flat_map f) (gathered_passed own inside n c e) ∙ sym (gathered_passed made inside n c e)
  made_by n c each (Some d) e =
      ap (flat_map f) (gathered_is own inside n c d e) ∙ flat_map-append f (own n c) (all_gathered own inside (parts n) d)
      ∙ ap (λ ys. flat_map f (own n c) ++ ys) (all_made (parts n) d each) ∙ sym (gathered_is made inside n c d e)

  pub gathered_made : (n : Node) (c : C) → flat_map f (gathered own inside n c) ≡ gathered made inside n c
  gathered_made = along_parts IsMade (λ n each c. made_by n c each (inside n c) refl)

-- A WALK THAT IS A RECURSION

-- how high the highest of some given nodes is
abbrev pub highest_given : List Given → ℕ
highest_given ps = tallest_of (λ p. height (node_of p)) ps

tallest-node : (ps : List Given) → highest_given ps ≡ highest (map node_of ps)
tallest-node [] = refl
tallest-node (p ∷ ps) = ap (max (height (node_of p))) (tallest-node ps)

-- parts are lower than their node
pub parts_lower : (n : Node) (ps : List Given) → map node_of ps ≡ parts n → highest_given ps < height n
parts_lower n ps same =
    let a = tallest-node ps in
    let b = ap highest same in
    let c = parts_below n in
    omega (arith, a, b, c)

-- what is gathered from a node whose parts are at hand
pub gathered_through : {C B : Type 0} (own : Node → C → List B) (inside : Node → C → Option C) (n : Node) (c d : C) (ps : List Given) → inside n c ≡ Some d → map node_of ps ≡ parts n
    → gathered own inside n c ≡ own n c ++ flat_map (λ p. gathered own inside (node_of p) d) ps
gathered_through own inside n c d ps through same =
    gathered_is own inside n c d through ∙ ap (λ xs. own n c ++ xs) (ap (λ ms. all_gathered own inside ms d) (sym same) ∙ flat_map-map (λ m. gathered own inside m d) node_of ps)
