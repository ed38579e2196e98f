-- What is printed of modules.
use Rattle.std.proofs.Common.{◌≡◌, ℕ, ◌+◌, ◌<◌, ◌≤◌, Bool, true, false, if◌then◌else◌, nat_le, List, [], ◌∷◌, ◌++◌, map, length, take, get_or, refl, sym, ap, ◌∙◌, arith, append_assoc}
use Rattle.std.specs.Prelude.{slice_get, Some, None}
use Rattle.std.specs.List.{HoldsAt}
use Rattle.std.specs.Ordering.{nat_cmp}
use Rattle.std.specs.declared.cmp.Ordering.TheVariants.{Equal}
use Rattle.composer.proofs.OrderLemmas.{both_equal, ranked_equal}
use Rattle.jam_base.specs.Edges.{edge_order}
use Rattle.report_text.specs.declared.shown.PathStep.{PathStep}
use Rattle.jam_base.specs.declared.edge.Edge.{Edge}
use Rattle.std.proofs.lemmas.Bool.Decides.{nat_tests}
use Rattle.js_tree.specs.Spells.{limit}
use Rattle.jam_app.specs.Graphs.{place_text}
use Rattle.jam_app.specs.Printing.{PrintedModule, call_in, edge_among, function_among}
use Rattle.std.proofs.lemmas.List.{take_more, map-append, get_or-map, length-map}

-- items at one place of lists that are seen alike are seen alike
pub same_item : {A B C : Type 0} (f : A → C) (g : B → C) (xs : List A) (ys : List B) (i : ℕ) (x : A) (y : B) → map f xs ≡ map g ys → i < length ys → f (get_or xs i x) ≡ g (get_or ys i y)
same_item f g xs ys i x y same lt =
    let long : length xs ≡ length ys = sym (length-map xs f) ∙ ap length same ∙ length-map ys g in
    sym (get_or-map f xs i x (f x) (omega (arith, long, lt))) ∙ ap (λ zs. get_or zs i (f x)) same ∙ get_or-map g ys i y (f x) lt

-- one more item of a list that is mapped behind another
pub more_mapped : {A B : Type 0} (f : A → B) (front : List B) (xs : List A) (i : ℕ) (d : A) (y : B) → i < length xs → y ≡ f (get_or xs i d)
    → (front ++ map f (take i xs)) ++ y ∷ [] ≡ front ++ map f (take (i + 1) xs)
more_mapped f front xs i d y lt is =
    let x = get_or xs i d in
    append_assoc front (map f (take i xs)) (y ∷ [])
    ∙ ap (λ z. front ++ (map f (take i xs) ++ (z ∷ []))) is
    ∙ ap (λ zs. front ++ zs) (sym (map-append f (take i xs) (x ∷ [])) ∙ ap (map f) (sym (take_more xs i d lt)))

pub map_map : {A B C : Type 0} (g : B → C) (f : A → B) (xs : List A) → map g (map f xs) ≡ map (λ x. g (f x)) xs
map_map g f [] = refl
map_map g f (x ∷ xs) = ap (λ ys. g (f x) ∷ ys) (map_map g f xs)

-- an edge whose caller is in a printed module
pub edge_at : (printed : List PrintedModule) (edge : Edge) (m : PrintedModule) → slice_get printed edge.caller.module ≡ Some m → edge_among printed edge ≡ call_in edge.offset (function_among printed edge.callee) m
edge_at printed edge m here = ap (λ o. elim o [
  | None ↦ record { path = []; line = 1; column = 1; callee = function_among printed edge.callee }
  | Some m ↦ call_in edge.offset (function_among printed edge.callee) m
]) here

-- the order tells edges apart
pub same_edge : (x y : Edge) → edge_order x y ≡ Equal → x ≡ y
same_edge x y e =
    let a = both_equal (nat_cmp x.caller.module y.caller.module) _ e in
    let b = both_equal (nat_cmp x.offset y.offset) _ a.1 in
    let c = both_equal (nat_cmp x.callee.module y.callee.module) _ b.1 in
    let d = both_equal (nat_cmp x.callee.function y.callee.function) (nat_cmp x.caller.function y.caller.function) c.1 in
    let m = ranked_equal x.caller.module y.caller.module a.0 in
    let o = ranked_equal x.offset y.offset b.0 in
    let n = ranked_equal x.callee.module y.callee.module c.0 in
    let f = ranked_equal x.callee.function y.callee.function d.0 in
    let g = ranked_equal x.caller.function y.caller.function d.1 in
    λ i. record { caller = record { «module» = m i; function = g i }; offset = o i; callee = record { «module» = n i; function = f i } }

-- an edge that is found among edges is printed as the one at its place
pub found_step : (printed : List PrintedModule) (edges : List Edge) (steps : List PathStep) (place : ℕ) (edge : Edge) (step : PathStep) → steps ≡ map (edge_among printed) edges → place < length edges
    → HoldsAt (λ (y : Edge). edge_order y edge ≡ Equal) edges place → step ≡ get_or steps place step → step ≡ edge_among printed edge
found_step printed edges steps place edge step steps_are lt holds is =
    is ∙ ap (λ (xs : List PathStep). get_or xs place step) steps_are ∙ get_or-map (edge_among printed) edges place edge step lt ∙ ap (edge_among printed) (same_edge (get_or edges place edge) edge (holds edge))

-- ---- the text by which places are told

over : (n m : ℕ) → m < n → nat_le n m ≡ false
over n m lt = grind (arith, nat_tests)

at_most : (n m : ℕ) → n ≤ m → nat_le n m ≡ true
at_most n m le = grind (arith, nat_tests)

pub text_of_large : (text : List ℕ) → limit < length text → [] ≡ place_text text
text_of_large text large = sym (ap (λ (b : Bool). if b then text else []) (over (length text) limit large))

pub text_of_small : (text : List ℕ) → length text ≤ limit → text ≡ place_text text
text_of_small text small = sym (ap (λ (b : Bool). if b then text else []) (at_most (length text) limit small))

small : (n m : ℕ) → nat_le n m ≡ true → n ≤ m
small n m le = grind (arith, nat_tests)

-- it is short
pub text_short : (text : List ℕ) → length (place_text text) < 4294967295
text_short text = by (nat_le (length text) limit) refl
  where
    by : (s : Bool) → nat_le (length text) limit ≡ s → length (if s then text else []) < 4294967295
    by true e = omega (arith, small (length text) limit e)
    by false e = omega arith
