-- One more end tried behind a path.
use Rattle.std.proofs.Common.{subst, ◌≡◌, true, false, List, ◌∷◌, ◌++◌, ℕ, Option, Some, None, codes, ap, sym, ◌∙◌}
use Rattle.std.specs.Option.{option_or, is_some, IfSome}
use Rattle.jam_base.specs.Files.{Files}
use Rattle.jam_base.specs.Path.{path_of}
use Rattle.node_resolve.specs.Finding.{file_at, first_file}

-- what is found with the first end, or else with those behind it, is what is found with all of them
one_more : (files : Option Files) (path end : List ℕ) (ends more all : List (List ℕ)) (found : Option (List ℕ)) → ends ≡ end ∷ more
    → IfSome files (λ m. found ≡ file_at m (path_of (codes "./" ++ path ++ end))) → IfSome files (λ m. first_file m path ends ≡ first_file m path all)
    → IfSome files (λ m. option_or found (first_file m path more) ≡ first_file m path all)
one_more None path end ends more all found front here was = tt
one_more (Some m) path end ends more all found front here was =
    ap (λ (f : Option (List ℕ)). option_or f (first_file m path more)) here ∙ ap (first_file m path) (sym front) ∙ was

abbrev Finds : Option Files → List ℕ → List ℕ → Option (List ℕ) → Type 0
Finds files path end found = IfSome files (λ m. found ≡ file_at m (path_of (codes "./" ++ path ++ end)))

-- a file that is found ends the search
pub found_here : (now files : Option Files) (path end : List ℕ) (ends more all : List (List ℕ)) (found : Option (List ℕ)) → is_some found ≡ true → now ≡ files → ends ≡ end ∷ more
    → Finds now path end found → IfSome files (λ m. first_file m path ends ≡ first_file m path all)
    → IfSome files (λ m. found ≡ first_file m path all)
found_here now files path end ends more all (Some file) is same front here was =
    one_more files path end ends more all (Some file) front (subst (λ (fs : Option Files). Finds fs path end (Some file)) same here) was
found_here now files path end ends more all None is same front here was = cc

-- without one it goes on
pub not_here : (now files : Option Files) (path end : List ℕ) (ends more all : List (List ℕ)) (found : Option (List ℕ)) → is_some found ≡ false → now ≡ files → ends ≡ end ∷ more
    → Finds now path end found → IfSome files (λ m. first_file m path ends ≡ first_file m path all)
    → IfSome files (λ m. first_file m path more ≡ first_file m path all)
not_here now files path end ends more all None is same front here was =
    one_more files path end ends more all None front (subst (λ (fs : Option Files). Finds fs path end None) same here) was
not_here now files path end ends more all (Some file) is same front here was = cc
