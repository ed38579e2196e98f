-- A walk over the folders above a module, over a folder that may tell nothing.
use Rattle.std.proofs.Common.{◌≡◌, Bool, true, false, List, [], ◌∷◌, ℕ, Option, Some, None, length, refl, ap, sym, subst, ◌∙◌}
use Rattle.std.specs.Prelude.{◌==◌}
use Rattle.std.specs.Option.{option_or, IfSome}
use Rattle.serde_json.specs.Data.{Data}
use Rattle.jam_base.specs.Files.{Files}
use Rattle.jam_base.specs.Path.{parent_of}
use Rattle.node_resolve.specs.Manifests.{manifest_at}
use Rattle.node_resolve.specs.Shapes.{Bare}
use Rattle.node_resolve.specs.Targets.{folder_above, installed_in, installed_target, is_modules, scope_of, scope_with, upward}
use Rattle.node_resolve.specs.declared.target.Target.{Target}
use Rattle.node_resolve.proofs.Folders.{upward_last, upward_more, upward_next, upward_root}

-- the folders from here on have what all of them have
abbrev pub ScopeLeft : Option Files → List ℕ → List ℕ → Type 0
ScopeLeft files at from = IfSome files (λ m. scope_of m (upward at) ≡ scope_of m (upward from))

-- what the first folder and those above it have
scope_step : (m : Files) (at : List ℕ) (above : List (List ℕ)) (found : Option Data) → is_modules at ≡ false → found ≡ manifest_at m at → scope_of m (at ∷ above) ≡ scope_with at found (scope_of m above)
unfolding scope_of
scope_step m at above found fails here = rw fails (ap (λ (o : Option Data). scope_with at o (scope_of m above)) (sym here))

scope_all : (m : Files) (at : List ℕ) (t : Bool) → (length at == 0) ≡ t → (above : List (List ℕ)) × (upward at ≡ at ∷ above)
scope_all m at true e = ([], upward_root at e)
scope_all m at false e = (upward (parent_of at), upward_more at e)

pub scope_closed : (files : Option Files) (at from : List ℕ) → is_modules at ≡ true → ScopeLeft files at from → IfSome files (λ m. None ≡ scope_of m (upward from))
unfolding scope_of
scope_closed None at from holds left = tt
scope_closed (Some m) at from holds left =
    let all = scope_all m at (length at == 0) refl in
    let none : scope_of m (at ∷ all.0) ≡ None = rw holds refl in
    sym (sym left ∙ ap (scope_of m) all.1 ∙ none)

pub scope_found : (now files : Option Files) (at from : List ℕ) (manifest : Data) (found : Option Data) → is_modules at ≡ false → now ≡ files → found ≡ Some manifest
    → IfSome now (λ m. found ≡ manifest_at m at) → ScopeLeft files at from → IfSome files (λ m. Some (at, manifest) ≡ scope_of m (upward from))
scope_found now None at from manifest found fails same is here left = tt
scope_found now (Some m) at from manifest found fails same is here left =
    let all = scope_all m at (length at == 0) refl in
    let told : found ≡ manifest_at m at = subst (λ (fs : Option Files). IfSome fs (λ k. found ≡ manifest_at k at)) same here in
    sym (sym left ∙ ap (scope_of m) all.1 ∙ scope_step m at all.0 (Some manifest) fails (sym is ∙ told))

pub scope_ended : (now files : Option Files) (at from : List ℕ) (found : Option Data) → is_modules at ≡ false → now ≡ files → found ≡ None → folder_above at ≡ None
    → IfSome now (λ m. found ≡ manifest_at m at) → ScopeLeft files at from → IfSome files (λ m. None ≡ scope_of m (upward from))
unfolding scope_of
scope_ended now None at from found fails same is root here left = tt
scope_ended now (Some m) at from found fails same is root here left =
    let told : found ≡ manifest_at m at = subst (λ (fs : Option Files). IfSome fs (λ k. found ≡ manifest_at k at)) same here in
    sym (sym left ∙ ap (scope_of m) (upward_last at root) ∙ scope_step m at [] None fails (sym is ∙ told))

pub scope_above : (now files : Option Files) (at from above : List ℕ) (found : Option Data) → is_modules at ≡ false → now ≡ files → found ≡ None → folder_above at ≡ Some above
    → IfSome now (λ m. found ≡ manifest_at m at) → ScopeLeft files at from → ScopeLeft files above from
scope_above now None at from above found fails same is up here left = tt
scope_above now (Some m) at from above found fails same is up here left =
    let told : found ≡ manifest_at m at = subst (λ (fs : Option Files). IfSome fs (λ k. found ≡ manifest_at k at)) same here in
    sym (ap (scope_of m) (upward_next at above up) ∙ scope_step m at (upward above) None fails (sym is ∙ told)) ∙ left

abbrev pub InstalledLeft : Option Files → Bare → List ℕ → List ℕ → Type 0
InstalledLeft files bare at from = IfSome files (λ m. installed_target m bare (upward at) ≡ installed_target m bare (upward from))

installed_step : (m : Files) (bare : Bare) (at : List ℕ) (above : List (List ℕ)) (found : Option Target) → found ≡ installed_in m bare at → installed_target m bare (at ∷ above) ≡ option_or found (installed_target m bare above)
unfolding installed_target
installed_step m bare at above found here = ap (λ (o : Option Target). option_or o (installed_target m bare above)) (sym here)

pub installed_found : (now files : Option Files) (bare : Bare) (at from : List ℕ) (target : Target) (found : Option Target) → now ≡ files → found ≡ Some target
    → IfSome now (λ m. found ≡ installed_in m bare at) → InstalledLeft files bare at from → IfSome files (λ m. Some target ≡ installed_target m bare (upward from))
installed_found now None bare at from target found same is here left = tt
installed_found now (Some m) bare at from target found same is here left =
    let all = scope_all m at (length at == 0) refl in
    let told : found ≡ installed_in m bare at = subst (λ (fs : Option Files). IfSome fs (λ k. found ≡ installed_in k bare at)) same here in
    sym (sym left ∙ ap (installed_target m bare) all.1 ∙ installed_step m bare at all.0 (Some target) (sym is ∙ told))

pub installed_ended : (now files : Option Files) (bare : Bare) (at from : List ℕ) (found : Option Target) → now ≡ files → found ≡ None → folder_above at ≡ None
    → IfSome now (λ m. found ≡ installed_in m bare at) → InstalledLeft files bare at from → IfSome files (λ m. None ≡ installed_target m bare (upward from))
unfolding installed_target
installed_ended now None bare at from found same is root here left = tt
installed_ended now (Some m) bare at from found same is root here left =
    let told : found ≡ installed_in m bare at = subst (λ (fs : Option Files). IfSome fs (λ k. found ≡ installed_in k bare at)) same here in
    sym (sym left ∙ ap (installed_target m bare) (upward_last at root) ∙ installed_step m bare at [] None (sym is ∙ told))

pub installed_above : (now files : Option Files) (bare : Bare) (at from above : List ℕ) (found : Option Target) → now ≡ files → found ≡ None → folder_above at ≡ Some above
    → IfSome now (λ m. found ≡ installed_in m bare at) → InstalledLeft files bare at from → InstalledLeft files bare above from
installed_above now None bare at from above found same is up here left = tt
installed_above now (Some m) bare at from above found same is up here left =
    let told : found ≡ installed_in m bare at = subst (λ (fs : Option Files). IfSome fs (λ k. found ≡ installed_in k bare at)) same here in
    sym (ap (installed_target m bare) (upward_next at above up) ∙ installed_step m bare at (upward above) None (sym is ∙ told)) ∙ left
