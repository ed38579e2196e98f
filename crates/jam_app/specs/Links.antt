-- Links from requires to loaded modules.
use Rattle.std.specs.Prelude.{◌≡◌, ◌<◌, ◌⊎◌, ℕ, List, [], ◌∷◌, ◌++◌, All, Contains, slice_get, Some}
use Rattle.flow_rules.specs.Constraints.{ModuleConstraints}
use Rattle.composer.specs.Parts.{AreLinks}
use Rattle.jam_app.specs.Loading.{AreLed}
use Rattle.composer.specs.declared.application.Link.{Link}
use Rattle.jam_app.specs.declared.loading.loaded.Led.{Led}
use Rattle.jam_app.specs.declared.loading.loaded.Loaded.{Loaded}

-- some are added to a list: those that P holds of
pub record Adds {X : Type 0} (P : X → Type 0) (old new : List X) : Type 0 where
  pub found : (x : X) → Contains new x → Contains old x ⊎ P x
  pub kept : (x : X) → Contains old x → Contains new x
  pub all : (x : X) → P x → Contains new x

-- a loaded module with the path stands at a place
pub record StandsAt (loaded : List Loaded) (place : ℕ) (path : List ℕ) : Type 0 where
  pub one : Loaded
  pub here : slice_get loaded place ≡ Some one
  pub path_is : one.path ≡ path

-- the link of a require of module m that leads to a loaded module
pub record LinksOf (loaded : List Loaded) (m : ℕ) (led : Led) (link : Link) : Type 0 where
  pub from : link.module ≡ m
  pub offset : link.offset ≡ led.offset
  pub to : StandsAt loaded link.target led.path

-- a link of one of the requires
pub record LinksAmong (loaded : List Loaded) (m : ℕ) (targets : List Led) (link : Link) : Type 0 where
  pub led : Led
  pub here : Contains targets led
  pub links : LinksOf loaded m led link

-- a link of a module whose place is below m
pub record LinksBelow (loaded : List Loaded) (m : ℕ) (link : Link) : Type 0 where
  pub below : link.module < m
  pub from : Loaded
  pub here : slice_get loaded link.module ≡ Some from
  pub links : LinksAmong loaded link.module from.targets.items link

-- the requires of the module at place m lead there
pub record LeadFrom (loaded : List Loaded) (m : ℕ) (targets : List Led) : Type 0 where
  pub from : Loaded
  pub here : slice_get loaded m ≡ Some from
  pub led : AreLed from.summary.lists.requires_ targets

-- the link is of a module before place m, or of module m and one of these requires
abbrev pub IsUpTo : ℕ → List Led → Link → Type 0
IsUpTo m targets link = (link.module < m) ⊎ ((link.module ≡ m) × (led : Led) × Contains targets led × (led.offset ≡ link.offset))

-- the links ascend and name their requires, and each is of a module before place m, or of module m and one of these requires
pub record AreUpTo (modules : List ModuleConstraints) (m : ℕ) (targets : List Led) (links : List Link) : Type 0 where
  pub are : AreLinks modules links
  pub up_to : All (IsUpTo m targets) links

-- a link of module m at the offset to one of n modules was added, or none
pub data MayAdd (n m offset : ℕ) (old : List Link) : List Link → Type 0 where
  none : MayAdd n m offset old old
  one : (target : ℕ) → target < n → MayAdd n m offset old (old ++ record { «module» = m; offset = offset; target = target } ∷ [])
