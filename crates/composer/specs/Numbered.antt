-- Systems whose vertices have a property, and systems whose vertices and values are numbers.
use Rattle.std.specs.Prelude.{ℕ, ◌<◌, ◌≡◌, List, [], ◌∷◌, ◌++◌, length, map, flat_map, slice_index_or, All}
use Rattle.composer.specs.declared.system.Arrow.{Arrow}
use Rattle.composer.specs.declared.system.Callable.{Callable}
use Rattle.composer.specs.declared.system.CallSite.{CallSite}
use Rattle.composer.specs.declared.system.System.{System}

pub record IsSiteIn {V : Type 0} (P : V → Type 0) (s : CallSite V) : Type 0 where
  pub callee : P s.callee
  pub args : All P s.args
  pub more : P s.more
  pub recv : P s.recv
  pub res : P s.res

pub record IsCallableIn {V T : Type 0} (P : V → Type 0) (f : Callable V T) : Type 0 where
  pub literal : P f.literal
  pub params : All P f.params
  pub rest : P f.rest
  pub ret : P f.ret

abbrev pub IsArrowIn : {V : Type 0} → (V → Type 0) → Arrow V → Type 0
IsArrowIn P arrow = P arrow.from × P arrow.to

-- each vertex of the system has the property
pub record IsSystemIn {V T : Type 0} (P : V → Type 0) (a : System V T) : Type 0 where
  pub functions : All (IsCallableIn P) a.functions
  pub sites : All (IsSiteIn P) a.sites
  pub flows : All (IsArrowIn P) a.flows
  pub elem : P a.elem
  pub native_at : All P a.native_at

abbrev pub Below : ℕ → ℕ → Type 0
Below n v = v < n

-- each function is the value of its place, and the native is the value past them
pub record HasValues (a : System ℕ ℕ) : Type 0 where
  pub native : a.native ≡ length a.functions
  pub values : (k : ℕ) (f : Callable ℕ ℕ) → k < length a.functions → (slice_index_or a.functions k f).value ≡ k

-- a system with other vertices and values
abbrev pub map_arrow : {V W : Type 0} → (V → W) → Arrow V → Arrow W
map_arrow f x = record { from = f x.from; to = f x.to }

abbrev pub map_callable : {V W T S : Type 0} → (V → W) → (T → S) → Callable V T → Callable W S
map_callable f g x = record { value = g x.value; literal = f x.literal; params = map f x.params; rest = f x.rest; ret = f x.ret }

abbrev pub map_site : {V W : Type 0} → (V → W) → CallSite V → CallSite W
map_site f x = record { callee = f x.callee; args = map f x.args; more = f x.more; recv = f x.recv; res = f x.res }

abbrev pub map_system : {V W T S : Type 0} → (V → W) → (T → S) → System V T → System W S
map_system f g a = record {
  functions = map (map_callable f g) a.functions;
  sites = map (map_site f) a.sites;
  flows = map (map_arrow f) a.flows;
  elem = f a.elem;
  native = g a.native;
  native_at = map f a.native_at;
}

-- the vertices of a system, one after another
abbrev pub callable_vertices : {V T : Type 0} → Callable V T → List V
callable_vertices f = f.literal ∷ (f.params ++ f.rest ∷ f.ret ∷ [])

abbrev pub site_vertices : {V : Type 0} → CallSite V → List V
site_vertices s = s.callee ∷ (s.args ++ s.more ∷ s.recv ∷ s.res ∷ [])

abbrev pub arrow_vertices : {V : Type 0} → Arrow V → List V
arrow_vertices x = x.from ∷ x.to ∷ []

abbrev pub all_vertices : {V T : Type 0} → System V T → List V
all_vertices a = flat_map callable_vertices a.functions ++ flat_map site_vertices a.sites ++ flat_map arrow_vertices a.flows ++ a.elem ∷ a.native_at
