-- How large loaded modules are together, and that one application has one size.
use Rattle.std.proofs.Common.{◌≡◌, ℕ, ◌+◌, ◌<◌, ◌≤◌, List, [], ◌∷◌, length, map, refl, ap, sym, subst, ◌∙◌, arith, sum_by, inl, inr, Bool, true, false, Option, Result, Ok, Err}
use Rattle.std.specs.Prelude.{All, Contains, IfSome, IfOk}
use Rattle.std.specs.Result.{IfErr, IsErrAnd}
use Rattle.std.specs.Cmp.Lexicographic.{nat_list_cmp_total}
use Rattle.std.proofs.lemmas.List.Elements.{All-head, All-tail}
use Rattle.std.proofs.lemmas.List.Sums.{sum_by-cons}
use Rattle.std.proofs.lemmas.Option.{same_Some}
use Rattle.jam_base.specs.Files.{Files}
use Rattle.flow_rules.specs.Constraints.{ModuleConstraints}
use Rattle.composer.specs.declared.application.Part.{Part}
use Rattle.composer.specs.Parts.{lists_of}
use Rattle.composer.specs.Sizes.{made_size, module_size, size_limit, size_of}
use Rattle.composer.proofs.OneList.{one_list}
use Rattle.jam_app.specs.declared.answers.refusal.Refusal.{Refusal}
use Rattle.jam_app.specs.declared.answers.refusal.Refusal.TheVariants as refusal
use Rattle.jam_app.specs.declared.answers.stop.Stop.{Stop}
use Rattle.jam_app.specs.declared.answers.stop.Stop.TheVariants.{ReadFault, OutOfMemory, Refused}
use Rattle.jam_app.specs.declared.loading.loaded.Loaded.{Loaded}
use Rattle.jam_app.specs.Entries.{Start}
use Rattle.jam_app.specs.Graphs.{constraints_all}
use Rattle.jam_app.specs.Loading.{IsAnalysed, IsKept, IsWhole, loaded_size, module_of, part_of}
use Rattle.jam_app.specs.Refusals.{IsTooWide}
use Rattle.jam_app.specs.Rounds.{IsApplication, IsModuleOf, IsTreeOf, LoadedModule, text_at}
use Rattle.jam_app.specs.Texts.{IsBad}
use Rattle.jam_app.specs.Stops.{CountsFaults, KeepsCount, Refuses, StopsWide}
use Rattle.jam_app.proofs.TreeLemmas.{one_tree}
use Rattle.jam_app.proofs.WholeGraph.{constraints_same}

-- the parts of loaded modules say what their summaries say
pub parts_lists : (loaded : List Loaded) → lists_of (map part_of loaded) ≡ map (λ (l : Loaded). l.summary.lists) loaded
parts_lists [] = refl
parts_lists (l ∷ ls) = ap (λ xs. l.summary.lists ∷ xs) (parts_lists ls)

pub parts_paths : (loaded : List Loaded) → map (λ (p : Part). p.path) (map part_of loaded) ≡ map (λ (l : Loaded). l.path) loaded
parts_paths [] = refl
parts_paths (l ∷ ls) = ap (λ xs. l.path ∷ xs) (parts_paths ls)

-- a summary has the flows that its tree gives
flows_made : (l : Loaded) → IsAnalysed l → l.summary.made ≡ length l.summary.lists.flows
flows_made l a = a.summary.folds.made ∙ ap (λ (c : ModuleConstraints). length c.flows) (sym a.summary.whole)

-- so the size by the flows that texts give is that by the flows that summaries have
pub parts_size : (loaded : List Loaded) → All IsAnalysed loaded → made_size (map part_of loaded) ≡ loaded_size loaded
parts_size loaded all = ap (λ n. 100 + n) (sums loaded all)
  where
    made : Part → ℕ
    made p = module_size p.summary.made p.summary.lists

    had : ModuleConstraints → ℕ
    had c = module_size (length c.flows) c

    sums : (ls : List Loaded) → All IsAnalysed ls → sum_by made (map part_of ls) ≡ sum_by had (map (λ (l : Loaded). l.summary.lists) ls)
    sums [] h = refl
    sums (l ∷ ls) h =
        sum_by-cons made (part_of l) (map part_of ls)
        ∙ (λ i. module_size (flows_made l (All-head IsAnalysed l ls h) i) l.summary.lists + sums ls (All-tail IsAnalysed l ls h) i)
        ∙ sym (sum_by-cons had l.summary.lists (map (λ (x : Loaded). x.summary.lists) ls))

same_bool : (a b : Bool) → (a ≡ true → b ≡ true) → (b ≡ true → a ≡ true) → a ≡ b
same_bool true true f g = refl
same_bool true false f g = sym (f refl)
same_bool false true f g = g refl
same_bool false false f g = refl

-- an application has one list of modules, where each text has one tree
module _ (skip : Bool) (files : Files) where
  one_module : (l : Loaded) (m : LoadedModule) → m.path ≡ l.path → IsKept skip files l → IsModuleOf files (module_of l) → IsModuleOf files m → m ≡ module_of l
  one_module l m path kept here there = λ i. record { path = path i; text = text i; tree = tree i; skipped = skipped i }
    where
      text : m.text ≡ l.text
      text = there.text ∙ ap (text_at files) path ∙ sym here.text

      tree : m.tree ≡ l.tree
      tree = one_tree skip l.text l.tree l.skipped m.tree kept.tree (subst (λ t. IsTreeOf t m.tree) text there.tree)

      skipped : m.skipped ≡ l.skipped
      skipped = same_bool m.skipped l.skipped (λ t. here.skipped.1 (subst IsBad text (there.skipped.0 t))) (λ t. there.skipped.1 (subst IsBad (sym text) (here.skipped.0 t)))

  same_modules : (ls : List Loaded) (ms : List LoadedModule) → map (λ (m : LoadedModule). m.path) ms ≡ map (λ (m : LoadedModule). m.path) (map module_of ls)
      → All (IsKept skip files) ls → All (IsModuleOf files) (map module_of ls) → All (IsModuleOf files) ms → ms ≡ map module_of ls
  same_modules [] [] e k h t = refl
  same_modules [] (m ∷ ms) e k h t = absurd (cc)
  same_modules (l ∷ ls) [] e k h t = absurd (cc)
  same_modules (l ∷ ls) (m ∷ ms) e k h t =
      let first : m.path ≡ l.path = cc in
      let others : map (λ (x : LoadedModule). x.path) ms ≡ map (λ (x : LoadedModule). x.path) (map module_of ls) = cc in
      λ i. one_module l m first (All-head (IsKept skip files) l ls k) (All-head (IsModuleOf files) (module_of l) (map module_of ls) h) (All-head (IsModuleOf files) m ms t) i
      ∷ same_modules ls ms others (All-tail (IsKept skip files) l ls k) (All-tail (IsModuleOf files) (module_of l) (map module_of ls) h) (All-tail (IsModuleOf files) m ms t) i

  one_application : (entry : List ℕ) (ls : List Loaded) (ms : List LoadedModule) → All (IsKept skip files) ls → IsApplication files entry (map module_of ls) → IsApplication files entry ms → ms ≡ map module_of ls
  one_application entry ls ms kept a b =
      same_modules ls ms
      (one_list nat_list_cmp_total (map (λ (m : LoadedModule). m.path) ms) (map (λ (m : LoadedModule). m.path) (map module_of ls)) b.sorted a.sorted (λ p h. (a.loaded p).1 ((b.loaded p).0 h)) (λ p h. (b.loaded p).1 ((a.loaded p).0 h)))
      kept a.modules_are b.modules_are

module _ (start : Start) (files : Files) (entry : List ℕ) (ls : List Loaded) (whole : IsWhole start files entry ls) where
  -- the size of what is loaded is that of the application
  whole_size : size_of (constraints_all (map module_of ls)) ≡ loaded_size ls
  whole_size = ap size_of (sym (constraints_same start.skip files ls whole.kept))

  pub is_too_wide : size_limit ≤ loaded_size ls → IsTooWide start files (loaded_size ls)
  is_too_wide over = record {
    entry = entry;
    found = whole.found;
    unrefused = whole.unrefused;
    modules = map module_of ls;
    application = whole.application;
    size_is = λ others app. ap (λ ms. size_of (constraints_all ms)) (one_application start.skip files entry ls others whole.kept whole.application app) ∙ whole_size;
    over = over;
  }

  -- modules that aren't too wide have no such refusal
  pub not_too_wide : loaded_size ls < size_limit → (n : ℕ) → IsTooWide start files n → ⊥
  not_too_wide less n w =
      let same : entry ≡ w.entry = same_Some entry w.entry (sym whole.found ∙ w.found) in
      let size : size_of (constraints_all (map module_of ls)) ≡ n = w.size_is (map module_of ls) (subst (λ e. IsApplication files e (map module_of ls)) same whole.application) in
      omega (arith, less, w.over, size, whole_size)

keeps : (n count : ℕ) (stop : Stop) → Refuses (refusal.TooWide n) stop → KeepsCount count count stop
keeps n count ReadFault refuses = absurd refuses
keeps n count OutOfMemory refuses = refl
keeps n count (Refused answered line) refuses = refl

-- and it leaves the count of faults as it was
pub wide_counts : {X : Type 0} (n count : ℕ) (r : Result X Stop) → IfErr r (StopsWide n) → CountsFaults count count r
wide_counts n count (Ok x) wide = record { later = omega arith; done = refl; stopped = tt }
wide_counts n count (Err stop) (inl none) = record { later = omega arith; done = tt; stopped = subst (KeepsCount count count) (sym none) refl }
wide_counts n count (Err stop) (inr (over, refuses)) = record { later = omega arith; done = tt; stopped = keeps n count stop refuses }

-- a stop that is handed on
pub handed_wide : {X : Type 0} (n : ℕ) (stop : Stop) (r : Result X Stop) → IsErrAnd r (λ e. e ≡ stop) → StopsWide n stop → IfErr r (StopsWide n)
handed_wide n stop (Ok x) is wide = absurd is
handed_wide n stop (Err e) is wide = subst (StopsWide n) (sym is) wide
