-- The modules of a round, before and after their requires are resolved.
use Rattle.std.proofs.Common.{◌≡◌, Bool, List, [], ◌∷◌, map, refl, sym, ap, subst, ◌∙◌, Result, Ok, Err}
use Rattle.std.specs.Prelude.{All, IfOk}
use Rattle.std.proofs.lemmas.List.Elements.{All-cons, All-head, All-nil, All-tail, All-weaker}
use Rattle.js_tree.specs.Spells.{SpellsSome}
use Rattle.jam_base.specs.Files.{Files}
use Rattle.jam_app.specs.declared.answers.stop.Stop.{Stop}
use Rattle.jam_app.specs.declared.loading.loaded.Loaded.{Loaded}
use Rattle.jam_app.specs.declared.loading.module.Parsed.{Parsed}
use Rattle.jam_app.specs.declared.loading.source.Source.{Source}
use Rattle.jam_app.specs.Loading.{IsKept}
use Rattle.jam_app.specs.Reading.{IsParsed, IsResolved, parsed_of, source_of}
use Rattle.jam_app.specs.Texts.{IsTheTree}
use Rattle.jam_app.proofs.PrintLemmas.{map_map}
use Rattle.jam_app.proofs.TreeLemmas.{spells_some}

pub all_spell : (skip : Bool) (parsed : List Parsed) → All (IsParsed skip) parsed → All (λ p. SpellsSome p.tree) parsed
all_spell skip parsed all = All-weaker (IsParsed skip) (λ p. SpellsSome p.tree) (λ p is. spells_some skip p.source.text p.tree p.skipped is) parsed all

-- a module is kept where its tree is the one that is worked with and its requires are resolved
kept : (skip : Bool) (m : Files) (l : Loaded) → IsParsed skip (parsed_of l) → IsResolved m l → IsKept skip m l
kept skip m l is resolved = record { tree = is; summary = resolved.summary; targets = resolved.targets; missing = resolved.missing }

parted : {X : Type 0} (x y : X) (xs ys : List X) → x ∷ xs ≡ y ∷ ys → (x ≡ y) × (xs ≡ ys)
parted x y xs ys e = (cc, cc)

nothing : {X : Type 0} (x : X) (xs : List X) → x ∷ xs ≡ [] → ⊥
nothing x xs e = cc

pub all_kept : (skip : Bool) (m : Files) (modules : List Loaded) (parsed : List Parsed) → map parsed_of modules ≡ parsed → All (IsParsed skip) parsed → All (IsResolved m) modules → All (IsKept skip m) modules
all_kept skip m [] parsed e are resolved = All-nil (IsKept skip m)
all_kept skip m (l ∷ ls) [] e are resolved = absurd (nothing (parsed_of l) (map parsed_of ls) e)
all_kept skip m (l ∷ ls) (p ∷ ps) e are resolved =
    let parts = parted (parsed_of l) p (map parsed_of ls) ps e in
    All-cons (IsKept skip m) l ls
    (kept skip m l (subst (IsParsed skip) (sym parts.0) (All-head (IsParsed skip) p ps are)) (All-head (IsResolved m) l ls resolved))
    (all_kept skip m ls ps parts.1 (All-tail (IsParsed skip) p ps are) (All-tail (IsResolved m) l ls resolved))

pub sources_same : (modules : List Loaded) (parsed : List Parsed) → map parsed_of modules ≡ parsed → map source_of modules ≡ map (λ (p : Parsed). p.source) parsed
sources_same modules parsed e = by modules ∙ ap (map (λ (p : Parsed). p.source)) e
  where
    by : (ls : List Loaded) → map source_of ls ≡ map (λ (p : Parsed). p.source) (map parsed_of ls)
    by [] = refl
    by (l ∷ ls) = ap (λ ss. source_of l ∷ ss) (by ls)

-- the paths of modules are those of their files
pub ok_paths : {X : Type 0} (modules : X → List Loaded) (r : Result X Stop) (parsed : List Parsed) (sources : List Source) → map (λ (p : Parsed). p.source) parsed ≡ sources
    → IfOk r (λ x. map (λ (l : Loaded). l.path) (modules x) ≡ map (λ (p : Parsed). p.source.path) parsed) → IfOk r (λ x. map (λ (l : Loaded). l.path) (modules x) ≡ map (λ (s : Source). s.path) sources)
ok_paths modules (Err stop) parsed sources e paths = tt
ok_paths modules (Ok x) parsed sources e paths = paths ∙ sym (map_map (λ (s : Source). s.path) (λ (p : Parsed). p.source) parsed) ∙ ap (map (λ (s : Source). s.path)) e
