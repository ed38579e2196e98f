-- How far loading has come, from round to round.
use Rattle.std.proofs.Common.{◌≡◌, ℕ, List, [], ◌∷◌, ◌++◌, map, refl, ap, sym, subst, ◌∙◌, Bool, false, Option}
use Rattle.std.specs.Prelude.{◌↔◌, All, Contains, IsSome}
use Rattle.std.specs.List.{flat_map}
use Rattle.std.proofs.lemmas.List.Elements.{All-contains, All-cons, All-head, All-map, All-nil, All-tail}
use Rattle.jam_base.specs.Files.{Files}
use Rattle.flow_rules.specs.Flows.{requires_of}
use Rattle.node_resolve.specs.declared.target.Target.TheVariants as target
use Rattle.node_resolve.specs.Targets.{target_of}
use Rattle.composer.proofs.Members.{from_flat_map, from_map, into_flat_map, into_map, none}
use Rattle.js_tree.specs.declared.tree.Tree.{Tree}
use Rattle.js_tree.specs.Spells.{Spells}
use Rattle.jam_app.specs.declared.loading.loaded.Led.{Led}
use Rattle.jam_app.specs.declared.loading.loaded.Loaded.{Loaded}
use Rattle.jam_app.specs.declared.loading.source.Source.{Source}
use Rattle.jam_app.specs.Loading.{IsKept}
use Rattle.jam_app.specs.Reading.{file_at, file_of, led_from, source_of}
use Rattle.jam_app.specs.Rounds.{Ascend, IsNextRound, IsRequiredAmong, IsTreeOf, NoneBad, text_at}
use Rattle.jam_app.specs.Texts.{IsBad}
use Rattle.jam_app.proofs.Keeping.{path_of}
use Rattle.jam_app.proofs.TreeLemmas.{not_bad, one_tree, tree_is}

-- the modules of a round, in order: each is the one of the file at its path
pub record AreOf (m : Files) (modules : List Loaded) (round : List (List ℕ)) : Type 0 where
  pub paths : map path_of modules ≡ round
  pub texts : All (λ l. l.text ≡ text_at m l.path) modules

same_parts : {X : Type 0} (x y : X) (xs ys : List X) → x ∷ xs ≡ y ∷ ys → (x ≡ y) × (xs ≡ ys)
same_parts x y xs ys e = (cc, cc)

no_parts : {X : Type 0} (x : X) (xs : List X) → [] ≡ x ∷ xs → ⊥
no_parts x xs e = cc

pub whole_files : (m : Files) (sources : List Source) (round : List (List ℕ)) → map file_of sources ≡ map (file_at m) round → (map (λ s. s.path) sources ≡ round) × All (λ s. s.text ≡ text_at m s.path) sources
whole_files m [] [] e = (refl, All-nil (λ s. s.text ≡ text_at m s.path))
whole_files m [] (y ∷ ys) e = absurd (no_parts (file_at m y) (map (file_at m) ys) e)
whole_files m (x ∷ xs) [] e = absurd (no_parts (file_of x) (map file_of xs) (sym e))
whole_files m (x ∷ xs) (y ∷ ys) e =
    let parts = same_parts (file_of x) (file_at m y) (map file_of xs) (map (file_at m) ys) e in
    let more = whole_files m xs ys parts.1 in
    let path : x.path ≡ y = ap (λ (p : List ℕ × List ℕ). p.0) parts.0 in
    let text : x.text ≡ text_at m x.path = ap (λ (p : List ℕ × List ℕ). p.1) parts.0 ∙ ap (text_at m) (sym path) in
    ((λ i. path i ∷ more.0 i), All-cons (λ (s : Source). s.text ≡ text_at m s.path) x xs text more.1)

pub are_of : (m : Files) (modules : List Loaded) (sources : List Source) (round : List (List ℕ)) → map source_of modules ≡ sources → map file_of sources ≡ map (file_at m) round → AreOf m modules round
are_of m modules sources round are files =
    let parts = whole_files m (map source_of modules) round (ap (map file_of) are ∙ files) in
    record { paths = sym (map_map modules) ∙ parts.0; texts = from_map_all modules parts.1 }
  where
    map_map : (ls : List Loaded) → map (λ (s : Source). s.path) (map source_of ls) ≡ map path_of ls
    map_map [] = refl
    map_map (l ∷ ls) = ap (λ ps. l.path ∷ ps) (map_map ls)

    from_map_all : (ls : List Loaded) → All (λ (s : Source). s.text ≡ text_at m s.path) (map source_of ls) → All (λ (l : Loaded). l.text ≡ text_at m l.path) ls
    from_map_all [] h = All-nil (λ (l : Loaded). l.text ≡ text_at m l.path)
    from_map_all (l ∷ ls) h = All-cons (λ (l : Loaded). l.text ≡ text_at m l.path) l ls
        (All-head (λ (s : Source). s.text ≡ text_at m s.path) (source_of l) (map source_of ls) h)
        (from_map_all ls (All-tail (λ (s : Source). s.text ≡ text_at m s.path) (source_of l) (map source_of ls) h))

module _ (m : Files) (skip : Bool) (modules : List Loaded) (round paths : List (List ℕ)) (of : AreOf m modules round) (read : All (IsKept skip m) modules) (paths_are : paths ≡ flat_map led_from modules) where
  text_here : (l : Loaded) → Contains modules l → l.text ≡ text_at m l.path
  text_here l h = All-contains (λ (l : Loaded). l.text ≡ text_at m l.path) modules l of.texts h

  read_here : (l : Loaded) → Contains modules l → IsKept skip m l
  read_here l h = All-contains (IsKept skip m) modules l read h

  in_round : (l : Loaded) → Contains modules l → Contains round l.path
  in_round l h = subst (λ (ps : List (List ℕ)). Contains ps l.path) of.paths (into_map path_of modules l h)

  -- no module of the round is bad, where such modules aren't skipped
  pub round_none_bad : skip ≡ false → NoneBad m round
  round_none_bad unskipped = subst (NoneBad m) of.paths (All-map (λ (p : List ℕ). IsBad (text_at m p) → ⊥) path_of modules (both modules of.texts read))
    where
      both : (ls : List Loaded) → All (λ (l : Loaded). l.text ≡ text_at m l.path) ls → All (IsKept skip m) ls → All (λ (l : Loaded). IsBad (text_at m l.path) → ⊥) ls
      both [] b r = All-nil (λ (l : Loaded). IsBad (text_at m l.path) → ⊥)
      both (l ∷ ls) b r = All-cons (λ (l : Loaded). IsBad (text_at m l.path) → ⊥) l ls
          (λ h. not_bad skip l.text l.tree l.skipped (All-head (IsKept skip m) l ls r).tree unskipped (subst IsBad (sym (All-head (λ (l : Loaded). l.text ≡ text_at m l.path) l ls b)) h))
          (both ls (All-tail (λ (l : Loaded). l.text ≡ text_at m l.path) l ls b) (All-tail (IsKept skip m) l ls r))

  -- where a require leads is required
  leads_required : (path : List ℕ) → Contains paths path → IsRequiredAmong m round path
  leads_required path h =
      let found = from_flat_map led_from modules path (subst (λ (ps : List (List ℕ)). Contains ps path) paths_are h) in
      let l = found.0 in
      let led = from_map (λ (t : Led). t.path) l.targets.items path found.2 in
      let leads = ((read_here l found.1).targets led.0).0 led.1 in (
        l.path,
        in_round l found.1,
        record {
          tree = l.tree;
          tree_is = subst (λ (text : List ℕ). IsTreeOf text l.tree) (text_here l found.1) (tree_is skip l.text l.tree l.skipped (read_here l found.1).tree);
          require = leads.require;
          here = leads.here;
          target_is = leads.target_is ∙ ap (λ (p : List ℕ). target.Module p) led.2;
        },
      )

  -- what is required is where a require leads
  required_leads : (path : List ℕ) → IsRequiredAmong m round path → Contains paths path
  required_leads path (from, from_here, required) =
      let found = from_map path_of modules from (subst (λ (ps : List (List ℕ)). Contains ps from) (sym of.paths) from_here) in
      let l = found.0 in
      let is_tree : IsTreeOf l.text required.tree = subst (λ (text : List ℕ). IsTreeOf text required.tree) (ap (text_at m) (sym found.2) ∙ sym (text_here l found.1)) required.tree_is in
      let same = one_tree skip l.text l.tree l.skipped required.tree (read_here l found.1).tree is_tree in
      let led : Led = record { offset = required.require.offset; path = path } in
      let in_targets : Contains l.targets.items led = ((read_here l found.1).targets led).1 (record {
        require = required.require;
        here = subst (λ (t : Tree). Contains (requires_of t) required.require) same required.here;
        offset = refl;
        target_is = ap (λ (p : List ℕ). target_of m p required.require.spec) found.2 ∙ required.target_is;
      }) in
      subst (λ (ps : List (List ℕ)). Contains ps path) (sym paths_are) (into_flat_map led_from modules l path found.1 (into_map (λ (t : Led). t.path) l.targets.items led in_targets))

  -- the next round
  pub next_round : (before next : List (List ℕ)) (loaded : List ℕ → Option Loaded) → ((path : List ℕ) → IsSome (loaded path) ↔ Contains (before ++ round) path) → Ascend next
      → ((path : List ℕ) → Contains next path ↔ (Contains paths path × (IsSome (loaded path) → ⊥))) → IsNextRound m before round next
  next_round before next loaded loaded_is sorted here = record {
    sorted = sorted;
    here = λ path. (
      λ h. (let g = (here path).0 h in (leads_required path g.0, λ k. g.1 ((loaded_is path).1 k))),
      λ h. (here path).1 (required_leads path h.0, λ k. h.1 ((loaded_is path).0 k)),
    );
  }
