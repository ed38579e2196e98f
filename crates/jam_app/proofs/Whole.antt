-- The beginning of loading, and its end.
use Rattle.std.proofs.Common.{◌≡◌, ℕ, suc, ◌+◌, ◌<◌, ◌≤◌, List, [], ◌∷◌, ◌++◌, length, map, refl, ap, sym, subst, ◌∙◌, arith, ⊎_elim, length-append, true≢false, Bool, Option, Some}
use Rattle.std.specs.Option.{is_some}
use Rattle.std.specs.Prelude.{All, Contains, IsSome}
use Rattle.std.specs.BTreeMap as tree
use Rattle.std.specs.BTreeMap.{BTreeMap, IsOrdered}
use Rattle.std.specs.Cmp.Lexicographic.{slice_cmp, nat_list_cmp_total}
use Rattle.std.specs.Map.{keys_of, lookup, values_of}
use Rattle.std.specs.Ordering.{nat_cmp}
use Rattle.std.proofs.lemmas.Bool.{cases_lt}
use Rattle.std.proofs.lemmas.List.{append_assoc}
use Rattle.std.proofs.lemmas.List.Elements.{All-contains, All-cons, All-head, All-map, All-nil, All-tail, All-weaker, Contains-append_left, Contains-append_right}
use Rattle.std.proofs.lemmas.Map.Lookups.{exact_bytes}
use Rattle.std.proofs.lemmas.Map.Views.{All-found, btree_map_contains_key_iff}
use Rattle.std.proofs.lemmas.Option.{none-some, same_Some}
use Rattle.jam_base.specs.Files.{Files}
use Rattle.composer.proofs.Members.{here, none}
use Rattle.jam_app.specs.declared.loading.loaded.Loaded.{Loaded}
use Rattle.jam_app.specs.declared.answers.refusal.Refusal.{Refusal}
use Rattle.jam_app.specs.declared.loading.rounds.Progress.{Progress}
use Rattle.jam_app.specs.Entries.{Start, entry_path}
use Rattle.jam_app.specs.Loading.{IsKept, IsWhole, module_of}
use Rattle.jam_app.specs.Loading.{IsAnalysed}
use Rattle.jam_app.specs.BetweenRounds.{HoldsAnalysed, Stands, found_at}
use Rattle.jam_app.specs.Refusals.{IsFirstBad, IsOneTooMany, IsReached, IsLoadRefusal, construct, no_entry, not_in_profile, too_large, too_many}
use Rattle.jam_app.specs.Rounds.{Ascend, Fits, IsModuleOf, IsRound, LoadedModule, text_at, total_bytes}
use Rattle.jam_app.specs.Texts.{IsBad}
use Rattle.jam_app.proofs.Keeping.{path_of}
use Rattle.jam_app.proofs.TreeLemmas.{module_is}
use Rattle.jam_app.proofs.RoundLemmas.{before_loaded, empty_after, loaded_before, round_within}
use Rattle.jam_app.proofs.Sizes.{total_append}
use Rattle.jam_app.proofs.Steps.{size_fits}

-- the entry alone stands first
pub stands_first : (m : Files) (start : Start) (entry : List ℕ) (progress : Progress) → entry_path start.entry m ≡ Some entry → progress.modules.entries ≡ [] → progress.size ≡ record { modules = 0; bytes = 0 }
    → Stands start m progress (entry ∷ [])
stands_first m start entry progress found empty size = record {
  entry = entry;
  found = found;
  number = 0;
  before = [];
  is_round = (refl, refl);
  none_bad = λ unskipped. All-nil (λ (p : List ℕ). IsBad (text_at m p) → ⊥);
  size = size;
  here = λ path. (λ h. absurd (true≢false (sym (sym (ap (is_held path) empty) ∙ h))), λ h. absurd (none path h));
  held = λ path l is. absurd (none-some l (sym (ap (held_in path) empty) ∙ is));
}
  where
    held_in : List ℕ → List (List ℕ × Loaded) → Option Loaded
    held_in path es = lookup (tree.is_at (slice_cmp nat_cmp path)) es

    is_held : List ℕ → List (List ℕ × Loaded) → Bool
    is_held path es = is_some (held_in path es)

pub prefix_fits : (m : Files) (all xs rest : List (List ℕ)) → all ≡ xs ++ rest → Fits m all → Fits m xs
prefix_fits m all xs rest parts fits =
    let long : length all ≡ length xs + length rest = ap length parts ∙ length-append xs rest in
    let total : total_bytes m all ≡ total_bytes m xs + total_bytes m rest = ap (total_bytes m) parts ∙ total_append m xs rest in
    record { modules = omega (arith, fits.modules); bytes = omega (arith, fits.bytes) }

analysed_all : (modules : BTreeMap (List ℕ) Loaded) → HoldsAnalysed modules → (es : List (List ℕ × Loaded)) → All (λ e. found_at modules e.0 ≡ Some e.1) es
    → (map path_of (values_of es) ≡ keys_of es) × All IsAnalysed (values_of es)
analysed_all modules held [] found = (refl, All-nil IsAnalysed)
analysed_all modules held (e ∷ es) found =
    let P : List ℕ × Loaded → Type 0 = λ e. found_at modules e.0 ≡ Some e.1 in
    let here = held e.0 e.1 (All-head P e es found) in
    let more = analysed_all modules held es (All-tail P e es found) in
    ((λ i. here.0 i ∷ more.0 i), All-cons IsAnalysed e.1 (values_of es) here.1 more.1)

length_values : (es : List (List ℕ × Loaded)) → length (values_of es) ≡ length es
length_values [] = refl
length_values (e ∷ es) = ap suc (length_values es)

module _ (modules : BTreeMap (List ℕ) Loaded) (listed : List Loaded) (held : HoldsAnalysed modules) (ordered : IsOrdered (slice_cmp nat_cmp) modules) (is : listed ≡ tree.values modules) where
  all : (map path_of (tree.values modules) ≡ tree.keys modules) × All IsAnalysed (tree.values modules)
  all = analysed_all modules held modules.entries (All-found nat_list_cmp_total modules ordered)

  -- loaded modules in the order of a map ascend
  pub listed_ascend : Ascend (map path_of listed)
  listed_ascend = subst (λ ls. Ascend (map path_of ls)) (sym is) (subst Ascend (sym all.0) ordered)

  -- and each has its tree and its constraints
  pub listed_analysed : All IsAnalysed listed
  listed_analysed = subst (All IsAnalysed) (sym is) all.1

  -- what is found is listed
  pub listed_has : (path : List ℕ) → IsSome (found_at modules path) → Contains (map path_of listed) path
  listed_has path found =
      subst (λ (ls : List Loaded). Contains (map path_of ls) path) (sym is) (subst (λ (ks : List (List ℕ)). Contains ks path) (sym all.0) ((btree_map_contains_key_iff nat_list_cmp_total exact_bytes modules path).0 found))

  pub listed_long : length listed ≡ tree.btree_map_len modules
  listed_long = ap length is ∙ length_values modules.entries

-- nothing is held at first
pub nothing_held : (modules : BTreeMap (List ℕ) Loaded) → modules.entries ≡ [] → HoldsAnalysed modules
nothing_held modules empty path l is = absurd (none-some l (sym (ap (λ (es : List (List ℕ × Loaded)). lookup (tree.is_at (slice_cmp nat_cmp path)) es) empty) ∙ is))

module _ (m : Files) (start : Start) (progress : Progress) (stands : Stands start m progress []) where
  -- a round that is reached stands among all modules
  reached_within : (before front : List (List ℕ)) (path : List ℕ) (behind : List (List ℕ)) → IsReached start m before front path behind → (rest : List (List ℕ)) × (stands.before ≡ before ++ (front ++ path ∷ behind) ++ rest)
  reached_within before front path behind reached =
      let same : reached.entry ≡ stands.entry = same_Some reached.entry stands.entry (sym reached.found ∙ stands.found) in
      let is_round : IsRound m stands.entry reached.number before (front ++ path ∷ behind) = subst (λ (e : List ℕ). IsRound m e reached.number before (front ++ path ∷ behind)) same reached.is_round in
      ⊎_elim
      (λ (within : reached.number < stands.number). round_within m stands.entry reached.number stands.number before (front ++ path ∷ behind) stands.before [] is_round stands.is_round within)
      (λ (after : stands.number ≤ reached.number). absurd (none path (subst (λ (ps : List (List ℕ)). Contains ps path)
      (empty_after m stands.entry stands.number reached.number stands.before before (front ++ path ∷ behind) stands.is_round is_round after)
      (Contains-append_right front (path ∷ behind) path (here path behind)))))
      (cases_lt reached.number stands.number)

  no_first_bad : (path : List ℕ) → IsFirstBad start m path → ⊥
  no_first_bad path first =
      let all = reached_within first.before first.front path first.behind first.reached in
      let inside : Contains stands.before path = subst (λ (ps : List (List ℕ)). Contains ps path) (sym all.1)
      (Contains-append_left (first.before ++ (first.front ++ path ∷ first.behind)) all.0 path (Contains-append_right first.before (first.front ++ path ∷ first.behind) path (Contains-append_right first.front (path ∷ first.behind) path (here path first.behind)))) in
      All-contains (λ (p : List ℕ). IsBad (text_at m p) → ⊥) stands.before path (stands.none_bad first.unskipped) inside first.bad

  no_excess : (earlier : List (List ℕ)) (path : List ℕ) → Fits m stands.before → IsOneTooMany start m earlier path → ⊥
  no_excess earlier path fits one =
      let all = reached_within one.before one.front path one.behind one.reached in
      let parts : stands.before ≡ (earlier ++ path ∷ []) ++ (one.behind ++ all.0) =
      all.1
      ∙ ap (λ xs. xs ++ all.0) (sym (append_assoc one.before one.front (path ∷ one.behind)) ∙ ap (λ xs. xs ++ path ∷ one.behind) (sym one.earlier_are) ∙ sym (append_assoc earlier (path ∷ []) one.behind))
      ∙ append_assoc (earlier ++ path ∷ []) one.behind all.0 in
      one.over (prefix_fits m stands.before (earlier ++ path ∷ []) (one.behind ++ all.0) parts fits)

  none_owed : Fits m stands.before → (owed : Refusal) → IsLoadRefusal start m owed → ⊥
  none_owed fits owed (no_entry no_path) = none-some stands.entry (sym no_path ∙ stands.found)
  none_owed fits owed (too_many earlier path one) = no_excess earlier path fits one
  none_owed fits owed (too_large path first over) = no_first_bad path first
  none_owed fits owed (construct path at what first within refused) = no_first_bad path first
  none_owed fits owed (not_in_profile path at first within refused) = no_first_bad path first

  held_all : (es : List (List ℕ × Loaded)) → All (λ e. found_at progress.modules e.0 ≡ Some e.1) es → (map path_of (values_of es) ≡ keys_of es) × All (λ l. (l.text ≡ text_at m l.path) × IsKept start.skip m l) (values_of es)
  held_all [] found = (refl, All-nil (λ (l : Loaded). (l.text ≡ text_at m l.path) × IsKept start.skip m l))
  held_all (e ∷ es) found =
      let P : List ℕ × Loaded → Type 0 = λ e. found_at progress.modules e.0 ≡ Some e.1 in
      let held = stands.held e.0 e.1 (All-head P e es found) in
      let more = held_all es (All-tail P e es found) in
      ((λ i. held.at i ∷ more.0 i), All-cons (λ (l : Loaded). (l.text ≡ text_at m l.path) × IsKept start.skip m l) e.1 (values_of es) (held.text, held.kept) more.1)

  map_map : (ls : List Loaded) → map (λ (x : LoadedModule). x.path) (map module_of ls) ≡ map path_of ls
  map_map [] = refl
  map_map (l ∷ ls) = ap (λ ps. l.path ∷ ps) (map_map ls)

  -- all rounds are loaded
  pub is_whole : (listed : List Loaded) → progress.size.modules ≤ 16384 → progress.size.bytes ≤ 67108864 → IsOrdered (slice_cmp nat_cmp) progress.modules → listed ≡ tree.values progress.modules → IsWhole start m stands.entry listed
  is_whole listed few room ordered listed_is =
      subst (IsWhole start m stands.entry) (sym listed_is) (
      let values = tree.values progress.modules in
      let all = held_all progress.modules.entries (All-found nat_list_cmp_total progress.modules ordered) in
      let paths : map (λ (x : LoadedModule). x.path) (map module_of values) ≡ tree.keys progress.modules = map_map values ∙ all.0 in
      record {
        found = stands.found;
        application = record {
          sorted = subst Ascend (sym paths) ordered;
          loaded = λ path. (
            λ h. before_loaded m stands.entry stands.number stands.before [] stands.is_round path ((stands.here path).0 ((btree_map_contains_key_iff nat_list_cmp_total exact_bytes progress.modules path).1 (subst (λ (ps : List (List ℕ)). Contains ps path) paths h))),
            λ h. subst (λ (ps : List (List ℕ)). Contains ps path) (sym paths) ((btree_map_contains_key_iff nat_list_cmp_total exact_bytes progress.modules path).0 ((stands.here path).1 (loaded_before m stands.entry stands.number stands.before stands.is_round path h))),
          );
          modules_are = All-map (IsModuleOf m) module_of values (All-weaker (λ (l : Loaded). (l.text ≡ text_at m l.path) × IsKept start.skip m l) (λ l. IsModuleOf m (module_of l))
              (λ l h. module_is m start.skip l h.0 h.1) values all.1);
        };
        kept = All-weaker (λ (l : Loaded). (l.text ≡ text_at m l.path) × IsKept start.skip m l) (IsKept start.skip m) (λ l h. h.1) values all.1;
        unrefused = none_owed (size_fits m progress.size stands.before stands.size few room);
      })

-- the same for the entry as it was found
pub whole_from : (m : Files) (start : Start) (progress : Progress) (entry : List ℕ) → Stands start m progress [] → entry_path start.entry m ≡ Some entry → (listed : List Loaded)
    → progress.size.modules ≤ 16384 → progress.size.bytes ≤ 67108864 → IsOrdered (slice_cmp nat_cmp) progress.modules → listed ≡ tree.values progress.modules → IsWhole start m entry listed
whole_from m start progress entry stands found listed few room ordered listed_is =
    let same : stands.entry ≡ entry = same_Some stands.entry entry (sym stands.found ∙ found) in
    subst (λ e. IsWhole start m e listed) same (is_whole m start progress stands listed few room ordered listed_is)
