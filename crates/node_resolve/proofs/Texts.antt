-- Texts cut and joined.
use Rattle.std.proofs.Common.{◌≡◌, ℕ, ◌-◌, Bor, true, false, List, [], ◌∷◌, ◌++◌, Option, Some, None, length, take, drop, map, refl, ap, sym, ◌∙◌, arith, MatchOption, ◌≤◌, subst}
use Rattle.std.specs.Prelude.{nat_eq}
use Rattle.std.specs.List.{join_by, starts_with, ends_with}
use Rattle.std.specs.Option.{option_map}
use Rattle.std.specs.Str.Pattern.{FindsTextPrefix, FindsTextSuffix, StripsPrefix, StripsSuffix}
use Rattle.std.proofs.lemmas.List.Folds.{flat_map-map}
use Rattle.std.proofs.lemmas.Str.Pattern.{starts_text, ends_text}
use Rattle.node_resolve.specs.Exports.{without_front, without_end}

-- references joined are the texts joined
pub joined_texts : (separator : List ℕ) (xs : List (Bor (List ℕ))) → join_by (λ (p : Bor (List ℕ)). p.now) separator xs ≡ join_by (λ (p : List ℕ). p) separator (map (λ (p : Bor (List ℕ)). p.now) xs)
joined_texts separator [] = refl
joined_texts separator (x ∷ xs) = ap (λ v. x.now ++ v) (sym (flat_map-map (λ (y : List ℕ). separator ++ y) (λ (p : Bor (List ℕ)). p.now) xs))

pub front_stripped : (front text : List ℕ) (r : Option (Bor (List ℕ)))
    → MatchOption r (FindsTextPrefix front text None) (λ x. StripsPrefix (FindsTextPrefix front) text x.now)
    → option_map (λ (t : Bor (List ℕ)). t.now) r ≡ without_front front text
front_stripped front text None lacks = rw (sym (starts_text false front text lacks)) refl
front_stripped front text (Some x) found =
    let match : FindsTextPrefix front text (Some (length front)) = (refl, subst (λ (k : ℕ). text ≡ front ++ drop k text) found.1.0 found.1.1, found.1.2) in
    let begins : true ≡ starts_with nat_eq text front = starts_text true front text (length front, match, found.1.2) in
    rw (sym begins) (ap Some (found.2 ∙ ap (λ (k : ℕ). drop k text) found.1.0))

pub end_stripped : (end text : List ℕ) (r : Option (Bor (List ℕ)))
    → MatchOption r (FindsTextSuffix end text None) (λ x. StripsSuffix (FindsTextSuffix end) text x.now)
    → option_map (λ (t : Bor (List ℕ)). t.now) r ≡ without_end end text
end_stripped end text None lacks = rw (sym (ends_text false end text lacks)) refl
end_stripped end text (Some x) found =
    let match : FindsTextSuffix end text (Some (length end)) = (refl, subst (λ (k : ℕ). text ≡ take (length text - k) text ++ end) found.1.0 found.1.1, found.1.2) in
    let long : length end ≤ length text = omega (arith, found.3, found.1.0) in
    let ends : true ≡ ends_with nat_eq text end = ends_text true end text (length end, match, long, found.1.2) in
    rw (sym ends) (ap Some (found.2 ∙ ap (λ (k : ℕ). take (length text - k) text) found.1.0))
