-- Where the last `node_modules` of a path stands.
use Rattle.std.proofs.Common.{◌≡◌, ℕ, ◌+◌, Bool, true, false, List, ◌∷◌, drop, arith, ap, ◌∙◌, sym, codes, take, Bor}
use Rattle.std.specs.Prelude.{◌==◌, if◌then◌else◌}
use Rattle.std.specs.Str.{bytes_eq}
use Rattle.std.proofs.lemmas.Grind.{common_steps}
use Rattle.std.proofs.lemmas.List.{take-map}
use Rattle.jam_base.specs.Path.{parts, name_length, package_length}
use Rattle.jam_base.proofs.Joined.{texts}

-- how many parts a path's package has, where the parts in front give `seen` and `rest` parts come from `i` on
abbrev pub decided : ℕ → ℕ → ℕ → ℕ
decided i seen rest = if rest == 0 then seen else i + rest

turned : (i seen next name rest : ℕ) (here : Bool) → (here ≡ true → next ≡ i + 1 + name) → (here ≡ false → next ≡ seen)
    → decided i seen (if rest == 0 then (if here then 1 + name else 0) else 1 + rest) ≡ decided (i + 1) next rest
turned i seen next name rest true there not = grind (arith, common_steps)
turned i seen next name rest false there not = grind (arith, common_steps)

-- one more part
pub package_turn : (ps rest : List (List ℕ)) (part : List ℕ) (i seen next : ℕ) → drop i ps ≡ part ∷ rest → drop (i + 1) ps ≡ rest
    → (bytes_eq part (codes "node_modules") ≡ true → next ≡ i + 1 + name_length rest) → (bytes_eq part (codes "node_modules") ≡ false → next ≡ seen)
    → package_length ps ≡ decided i seen (package_length (drop i ps)) → package_length ps ≡ decided (i + 1) next (package_length (drop (i + 1) ps))
package_turn ps rest part i seen next here behind there not was =
    was ∙ ap (λ v. decided i seen (package_length v)) here ∙ turned i seen next (name_length rest) (package_length rest) _ there not
    ∙ ap (λ v. decided (i + 1) next (package_length v)) (sym behind)

-- the parts of a path, cut behind its package
pub package_parts : (p : List ℕ) (items seen cut left : List (Bor (List ℕ))) (n : ℕ) → texts items ≡ parts p → seen ≡ items → n ≡ package_length (texts seen)
    → cut ≡ take n items → left ≡ cut → texts left ≡ take (package_length (parts p)) (parts p)
package_parts p items seen cut left n all was size is same =
    ap texts (same ∙ is) ∙ sym (take-map (λ q. q.now) n items) ∙ ap (take n) all
    ∙ ap (λ (k : ℕ). take k (parts p)) (size ∙ ap (λ v. package_length (texts v)) was ∙ ap package_length all)
