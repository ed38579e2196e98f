-- The names that nodes declare, by the offsets of the tokens that first declare them.
use Rattle.std.proofs.Common.{◌≡◌, Bool, true, false, not, List, [], ◌∷◌, ◌++◌, map, ◌+◌, refl, sym, ap, cond, nat_eq, arith, ◌∙◌, append-nil, Option, Some, None, is_some, ◌&&◌, if◌then◌else◌, ℕ}
use Rattle.std.specs.List.{filter}
use Rattle.std.specs.Option.{option_map}
use Rattle.std.specs.Str.{bytes_eq}
use Rattle.std.proofs.lemmas.Slice.Eq.{bytes_eq-Decides}
use Rattle.std.proofs.lemmas.Grind.{common_steps}
use Rattle.std.proofs.lemmas.List.{map-append}
use Rattle.std.proofs.lemmas.Bool.Decides.{nat_tests}
use Rattle.js_tree.specs.declared.token.Token.{Token}
use Rattle.js_scopes.specs.Names.{Scope, firsts, first_in, is_name}
use Rattle.js_scopes.specs.Indexed.{scope_starts, first_start}

same_text : (a b : List ℕ) → bytes_eq a b ≡ bytes_eq b a
same_text [] [] = refl
same_text [] (y ∷ ys) = refl
same_text (x ∷ xs) [] = refl
same_text (x ∷ xs) (y ∷ ys) = λ i. same_number x y i && same_text xs ys i
  where
    same_number : (a b : ℕ) → nat_eq a b ≡ nat_eq b a
    same_number a b = grind (arith, nat_tests)

abbrev unless : {X : Type 0} → Bool → X → List X
unless b t = if b then [] else t ∷ []

kept_alone : {X : Type 0} (q : X → Bool) (t x : X) (b : Bool) (o : Option X) → q t ≡ not b → filter q (unless (is_some o) t) ≡ unless (is_some (if b then Some x else o)) t
kept_alone q t x true None e = ap (λ c. cond c (t ∷ []) []) e
kept_alone q t x false None e = ap (λ c. cond c (t ∷ []) []) e
kept_alone q t x true (Some y) e = refl
kept_alone q t x false (Some y) e = refl

filtered : {X : Type 0} (p : X → Bool) (xs ys : List X) → filter p (xs ++ ys) ≡ filter p xs ++ filter p ys
filtered p xs ys = grind (arith, common_steps)

firsts_more : (xs : Scope) (t : Token) → firsts (xs ++ t ∷ []) ≡ firsts xs ++ unless (is_some (first_in t.text xs)) t
firsts_more [] t = refl
firsts_more (x ∷ xs) t =
    let q = λ (u : Token). not (bytes_eq u.text x.text) in
    ap (λ ys. x ∷ filter q ys) (firsts_more xs t) ∙ ap (λ ys. x ∷ ys) (filtered q (firsts xs) (unless (is_some (first_in t.text xs)) t)
    ∙ ap (λ ys. filter q (firsts xs) ++ ys) (kept_alone q t x (bytes_eq x.text t.text) (first_in t.text xs) (ap not (same_text t.text x.text))))

starts_alone : (b : Bool) (t : Token) → map (λ (u : Token). u.start) (unless b t) ≡ unless b t.start
starts_alone true t = refl
starts_alone false t = refl

-- one token more in a scope
pub scope_more : (xs : Scope) (t : Token) → scope_starts (xs ++ t ∷ []) ≡ scope_starts xs ++ first_start t xs
scope_more xs t =
    ap (map (λ (u : Token). u.start)) (firsts_more xs t) ∙ map-append (λ (u : Token). u.start) (firsts xs) (unless (is_some (first_in t.text xs)) t)
    ∙ ap (λ ys. scope_starts xs ++ ys) (starts_alone (is_some (first_in t.text xs)) t)

abbrev or_else : Option Token → Option Token → Option Token
or_else None other = other
or_else (Some t) other = Some t

-- a name is looked up among one token more
found_more : (name : List ℕ) (xs : Scope) (t : Token) → first_in name (xs ++ t ∷ []) ≡ or_else (first_in name xs) (if is_name name t then Some t else None)
found_more name [] t = refl
found_more name (x ∷ xs) t = by (found_more name xs t) (is_name name x)
  where
    by : first_in name (xs ++ t ∷ []) ≡ or_else (first_in name xs) (if is_name name t then Some t else None) → (b : Bool)
        → (if b then Some x else first_in name (xs ++ t ∷ [])) ≡ or_else (if b then Some x else first_in name xs) (if is_name name t then Some t else None)
    by rest true = refl
    by rest false = rest

abbrev pub starts_of : Option Token → Option ℕ
starts_of o = option_map (λ (t : Token). t.start) o

pub mapped_there : (o : Option Token) → is_some o ≡ is_some (starts_of o)
mapped_there None = refl
mapped_there (Some t) = refl

-- a token whose name is declared before it isn't found
pub found_before : (name : List ℕ) (xs : Scope) (t : Token) → is_some (first_in t.text xs) ≡ true → starts_of (first_in name (xs ++ t ∷ [])) ≡ starts_of (first_in name xs)
found_before name xs t there = ap starts_of (found_more name xs t) ∙ by (first_in name xs) refl (is_name name t) refl
  where
    by : (o : Option Token) → first_in name xs ≡ o → (b : Bool) → is_name name t ≡ b → starts_of (or_else o (if b then Some t else None)) ≡ starts_of o
    by (Some u) e b f = refl
    by None e false f = refl
    by None e true f = absurd (let k : false ≡ true = sym (ap is_some (ap (λ n. first_in n xs) ((bytes_eq-Decides t.text name).0 f) ∙ e)) ∙ there in cc)

-- any other is, by its name
pub found_first : (name : List ℕ) (xs : Scope) (t : Token) → is_some (first_in t.text xs) ≡ false → starts_of (first_in name (xs ++ t ∷ [])) ≡ (if bytes_eq t.text name then Some t.start else starts_of (first_in name xs))
found_first name xs t none = ap starts_of (found_more name xs t) ∙ by (first_in name xs) refl (is_name name t) refl
  where
    by : (o : Option Token) → first_in name xs ≡ o → (b : Bool) → is_name name t ≡ b → starts_of (or_else o (if b then Some t else None)) ≡ (if b then Some t.start else starts_of o)
    by None e true f = refl
    by None e false f = refl
    by (Some u) e false f = refl
    by (Some u) e true f = absurd (let k : true ≡ false = sym (ap is_some (ap (λ n. first_in n xs) ((bytes_eq-Decides t.text name).0 f) ∙ e)) ∙ none in cc)

-- where the names of one token more are first declared
pub listed_before : (xs : Scope) (t : Token) → is_some (first_in t.text xs) ≡ true → scope_starts (xs ++ t ∷ []) ≡ scope_starts xs
listed_before xs t there = scope_more xs t ∙ ap (λ b. scope_starts xs ++ (if b then [] else t.start ∷ [])) there ∙ append-nil (scope_starts xs)

pub listed_first : (xs : Scope) (t : Token) → is_some (first_in t.text xs) ≡ false → scope_starts (xs ++ t ∷ []) ≡ scope_starts xs ++ t.start ∷ []
listed_first xs t none = scope_more xs t ∙ ap (λ b. scope_starts xs ++ (if b then [] else t.start ∷ [])) none
