use Rattle.std.proofs.Common.{◌≡◌, ◌++◌, ◌∷◌, [], List, ℕ, Bor, false, true, Some, is_some, ap, sym, ◌∙◌, cond}
use Rattle.std.specs.BTreeMap.{is_at}
use Rattle.std.specs.Cmp.Lexicographic.{slice_cmp}
use Rattle.std.specs.Map.{lookup}
use Rattle.std.specs.Ordering.{nat_cmp}
use Rattle.std.specs.Str.{bytes_eq}
use Rattle.std.proofs.lemmas.Map.Text.{btree_map_updates_str}
use Rattle.js_scopes.specs.Names.{first_in}
use Rattle.js_scopes.proofs.FirstLemmas.{found_before, found_first, listed_before, listed_first, mapped_there}
use Rattle.js_scopes.proofs.declaration.keep.Goals as goal

pub returns-then-contains_key : goal.returns-then-contains_key
returns-then-contains_key c before h =
    let t = c.args.token.now in
    let there : is_some (first_in t.text before) ≡ true
    = mapped_there (first_in t.text before) ∙ sym (ap is_some (h.found t.text)) ∙ ap (λ n. is_some (lookup (is_at (λ (k : Bor (List ℕ)). slice_cmp nat_cmp n k.now)) c.args.starts.now.entries)) (sym c.as_str-name.ensures) ∙ sym (c.if-contains_key.ensures {u = tt}) in
    record {
      found = λ q. h.found q ∙ sym (found_before q before t there);
      listed = h.listed ∙ sym (listed_before before t there);
    }

pub returns : goal.returns
returns c before h =
    let t = c.args.token.now in
    let name = c.as_str-name.result.now in
    let kept = λ (n : List ℕ). lookup (is_at (λ (k : Bor (List ℕ)). slice_cmp nat_cmp n k.now)) c.args.starts.now.entries in
    let none : is_some (first_in t.text before) ≡ false
    = mapped_there (first_in t.text before) ∙ sym (ap is_some (h.found t.text)) ∙ ap (λ n. is_some (kept n)) (sym c.as_str-name.ensures) ∙ sym (c.if-contains_key.ensures {u = tt}) in
    record {
      found = λ q.
          btree_map_updates_str name c.args.starts.now c.insert.new.self _ c.in_ok-insert.ensures.updates q
          ∙ ap (λ n. cond (bytes_eq n q) (Some t.start) (kept q)) c.as_str-name.ensures
          ∙ ap (λ o. cond (bytes_eq t.text q) (Some t.start) o) (h.found q) ∙ sym (found_first q before t none);
      listed = (c.in_ok-push.ensures {u = tt}).items ∙ ap (λ xs. xs ++ t.start ∷ []) h.listed ∙ sym (listed_first before t none);
    }
