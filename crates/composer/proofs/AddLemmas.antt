-- Ways that come one after another.
use Rattle.std.proofs.Common.{◌≡◌, ℕ, ◌+◌, ◌<◌, ◌≤◌, List, [], ◌∷◌, ◌++◌, length, set, refl, ap, sym, ◌∙◌, subst, arith, append_assoc, length-set}
use Rattle.std.proofs.lemmas.List.{append-nil}
use Rattle.composer.proofs.KeepLemmas.{Keeps-way, among_first}
use Rattle.composer.proofs.Members.{only}
use Rattle.composer.proofs.WayLemmas.{reason_in, solution_in, values_upto}
use Rattle.composer.specs.declared.system.Arrow.{Arrow}
use Rattle.composer.specs.declared.system.System.{System}
use Rattle.composer.specs.Numbered.{Below, HasValues, IsSystemIn}
use Rattle.composer.specs.Rows.{Holds, row}
use Rattle.composer.specs.Solution.{InSolution, Reason}
use Rattle.composer.specs.Work.{Adds, Keeps, Offers, first_of}

pub Adds-none : (a : System ℕ ℕ) (n : ℕ) (carried : List ℕ) (rows outs : List (List ℕ)) (pending : List ℕ) → Adds a n [] carried rows outs pending rows outs pending
Adds-none a n carried rows outs pending = record {
  keeps = λ ways k. subst (λ ws. Keeps a n ws rows outs carried pending) (sym (append-nil ways)) k;
  extends = λ v. ([], sym (append-nil (row rows v)));
  same_length = refl;
  less_left = omega arith;
}

pub Adds-one : (a : System ℕ ℕ) (n : ℕ) (way : Arrow ℕ) (carried : List ℕ) (rows outs : List (List ℕ)) (pending : List ℕ) (new : List (List ℕ)) (later : List ℕ) → IsSystemIn (Below n) a → HasValues a → Reason a (InSolution a) way
    → ((t v : ℕ) → Holds rows t v → InSolution a t v) → Offers (first_of rows carried way.from) (way.to ∷ []) rows pending new later → Adds a n (way ∷ []) carried rows outs pending new (set outs way.from (row outs way.from ++ way.to ∷ [])) later
Adds-one a n way carried rows outs pending new later inside values reason found o = record {
  keeps = λ ways k. Keeps-way a n ways rows new outs carried pending later way inside k reason o;
  extends = o.extends;
  same_length = length-set outs way.from (row outs way.from ++ way.to ∷ []);
  less_left = o.less_left n (a.native + 1)
      (λ t h. let b = (solution_in (Below n) (λ y. y ≤ a.native) a inside (values_upto a values) (omega arith) t way.from (found t way.from (among_first t _ (row rows way.from) h))).0 in omega (arith, b))
      (λ v c. subst (λ x. x < n) (only way.to v c) (reason_in (Below n) a (InSolution a) way inside reason).1);
}

pub Adds-more : (a : System ℕ ℕ) (n : ℕ) (found : List (Arrow ℕ)) (way : Arrow ℕ) (carried : List ℕ) (rows outs : List (List ℕ)) (pending : List ℕ) (now mid : List (List ℕ)) (between : List ℕ) (new after : List (List ℕ)) (later : List ℕ)
    → Adds a n found carried rows outs pending now mid between → Adds a n (way ∷ []) carried now mid between new after later → Adds a n (found ++ way ∷ []) carried rows outs pending new after later
Adds-more a n found way carried rows outs pending now mid between new after later x y = record {
  keeps = λ ways k. subst (λ ws. Keeps a n ws new after carried later) (append_assoc ways found (way ∷ [])) (y.keeps (ways ++ found) (x.keeps ways k));
  extends = λ v.
      let e = x.extends v in
      let f = y.extends v in
      (e.0 ++ f.0, f.1 ∙ ap (λ xs. xs ++ f.0) e.1 ∙ append_assoc (row rows v) e.0 f.0);
  same_length = y.same_length ∙ x.same_length;
  less_left = let e = x.less_left in let f = y.less_left in omega (arith, e, f);
}

-- both ends of a way are vertices
pub way_ends : (a : System ℕ ℕ) (n : ℕ) (way : Arrow ℕ) → IsSystemIn (Below n) a → Reason a (InSolution a) way → (way.from < n) × (way.to < n)
way_ends a n way inside reason = reason_in (Below n) a (InSolution a) way inside reason
