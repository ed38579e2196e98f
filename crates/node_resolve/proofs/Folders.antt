-- The folders above a folder.
use Rattle.std.proofs.Common.{◌≡◌, Some, None, ℕ, zero, suc, ◌-◌, ◌<◌, ◌≤◌, Bool, true, false, List, [], ◌∷◌, length, take, refl, ap, sym, ◌∙◌, arith, subst, length-append}
use Rattle.std.specs.Prelude.{◌==◌}
use Rattle.std.specs.Option.{unwrap_or}
use Rattle.std.specs.List.{join_with_byte}
use Rattle.std.proofs.lemmas.List.Splits.{join_with_byte-slice_split}
use Rattle.std.proofs.lemmas.Bool.Decides.{nat_tests}
use Rattle.jam_base.specs.Path.{parts, parent_of}
use Rattle.node_resolve.specs.Targets.{folder_above, upward, upward_within}

same_folder : (x y : List ℕ) → Some x ≡ Some y → x ≡ y
same_folder x y e = ap (λ o. unwrap_or o x) e

-- without its last part a text is shorter, unless it is empty
joined_shorter : (p : List ℕ) (ps : List (List ℕ)) → 0 < length (join_with_byte 47 (p ∷ ps)) → length (join_with_byte 47 (take (length ps) (p ∷ ps))) < length (join_with_byte 47 (p ∷ ps))
joined_shorter p [] h = h
joined_shorter p (q ∷ []) h = omega (arith, length-append p (47 ∷ q))
joined_shorter p (q ∷ r ∷ ps) h =
    let rest : List ℕ = join_with_byte 47 (q ∷ r ∷ ps) in
    let kept : List ℕ = join_with_byte 47 (take (length (r ∷ ps)) (q ∷ r ∷ ps)) in
    let some : 0 < length rest = omega (arith, length-append q (47 ∷ join_with_byte 47 (r ∷ ps))) in
    omega (arith, joined_shorter q (r ∷ ps) some, length-append p (47 ∷ rest), length-append p (47 ∷ kept))

front_shorter : (ps : List (List ℕ)) → 0 < length (join_with_byte 47 ps) → length (join_with_byte 47 (take (length ps - 1) ps)) < length (join_with_byte 47 ps)
front_shorter [] h = absurd (omega arith)
front_shorter (p ∷ ps) h =
    let e : length (p ∷ ps) - 1 ≡ length ps = omega arith in
    rw e (joined_shorter p ps h)

pub parent_shorter : (folder : List ℕ) → (length folder == 0) ≡ false → length (parent_of folder) < length folder
parent_shorter folder h =
    let same : join_with_byte 47 (parts folder) ≡ folder = join_with_byte-slice_split 47 folder in
    let some : 0 < length folder = grind (arith, nat_tests) in
    subst (λ (text : List ℕ). length (parent_of folder) < length text) same (front_shorter (parts folder) (subst (λ (text : List ℕ). 0 < length text) (sym same) some))

some_left : (b : ℕ) (folder : List ℕ) → (length (b ∷ folder) == 0) ≡ false
some_left b folder = grind (arith, nat_tests)

-- as many as the text has bytes are enough
enough : (n m : ℕ) (folder : List ℕ) → length folder ≤ n → length folder ≤ m → upward_within n folder ≡ upward_within m folder
enough zero zero folder a b = refl
enough zero (suc m) [] a b = refl
enough zero (suc m) (x ∷ folder) a b = absurd (omega arith)
enough (suc n) zero [] a b = refl
enough (suc n) zero (x ∷ folder) a b = absurd (omega arith)
enough (suc n) (suc m) [] a b = refl
enough (suc n) (suc m) (x ∷ folder) a b =
    let less : length (parent_of (x ∷ folder)) < length (x ∷ folder) = parent_shorter (x ∷ folder) (some_left x folder) in
    rw (some_left x folder) (ap (λ v. (x ∷ folder) ∷ v) (enough n m (parent_of (x ∷ folder)) (omega arith) (omega arith)))

-- the application folder has none above it
pub upward_root : (folder : List ℕ) → (length folder == 0) ≡ true → upward folder ≡ folder ∷ []
unfolding upward
upward_root [] h = refl
upward_root (b ∷ folder) h = cc (some_left b folder)

-- any other has its parent and those above that
pub upward_more : (folder : List ℕ) → (length folder == 0) ≡ false → upward folder ≡ folder ∷ upward (parent_of folder)
unfolding upward
upward_more [] h = cc
upward_more (b ∷ folder) h =
    let less : length (parent_of (b ∷ folder)) < length (b ∷ folder) = parent_shorter (b ∷ folder) h in
    rw h (ap (λ v. (b ∷ folder) ∷ v) (enough (length folder) (length (parent_of (b ∷ folder))) (parent_of (b ∷ folder)) (omega arith) (omega arith)))

-- the same, where the code asks for the folder above
pub upward_last : (folder : List ℕ) → folder_above folder ≡ None → upward folder ≡ folder ∷ []
upward_last folder h = by (length folder == 0) refl
  where
    by : (t : Bool) → (length folder == 0) ≡ t → upward folder ≡ folder ∷ []
    by true e = upward_root folder e
    by false e = cc (rw e at h)

pub upward_next : (folder above : List ℕ) → folder_above folder ≡ Some above → upward folder ≡ folder ∷ upward above
upward_next folder above h = by (length folder == 0) refl
  where
    by : (t : Bool) → (length folder == 0) ≡ t → upward folder ≡ folder ∷ upward above
    by true e = cc (rw e at h)
    by false e = upward_more folder e ∙ ap (λ (f : List ℕ). folder ∷ upward f) (same_folder _ _ (rw e at h))

pub above_shorter : (folder above : List ℕ) → folder_above folder ≡ Some above → length above < length folder
above_shorter folder above h = by (length folder == 0) refl
  where
    by : (t : Bool) → (length folder == 0) ≡ t → length above < length folder
    by true e = cc (rw e at h)
    by false e = subst (λ (f : List ℕ). length f < length folder) (same_folder _ _ (rw e at h)) (parent_shorter folder e)
