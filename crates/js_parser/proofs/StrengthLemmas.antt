-- Which kinds have the strength that is told.
use Rattle.std.proofs.Common.{◌≡◌, ℕ, ◌+◌, ◌==◌, Bool, true, false, ◌||◌, not, refl, sym, arith, true≢false}
use Rattle.std.specs.List.{list_all}
use Rattle.std.proofs.lemmas.Bool.Decides.{nat_tests}
use Rattle.js_tree.specs.Operators.{is_assignment, is_unary, is_update}
use Rattle.js_tree.specs.Spelling.Nodes.{ASSIGN, POWER, POSTFIX}
use Rattle.js_tree.specs.TokenKinds.{all_kinds, is}
use Rattle.js_tree.specs.declared.token_kind.TokenKind.{TokenKind}
use Rattle.js_tree.specs.declared.token_kind.TokenKind.TheVariants as kinds
use Rattle.js_tree.proofs.KindLemmas.{every}
use Rattle.js_tokens.specs.Ahead.{reads}
use Rattle.js_tokens.specs.declared.goal.Goal.TheVariants as goal
use Rattle.js_parser.proofs.TokenLemmas.{implies, equal}
use Rattle.js_parser.specs.Following.{strength}

-- what has the strength passes the test
strong_check : ℕ → (TokenKind → Bool) → Bool → TokenKind → Bool
strong_check s test nl k = not (strength k nl == s) || test k

passes_strong : (s : ℕ) (test : TokenKind → Bool) (nl : Bool) → list_all (strong_check s test nl) all_kinds ≡ true → (k : TokenKind) → strength k nl ≡ s → test k ≡ true
unfolding strong_check
passes_strong s test nl all k e = implies (strength k nl == s) (test k) (every (strong_check s test nl) all k) (grind (arith, nat_tests, e))

-- what passes the test has the strength
weak_check : ℕ → (TokenKind → Bool) → Bool → TokenKind → Bool
weak_check s test nl k = not (test k) || (strength k nl == s)

strong_passes : (s : ℕ) (test : TokenKind → Bool) (nl : Bool) → list_all (weak_check s test nl) all_kinds ≡ true → (k : TokenKind) → test k ≡ true → strength k nl ≡ s
unfolding weak_check
strong_passes s test nl all k h = equal _ _ (implies (test k) _ (every (weak_check s test nl) all k) h)

pub is_stars : (k : TokenKind) (nl : Bool) → strength k nl ≡ POWER + 1 → is kinds.Stars k ≡ true
unfolding strong_check
is_stars k true e = passes_strong 14 (is kinds.Stars) true refl k e
is_stars k false e = passes_strong 14 (is kinds.Stars) false refl k e

pub assigns : (k : TokenKind) (nl : Bool) → strength k nl ≡ ASSIGN + 1 → is_assignment k ≡ true
unfolding strong_check
assigns k true e = passes_strong 2 is_assignment true refl k e
assigns k false e = passes_strong 2 is_assignment false refl k e

pub of_assignment : (k : TokenKind) (nl : Bool) → is_assignment k ≡ true → strength k nl ≡ ASSIGN + 1
unfolding weak_check
of_assignment k true h = strong_passes 2 is_assignment true refl k h
of_assignment k false h = strong_passes 2 is_assignment false refl k h

-- `++` and `--` go on with a target on their line alone
pub updates : (k : TokenKind) (nl : Bool) → strength k nl ≡ POSTFIX + 1 → (is_update k ≡ true) × (nl ≡ false)
unfolding strong_check
updates k true e = absurd (true≢false (sym (passes_strong 17 (λ j. false) true refl k e)))
updates k false e = (passes_strong 17 is_update false refl k e, refl)

pub of_update : (k : TokenKind) (nl : Bool) → is_update k ≡ true → not nl ≡ true → strength k nl ≡ POSTFIX + 1
unfolding weak_check
of_update k true h line = absurd (true≢false (sym line))
of_update k false h line = strong_passes 17 is_update false refl k h

-- the tests take kinds that the goal Operator reads
plain_check : (TokenKind → Bool) → TokenKind → Bool
plain_check test k = not (test k) || reads goal.Operator k

plain_of : (test : TokenKind → Bool) → list_all (plain_check test) all_kinds ≡ true → (k : TokenKind) → test k ≡ true → reads goal.Operator k ≡ true
unfolding plain_check
plain_of test all k h = implies (test k) _ (every (plain_check test) all k) h

pub plain_assignment : (k : TokenKind) → is_assignment k ≡ true → reads goal.Operator k ≡ true
unfolding plain_check
plain_assignment = plain_of is_assignment refl

pub plain_update : (k : TokenKind) → is_update k ≡ true → reads goal.Operator k ≡ true
unfolding plain_check
plain_update = plain_of is_update refl

pub plain_unary : (k : TokenKind) → is_unary k ≡ true → reads goal.Operator k ≡ true
unfolding plain_check
plain_unary = plain_of is_unary refl
