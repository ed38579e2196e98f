-- Tests of the token that stands next, and refusals that are handed on.
use Rattle.std.proofs.Common.{◌≡◌, ⊎_elim, ◌⊎◌, Bool, true, false, sym, ap, ◌∙◌, subst, true≢false, Result, Ok, Err}
use Rattle.std.specs.Result.{IsErrAnd}
use Rattle.js_tree.specs.Lexical.{Next}
use Rattle.js_tree.specs.Lexing.{Place}
use Rattle.js_tree.specs.Pieces.{kind}
use Rattle.js_tree.specs.declared.token.Token.{Token}
use Rattle.js_tree.specs.declared.token_kind.TokenKind.{TokenKind}
use Rattle.js_tree.specs.declared.token_kind.TokenKind.TheVariants as kinds
use Rattle.js_tokens.proofs.AheadLemmas.{twin, one_next}
use Rattle.js_tokens.specs.Ahead.{Blind, IsTwin, IsNextKind}
use Rattle.js_tokens.specs.Pieces.{Gives, Begins}
use Rattle.js_tokens.specs.declared.fault.TokenFault.{TokenFault}
use Rattle.js_tokens.specs.declared.fault.TokenFault.TheVariants as fault
use Rattle.js_tokens.specs.declared.goal.Goal.TheVariants as goal

-- a blind test answers alike for a kind and the other reading of its place
blind_twin : (test : TokenKind → Bool) → Blind test → (j k : TokenKind) → IsTwin j k → test j ≡ test k
blind_twin test b kinds.Regex k h = ⊎_elim (λ (e : k ≡ kinds.Slash). b.slash ∙ ap test (sym e)) (λ (e : k ≡ kinds.SlashAssign). b.slash_assign ∙ ap test (sym e)) h
blind_twin test b kinds.TemplateMiddle k h = b.middle ∙ ap test (sym h)
blind_twin test b kinds.TemplateTail k h = b.tail ∙ ap test (sym h)
blind_twin test b _ k h = absurd h

alike : (test : TokenKind → Bool) → Blind test → (j k : TokenKind) → (j ≡ k) ⊎ IsTwin j k → test j ≡ test k
alike test b j k h = ⊎_elim (λ (e : j ≡ k). ap test e) (λ (w : IsTwin j k). blind_twin test b j k w) h

-- what is told of the next kind holds of each next token
pub seen : (test : TokenKind → Bool) → Blind test → (p : Place) (k : TokenKind) → IsNextKind p k → (t : Token) (q : Place) → Next p t q → test (kind t) ≡ test k
seen test b p k is t q a = alike test b (kind t) k (is.all t q a)

-- a blind test answers alike for all tokens at one place
pub same_test : (test : TokenKind → Bool) → Blind test → (p q r : Place) (t u : Token) → Next p t q → Next p u r → test (kind t) ≡ test (kind u)
same_test test b p q r t u x y =
    let v = twin p q t x in
    let w = twin p r u y in
    alike test b (kind t) (kind v.token) v.alike ∙ ap (λ (s : Token). test (kind s)) (one_next goal.Operator p v.behind w.behind v.token w.token v.next w.next v.reads w.reads).0
    ∙ sym (alike test b (kind u) (kind w.token) w.alike)

-- two blind tests that no kind passes both
pub differ : (c d : TokenKind → Bool) → Blind d → (p : Place) → ((k : TokenKind) → c k ≡ true → d k ≡ false) → Begins c p → Begins d p → ⊥
differ c d b p apart x y = true≢false (sym y.3 ∙ sym (same_test d b p x.1 y.1 x.0 y.0 x.2 y.2) ∙ apart (kind x.0) x.3)

pub handed_on : {X Y : Type 0} (x : X) (y : Y) (P Q : Type 0) (e : TokenFault) → Gives {X = X} (Err e) x P → Gives {X = Y} (Err e) y Q
handed_on x y P Q (fault.Unexpected at) h = h
handed_on x y P Q fault.OutOfMemory h = tt

-- a refusal that is handed on
pub exit : {X Y : Type 0} (result : Result Y TokenFault) (e : TokenFault) (x : X) (y : Y) (P Q : Type 0) → IsErrAnd result (λ d. d ≡ e)
    → Gives {X = X} (Err e) x P → Gives result y Q
exit (Ok z) e x y P Q h g = absurd h
exit (Err d) e x y P Q h g = handed_on x y P Q d (subst (λ (f : TokenFault). Gives (Err f) x P) (sym h) g)
