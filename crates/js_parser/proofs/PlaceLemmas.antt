-- Tokens that are passed, and the place of a refusal.
use Rattle.std.proofs.Common.{◌≡◌, List, [], ◌∷◌, ◌++◌, Result, Ok, Err, refl, sym, subst}
use Rattle.std.specs.Result.{IsErrAnd}
use Rattle.js_tree.specs.Lexical.{LexesTo}
use Rattle.js_tree.specs.Lexing.{Place}
use Rattle.js_tree.specs.declared.token.Token.{Token}
use Rattle.js_tokens.specs.Pieces.{Passes, Refuses, Moves}
use Rattle.js_tokens.specs.declared.fault.TokenFault.{TokenFault}
use Rattle.js_tokens.specs.declared.fault.TokenFault.TheVariants as fault

lexes_on : (ts us : List Token) (p m n : Place) → LexesTo p ts m → LexesTo m us n → LexesTo p (ts ++ us) n
lexes_on [] us p m n e l = subst (λ (q : Place). LexesTo q us n) (sym e) l
lexes_on (t ∷ ts) us p m n l k = (l.0, l.1, lexes_on ts us l.0 m n l.2 k)

pub passes_none : (p : Place) → Passes p p
passes_none p = ([], refl)

pub passes_on : (p m n : Place) → Passes p m → Passes m n → Passes p n
passes_on p m n a b = (a.0 ++ b.0, lexes_on a.0 b.0 p m n a.1 b.1)

pub refuses_on : (p m : Place) (e : TokenFault) → Passes p m → Refuses m e → Refuses p e
refuses_on p m (fault.Unexpected at) a s = record { tokens = a.0 ++ s.tokens; reached = s.reached; lexes = lexes_on a.0 s.tokens p m s.reached a.1 s.lexes; start = s.start }
refuses_on p m fault.OutOfMemory a s = tt

-- a refusal that is handed on, some tokens further
pub moved : {Y : Type 0} (p m k : Place) (e : TokenFault) (result : Result Y TokenFault) → Passes p m → Refuses m e → IsErrAnd result (λ d. d ≡ e) → Moves p k result
moved p m k e (Ok y) a s h = absurd h
moved p m k e (Err d) a s h = refuses_on p m d a (subst (Refuses m) (sym h) s)

-- what is read further on, some tokens further
pub moves_on : {Y : Type 0} (p m n : Place) (result : Result Y TokenFault) → Passes p m → Moves m n result → Moves p n result
moves_on p m n (Ok y) a s = passes_on p m n a s
moves_on p m n (Err e) a s = refuses_on p m e a s
