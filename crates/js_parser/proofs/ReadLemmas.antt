-- What is said of a call that reads, at each of its exits.
use Rattle.std.proofs.Common.{◌≡◌, List, Result, Ok, Err, sym, subst}
use Rattle.std.specs.Result.{IsErrAnd}
use Rattle.js_tree.specs.Lexing.{Place}
use Rattle.js_tree.specs.Pieces.{Piece, Onto}
use Rattle.js_tokens.specs.Pieces.{Reads, Gives, Passes, Refuses}
use Rattle.js_tokens.specs.declared.fault.TokenFault.{TokenFault}
use Rattle.js_tokens.specs.declared.fault.TokenFault.TheVariants as fault
use Rattle.js_parser.proofs.PlaceLemmas.{moved}
use Rattle.js_parser.specs.Nodes.{ReadsAs, ReadsMaybe}

-- memory ran out
abbrev pub IsWant : TokenFault → Type 0
IsWant fault.OutOfMemory = Unit {0}
IsWant (fault.Unexpected at) = ⊥

pub want : {X : Type 0} (x : X) (Q : Type 0) (e : TokenFault) → Gives {X = X} (Err e) x Q → IsWant e
want x Q fault.OutOfMemory g = tt
want x Q (fault.Unexpected at) g = g

pub gives : {X : Type 0} (x : X) (Q : Type 0) (e : TokenFault) → IsWant e → Gives {X = X} (Err e) x Q
gives x Q fault.OutOfMemory w = tt
gives x Q (fault.Unexpected at) w = w

module _ {X : Type 0} (line : X → Onto) (P : X → Type 0) (S : X → List Piece → Type 0) where
  -- a fault that is handed on, some tokens further
  pub failed : (p m k : Place) (e : TokenFault) (result : Result X TokenFault) → Passes p m → Refuses m e → ((x : X) (rest : List Piece) → Reads p (line x rest) → P x → S x rest → IsWant e)
      → IsErrAnd result (λ d. d ≡ e) → ReadsAs line P S p k result
  failed p m k e (Ok y) passes refuses only h = absurd h
  failed p m k e (Err d) passes refuses only h = record {
    found = tt;
    only = λ x rest r at s. gives x _ d (subst IsWant (sym h) (only x rest r at s));
    moves = moved {Y = X} p m k e (Err d) passes refuses h;
    shorter = tt;
  }

  pub failed_maybe : (p m k : Place) (e : TokenFault) (result : Result X TokenFault) → Passes p m → Refuses m e → ((x : X) (rest : List Piece) → Reads p (line x rest) → P x → S x rest → IsWant e)
      → IsErrAnd result (λ d. d ≡ e) → ReadsMaybe line P S p k result
  failed_maybe p m k e (Ok y) passes refuses only h = absurd h
  failed_maybe p m k e (Err d) passes refuses only h = record {
    found = tt;
    only = λ x rest r at s. gives x _ d (subst IsWant (sym h) (only x rest r at s));
    moves = moved {Y = X} p m k e (Err d) passes refuses h;
    shorter = tt;
  }

  -- what stands next is refused
  pub refused_here : (p k : Place) (e : TokenFault) → Refuses p e → ((x : X) (rest : List Piece) → Reads p (line x rest) → P x → S x rest → ⊥) → ReadsAs line P S p k (Err e)
  refused_here p k e refuses only = record { found = tt; only = λ x rest r at s. absurd (only x rest r at s); moves = refuses; shorter = tt }
