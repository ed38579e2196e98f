-- A tree that spells the text, and its pieces read from the start.
use Rattle.std.proofs.Common.{◌≡◌, ℕ, ◌≤◌, ◌<◌, arith, Result, Ok, Err, List, [], ◌∷◌, length, sym, ap, subst, refl}
use Rattle.std.specs.Str.{IsUtf8}
use Rattle.js_tree.specs.Lexical.{LexesTo, IsTrivia}
use Rattle.js_tree.specs.Lexing.{Place, start_of}
use Rattle.js_tree.specs.Pieces.{Piece, Tok, Must, Ahead, AreFit, tokens}
use Rattle.js_tree.specs.Spelling.{stmts, stmts_height}
use Rattle.js_tree.specs.Spells.{Spells, limit}
use Rattle.js_tree.specs.declared.tree.Stmt.{Stmt}
use Rattle.js_tree.specs.declared.tree.Tree.{Tree}
use Rattle.js_tokens.specs.Pieces.{Reads, Read, OnlyRead, Gives, IsStop, Refuses}
use Rattle.js_tokens.specs.declared.fault.TokenFault.{TokenFault}
use Rattle.js_tokens.specs.declared.fault.TokenFault.TheVariants as token_fault
use Rattle.js_parser.proofs.BoundaryLemmas.{stop_boundary}
use Rattle.js_parser.specs.Answers.{AtStop, IsAtCharacter, IsFaultOf, IsPlaced, IsTree, IsUnspelled, TellsTooLarge}
use Rattle.js_parser.specs.Nodes.{StmtsAt, Closes}
use Rattle.js_parser.specs.declared.fault.ParseFault.{ParseFault}
use Rattle.js_parser.specs.declared.fault.ParseFault.TheVariants as fault
use Rattle.js_parser.specs.declared.tall.Tall.{Tall}

to_reads : (ps : List Piece) (p q : Place) → LexesTo p (tokens ps) q → IsTrivia q.at q.left → AreFit ps → Reads p ps
to_reads [] p q e end h = subst (λ (m : Place). IsTrivia m.at m.left) (sym e) end
to_reads (Tok t f ∷ ps) p q l end h = (l.0, l.1, h.0, to_reads ps l.0 q l.2 end h.1)
to_reads (Must b ∷ ps) p q l end h = (h.0, to_reads ps p q l end h.1)
to_reads (Ahead c ∷ ps) p q l end h = (h.0, to_reads ps p q l end h.1)

to_lexes : (ps : List Piece) (p : Place) → Reads p ps → (q : Place) × LexesTo p (tokens ps) q × IsTrivia q.at q.left
to_lexes [] p r = (p, refl, r)
to_lexes (Tok t f ∷ ps) p r = let l = to_lexes ps r.0 r.3 in (l.0, (r.0, r.1, l.1), l.2)
to_lexes (Must b ∷ ps) p r = to_lexes ps p r.1
to_lexes (Ahead c ∷ ps) p r = to_lexes ps p r.1

to_fit : (ps : List Piece) (p : Place) → Reads p ps → AreFit ps
to_fit [] p r = tt
to_fit (Tok t f ∷ ps) p r = (r.2, to_fit ps r.0 r.3)
to_fit (Must b ∷ ps) p r = (r.0, to_fit ps p r.1)
to_fit (Ahead c ∷ ps) p r = (r.0, to_fit ps p r.1)

-- statements that were read to the end are a tree that spells the text
pub spelled : (text : List ℕ) (start m : Place) (body : List Stmt) (room : ℕ) → start ≡ start_of text → length text ≤ limit → Read start (stmts body) m → stmts_height body ≤ room → room ≤ 256
    → IsTrivia m.at m.left → Spells text (record { body = body })
spelled text start m body room e fits found deep most end =
    let r : Reads (start_of text) (stmts body []) = subst (λ (p : Place). Reads p (stmts body [])) e (found [] end) in
    record { fits = fits; well = record { fit = to_fit (stmts body []) (start_of text) r; depth = omega (arith, deep, most) }; lexes = to_lexes (stmts body []) (start_of text) r }

-- whatever tree spells the text, its statements are what was read
pub only_body : (text : List ℕ) (start m : Place) (tree : Tree) (room : ℕ) (result : Result (Tall (List Stmt)) TokenFault) → start ≡ start_of text → 256 ≤ room → Spells text tree
    → OnlyRead (λ (x : Tall (List Stmt)). stmts x.node) (StmtsAt room) (λ x. Closes) start m result
    → Gives result (record { node = tree.body; height = stmts_height tree.body }) (IsTrivia m.at m.left)
only_body text start m tree room result e least s only =
    let l = s.lexes in
    let r = to_reads (stmts tree.body []) (start_of text) l.0 l.1 l.2 s.well.fit in
    only (record { node = tree.body; height = stmts_height tree.body }) [] (subst (λ (p : Place). Reads p (stmts tree.body [])) (sym e) r)
    (record { height = refl; fits = omega (arith, least, s.well.depth) }) tt

-- FAULTS

-- what holds of the offset of a refusal holds of the fault that is made of it
at_stop : (P : ℕ → Type 0) (e : TokenFault) (f : ParseFault) → IsFaultOf e f → ((at : ℕ) → e ≡ token_fault.Unexpected at → P at) → AtStop P f
at_stop P (token_fault.Unexpected at) (fault.NotInProfile stop) made holds = subst P (sym made) (holds at refl)
at_stop P (token_fault.Unexpected at) (fault.Construct stop what) made holds = subst P (sym made) (holds at refl)
at_stop P (token_fault.Unexpected at) (fault.TooLarge n) made holds = tt
at_stop P (token_fault.Unexpected at) fault.OutOfMemory made holds = tt
at_stop P token_fault.OutOfMemory (fault.NotInProfile stop) made holds = absurd made
at_stop P token_fault.OutOfMemory (fault.Construct stop what) made holds = absurd made
at_stop P token_fault.OutOfMemory (fault.TooLarge n) made holds = tt
at_stop P token_fault.OutOfMemory fault.OutOfMemory made holds = tt

-- the fault of an answer
abbrev fault_or : ParseFault → Result Tree ParseFault → ParseFault
fault_or f (Ok tree) = f
fault_or f (Err g) = g

module _ (text : List ℕ) (e : TokenFault) (f : ParseFault) (made : IsFaultOf e f) where
  pub only_tree : (tree : Tree) → Gives {X = Tree} (Err e) tree (Unit {0}) → IsTree (Err f) tree
  only_tree tree gives = by_fault e f made gives
    where
      by_fault : (e : TokenFault) (f : ParseFault) → IsFaultOf e f → Gives {X = Tree} (Err e) tree (Unit {0}) → IsTree (Err f) tree
      by_fault (token_fault.Unexpected at) f made gives = absurd gives
      by_fault token_fault.OutOfMemory fault.OutOfMemory made gives = tt
      by_fault token_fault.OutOfMemory (fault.NotInProfile stop) made gives = absurd made
      by_fault token_fault.OutOfMemory (fault.Construct stop what) made gives = absurd made
      by_fault token_fault.OutOfMemory (fault.TooLarge n) made gives = absurd made

  pub placed : Refuses (start_of text) e → IsPlaced text (Err f)
  placed refuses = at_stop (IsStop (start_of text)) e f made (λ at is. subst (Refuses (start_of text)) is refuses)

  pub at_character : IsUtf8 text → Refuses (start_of text) e → IsAtCharacter text (Err f)
  at_character utf8 refuses = at_stop _ e f made (λ at is. stop_boundary text utf8 at (subst (Refuses (start_of text)) is refuses))

  pub unspelled : ((tree : Tree) → Spells text tree → Gives {X = Tree} (Err e) tree (Unit {0})) → IsUnspelled text (Err f)
  unspelled only = at_stop _ e f made (λ at is tree s. subst (λ (d : TokenFault). Gives {X = Tree} (Err d) tree (Unit {0})) is (only tree s))

  not_large : (n : ℕ) → f ≡ fault.TooLarge n → ⊥
  not_large n is = by_fault e (subst (IsFaultOf e) is made)
    where
      by_fault : (d : TokenFault) → IsFaultOf d (fault.TooLarge n) → ⊥
      by_fault (token_fault.Unexpected at) m = m
      by_fault token_fault.OutOfMemory m = m

  -- a text within the limit is never too large
  pub not_too_large : length text ≤ limit → TellsTooLarge text (Err f)
  not_too_large within = record {
    over = λ above. absurd (omega (arith, within, above));
    only = λ n is. absurd (not_large n (same n is));
  }
    where
      same : (n : ℕ) → ◌≡◌ {A = Result Tree ParseFault} (Err f) (Err (fault.TooLarge n)) → f ≡ fault.TooLarge n
      same n is = ap (fault_or f) is

-- a text that is read is not too large
pub read_within : (text : List ℕ) (tree : Tree) → length text ≤ limit → TellsTooLarge text (Ok tree)
read_within text tree within = record { over = λ above. absurd (omega (arith, within, above)); only = λ n is. absurd (never n is) }
  where
    never : (n : ℕ) → ◌≡◌ {A = Result Tree ParseFault} (Ok tree) (Err (fault.TooLarge n)) → ⊥
    never n is = cc

-- a text over the limit
pub too_large : (text : List ℕ) → limit < length text → TellsTooLarge text (Err (fault.TooLarge (length text)))
too_large text above = record { over = λ _. refl; only = λ n e. (above, sym (length_of e)) }
  where
    length_of : {n : ℕ} → ◌≡◌ {A = Result Tree ParseFault} (Err (fault.TooLarge (length text))) (Err (fault.TooLarge n)) → length text ≡ n
    length_of e = cc
