-- Expressions that begin with one of a higher level, and what is read on behind it.
use Rattle.std.proofs.Common.{◌≡◌, ℕ, ◌≤◌, ◌<◌, Bool, true, ◌&&◌, List, length, Result, Ok, Err, IfOk, sym, ap, ◌∙◌, subst, arith}
use Rattle.std.specs.Prelude.{nat_le}
use Rattle.std.proofs.lemmas.Bool.Decides.{nat_tests}
use Rattle.std.specs.Result.{IsErrAnd}
use Rattle.js_tree.specs.Lexing.{Place}
use Rattle.js_tree.specs.Pieces.{Piece}
use Rattle.js_tree.specs.Spelling.{expr}
use Rattle.js_tree.specs.declared.tree.Expr.{Expr}
use Rattle.js_tokens.specs.Pieces.{Reads, Read, Passes, Refuses}
use Rattle.js_tokens.specs.declared.fault.TokenFault.{TokenFault}
use Rattle.js_parser.proofs.ExprLemmas.{at_lower}
use Rattle.js_parser.proofs.ParenLemmas.{sound_at}
use Rattle.js_parser.proofs.PlaceLemmas.{moved, moves_on, refuses_on}
use Rattle.js_parser.proofs.ReadLemmas.{IsWant, gives, want}
use Rattle.js_parser.specs.Nodes.{GoesOn, Makes, ReadsExpr, ValueAt, ValueStops, expr_line, value_line}
use Rattle.js_parser.specs.declared.tall.Value.{Value}

pub at_least : (a b : ℕ) → nat_le a b ≡ true → a ≤ b
at_least a b e = grind (arith, nat_tests, e)

pub least_at : (a b : ℕ) → a ≤ b → nat_le a b ≡ true
least_at a b h = grind (arith, nat_tests, h)

-- a value of a level is one of each level up to its rank
pub at_higher : (level higher room : ℕ) (x : Value) → nat_le higher (expr x.node).rank ≡ true → ValueAt level room x → ValueAt higher room x
at_higher level higher room x most at = record {
  stands = ap (λ (b : Bool). b && nat_le higher (expr x.node).rank) (sound_at level room x at) ∙ most;
  rank = at.rank;
  target = at.target;
  height = at.height;
  fits = at.fits;
}

-- what is read behind the first expression
abbrev pub Behind : Type 1
Behind = Value → Value → List Piece → List Piece → Type 0

-- at p an expression of the level stands first, and what is behind it makes it the expression x
pub record Leads (After : Behind) (level room : ℕ) (p : Place) (x : Value) (rest : List Piece) : Type 0 where
  pub first : Value
  pub behind : List Piece
  pub read : Reads p (value_line first behind)
  pub at : ValueAt level room first
  pub stops : ValueStops level first behind
  pub after : After first x behind rest

module _ {After : Behind} (level room : ℕ) (p : Place) (x : Value) (rest : List Piece) (v : Leads After level room p x rest) where
  -- where the first fails memory ran out
  pub first_fails : (m : Place) (e : TokenFault) → ReadsExpr level room p m (Err e) → IsWant e
  first_fails m e reads = want v.first _ e (reads.only v.first v.behind v.read v.at v.stops)

  -- the first is what was read
  pub first_read : (m : Place) (head : Value) → ReadsExpr level room p m (Ok head) → (behind : List Piece) × After head x behind rest × Reads m behind
  first_read m head reads =
      let g = reads.only v.first v.behind v.read v.at v.stops in
      (v.behind, subst (λ (y : Value). After y x v.behind rest) (sym g.0) v.after, g.1)

-- READ AS ANOTHER LEVEL

-- where whatever could be read is of a higher level
pub from_higher : (level higher room : ℕ) (p m : Place) (result : Result Value TokenFault) → level ≤ higher
    → ((x : Value) (rest : List Piece) → Reads p (value_line x rest) → ValueAt level room x → ValueStops level x rest → ValueAt higher room x × ValueStops higher x rest)
    → ReadsExpr higher room p m result → ReadsExpr level room p m result
from_higher level higher room p m (Ok y) less up reads = record {
  found = (reads.found.0, at_lower higher level room y less reads.found.1);
  only = λ x rest r at s. let u = up x rest r at s in reads.only x rest r u.0 u.1;
  moves = reads.moves;
  shorter = reads.shorter;
}
from_higher level higher room p m (Err e) less up reads = record {
  found = tt;
  only = λ x rest r at s. let u = up x rest r at s in reads.only x rest r u.0 u.1;
  moves = reads.moves;
  shorter = tt;
}

-- the first alone
pub stays_read : {B : Behind} (upper level room : ℕ) (p m : Place) (head : Value) → level ≤ upper → ReadsExpr upper room p m (Ok head)
    → ((x : Value) (rest : List Piece) → Reads p (value_line x rest) → ValueAt level room x → ValueStops level x rest → Leads B upper room p x rest)
    → ((x : Value) (behind rest : List Piece) → B head x behind rest → ValueAt level room x → ValueStops level x rest → Reads m behind → (head ≡ x) × Reads m rest)
    → ReadsExpr level room p m (Ok head)
stays_read upper level room p m head less first view pick = record {
  found = (first.found.0, at_lower upper level room head less first.found.1);
  only = λ x rest r at s. let f = first_read upper room p x rest (view x rest r at s) m head first in pick x f.0 rest f.1 at s f.2;
  moves = first.moves;
  shorter = first.shorter;
}

-- the first, and what is read on behind it
pub read_on : {B After : Behind} (upper level room : ℕ) (p m n : Place) (head : Value) (result : Result Value TokenFault) → ReadsExpr upper room p m (Ok head) → GoesOn After level room head m n result
    → ((x : Value) (rest : List Piece) → Reads p (value_line x rest) → ValueAt level room x → ValueStops level x rest → Leads B upper room p x rest)
    → ((x : Value) (behind rest : List Piece) → B head x behind rest → ValueAt level room x → ValueStops level x rest → Reads m behind → After head x behind rest)
    → ReadsExpr level room p n result
read_on upper level room p m n head (Ok y) first goes view pick = record {
  found = (goes.found.0 p first.found.0, goes.found.1);
  only = λ x rest r at s. let f = first_read upper room p x rest (view x rest r at s) m head first in goes.only x f.0 rest (pick x f.0 rest f.1 at s f.2) at s f.2;
  moves = moves_on {Y = Value} p m n (Ok y) first.moves goes.moves;
  shorter = let a : length m.left < length p.left = first.shorter in let b : length n.left ≤ length m.left = goes.shorter in omega (arith, a, b);
}
read_on upper level room p m n head (Err e) first goes view pick = record {
  found = tt;
  only = λ x rest r at s. let f = first_read upper room p x rest (view x rest r at s) m head first in goes.only x f.0 rest (pick x f.0 rest f.1 at s f.2) at s f.2;
  moves = moves_on {Y = Value} p m n (Err e) first.moves goes.moves;
  shorter = tt;
}

-- EXITS OF WHAT IS READ ON

module _ (After : Behind) (level room : ℕ) (head : Value) where
  -- a fault that is handed on, some tokens further
  pub failed_on : (m k n : Place) (e : TokenFault) (result : Result Value TokenFault) → Passes m k → Refuses k e
      → ((x : Value) (behind rest : List Piece) → After head x behind rest → ValueAt level room x → ValueStops level x rest → Reads m behind → IsWant e)
      → IsErrAnd result (λ d. d ≡ e) → GoesOn After level room head m n result
  failed_on m k n e (Ok y) passes refuses only h = absurd h
  failed_on m k n e (Err d) passes refuses only h = record {
    found = tt;
    only = λ x behind rest a at s r. gives x _ d (subst IsWant (sym h) (only x behind rest a at s r));
    moves = moved {Y = Value} m k n e (Err d) passes refuses h;
    shorter = tt;
  }

  -- what stands next is refused
  pub refused_on : (m n : Place) (e : TokenFault) → Refuses m e
      → ((x : Value) (behind rest : List Piece) → After head x behind rest → ValueAt level room x → ValueStops level x rest → Reads m behind → ⊥) → GoesOn After level room head m n (Err e)
  refused_on m n e refuses only = record { found = tt; only = λ x behind rest a at s r. absurd (only x behind rest a at s r); moves = refuses; shorter = tt }

  -- a node that was put together of the first and what was read on
  pub made_on : (rank : ℕ) (x : Expr) (m n : Place) (result : Result Value TokenFault) → Makes rank room x n result → level ≤ rank
      → ((p : Place) → Read p (value_line head) m → Read p (expr_line x) n) → Passes m n → length n.left ≤ length m.left
      → ((v : Value) (behind rest : List Piece) → After head v behind rest → ValueAt level room v → ValueStops level v rest → Reads m behind → (x ≡ v.node) × Reads n rest)
      → GoesOn After level room head m n result
  made_on rank x m n (Ok v) makes less read passes shorter only = record {
    found = (λ p before rest r. subst (λ (y : Expr). Reads p (expr_line y rest)) (sym makes.found.0) (read p before rest r), at_lower rank level room v less makes.found.1);
    only = λ w behind rest a at s r. let g = only w behind rest a at s r in ((makes.only level w (sym g.0) at).0, g.1);
    moves = passes;
    shorter = shorter;
  }
  made_on rank x m n (Err e) makes less read passes shorter only = record {
    found = tt;
    only = λ w behind rest a at s r. let g = only w behind rest a at s r in gives w _ e (want w _ e (makes.only level w (sym g.0) at));
    moves = refuses_on m n e passes makes.moves;
    shorter = tt;
  }

-- of what failed nothing is said
pub nothing_of : {X : Type 0} (P : X → Type 0) (result : Result X TokenFault) (e : TokenFault) → IsErrAnd result (λ d. d ≡ e) → IfOk result P
nothing_of P (Ok x) e h = absurd h
nothing_of P (Err d) e h = tt
