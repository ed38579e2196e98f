-- Lists by commas and operands with operators of one level: with what they begin, and how they are put together.
use Rattle.std.proofs.Common.{◌≡◌, ◌⊎◌, ⊎_elim, inl, inr, ℕ, zero, suc, ◌+◌, ◌-◌, ◌<◌, ◌≤◌, ◌==◌, max, Bool, true, false, ◌&&◌, ◌||◌, not, List, [], ◌∷◌, Ok, Err, Result, refl, sym, ap, ◌∙◌, subst, arith, true≢false, if◌then◌else◌}
use Rattle.std.proofs.lemmas.Bool.{and_parts}
use Rattle.std.specs.List.{list_all}
use Rattle.std.specs.Prelude.{nat_le}
use Rattle.std.proofs.lemmas.Bool.Decides.{nat_tests}
use Rattle.js_tree.specs.declared.lists.Further.{Further}
use Rattle.js_tree.specs.declared.tree.Expr.{Expr, out-Expr}
use Rattle.js_tree.specs.declared.tree.Expr.TheOpen.{Expr-F}
use Rattle.js_tree.specs.declared.token_kind.TokenKind.TheVariants as kinds
use Rattle.js_tree.specs.Lexing.{Place}
use Rattle.js_tree.specs.Operators.{is_binary}
use Rattle.js_tree.specs.Pieces.{Piece, Onto}
use Rattle.js_tree.specs.Spelling.{expr}
use Rattle.js_tree.specs.Spelling.Nodes.{Seen, ASSIGN, BINARY, POWER, NEW, LEVELS, all_further, binary_rank, is_empty, pieces, stands}
use Rattle.js_tree.specs.Spelling.Rows.{each_of, further_row}
use Rattle.js_tree.specs.TokenKinds.{is as is_kind}
use Rattle.js_tree.proofs.SpellingLemmas.{at_expr}
use Rattle.js_tokens.specs.Pieces.{Reads, Read}
use Rattle.js_tokens.specs.declared.fault.TokenFault.{TokenFault}
use Rattle.js_parser.proofs.BeginLemmas.{stops_higher}
use Rattle.js_parser.proofs.ExprLemmas.{list_low, node_of, rests, rests_at, value_at, value_of}
use Rattle.js_parser.proofs.LeadLemmas.{Leads, at_least, first_fails, least_at, read_on}
use Rattle.js_parser.proofs.ListedLemmas.{all_seen, empty_seen, height_seen, list_view, ListView, seen_others}
use Rattle.js_parser.proofs.MadeLemmas.{read_at, seen_at}
use Rattle.js_parser.proofs.OperandLemmas.{goes_no_further, goes_on, operand_stops}
use Rattle.js_parser.proofs.ReadLemmas.{IsWant}
use Rattle.js_parser.proofs.TokenLemmas.{equal}
use Rattle.js_parser.specs.Following.{IsStrength, Stops}
use Rattle.js_parser.specs.Nodes.{GoesOn, IsListRank, is_level, IsSeen, Joins, Alone, First, OperandsAt, ReadsExpr, ValueAt, ValueStops, expr_line, further_height, further_line, further_stands, list_layer, value_line}
use Rattle.js_parser.specs.declared.tall.Value.{Value}

-- THE LAYER OF A LIST

pub list_binary : (rank : ℕ) → IsListRank rank → (rank ≡ 0 → ⊥) → BINARY ≤ rank
list_binary rank list other = ⊎_elim (λ (z : rank ≡ 0). absurd (other z)) (λ (b : (BINARY ≤ rank) × (rank < POWER)). b.0) list

-- a Comma, or a Binary of the level
module _ (rank : ℕ) (first : Expr) (others : List (Further Expr)) where
  pub as_comma : rank ≡ 0 → list_layer rank first others ≡ Expr-F.Comma first others
  as_comma z = ap (λ (n : ℕ). list_layer n first others) z

  far : BINARY ≤ rank → (rank == 0) ≡ false
  far low = grind (arith, nat_tests, low)

  pub as_binary : BINARY ≤ rank → list_layer rank first others ≡ Expr-F.Binary (rank - 2) first others
  as_binary low = ap (λ (b : Bool). if b then Expr-F.Comma first others else Expr-F.Binary (rank - 2) first others) (far low)

  comma_line : rank ≡ 0 → further_line rank ≡ further_row pieces expr_line (is_kind kinds.Comma)
  comma_line z = ap further_line z

  binary_line : BINARY ≤ rank → further_line rank ≡ further_row pieces expr_line (is_binary (rank - 2))
  binary_line low = ap (λ (b : Bool). further_row pieces expr_line (if b then is_kind kinds.Comma else is_binary (rank - 2))) (far low)

  module _ (x : Expr) (is : out-Expr x ≡ list_layer rank first others) (list : IsListRank rank) where
    list_height : (expr x).height ≡ max (expr first).height (further_height others) + 1
    list_height = ⊎_elim comma binary list
      where
        comma : rank ≡ 0 → (expr x).height ≡ max (expr first).height (further_height others) + 1
        comma z = ap (λ (t : Seen). t.height) (at_expr x (Expr-F.Comma first others) (is ∙ as_comma z)) ∙ ap (λ n. max (expr first).height n + 1) (height_seen (is_kind kinds.Comma) others)

        binary : (BINARY ≤ rank) × (rank < POWER) → (expr x).height ≡ max (expr first).height (further_height others) + 1
        binary b = ap (λ (t : Seen). t.height) (at_expr x (Expr-F.Binary (rank - 2) first others) (is ∙ as_binary b.0)) ∙ ap (λ n. max (expr first).height n + 1) (height_seen (is_binary (rank - 2)) others)

    -- what is seen of it
    pub list_seen : (below : ℕ) → stands (rank + 1) (expr first) ≡ true → list_all (further_stands rank) others ≡ true → is_empty others ≡ false
        → below ≡ max (expr first).height (further_height others) → IsSeen x below rank false
    list_seen below good each some high = ⊎_elim comma binary list
      where
        comma : rank ≡ 0 → IsSeen x below rank false
        comma z = subst (λ (n : ℕ). IsSeen x below n false) (sym z)
            (seen_at (Expr-F.Comma first others) x (node_of x (Expr-F.Comma first others) (is ∙ as_comma z)) below 0 false
            (three (stands ASSIGN (expr first)) (not (is_empty (seen_others others))) (all_further (stands ASSIGN) (seen_others others)) (subst (λ (n : ℕ). stands (n + 1) (expr first) ≡ true) z good) (ap not (empty_seen others ∙ some)) (all_seen 0 others ∙ subst (λ (n : ℕ). list_all (further_stands n) others ≡ true) z each))
            refl refl (high ∙ ap (max (expr first).height) (sym (height_seen (is_kind kinds.Comma) others))))
          where
            three : (a b c : Bool) → a ≡ true → b ≡ true → c ≡ true → (a && b && c) ≡ true
            three a b c e f g = ap (λ (d : Bool). d && b && c) e ∙ ap (λ (d : Bool). d && c) f ∙ g

        binary : (BINARY ≤ rank) × (rank < POWER) → IsSeen x below rank false
        binary b =
            let same : binary_rank (rank - 2) ≡ rank = omega (arith, b.0) in
            subst (λ (n : ℕ). IsSeen x below n false) same
            (seen_at (Expr-F.Binary (rank - 2) first others) x (node_of x (Expr-F.Binary (rank - 2) first others) (is ∙ as_binary b.0)) below (binary_rank (rank - 2)) false
            refl refl refl (high ∙ ap (max (expr first).height) (sym (height_seen (is_binary (rank - 2)) others))))

    -- its line
    pub list_read : (p n : Place) → stands (rank + 1) (expr first) ≡ true → list_all (further_stands rank) others ≡ true → is_empty others ≡ false
        → ((rest : List Piece) → Reads n rest → Reads p (expr_line first (each_of (further_line rank) others rest))) → Read p (expr_line x) n
    list_read p n good each some f = ⊎_elim comma binary list
      where
        moved : (line : Further Expr → Onto) → further_line rank ≡ line → (rest : List Piece) → Reads n rest → Reads p (expr_line first (each_of line others rest))
        moved line e rest r = subst (λ (put : Further Expr → Onto). Reads p (expr_line first (each_of put others rest))) e (f rest r)

        comma : rank ≡ 0 → Read p (expr_line x) n
        comma z = read_at (Expr-F.Comma first others) x (node_of x (Expr-F.Comma first others) (is ∙ as_comma z)) p n (moved (further_row pieces expr_line (is_kind kinds.Comma)) (comma_line z))

        binary : (BINARY ≤ rank) × (rank < POWER) → Read p (expr_line x) n
        binary b =
            let same : binary_rank (rank - 2) ≡ rank = omega (arith, b.0) in
            let low : nat_le (rank - 2) LEVELS ≡ true = least_at (rank - 2) LEVELS (omega (arith, b.1)) in
            read_at (Expr-F.Binary (rank - 2) first others) x (node_of x (Expr-F.Binary (rank - 2) first others) (is ∙ as_binary b.0)) p n
            (λ rest r. (
              low,
              (
                subst (λ (k : ℕ). stands (k + 1) (expr first) ≡ true) (sym same) good,
                (
                  ap not (empty_seen others ∙ some),
                  (
                    all_seen (binary_rank (rank - 2)) others ∙ subst (λ (k : ℕ). list_all (further_stands k) others ≡ true) (sym same) each,
                    moved (further_row pieces expr_line (is_binary (rank - 2))) (binary_line b.0) rest r,
                  ),
                ),
              ),
            ))

-- the operands behind the first
pub others_at : (rank room : ℕ) → IsListRank rank → (x : Value) (first : Expr) (others : List (Further Expr)) → out-Expr x.node ≡ list_layer rank first others → list_all (further_stands rank) others ≡ true
    → is_empty others ≡ false → ValueAt rank room x → OperandsAt rank (room - 1) (record { node = others; height = further_height others })
others_at rank room list x first others is each some at =
    let h = list_height rank first others x.node is list in
    record { each = each; some = some; height = refl; fits = omega (arith, h, at.height, at.fits) }

-- WITH WHAT A LIST BEGINS

stops_of : (level : ℕ) (x : Value) (rest : List Piece) → level < NEW → ValueStops level x rest → Stops level rest
stops_of level x rest low s = subst (λ (n : ℕ). Stops n rest) (rests_at level (expr x.node).rank low) s

pub joined_view : (rank room : ℕ) → IsListRank rank → (p : Place) (x : Value) (rest : List Piece) → Reads p (value_line x rest) → ValueAt rank room x → ValueStops rank x rest
    → Leads (Joins rank) (rank + 1) room p x rest
joined_view rank room list p x rest r at stops = by_view (list_view rank room list p x rest at r)
  where
    s : Stops rank rest
    s = let low = list_low rank list in stops_of rank x rest (omega (arith, low)) stops

    by_view : ListView rank p x.node rest ⊎ ValueAt (rank + 1) room x → Leads (Joins rank) (rank + 1) room p x rest
    by_view (inl v) = record {
      first = value_of v.first;
      behind = each_of (further_line rank) v.others rest;
      read = v.read;
      at = value_at (rank + 1) room v.first v.stands (omega (arith, v.height, at.height, at.fits));
      stops = rests (rank + 1) (value_of v.first) (each_of (further_line rank) v.others rest) (list_low rank list) (operand_stops rank list v.others rest s);
      after = First v.others v.is v.each v.some refl;
    }
    by_view (inr higher) = record {
      first = x;
      behind = rest;
      read = r;
      at = higher;
      stops = rests (rank + 1) x rest (list_low rank list) (stops_higher rank (rank + 1) rest (omega arith) s);
      after = Alone refl refl;
    }

-- the operand alone, where another token stands next
pub joined_alone : (rank n : ℕ) → IsListRank rank → (head x : Value) (behind rest : List Piece) (m : Place) → IsStrength m n → (n ≡ rank + 1 → ⊥) → Joins rank head x behind rest → Reads m behind
    → (head ≡ x) × Reads m rest
joined_alone rank n list head x behind rest m is other (Alone e b) r = (sym e, subst (Reads m) b r)
joined_alone rank n list head x behind rest m is other (First others layer each some b) r = absurd (by_list others some (subst (Reads m) b r))
  where
    by_list : (xs : List (Further Expr)) → is_empty xs ≡ false → Reads m (each_of (further_line rank) xs rest) → ⊥
    by_list [] e q = true≢false e
    by_list (y ∷ ys) e q = goes_no_further rank n list m is other y (each_of (further_line rank) ys rest) q

-- the operands behind it
pub record IsJoined (rank : ℕ) (head x : Value) (m : Place) (rest : List Piece) : Type 0 where
  pub others : List (Further Expr)
  pub is : out-Expr x.node ≡ list_layer rank head.node others
  pub each : list_all (further_stands rank) others ≡ true
  pub some : is_empty others ≡ false
  pub stops : Stops rank rest
  pub read : Reads m (each_of (further_line rank) others rest)

pub joined_others : (rank : ℕ) → IsListRank rank → (head x : Value) (behind rest : List Piece) (m : Place) → IsStrength m (rank + 1) → ValueStops rank x rest → Joins rank head x behind rest → Reads m behind
    → IsJoined rank head x m rest
joined_others rank list head x behind rest m is stops joins r = by_case joins
  where
    s : Stops rank rest
    s = let low = list_low rank list in stops_of rank x rest (omega (arith, low)) stops

    by_case : Joins rank head x behind rest → IsJoined rank head x m rest
    by_case (Alone e b) = absurd (goes_on rank m is rest s (subst (Reads m) b r))
    by_case (First others layer each some b) = record { others = others; is = layer; each = each; some = some; stops = s; read = subst (Reads m) b r }

-- a first operand and what is read on behind it
pub joined_read : (rank room : ℕ) → IsListRank rank → (p m n : Place) (head : Value) (result : Result Value TokenFault) → ReadsExpr (rank + 1) room p m (Ok head) → GoesOn (Joins rank) rank room head m n result
    → ReadsExpr rank room p n result
joined_read rank room list p m n head result first goes =
    read_on {B = Joins rank} {After = Joins rank} (rank + 1) rank room p m n head result first goes (λ x rest r at s. joined_view rank room list p x rest r at s) (λ x behind rest a at s r. a)

-- nothing is asked of what is behind
abbrev Anything : Value → Value → List Piece → List Piece → Type 0
Anything head x behind rest = Unit {0}

descends : (n lowest upper room : ℕ) → upper ≡ lowest + n → BINARY ≤ lowest → upper ≤ POWER → (p : Place) (x : Value) (rest : List Piece) → Reads p (value_line x rest) → ValueAt lowest room x
    → ValueStops lowest x rest → Leads Anything upper room p x rest
descends zero lowest upper room e low most p x rest r at s =
    let same : lowest ≡ upper = omega (arith, e) in
    subst (λ (k : ℕ). Leads Anything k room p x rest) same (record { first = x; behind = rest; read = r; at = at; stops = s; after = tt })
descends (suc n) lowest upper room e low most p x rest r at s =
    let v = joined_view lowest room (inr (low, omega (arith, e, most))) p x rest r at s in
    let w = descends n (lowest + 1) upper room (omega (arith, e)) (omega (arith, low)) most p v.first v.behind v.read v.at v.stops in
    record { first = w.first; behind = w.behind; read = w.read; at = w.at; stops = w.stops; after = tt }

-- where an expression of a higher level fails one of the lowest does
pub binary_fails : (lowest upper room : ℕ) → BINARY ≤ lowest → lowest ≤ upper → upper ≤ POWER → (p m : Place) (e : TokenFault) → ReadsExpr upper room p m (Err e)
    → (x : Value) (rest : List Piece) → Reads p (value_line x rest) → ValueAt lowest room x → ValueStops lowest x rest → IsWant e
binary_fails lowest upper room low less most p m e reads x rest r at s =
    first_fails upper room p x rest (descends (upper - lowest) lowest upper room (omega (arith, less)) low most p x rest r at s) m e reads

-- the same, where the higher rank is told by itself
pub joined_below : (rank lower room : ℕ) → rank ≡ lower + 1 → IsListRank lower → (p m n : Place) (head : Value) (result : Result Value TokenFault) → ReadsExpr rank room p m (Ok head)
    → GoesOn (Joins lower) lower room head m n result → ReadsExpr lower room p n result
joined_below rank lower room e list p m n head result first goes = joined_read lower room list p m n head result (subst (λ (k : ℕ). ReadsExpr k room p m (Ok head)) e first) goes

-- LEVELS

or_true : (a b : Bool) → (a || b) ≡ true → (a ≡ true) ⊎ (b ≡ true)
or_true true b e = inl refl
or_true false b e = inr e

-- the levels that are none of those with a rule of their own
pub between : (level : ℕ) → is_level level ≡ true → (level ≡ 0 → ⊥) → (level ≡ 1 → ⊥) → (level ≡ 14 → ⊥) → (level ≡ 18 → ⊥) → (3 ≤ level) × (level ≤ 13)
between level h comma assign unary new =
    ⊎_elim
    (λ (a : (level == 0 || level == 1 || (nat_le 3 level && nat_le level 14)) ≡ true).
    ⊎_elim (λ (b : (level == 0 || level == 1) ≡ true). absurd (⊎_elim (λ (d : (level == 0) ≡ true). comma (equal level 0 d)) (λ (d : (level == 1) ≡ true). assign (equal level 1 d)) (or_true (level == 0) (level == 1) b))) middle
    (or_true (level == 0 || level == 1) (nat_le 3 level && nat_le level 14) a))
    (λ (a : (level == 18) ≡ true). absurd (new (equal level 18 a)))
    (or_true (level == 0 || level == 1 || (nat_le 3 level && nat_le level 14)) (level == 18) h)
  where
    lower : (a : ℕ) → nat_le a 14 ≡ true → (a ≡ 14 → ⊥) → a ≤ 13
    lower a k other = grind (arith, nat_tests, k, other)

    middle : (nat_le 3 level && nat_le level 14) ≡ true → (3 ≤ level) × (level ≤ 13)
    middle e = let s : (nat_le 3 level ≡ true) × (nat_le level 14 ≡ true) = and_parts (nat_le 3 level) (nat_le level 14) e in (at_least 3 level s.0, lower level s.1 unary)
