-- The substitutions of a template, read one by one, each with the part behind it.
use Rattle.std.proofs.Common.{◌≡◌, ◌⊎◌, ⊎_elim, inl, inr, ℕ, zero, suc, ◌≤◌, max, Bool, true, false, not, List, [], ◌∷◌, ◌++◌, refl, sym, ap, ◌∙◌, subst, arith, append_assoc, get_or, true≢false, Result, Ok, Err, IfOk}
use Rattle.std.proofs.lemmas.Bool.{and_from, and_parts}
use Rattle.std.specs.List.{list_all}
use Rattle.js_tree.specs.declared.lists.Listed.{Listed}
use Rattle.js_tree.specs.declared.lists.Template.{Template}
use Rattle.js_tree.specs.declared.token.Token.{Token}
use Rattle.js_tree.specs.declared.token.TokenClass.{TokenClass}
use Rattle.js_tree.specs.declared.token.TokenClass.TheVariants as class
use Rattle.js_tree.specs.declared.token_kind.TokenKind.{TokenKind}
use Rattle.js_tree.specs.declared.token_kind.TokenKind.TheVariants as kinds
use Rattle.js_tree.specs.declared.tree.Expr.{Expr}
use Rattle.js_tree.specs.Lexical.{Next}
use Rattle.js_tree.specs.Lexical.Mark.{marks}
use Rattle.js_tree.specs.Lexing.{Place, place_in, words}
use Rattle.js_tree.specs.Pieces.{Piece, Tok, Onto, kind as kind_of}
use Rattle.js_tree.specs.Spelling.{expr, tallest_of}
use Rattle.js_tree.specs.Spelling.Nodes.{is_empty, pieces, unmarked}
use Rattle.js_tree.specs.Spelling.Rows.{template_head, template_mark, template_parts}
use Rattle.js_tree.specs.TokenKinds.{is, kind_of as kind_in, mark_kinds, word_kinds}
use Rattle.js_tree.proofs.KindLemmas.{is_itself, is_same}
use Rattle.js_tokens.proofs.PieceLemmas.{same_test}
use Rattle.js_tokens.specs.Ahead.{Blind, IsNextKind, IsTwin, reads}
use Rattle.js_tokens.specs.Pieces.{Reads, Read, Passes}
use Rattle.js_tokens.specs.declared.fault.TokenFault.{TokenFault}
use Rattle.js_tokens.specs.declared.goal.Goal.TheVariants as goal
use Rattle.js_parser.proofs.ExprLemmas.{value_of, value_at}
use Rattle.js_parser.proofs.HeadLemmas.{one_told, plain_told}
use Rattle.js_parser.proofs.ListLemmas.{AllOf, good-push}
use Rattle.js_parser.proofs.OperandLemmas.{some_pushed}
use Rattle.js_parser.proofs.PlaceLemmas.{passes_none, passes_on}
use Rattle.js_parser.proofs.ReadLemmas.{IsWant}
use Rattle.js_parser.specs.Following.{Stops, is_part, strength}
use Rattle.js_parser.specs.Nodes.{SubstitutionsAt, TemplateAt, ValueAt, expr_line, higher, substitution_stands, template_line}
use Rattle.js_parser.specs.declared.tall.Tall.{Tall}

abbrev pub parts_line : List (Listed Expr) → Onto
parts_line = template_parts pieces expr_line

abbrev pub part_height : Listed Expr → ℕ
part_height x = (expr x.item).height

-- the height of substitutions as the rows have it
pub parts_tall : (xs : List (Listed Expr)) → template_parts unmarked higher xs 0 ≡ tallest_of part_height xs
parts_tall [] = refl
parts_tall (x ∷ xs) = ap (max (part_height x)) (parts_tall xs)

-- THE HEAD

-- a template without substitutions, by the kind that is told
pub whole : (p : Place) (k : TokenKind) → IsNextKind p k → is kinds.TemplateWhole k ≡ true → (x : Template Expr) (rest : List Piece) → Reads p (template_line x rest) → (x.parts ≡ []) × Reads p (Tok x.head (is kinds.TemplateWhole) ∷ rest)
whole p k next here x rest r = by_parts x.parts r
  where
    by_parts : (parts : List (Listed Expr)) → Reads p (Tok x.head (template_head parts) ∷ parts_line parts rest) → (parts ≡ []) × Reads p (Tok x.head (is kinds.TemplateWhole) ∷ rest)
    by_parts [] m = (refl, m)
    by_parts (y ∷ ys) m =
        absurd (let e : kinds.TemplateWhole ≡ kinds.TemplateHead = sym (is_same kinds.TemplateWhole k here) ∙ one_told p k kinds.TemplateHead x.head (parts_line (y ∷ ys) rest) next refl m in cc)

-- one with some
pub parted : (p : Place) (k : TokenKind) → IsNextKind p k → is kinds.TemplateWhole k ≡ false → (x : Template Expr) (rest : List Piece) → Reads p (template_line x rest)
    → (is_empty x.parts ≡ false) × Reads p (Tok x.head (is kinds.TemplateHead) ∷ parts_line x.parts rest)
parted p k next other x rest r = by_parts x.parts r
  where
    by_parts : (parts : List (Listed Expr)) → Reads p (Tok x.head (template_head parts) ∷ parts_line parts rest) → (is_empty parts ≡ false) × Reads p (Tok x.head (is kinds.TemplateHead) ∷ parts_line parts rest)
    by_parts [] m = absurd (true≢false (sym (ap (is kinds.TemplateWhole) (one_told p k kinds.TemplateWhole x.head rest next refl m)) ∙ other))
    by_parts (y ∷ ys) m = (refl, m)

pub some_head : (xs : List (Listed Expr)) → is_empty xs ≡ false → template_head xs ≡ is kinds.TemplateHead
some_head [] e = absurd (true≢false e)
some_head (x ∷ xs) e = refl

pub parts_in : (room : ℕ) (x : Tall (Template Expr)) → is_empty x.node.parts ≡ false → TemplateAt room x → SubstitutionsAt room (record { node = x.node.parts; height = x.height })
parts_in room x some at = record { each = at.each; some = some; height = at.height ∙ parts_tall x.node.parts; fits = at.fits }

-- PARTS

-- the goal Template reads parts
pub part_read : (k : TokenKind) → is_part k ≡ true → reads goal.Template k ≡ true
part_read kinds.TemplateMiddle e = refl
part_read kinds.TemplateTail e = refl
part_read _ e = absurd (true≢false (sym e))

no_slash : (k : TokenKind) → k ≡ kinds.RightBrace → (k ≡ kinds.Slash) ⊎ (k ≡ kinds.SlashAssign) → ⊥
no_slash k brace (inl s) = let e : kinds.RightBrace ≡ kinds.Slash = sym brace ∙ s in cc
no_slash k brace (inr s) = let e : kinds.RightBrace ≡ kinds.SlashAssign = sym brace ∙ s in cc

-- what it reads where a `}` is told is one
pub part_taken : (j k : TokenKind) → is kinds.RightBrace k ≡ true → reads goal.Template j ≡ true → (j ≡ k) ⊎ IsTwin j k → is_part j ≡ true
part_taken j k here read h = ⊎_elim (λ (e : j ≡ k). absurd (true≢false (sym read ∙ ap (reads goal.Template) (e ∙ brace)))) (λ (w : IsTwin j k). by_twin j w) h
  where
    brace : k ≡ kinds.RightBrace
    brace = is_same kinds.RightBrace k here

    by_twin : (j : TokenKind) → IsTwin j k → is_part j ≡ true
    by_twin kinds.TemplateMiddle w = refl
    by_twin kinds.TemplateTail w = refl
    by_twin kinds.Regex w = absurd (no_slash k brace w)
    by_twin _ w = absurd w

pub part_ok : (k : TokenKind) (p q : Place) (result : Result Token TokenFault) → IsNextKind p k → is kinds.RightBrace k ≡ true → IfOk result (λ t. Next p t q × (reads goal.Template (kind_of t) ≡ true))
    → IfOk result (λ t. Next p t q × (is_part (kind_of t) ≡ true))
part_ok k p q (Ok t) next here a = (a.0, part_taken (kind_of t) k here a.1 (next.all t q a.0))
part_ok k p q (Err e) next here a = tt

-- none stands where another token is told
pub no_part : (p q : Place) (t : Token) (k : TokenKind) → IsNextKind p k → is kinds.RightBrace k ≡ false → Next p t q → is_part (kind_of t) ≡ true → ⊥
no_part p q t k next other a part = ⊎_elim (λ (e : kind_of t ≡ k). odd (kind_of t) part (ap (reads goal.Operator) e ∙ plain_told p q t k next a)) (λ (w : IsTwin (kind_of t) k). by_twin (kind_of t) part w) (next.all t q a)
  where
    odd : (j : TokenKind) → is_part j ≡ true → reads goal.Operator j ≡ true → ⊥
    odd kinds.TemplateMiddle e r = true≢false (sym r)
    odd kinds.TemplateTail e r = true≢false (sym r)
    odd _ e r = true≢false (sym e)

    by_twin : (j : TokenKind) → is_part j ≡ true → IsTwin j k → ⊥
    by_twin kinds.TemplateMiddle e w = true≢false (sym (ap (is kinds.RightBrace) w) ∙ other)
    by_twin kinds.TemplateTail e w = true≢false (sym (ap (is kinds.RightBrace) w) ∙ other)
    by_twin _ e w = true≢false (sym e)

-- the mark behind a substitution is a part
pub mark_part : (xs : List (Listed Expr)) (k : TokenKind) → template_mark xs k ≡ true → is_part k ≡ true
mark_part [] k e = ap is_part (is_same kinds.TemplateTail k e)
mark_part (x ∷ xs) k e = ap is_part (is_same kinds.TemplateMiddle k e)

-- what fails for each kind of a table fails for the kind at each place of it
none_at : (test : TokenKind → Bool) (ks : List TokenKind) (i : ℕ) → list_all (λ k. not (test k)) ks ≡ true → false ≡ test kinds.End → false ≡ test (get_or ks i kinds.End)
none_at test [] i each end = end
none_at test (k ∷ ks) zero each end = by_test (test k) (and_parts (not (test k)) _ each).0
  where
    by_test : (b : Bool) → not b ≡ true → false ≡ b
    by_test false e = refl
    by_test true e = absurd (true≢false (sym e))
none_at test (k ∷ ks) (suc i) each end = none_at test ks i (and_parts (not (test k)) _ each).1 end

-- a token of another class isn't a part before a further substitution
pub no_middle : (c : TokenClass) (text : List ℕ) → (c ≡ class.TemplateMiddle → ⊥) → false ≡ is kinds.TemplateMiddle (kind_in c text)
no_middle class.TemplateMiddle text other = absurd (other refl)
no_middle class.Word text other = none_at (is kinds.TemplateMiddle) word_kinds (place_in words text) refl refl
no_middle class.Punct text other = none_at (is kinds.TemplateMiddle) mark_kinds (place_in marks text) refl refl
no_middle _ text other = refl

-- `}` and parts of a template
abbrev ends_value : TokenKind → Bool
ends_value kinds.RightBrace = true
ends_value kinds.TemplateMiddle = true
ends_value kinds.TemplateTail = true
ends_value _ = false

blind_ends : Blind ends_value
blind_ends = record { slash = refl; slash_assign = refl; middle = refl; tail = refl }

part_ends : (k : TokenKind) → is_part k ≡ true → ends_value k ≡ true
part_ends kinds.TemplateMiddle e = refl
part_ends kinds.TemplateTail e = refl
part_ends _ e = absurd (true≢false (sym e))

weak : (k : TokenKind) (nl : Bool) → ends_value k ≡ true → strength k nl ≡ 0
weak kinds.RightBrace nl e = refl
weak kinds.TemplateMiddle nl e = refl
weak kinds.TemplateTail nl e = refl
weak _ nl e = absurd (true≢false (sym e))

-- no expression goes on with a part
pub part_stops : (t : Token) (test : TokenKind → Bool) (rest : List Piece) → ((k : TokenKind) → test k ≡ true → is_part k ≡ true) → Stops 0 (Tok t test ∷ rest)
part_stops t test rest part m r u n next read =
    let e = weak (kind_of u) u.nl_before (same_test ends_value blind_ends m n r.0 u t next r.1 ∙ part_ends (kind_of t) (part (kind_of t) r.2)) in
    omega (arith, e)

-- SEVERAL

-- a substitution no taller than the room
abbrev pub IsSubstitution : ℕ → Listed Expr → Type 0
IsSubstitution room x = (substitution_stands x ≡ true) × (part_height x ≤ room)

pub substitution_at : (room : ℕ) (x : Listed Expr) → IsSubstitution room x → ValueAt 0 room (value_of x.item)
substitution_at room x at = value_at 0 room x.item at.0 at.1

all_of : (room : ℕ) (xs : List (Listed Expr)) → list_all substitution_stands xs ≡ true → tallest_of part_height xs ≤ room → AllOf (IsSubstitution room) xs
unfolding AllOf
all_of room [] e h = tt
all_of room (x ∷ xs) e h = let s = and_parts _ _ e in ((s.0, omega (arith, h)), all_of room xs s.1 (omega (arith, h)))

pub substitutions_of : (room : ℕ) (x : Tall (List (Listed Expr))) → SubstitutionsAt room x → AllOf (IsSubstitution room) x.node
substitutions_of room x at = all_of room x.node at.each (omega (arith, at.height, at.fits))

of_all : (room : ℕ) (xs : List (Listed Expr)) → AllOf (IsSubstitution room) xs → (list_all substitution_stands xs ≡ true) × (tallest_of part_height xs ≤ room)
unfolding AllOf
of_all room [] a = (refl, omega arith)
of_all room (x ∷ xs) a = let m = of_all room xs a.1 in (and_from _ _ a.0.0 m.0, omega (arith, a.0.1, m.1))

pub substitutions_at : (room height : ℕ) (xs : List (Listed Expr)) → AllOf (IsSubstitution room) xs → is_empty xs ≡ false → height ≡ tallest_of part_height xs → SubstitutionsAt room (record { node = xs; height = height })
substitutions_at room height xs a some same = let m = of_all room xs a in record { each = m.0; some = some; height = same; fits = omega (arith, same, m.1) }

-- substitutions with the parts behind them, where a further one follows, or where none does
abbrev pub last_part : Bool → TokenKind
last_part true = kinds.TemplateMiddle
last_part false = kinds.TemplateTail

abbrev front_mark : Bool → List (Listed Expr) → TokenKind → Bool
front_mark more [] = is (last_part more)
front_mark more (x ∷ xs) = is kinds.TemplateMiddle

abbrev pub front_line : Bool → List (Listed Expr) → Onto
front_line more [] rest = rest
front_line more (x ∷ xs) rest = expr_line x.item (Tok x.mark (front_mark more xs) ∷ front_line more xs rest)

front_push : (more : Bool) (xs : List (Listed Expr)) (x : Listed Expr) (rest : List Piece) → front_line more (xs ++ x ∷ []) rest ≡ front_line true xs (expr_line x.item (Tok x.mark (is (last_part more)) ∷ rest))
front_push more [] x rest = refl
front_push more (y ∷ []) x rest = refl
front_push more (y ∷ z ∷ zs) x rest = ap (λ ps. expr_line y.item (Tok y.mark (is kinds.TemplateMiddle) ∷ ps)) (front_push more (z ∷ zs) x rest)

pub front_whole : (xs : List (Listed Expr)) (rest : List Piece) → front_line false xs rest ≡ parts_line xs rest
front_whole [] rest = refl
front_whole (x ∷ []) rest = refl
front_whole (x ∷ y ∷ ys) rest = ap (λ ps. expr_line x.item (Tok x.mark (is kinds.TemplateMiddle) ∷ ps)) (front_whole (y ∷ ys) rest)

-- a further substitution, with what follows it
pub record FurtherPart (room : ℕ) (front xs : List (Listed Expr)) (m : Place) (rest : List Piece) : Type 0 where
  pub next : Listed Expr
  pub others : List (Listed Expr)
  pub same : xs ≡ front ++ next ∷ others
  pub read : Reads m (parts_line (next ∷ others) rest)
  pub good : IsSubstitution room next
  pub each : AllOf (IsSubstitution room) others

-- what is left of substitutions whose front was read
abbrev pub Left : Bool → ℕ → List (Listed Expr) → List (Listed Expr) → Place → List Piece → Type 0
Left true room front xs m rest = FurtherPart room front xs m rest
Left false room front xs m rest = (front ≡ xs) × Reads m rest

-- the substitutions were read from p to m, and whatever could be read at p begins with them
pub record Parts (room : ℕ) (p : Place) (front : List (Listed Expr)) (more : Bool) (m : Place) : Type 0 where
  pub found : Read p (front_line more front) m
  pub good : AllOf (IsSubstitution room) front
  pub some : more ≡ false → is_empty front ≡ false
  pub only : (xs : List (Listed Expr)) (rest : List Piece) → Reads p (parts_line xs rest) → AllOf (IsSubstitution room) xs → is_empty xs ≡ false → Left more room front xs m rest
  pub passes : Passes p m

pub parts_none : (room : ℕ) (p : Place) → Parts room p [] true p
unfolding AllOf
parts_none room p = record { found = λ rest r. r; good = tt; some = λ e. absurd (true≢false e); only = λ xs rest r a some. by_list xs rest r a some; passes = passes_none p }
  where
    by_list : (xs : List (Listed Expr)) (rest : List Piece) → Reads p (parts_line xs rest) → AllOf (IsSubstitution room) xs → is_empty xs ≡ false → FurtherPart room [] xs p rest
    by_list [] rest r a some = absurd (true≢false some)
    by_list (x ∷ xs) rest r a some = record { next = x; others = xs; same = refl; read = r; good = a.0; each = a.1 }

-- the part tells whether a further substitution follows
part_kind : (k : TokenKind) → is_part k ≡ true → k ≡ last_part (is kinds.TemplateMiddle k)
part_kind kinds.TemplateMiddle e = refl
part_kind kinds.TemplateTail e = refl
part_kind _ e = absurd (true≢false (sym e))

-- one more substitution and the part behind it
pub parts_more : (room : ℕ) (p m n k : Place) (front : List (Listed Expr)) (x : Listed Expr) → Parts room p front true m → Read m (expr_line x.item) n → IsSubstitution room x → Passes m n
    → Next n x.mark k → is_part (kind_of x.mark) ≡ true → Passes n k
    → ((y : Listed Expr) (rest : List Piece) → Reads m (expr_line y.item rest) → IsSubstitution room y → Stops 0 rest → (x.item ≡ y.item) × Reads n rest)
    → ((t : Token) (test : TokenKind → Bool) (rest : List Piece) → ((j : TokenKind) → test j ≡ true → is_part j ≡ true) → Reads n (Tok t test ∷ rest) → (x.mark ≡ t) × Reads k rest)
    → Parts room p (front ++ x ∷ []) (is kinds.TemplateMiddle (kind_of x.mark)) k
unfolding AllOf
parts_more room p m n k front x before found good passes next part past only one = record {
  found = λ rest r. subst (λ (ps : List Piece). Reads p ps) (sym (front_push (is kinds.TemplateMiddle (kind_of x.mark)) front x rest))
      (before.found (expr_line x.item (Tok x.mark (is (last_part (is kinds.TemplateMiddle (kind_of x.mark)))) ∷ rest)) (found (Tok x.mark (is (last_part (is kinds.TemplateMiddle (kind_of x.mark)))) ∷ rest) (k, next, fits, r)));
  good = good-push (λ (y : Listed Expr) (ps : List Piece). ps) (IsSubstitution room) (λ ps. Unit {0}) (λ y ps. Unit {0}) front x before.good good;
  some = λ e. some_pushed front x;
  only = λ xs rest r a some. let f = before.only xs rest r a some in onward xs rest f.next f.others f.same f.read f.good f.each;
  passes = passes_on p m k before.passes (passes_on m n k passes past);
}
  where
    fits : is (last_part (is kinds.TemplateMiddle (kind_of x.mark))) (kind_of x.mark) ≡ true
    fits = ap (λ (j : TokenKind). is j (kind_of x.mark)) (sym (part_kind (kind_of x.mark) part)) ∙ is_itself (kind_of x.mark)

    onward : (xs : List (Listed Expr)) (rest : List Piece) (y : Listed Expr) (ys : List (Listed Expr)) → xs ≡ front ++ y ∷ ys → Reads m (parts_line (y ∷ ys) rest) → IsSubstitution room y → AllOf (IsSubstitution room) ys
        → Left (is kinds.TemplateMiddle (kind_of x.mark)) room (front ++ x ∷ []) xs k rest
    onward xs rest y ys e r here each =
        let a = only y (Tok y.mark (template_mark ys) ∷ parts_line ys rest) r here (part_stops y.mark (template_mark ys) (parts_line ys rest) (mark_part ys)) in
        let b = one y.mark (template_mark ys) (parts_line ys rest) (mark_part ys) a.1 in
        let same : x ≡ y = (λ i. record { item = a.0 i; mark = b.0 i }) in
        by_others ys (e ∙ ap (λ (z : Listed Expr). front ++ z ∷ ys) (sym same)) (ap (λ (t : Token). template_mark ys (kind_of t)) b.0 ∙ a.1.2) b.1 each
      where
        by_others : (ys : List (Listed Expr)) → xs ≡ front ++ x ∷ ys → template_mark ys (kind_of x.mark) ≡ true → Reads k (parts_line ys rest) → AllOf (IsSubstitution room) ys
            → Left (is kinds.TemplateMiddle (kind_of x.mark)) room (front ++ x ∷ []) xs k rest
        by_others [] e mark r each =
            subst (λ (more : Bool). Left more room (front ++ x ∷ []) xs k rest) (sym (ap (is kinds.TemplateMiddle) (is_same kinds.TemplateTail (kind_of x.mark) mark))) (sym e, r)
        by_others (z ∷ zs) e mark r each =
            subst (λ (more : Bool). Left more room (front ++ x ∷ []) xs k rest) (sym mark)
            (record { next = z; others = zs; same = e ∙ sym (append_assoc front (x ∷ []) (z ∷ zs)); read = r; good = each.0; each = each.1 })

-- what can't be read refuses all substitutions
pub parts_refused : (room : ℕ) (p m : Place) (front : List (Listed Expr)) (e : TokenFault) → Parts room p front true m
    → ((y : Listed Expr) (test : TokenKind → Bool) (rest : List Piece) → ((j : TokenKind) → test j ≡ true → is_part j ≡ true) → Reads m (expr_line y.item (Tok y.mark test ∷ rest)) → IsSubstitution room y → IsWant e)
    → (xs : List (Listed Expr)) (rest : List Piece) → Reads p (parts_line xs rest) → AllOf (IsSubstitution room) xs → is_empty xs ≡ false → IsWant e
parts_refused room p m front e before only xs rest r a some =
    let f = before.only xs rest r a some in only f.next (template_mark f.others) (parts_line f.others rest) (mark_part f.others) f.read f.good
