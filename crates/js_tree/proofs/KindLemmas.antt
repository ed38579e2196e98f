-- A test that holds of each kind in the list holds of every kind, and kinds are told apart by their numbers.
use Rattle.std.proofs.Common.{◌≡◌, ℕ, zero, suc, ◌==◌, Bool, true, false, ◌&&◌, not, List, [], ◌∷◌, refl, sym, ap, ◌∙◌, arith}
use Rattle.std.specs.List.{list_all}
use Rattle.std.proofs.lemmas.Bool.Decides.{nat_tests}
use Rattle.js_tree.specs.declared.token_kind.TokenKind.{TokenKind}
use Rattle.js_tree.specs.declared.token_kind.TokenKind.TheVariants as kind
use Rattle.js_tree.specs.TokenKinds.{all_kinds, code, is}

-- the item at a place
abbrev item_at : List TokenKind → ℕ → TokenKind
item_at [] i = kind.End
item_at (k ∷ ks) zero = k
item_at (k ∷ ks) (suc i) = item_at ks i

first_of : (b c : Bool) → (b && c) ≡ true → b ≡ true
first_of true c e = refl
first_of false c e = e

second_of : (b c : Bool) → (b && c) ≡ true → c ≡ true
second_of true c e = e
second_of false c e = absurd (let k : false ≡ true = e in cc)

passes_at : (p : TokenKind → Bool) (ks : List TokenKind) → p kind.End ≡ true → list_all p ks ≡ true → (i : ℕ) → p (item_at ks i) ≡ true
passes_at p [] end e i = end
passes_at p (k ∷ ks) end e zero = first_of (p k) (list_all p ks) e
passes_at p (k ∷ ks) end e (suc i) = passes_at p ks end (second_of (p k) (list_all p ks) e) i

-- a kind stands in the list at its number
pub stands_at : (k : TokenKind) → item_at all_kinds (code k) ≡ k
stands_at kind.Name = refl
stands_at kind.Number = refl
stands_at kind.Str = refl
stands_at kind.TemplateWhole = refl
stands_at kind.TemplateHead = refl
stands_at kind.TemplateMiddle = refl
stands_at kind.TemplateTail = refl
stands_at kind.Regex = refl
stands_at kind.End = refl
stands_at kind.LeftBrace = refl
stands_at kind.RightBrace = refl
stands_at kind.LeftParen = refl
stands_at kind.RightParen = refl
stands_at kind.LeftBracket = refl
stands_at kind.RightBracket = refl
stands_at kind.Dot = refl
stands_at kind.Dots = refl
stands_at kind.Semicolon = refl
stands_at kind.Comma = refl
stands_at kind.Less = refl
stands_at kind.Greater = refl
stands_at kind.LessEquals = refl
stands_at kind.GreaterEquals = refl
stands_at kind.Equals = refl
stands_at kind.NotEquals = refl
stands_at kind.StrictEquals = refl
stands_at kind.StrictNotEquals = refl
stands_at kind.Plus = refl
stands_at kind.Minus = refl
stands_at kind.Star = refl
stands_at kind.Slash = refl
stands_at kind.Percent = refl
stands_at kind.Stars = refl
stands_at kind.Increment = refl
stands_at kind.Decrement = refl
stands_at kind.LeftShift = refl
stands_at kind.RightShift = refl
stands_at kind.UnsignedShift = refl
stands_at kind.Ampersand = refl
stands_at kind.Bar = refl
stands_at kind.Caret = refl
stands_at kind.Not = refl
stands_at kind.Tilde = refl
stands_at kind.And = refl
stands_at kind.Or = refl
stands_at kind.Question = refl
stands_at kind.Colon = refl
stands_at kind.Assign = refl
stands_at kind.PlusAssign = refl
stands_at kind.MinusAssign = refl
stands_at kind.StarAssign = refl
stands_at kind.SlashAssign = refl
stands_at kind.PercentAssign = refl
stands_at kind.StarsAssign = refl
stands_at kind.LeftShiftAssign = refl
stands_at kind.RightShiftAssign = refl
stands_at kind.UnsignedShiftAssign = refl
stands_at kind.AmpersandAssign = refl
stands_at kind.BarAssign = refl
stands_at kind.CaretAssign = refl
stands_at kind.Arrow = refl
stands_at kind.Break = refl
stands_at kind.Case = refl
stands_at kind.Catch = refl
stands_at kind.Class = refl
stands_at kind.Const = refl
stands_at kind.Continue = refl
stands_at kind.Debugger = refl
stands_at kind.Default = refl
stands_at kind.Delete = refl
stands_at kind.Do = refl
stands_at kind.Else = refl
stands_at kind.Enum = refl
stands_at kind.Export = refl
stands_at kind.Extends = refl
stands_at kind.False = refl
stands_at kind.Finally = refl
stands_at kind.For = refl
stands_at kind.Function = refl
stands_at kind.If = refl
stands_at kind.Import = refl
stands_at kind.In = refl
stands_at kind.Instanceof = refl
stands_at kind.Let = refl
stands_at kind.New = refl
stands_at kind.Null = refl
stands_at kind.Return = refl
stands_at kind.Super = refl
stands_at kind.Switch = refl
stands_at kind.This = refl
stands_at kind.Throw = refl
stands_at kind.True = refl
stands_at kind.Try = refl
stands_at kind.Typeof = refl
stands_at kind.Var = refl
stands_at kind.Void = refl
stands_at kind.While = refl
stands_at kind.With = refl

-- the ninth of the list is `End`
end_passes : (p : TokenKind → Bool) → list_all p all_kinds ≡ true → p kind.End ≡ true
end_passes p e = first_of (p kind.End) _ (second_of (p kind.Regex) _ (second_of (p kind.TemplateTail) _ (second_of (p kind.TemplateMiddle) _ (second_of (p kind.TemplateHead) _ (second_of (p kind.TemplateWhole) _ (second_of (p kind.Str) _ (second_of (p kind.Number) _ (second_of (p kind.Name) _ e))))))))

same_number : (a b : ℕ) → (a == b) ≡ true → a ≡ b
same_number a b e = grind (arith, nat_tests, e)

itself : (a : ℕ) → (a == a) ≡ true
itself a = grind (arith, nat_tests)

other : (b c : Bool) → not (b && c) ≡ true → b ≡ true → c ≡ false
other true true e h = absurd (let k : false ≡ true = e in cc)
other true false e h = refl
other false c e h = absurd (let k : false ≡ true = h in cc)

-- what holds of each kind in the list holds of every kind
pub every : (p : TokenKind → Bool) → list_all p all_kinds ≡ true → (k : TokenKind) → p k ≡ true
every p e k = ap p (sym (stands_at k)) ∙ passes_at p all_kinds (end_passes p e) e (code k)

-- the kind of which the test holds is this one
pub is_same : (a b : TokenKind) → is a b ≡ true → b ≡ a
is_same a b e = sym (stands_at b) ∙ ap (item_at all_kinds) (same_number (code b) (code a) e) ∙ stands_at a

pub is_itself : (k : TokenKind) → is k k ≡ true
is_itself k = itself (code k)

-- two tests of which none holds with the other
pub differ : (p q : TokenKind → Bool) → list_all (λ k. not (p k && q k)) all_kinds ≡ true → (k : TokenKind) → p k ≡ true → q k ≡ false
differ p q e k holds = other (p k) (q k) (every (λ j. not (p j && q j)) e k) holds
