-- The kinds of tokens: which mark, which word, or which other class (ECMA-262, clause 11).
use Rattle.std.specs.Prelude.{ℕ, ◌==◌, Bool, List, [], ◌∷◌, slice_index_or}
use Rattle.js_tree.specs.declared.token.TokenClass.{TokenClass}
use Rattle.js_tree.specs.declared.token.TokenClass.TheVariants as class
use Rattle.js_tree.specs.declared.token_kind.TokenKind.{TokenKind}
use Rattle.js_tree.specs.declared.token_kind.TokenKind.TheVariants as kind
use Rattle.js_tree.specs.Lexical.Mark.{marks}
use Rattle.js_tree.specs.Lexing.{place_in, words}

-- the kinds of the table of marks, in its order
abbrev pub mark_kinds : List TokenKind
mark_kinds = kind.LeftBrace ∷ kind.RightBrace ∷ kind.LeftParen ∷ kind.RightParen ∷ kind.LeftBracket ∷ kind.RightBracket
    ∷ kind.Dot ∷ kind.Dots ∷ kind.Semicolon ∷ kind.Comma ∷ kind.Less ∷ kind.Greater ∷ kind.LessEquals
    ∷ kind.GreaterEquals ∷ kind.Equals ∷ kind.NotEquals ∷ kind.StrictEquals ∷ kind.StrictNotEquals ∷ kind.Plus
    ∷ kind.Minus ∷ kind.Star ∷ kind.Slash ∷ kind.Percent ∷ kind.Stars ∷ kind.Increment ∷ kind.Decrement
    ∷ kind.LeftShift ∷ kind.RightShift ∷ kind.UnsignedShift ∷ kind.Ampersand ∷ kind.Bar ∷ kind.Caret
    ∷ kind.Not ∷ kind.Tilde ∷ kind.And ∷ kind.Or ∷ kind.Question ∷ kind.Colon ∷ kind.Assign ∷ kind.PlusAssign
    ∷ kind.MinusAssign ∷ kind.StarAssign ∷ kind.SlashAssign ∷ kind.PercentAssign ∷ kind.StarsAssign
    ∷ kind.LeftShiftAssign ∷ kind.RightShiftAssign ∷ kind.UnsignedShiftAssign ∷ kind.AmpersandAssign
    ∷ kind.BarAssign ∷ kind.CaretAssign ∷ kind.Arrow ∷ []

-- the kinds of the table of words, in its order
abbrev pub word_kinds : List TokenKind
word_kinds = kind.Break ∷ kind.Case ∷ kind.Catch ∷ kind.Class ∷ kind.Const ∷ kind.Continue ∷ kind.Debugger ∷ kind.Default
    ∷ kind.Delete ∷ kind.Do ∷ kind.Else ∷ kind.Enum ∷ kind.Export ∷ kind.Extends ∷ kind.False ∷ kind.Finally
    ∷ kind.For ∷ kind.Function ∷ kind.If ∷ kind.Import ∷ kind.In ∷ kind.Instanceof ∷ kind.Let ∷ kind.New
    ∷ kind.Null ∷ kind.Return ∷ kind.Super ∷ kind.Switch ∷ kind.This ∷ kind.Throw ∷ kind.True ∷ kind.Try
    ∷ kind.Typeof ∷ kind.Var ∷ kind.Void ∷ kind.While ∷ kind.With ∷ []

-- the kind of a token of the class with this text
abbrev pub kind_of : TokenClass → List ℕ → TokenKind
kind_of class.Name text = kind.Name
kind_of class.Word text = slice_index_or word_kinds (place_in words text) kind.End
kind_of class.Number text = kind.Number
kind_of class.Str text = kind.Str
kind_of class.TemplateWhole text = kind.TemplateWhole
kind_of class.TemplateHead text = kind.TemplateHead
kind_of class.TemplateMiddle text = kind.TemplateMiddle
kind_of class.TemplateTail text = kind.TemplateTail
kind_of class.Regex text = kind.Regex
kind_of class.Punct text = slice_index_or mark_kinds (place_in marks text) kind.End
kind_of class.End text = kind.End

-- the kinds, each once, by their numbers
abbrev pub all_kinds : List TokenKind
all_kinds = kind.Name ∷ kind.Number ∷ kind.Str ∷ kind.TemplateWhole ∷ kind.TemplateHead ∷ kind.TemplateMiddle
    ∷ kind.TemplateTail ∷ kind.Regex ∷ kind.End ∷ kind.LeftBrace ∷ kind.RightBrace ∷ kind.LeftParen
    ∷ kind.RightParen ∷ kind.LeftBracket ∷ kind.RightBracket ∷ kind.Dot ∷ kind.Dots ∷ kind.Semicolon
    ∷ kind.Comma ∷ kind.Less ∷ kind.Greater ∷ kind.LessEquals ∷ kind.GreaterEquals ∷ kind.Equals
    ∷ kind.NotEquals ∷ kind.StrictEquals ∷ kind.StrictNotEquals ∷ kind.Plus ∷ kind.Minus ∷ kind.Star
    ∷ kind.Slash ∷ kind.Percent ∷ kind.Stars ∷ kind.Increment ∷ kind.Decrement ∷ kind.LeftShift
    ∷ kind.RightShift ∷ kind.UnsignedShift ∷ kind.Ampersand ∷ kind.Bar ∷ kind.Caret ∷ kind.Not ∷ kind.Tilde
    ∷ kind.And ∷ kind.Or ∷ kind.Question ∷ kind.Colon ∷ kind.Assign ∷ kind.PlusAssign ∷ kind.MinusAssign
    ∷ kind.StarAssign ∷ kind.SlashAssign ∷ kind.PercentAssign ∷ kind.StarsAssign ∷ kind.LeftShiftAssign
    ∷ kind.RightShiftAssign ∷ kind.UnsignedShiftAssign ∷ kind.AmpersandAssign ∷ kind.BarAssign
    ∷ kind.CaretAssign ∷ kind.Arrow ∷ kind.Break ∷ kind.Case ∷ kind.Catch ∷ kind.Class ∷ kind.Const
    ∷ kind.Continue ∷ kind.Debugger ∷ kind.Default ∷ kind.Delete ∷ kind.Do ∷ kind.Else ∷ kind.Enum
    ∷ kind.Export ∷ kind.Extends ∷ kind.False ∷ kind.Finally ∷ kind.For ∷ kind.Function ∷ kind.If ∷ kind.Import
    ∷ kind.In ∷ kind.Instanceof ∷ kind.Let ∷ kind.New ∷ kind.Null ∷ kind.Return ∷ kind.Super ∷ kind.Switch
    ∷ kind.This ∷ kind.Throw ∷ kind.True ∷ kind.Try ∷ kind.Typeof ∷ kind.Var ∷ kind.Void ∷ kind.While
    ∷ kind.With ∷ []

-- the number of a kind
abbrev pub code : TokenKind → ℕ
code kind.Name = 0
code kind.Number = 1
code kind.Str = 2
code kind.TemplateWhole = 3
code kind.TemplateHead = 4
code kind.TemplateMiddle = 5
code kind.TemplateTail = 6
code kind.Regex = 7
code kind.End = 8
code kind.LeftBrace = 9
code kind.RightBrace = 10
code kind.LeftParen = 11
code kind.RightParen = 12
code kind.LeftBracket = 13
code kind.RightBracket = 14
code kind.Dot = 15
code kind.Dots = 16
code kind.Semicolon = 17
code kind.Comma = 18
code kind.Less = 19
code kind.Greater = 20
code kind.LessEquals = 21
code kind.GreaterEquals = 22
code kind.Equals = 23
code kind.NotEquals = 24
code kind.StrictEquals = 25
code kind.StrictNotEquals = 26
code kind.Plus = 27
code kind.Minus = 28
code kind.Star = 29
code kind.Slash = 30
code kind.Percent = 31
code kind.Stars = 32
code kind.Increment = 33
code kind.Decrement = 34
code kind.LeftShift = 35
code kind.RightShift = 36
code kind.UnsignedShift = 37
code kind.Ampersand = 38
code kind.Bar = 39
code kind.Caret = 40
code kind.Not = 41
code kind.Tilde = 42
code kind.And = 43
code kind.Or = 44
code kind.Question = 45
code kind.Colon = 46
code kind.Assign = 47
code kind.PlusAssign = 48
code kind.MinusAssign = 49
code kind.StarAssign = 50
code kind.SlashAssign = 51
code kind.PercentAssign = 52
code kind.StarsAssign = 53
code kind.LeftShiftAssign = 54
code kind.RightShiftAssign = 55
code kind.UnsignedShiftAssign = 56
code kind.AmpersandAssign = 57
code kind.BarAssign = 58
code kind.CaretAssign = 59
code kind.Arrow = 60
code kind.Break = 61
code kind.Case = 62
code kind.Catch = 63
code kind.Class = 64
code kind.Const = 65
code kind.Continue = 66
code kind.Debugger = 67
code kind.Default = 68
code kind.Delete = 69
code kind.Do = 70
code kind.Else = 71
code kind.Enum = 72
code kind.Export = 73
code kind.Extends = 74
code kind.False = 75
code kind.Finally = 76
code kind.For = 77
code kind.Function = 78
code kind.If = 79
code kind.Import = 80
code kind.In = 81
code kind.Instanceof = 82
code kind.Let = 83
code kind.New = 84
code kind.Null = 85
code kind.Return = 86
code kind.Super = 87
code kind.Switch = 88
code kind.This = 89
code kind.Throw = 90
code kind.True = 91
code kind.Try = 92
code kind.Typeof = 93
code kind.Var = 94
code kind.Void = 95
code kind.While = 96
code kind.With = 97

-- it is this kind
abbrev pub is : TokenKind → TokenKind → Bool
is a b = code b == code a
