-- What stands or begins at the front of a text, by the goal.
use Rattle.std.specs.Prelude.{◌≡◌, ℕ, ◌≤◌, ◌==◌, nat_le, nat_eq, codes, ◌&&◌, ◌||◌, not, Bool, true, false, List, length, take, slice_index, if◌then◌else◌}
use Rattle.std.specs.List.{starts_with}
use Rattle.js_tree.specs.declared.token.TokenClass.{TokenClass}
use Rattle.js_tree.specs.declared.token.TokenClass.TheVariants as class
use Rattle.js_tree.specs.declared.part.StringPart.TheVariants as quoted_part
use Rattle.js_tree.specs.declared.part.TemplatePart.TheVariants as template_part
use Rattle.js_tree.specs.Lexical.{Stands, ReadsBytes, IsRegex, is_barred}
use Rattle.js_tree.specs.Lexical.Character.{is_quote, is_digit, is_start}
use Rattle.js_tree.specs.Lexical.Quoted as quoted
use Rattle.js_tree.specs.Lexical.Template as template
use Rattle.js_tokens.specs.declared.goal.Goal.{Goal}
use Rattle.js_tokens.specs.declared.goal.Goal.TheVariants as goal
use Rattle.js_tokens.specs.declared.goal.Sort.{Sort}
use Rattle.js_tokens.specs.declared.goal.Sort.TheVariants as sort
use Rattle.js_tokens.specs.declared.front.Found.{Found}
use Rattle.js_tokens.specs.declared.front.Found.TheVariants as found
use Rattle.js_tokens.specs.declared.fault.Unclosed.{Unclosed}
use Rattle.js_tokens.specs.declared.fault.Unclosed.TheVariants as unclosed

abbrev pub is_operand : Goal → Bool
is_operand goal.Operand = true
is_operand goal.Operator = false
is_operand goal.Template = false

abbrev pub is_template : Goal → Bool
is_template goal.Operand = false
is_template goal.Operator = false
is_template goal.Template = true

-- what the goal reads: a token of the class that begins with this byte. At `/` a regular expression or a mark, at `}` a
-- template's part or a mark
abbrev pub admits : Goal → TokenClass → ℕ → Bool
admits g class.Regex b = is_operand g
admits g class.TemplateMiddle b = is_template g
admits g class.TemplateTail b = is_template g
admits goal.Operand class.Punct b = not (b == 47)
admits goal.Operator class.Punct b = true
admits goal.Template class.Punct b = not (b == 125)
admits g _ b = true

-- the first of the tests that holds
abbrev pub sort_by : Bool → Bool → Bool → Bool → Bool → Bool → Sort
sort_by quote mark rest regex number identifier = if quote then sort.Str else if mark then sort.Template else if rest then sort.Rest
    else if regex then sort.Regex else if number then sort.Number else if identifier then sort.Identifier else sort.Mark

-- what begins with these two bytes
abbrev pub sort_at : Goal → ℕ → ℕ → Sort
sort_at g b next = sort_by (is_quote b) (b == 96) (b == 125 && is_template g) (b == 47 && is_operand g) (is_digit b || (b == 46 && is_digit next)) (nat_le 128 b || is_start b)

-- the sort of a class
abbrev pub sort_of : TokenClass → Sort
sort_of class.Name = sort.Identifier
sort_of class.Word = sort.Identifier
sort_of class.Number = sort.Number
sort_of class.Str = sort.Str
sort_of class.TemplateWhole = sort.Template
sort_of class.TemplateHead = sort.Template
sort_of class.TemplateMiddle = sort.Rest
sort_of class.TemplateTail = sort.Rest
sort_of class.Regex = sort.Regex
sort_of class.Punct = sort.Mark
sort_of class.End = sort.Mark

-- what begins at the front of the text doesn't close: no front of the text ends with its closing mark
abbrev pub DoesntClose : Sort → List ℕ → Type 0
DoesntClose sort.Str text = (n : ℕ) → n ≤ length text → ReadsBytes (quoted.next (slice_index text 0)) quoted.may_end quoted_part.Front (take n text) → ⊥
DoesntClose sort.Template text = (n : ℕ) → n ≤ length text → ReadsBytes (template.next 96) template.may_end template_part.Front (take n text) → ⊥
DoesntClose sort.Rest text = (n : ℕ) → n ≤ length text → ReadsBytes (template.next 125) template.may_end template_part.Front (take n text) → ⊥
DoesntClose sort.Regex text = (n : ℕ) → n ≤ length text → IsRegex (take n text) → ⊥
DoesntClose _ text = ⊥

-- what such a thing is called
abbrev pub named : Sort → Unclosed
named sort.Str = unclosed.String
named sort.Template = unclosed.Template
named sort.Rest = unclosed.Template
named sort.Regex = unclosed.Regex
named _ = unclosed.Comment

-- what was found at the front of a text where this sort begins
abbrev pub IsFound : Sort → List ℕ → Found → Type 0
IsFound s text (found.Token f) = (sort_of f.class ≡ s) × Stands f.class text f.len
IsFound s text (found.Open what) = (what ≡ named s) × DoesntClose s text
IsFound s text found.Nothing = ((c : TokenClass) (n : ℕ) → sort_of c ≡ s → Stands c text n → ⊥) × (DoesntClose s text → ⊥)

abbrev pub OpensBy : Bool → Type 0 → Type 0 → Type 0
OpensBy true comment other = comment
OpensBy false comment other = other

-- something begins at the front of the text that doesn't close
abbrev pub Opens : Goal → Unclosed → List ℕ → Type 0
Opens g what text = OpensBy (starts_with nat_eq text (codes "/*")) (what ≡ unclosed.Comment)
    ((what ≡ named (sort_at g (slice_index text 0) (slice_index text 1))) × DoesntClose (sort_at g (slice_index text 0) (slice_index text 1)) text)

-- a token of the goal with n bytes stands at the front of the text
pub record StandsFor (g : Goal) (fresh : Bool) (c : TokenClass) (text : List ℕ) (n : ℕ) : Type 0 where
  pub free : is_barred fresh text ≡ false
  pub stands : Stands c text n
  pub admits : admits g c (slice_index text 0) ≡ true

-- what was found at the front of a text by the goal
abbrev pub IsFoundFor : Goal → Bool → List ℕ → Found → Type 0
IsFoundFor g fresh text (found.Token f) = StandsFor g fresh f.class text f.len
IsFoundFor g fresh text (found.Open what) = Opens g what text
IsFoundFor g fresh text found.Nothing = (what : Unclosed) → Opens g what text → ⊥
