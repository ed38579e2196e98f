-- What `parse` answers.
use Rattle.std.specs.Prelude.{◌≡◌, ℕ, ◌<◌, List, length, drop, codes, Result, Ok, Err, IfErr}
use Rattle.std.specs.Str.{IsCharBoundary}
use Rattle.js_tree.specs.declared.tree.Tree.{Tree}
use Rattle.js_tree.specs.Lexing.{start_of}
use Rattle.js_tree.specs.Spells.{Spells, limit}
use Rattle.js_tokens.specs.Pieces.{IsStop}
use Rattle.js_tokens.specs.Places.{IsRaw}
use Rattle.js_tokens.specs.declared.fault.TokenFault.{TokenFault}
use Rattle.js_tokens.specs.declared.fault.TokenFault.TheVariants as token_fault
use Rattle.js_tokens.specs.declared.goal.Goal.TheVariants as goal
use Rattle.js_tokens.specs.declared.lexer.Raw.{Raw}
use Rattle.js_parser.specs.declared.fault.Construct.{Construct}
use Rattle.js_parser.specs.declared.fault.Construct.TheVariants as construct
use Rattle.js_parser.specs.declared.fault.ParseFault.{ParseFault}
use Rattle.js_parser.specs.declared.fault.ParseFault.TheVariants as fault

-- the answer is the tree, or want of memory
abbrev pub IsTree : Result Tree ParseFault → Tree → Type 0
IsTree (Ok x) tree = x ≡ tree
IsTree (Err fault.OutOfMemory) tree = Unit {0}
IsTree (Err _) tree = ⊥

-- TooLarge comes exactly where the text is over the limit, with the length of the text
pub record TellsTooLarge (text : List ℕ) (result : Result Tree ParseFault) : Type 0 where
  pub over : limit < length text → result ≡ Err (fault.TooLarge (length text))
  pub only : (n : ℕ) → result ≡ Err (fault.TooLarge n) → (limit < length text) × (n ≡ length text)

-- of the offset at which reading stopped, at a construct or elsewhere, P holds
abbrev pub AtStop : (ℕ → Type 0) → ParseFault → Type 0
AtStop P (fault.NotInProfile at) = P at
AtStop P (fault.Construct at what) = P at
AtStop P _ = Unit {0}

-- after some tokens from the start of the text and trivia as long as it can be, the next token begins or would begin there
abbrev pub IsPlaced : List ℕ → Result Tree ParseFault → Type 0
IsPlaced text result = IfErr result (AtStop (IsStop (start_of text)))

-- a character begins there, or the text ends
abbrev pub IsAtCharacter : List ℕ → Result Tree ParseFault → Type 0
IsAtCharacter text result = IfErr result (AtStop (IsCharBoundary text))

-- no tree spells the text
abbrev pub IsUnspelled : List ℕ → Result Tree ParseFault → Type 0
IsUnspelled text result = IfErr result (AtStop (λ at. (tree : Tree) → Spells text tree → ⊥))

-- the fault of the parser for a fault of reading
abbrev pub IsFaultOf : TokenFault → ParseFault → Type 0
IsFaultOf (token_fault.Unexpected at) (fault.NotInProfile stop) = stop ≡ at
IsFaultOf (token_fault.Unexpected at) (fault.Construct stop what) = stop ≡ at
IsFaultOf token_fault.OutOfMemory fault.OutOfMemory = Unit {0}
IsFaultOf _ _ = ⊥

-- the word of a construct
abbrev pub word_of : Construct → List ℕ
word_of construct.Eval = codes "eval"
word_of construct.With = codes "with"
word_of construct.Import = codes "import"
word_of construct.Export = codes "export"

-- the token at the front of the text is the word of the construct
pub record Begins (text : List ℕ) (what : Construct) : Type 0 where
  pub next : Raw
  pub stands : IsRaw goal.Operator (start_of text) next
  pub front : next.start ≡ 0
  pub word : next.text.now ≡ word_of what

-- where reading stopped at a construct, its word is the next token
abbrev pub NamesConstruct : List ℕ → ParseFault → Type 0
NamesConstruct text (fault.Construct at what) = Begins (drop at text) what
NamesConstruct text _ = Unit {0}
