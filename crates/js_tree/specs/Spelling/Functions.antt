-- Functions (ECMA-262, clause 14): of what each is made up, and what is asked of it.
use Rattle.std.specs.Prelude.{ℕ, List, [], ◌∷◌, codes, Option, Some, None, is_some, Bool, true, false, ◌&&◌, not}
use Rattle.std.specs.Str.{bytes_eq}
use Rattle.js_tree.specs.declared.lists.Bracket.{Bracket}
use Rattle.js_tree.specs.declared.lists.Element.{Element}
use Rattle.js_tree.specs.declared.token.Token.{Token}
use Rattle.js_tree.specs.declared.token_kind.TokenKind.TheVariants as kind
use Rattle.js_tree.specs.declared.tree.Expr.TheOpen.{Function-F}
use Rattle.js_tree.specs.Spelling.Patterns.{DECLARED}
use Rattle.js_tree.specs.Spelling.Rows.{Writer, mark, may_mark, each_of, bracket_row}
use Rattle.js_tree.specs.Spelling.Nodes.{Seen, AfterOperand, PRIMARY, stands, all_within, musts, lines, highest_of}

-- SPELLING, one line for each kind

abbrev pub function_row : {E F P S L R : Type 0} → Writer E F P S L R → Function-F E F P S L → R → R
function_row w (Function-F.Keyword word name params body) rest =
    mark w.marks kind.Function word (may_mark w.marks kind.Name name (bracket_row w.marks w.slot params
    (mark w.marks kind.LeftBrace body.begin (each_of w.stmt body.body (mark w.marks kind.RightBrace body.end rest)))))

-- in this grammar a parameter is a name
abbrev pub parameter_fits : Element Seen → Bool
parameter_fits x = not (is_some x.dots) && stands DECLARED x.value && x.value.is_target && is_some x.value.name

abbrev pub function_musts : Function-F Seen Seen Seen Seen Seen → List Bool
function_musts (Function-F.Keyword word name params body) = all_within parameter_fits params ∷ []

-- its own name
abbrev pub function_name : Function-F Seen Seen Seen Seen Seen → Option (List ℕ)
function_name (Function-F.Keyword word None params body) = None
function_name (Function-F.Keyword word (Some t) params body) = Some t.text

-- the name stands outside its parameters and body
abbrev pub names_itself : List ℕ → Option (List ℕ) → Bool
names_itself text None = false
names_itself text (Some name) = bytes_eq text name

abbrev pub function_step : Function-F Seen Seen Seen Seen Seen → Seen
function_step x = record {
  line = λ rest. musts (function_musts x) (function_row lines x rest);
  rank = PRIMARY;
  ending = AfterOperand;
  is_sound = true;
  is_target = false;
  name = function_name x;
  joins_in = false;
  names_yield = names_itself (codes "yield") (function_name x);
  names_await = names_itself (codes "await") (function_name x);
  uses_yield = false;
  uses_await = false;
  height = function_row highest_of x 0;
}
