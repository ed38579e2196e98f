-- Patterns and slots (ECMA-262, 12.15.5 and 13.3.3): of what each is made up, and what is asked of it.
use Rattle.std.specs.Prelude.{ℕ, ◌+◌, ◌==◌, List, [], ◌∷◌, codes, Option, Some, None, is_some, Bool, true, false, ◌&&◌, not}
use Rattle.std.specs.Str.{bytes_eq}
use Rattle.js_tree.specs.declared.lists.Init.{Init}
use Rattle.js_tree.specs.declared.token_kind.TokenKind.TheVariants as kind
use Rattle.js_tree.specs.declared.tree.Expr.TheOpen.{Pattern-F, Slot-F}
use Rattle.js_tree.specs.Spelling.Rows.{Writer, mark, maybe, init_row}
use Rattle.js_tree.specs.Spelling.Nodes.{Seen, Ending, AfterOperand, AfterName, ASSIGN, CHAIN, stands, passes, lines, highest_of, some_has}

-- SPELLING, one line for each kind

abbrev pub pattern_row : {E F P S L R : Type 0} → Writer E F P S L R → Pattern-F E F P S L → R → R
pattern_row w (Pattern-F.«Pattern::Name» t) rest = mark w.marks kind.Name t rest
pattern_row w (Pattern-F.Member chain) rest = w.expr chain rest
pattern_row w (Pattern-F.«Pattern::Paren» begin inner end) rest = mark w.marks kind.LeftParen begin (w.pattern inner (mark w.marks kind.RightParen end rest))

abbrev pub slot_row : {E F P S L R : Type 0} → Writer E F P S L R → Slot-F E F P S L → R → R
slot_row w x rest = w.pattern x.target (maybe (init_row w.marks w.expr) x.init rest)

-- the ranks of patterns: what may be assigned to, and what may be declared too
abbrev pub ASSIGNED : ℕ
ASSIGNED = 1

abbrev pub DECLARED : ℕ
DECLARED = 2

abbrev pub pattern_rank : Pattern-F Seen Seen Seen Seen Seen → ℕ
pattern_rank (Pattern-F.«Pattern::Name» t) = DECLARED
pattern_rank _ = ASSIGNED

-- a Member is a chain that ends in a member; a Paren has a target in it
abbrev pub pattern_sound : Pattern-F Seen Seen Seen Seen Seen → Bool
pattern_sound (Pattern-F.«Pattern::Name» t) = true
pattern_sound (Pattern-F.Member chain) = chain.rank == CHAIN && chain.is_target
pattern_sound (Pattern-F.«Pattern::Paren» begin inner end) = inner.is_sound && inner.is_target

abbrev pub pattern_target : Pattern-F Seen Seen Seen Seen Seen → Bool
pattern_target (Pattern-F.«Pattern::Paren» begin inner end) = inner.is_target
pattern_target _ = true

abbrev pub pattern_name : Pattern-F Seen Seen Seen Seen Seen → Option (List ℕ)
pattern_name (Pattern-F.«Pattern::Name» t) = Some t.text
pattern_name _ = None

abbrev pub pattern_names : (Seen → Bool) → List ℕ → Pattern-F Seen Seen Seen Seen Seen → Bool
pattern_names test text (Pattern-F.«Pattern::Name» t) = bytes_eq text t.text
pattern_names test text x = pattern_row (some_has test) x false

abbrev pub pattern_step : Pattern-F Seen Seen Seen Seen Seen → Seen
pattern_step x = record {
  line = pattern_row lines x;
  rank = pattern_rank x;
  ending = AfterOperand;
  is_sound = pattern_sound x;
  is_target = pattern_target x;
  name = pattern_name x;
  joins_in = false;
  names_yield = pattern_names (λ s. s.names_yield) (codes "yield") x;
  names_await = pattern_names (λ s. s.names_await) (codes "await") x;
  uses_yield = pattern_row (some_has (λ s. s.uses_yield)) x false;
  uses_await = pattern_row (some_has (λ s. s.uses_await)) x false;
  height = pattern_row highest_of x 0 + 1;
}

-- with what a slot ends
abbrev pub init_ending : Option (Init Seen) → Ending
init_ending None = AfterName
init_ending (Some x) = x.value.ending

abbrev pub init_joins_in : Option (Init Seen) → Bool
init_joins_in None = false
init_joins_in (Some x) = x.value.joins_in

-- what is given is an Assign
abbrev pub slot_step : Slot-F Seen Seen Seen Seen Seen → Seen
slot_step x = record {
  line = slot_row lines x;
  rank = x.target.rank;
  ending = init_ending x.init;
  is_sound = x.target.is_sound && passes (λ i. stands ASSIGN i.value) x.init;
  is_target = not (is_some x.init);
  name = x.target.name;
  joins_in = init_joins_in x.init;
  names_yield = slot_row (some_has (λ s. s.names_yield)) x false;
  names_await = slot_row (some_has (λ s. s.names_await)) x false;
  uses_yield = slot_row (some_has (λ s. s.uses_yield)) x false;
  uses_await = slot_row (some_has (λ s. s.uses_await)) x false;
  height = slot_row highest_of x 0;
}
