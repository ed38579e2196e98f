-- Why a text has no tree, and where it is left.
use Rattle.std.proofs.Common.{◌≡◌, ℕ, ◌+◌, ◌-◌, ◌<◌, ◌≤◌, List, [], ◌∷◌, length, ap, sym, subst, ◌∙◌, arith, ⊎_elim, Result, Ok, Err}
use Rattle.std.specs.Prelude.{IfErr, drop}
use Rattle.std.specs.Str.{IsCharBoundary}
use Rattle.std.proofs.lemmas.Bool.{cases_lt}
use Rattle.std.proofs.lemmas.List.{length-drop}
use Rattle.js_tree.specs.declared.token.Token.{Token}
use Rattle.js_tree.specs.declared.tree.Tree.{Tree}
use Rattle.js_tree.specs.Lexical.{Next, LexesTo}
use Rattle.js_tree.specs.Lexing.{Place, start_of}
use Rattle.js_tree.specs.Spells.{Spells, limit}
use Rattle.js_tokens.specs.Pieces.{IsStop}
use Rattle.js_parser.specs.declared.fault.Construct.{Construct}
use Rattle.js_parser.specs.declared.fault.ParseFault.{ParseFault}
use Rattle.js_parser.specs.declared.fault.ParseFault.TheVariants as fault
use Rattle.js_parser.specs.Answers.{Begins, NamesConstruct, TellsTooLarge, IsAtCharacter, IsPlaced, IsTree, IsUnspelled}
use Rattle.jam_app.specs.Refusals.{IsConstructAt, IsRefusedAt}
use Rattle.jam_app.specs.Texts.{IsOnlyTree, IsBad}

-- a token ends within the text that is left
after_within : (p : Place) (t : Token) (q : Place) → Next p t q → q.at + length q.left ≡ p.at + length p.left
after_within p t q next =
    let n = next.gap + length t.text in
    let inside : n ≤ length p.left = omega (arith, next.cut.trivia.within, next.cut.stands.longest.within, length-drop next.gap p.left) in
    let at : q.at ≡ p.at + n = ap (λ (r : Place). r.at) next.after in
    let left : length q.left ≡ length p.left - n = ap (λ (r : Place). length r.left) next.after ∙ length-drop n p.left in
    omega arith

lexes_within : (ts : List Token) (p q : Place) → LexesTo p ts q → q.at + length q.left ≡ p.at + length p.left
lexes_within [] p q e = ap (λ (r : Place). r.at + length r.left) (sym e)
lexes_within (t ∷ ts) p q l = lexes_within ts l.0 q l.2 ∙ after_within p t l.0 l.1

-- reading stops within the text
pub stop_within : (text : List ℕ) (at : ℕ) → IsStop (start_of text) at → at ≤ length text
stop_within text at stop =
    let all : stop.reached.at + length stop.reached.left ≡ 0 + length text = lexes_within stop.tokens (start_of text) stop.reached stop.lexes in
    omega (arith, stop.start.place, stop.start.trivia.within)

-- reading stopped at the offset, at a construct or elsewhere
pub data StopsAt (at : ℕ) : ParseFault → Type 0 where
  elsewhere : StopsAt at (fault.NotInProfile at)
  construct : (what : Construct) → StopsAt at (fault.Construct at what)

-- what is said of the answer, said of the offset
pub placed_at : (text : List ℕ) (at : ℕ) (f : ParseFault) (r : Result Tree ParseFault) → StopsAt at f → r ≡ Err f → IsPlaced text r → IsStop (start_of text) at
placed_at text at _ r elsewhere is placed = subst (IsPlaced text) is placed
placed_at text at _ r (construct what) is placed = subst (IsPlaced text) is placed

pub boundary_at : (text : List ℕ) (at : ℕ) (f : ParseFault) (r : Result Tree ParseFault) → StopsAt at f → r ≡ Err f → IsAtCharacter text r → IsCharBoundary text at
boundary_at text at _ r elsewhere is begins = subst (IsAtCharacter text) is begins
boundary_at text at _ r (construct what) is begins = subst (IsAtCharacter text) is begins

unspelled_at : (text : List ℕ) (at : ℕ) (f : ParseFault) (r : Result Tree ParseFault) → StopsAt at f → r ≡ Err f → IsUnspelled text r → IsBad text
unspelled_at text at _ r elsewhere is none = subst (IsUnspelled text) is none
unspelled_at text at _ r (construct what) is none = subst (IsUnspelled text) is none

no_size : (n at : ℕ) (f : ParseFault) → StopsAt at f → ◌≡◌ {A = Result Tree ParseFault} (Err f) (Err (fault.TooLarge n)) → ⊥
no_size n at _ elsewhere e = cc
no_size n at _ (construct what) e = cc

-- a text over the limit is TooLarge, so any other is within it
within_limit : (text : List ℕ) (at : ℕ) (f : ParseFault) (r : Result Tree ParseFault) → StopsAt at f → TellsTooLarge text r → r ≡ Err f → length text ≤ limit
within_limit text at f r stops tells is = ⊎_elim
    (λ (over : limit < length text). absurd (no_size (length text) at f stops (sym is ∙ tells.over over)))
    (λ (within : length text ≤ limit). within)
    (cases_lt limit (length text))

-- a text that no tree spells
pub bad_text : (text : List ℕ) (at offset : ℕ) (f : ParseFault) (r : Result Tree ParseFault) → StopsAt at f → r ≡ Err f → TellsTooLarge text r → IsPlaced text r → IsUnspelled text r → offset ≡ at
    → IsBad text × (length text ≤ limit) × IsRefusedAt text offset
bad_text text at offset f r stops told tells placed none is =
    (unspelled_at text at f r stops told none, within_limit text at f r stops tells told, subst (IsRefusedAt text) (sym is) (placed_at text at f r stops told placed))

-- a text that no tree spells, left at a construct
pub construct_text : (text : List ℕ) (at offset : ℕ) (what : Construct) (r : Result Tree ParseFault) → r ≡ Err (fault.Construct at what) → TellsTooLarge text r → IsPlaced text r → IsUnspelled text r
    → IfErr r (NamesConstruct text) → offset ≡ at → IsBad text × (length text ≤ limit) × IsConstructAt text offset what
construct_text text at offset what r told tells placed none named is =
    let all = bad_text text at offset (fault.Construct at what) r (construct what) told tells placed none is in
    let here : Begins (drop at text) what = subst (λ s. IfErr s (NamesConstruct text)) told named in
    (all.0, all.1, record { refused = all.2; begins = subst (λ n. Begins (drop n text) what) (sym is) here })

-- the tree is the only one
pub one_tree : (text : List ℕ) (tree : Tree) (r : Result Tree ParseFault) → r ≡ Ok tree → Spells text tree
    → ((other : Tree) → Spells text other → IsTree r other) → IsOnlyTree text tree
one_tree text tree r is spells only = record {
  spelled = spells;
  only = λ other spelled. sym (subst (λ (s : Result Tree ParseFault). IsTree s other) is (only other spelled));
}

-- so reading stops at an offset that a place can have
pub small_stop : (text : List ℕ) (at : ℕ) (f : ParseFault) (r : Result Tree ParseFault) → StopsAt at f → r ≡ Err f → TellsTooLarge text r → IsPlaced text r → at < 4294967295
small_stop text at f r stops told tells placed = omega (arith, stop_within text at (placed_at text at f r stops told placed), within_limit text at f r stops tells told)
