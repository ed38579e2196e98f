-- A refusal stands where a character begins, or at the end.
use Rattle.std.proofs.Common.{◌≡◌, ℕ, ◌+◌, List, [], ◌∷◌, length, drop, refl, sym, ap, ◌∙◌, subst}
use Rattle.std.proofs.lemmas.List.{drop-drop}
use Rattle.std.proofs.lemmas.Str.{IsCharBoundary-start, IsCharBoundary-from_rest, IsUtf8-drop}
use Rattle.std.specs.Str.{IsUtf8, IsCharBoundary}
use Rattle.js_tree.specs.Lexical.{LexesTo, Next}
use Rattle.js_tree.specs.Lexing.{Place, start_of}
use Rattle.js_tree.specs.declared.token.Token.{Token}
use Rattle.js_tokens.proofs.PlaceLemmas.{cut_boundary, front_boundary}
use Rattle.js_tokens.specs.Pieces.{IsStop}

-- the place is one of the text, between characters
record IsPlaceOf (text : List ℕ) (p : Place) : Type 0 where
  pub left : p.left ≡ drop p.at text
  pub between : IsCharBoundary text p.at

module _ (text : List ℕ) (utf8 : IsUtf8 text) where
  left_utf8 : (p : Place) → IsPlaceOf text p → IsUtf8 p.left
  left_utf8 p h = subst IsUtf8 (sym h.left) (IsUtf8-drop text p.at utf8 h.between)

  -- a boundary in what is left is one of the text
  further : (p : Place) (k : ℕ) → IsPlaceOf text p → IsCharBoundary p.left k → IsCharBoundary text (p.at + k)
  further p k h b = IsCharBoundary-from_rest text p.at k h.between.0 (subst (λ (left : List ℕ). IsCharBoundary left k) h.left b)

  one_further : (p m : Place) (t : Token) → IsPlaceOf text p → Next p t m → IsPlaceOf text m
  one_further p m t h next =
      let n : ℕ = next.gap + length t.text in
      let here : IsPlaceOf text (record { left = drop n p.left; at = p.at + n }) = record {
        left = ap (λ (l : List ℕ). drop n l) h.left ∙ drop-drop n p.at text;
        between = further p n h (front_boundary p.left p.at next.gap t.class (length t.text) (left_utf8 p h) next.cut.trivia next.cut.stands);
      } in
      subst (IsPlaceOf text) (sym next.after) here

  all_further : (ts : List Token) (p m : Place) → IsPlaceOf text p → LexesTo p ts m → IsPlaceOf text m
  all_further [] p m h e = subst (IsPlaceOf text) e h
  all_further (t ∷ ts) p m h l = all_further ts l.0 m (one_further p l.0 t h l.1) l.2

  -- the place of a refusal is one of a character
  pub stop_boundary : (at : ℕ) → IsStop (start_of text) at → IsCharBoundary text at
  stop_boundary at s =
      let h = all_further s.tokens (start_of text) s.reached (record { left = refl; between = IsCharBoundary-start text utf8 }) s.lexes in
      subst (IsCharBoundary text) (sym s.start.place) (further s.reached s.start.gap h (cut_boundary s.reached.left s.reached.at s.start.gap (left_utf8 s.reached h) s.start.trivia))
