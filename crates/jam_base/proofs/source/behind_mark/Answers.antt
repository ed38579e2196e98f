use Rattle.std.proofs.Common.{◌≡◌, ℕ, List, ◌++◌, take, drop, sym, ap, ◌∙◌, refl, arith}
use Rattle.std.proofs.lemmas.List.{take-append-drop}
use Rattle.std.proofs.lemmas.Slice.Eq.{bytes_eq-Decides}
use Rattle.std.proofs.lemmas.Str.{IsCharBoundary-past_char}
use Rattle.std.specs.Char.{encode_utf8}
use Rattle.jam_base.specs.Source.{mark}
use Rattle.jam_base.proofs.source.behind_mark.Goals as goal

marked : mark ≡ encode_utf8 0xFEFF
unfolding encode_utf8
marked = refl

pub range_from-requires : goal.range_from-requires
range_from-requires c _ =
    let text = c.args.text.now in
    let front : take 3 text ≡ encode_utf8 0xFEFF = sym ((bytes_eq-Decides mark (take 3 text)).0 c.requires) ∙ marked in
    IsCharBoundary-past_char text (drop 3 text) 0 0xFEFF (omega arith) c.utf8.text (sym (take-append-drop 3 text) ∙ ap (λ (xs : List ℕ). xs ++ drop 3 text) front)
