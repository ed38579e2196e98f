use Rattle.std.proofs.Common.{◌+◌, ◌-◌, ◌<◌, ℕ, [], length, drop, arith, ap, sym, ◌∙◌, refl}
use Rattle.std.proofs.lemmas.List.{drop-map, take_all, length-drop}
use Rattle.jam_base.specs.Path.{name_length}
use Rattle.jam_base.proofs.Joined.{next_part, texts}
use Rattle.jam_base.proofs.Packages.{package_turn}
use Rattle.jam_base.proofs.path.package_length.Goals as goal
use Rattle.jam_base.proofs.path.package_length.Goals.{then-eq, else-eq}

pub loop-i-preserved : goal.loop-i-preserved
loop-i-preserved c =
    let ps = texts c.args.parts.now in
    let i = c.loop-i.i in
    let lt : i < length c.args.parts.now = omega arith in
    package_turn ps (drop (i + 1) ps) _ i c.loop-i.length _ (next_part c.args.parts.now i (record { ref_ptr = (0, 0); now = [] }) lt) refl
    (λ here. elim c.if-eq.branch [
      | then-eq w ↦ w.length-is ∙ ap (λ (n : ℕ). i + 1 + n) (w.name_length.ensures
          ∙ ap (λ v. name_length (texts v)) (take_all (length c.args.parts.now - (i + 1)) (drop (i + 1) c.args.parts.now) (omega (arith, length-drop (i + 1) c.args.parts.now)))
          ∙ ap name_length (sym (drop-map (λ p. p.now) (i + 1) c.args.parts.now)))
      | else-eq w ↦ cc (w.if-eq.ensures ∙ here)
    ])
    (λ here. elim c.if-eq.branch [ then-eq w ↦ cc (w.if-eq.ensures ∙ here) | else-eq w ↦ w.length-is ])
    c.loop-i.invariant
