use Rattle.std.proofs.Common.{◌≡◌, ◌+◌, ◌∷◌, ◌++◌, [], List, length, refl, ap, sym, ◌∙◌, arith, ◌==◌, if◌then◌else◌, length-append}
use Rattle.flow_rules.specs.Places.{place_or}
use Rattle.flow_rules.proofs.Places.{place_from, place_last, place_is}
use Rattle.flow_rules.proofs.facts.places_of.Goals as goal

nothing : {X : Type 0} (xs : List X) → length xs ≡ 0 → xs ≡ []
nothing [] e = refl
nothing (x ∷ xs) e = absurd (omega (arith, e))

pub loop-offset-init : goal.loop-offset-init
loop-offset-init c = record {
  few = c.requires;
  places = λ q other. ap (λ es. place_from 0 c.args.numbered.items q (place_or es q other)) c.new-places.ensures.empty;
}

pub loop-offset-preserved : goal.loop-offset-preserved
loop-offset-preserved c =
    let rest = c.pop.new.self.items in
    let x = c.in-Some.offset in
    let popped : c.loop-offset.numbered.items ≡ rest ++ x ∷ [] = c.in-Some.ensures.items in
    let shorter = ap length popped ∙ length-append rest (x ∷ []) in
    let at : c.len.result ≡ 0 + length rest = omega (arith, c.len.ensures) in
    record {
      few = omega (arith, shorter, c.loop-offset.invariant.few);
      places = λ q other.
          ap (place_from 0 rest q) (c.in_ok-put.ensures {u = tt} q other ∙ ap (λ n. if x == q then n else place_or c.loop-offset.places.entries q other) at)
          ∙ sym (ap (λ ns. place_from 0 ns q (place_or c.loop-offset.places.entries q other)) popped ∙ place_last 0 rest x q (place_or c.loop-offset.places.entries q other))
          ∙ c.loop-offset.invariant.places q other;
    }

pub returns : goal.returns
returns c = λ q.
    let short : length c.loop-offset.numbered.items ≡ 0 = omega (arith, c.loop-offset.numbered.ok.0, (c.in_default.ensures {u = tt}).cases.0) in
    let none : c.loop-offset.numbered.items ≡ [] = nothing c.loop-offset.numbered.items short in
    let all = length c.args.numbered.items in
    sym (ap (λ ns. place_from 0 ns q (place_or c.loop-offset.places.entries q all)) none) ∙ c.loop-offset.invariant.places q all ∙ place_is c.args.numbered.items q
