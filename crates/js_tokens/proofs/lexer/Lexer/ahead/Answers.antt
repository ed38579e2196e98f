use Rattle.std.proofs.Common.{◌≡◌, ℕ, ◌+◌, ◌-◌, ◌<◌, ◌≤◌, refl, ap, ◌∙◌, subst, arith, take, drop, length}
use Rattle.std.proofs.lemmas.List.{length-drop}
use Rattle.js_tree.specs.Lexing.{Place}
use Rattle.js_tree.specs.declared.token.TokenClass.{TokenClass}
use Rattle.js_tree.specs.declared.token.TokenClass.TheVariants as class
use Rattle.js_tokens.specs.Places.{IsRaw, IsFault, IsCutFor, IsOfCut}
use Rattle.js_tokens.specs.declared.lexer.Raw.{Raw}
use Rattle.js_tokens.specs.declared.fault.LexFault.{LexFault}
use Rattle.js_tokens.specs.declared.fault.LexFault.TheVariants as fault
use Rattle.js_tokens.proofs.PlaceLemmas.{raw_found, raw_only, raw_size, raw_end, open_fault, char_fault}
use Rattle.js_tokens.proofs.lexer.Lexer.ahead.Goals as goal

pub returns-in-Token-clause-found : goal.returns-in-Token-clause-found
returns-in-Token-clause-found c =
    let left = c.self.inside.left.now in
    let gap = c.cut_at-cut.result.gap in
    let len = c.in-Token.front.len in
    let width : gap + len - gap ≡ len = omega arith in
    let text : c.range-text.result.now ≡ take len (drop gap left) = c.range-text.ensures.value ∙ ap (λ (k : ℕ). take k (drop gap left)) width in
    let size : length c.range-text.result.now ≡ len = raw_size c.args.goal (record { left = c.self.inside.left.now; at = c.self.inside.at }) c.cut_at-cut.result c.in-Token.front c.range-text.result.now c.cut_at-cut.ensures.found c.in-Token.is text in
    let sum : gap + len ≡ c.self.inside.at + gap - c.self.inside.at + length c.range-text.result.now = omega (arith, size) in
    let raw : Raw = record { class = c.in-Token.front.class; text = c.range-text.result; start = c.self.inside.at + gap; nl_before = c.cut_at-cut.result.nl_before } in
    subst (λ (q : Place). IsRaw c.args.goal q raw × (c.range_from-left.result.now ≡ drop (raw.start - q.at + length raw.text.now) q.left)) c.self.view_is (
      raw_found c.args.goal (record { left = c.self.inside.left.now; at = c.self.inside.at }) c.cut_at-cut.result c.in-Token.front raw c.cut_at-cut.ensures.found c.in-Token.is refl text refl refl,
      c.range_from-left.ensures.value ∙ ap (λ (k : ℕ). drop k left) sum,
    )

pub returns-in-Token-clause-only : goal.returns-in-Token-clause-only
returns-in-Token-clause-only c =
    let left = c.self.inside.left.now in
    let gap = c.cut_at-cut.result.gap in
    let len = c.in-Token.front.len in
    let width : gap + len - gap ≡ len = omega arith in
    let text : c.range-text.result.now ≡ take len (drop gap left) = c.range-text.ensures.value ∙ ap (λ (k : ℕ). take k (drop gap left)) width in
    let raw : Raw = record { class = c.in-Token.front.class; text = c.range-text.result; start = c.self.inside.at + gap; nl_before = c.cut_at-cut.result.nl_before } in
    subst (λ (q : Place). (g : ℕ) (k : TokenClass) (n : ℕ) → IsCutFor c.args.goal q g k n → IsOfCut q g k n raw) c.self.view_is
    (raw_only c.args.goal (record { left = c.self.inside.left.now; at = c.self.inside.at }) c.cut_at-cut.result c.in-Token.front raw c.cut_at-cut.ensures.found c.cut_at-cut.ensures.only c.in-Token.is refl text refl)

pub returns-in-Open-clause-fault : goal.returns-in-Open-clause-fault
returns-in-Open-clause-fault c =
    let e : LexFault = fault.Unclosed (c.self.inside.at + c.cut_at-cut.result.gap) c.in-Open.what in
    subst (λ (q : Place). IsFault c.args.goal q e) c.self.view_is
    (open_fault c.args.goal (record { left = c.self.inside.left.now; at = c.self.inside.at }) c.cut_at-cut.result c.in-Open.what (c.self.inside.at + c.cut_at-cut.result.gap) c.cut_at-cut.ensures.found c.cut_at-cut.ensures.only c.in-Open.is refl)

pub returns-then-cut-self-clause-fault : goal.returns-then-cut-self-clause-fault
returns-then-cut-self-clause-fault c =
    let e : LexFault = fault.Char (c.self.inside.at + c.cut_at-cut.result.gap) in
    let lt : c.cut_at-cut.result.gap < length c.self.inside.left.now = omega arith in
    subst (λ (q : Place). IsFault c.args.goal q e) c.self.view_is
    (char_fault c.args.goal (record { left = c.self.inside.left.now; at = c.self.inside.at }) c.cut_at-cut.result (c.self.inside.at + c.cut_at-cut.result.gap) c.cut_at-cut.ensures.found c.cut_at-cut.ensures.only c.in-Nothing.is refl lt)

pub returns-else-cut-self-clause-found : goal.returns-else-cut-self-clause-found
returns-else-cut-self-clause-found c =
    let left = c.self.inside.left.now in
    let gap = c.cut_at-cut.result.gap in
    let all : length left ≤ gap = omega arith in
    let text : c.range_from-text.result.now ≡ drop gap left = c.range_from-text.ensures.value in
    let sum : gap ≡ c.self.inside.at + gap - c.self.inside.at + length c.range_from-text.result.now = omega (arith, ap length text, length-drop gap left) in
    let raw : Raw = record { class = class.End; text = c.range_from-text.result; start = c.self.inside.at + gap; nl_before = c.cut_at-cut.result.nl_before } in
    subst (λ (q : Place). IsRaw c.args.goal q raw × (c.range_from-text.result.now ≡ drop (raw.start - q.at + length raw.text.now) q.left)) c.self.view_is
    (raw_end c.args.goal (record { left = c.self.inside.left.now; at = c.self.inside.at }) c.cut_at-cut.result raw c.cut_at-cut.ensures.found all refl text refl refl, text ∙ ap (λ (k : ℕ). drop k left) sum)
