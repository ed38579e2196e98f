use Rattle.std.proofs.Common.{refl, sym, ◌∙◌, arith, ◌<◌}
use Rattle.js_tokens.proofs.FrontLemmas.{wrong_string, string_longest, string_reach}
use Rattle.js_tokens.proofs.front.string_front.Goals as goal

pub returns-then-not-are_right : goal.returns-then-not-are_right
returns-then-not-are_right c =
    let some : 0 < c.string_len-len.result = omega arith in (
      λ k n is s. wrong_string k c.args.bytes.now n c.string_len-len.result is (string_longest c.args.bytes.now c.string_len-len.result (string_reach c.args.bytes.now c.byte_at.result c.string_len-len.result c.byte_at.ensures c.string_len-len.ensures) some c.requires)
          (sym c.are_right.ensures ∙ c.if-not-are_right.true) s,
      λ h. h c.string_len-len.result (string_reach c.args.bytes.now c.byte_at.result c.string_len-len.result c.byte_at.ensures c.string_len-len.ensures).within ((string_reach c.args.bytes.now c.byte_at.result c.string_len-len.result c.byte_at.ensures c.string_len-len.ensures).ends some),
    )

pub returns : goal.returns
returns c =
    let some : 0 < c.string_len-len.result = omega arith in (
      refl,
      record {
        longest = string_longest c.args.bytes.now c.string_len-len.result (string_reach c.args.bytes.now c.byte_at.result c.string_len-len.result c.byte_at.ensures c.string_len-len.ensures) some c.requires;
        right = sym c.are_right.ensures ∙ c.if-not-are_right.false;
      },
    )
