-- Which characters of ASCII names have.
use Rattle.std.proofs.Common.{◌≡◌, ℕ, ◌<◌, ◌==◌, ◌||◌, Bool, sym, ap, ◌∙◌, arith}
use Rattle.std.proofs.lemmas.Bool.Decides.{nat_tests}
use Rattle.std.specs.Char.{is_ascii_alphabetic, is_ascii_alphanumeric}
use Rattle.unicode_ident.proofs.IdentLemmas.{is_xid_start-ascii, is_xid_continue-ascii}
use Rattle.js_tree.specs.Lexical.Character.{is_start, is_part}

pub start_ascii : (c : ℕ) → c < 128 → (is_ascii_alphabetic c || c == 36 || c == 95) ≡ is_start c
start_ascii c lt = ap (λ (b : Bool). b || c == 36 || c == 95) (sym (is_xid_start-ascii c lt))

tail : (b : Bool) (c : ℕ) → c < 128 → (b || c == 95 || c == 36) ≡ ((b || (c == 95)) || c == 36 || c == 0x200C || c == 0x200D)
tail b c lt = grind (arith, nat_tests)

pub part_ascii : (c : ℕ) → c < 128 → (is_ascii_alphanumeric c || c == 95 || c == 36) ≡ is_part c
part_ascii c lt = tail (is_ascii_alphanumeric c) c lt ∙ ap (λ (b : Bool). b || c == 36 || c == 0x200C || c == 0x200D) (sym (is_xid_continue-ascii c lt))
