-- Characters, as numbers (ECMA-262, 11.2, 11.3 and 11.6).
use Rattle.std.specs.Prelude.{ℕ, ◌==◌, nat_le, ◌&&◌, ◌||◌, Bool, false, List, [], ◌∷◌}
use Rattle.std.specs.Char.{is_digit as is_digit_of}
use Rattle.unicode_ident.specs.Ident.{is_xid_start, is_xid_continue}

-- line feed, carriage return, line separator and paragraph separator (ECMA-262, 11.3)
abbrev pub is_line_end : ℕ → Bool
is_line_end c = c == 10 || c == 13 || c == 0x2028 || c == 0x2029

-- white space: tabs, form feed, space, no-break space, the byte order mark and the other spaces of Unicode (ECMA-262, 11.2)
abbrev pub is_space : ℕ → Bool
is_space c = c == 9 || c == 11 || c == 12 || c == 32 || c == 0xA0 || c == 0xFEFF || c == 0x1680 || (nat_le 0x2000 c && nat_le c 0x200A)
    || c == 0x202F || c == 0x205F || c == 0x3000

-- what a name begins with (ECMA-262, 11.6)
abbrev pub is_start : ℕ → Bool
is_start c = is_xid_start c || c == 36 || c == 95

-- what a name goes on with; the last two are the zero width joiners (ECMA-262, 11.6)
abbrev pub is_part : ℕ → Bool
is_part c = is_xid_continue c || c == 36 || c == 0x200C || c == 0x200D

abbrev pub is_digit : ℕ → Bool
is_digit c = nat_le 48 c && nat_le c 57

-- a hexadecimal digit, in either case
abbrev pub is_hex : ℕ → Bool
is_hex c = is_digit_of c 16

-- `"` and `'`
abbrev pub is_quote : ℕ → Bool
is_quote c = c == 34 || c == 39

-- the first of the characters passes the test
abbrev pub begins : (ℕ → Bool) → List ℕ → Bool
begins p [] = false
begins p (c ∷ cs) = p c
