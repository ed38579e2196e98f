use Rattle.std.proofs.Common.{◌≡◌, ℕ, List, lit<, length, Some, None, sym}
use Rattle.std.proofs.Math.Seq.{drop-length, take-length}
use Rattle.std.proofs.lemmas.Str.Pattern.{find_char}
use Rattle.std.specs.Str.Pattern.{FindsChar}
use Rattle.std.specs.List.{position_or_len}
use Rattle.npm_range.specs.Grammar.{is_space}
use Rattle.npm_range.proofs.Pieces.{position-found, position-none}
use Rattle.npm_range.proofs.stretch.split_at_space.Goals as goal
use Rattle.npm_range.proofs.stretch.split_at_space.Goals.{After-split_at}

place : (c : After-split_at) → position_or_len is_space c.args.text.now ≡ c.in-Some.end
place c =
    let f = find_char 32 c.args.text.now (Some c.in-Some.end) c.in-Some.ensures.cases (lit< tt) in
    position-found c.args.text.now c.in-Some.end f.0 f.1 f.2

no_place : (text : List ℕ) → FindsChar 32 text None → position_or_len is_space text ≡ length text
no_place text h = position-none text (find_char 32 text None h (lit< tt))

pub returns-in-Some-clause-front : goal.returns-in-Some-clause-front
returns-in-Some-clause-front c = rw (place c) c.split_at.ensures.front

pub returns-in-Some-clause-width : goal.returns-in-Some-clause-width
returns-in-Some-clause-width c = rw (place c) c.split_at.ensures.front_len

pub returns-in-Some-clause-back : goal.returns-in-Some-clause-back
returns-in-Some-clause-back c = rw (place c) c.split_at.ensures.back

pub returns-in-None-clause-front : goal.returns-in-None-clause-front
returns-in-None-clause-front c = rw (no_place c.args.text.now c.in-None.ensures.cases) (sym (take-length c.args.text.now))

pub returns-in-None-clause-width : goal.returns-in-None-clause-width
returns-in-None-clause-width c = sym (no_place c.args.text.now c.in-None.ensures.cases)

pub returns-in-None-clause-back : goal.returns-in-None-clause-back
returns-in-None-clause-back c = rw (no_place c.args.text.now c.in-None.ensures.cases) (sym (drop-length c.args.text.now))
