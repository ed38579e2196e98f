use Rattle.std.proofs.Common.{sym, ◌∙◌}
use Rattle.npm_range.proofs.Pieces.{past_piece-cut, piece-cut, piece-shorter}
use Rattle.npm_range.proofs.stretch.Stretch.take_piece.Goals as goal

pub returns-clause-taken : goal.returns-clause-taken
returns-clause-taken c = sym (piece-cut _ _ _ (sym (c.self.view_is ∙ c.skip_spaces.ensures)) c.split_at_space.ensures.front)

pub returns-clause-left : goal.returns-clause-left
returns-clause-left c =
    sym (past_piece-cut _ _ _ _ (sym (c.self.view_is ∙ c.skip_spaces.ensures)) c.split_at_space.ensures.front c.split_at_space.ensures.width c.split_at_space.ensures.back)

pub returns-clause-shorter : goal.returns-clause-shorter
returns-clause-shorter c =
    let taken = piece-cut c.args.self.now _ _ (sym (c.self.view_is ∙ c.skip_spaces.ensures)) c.split_at_space.ensures.front in
    let left = past_piece-cut c.args.self.now _ _ _ (sym (c.self.view_is ∙ c.skip_spaces.ensures)) c.split_at_space.ensures.front c.split_at_space.ensures.width c.split_at_space.ensures.back in
    rw (taken, left) at (piece-shorter c.args.self.now)
