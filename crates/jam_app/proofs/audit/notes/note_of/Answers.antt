use Rattle.std.proofs.Common.{◌≡◌, Some}
use Rattle.jam_app.proofs.audit.notes.note_of.Goals as goal

pub returns : goal.returns
returns c text spot = λ i. record {
  path = c.in_ok-of.ensures i;
  place = Some (record { line = (spot i).line; column = (spot i).column });
  text = c.in_ok-text.ensures i;
}
