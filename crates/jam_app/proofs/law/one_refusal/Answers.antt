use Rattle.jam_app.proofs.OneRefusal as one
use Rattle.jam_app.proofs.law.one_refusal.Goals as goal

pub returns : goal.returns
returns c asked files a b p q = one.one_refusal files asked a b p q
