use Rattle.std.proofs.Common.{[], map}
use Rattle.jam_app.specs.declared.loading.loaded.Loaded.{Loaded}
use Rattle.jam_app.specs.Links.{Adds, AreUpTo, LinksBelow}
use Rattle.jam_app.proofs.loading.links.links_of.Given as goal

abbrev pub invariant-loop-m : goal.invariant-loop-m
invariant-loop-m l = Adds (LinksBelow l.loaded l.m) [] l.links.items × AreUpTo (map (λ (x : Loaded). x.summary.lists) l.loaded) l.m [] l.links.items
