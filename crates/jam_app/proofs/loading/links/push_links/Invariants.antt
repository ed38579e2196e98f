use Rattle.std.proofs.Common.{map, take}
use Rattle.jam_app.specs.declared.loading.loaded.Loaded.{Loaded}
use Rattle.jam_app.specs.Links.{Adds, AreUpTo, LinksAmong}
use Rattle.jam_app.proofs.loading.links.push_links.Given as goal

abbrev pub invariant-loop-led : goal.invariant-loop-led
invariant-loop-led l =
    Adds (LinksAmong l.loaded l.m (take l.led-index l.targets)) l.fn.links.items l.links.items
    × AreUpTo (map (λ (x : Loaded). x.summary.lists) l.loaded) l.m (take l.led-index l.targets) l.links.items
