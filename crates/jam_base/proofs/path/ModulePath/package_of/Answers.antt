use Rattle.std.proofs.Common.{ap, sym, subst, ◌∙◌}
use Rattle.std.specs.List.{join_with_byte}
use Rattle.jam_base.specs.Path.{parts, package_length, package_of, IsPath}
use Rattle.jam_base.proofs.Normal.{front_path}
use Rattle.jam_base.proofs.Packages.{package_parts}
use Rattle.jam_base.proofs.path.ModulePath.package_of.Goals as goal

pub invariant_of-result : goal.invariant_of-result
invariant_of-result c =
    let p = c.as_str.result.now in
    subst IsPath (sym (c.in_ok-text.ensures ∙ ap (join_with_byte 47) (package_parts p _ _ _ _ _ c.in_ok-parts.ensures c.as_slice.ensures.value c.package_length.ensures c.truncate.ensures.items c.as_slice-2.ensures.value)))
    (front_path (package_length (parts p)) p (subst IsPath (sym c.as_str.ensures.text) c.as_str.ensures.path))

pub returns : goal.returns
returns c =
    let p = c.as_str.result.now in
    c.in_ok-text.ensures ∙ ap (join_with_byte 47) (package_parts p _ _ _ _ _ c.in_ok-parts.ensures c.as_slice.ensures.value c.package_length.ensures c.truncate.ensures.items c.as_slice-2.ensures.value)
    ∙ ap package_of c.as_str.ensures.text
