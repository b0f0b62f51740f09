-- What is left to show of `take_declared`: what has sites is what the wish chose.
use Rattle.std.proofs.Common.{rules, ◌≡◌, List, Bool, refl, subst}
use Rattle.std.proofs.lemmas.Result.{err_from_is_err_and}
use Rattle.source.specs.Flags.{kept}
use Rattle.sites.specs.Sites.{AreSites}
use Rattle.intake.specs.Parts.{AreAsMany}
use Rattle.intake.proofs.Steps.{by_flags, has_sites}
use Rattle.intake.proofs.call.take_declared.Goals as goal

pub take_placed-requires-sync-typeof-rt : goal.take_placed-requires-sync-typeof-rt
take_placed-requires-sync-typeof-rt g c κs within =
    let s = g.D.Declared.scope c.args.declared.now in
    let sel = c.in_ok-selection.selection in
    let t = c.in_ok-sites.sites in
    let n = c.in_ok-names.ensures.names in
    let sites : AreSites s (kept sel.chosen.items s.assertions) t =
    subst (λ (fs : List Bool). AreSites s (kept fs s.assertions) t) c.as_slice-chosen.ensures.value c.in_ok-sites.ensures.sites in
    let many : AreAsMany t c.in_ok-names.names =
    record {
      constants = n.as_many_constants;
      variables = n.as_many_variables;
      floats = n.as_many_floats;
      labels = n.as_many_labels;
      types = c.in_ok-sites.ensures.sites.types;
      few = c.in_ok-names.ensures.few;
    } in (
      search rules,
      (
        (refl, tt),
        (
          c.requires.whole,
          (c.in_ok-selection.ensures.frames, (sites, (many, (n, (c.args.wish, c.in_ok-selection.ensures.chosen))))),
        ),
      ),
    )

pub returns-in_err-names-clause-refused : goal.returns-in_err-names-clause-refused
returns-in_err-names-clause-refused g c =
    let s = g.D.Declared.scope c.args.declared.now in
    let sel = c.in_ok-selection.selection in
    let same : c.as_slice-chosen.result.now ≡ sel.chosen.items = c.as_slice-chosen.ensures.value in
    let flags = by_flags s c.args.wish sel c.as_slice-chosen.result.now same c.in_ok-selection.ensures.chosen in
    let p = err_from_is_err_and c.from_residual-in_err-names.result c.from_residual-in_err-names.ensures.1 in
    rw (p.1, p.2)
    (c.in_err-names.ensures.refused c.args.wish
    (has_sites s c.args.wish c.as_slice-chosen.result.now c.in_ok-sites.sites flags c.in_ok-sites.ensures.sites))
