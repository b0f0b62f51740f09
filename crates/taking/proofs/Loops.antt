-- What the loop of a decoding keeps.
use Rattle.std.proofs.Common.{◌≡◌, ◌∙◌, ◌<◌, ℕ, List, [], refl, length, map, drop, sym, ap, subst}
use Rattle.std.specs.Prelude.{Some, All}
use Rattle.std.specs.List.{list_any}
use Rattle.std.proofs.lemmas.List.Elements.{All-from_recursion}
use Rattle.source.specs.declared.letters.Code.{Code}
use Rattle.source.specs.Letters.{is_absent}
use Rattle.source.specs.Proofs.{run_steps, empty, step_of}
use Rattle.taking.specs.declared.named.Named.{Named}
use Rattle.taking.specs.declared.decoder.Decoder.{Decoder}
use Rattle.taking.specs.Settings.{Setting, AreNamed}
use Rattle.taking.specs.Decoding.{grown, stack_on, stack_of, StandsOn, AreCovered}
use Rattle.taking.specs.Nodes.{Shared, AreBelow}
use Rattle.taking.specs.Walks.{TakesAll}

pub record Goes (named : List Named) (codes : List Code) (i : ℕ) (d : Decoder) : Type 0 where
  pub stands : StandsOn named d
  pub known : list_any is_absent codes ≡ list_any is_absent (drop i codes)
  pub goes : (s : Setting) → AreNamed s named
      → run_steps grown s.earlier s.active (Some (stack_of s.labels d)) (map (step_of s.labels) (drop i codes))
      ≡ run_steps grown s.earlier s.active (Some empty) (map (step_of s.labels) codes)

-- nothing is on the stack yet
pub start : (named : List Named) (codes : List Code) (d : Decoder) → d.nodes ≡ [] → d.entries.items ≡ [] → d.marked.items ≡ []
    → Goes named codes 0 d
start named codes d nodes entries marked = record {
  stands = record {
    entries =
        subst (λ (es : List ℕ). AreBelow (length d.nodes) es) (sym entries) (All-from_recursion (λ k. k < length d.nodes) [] tt);
    marked =
        subst (λ (ms : List ℕ). AreBelow (length d.nodes) ms) (sym marked) (All-from_recursion (λ k. k < length d.nodes) [] tt);
    whole = subst (λ (ns : List Shared). All (TakesAll named) ns) (sym nodes) (All-from_recursion (TakesAll named) [] tt);
    covered =
        subst (λ (ns : List Shared). AreCovered ns d.entries.items) (sym nodes)
        (subst (λ (es : List ℕ). AreCovered [] es) (sym entries) (λ labels test. refl));
  };
  known = refl;
  goes =
      λ s are.
      ap (λ es. run_steps grown s.earlier s.active (Some (stack_on s.labels d.nodes es d.marked.items)) (map (step_of s.labels) codes))
      entries
      ∙ ap (λ ms. run_steps grown s.earlier s.active (Some (stack_on s.labels d.nodes [] ms)) (map (step_of s.labels) codes)) marked;
}
