-- What proofs cite: in a library that verifies no proof cites a label that no assertion has.
use Rattle.std.proofs.Common.{◌≡◌, ℕ, false, List, [], ◌∷◌, None, Some, refl, sym, ap, inl, inr, ◌∙◌}
use Rattle.std.specs.List.{All, list_any}
use Rattle.std.specs.Str.{bytes_eq}
use mathlib.Core.Bool.{not}
use Rattle.std.proofs.lemmas.Bool.{cases_Bool, both_ways}
use Rattle.std.proofs.lemmas.List.Elements.{All-head, All-tail, All-contains}
use Rattle.mmsyntax.specs.declared.statement.Kind.{Kind}
use Rattle.mmsyntax.specs.declared.statement.Kind.TheVariants.{Axiom, Theorem}
use Rattle.mmsyntax.specs.declared.statement.Assertion.{Assertion}
use Rattle.mmsyntax.specs.declared.statement.Step.{Step}
use Rattle.mmsyntax.specs.declared.statement.Step.TheVariants.{Float, Hyp, Cite}
use Rattle.mmsyntax.specs.Assertions.{Fits}
use Rattle.mmsyntax.specs.Tables.{Tables}
use Rattle.mmsyntax.proofs.Distinct.{or_false, both_false}
use Rattle.mmsyntax.proofs.Names.{same_bytes}
use Rattle.derivation.specs.Derivation.{Citable, Checks}
use Rattle.library.specs.declared.library.Ranked.{Ranked}
use Rattle.library.specs.Library.{Setting, Verifies, citable}
use Rattle.library.specs.Edits.{has, is_citation, cites, is_of_unknown}
use Rattle.library.proofs.Derivations.{NamesOne, steps_named}
use Rattle.catalog.specs.Entries.{Entries, living, StandsIn}
use Rattle.catalog.proofs.Living.{stands-living}
use Rattle.catalog.proofs.Citable.{frame-unknown}

-- steps that each name something cite no label that has no frame
named-uncited : (lib : Citable) (t : Tables) (a : Assertion) (w : List ℕ) (steps : List Step) → lib w ≡ None → All (NamesOne lib t a) steps
    → list_any (is_citation w) steps ≡ false
named-uncited lib t a w [] none h = refl
named-uncited lib t a w (Float i ∷ steps) none h = named-uncited lib t a w steps none (All-tail (NamesOne lib t a) (Float i) steps h)
named-uncited lib t a w (Hyp k ∷ steps) none h = named-uncited lib t a w steps none (All-tail (NamesOne lib t a) (Hyp k) steps h)
named-uncited lib t a w (Cite l ∷ steps) none h =
    both_false (bytes_eq w l) (list_any (is_citation w) steps) (elim (cases_Bool (bytes_eq w l)) [
      | inl y ↦
          let found = All-head (NamesOne lib t a) (Cite l) steps h in
          let both : None ≡ Some found.0 = sym none ∙ ap lib (same_bytes w l y) ∙ found.1 in
          absurd cc
      | inr n ↦ n
    ]) (named-uncited lib t a w steps none (All-tail (NamesOne lib t a) (Cite l) steps h))

-- no proof of a library that verifies cites a label that is free
pub verified-uncited : (s : Setting) (es : Entries) (w : List ℕ) → Verifies s (living es) → has (living es) w ≡ false → (q : ℕ) (f : Ranked)
    → StandsIn es q f → cites w f ≡ false
verified-uncited s es w v free q f at =
    let there = stands-living es q f at in
    of_kind f.assertion.kind refl
    (All-contains (λ e. Fits s.prelude e.assertion) (living es) f v.fit there)
    (All-contains (λ e. Checks (citable s (living es) e.rank) s.prelude e.assertion) (living es) f v.checks there)
  where
    of_kind : (k : Kind) → f.assertion.kind ≡ k → Fits s.prelude f.assertion → Checks (citable s (living es) f.rank) s.prelude f.assertion
        → cites w f ≡ false
    of_kind Axiom is fits checks = ap (list_any (is_citation w)) (fits.no_axiom_proof is)
    of_kind Theorem is fits checks =
        let lib = citable s (living es) f.rank in
        let a = f.assertion in
        named-uncited lib s.prelude a w a.proof (frame-unknown s.prelude es f.rank w free)
        (steps_named lib s.prelude a a.proof a.statement (checks is))

-- steps that cite known labels alone don't cite one that is free
pub known-uncited : (lib : List Ranked) (w : List ℕ) (steps : List Step) → has lib w ≡ false → list_any (is_of_unknown lib) steps ≡ false
    → list_any (is_citation w) steps ≡ false
known-uncited lib w [] free h = refl
known-uncited lib w (Float i ∷ steps) free h = known-uncited lib w steps free h
known-uncited lib w (Hyp k ∷ steps) free h = known-uncited lib w steps free h
known-uncited lib w (Cite l ∷ steps) free h =
    let both = or_false (not (has lib l)) (list_any (is_of_unknown lib) steps) h in
    both_false (bytes_eq w l) (list_any (is_citation w) steps) (elim (cases_Bool (bytes_eq w l)) [
      | inl y ↦
          let unknown : has lib l ≡ false = ap (has lib) (sym (same_bytes w l y)) ∙ free in
          absurd (both_ways (not (has lib l)) both.0 (ap not unknown))
      | inr n ↦ n
    ]) (known-uncited lib w steps free both.1)
