-- What another rank of one assertion does to a library that verifies: it still verifies.
use Rattle.std.proofs.Common.{◌≡◌, ◌<◌, ℕ, false, List, Some, map, refl, ap, subst, inl, inr, arith}
use Rattle.std.specs.Prelude.{nat_le, ◌&&◌}
use Rattle.std.specs.List.{list_any, Contains}
use Rattle.std.specs.Str.{bytes_eq}
use Rattle.std.proofs.lemmas.Bool.{and_cases, both_ways, leb-false}
use Rattle.std.proofs.lemmas.List.Elements.{All-contains}
use Rattle.mmsyntax.specs.declared.statement.Step.{Step}
use Rattle.mmsyntax.specs.declared.statement.Step.TheVariants.{Cite}
use Rattle.mmsyntax.specs.Assertions.{Distinct, Fits}
use Rattle.library.specs.declared.library.Ranked.{Ranked}
use Rattle.library.specs.Library.{Setting, Verifies, label_of}
use Rattle.library.specs.Edits.{is_labelled, cites, found, changed, with_rank, is_not_below, cites_not_below}
use Rattle.library.proofs.Carrying.{checks_carried}
use Rattle.library.proofs.Changing.{Keeps, changed_distinct, stands_changed, changed_verifies}
use Rattle.library.proofs.Citations.{none_contained, cites_from}
use Rattle.library.proofs.Places.{found_own, found_in, found_one}
use Rattle.library.proofs.Showing.{InRange, ChecksIn}

-- what is cited is below a rank, where the test finds nothing else
cited_below : (lib : List Ranked) (rank : ℕ) (steps : List Step) (f : Ranked) → Distinct bytes_eq (map label_of lib) → Contains lib f
    → list_any (cites_not_below lib rank) steps ≡ false → Contains steps (Cite (label_of f)) → f.rank < rank
cited_below lib rank steps f apart at h cited =
    let below = none_contained (cites_not_below lib rank) steps (Cite (label_of f)) h cited in
    leb-false rank f.rank (subst (λ o. is_not_below rank o ≡ false) (found_own lib f apart at) below)

-- a citer is above a rank, where the test finds no other
citer_above : (lib : List Ranked) (rank : ℕ) (label : List ℕ) (e : Ranked) → Contains lib e
    → list_any (λ f. cites label f && nat_le f.rank rank) lib ≡ false → Contains e.assertion.proof (Cite label) → rank < e.rank
citer_above lib rank label e at h cited =
    elim (and_cases (cites label e) (nat_le e.rank rank) (none_contained (λ f. cites label f && nat_le f.rank rank) lib e h at)) [
      | inl none ↦ absurd (both_ways (cites label e) none (cites_from label e cited))
      | inr above ↦ leb-false e.rank rank above
    ]

-- a rank above those of what the proof cites, and below those of the citers, may be given
pub move_verifies : (s : Setting) (lib : List Ranked) (label : List ℕ) (rank : ℕ) (e : Ranked) → Verifies s lib
    → found lib label ≡ Some e → InRange (with_rank rank e) → list_any (cites_not_below lib rank) e.assertion.proof ≡ false
    → list_any (λ f. cites (label_of e) f && nat_le f.rank rank) lib ≡ false → Verifies s (changed label (with_rank rank) lib)
move_verifies s lib label rank e v here in_range above_cited below_citers =
    let change = with_rank rank in
    let keeps : Keeps s.prelude change = λ f. (refl, refl) in
    let lib' = changed label change lib in
    let apart = v.library.distinct in
    let apart' = changed_distinct s lib label change keeps apart in
    let own = (found_in lib label e here).0 in
    let moved = checks_carried s lib lib' e.rank rank e.assertion apart'
    (λ f at lt cited. stands_changed s lib label change keeps rank f at
    (λ y. let same = found_one lib label e f apart here at y in omega (arith, ap (λ (g : Ranked). g.rank) same))
    (λ n. cited_below lib rank e.assertion.proof f apart at above_cited cited))
    (All-contains (ChecksIn s lib) lib e v.checks own) in
    let others = λ (g : Ranked) (g_in : Contains lib g) (n : is_labelled label g ≡ false).
    checks_carried s lib lib' g.rank g.rank g.assertion apart'
    (λ f at lt cited. stands_changed s lib label change keeps g.rank f at
    (λ y. citer_above lib rank (label_of e) g g_in below_citers
    (subst (λ l. Contains g.assertion.proof (Cite l)) (ap label_of (found_one lib label e f apart here at y)) cited)) (λ _. lt))
    (All-contains (ChecksIn s lib) lib g v.checks g_in) in
    let fits = All-contains (λ f. Fits s.prelude f.assertion) lib e v.fit own in
    changed_verifies s lib label change keeps e v here in_range fits moved others
