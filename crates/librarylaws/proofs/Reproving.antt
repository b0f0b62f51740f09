-- What another proof of one theorem does to a library that verifies: it still verifies.
use Rattle.std.proofs.Common.{◌≡◌, ◌≢◌, ◌≤◌, ℕ, false, List, Some, length, refl, ap}
use Rattle.std.specs.List.{All}
use Rattle.std.proofs.lemmas.Bool.{both_ways}
use Rattle.std.proofs.lemmas.List.Elements.{All-contains}
use Rattle.mmsyntax.specs.declared.statement.Kind.TheVariants.{Axiom}
use Rattle.mmsyntax.specs.declared.statement.Step.{Step}
use Rattle.mmsyntax.specs.Assertions.{CitesApart, Fits}
use Rattle.mmsyntax.specs.Tables.{Tables}
use Rattle.library.specs.declared.library.Ranked.{Ranked}
use Rattle.library.specs.Library.{Setting, Verifies, label_of}
use Rattle.library.specs.Edits.{is_axiom, found, changed, with_proof}
use Rattle.library.proofs.Carrying.{checks_carried}
use Rattle.library.proofs.Changing.{Keeps, changed_distinct, stands_changed, changed_verifies}
use Rattle.library.proofs.CitingApart.{proof_apart}
use Rattle.library.proofs.Filtered.{contains_mapped}
use Rattle.library.proofs.Places.{found_in}
use Rattle.library.proofs.Showing.{InRange, ChecksIn}

no_axiom : (e : Ranked) → is_axiom e.assertion.kind ≡ false → e.assertion.kind ≢ Axiom
no_axiom e theorem is = both_ways (is_axiom e.assertion.kind) theorem (ap is_axiom is)

fits_reproved : (t : Tables) (steps : List Step) (e : Ranked) → is_axiom e.assertion.kind ≡ false → length steps ≤ 16384
    → All (CitesApart (label_of e)) steps → Fits t e.assertion → Fits t (with_proof steps e).assertion
fits_reproved t steps e theorem few apart f = record {
  statement = f.statement;
  hyps = f.hyps;
  few_hyps = f.few_hyps;
  pairs_within = f.pairs_within;
  pairs_ascend = f.pairs_ascend;
  few_pairs = f.few_pairs;
  no_axiom_proof = λ is. absurd (no_axiom e theorem is);
  few_steps = few;
  cites_apart = apart;
}

-- other steps that check may stand as the proof of a theorem
pub reprove_verifies : (s : Setting) (lib : List Ranked) (label : List ℕ) (steps : List Step) (e : Ranked) → Verifies s lib
    → found lib label ≡ Some e → is_axiom e.assertion.kind ≡ false → length steps ≤ 16384 → ChecksIn s lib (with_proof steps e)
    → Verifies s (changed label (with_proof steps) lib)
reprove_verifies s lib label steps e v here theorem few checks =
    let change = with_proof steps in
    let keeps : Keeps s.prelude change = λ f. (refl, refl) in
    let own = (found_in lib label e here).0 in
    let label_in = contains_mapped label_of lib e own in
    let apart = proof_apart s lib v.library.apart (change e) label_in (λ is. absurd (no_axiom e theorem is)) checks in
    let still = λ (g : Ranked). checks_carried s lib (changed label change lib) g.rank g.rank g.assertion
    (changed_distinct s lib label change keeps v.library.distinct)
    (λ f at lt cited. stands_changed s lib label change keeps g.rank f at (λ y. lt) (λ n. lt)) in
    changed_verifies s lib label change keeps e v here (All-contains InRange lib e v.library.ranks own)
    (fits_reproved s.prelude steps e theorem few apart (All-contains (λ f. Fits s.prelude f.assertion) lib e v.fit own))
    (still (with_proof steps e) checks) (λ g at n. still g (All-contains (ChecksIn s lib) lib g v.checks at))
