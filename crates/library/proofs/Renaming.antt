-- What a renaming does to a library that verifies: it still verifies.
use Rattle.std.proofs.Common.{◌≡◌, ◌≢◌, ◌≤◌, ℕ, true, false, cond, List, [], ◌∷◌, get_or, map, refl, sym, ap, subst, ◌∙◌}
use Rattle.std.specs.Prelude.{IsTrue, nat_lt, filter}
use Rattle.std.specs.List.{All}
use Rattle.std.specs.Str.{bytes_eq}
use Rattle.std.proofs.lemmas.Bool.{cond_both, both_ways}
use Rattle.std.proofs.lemmas.List.{length-map}
use Rattle.std.proofs.lemmas.List.Elements.{All-map, All-weaker, Contains-get_or}
use Rattle.mmsyntax.specs.declared.statement.Assertion.{Assertion}
use Rattle.mmsyntax.specs.declared.statement.Kind.TheVariants.{Axiom}
use Rattle.mmsyntax.specs.Tables.{Tables}
use Rattle.mmsyntax.specs.Assertions.{is_lawful_label, CitesApart, Distinct, Fits}
use Rattle.mmsyntax.specs.Dotted.{ClashNowhere}
use Rattle.derivation.specs.Laws.{replacing, step_relabelled, renamed}
use Rattle.derivation.specs.Derivation.{Proves}
use Rattle.derivation.specs.Databases.{frame_in}
use Rattle.derivation.proofs.Relabelling.{renamed-proves}
use Rattle.library.specs.declared.library.Ranked.{Ranked}
use Rattle.library.specs.Library.{Setting, IsLibrary, Verifies, label_of, lower}
use Rattle.library.specs.Edits.{rename, has, clashes, without}
use Rattle.library.proofs.CitingApart.{proof_apart}
use Rattle.library.proofs.Clashing.{apart_replaced}
use Rattle.library.proofs.Filtered.{contains_mapped}
use Rattle.library.proofs.Labels.{distinct_replaced}
use Rattle.library.proofs.Lower.{lower_all}
use Rattle.library.proofs.Places.{has-labels, has_at}
use Rattle.library.proofs.Showing.{InRange, ChecksIn}

-- the assertion as a renaming leaves it, its label included
abbrev pub renamed_entry : List ℕ → List ℕ → Ranked → Ranked
renamed_entry old new e = record { rank = e.rank; assertion = renamed old new e.assertion }

-- ---- what stays

no_proof_renamed : (old new : List ℕ) (a : Assertion) → (a.kind ≡ Axiom → a.proof ≡ []) → a.kind ≡ Axiom → (renamed old new a).proof ≡ []
no_proof_renamed old new a none is = ap (map (step_relabelled (replacing old new))) (none is)

-- where the new proof cites apart from the new label
fits_renamed : (t : Tables) (old new : List ℕ) (a : Assertion) → All (CitesApart (renamed old new a).label) (renamed old new a).proof
    → Fits t a
    → Fits t (renamed old new a)
fits_renamed t old new a apart f = record {
  statement = f.statement;
  hyps = f.hyps;
  few_hyps = f.few_hyps;
  pairs_within = f.pairs_within;
  pairs_ascend = f.pairs_ascend;
  few_pairs = f.few_pairs;
  no_axiom_proof = no_proof_renamed old new a f.no_axiom_proof;
  few_steps = subst (λ n. n ≤ 16384) (sym (length-map a.proof (step_relabelled (replacing old new)))) f.few_steps;
  cites_apart = apart;
}

labels-rename : (old new : List ℕ) (lib : List Ranked) → map label_of (rename old new lib) ≡ map (replacing old new) (map label_of lib)
labels-rename old new [] = refl
labels-rename old new (e ∷ lib) = ap (λ ls. replacing old new (label_of e) ∷ ls) (labels-rename old new lib)

library_renamed : (s : Setting) (lib : List Ranked) (old new : List ℕ) → IsLibrary s lib → IsTrue (is_lawful_label s.prelude new)
    → has lib new ≡ false → clashes (without old lib) new ≡ false → IsLibrary s (rename old new lib)
library_renamed s lib old new l lawful free clear =
    let f = renamed_entry old new in
    let Good = λ (w : List ℕ). IsTrue (is_lawful_label s.prelude w) in
    record {
      ranks = All-map InRange f lib l.ranks;
      lawful = All-map (λ e. Good (label_of e)) f lib
          (All-weaker (λ e. Good (label_of e)) (λ e. Good (replacing old new (label_of e)))
          (λ e own. cond_both (bytes_eq old (label_of e)) new (label_of e) Good (λ _. lawful) (λ _. own)) lib l.lawful);
      distinct = subst (Distinct bytes_eq) (sym (labels-rename old new lib))
          (distinct_replaced old new (map label_of lib) l.distinct (has-labels lib new ∙ free));
      apart = subst ClashNowhere (sym (labels-rename old new lib)) (apart_replaced lib old new clear l.apart);
      room = subst (λ n. n ≤ s.slots) (sym (length-map lib f)) l.room;
    }

-- ---- the proofs

-- ranks stay, so the assertions of lower rank are the same ones, renamed
lower-rename : (old new : List ℕ) (lib : List Ranked) (rank : ℕ) → lower (rename old new lib) rank ≡ map (renamed old new) (lower lib rank)
lower-rename old new [] rank = refl
lower-rename old new (e ∷ lib) rank =
    let later = lower-rename old new lib rank in
    let rest = filter (λ (f : Ranked). nat_lt f.rank rank) lib in
    let rest' = filter (λ (f : Ranked). nat_lt f.rank rank) (rename old new lib) in
    let assertion = λ (f : Ranked). f.assertion in
    elim (nat_lt e.rank rank) as (λ b. map assertion (cond b (renamed_entry old new e ∷ rest') rest')
    ≡ map (renamed old new) (map assertion (cond b (e ∷ rest) rest))) [
      | true ↦ ap (λ xs. renamed old new e.assertion ∷ xs) later
      | false ↦ later
    ]

-- an assertion of lower rank does not have a label that none has
none_new : (lib : List Ranked) (new : List ℕ) (rank : ℕ) → has lib new ≡ false → All (λ a. a.label ≢ new) (lower lib rank)
none_new lib new rank free =
    lower_all (λ a. a.label ≢ new) lib rank
    (λ e at lt same. both_ways (has lib new) free (has_at lib new at.0 e at.1 (ap label_of at.2 ∙ same)))

checks_renamed : (s : Setting) (lib : List Ranked) (old new : List ℕ) (e : Ranked) → has lib new ≡ false → ChecksIn s lib e
    → ChecksIn s (rename old new lib) (renamed_entry old new e)
checks_renamed s lib old new e free h = λ theorem.
    let t = s.prelude in
    let a = e.assertion in
    let b = renamed old new a in
    subst (λ xs. Proves (frame_in t xs) t b b.proof b.statement) (sym (lower-rename old new lib e.rank))
    (renamed-proves t (lower lib e.rank) old new a (none_new lib new e.rank free) (h theorem))

-- a lawful label that no assertion has, and that clashes with none of the others, may be given
pub rename_verifies : (s : Setting) (lib : List Ranked) (old new : List ℕ) → Verifies s lib → IsTrue (is_lawful_label s.prelude new)
    → has lib new ≡ false → clashes (without old lib) new ≡ false → Verifies s (rename old new lib)
rename_verifies s lib old new v lawful free clear =
    let t = s.prelude in
    let f = renamed_entry old new in
    let After = ChecksIn s (rename old new lib) in
    let library = library_renamed s lib old new v.library lawful free clear in
    let checks : All (λ e. After (f e)) lib =
    All-weaker (ChecksIn s lib) (λ e. After (f e)) (λ e. checks_renamed s lib old new e free) lib v.checks in
    record {
      setting = v.setting;
      library = library;
      fit = All-map (λ e. Fits t e.assertion) f lib (λ i d lt.
          let e = get_or lib i d in
          let fits = v.fit i d lt in
          let own = contains_mapped label_of (rename old new lib) (f e) (contains_mapped f lib e (Contains-get_or lib i d lt)) in
          let none = no_proof_renamed old new e.assertion fits.no_axiom_proof in
          fits_renamed t old new e.assertion (proof_apart s (rename old new lib) library.apart (f e) own none (checks i d lt)) fits);
      checks = All-map After f lib checks;
    }
