-- What the removal of an assertion that none cites does to a library that verifies: it still verifies.
use Rattle.std.proofs.Common.{◌≡◌, ℕ, false, List, get_or, refl, sym, subst, arith}
use Rattle.std.specs.Prelude.{IsTrue}
use mathlib.Core.Bool.{not}
use Rattle.std.specs.List.{Contains, list_any}
use Rattle.std.proofs.lemmas.Bool.{both_ways, false_from_ne_true, not_from_false}
use Rattle.std.proofs.lemmas.List.Elements.{All-filter, Contains-get_or}
use Rattle.std.proofs.lemmas.List.Filters.{length-filter_both}
use Rattle.mmsyntax.specs.declared.statement.Step.TheVariants.{Cite}
use Rattle.mmsyntax.specs.Assertions.{is_lawful_label, Fits}
use Rattle.mmsyntax.proofs.Names.{same_bytes}
use Rattle.library.specs.declared.library.Ranked.{Ranked}
use Rattle.library.specs.Library.{Setting, Verifies, label_of}
use Rattle.library.specs.Edits.{is_labelled, cites, without}
use Rattle.library.proofs.Carrying.{checks_carried}
use Rattle.library.proofs.Citations.{none_contained, cites_from}
use Rattle.library.proofs.Clashing.{apart_among}
use Rattle.library.proofs.Filtered.{contained_filter, contains_filtered, distinct_filtered}
use Rattle.library.proofs.Showing.{InRange, ChecksIn}

-- what an entry cites is kept, where no entry cites the label
cited_kept : (lib : List Ranked) (label : List ℕ) (e f : Ranked) → list_any (cites label) lib ≡ false → Contains lib e → Contains lib f
    → Contains e.assertion.proof (Cite (label_of f)) → Contains (without label lib) f
cited_kept lib label e f none e_in f_in cited =
    let other : is_labelled label f ≡ false =
    false_from_ne_true (is_labelled label f) (λ y.
    let here = subst (λ l. Contains e.assertion.proof (Cite l)) (sym (same_bytes label (label_of f) y)) cited in
    both_ways (cites label e) (none_contained (cites label) lib e none e_in) (cites_from label e here)) in
    contains_filtered (λ g. not (is_labelled label g)) lib f f_in (not_from_false (is_labelled label f) other)

-- an assertion that no proof cites may be removed
pub delete_verifies : (s : Setting) (lib : List Ranked) (label : List ℕ) → Verifies s lib → list_any (cites label) lib ≡ false
    → Verifies s (without label lib)
delete_verifies s lib label v none =
    let kept = λ (e : Ranked). not (is_labelled label e) in
    let Lawful = λ (e : Ranked). IsTrue (is_lawful_label s.prelude (label_of e)) in
    let Still = ChecksIn s (without label lib) in
    let differ = distinct_filtered label_of kept lib v.library.distinct in
    record {
      setting = v.setting;
      library = record {
        ranks = All-filter kept InRange lib v.library.ranks;
        lawful = All-filter kept Lawful lib v.library.lawful;
        distinct = differ;
        apart = apart_among lib (without label lib) (contained_filter kept lib) v.library.apart;
        room = omega (arith, length-filter_both kept (λ e. not (kept e)) (λ e. refl) lib, v.library.room);
      };
      fit = All-filter kept (λ e. Fits s.prelude e.assertion) lib v.fit;
      checks = All-filter kept Still lib (λ i d lt.
          let e = get_or lib i d in
          checks_carried s lib (without label lib) e.rank e.rank e.assertion differ
          (λ f at below cited. (
            f,
            cited_kept lib label e f none (Contains-get_or lib i d lt) at cited,
            record { below = below; label = refl; alike = refl },
          )) (v.checks i d lt));
    }
