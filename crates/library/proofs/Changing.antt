-- What a change of one assertion, of its rank or its steps, does to a library that verifies.
use Rattle.std.proofs.Common.{◌≡◌, ◌<◌, ℕ, true, false, List, [], ◌∷◌, Some, get_or, map, refl, sym, subst, arith}
use Rattle.std.specs.Prelude.{IsTrue, if◌then◌else◌}
use Rattle.std.specs.List.{All, Contains}
use Rattle.std.specs.Str.{bytes_eq}
use Rattle.std.proofs.lemmas.Bool.{cond_both}
use Rattle.std.proofs.lemmas.List.{length-map}
use Rattle.std.proofs.lemmas.List.Elements.{All-map, All-contains, Contains-get_or}
use Rattle.mmsyntax.specs.Assertions.{is_lawful_label, Distinct, Fits}
use Rattle.mmsyntax.specs.Dotted.{ClashNowhere}
use Rattle.mmsyntax.specs.Tables.{Tables}
use Rattle.mmframes.specs.Frames.{frame}
use Rattle.library.specs.declared.library.Ranked.{Ranked}
use Rattle.library.specs.Library.{Setting, Verifies, label_of}
use Rattle.library.specs.Edits.{is_labelled, found, changed}
use Rattle.library.proofs.Carrying.{IsCitedAs}
use Rattle.library.proofs.Filtered.{contains_mapped}
use Rattle.library.proofs.Places.{found_in, found_one}
use Rattle.library.proofs.Showing.{InRange, ChecksIn}

-- the entry, changed where it has the label
abbrev pub change_at : List ℕ → (Ranked → Ranked) → Ranked → Ranked
change_at label change e = if is_labelled label e then change e else e

-- the change keeps labels, and what a proof that cites an entry sees
abbrev pub Keeps : Tables → (Ranked → Ranked) → Type 0
Keeps t change = (e : Ranked) → (label_of (change e) ≡ label_of e) × (frame t (change e).assertion ≡ frame t e.assertion)

module _ (s : Setting) (lib : List Ranked) (label : List ℕ) (change : Ranked → Ranked) (keeps : Keeps s.prelude change) where
  changed_keeps : Keeps s.prelude (change_at label change)
  changed_keeps e =
      cond_both (is_labelled label e) (change e) e
      (λ f. (label_of f ≡ label_of e) × (frame s.prelude f.assertion ≡ frame s.prelude e.assertion)) (λ y. keeps e) (λ n. (refl, refl))

  labels-changed : (es : List Ranked) → map label_of (changed label change es) ≡ map label_of es
  labels-changed [] = refl
  labels-changed (e ∷ es) =
      let first = (changed_keeps e).0 in
      let later = labels-changed es in
      cc

  pub changed_distinct : Distinct bytes_eq (map label_of lib) → Distinct bytes_eq (map label_of (changed label change lib))
  changed_distinct apart = subst (Distinct bytes_eq) (sym (labels-changed lib)) apart

  -- an entry that a proof of the rank may cite still stands where that proof may cite it
  pub stands_changed : (rank : ℕ) (f : Ranked) → Contains lib f → (is_labelled label f ≡ true → (change f).rank < rank)
      → (is_labelled label f ≡ false → f.rank < rank)
      → (g : Ranked) × Contains (changed label change lib) g × IsCitedAs s.prelude rank f g
  stands_changed rank f at when_changed otherwise = (
    change_at label change f,
    contains_mapped (change_at label change) lib f at,
    record {
      below = cond_both (is_labelled label f) (change f) f (λ g. g.rank < rank) when_changed otherwise;
      label = (changed_keeps f).0;
      alike = (changed_keeps f).1;
    },
  )

  module _ (e : Ranked) (v : Verifies s lib) (here : found lib label ≡ Some e) where
    -- what holds of the changed entry, and of each with another label, holds of all
    changed_all : (P : Ranked → Type 0) → P (change e) → ((f : Ranked) → Contains lib f → is_labelled label f ≡ false → P f)
        → All P (changed label change lib)
    changed_all P changed others =
        All-map P (change_at label change) lib (λ i d lt.
        let f = get_or lib i d in
        let at = Contains-get_or lib i d lt in
        cond_both (is_labelled label f) (change f) f P
        (λ y. subst (λ x. P (change x)) (sym (found_one lib label e f v.library.distinct here at y)) changed) (others f at))

    -- where the changed entry is in range, fits and checks, and the others still check
    pub changed_verifies : InRange (change e) → Fits s.prelude (change e).assertion → ChecksIn s (changed label change lib) (change e)
        → ((f : Ranked) → Contains lib f → is_labelled label f ≡ false → ChecksIn s (changed label change lib) f)
        → Verifies s (changed label change lib)
    changed_verifies in_range fits checks others =
        let Lawful = λ (f : Ranked). IsTrue (is_lawful_label s.prelude (label_of f)) in
        let Fit = λ (f : Ranked). Fits s.prelude f.assertion in
        let own = All-contains Lawful lib e v.library.lawful (found_in lib label e here).0 in
        record {
          setting = v.setting;
          library = record {
            ranks = changed_all InRange in_range (λ f at n. All-contains InRange lib f v.library.ranks at);
            lawful = changed_all Lawful (subst (λ l. IsTrue (is_lawful_label s.prelude l)) (sym (keeps e).0) own)
                (λ f at n. All-contains Lawful lib f v.library.lawful at);
            distinct = changed_distinct v.library.distinct;
            apart = subst ClashNowhere (sym (labels-changed lib)) v.library.apart;
            room = omega (arith, length-map lib (change_at label change), v.library.room);
          };
          fit = changed_all Fit fits (λ f at n. All-contains Fit lib f v.fit at);
          checks = changed_all (ChecksIn s (changed label change lib)) checks others;
        }
