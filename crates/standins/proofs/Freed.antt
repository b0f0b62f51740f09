-- What becomes of a library where the entries with some labels go, and each theorem whose proof cites one of these is an axiom: it still
-- verifies.
use Rattle.std.proofs.Common.{◌≡◌, ◌∙◌, ◌+◌, ◌<◌, ℕ, true, false, cond, List, [], ◌∷◌, ◌++◌, length, take, get_or, map, filter, refl, sym, ap, ap₂}
use Rattle.std.proofs.Common.{subst, arith, append-nil}
use Rattle.std.specs.Prelude.{IsTrue}
use mathlib.Core.Bool.{not}
use Rattle.std.specs.List.{list_any}
use Rattle.std.specs.Str.{bytes_eq}
use Rattle.std.proofs.lemmas.Bool.{cond-true, cond-false, cond_both, not_from_false}
use Rattle.std.proofs.lemmas.List.{length-map, map-append}
use Rattle.std.proofs.lemmas.List.Elements.{All-filter, All-map, All-nil, All-weaker, filter_more}
use Rattle.std.proofs.lemmas.List.Filters.{length-filter_both}
use Rattle.mmtext.specs.Words.{Word}
use Rattle.mmsyntax.specs.declared.statement.Assertion.{Assertion}
use Rattle.mmsyntax.specs.declared.statement.Kind.TheVariants.{Axiom}
use Rattle.mmsyntax.specs.declared.statement.Step.{Step}
use Rattle.mmsyntax.specs.declared.statement.Step.TheVariants.{Float, Hyp, Cite}
use Rattle.mmsyntax.specs.Tables.{Tables}
use Rattle.mmsyntax.specs.Assertions.{is_lawful_label, CitesApart, Distinct, Fits}
use Rattle.mmsyntax.specs.Dotted.{ClashNowhere}
use Rattle.mmframes.specs.Frames.{frame}
use Rattle.derivation.specs.Derivation.{Checks}
use Rattle.source.specs.Scopes.{is_in}
use Rattle.library.specs.declared.library.Ranked.{Ranked}
use Rattle.library.specs.Library.{Setting, Verifies, citable, label_of}
use Rattle.library.proofs.Carrying.{checks_carried}
use Rattle.library.proofs.Citations.{none_contained}
use Rattle.library.proofs.Clashing.{apart_among}
use Rattle.library.proofs.Filtered.{contained_filter, contains_filtered, contains_mapped, distinct_filtered}
use Rattle.library.proofs.Showing.{InRange, ChecksIn}
use Rattle.standins.specs.Ending.{cites_one, freed, freed_entry, is_other, withdrawn}

-- ---- an assertion whose proof goes

module _ (ws : List Word) (a : Assertion) where
  -- it is an axiom, or it is as it was
  freed_both : (P : Assertion → Type 0) → (list_any (cites_one ws) a.proof ≡ true → P (record a { kind = Axiom; proof = [] }))
      → (list_any (cites_one ws) a.proof ≡ false → P a) → P (freed ws a)
  freed_both P gone kept = cond_both (list_any (cites_one ws) a.proof) (record a { kind = Axiom; proof = [] }) a P gone kept

  freed_label : (freed ws a).label ≡ a.label
  freed_label = freed_both (λ b. b.label ≡ a.label) (λ _. refl) (λ _. refl)

  freed_frame : (t : Tables) → frame t (freed ws a) ≡ frame t a
  freed_frame t = freed_both (λ b. frame t b ≡ frame t a) (λ _. refl) (λ _. refl)

  freed_fits : (t : Tables) → Fits t a → Fits t (freed ws a)
  freed_fits t f = freed_both (Fits t) (λ _. record {
    statement = f.statement;
    hyps = f.hyps;
    few_hyps = f.few_hyps;
    pairs_within = f.pairs_within;
    pairs_ascend = f.pairs_ascend;
    few_pairs = f.few_pairs;
    no_axiom_proof = λ _. refl;
    few_steps = omega arith;
    cites_apart = All-nil (CitesApart a.label);
  }) (λ _. f)

freed_labels : (ws : List Word) (lib : List Ranked) → map label_of (map (freed_entry ws) lib) ≡ map label_of lib
freed_labels ws [] = refl
freed_labels ws (e ∷ lib) = ap₂ (λ w vs. w ∷ vs) (freed_label ws e.assertion) (freed_labels ws lib)

-- ---- a library

-- it verifies as it did
pub withdrawn_verifies : (s : Setting) (ws : List Word) (lib : List Ranked) → Verifies s lib → Verifies s (withdrawn ws lib)
withdrawn_verifies s ws lib v =
    let kept = is_other ws in
    let left = filter kept lib in
    let out = withdrawn ws lib in
    let free = freed_entry ws in
    let Good = λ (w : Word). IsTrue (is_lawful_label s.prelude w) in
    let labels : map label_of out ≡ map label_of left = freed_labels ws left in
    let differ : Distinct bytes_eq (map label_of out) =
    subst (Distinct bytes_eq) (sym labels) (distinct_filtered label_of kept lib v.library.distinct) in
    record {
      setting = v.setting;
      library = record {
        ranks = All-map InRange free left (All-filter kept InRange lib v.library.ranks);
        lawful = All-map (λ e. Good (label_of e)) free left (All-filter kept (λ e. Good (label_of (free e))) lib
            (All-weaker (λ e. Good (label_of e)) (λ e. Good (label_of (free e)))
            (λ e good. subst Good (sym (freed_label ws e.assertion)) good) lib v.library.lawful));
        distinct = differ;
        apart = subst ClashNowhere (sym labels) (apart_among lib left (contained_filter kept lib) v.library.apart);
        room = omega (arith, length-map left free, length-filter_both kept (λ e. not (kept e)) (λ e. refl) lib, v.library.room);
      };
      fit = All-map (λ e. Fits s.prelude e.assertion) free left (All-filter kept (λ e. Fits s.prelude (free e).assertion) lib
          (All-weaker (λ e. Fits s.prelude e.assertion) (λ e. Fits s.prelude (free e).assertion)
          (λ e. freed_fits ws e.assertion s.prelude) lib v.fit));
      checks = All-map (ChecksIn s out) free left (All-filter kept (λ e. ChecksIn s out (free e)) lib (λ i d lt.
          let e = get_or lib i d in
          freed_both ws e.assertion (Checks (citable s out e.rank) s.prelude) (λ _ theorem. absurd cc) (λ none.
          checks_carried s lib out e.rank e.rank e.assertion differ (λ f at below cited.
          let other : is_in ws (label_of f) ≡ false = none_contained (cites_one ws) e.assertion.proof (Cite (label_of f)) none cited in
          let stays = contains_filtered kept lib f at (not_from_false (is_in ws (label_of f)) other) in (
            free f,
            contains_mapped free left f stays,
            record { below = below; label = freed_label ws f.assertion; alike = freed_frame ws f.assertion s.prelude },
          )) (v.checks i d lt))));
    }

-- ---- one entry after another

module _ (ws : List Word) (lib : List Ranked) (i : ℕ) (d : Ranked) (within : i < length lib) where
  one_more : withdrawn ws (take (i + 1) lib)
      ≡ withdrawn ws (take i lib) ++ map (freed_entry ws) (cond (is_other ws (get_or lib i d)) (get_or lib i d ∷ []) [])
  one_more =
      ap (map (freed_entry ws)) (filter_more (is_other ws) lib i d within)
      ∙ map-append (freed_entry ws) (filter (is_other ws) (take i lib)) (cond (is_other ws (get_or lib i d)) (get_or lib i d ∷ []) [])

  -- one that stays
  pub stays_next : is_other ws (get_or lib i d) ≡ true → (made next : List Ranked) → made ≡ withdrawn ws (take i lib)
      → next ≡ made ++ freed_entry ws (get_or lib i d) ∷ [] → next ≡ withdrawn ws (take (i + 1) lib)
  stays_next stays made next so_far is =
      let e = get_or lib i d in
      is
      ∙ ap (λ es. es ++ freed_entry ws e ∷ []) so_far
      ∙ ap (λ es. withdrawn ws (take i lib) ++ map (freed_entry ws) es) (sym (cond-true (is_other ws e) (e ∷ []) [] stays))
      ∙ sym one_more

  -- one that goes
  pub goes_next : is_other ws (get_or lib i d) ≡ false → (made : List Ranked) → made ≡ withdrawn ws (take i lib)
      → made ≡ withdrawn ws (take (i + 1) lib)
  goes_next goes made so_far =
      let e = get_or lib i d in
      so_far
      ∙ sym (append-nil (withdrawn ws (take i lib)))
      ∙ ap (λ es. withdrawn ws (take i lib) ++ map (freed_entry ws) es) (sym (cond-false (is_other ws e) (e ∷ []) [] goes))
      ∙ sym one_more

-- ---- without such labels

none_cited : (ps : List Step) → list_any (cites_one []) ps ≡ false
none_cited [] = refl
none_cited (Float i ∷ ps) = none_cited ps
none_cited (Hyp k ∷ ps) = none_cited ps
none_cited (Cite w ∷ ps) = none_cited ps

-- it is as it was
pub none_withdrawn : (lib : List Ranked) → withdrawn [] lib ≡ lib
none_withdrawn [] = refl
none_withdrawn (e ∷ lib) =
    ap₂ (λ (a : Assertion) (es : List Ranked). record { rank = e.rank; assertion = a } ∷ es)
    (cond-false (list_any (cites_one []) e.assertion.proof) _ _ (none_cited e.assertion.proof)) (none_withdrawn lib)
