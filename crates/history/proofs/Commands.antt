-- What each command does to the library of some entries, by the places of its labels.
use Rattle.std.proofs.Common.{◌≡◌, ℕ, Bool, true, false, List, [], ◌∷◌, ◌++◌, Option, None, Some, Result, Ok, Err, length, set, refl, sym}
use Rattle.std.proofs.Common.{ap, subst, ◌∙◌}
use Rattle.std.specs.Prelude.{nat_le, ◌==◌, ◌||◌}
use Rattle.std.specs.List.{list_any}
use Rattle.std.specs.Option.{is_some}
use mathlib.Core.Bool.{not}
use Rattle.std.proofs.lemmas.Bool.{cond-true, cond-false}
use Rattle.mmsyntax.specs.declared.statement.Assertion.{Assertion}
use Rattle.mmframes.specs.Frames.{frame}
use Rattle.library.specs.declared.library.Ranked.{Ranked}
use Rattle.library.specs.declared.reason.Reason.{Reason}
use Rattle.library.specs.declared.reason.Reason.TheVariants as reason
use Rattle.library.specs.Library.{Setting, label_of}
use Rattle.library.specs.Edits.{Edited, Tests, tested, of_found, where_so, has, found, changed, without}
use Rattle.library.specs.Edits.{is_axiom, bad_rank, bad_label, label_taken, label_clashes, clashes, cites_unknown, is_of_unknown, added, rename, add_tests}
use Rattle.library.specs.Edits.{unknown_label, is_alike, are_alike, is_not_below, proof_tests, label_tests, replace_tests, rename_tests}
use Rattle.library.proofs.Clashing.{without-absent}
use Rattle.librarylaws.proofs.Editing.{where_none}
use Rattle.library.proofs.Places.{find_nowhere, is_labelled-own}
use Rattle.catalog.specs.Entries.{Entries, living, StandsIn}
use Rattle.catalog.specs.Places.{Places, IsIndex, FoundAt}
use Rattle.catalog.specs.Changes.{IsAlone, with_label, citing, changed_all}
use Rattle.history.specs.Refusals.{first_reason}
use Rattle.catalog.proofs.Living.{found-at, stands-has, some-known}
use Rattle.catalog.proofs.Changing.{living-changed, living-removed, living-pushed, set-last}
use Rattle.catalog.proofs.Indexes.{stands-alone}
use Rattle.catalog.proofs.Citations.{rename_place}

-- ---- tests

pub tested_some : (ts : Tests) (e : Edited) (r : Reason) → first_reason ts ≡ Some r → tested ts e ≡ Err r
tested_some [] e r h = absurd cc
tested_some (None ∷ ts) e r h = tested_some ts e r h
tested_some (Some q ∷ ts) e r h =
    let same : q ≡ r = cc in
    ap (λ x. Err x) same

pub tested_none : (ts : Tests) (e : Edited) → first_reason ts ≡ None → tested ts e ≡ Ok e
tested_none [] e h = refl
tested_none (None ∷ ts) e h = tested_none ts e h
tested_none (Some q ∷ ts) e h = absurd cc

pub so : (b : Bool) (r : Reason) → b ≡ true → where_so b r ≡ Some r
so b r h = cond-true b (Some r) None h

pub not_so : (b : Bool) (r : Reason) → b ≡ false → where_so b r ≡ None
not_so b r h = cond-false b (Some r) None h

-- the first test refuses
pub first-some : (t : Option Reason) (ts : Tests) (r : Reason) → t ≡ Some r → first_reason (t ∷ ts) ≡ Some r
first-some t ts r h = ap (λ x. first_reason (x ∷ ts)) h

-- the first test passes
pub first-none : (t : Option Reason) (ts : Tests) → t ≡ None → first_reason (t ∷ ts) ≡ first_reason ts
first-none t ts h = ap (λ x. first_reason (x ∷ ts)) h

-- no test refuses: neither the first nor the rest
pub first-parts : (t : Option Reason) (ts : Tests) → first_reason (t ∷ ts) ≡ None → (t ≡ None) × (first_reason ts ≡ None)
first-parts None ts h = (refl, h)
first-parts (Some r) ts h = absurd cc

-- more tests behind
pub first-some_more : (ts us : Tests) (r : Reason) → first_reason ts ≡ Some r → first_reason (ts ++ us) ≡ Some r
first-some_more [] us r h = absurd cc
first-some_more (None ∷ ts) us r h = first-some_more ts us r h
first-some_more (Some q ∷ ts) us r h = h

pub first-none_more : (ts us : Tests) → first_reason ts ≡ None → first_reason (ts ++ us) ≡ first_reason us
first-none_more [] us h = refl
first-none_more (None ∷ ts) us h = first-none_more ts us h
first-none_more (Some q ∷ ts) us h = absurd cc

-- the first three of tests, of which the third matters only where the second passes
front_refuses : (b t c c' : Option Reason) (us : Tests) (r : Reason) → (t ≡ None → c' ≡ c) → first_reason (b ∷ t ∷ c' ∷ []) ≡ Some r
    → first_reason (b ∷ t ∷ c ∷ us) ≡ Some r
front_refuses (Some q) t c c' us r same h = h
front_refuses None (Some q) c c' us r same h = h
front_refuses None None c c' us r same h =
    subst (λ x. first_reason (x ∷ us) ≡ Some r) (same refl) (first-some_more (c' ∷ []) us r h)

front_passes : (b t c c' : Option Reason) (us : Tests) → (t ≡ None → c' ≡ c) → first_reason (b ∷ t ∷ c' ∷ []) ≡ None
    → first_reason (b ∷ t ∷ c ∷ us) ≡ first_reason us
front_passes (Some q) t c c' us same h = absurd cc
front_passes None (Some q) c c' us same h = absurd cc
front_passes None None c c' us same h =
    subst (λ x. first_reason (x ∷ us) ≡ first_reason us) (same refl) (first-none_more (c' ∷ []) us h)

-- where no assertion has a label, none is left out by it
clashes_alike : (lib : List Ranked) (w : List ℕ) → label_taken lib w ≡ None → label_clashes (without w lib) w ≡ label_clashes lib w
clashes_alike lib w h = ap (λ l. label_clashes l w) (without-absent lib w (where_none (has lib w) reason.LabelTaken h))

-- adding a theorem is refused for its label
pub add_labelled : (s : Setting) (lib : List Ranked) (rank : ℕ) (a : Assertion) (r : Reason) → rank == 0 ≡ false
    → first_reason (label_tests s lib a.label a.label) ≡ Some r → first_reason (add_tests s lib rank a) ≡ Some r
add_labelled s lib rank a r ranked h =
    first-none (bad_rank rank) _ (not_so (rank == 0) reason.BadRank ranked)
    ∙ front_refuses (bad_label s a.label) (label_taken lib a.label) (label_clashes lib a.label) _ _ r (clashes_alike lib a.label) h

-- the tests of adding a theorem, behind those of the rank and the label
pub add_front : (s : Setting) (lib : List Ranked) (rank : ℕ) (a : Assertion) → rank == 0 ≡ false
    → first_reason (label_tests s lib a.label a.label) ≡ None
    → first_reason (add_tests s lib rank a) ≡ first_reason
    (where_so (is_axiom a.kind) reason.AxiomNotAllowed ∷ (proof_tests s lib rank a
    ++ where_so (nat_le s.slots (length lib)) reason.LibraryFull ∷ []))
add_front s lib rank a ranked h =
    first-none (bad_rank rank) _ (not_so (rank == 0) reason.BadRank ranked)
    ∙ front_passes (bad_label s a.label) (label_taken lib a.label) (label_clashes lib a.label) _ _ (clashes_alike lib a.label) h

-- the tests of a renaming, behind that of the old label, which an assertion has
pub rename_front : (s : Setting) (lib : List Ranked) (old new : List ℕ) → has lib old ≡ true
    → first_reason (rename_tests s lib old new) ≡ first_reason (label_tests s lib old new)
rename_front s lib old new there = first-none (unknown_label lib old) _ (not_so (not (has lib old)) reason.UnknownLabel (ap not there))

-- what may be added has a label that is free
pub add_free : (s : Setting) (lib : List Ranked) (rank : ℕ) (a : Assertion) → first_reason (add_tests s lib rank a) ≡ None
    → has lib a.label ≡ false
add_free s lib rank a h =
    where_none (has lib a.label) reason.LabelTaken (first-parts (label_taken lib a.label) _
    (first-parts (bad_label s a.label) _ (first-parts (bad_rank rank) _ h).1).1).0

-- and cites known labels alone
pub add_known : (s : Setting) (lib : List Ranked) (rank : ℕ) (a : Assertion) → first_reason (add_tests s lib rank a) ≡ None
    → list_any (is_of_unknown lib) a.proof ≡ false
add_known s lib rank a h =
    let labelled = (first-parts (bad_label s a.label) _ (first-parts (bad_rank rank) _ h).1).1 in
    let apart = (first-parts (label_taken lib a.label) _ labelled).1 in
    let theorem = (first-parts (label_clashes lib a.label) _ apart).1 in
    let proof = (first-parts (where_so (is_axiom a.kind) reason.AxiomNotAllowed) _ theorem).1 in
    where_none (list_any (is_of_unknown lib) a.proof) reason.CitesUnknown (first-parts (cites_unknown lib a.proof) _ proof).0

-- what an assertion may be renamed to is free
pub label_free : (s : Setting) (lib : List Ranked) (own label : List ℕ) → first_reason (label_tests s lib own label) ≡ None
    → has lib label ≡ false
label_free s lib own label h =
    where_none (has lib label) reason.LabelTaken (first-parts (label_taken lib label) _ (first-parts (bad_label s label) _ h).1).0

-- the tests of a citation that is replaced, behind those of the two labels, which assertions have
pub replace_front : (s : Setting) (lib : List Ranked) (old new : List ℕ) (e x y : Ranked) → has lib old ≡ true → has lib new ≡ true
    → found lib old ≡ Some x → found lib new ≡ Some y
    → first_reason (replace_tests s lib old new e) ≡ first_reason
    (where_so (is_axiom e.assertion.kind) reason.NotATheorem
    ∷ where_so (not (is_alike (frame s.prelude x.assertion) (frame s.prelude y.assertion))) reason.NotAlike
    ∷ where_so (nat_le e.rank y.rank || false) reason.CitedNotLower
    ∷ [])
replace_front s lib old new e x y known_old known_new former other =
    let theorem = where_so (is_axiom e.assertion.kind) reason.NotATheorem in
    let lower = λ (o : Option Ranked). where_so (is_not_below e.rank o || false) reason.CitedNotLower in
    first-none (unknown_label lib old) _ (not_so (not (has lib old)) reason.UnknownLabel (ap not known_old))
    ∙ first-none (unknown_label lib new) _ (not_so (not (has lib new)) reason.UnknownLabel (ap not known_new))
    ∙ ap (λ o. first_reason (theorem ∷ where_so (not (are_alike s o (found lib new))) reason.NotAlike ∷ lower (found lib new) ∷ [])) former
    ∙ ap (λ o. first_reason (theorem ∷ where_so (not (are_alike s (Some x) o)) reason.NotAlike ∷ lower o ∷ [])) other

-- ---- labels

pub found_nowhere : (lib : List Ranked) (w : List ℕ) (f : Ranked → Result Edited Reason) → has lib w ≡ false
    → of_found (found lib w) f ≡ Err reason.UnknownLabel
found_nowhere lib w f h = ap (λ o. of_found o f) (find_nowhere lib w h)

-- the assertion at a place has the label
pub record HasLabel (m : Places) (es : Entries) (w : List ℕ) (p : ℕ) (e : Ranked) : Type 0 where
  pub indexed : IsIndex m es
  pub at : StandsIn es p e
  pub labelled : label_of e ≡ w

pub known_label : (m : Places) (es : Entries) (w : List ℕ) (p : ℕ) (e : Ranked) (f : Ranked → Result Edited Reason) → HasLabel m es w p e
    → of_found (found (living es) w) f ≡ f e
known_label m es w p e f h = ap (λ o. of_found o f) (found-at m es w p e h.indexed h.at h.labelled)

pub has_own : (m : Places) (es : Entries) (w : List ℕ) (p : ℕ) (e : Ranked) → HasLabel m es w p e → has (living es) w ≡ true
has_own m es w p e h = stands-has es w p (record { entry = e; at = h.at; labelled = h.labelled })

-- whether a label is taken, by what a look-up found
pub known : (slice held : Entries) (w v : List ℕ) (o : Option ℕ) (b : Bool) → slice ≡ held → w ≡ v → FoundAt slice w o → b ≡ is_some o
    → has (living held) v ≡ b
known slice held w v o b same own at is =
    sym (is ∙ some-known slice w o at ∙ ap (λ l. has (living l) w) same ∙ ap (has (living held)) own)

-- the same, of lists and labels that are equal
pub has_label : (m : Places) (inside held slice : Entries) (w v : List ℕ) (p : ℕ) (e : Ranked) → IsIndex m inside → inside ≡ held
    → slice ≡ inside
    → StandsIn slice p e → label_of e ≡ w → w ≡ v → HasLabel m held v p e
has_label m inside held slice w v p e x same read at own as_label = record {
  indexed = subst (IsIndex m) same x;
  at = subst (λ l. StandsIn l p e) (read ∙ same) at;
  labelled = own ∙ as_label;
}

-- whether a label clashes, by what was tested with one left out
pub clashing : (slice held : Entries) (own label v w : List ℕ) (b : Bool) → slice ≡ held → own ≡ v → label ≡ w
    → b ≡ clashes (without own (living slice)) label
    → clashes (without v (living held)) w ≡ b
clashing slice held own label v w b same as_own as_label is =
    sym (is ∙ ap (λ l. clashes (without own (living l)) label) same ∙ ap (λ l. clashes (without l (living held)) label) as_own
    ∙ ap (clashes (without v (living held))) as_label)

pub free_in : (slice held : Entries) (w v : List ℕ) → slice ≡ held → w ≡ v → has (living slice) w ≡ false → has (living held) v ≡ false
free_in slice held w v same as_label h = subst (λ l. has (living l) v ≡ false) same (subst (λ l. has (living slice) l ≡ false) as_label h)

-- what becomes of the library where the assertion with a label is changed
pub library-changed : (m : Places) (es : Entries) (w : List ℕ) (p : ℕ) (e : Ranked) (f : Ranked → Ranked) → HasLabel m es w p e
    → living (set es p (Some (f e))) ≡ changed w f (living es)
library-changed m es w p e f h =
    living-changed es w p f e h.at (is_labelled-own w e h.labelled)
    (subst (λ l. IsAlone es l p) h.labelled (stands-alone m es p e h.indexed h.at))

pub library-without : (m : Places) (es : Entries) (w : List ℕ) (p : ℕ) (e : Ranked) → HasLabel m es w p e
    → living (set es p None) ≡ without w (living es)
library-without m es w p e h =
    living-removed es w p e h.at (is_labelled-own w e h.labelled)
    (subst (λ l. IsAlone es l p) h.labelled (stands-alone m es p e h.indexed h.at))

pub library-renamed : (m : Places) (es : Entries) (old new : List ℕ) (p : ℕ) (e : Ranked) → HasLabel m es old p e
    → living (changed_all (citing old new) (set es p (Some (with_label new e)))) ≡ rename old new (living es)
library-renamed m es old new p e h =
    sym (rename_place old new es p e h.at (is_labelled-own old e h.labelled)
    (subst (λ l. IsAlone es l p) h.labelled (stands-alone m es p e h.indexed h.at)))

pub library-added : (es : Entries) (rank : ℕ) (a : Assertion) (p : ℕ) → p ≡ length es
    → living (set (es ++ None ∷ []) p (Some (record { rank = rank; assertion = a }))) ≡ added (living es) rank a
library-added es rank a p last =
    let e : Ranked = record { rank = rank; assertion = a } in
    ap (λ k. living (set (es ++ None ∷ []) k (Some e))) last ∙ ap living (set-last es None (Some e)) ∙ living-pushed es e
