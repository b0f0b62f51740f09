-- What another citation in the proof of one theorem does to a library that verifies: it still verifies.
use Rattle.std.proofs.Common.{◌≡◌, ◌<◌, ◌≤◌, ℕ, Bool, true, false, List, [], ◌∷◌, Option, Some, None, length, map, refl, sym, ap, subst, ◌∙◌, inl, inr, arith}
use Rattle.std.specs.Prelude.{nat_le}
use Rattle.std.specs.List.{list_any, Contains}
use Rattle.std.specs.Str.{bytes_eq}
use Rattle.std.proofs.lemmas.Bool.{cases_Bool, cond-true, cond-false, leb-false, or_parts}
use Rattle.std.proofs.lemmas.List.{length-map}
use Rattle.std.proofs.lemmas.List.Elements.{All-contains}
use Rattle.mmsyntax.specs.declared.statement.Assertion.{Assertion}
use Rattle.mmsyntax.specs.declared.statement.Frame.{Frame}
use Rattle.mmsyntax.specs.declared.statement.Step.TheVariants.{Cite}
use Rattle.mmsyntax.specs.Assertions.{Fits}
use Rattle.mmsyntax.proofs.Names.{same_bytes}
use Rattle.mmframes.specs.Frames.{frame}
use Rattle.derivation.specs.Databases.{frame_in}
use Rattle.derivation.specs.Laws.{StandsFor, replacing, step_relabelled}
use Rattle.derivation.proofs.Relabelling.{relabelled-proves}
use Rattle.library.specs.declared.library.Ranked.{Ranked}
use Rattle.library.specs.Library.{Setting, Verifies, label_of, lower, citable}
use Rattle.library.specs.Edits.{is_axiom, found, changed, with_proof, recited, is_alike, are_alike, is_not_below, cites_not_below}
use Rattle.library.proofs.LikeFrames.{alike-stands}
use Rattle.library.proofs.Frames.{frame_found, frame_given}
use Rattle.library.proofs.Lower.{lower_all, lower_has, lower_distinct}
use Rattle.library.proofs.Places.{found_in, found_one, is_labelled-own}
use Rattle.librarylaws.proofs.Reproving.{reprove_verifies}
use Rattle.library.proofs.Showing.{ChecksIn}

-- two assertions that are found are alike
pub record AreFoundAlike (s : Setting) (lib : List Ranked) (old new : List ℕ) : Type 0 where
  pub before : Ranked
  pub after : Ranked
  pub is_before : found lib old ≡ Some before
  pub is_after : found lib new ≡ Some after
  pub alike : is_alike (frame s.prelude before.assertion) (frame s.prelude after.assertion) ≡ true

found_alike-at : (s : Setting) (lib : List Ranked) (old new : List ℕ) (o n : Option Ranked) → found lib old ≡ o → found lib new ≡ n
    → are_alike s o n ≡ true → AreFoundAlike s lib old new
found_alike-at s lib old new None n is_o is_n h = absurd cc
found_alike-at s lib old new (Some o) None is_o is_n h = absurd cc
found_alike-at s lib old new (Some o) (Some n) is_o is_n h = record { before = o; after = n; is_before = is_o; is_after = is_n; alike = h }

pub found_alike : (s : Setting) (lib : List Ranked) (old new : List ℕ) → are_alike s (found lib old) (found lib new) ≡ true
    → AreFoundAlike s lib old new
found_alike s lib old new h = found_alike-at s lib old new (found lib old) (found lib new) refl refl h

module _ (s : Setting) (lib : List Ranked) (v : Verifies s lib) (rank : ℕ) where
  -- the frame that may be cited for a label is that of the assertion that is found
  citable_found : (label : List ℕ) (e : Ranked) (f : Frame) → found lib label ≡ Some e → citable s lib rank label ≡ Some f
      → f ≡ frame s.prelude e.assertion
  citable_found label e f here at =
      let from = frame_found s.prelude (lower lib rank) label f at in
      let Same = λ (b : Assertion). b.label ≡ label → frame s.prelude b ≡ f → f ≡ frame s.prelude e.assertion in
      All-contains Same (lower lib rank) from.0
      (lower_all Same lib rank (λ x x_in below is_label is_frame.
      let same = found_one lib label e x v.library.distinct here x_in (is_labelled-own label x is_label) in
      sym is_frame ∙ ap (λ (y : Ranked). frame s.prelude y.assertion) same)) from.1 from.2 from.3

  -- the assertion that is found may be cited, where it is below
  found_citable : (label : List ℕ) (e : Ranked) → found lib label ≡ Some e → e.rank < rank
      → citable s lib rank label ≡ Some (frame s.prelude e.assertion)
  found_citable label e here below =
      let own = found_in lib label e here in
      ap (citable s lib rank) own.1
      ∙ frame_given s.prelude (lower lib rank) e.assertion (lower_distinct lib rank v.library.distinct) (lower_has lib rank e own.0 below)

-- steps of a theorem in which each citation of the one cites the other, which is alike and below, may stand as its proof
pub replace_verifies : (s : Setting) (lib : List Ranked) (label old new : List ℕ) (e : Ranked) → Verifies s lib → found lib label ≡ Some e
    → is_axiom e.assertion.kind ≡ false → are_alike s (found lib old) (found lib new) ≡ true
    → list_any (cites_not_below lib e.rank) (Cite new ∷ []) ≡ false
    → Verifies s (changed label (with_proof (recited old new e.assertion.proof)) lib)
replace_verifies s lib label old new e v here theorem alike lower_new =
    let t = s.prelude in
    let a = e.assertion in
    let own = (found_in lib label e here).0 in
    let both = found_alike s lib old new alike in
    let may = citable s lib e.rank in
    let below = leb-false e.rank both.after.rank (subst (λ o. is_not_below e.rank o ≡ false) both.is_after
    (or_parts (cites_not_below lib e.rank (Cite new)) false lower_new).0) in
    let Covers = λ (f : Frame) (l : List ℕ). (g : Frame) × (may l ≡ Some g) × StandsFor g f in
    let itself : (f : Frame) → StandsFor f f = λ f. record { floats = refl; hyps = refl; statement = refl; pairs = λ q at. at } in
    let replaced = λ (l : List ℕ) (f : Frame) (at : may l ≡ Some f) (is : bytes_eq old l ≡ true).
    let was = citable_found s lib v e.rank old both.before f both.is_before (ap may (same_bytes old l is) ∙ at) in
    subst (Covers f) (sym (cond-true (bytes_eq old l) new l is)) (
      frame t both.after.assertion,
      found_citable s lib v e.rank new both.after both.is_after below,
      subst (StandsFor (frame t both.after.assertion)) (sym was) (alike-stands t both.before.assertion both.after.assertion both.alike),
    ) in
    let kept = λ (l : List ℕ) (f : Frame) (at : may l ≡ Some f) (not : bytes_eq old l ≡ false).
    subst (Covers f) (sym (cond-false (bytes_eq old l) new l not)) (f, at, itself f) in
    let covers : (l : List ℕ) (f : Frame) → Contains a.proof (Cite l) → may l ≡ Some f → Covers f (replacing old new l) =
    λ l f cited at. elim (cases_Bool (bytes_eq old l)) as (λ o. Covers f (replacing old new l)) [
      | inl is ↦ replaced l f at is
      | inr not ↦ kept l f at not
    ] in
    let few = (All-contains (λ f. Fits t f.assertion) lib e v.fit own).few_steps in
    reprove_verifies s lib label (recited old new a.proof) e v here theorem
    (omega (arith, few, length-map a.proof (step_relabelled (replacing old new))))
    (λ is_theorem. relabelled-proves may may t a (with_proof (recited old new a.proof) e).assertion (replacing old new) a.proof a.statement
    refl refl covers (All-contains (ChecksIn s lib) lib e v.checks own is_theorem))
