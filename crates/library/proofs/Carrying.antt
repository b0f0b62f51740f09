-- What checks over one library checks over another, in which what it cites stands as it did.
use Rattle.std.proofs.Common.{◌≡◌, ◌<◌, ℕ, List, Some, map, sym, ap, subst, ◌∙◌}
use Rattle.std.specs.List.{Contains}
use Rattle.std.specs.Str.{bytes_eq}
use Rattle.std.proofs.lemmas.List.Elements.{All-contains}
use Rattle.mmsyntax.specs.declared.statement.Assertion.{Assertion}
use Rattle.mmsyntax.specs.declared.statement.Step.TheVariants.{Cite}
use Rattle.mmsyntax.specs.Assertions.{Distinct}
use Rattle.mmsyntax.specs.Tables.{Tables}
use Rattle.mmframes.specs.Frames.{frame}
use Rattle.derivation.specs.Databases.{frame_in}
use Rattle.derivation.specs.Derivation.{Checks}
use Rattle.library.specs.declared.library.Ranked.{Ranked}
use Rattle.library.specs.Library.{Setting, label_of, lower, citable}
use Rattle.library.proofs.Derivations.{proves_cited}
use Rattle.library.proofs.Frames.{frame_found, frame_given}
use Rattle.library.proofs.Lower.{lower_all, lower_has, lower_distinct}

-- a proof of this rank may cite g as it cites f
pub record IsCitedAs (t : Tables) (rank : ℕ) (f g : Ranked) : Type 0 where
  pub below : g.rank < rank
  pub label : label_of g ≡ label_of f
  pub alike : frame t g.assertion ≡ frame t f.assertion

-- each entry that an assertion of this rank cites is cited as one of the other library, by an assertion of the other rank
abbrev pub IsCarried : Setting → List Ranked → ℕ → List Ranked → ℕ → Assertion → Type 0
IsCarried s lib rank other rank' a =
    (f : Ranked) → Contains lib f → f.rank < rank → Contains a.proof (Cite (label_of f))
    → (g : Ranked) × Contains other g × IsCitedAs s.prelude rank' f g

pub checks_carried : (s : Setting) (lib other : List Ranked) (rank rank' : ℕ) (a : Assertion) → Distinct bytes_eq (map label_of other)
    → IsCarried s lib rank other rank' a → Checks (citable s lib rank) s.prelude a → Checks (citable s other rank') s.prelude a
checks_carried s lib other rank rank' a apart carried h theorem =
    let t = s.prelude in
    proves_cited (citable s lib rank) (citable s other rank') t a a.proof a.statement (λ label f cited at.
    let found = frame_found t (lower lib rank) label f at in
    let Gives = λ (b : Assertion). b.label ≡ label → frame t b ≡ f → citable s other rank' label ≡ Some f in
    let given = lower_all Gives lib rank (λ e e_in below is_label is_frame.
    let g = carried e e_in below (subst (λ l. Contains a.proof (Cite l)) (sym is_label) cited) in
    let there = lower_has other rank' g.0 g.1 g.2.below in
    ap (frame_in t (lower other rank')) (sym (g.2.label ∙ is_label))
    ∙ frame_given t (lower other rank') g.0.assertion (lower_distinct other rank' apart) there
    ∙ ap (λ x. Some x) (g.2.alike ∙ is_frame)) in
    All-contains Gives (lower lib rank) found.0 given found.1 found.2 found.3) (h theorem)
