-- Derivations: they carry over to other citable frames, and each of their steps names something.
use Rattle.std.proofs.Common.{◌≡◌, ◌≢◌, ◌<◌, ℕ, List, [], ◌∷◌, Some, length, get_or, refl, ap, subst, arith, length-append}
use Rattle.std.specs.Prelude.{All, Contains}
use Rattle.std.proofs.lemmas.List.Folds.{map_fixed}
use Rattle.std.proofs.lemmas.List.Elements.{All-nil, All-cons, All-append}
use Rattle.std.proofs.lemmas.Option.{slice_get_within}
use Rattle.mmsyntax.specs.declared.statement.Frame.{Frame}
use Rattle.mmsyntax.specs.declared.statement.Assertion.{Assertion}
use Rattle.mmsyntax.specs.declared.statement.Step.{Step}
use Rattle.mmsyntax.specs.declared.statement.Step.TheVariants.{Float, Hyp, Cite}
use Rattle.mmsyntax.specs.Tables.{Tables}
use Rattle.derivation.specs.Derivation.{Expression, Citable, Tree, Trees, float, hyp, node, none, some, Derives, DeriveEach}
use Rattle.derivation.specs.Derivation.{listing, listings, Proves, Checks}
use Rattle.derivation.specs.Laws.{step_relabelled, StandsFor}
use Rattle.derivation.proofs.Relabelling.{relabelled-proves}

-- ---- other citable frames

-- each frame that the one gives for a label the other gives too
abbrev pub Within : Citable → Citable → Type 0
Within lib lib' = (label : List ℕ) (f : Frame) → lib label ≡ Some f → lib' label ≡ Some f

step_itself : (step : Step) → step_relabelled (λ l. l) step ≡ step
step_itself (Float i) = refl
step_itself (Hyp k) = refl
step_itself (Cite label) = refl

-- steps prove the same over the other, where it gives the same frame for each label that they cite
pub proves_cited : (lib lib' : Citable) (p : Tables) (a : Assertion) (steps : List Step) (e : Expression)
    → ((label : List ℕ) (f : Frame) → Contains steps (Cite label) → lib label ≡ Some f → lib' label ≡ Some f)
    → Proves lib p a steps e → Proves lib' p a steps e
proves_cited lib lib' p a steps e same h =
    let itself : (f : Frame) → StandsFor f f = λ f. record { floats = refl; hyps = refl; statement = refl; pairs = λ q at. at } in
    subst (λ ss. Proves lib' p a ss e) (map_fixed (step_relabelled (λ l. l)) steps (λ i d lt. step_itself (get_or steps i d)))
    (relabelled-proves lib lib' p a a (λ l. l) steps e refl refl (λ label f cited at. (f, same label f cited at, itself f)) h)

-- what checks over the one checks over the other
pub checks_within : (lib lib' : Citable) (p : Tables) (a : Assertion) → Within lib lib' → Checks lib p a → Checks lib' p a
checks_within lib lib' p a within h theorem =
    proves_cited lib lib' p a a.proof a.statement (λ label f cited at. within label f at) (h theorem)

-- ---- steps

-- a step names a $f of the prelude, a hypothesis, or a label with a frame
abbrev pub NamesOne : (lib : Citable) (p : Tables) (a : Assertion) → Step → Type 0
NamesOne lib p a (Float i) = i < length p.floats
NamesOne lib p a (Hyp k) = k < length a.hyps
NamesOne lib p a (Cite label) = (f : Frame) × (lib label ≡ Some f)

module _ (lib : Citable) (p : Tables) (a : Assertion) where
  abbrev Named : List Step → Type 0
  Named steps = All (NamesOne lib p a) steps

  one_named : (s : Step) → NamesOne lib p a s → Named (s ∷ [])
  one_named s h = All-cons (NamesOne lib p a) s [] h (All-nil (NamesOne lib p a))

  mutual
    tree_named : (t : Tree) (e : Expression) → Derives lib p a t e → Named (listing t)
    tree_named (float i) e h = one_named (Float i) (slice_get_within p.floats i h.0 h.1)
    tree_named (hyp k) e h = one_named (Hyp k) (slice_get_within a.hyps k e h)
    tree_named (node label ts) e h =
        All-append (NamesOne lib p a) (listings ts) (Cite label ∷ []) (trees_named ts h.1 h.3) (one_named (Cite label) (h.0, h.2))

    trees_named : (ts : Trees) (es : List Expression) → DeriveEach lib p a ts es → Named (listings ts)
    trees_named none es h = All-nil (NamesOne lib p a)
    trees_named (some t ts) es h =
        All-append (NamesOne lib p a) (listing t) (listings ts) (tree_named t h.0 h.3) (trees_named ts h.1 h.4)

  -- each step of a proof names something
  pub steps_named : (steps : List Step) (e : Expression) → Proves lib p a steps e → Named steps
  steps_named steps e h = subst Named h.1 (tree_named h.0 e h.2)

listing_some : (t : Tree) → listing t ≢ []
listing_some (float i) e = cc
listing_some (hyp k) e = cc
listing_some (node label ts) e = omega (arith, ap length e, length-append (listings ts) (Cite label ∷ []))

-- a proof has steps
pub steps_some : (lib : Citable) (p : Tables) (a : Assertion) (steps : List Step) (e : Expression) → Proves lib p a steps e → steps ≢ []
steps_some lib p a steps e h = subst (λ ss. ss ≢ []) h.1 (listing_some h.0)
